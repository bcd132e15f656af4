-- The two calls on the stored form: what each answers, and every lent cell afterwards.
use Rattle.std.specs.Prelude.{Bool, true, false, not, List, [], ◌∷◌, ℕ, ◌^◌, eqb, leb, ltb, length, get_or}
use Rattle.meaning.specs.Words.{or, at, zeros}
use Rattle.meaning.specs.Rows.{Tables}
use Rattle.meaning.specs.Answer.{Answer, Limits, done, refuse, refuse_row, accepted, lacks, left_by}
use Rattle.meaning.specs.Lent.{Counts, fit_then, counts_by, cells_by}
use Rattle.meaning.specs.Check.{shapes, sizes, too_many}
use Rattle.meaning.specs.Stored.{SA, ND, ED, Si, number, form, after, form_then, form_bytes, tables_from}

-- ---- tables 1 to 5 and the kinds' columns, in the order of the file, which has no field for the population

unfoldable pub filed : List ℕ → Tables → List (List (List ℕ))
filed S T =
    (S ∷ [])
    ∷ (T.nodes.time ∷ T.nodes.birth ∷ [])
    ∷ (T.edges.left ∷ T.edges.right ∷ T.edges.parent ∷ T.edges.child ∷ [])
    ∷ (T.sites.position ∷ T.sites.ancestral ∷ [])
    ∷ (T.muts.site ∷ T.muts.node ∷ T.muts.derived ∷ [])
    ∷ []

-- column j of kind k
abbrev column : List (List (List ℕ)) → ℕ → ℕ → List ℕ
column X k j = get_or (get_or X k []) j []

unfoldable pub samples_in : List (List (List ℕ)) → List ℕ
samples_in X = column X 0 0

-- M-106: "The stored form of 01 has no field for it: reading gives 0"
unfoldable pub tables_in : List (List (List ℕ)) → Tables
unfolding zeros
tables_in X = record {
  nodes = record { time = column X 1 0; birth = column X 1 1; population = zeros (length (column X 1 0)) };
  edges = record { left = column X 2 0; right = column X 2 1; parent = column X 2 2; child = column X 2 3 };
  sites = record { position = column X 3 0; ancestral = column X 3 1 };
  muts = record { site = column X 4 0; node = column X 4 1; derived = column X 4 2 };
}

-- what stands in the file s
unfoldable pub found : ℕ → Limits → List ℕ → List (List (List ℕ))
unfolding form tables_from
found w m s = tables_from (form w m).kinds s 6

-- where each kind after SA starts
abbrev pub nodes_from : Limits → List ℕ → ℕ
nodes_from m s = after (SA m) s 6

abbrev pub edges_from : Limits → List ℕ → ℕ
edges_from m s = after (ND m) s (nodes_from m s)

abbrev pub sites_from : ℕ → Limits → List ℕ → ℕ
sites_from w m s = after (ED w m) s (edges_from m s)

abbrev pub muts_from : ℕ → Limits → List ℕ → ℕ
muts_from w m s = after (Si m) s (sites_from w m s)

-- ---- reading

-- "for a read L"; "after a refusal all but number and row are 0"
pub record Reading : Type 0 where
  pub answer : Answer
  pub len : ℕ
  pub rows : Counts
  pub listed : ℕ
  pub cells : Tables
  pub samples : List ℕ

-- a number that stands only where all is done
unfoldable pub if_done : Answer → ℕ → ℕ
unfolding accepted
if_done a n = elim (accepted a) [ true ↦ n | false ↦ 0 ]

-- what an answer leaves: L, the tables T and the samples S at the front of the lent columns, or nothing
unfoldable pub handed : Answer → ℕ → Tables → List ℕ → Tables → List ℕ → Reading
unfolding if_done counts_by cells_by left_by
handed a L T S out list_out = record {
  answer = a;
  len = if_done a L;
  rows = counts_by a T;
  listed = if_done a (length S);
  cells = cells_by a T out;
  samples = left_by a S list_out;
}

-- "Last comes 13", with the samples as table 5
unfoldable pub room_answer : Limits → Tables → List ℕ → Tables → List ℕ → Answer
unfolding fit_then refuse lacks
room_answer m T S out list_out = fit_then m T out (refuse (lacks m.samples (list_out ∷ []) (length S)) 13 5 done)

-- the file s is read into lent columns, where a row field has w bytes: 31 to 34 as met, then 13
unfoldable pub reading : ℕ → Limits → List ℕ → Tables → List ℕ → Reading
unfolding handed form form_then room_answer found tables_in samples_in number
reading w m s out list_out =
    let T : Tables = tables_in (found w m s) in
    let S : List ℕ = samples_in (found w m s) in
    handed (form_then (form w m) s (room_answer m T S out list_out)) (number 4 s 2) T S out list_out

-- ---- writing

pub record Writing : Type 0 where
  pub answer : Answer
  pub bytes : ℕ
  pub cells : List ℕ

-- "names a row above 65,535" where a row field has 2 bytes: row i of one of the two columns doesn't fit w bytes
unfoldable pub too_wide : ℕ → List ℕ → List ℕ → ℕ → Bool
too_wide w a b i = or (leb (256 ^ w) (at a i)) (leb (256 ^ w) (at b i))

-- M-106: "writing refuses another value" than 0
unfoldable pub populated : List ℕ → ℕ → Bool
populated population i = not (eqb (at population i) 0)

unfoldable pub written : ℕ → Limits → ℕ → Tables → List ℕ → List ℕ
unfolding form form_bytes filed
written w m L T S = form_bytes (form w m) L (filed S T)

-- "Writing answers 1, 2, then 35 .., 36 .., then 13", with the bytes as table 7; M-106: "38 for that write, with the node row, after 36"
unfoldable pub write_answer : ℕ → Limits → ℕ → Tables → List ℕ → ℕ → Answer
unfolding shapes sizes refuse refuse_row too_wide populated written
write_answer w m L T S room =
    shapes T (sizes m T (too_many 5 m.samples S
    (refuse_row 35 (too_wide w T.edges.parent T.edges.child) (length T.edges.left)
    (refuse_row 36 (too_wide w T.muts.site T.muts.node) (length T.muts.site)
    (refuse_row 38 (populated T.nodes.population) (length T.nodes.time)
    (refuse (ltb room (length (written w m L T S))) 13 7 done))))))

-- what an answer leaves: the bytes at the front of the lent ones, or nothing
unfoldable pub laid : Answer → List ℕ → List ℕ → Writing
unfolding if_done left_by
laid a new out = record { answer = a; bytes = if_done a (length new); cells = left_by a new out }

-- L, tables and samples are written into lent bytes, where a row field has w bytes
unfoldable pub writing : ℕ → Limits → ℕ → Tables → List ℕ → List ℕ → Writing
unfolding laid write_answer written
writing w m L T S out = laid (write_answer w m L T S (length out)) (written w m L T S) out
