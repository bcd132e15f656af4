-- The listing is the cleaning: what the program prints for a file that is read and cleaned.
use Rattle.std.specs.Prelude.{◌≡◌, refl, ℕ, length, take, drop}
use Rattle.std.proofs.Math.Path.{sym, ap, ap₂}
use Rattle.std.proofs.Common.{◌∙◌}
use mathlib.Core.List.{List, ◌++◌}
use Rattle.std.proofs.lemmas.List.{length-map}
use Rattle.meaning.specs.Words.{zeros}
use Rattle.meaning.specs.Rows.{Tables, record_of, tables_of}
use Rattle.meaning.specs.Forest.{stands}
use Rattle.meaning.specs.Answer.{Answer, done, limits, stored_limits, accepted, put, left_by}
use Rattle.meaning.specs.Lent.{Counts, rows_in, put_all, counts_by, cells_by}
use Rattle.meaning.specs.Clean.{Outcome, row_in, kept, clean, clean_end, cleaned, node_map, clean_answer, cleaning}
use Rattle.meaning.specs.Stored.{number, form, form_then}
use Rattle.meaning.specs.Files.{if_done, handed, found, tables_in, samples_in, reading, room_answer}
use Rattle.meaning.specs.Printed.{listed}
use Rattle.meaning.specs.Shown.{blank, front, printed_by, outcome_shown, clean_shown, reading_shown, shown}
use Rattle.accepted.specs.Refusals.{Accepted, of_done}
use Rattle.accepted.specs.Checked.{Shaped}
use Rattle.accepted.specs.Calls.{clean_tells}
use Rattle.accepted.specs.Endings.{clean_done}
use Rattle.results.specs.Tabled.{tables_even}
use Rattle.results.specs.NodeTable.{take_front}

-- the front of a column is what was put there
take_put : (n : ℕ) (new old : List ℕ) → n ≡ length new → take n (put new old) ≡ new
unfolding put
take_put n new old e = ap (λ (k : ℕ). take k (new ++ drop (length new) old)) e ∙ take_front new (drop (length new) old)

front_put : (T out : Tables) → Shaped T → front (rows_in T) (put_all T out) ≡ T
unfolding front put_all
front_put T out s = λ i. record {
  nodes = record {
    time = take_put (length T.nodes.time) T.nodes.time out.nodes.time refl i;
    birth = take_put (length T.nodes.time) T.nodes.birth out.nodes.birth (sym s.births) i;
    population = take_put (length T.nodes.time) T.nodes.population out.nodes.population (sym s.populations) i;
  };
  edges = record {
    left = take_put (length T.edges.left) T.edges.left out.edges.left refl i;
    right = take_put (length T.edges.left) T.edges.right out.edges.right (sym s.rights) i;
    parent = take_put (length T.edges.left) T.edges.parent out.edges.parent (sym s.parents) i;
    child = take_put (length T.edges.left) T.edges.child out.edges.child (sym s.children) i;
  };
  sites = record {
    position = take_put (length T.sites.position) T.sites.position out.sites.position refl i;
    ancestral = take_put (length T.sites.position) T.sites.ancestral out.sites.ancestral (sym s.states) i;
  };
  muts = record {
    site = take_put (length T.muts.site) T.muts.site out.muts.site refl i;
    node = take_put (length T.muts.site) T.muts.node out.muts.node (sym s.mutated) i;
    derived = take_put (length T.muts.site) T.muts.derived out.muts.derived (sym s.derived) i;
  };
}

cleaned_even : (L : ℕ) (T : Tables) (S : List ℕ) → Shaped (cleaned stands L T S)
unfolding cleaned
cleaned_even L T S = tables_even (clean stands S (record_of L T))

-- what is lent for the cleaning's tables and for its map
module _ (L : ℕ) (T : Tables) (S : List ℕ) (out : Tables) (out_map : List ℕ) where
  map_long : length T.nodes.birth ≡ length (node_map stands L T S)
  unfolding node_map
  map_long = sym (length-map T.nodes.birth (row_in (kept stands (record_of L T) S)))

  outcome_listed : outcome_shown L (length T.nodes.birth) (clean_end done (cleaned stands L T S) (node_map stands L T S) out out_map) ≡ listed L (cleaned stands L T S) (node_map stands L T S)
  unfolding outcome_shown printed_by accepted
  outcome_listed =
      ap (outcome_shown L (length T.nodes.birth)) (clean_done (cleaned stands L T S) (node_map stands L T S) out out_map)
      ∙ ap₂ (λ (X : Tables) (r : List ℕ). listed L X r) (front_put (cleaned stands L T S) out (cleaned_even L T S)) (take_put (length T.nodes.birth) (node_map stands L T S) out_map map_long)

-- an accepted cleaning prints the cleaned tables and the node map
pub clean_shown-is : (L : ℕ) (T : Tables) (S : List ℕ) → clean_answer stands limits L T S blank (zeros stored_limits.nodes) 4 ≡ done → clean_shown L T S ≡ listed L (cleaned stands L T S) (node_map stands L T S)
unfolding clean_shown cleaning
clean_shown-is L T S e =
    ap (λ (a : Answer). outcome_shown L (length T.nodes.birth) (clean_end a (cleaned stands L T S) (node_map stands L T S) blank (zeros stored_limits.nodes))) e
    ∙ outcome_listed L T S blank (zeros stored_limits.nodes)

-- what an accepted reading hands over
handed_over : (a : Answer) (L : ℕ) (T : Tables) (S : List ℕ) (out : Tables) (list_out : List ℕ) → Accepted a → handed a L T S out list_out ≡ record { answer = a; len = L; rows = rows_in T; listed = length S; cells = put_all T out; samples = put S list_out }
unfolding handed if_done counts_by cells_by left_by put_all
handed_over a L T S out list_out h = rw (h, if_done, counts_by, cells_by, left_by)

printed_done : (a : Answer) (new : List ℕ) → Accepted a → printed_by a new ≡ new
unfolding printed_by
printed_done a new h = rw (h, printed_by)

-- it prints what its tables print
read_shown : (a : Answer) (L : ℕ) (T : Tables) (S : List ℕ) (out : Tables) (list_out : List ℕ) → Accepted a → Shaped T → reading_shown (handed a L T S out list_out) ≡ clean_shown L T S
unfolding reading_shown
read_shown a L T S out list_out h s =
    ap reading_shown (handed_over a L T S out list_out h)
    ∙ printed_done a (clean_shown L (front (rows_in T) (put_all T out)) (take (length S) (put S list_out))) h
    ∙ ap₂ (λ (X : Tables) (l : List ℕ). clean_shown L X l) (front_put T out s) (take_put (length S) S list_out refl)

-- the file s is read, and its tables are cleaned
pub file_shown : (s : List ℕ) → Accepted (reading 2 stored_limits s blank (zeros stored_limits.samples)).answer →
    clean_answer stands limits (number 4 s 2) (tables_in (found 2 stored_limits s)) (samples_in (found 2 stored_limits s)) blank (zeros stored_limits.nodes) 4 ≡ done →
    shown s ≡ listed (number 4 s 2) (cleaned stands (number 4 s 2) (tables_in (found 2 stored_limits s)) (samples_in (found 2 stored_limits s))) (node_map stands (number 4 s 2) (tables_in (found 2 stored_limits s)) (samples_in (found 2 stored_limits s)))
unfolding shown reading
file_shown s h e =
    let L : ℕ = number 4 s 2 in
    let T : Tables = tables_in (found 2 stored_limits s) in
    let S : List ℕ = samples_in (found 2 stored_limits s) in
    read_shown (form_then (form 2 stored_limits) s (room_answer stored_limits T S blank (zeros stored_limits.samples))) L T S blank (zeros stored_limits.samples) h (clean_tells stands limits L T S blank (zeros stored_limits.nodes) 4 (of_done _ e)).sound.shape
    ∙ clean_shown-is L T S e
