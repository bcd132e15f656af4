-- Laws for what the two calls return: an answer and the cells it leaves, as one outcome.
use mathlib.Core.Path.{◌≡◌, refl, sym, ap, ap₂, subst, ◌∙◌}
use mathlib.Core.Bool.{false}
use mathlib.Core.List.{List, ◌++◌}
use Prim.Native.Nat.{ℕ, ◌+◌, ◌*◌, ◌<◌, ◌≤◌}
use native.Mathlib.Omega.{arith}
use lib.ListN.{length, drop}
use Rattle.std.specs.Prelude.{replicate}
use Rattle.std.proofs.lemmas.List.{length-replicate}
use Rattle.std.specs.Prelude.{Option, Some, None, Result, Ok, Err}
use Rattle.meaning.specs.Words.{rows, zeros}
use Rattle.meaning.specs.Rows.{Tables}
use Rattle.meaning.specs.Answer.{Answer, done, stored_limits, accepted, refusal_of, put, left_by}
use Rattle.meaning.specs.Lent.{counts_by, cells_by}
use Rattle.meaning.specs.declared.Refusal.{Refusal}
use Rattle.meaning.specs.declared.Refusal.TheVariants.{Ragged, TooMany, Length, BirthRepeated, EdgeBroken, EdgeOrder, EdgeShared, SiteBroken, MutationBroken, MutationAbove, SampleUnknown, SampleRepeated, NoRoom, BatchRagged, BatchTooMany, BatchBirth, BatchEdge, BatchShared, BatchMutation, BatchAbove, MarkWrong, BytesEnd, BytesFollow, RowsOver, EdgeWide, MutationWide, Populated, NoSite, NoBirth}
use Rattle.laws.specs.Counting.{length_rows}
use Rattle.meaning.specs.Stored.{Kind, number, whole, form, form_then, kinds, SA, ND, ED, Si, size, total, rows_at, after, columns, tables_from}
use Rattle.meaning.specs.Files.{if_done, handed, room_answer, reading, tables_in, samples_in, found, nodes_from, edges_from, sites_from, muts_from}
use Rattle.stored.specs.RoundTrip.{found_within}
use Rattle.form.specs.Posts.{Stretched, Found, Scanned, Records}
use Rattle.stored.specs.Answers.{Counted, Roomed, Ample, Lacking, read_of}
use Rattle.form.specs.Marks.{whole_marked, whole_within}
use Rattle.form.specs.declared.Stretch.{Stretch}
use Rattle.form.specs.declared.Layout.{Layout}
use Rattle.stored.specs.declared.Rows.{Rows}
use Rattle.stored.specs.declared.Contents.{Contents}
use Rattle.stored.proofs.Rooming.{shortest, roomed, room_lacks, none_lacks, room_one, room_two, room_three, room_four}

-- a refusal is not done
pub refusal_not_done : (x : Refusal) → accepted (refusal_of x) ≡ false
unfolding accepted
refusal_not_done (Ragged t) = refl
refusal_not_done (TooMany t) = refl
refusal_not_done Length = refl
refusal_not_done (BirthRepeated r) = refl
refusal_not_done (EdgeBroken r) = refl
refusal_not_done (EdgeOrder r) = refl
refusal_not_done (EdgeShared r) = refl
refusal_not_done (SiteBroken r) = refl
refusal_not_done (MutationBroken r) = refl
refusal_not_done (MutationAbove r) = refl
refusal_not_done (SampleUnknown r) = refl
refusal_not_done (SampleRepeated r) = refl
refusal_not_done (NoRoom t) = refl
refusal_not_done (BatchRagged t) = refl
refusal_not_done (BatchTooMany t) = refl
refusal_not_done (BatchBirth r) = refl
refusal_not_done (BatchEdge r) = refl
refusal_not_done (BatchShared r) = refl
refusal_not_done (BatchMutation r) = refl
refusal_not_done (BatchAbove r) = refl
refusal_not_done (MarkWrong o) = refl
refusal_not_done (BytesEnd o) = refl
refusal_not_done (BytesFollow o) = refl
refusal_not_done (RowsOver o) = refl
refusal_not_done (EdgeWide r) = refl
refusal_not_done (MutationWide r) = refl
refusal_not_done (Populated r) = refl
refusal_not_done NoSite = refl
refusal_not_done NoBirth = refl

-- a refusal leaves everything as it was
handed_refused : (x : Refusal) (a : Answer) (L : ℕ) (T : Tables) (S : List ℕ) (out : Tables) (list_out : List ℕ) → a ≡ refusal_of x → read_of (Err x) out list_out ≡ handed a L T S out list_out
unfolding handed if_done counts_by cells_by left_by
handed_refused x a L T S out list_out e = rw e (rw (refusal_not_done x, if_done, counts_by, cells_by, left_by))

-- the outcome of reading, by its answer
by_answer : (s : List ℕ) (out : Tables) (list_out : List ℕ) (x : Refusal) → form_then (form 2 stored_limits) s (room_answer stored_limits (tables_in (found 2 stored_limits s)) (samples_in (found 2 stored_limits s)) out list_out) ≡ refusal_of x → read_of (Err x) out list_out ≡ reading 2 stored_limits s out list_out
unfolding reading
by_answer s out list_out x e = handed_refused x (form_then (form 2 stored_limits) s (room_answer stored_limits (tables_in (found 2 stored_limits s)) (samples_in (found 2 stored_limits s)) out list_out)) (number 4 s 2) (tables_in (found 2 stored_limits s)) (samples_in (found 2 stored_limits s)) out list_out e

-- a file that is refused
pub read_refused : (s : List ℕ) (r : Result Layout Refusal) (x : Refusal) (out : Tables) (list_out : List ℕ) → Scanned s r → r ≡ Err x → read_of (Err x) out list_out ≡ reading 2 stored_limits s out list_out
unfolding Scanned
read_refused s r x out list_out g e =
    let h : Scanned s (Err x) = subst (Scanned s) e g in
    by_answer s out list_out x (h (room_answer stored_limits (tables_in (found 2 stored_limits s)) (samples_in (found 2 stored_limits s)) out list_out))

-- a file whose rows are found
pub record Whole (s : List ℕ) (l : Layout) : Type 0 where
  pub rows : Found s l
  pub first : 6 ≤ length s
  pub passes : (rest : Answer) → form_then (form 2 stored_limits) s rest ≡ rest

pub file_whole : (s : List ℕ) (r : Result Layout Refusal) (l : Layout) → Scanned s r → r ≡ Ok l → Whole s l
unfolding Scanned
file_whole s r l g e = let h : Scanned s (Ok l) = subst (Scanned s) e g in record { rows = h.0; first = h.1; passes = h.2 }

-- ---- what was found

-- the records of a stretch stand in the file
stretch_records : (a b z most : ℕ) (s : List ℕ) (o : ℕ) (w : Stretch) → Stretched a b z most s o w → o ≤ length s → Records z s w.start w.count
stretch_records a b z most s o w f h = record {
  begins = omega (arith, f.starts);
  there = λ i l. let k : i < whole a b z s most o = omega (arith, f.counts) in omega (arith, f.starts, (whole_marked a b z s most o i k).1);
}

after_within : (k : Kind) (s : List ℕ) (o : ℕ) → o ≤ length s → after k s o ≤ length s
unfolding after rows_at
after_within k s o h = whole_within k.first k.second (size k) s k.most o h

-- how many rows were found
abbrev pub rows_of : Layout → Rows
rows_of l = record { nodes = l.nodes.count; edges = l.edges.count; sites = l.sites.count; mutations = l.mutations.count; samples = l.samples.count }

found_counted : (s : List ℕ) (l : Layout) → Found s l → Counted (rows_of l) (tables_in (found 2 stored_limits s)) (samples_in (found 2 stored_limits s))
unfolding tables_in samples_in found form kinds tables_from columns rows_at size total
found_counted s l f = record {
  nodes = length_rows _ _ ∙ sym f.nodes.counts;
  edges = length_rows _ _ ∙ sym f.edges.counts;
  sites = length_rows _ _ ∙ sym f.sites.counts;
  muts = length_rows _ _ ∙ sym f.mutations.counts;
  samples = length_rows _ _ ∙ sym f.samples.counts;
}

-- what the filling of each table asks
pub record Ready (s : List ℕ) (l : Layout) (out : Tables) (list_out : List ℕ) : Type 0 where
  pub nodes : Records 10 s l.nodes.start l.nodes.count × (l.nodes.count ≤ length out.nodes.time) × (l.nodes.count ≤ length out.nodes.birth)
  pub population : l.nodes.count ≤ length out.nodes.population
  pub edges : Records 14 s l.edges.start l.edges.count × (l.edges.count ≤ length out.edges.left) × (l.edges.count ≤ length out.edges.right) × (l.edges.count ≤ length out.edges.parent) × (l.edges.count ≤ length out.edges.child)
  pub sites : Records 7 s l.sites.start l.sites.count × (l.sites.count ≤ length out.sites.position) × (l.sites.count ≤ length out.sites.ancestral)
  pub muts : Records 7 s l.mutations.start l.mutations.count × (l.mutations.count ≤ length out.muts.site) × (l.mutations.count ≤ length out.muts.node) × (l.mutations.count ≤ length out.muts.derived)
  pub samples : Records 6 s l.samples.start l.samples.count × (l.samples.count ≤ length list_out)

-- a column whose first cells are filled with 0
pub put_zeros : (n : ℕ) (old : List ℕ) {new : List ℕ} → new ≡ replicate n 0 → new ++ drop n old ≡ put (zeros n) old
unfolding put zeros
put_zeros n old e = ap₂ (λ (l : List ℕ) (k : ℕ). l ++ drop k old) e (sym (length-replicate n 0))

-- what the filling of each table leaves
pub record Took (s : List ℕ) (l : Layout) (out : Tables) (list_out : List ℕ) (T : Tables) (S : List ℕ) : Type 0 where
  pub time : T.nodes.time ≡ put (rows (λ i. number 4 s (l.nodes.start + 2 + i * 10)) l.nodes.count) out.nodes.time
  pub birth : T.nodes.birth ≡ put (rows (λ i. number 4 s (l.nodes.start + 2 + 4 + i * 10)) l.nodes.count) out.nodes.birth
  pub population : T.nodes.population ≡ put (zeros l.nodes.count) out.nodes.population
  pub left : T.edges.left ≡ put (rows (λ i. number 4 s (l.edges.start + 2 + i * 14)) l.edges.count) out.edges.left
  pub right : T.edges.right ≡ put (rows (λ i. number 4 s (l.edges.start + 2 + 4 + i * 14)) l.edges.count) out.edges.right
  pub parent : T.edges.parent ≡ put (rows (λ i. number 2 s (l.edges.start + 2 + 4 + 4 + i * 14)) l.edges.count) out.edges.parent
  pub child : T.edges.child ≡ put (rows (λ i. number 2 s (l.edges.start + 2 + 4 + 4 + 2 + i * 14)) l.edges.count) out.edges.child
  pub position : T.sites.position ≡ put (rows (λ i. number 4 s (l.sites.start + 2 + i * 7)) l.sites.count) out.sites.position
  pub ancestral : T.sites.ancestral ≡ put (rows (λ i. number 1 s (l.sites.start + 2 + 4 + i * 7)) l.sites.count) out.sites.ancestral
  pub site : T.muts.site ≡ put (rows (λ i. number 2 s (l.mutations.start + 2 + i * 7)) l.mutations.count) out.muts.site
  pub node : T.muts.node ≡ put (rows (λ i. number 2 s (l.mutations.start + 2 + 2 + i * 7)) l.mutations.count) out.muts.node
  pub derived : T.muts.derived ≡ put (rows (λ i. number 1 s (l.mutations.start + 2 + 2 + 2 + i * 7)) l.mutations.count) out.muts.derived
  pub samples : S ≡ put (rows (λ i. number 4 s (l.samples.start + 2 + i * 6)) l.samples.count) list_out

-- the same column, said of the offset and of the count that the definitions give
moved : (F : ℕ → ℕ → ℕ) {a b z most : ℕ} {s : List ℕ} {o : ℕ} {w : Stretch} → Stretched a b z most s o w → (old : List ℕ) → put (rows (F w.start) w.count) old ≡ put (rows (F o) (whole a b z s most o)) old
moved F f old = ap₂ (λ (j n : ℕ). put (rows (F j) n) old) f.starts f.counts

-- what was taken is what the definitions hand over
handed_over : (s : List ℕ) (l : Layout) (out : Tables) (list_out : List ℕ) (T : Tables) (S : List ℕ) (L : ℕ) → Found s l → Took s l out list_out T S → L ≡ number 4 s 2 → read_of (Ok (record { len = L; rows = (rows_of l) })) T S ≡ handed done (number 4 s 2) (tables_in (found 2 stored_limits s)) (samples_in (found 2 stored_limits s)) out list_out
unfolding handed if_done counts_by cells_by left_by tables_in samples_in found form kinds tables_from columns rows_at size total
handed_over s l out list_out T S L f t q =
    let c : Counted (rows_of l) (tables_in (found 2 stored_limits s)) (samples_in (found 2 stored_limits s)) = found_counted s l f in
    let time : _ = t.time ∙ moved (λ j i. number 4 s (j + 2 + i * 10)) f.nodes out.nodes.time in
    let birth : _ = t.birth ∙ moved (λ j i. number 4 s (j + 2 + 4 + i * 10)) f.nodes out.nodes.birth in
    let population : _ = t.population ∙ ap (λ n. put (zeros n) out.nodes.population) (sym c.nodes) in
    let left : _ = t.left ∙ moved (λ j i. number 4 s (j + 2 + i * 14)) f.edges out.edges.left in
    let right : _ = t.right ∙ moved (λ j i. number 4 s (j + 2 + 4 + i * 14)) f.edges out.edges.right in
    let parent : _ = t.parent ∙ moved (λ j i. number 2 s (j + 2 + 4 + 4 + i * 14)) f.edges out.edges.parent in
    let child : _ = t.child ∙ moved (λ j i. number 2 s (j + 2 + 4 + 4 + 2 + i * 14)) f.edges out.edges.child in
    let position : _ = t.position ∙ moved (λ j i. number 4 s (j + 2 + i * 7)) f.sites out.sites.position in
    let ancestral : _ = t.ancestral ∙ moved (λ j i. number 1 s (j + 2 + 4 + i * 7)) f.sites out.sites.ancestral in
    let site : _ = t.site ∙ moved (λ j i. number 2 s (j + 2 + i * 7)) f.mutations out.muts.site in
    let node : _ = t.node ∙ moved (λ j i. number 2 s (j + 2 + 2 + i * 7)) f.mutations out.muts.node in
    let derived : _ = t.derived ∙ moved (λ j i. number 1 s (j + 2 + 2 + 2 + i * 7)) f.mutations out.muts.derived in
    let samples : _ = t.samples ∙ moved (λ j i. number 4 s (j + 2 + i * 6)) f.samples list_out in
    λ i. record {
      answer = done;
      len = q i;
      rows = record { nodes = sym c.nodes i; edges = sym c.edges i; sites = sym c.sites i; mutations = sym c.muts i };
      listed = sym c.samples i;
      cells = record {
        nodes = record { time = time i; birth = birth i; population = population i };
        edges = record { left = left i; right = right i; parent = parent i; child = child i };
        sites = record { position = position i; ancestral = ancestral i };
        muts = record { site = site i; node = node i; derived = derived i };
      };
      samples = samples i;
    }

module _ (s : List ℕ) (l : Layout) (f : Whole s l) (n r : Rows) (e : n ≡ rows_of l) (out : Tables) (list_out : List ℕ) (q : Roomed r out list_out) (x : Option ℕ) (g : Lacking n r x) where
  ample : x ≡ None → Ample (rows_of l) r
  unfolding Lacking
  ample h = subst (λ m. Ample m r) e (subst (Lacking n r) h g)

  pub ready : x ≡ None → Ready s l out list_out
  ready h =
      let a : Ample (rows_of l) r = ample h in
      let o1 : nodes_from stored_limits s ≤ length s = after_within (SA stored_limits) s 6 f.first in
      let o2 : edges_from stored_limits s ≤ length s = after_within (ND stored_limits) s (nodes_from stored_limits s) o1 in
      let o3 : sites_from 2 stored_limits s ≤ length s = after_within (ED 2 stored_limits) s (edges_from stored_limits s) o2 in
      let o4 : muts_from 2 stored_limits s ≤ length s = after_within (Si stored_limits) s (sites_from 2 stored_limits s) o3 in
      let nd : _ = room_three l.nodes.count out.nodes.time out.nodes.birth out.nodes.population (omega (arith, a.nodes, q.nodes)) in
      let ed : _ = room_four l.edges.count out.edges.left out.edges.right out.edges.parent out.edges.child (omega (arith, a.edges, q.edges)) in
      let si : _ = room_two l.sites.count out.sites.position out.sites.ancestral (omega (arith, a.sites, q.sites)) in
      let mu : _ = room_three l.mutations.count out.muts.site out.muts.node out.muts.derived (omega (arith, a.muts, q.muts)) in
      record {
        nodes = (stretch_records 78 68 10 stored_limits.nodes s (nodes_from stored_limits s) l.nodes f.rows.nodes o1, nd.0, nd.1);
        population = nd.2;
        edges = (stretch_records 69 68 14 stored_limits.edges s (edges_from stored_limits s) l.edges f.rows.edges o2, ed.0, ed.1, ed.2, ed.3);
        sites = (stretch_records 83 73 7 stored_limits.sites s (sites_from 2 stored_limits s) l.sites f.rows.sites o3, si.0, si.1);
        muts = (stretch_records 77 85 7 stored_limits.mutations s (muts_from 2 stored_limits s) l.mutations f.rows.mutations o4, mu.0, mu.1, mu.2);
        samples = (stretch_records 83 65 6 stored_limits.samples s 6 l.samples f.rows.samples f.first, room_one l.samples.count list_out (omega (arith, a.samples, q.samples)));
      }

  -- a file that doesn't fit
  pub read_lacks : (t : ℕ) → x ≡ Some t → read_of (Err (NoRoom t)) out list_out ≡ reading 2 stored_limits s out list_out
  unfolding Lacking
  read_lacks t h =
      let T : Tables = tables_in (found 2 stored_limits s) in
      let S : List ℕ = samples_in (found 2 stored_limits s) in
      let c : Counted n T S = subst (λ m. Counted m T S) (sym e) (found_counted s l f.rows) in
      by_answer s out list_out (NoRoom t) (f.passes (room_answer stored_limits T S out list_out) ∙ room_lacks n r T out S list_out c (found_within 2 stored_limits s) q t (subst (Lacking n r) h g))

  -- a file that is read
  pub read_done : x ≡ None → (T : Tables) (S : List ℕ) (L : ℕ) → Took s l out list_out T S → L ≡ number 4 s 2 → read_of (Ok (record { len = L; rows = n })) T S ≡ reading 2 stored_limits s out list_out
  unfolding reading
  read_done h T S L t k =
      let T' : Tables = tables_in (found 2 stored_limits s) in
      let S' : List ℕ = samples_in (found 2 stored_limits s) in
      let d : room_answer stored_limits T' S' out list_out ≡ done = none_lacks (rows_of l) r T' out S' list_out (found_counted s l f.rows) (found_within 2 stored_limits s) q (ample h) in
      ap (λ m. read_of (Ok (record { len = L; rows = m })) T S) e
      ∙ handed_over s l out list_out T S L f.rows t k
      ∙ ap (λ a. handed a (number 4 s 2) T' S' out list_out) (sym (f.passes (room_answer stored_limits T' S' out list_out) ∙ d))

-- ---- as the code has it

module _ (s : List ℕ) (out : Tables) (list_out : List ℕ) {k : Result Layout Refusal} (g : Scanned s k) where
  -- a refusal of the first pass, handed on
  pub read_stops : {r : Result Contents Refusal} (x : Refusal) → k ≡ Err x → r ≡ Err x → read_of r out list_out ≡ reading 2 stored_limits s out list_out
  read_stops x e f = ap (λ (a : Result Contents Refusal). read_of a out list_out) f ∙ read_refused s k x out list_out g e

  module _ (l : Layout) (v : k ≡ Ok l) {n r : Rows} (e : n ≡ rows_of l) (q : r ≡ shortest out list_out) {x : Option ℕ} (h : Lacking n r x) where
    pub read_ready : x ≡ None → Ready s l out list_out
    read_ready = ready s l (file_whole s k l g v) n r e out list_out (roomed r out list_out q) x h

    pub read_short : (t : ℕ) → x ≡ Some t → read_of (Err (NoRoom t)) out list_out ≡ reading 2 stored_limits s out list_out
    read_short = read_lacks s l (file_whole s k l g v) n r e out list_out (roomed r out list_out q) x h

    pub read_whole : x ≡ None → (T : Tables) (S : List ℕ) (L : ℕ) → Took s l out list_out T S → L ≡ number 4 s 2 → read_of (Ok (record { len = L; rows = n })) T S ≡ reading 2 stored_limits s out list_out
    read_whole = read_done s l (file_whole s k l g v) n r e out list_out (roomed r out list_out q) x h
