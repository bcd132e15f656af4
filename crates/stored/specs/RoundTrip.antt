-- Nothing is lost on the way: what was written reads back as the same tables, and an accepted file is written back byte for byte.
use Rattle.std.specs.Prelude.{◌≡◌, refl, true, false, List, [], ◌∷◌, ℕ, ◌+◌, ◌*◌, ◌^◌, ◌<◌, ◌≤◌, leb, ltb, length}
use Rattle.std.proofs.Common.{sym, ap, ap₂, ◌∙◌, arith, leb-false}
use Rattle.std.proofs.lemmas.Bool.{lt-leb}
use Rattle.meaning.specs.Words.{at, rows, zeros}
use Rattle.meaning.specs.Rows.{Tables}
use Rattle.meaning.specs.Answer.{Answer, Limits, done, refuse, accepted, ragged}
use Rattle.laws.specs.Bools.{or_no}
use Rattle.laws.specs.Counting.{length_rows, get_rows}
use Rattle.meaning.specs.Stored.{Kind, number, kinds, form, SA, ND, ED, Si, MU, size, rows_at, form_then, form_bytes, columns, tables_from, height}
use Rattle.meaning.specs.Files.{filed, samples_in, tables_in, found, nodes_from, edges_from, sites_from, muts_from, handed, room_answer, reading, too_wide, written, write_answer, laid, writing}
use Rattle.form.specs.Refusals.{Even, even_head, even_shape, shape_even}
use Rattle.form.specs.Numbers.{Bytes, number_below}
use Rattle.form.specs.Marks.{whole_le}
use Rattle.form.specs.Records.{Fit}
use Rattle.stored.specs.Settled.{zeros_long, zeros_settled, settled_zeros}
use Rattle.stored.specs.Kinds.{proper, Fitting, form_accepted, form_len, form_tables, form_read}
use Rattle.stored.specs.Admitted.{Shaped, Within, Narrow, write_passes, write_accepted}

-- every kind has a field and a mark of its own
kinds_proper : (w : ℕ) (m : Limits) → proper (kinds w m) ≡ true
unfolding proper kinds
kinds_proper w m = refl

-- ---- what was written reads back

-- every cell fits w bytes
abbrev pub Below : ℕ → List ℕ → Type 0
Below w c = (i : ℕ) → at c i < 256 ^ w

-- u32 and bytes, as the columns are lent; rows that are named are writing's to test
pub record Cells (T : Tables) (S : List ℕ) : Type 0 where
  pub listed : Below 4 S
  pub time : Below 4 T.nodes.time
  pub birth : Below 4 T.nodes.birth
  pub left : Below 4 T.edges.left
  pub right : Below 4 T.edges.right
  pub position : Below 4 T.sites.position
  pub ancestral : Below 1 T.sites.ancestral
  pub derived : Below 1 T.muts.derived

narrow_both : (w : ℕ) (a b : List ℕ) (i : ℕ) → too_wide w a b i ≡ false → (at a i < 256 ^ w) × (at b i < 256 ^ w)
unfolding too_wide
narrow_both w a b i h =
    let p : _ = or_no (leb (256 ^ w) (at a i)) (leb (256 ^ w) (at b i)) h in
    (leb-false _ _ p.0, leb-false _ _ p.1)

-- tables that writing accepts fit the kinds
filed_fits : (w : ℕ) (m : Limits) (T : Tables) (S : List ℕ) → Shaped T → Within m T S → Narrow w T → Cells T S → Fitting (kinds w m) (filed S T)
unfolding kinds filed height
filed_fits w m T S s l n c =
    let nd : _ = even_head (shape_even T.nodes.time (T.nodes.birth ∷ T.nodes.population ∷ []) s.nodes) in
    let ed : _ = even_head (shape_even T.edges.left (T.edges.right ∷ T.edges.parent ∷ T.edges.child ∷ []) s.edges) in
    let ed2 : _ = even_head ed.1 in
    let ed3 : _ = even_head ed2.1 in
    let si : _ = even_head (shape_even T.sites.position (T.sites.ancestral ∷ []) s.sites) in
    let mu : _ = even_head (shape_even T.muts.site (T.muts.node ∷ T.muts.derived ∷ []) s.muts) in
    let mu2 : _ = even_head mu.1 in
    Fitting.cons (Fit.cons refl (λ i h. c.listed i) Fit.nil) l.samples
    (Fitting.cons (Fit.cons refl (λ i h. c.time i) (Fit.cons nd.0 (λ i h. c.birth i) Fit.nil)) l.nodes
    (Fitting.cons (Fit.cons refl (λ i h. c.left i) (Fit.cons ed.0 (λ i h. c.right i) (Fit.cons ed2.0 (λ i h. (narrow_both w T.edges.parent T.edges.child i (n.edges i h)).0) (Fit.cons ed3.0 (λ i h. (narrow_both w T.edges.parent T.edges.child i (n.edges i h)).1) Fit.nil)))) l.edges
    (Fitting.cons (Fit.cons refl (λ i h. c.position i) (Fit.cons si.0 (λ i h. c.ancestral i) Fit.nil)) l.sites
    (Fitting.cons (Fit.cons refl (λ i h. (narrow_both w T.muts.site T.muts.node i (n.muts i h)).0) (Fit.cons mu.0 (λ i h. (narrow_both w T.muts.site T.muts.node i (n.muts i h)).1) (Fit.cons mu2.0 (λ i h. c.derived i) Fit.nil))) l.muts
    Fitting.nil))))

-- the populations that writing accepts are those that are read back
settled : (w : ℕ) (T : Tables) → Shaped T → Narrow w T → zeros (length T.nodes.time) ≡ T.nodes.population
settled w T s n =
    let e : length T.nodes.population ≡ length T.nodes.time = (even_head (even_head (shape_even T.nodes.time (T.nodes.birth ∷ T.nodes.population ∷ []) s.nodes)).1).0 in
    ap zeros (sym e) ∙ settled_zeros T.nodes.population (λ i h. n.nodes i (omega arith))

-- tables with such a column for their populations
abbrev stocked : Tables → List ℕ → Tables
stocked T p = record { nodes = record { time = T.nodes.time; birth = T.nodes.birth; population = p }; edges = T.edges; sites = T.sites; muts = T.muts }

-- what was written is read as the same L, tables and samples, the populations with them, and refused for want of room only
pub read_written : (w : ℕ) (m : Limits) (L : ℕ) (T : Tables) (S : List ℕ) (room : ℕ) → L < 256 ^ 4 → Cells T S → accepted (write_answer w m L T S room) ≡ true → (out : Tables) (list_out : List ℕ) → reading w m (written w m L T S) out list_out ≡ handed (room_answer m T S out list_out) L T S out list_out
unfolding reading written found tables_in samples_in filed form
read_written w m L T S room l c h out list_out =
    let p : _ = write_accepted w m L T S room h in
    let g : Fitting (form w m).kinds (filed S T) = filed_fits w m T S p.0 p.1 p.2 c in
    let e : tables_from (form w m).kinds (form_bytes (form w m) L (filed S T)) 6 ≡ filed S T = form_tables (form w m) L (filed S T) (kinds_proper w m) l g in
    let q : number 4 (form_bytes (form w m) L (filed S T)) 2 ≡ L = form_len (form w m) L (filed S T) (kinds_proper w m) l g in
    ap (λ X. handed (form_then (form w m) (form_bytes (form w m) L (filed S T)) (room_answer m (tables_in X) (samples_in X) out list_out)) (number 4 (form_bytes (form w m) L (filed S T)) 2) (tables_in X) (samples_in X) out list_out) e
    ∙ ap (λ r. handed (form_then (form w m) (form_bytes (form w m) L (filed S T)) (room_answer m (stocked T r) S out list_out)) (number 4 (form_bytes (form w m) L (filed S T)) 2) (stocked T r) S out list_out) (settled w T p.0 p.2)
    ∙ ap₂ (λ (a : Answer) (b : ℕ). handed a b T S out list_out) (form_accepted (form w m) L (filed S T) (kinds_proper w m) l g (room_answer m T S out list_out)) q

-- ---- what was read is written back

columns_even : (ws s : List ℕ) (o z n : ℕ) → Even n (columns ws s o z n)
unfolding columns
columns_even [] s o z n = Even.nil
columns_even (w ∷ ws) s o z n = Even.cons (length_rows (λ i. number w s (o + i * z)) n) (columns_even ws s (o + w) z n)

columns_shape : (w : ℕ) (ws s : List ℕ) (o z n : ℕ) → ragged (columns (w ∷ ws) s o z n) ≡ false
unfolding columns
columns_shape w ws s o z n =
    let c : List ℕ = rows (λ i. number w s (o + i * z)) n in
    even_shape c (columns ws s (o + w) z n) (rw (length_rows (λ i. number w s (o + i * z)) n) (columns_even ws s (o + w) z n))

kind_shape : (k : Kind) (w : ℕ) (ws s : List ℕ) (o : ℕ) → ragged (columns (w ∷ ws) s (o + 2) (size k) (rows_at k s o)) ≡ false
kind_shape k w ws s o = columns_shape w ws s (o + 2) (size k) (rows_at k s o)

-- nodes that are read have as many populations
nodes_shape : (k : Kind) (s : List ℕ) (o : ℕ) → ragged (rows (λ i. number 4 s (o + 2 + i * size k)) (rows_at k s o) ∷ rows (λ i. number 4 s (o + 2 + 4 + i * size k)) (rows_at k s o) ∷ zeros (length (rows (λ i. number 4 s (o + 2 + i * size k)) (rows_at k s o))) ∷ []) ≡ false
nodes_shape k s o =
    let a : List ℕ = rows (λ i. number 4 s (o + 2 + i * size k)) (rows_at k s o) in
    let b : List ℕ = rows (λ i. number 4 s (o + 2 + 4 + i * size k)) (rows_at k s o) in
    let e : length b ≡ length a = length_rows (λ i. number 4 s (o + 2 + 4 + i * size k)) (rows_at k s o) ∙ sym (length_rows (λ i. number 4 s (o + 2 + i * size k)) (rows_at k s o)) in
    even_shape a (b ∷ zeros (length a) ∷ []) (Even.cons e (Even.cons (zeros_long (length a)) Even.nil))

-- the rows of a kind are within its limit
rows_within : (k : Kind) (f : ℕ → ℕ) (s : List ℕ) (o : ℕ) → length (rows f (rows_at k s o)) ≤ k.most
unfolding rows_at
rows_within k f s o = omega (arith, length_rows f (rows_at k s o), whole_le k.first k.second (size k) s k.most o)

-- a number that was read from w bytes fits them
read_narrow : (w : ℕ) (s : List ℕ) (f g : ℕ → ℕ) (n i : ℕ) → Bytes s → i < n → too_wide w (rows (λ j. number w s (f j)) n) (rows (λ j. number w s (g j)) n) i ≡ false
unfolding too_wide
read_narrow w s f g n i b h = rw (get_rows (λ j. number w s (f j)) 0 n i h, get_rows (λ j. number w s (g j)) 0 n i h, lt-leb (256 ^ w) (number w s (f i)) (number_below w s (f i) b), lt-leb (256 ^ w) (number w s (g i)) (number_below w s (g i) b))

module _ (w : ℕ) (m : Limits) (s : List ℕ) where
  found_shaped : Shaped (tables_in (found w m s))
  unfolding tables_in found form kinds tables_from columns
  found_shaped = record {
    nodes = nodes_shape (ND m) s (nodes_from m s);
    edges = kind_shape (ED w m) 4 (4 ∷ w ∷ w ∷ []) s (edges_from m s);
    sites = kind_shape (Si m) 4 (1 ∷ []) s (sites_from w m s);
    muts = kind_shape (MU w m) w (w ∷ 1 ∷ []) s (muts_from w m s);
  }

  pub found_within : Within m (tables_in (found w m s)) (samples_in (found w m s))
  unfolding tables_in samples_in found form kinds tables_from columns
  found_within = record {
    nodes = rows_within (ND m) _ s (nodes_from m s);
    edges = rows_within (ED w m) _ s (edges_from m s);
    sites = rows_within (Si m) _ s (sites_from w m s);
    muts = rows_within (MU w m) _ s (muts_from w m s);
    samples = rows_within (SA m) _ s 6;
  }

  found_narrow : Bytes s → Narrow w (tables_in (found w m s))
  unfolding tables_in found form kinds tables_from columns
  found_narrow b = record {
    edges = λ i h. read_narrow w s _ _ _ i b (rw length_rows at h);
    muts = λ i h. read_narrow w s _ _ _ i b (rw length_rows at h);
    nodes = λ i h. zeros_settled _ i h;
  }

  found_back : (rest : Answer) → Bytes s → accepted (form_then (form w m) s rest) ≡ true → written w m (number 4 s 2) (tables_in (found w m s)) (samples_in (found w m s)) ≡ s
  unfolding written tables_in samples_in found filed form kinds tables_from columns
  found_back rest b h = form_read (form w m) s rest (kinds_proper w m) b h

-- an accepted file is written back byte for byte, and refused for want of room only
pub written_read : (w : ℕ) (m : Limits) (s : List ℕ) (out : Tables) (list_out : List ℕ) → Bytes s → accepted (reading w m s out list_out).answer ≡ true → (lent : List ℕ) → writing w m (number 4 s 2) (tables_in (found w m s)) (samples_in (found w m s)) lent ≡ laid (refuse (ltb (length lent) (length s)) 13 7 done) s lent
unfolding reading handed writing
written_read w m s out list_out b h lent =
    let T : Tables = tables_in (found w m s) in
    let S : List ℕ = samples_in (found w m s) in
    ap (λ a. laid a (written w m (number 4 s 2) T S) lent) (write_passes w m (number 4 s 2) T S (length lent) (found_shaped w m s) (found_within w m s) (found_narrow w m s b))
    ∙ ap (λ (t : List ℕ). laid (refuse (ltb (length lent) (length t)) 13 7 done) t lent) (found_back w m s (room_answer m T S out list_out) b h)
