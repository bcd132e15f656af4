-- The rows that stand somewhere and are no samples are the output parents: a fork has a standing row below each branch.
use Rattle.std.specs.Prelude.{◌≡◌, refl, Bool, true, false, List, [], ◌∷◌, ◌⊎◌, ℕ, zero, suc, ◌<◌, ◌≤◌}
use Rattle.std.proofs.Common.{sym, ◌∙◌, inl, inr, ⊎_elim, arith}
use Rattle.std.proofs.Math.Path.{ap}
use Rattle.std.proofs.Math.Option.{Option, none, some}
use Rattle.std.proofs.Math.ListN.{length}
use Rattle.meaning.specs.Words.{at, mem, rows}
use Rattle.meaning.specs.Rows.{EdgeColumns, Tables, Edge, edges_of}
use Rattle.meaning.specs.Forest.{Par, Ages, parent_in, reached, stands, up, low, drawn}
use Rattle.meaning.specs.Answer.{Limits}
use Rattle.laws.specs.Bools.{clash, truth, eq?, not_true}
use Rattle.laws.specs.Members.{at_mem}
use Rattle.laws.specs.Counting.{length_rows, get_rows}
use Rattle.laws.specs.Facts.{In, Distinct}
use Rattle.bridge.specs.Parents.{parent_row}
use Rattle.forest.specs.Lines.{Above, here, step, Ranked, trans, rank_le, antisym}
use Rattle.forest.specs.Contract.{Reached, Stands, sample, two, Up, Low, Contract, near_in}
use Rattle.forest.specs.TreeLaws.{Aged, Nodes, stands_of, drawn_contract}
use Rattle.forest.specs.Lowest.{Rule, stands_rule, low_of, of_low}
use Rattle.forest.specs.Code.{up_here, up_on}
use Rattle.accepted.specs.Columns.{distinct_of}
use Rattle.accepted.specs.Records.{Row, row_of}
use Rattle.history.specs.Encode.{parent_of}
use Rattle.byrows.specs.Rows.{all_rows, sample_rows, stands_row, up_row}
use Rattle.byrows.specs.Ground.{Ground, mem_all, rows_inside}

-- ---- at one position

module _ (P : Par) (rank : ℕ → ℕ) (ok : Aged P rank) (K : ℕ → Bool) where
  -- where nothing on the way from w up to c stands but w, and c's parent v does, v is the nearest above w
  climb : (c w v : ℕ) → Above P c w → ((y : ℕ) → Above P c y → Above P y w → (y ≡ w → ⊥) → K y ≡ false) → P c ≡ some v → K v ≡ true → up P K w ≡ some v
  climb c w v here h e k = up_here P K rank ok w v e k
  climb c w v (step {p = p} f x) h e k =
      up_on P K rank ok w p f (h p x (step f here) (λ q. omega (arith, ok.ranked.grows f, ap rank q)))
      ∙ climb c p v x (λ y a b n. h y a (trans b (step f here)) (λ q. omega (arith, rank_le rank ok.ranked b, ok.ranked.grows f, ap rank q))) e k

module _ (P : Par) (rank : ℕ → ℕ) (ok : Aged P rank) (N : List ℕ) (nd : Nodes P N) (S : List ℕ) where
  abbrev K : ℕ → Bool
  K = stands N P S

  ru : Rule P (In S) K
  ru = stands_rule P rank ok N nd S

  -- the standing row to which a reached child of v leads has v as its output parent
  branch : (v c : ℕ) → K v ≡ true → P c ≡ some v → Reached P (In S) c → (w : ℕ) × (drawn P K w ≡ some v)
  unfolding drawn
  branch v c k e r =
      let l : _ = of_low P rank ok N nd S K ru Ages c (omega (arith, ok.ranked.grows e, ok.bound e)) r in
      let x : Low P K l.0 c = low_of P rank ok N nd S K ru Ages l.0 c l.1 in
      (l.0, rw (x.in_set, drawn) (climb P rank ok K c l.0 v x.below (λ y a b n. not_true (K y) (λ z. n (antisym rank ok.ranked b (x.all z a)))) e k))

  pub standing_parent : (v : ℕ) → K v ≡ true → mem v S ≡ false → (w : ℕ) × (drawn P K w ≡ some v)
  standing_parent v k m = go (stands_of P rank ok N nd S v k)
    where
      go : Stands P (In S) v → (w : ℕ) × (drawn P K w ≡ some v)
      go (sample s) = absurd (clash s m)
      go (two {c} n e f r s) = branch v c k e r

  pub parent_standing : (w v : ℕ) → drawn P K w ≡ some v → (K w ≡ true) × (K v ≡ true)
  parent_standing w v e = let c : Contract P K (drawn P K) = drawn_contract P K rank ok in (c.child e, near_in (c.into e).2)

-- ---- for rows

module _ (m : Limits) (L : ℕ) (T : Tables) (S : List ℕ) (g : Ground m L T S) (x : ℕ) where
  abbrev n : ℕ
  n = length T.nodes.birth

  abbrev SR : List ℕ
  SR = sample_rows T.nodes.birth S

  -- the edge row that gives a row its parent
  edge_of : (b p : ℕ) → parent_row T.edges x b ≡ some p → (i : ℕ) × Row (λ r. r) T.edges x b p i
  unfolding parent_row
  edge_of b p e = row_of (λ r. r) T.edges x b p (parent_of x b (edges_of (λ r. r) T.edges) p e)

  older : (b p : ℕ) → parent_row T.edges x b ≡ some p → at T.nodes.time b < at T.nodes.time p
  older b p e =
      let r : _ = edge_of b p e in
      omega (arith, (g.sound.tree.edge r.0 r.1.is_row).older, ap (at T.nodes.time) r.1.of_child, ap (at T.nodes.time) r.1.to_parent)

  pub parent_is_row : (b p : ℕ) → parent_row T.edges x b ≡ some p → (b < n) × (p < n)
  parent_is_row b p e =
      let r : _ = edge_of b p e in
      let q : _ = g.sound.tree.edge r.0 r.1.is_row in
      (omega (arith, q.child_row-is, r.1.of_child, g.sound.shape.births), omega (arith, q.parent_row, r.1.to_parent, g.sound.shape.births))

  -- times rise along the forest of rows
  pub rows_aged : Aged (parent_row T.edges x) (at T.nodes.time)
  rows_aged = record {
    ranked = record { grows = λ {b} {p} e. older b p e };
    bound = λ {b} {p} e. g.young p (omega (arith, (parent_is_row b p e).1, g.sound.shape.births));
  }

  row_listed : (b : ℕ) → b < n → mem b (all_rows n) ≡ true
  unfolding all_rows
  row_listed b l =
      let q : b < length (rows (λ i. i) n) = omega (arith, length_rows (λ i. i) n) in
      let e : at (rows (λ i. i) n) b ≡ b = get_rows (λ i. i) 0 n b l in
      ap (λ z. mem z (rows (λ i. i) n)) (sym e) ∙ at_mem (rows (λ i. i) n) b q

  rows_once : Distinct (all_rows n)
  unfolding all_rows
  rows_once = distinct_of (rows (λ i. i) n) (λ i j l k e. omega (arith, get_rows (λ i. i) 0 n i (omega (arith, length_rows (λ i. i) n)), get_rows (λ i. i) 0 n j (omega (arith, length_rows (λ i. i) n))))

  pub rows_nodes : Nodes (parent_row T.edges x) (all_rows n)
  rows_nodes = record { once = rows_once; listed = λ {b} {p} e. row_listed b (parent_is_row b p e).0 }

  -- a row that stands and is no sample is the output parent of some row
  pub stands_parent : (v : ℕ) → stands_row T.edges n SR x v ≡ true → mem v SR ≡ false → (c : ℕ) × (c < n) × (up_row T.edges n SR x c ≡ some v)
  unfolding stands_row up_row
  stands_parent v k q =
      let r : _ = standing_parent (parent_row T.edges x) (at T.nodes.time) rows_aged (all_rows n) rows_nodes SR v k q in
      (r.0, child_row-is r.0 v ((drawn_contract (parent_row T.edges x) (stands (all_rows n) (parent_row T.edges x) SR) (at T.nodes.time) rows_aged).into r.1), r.1)
    where
      child_row-is : (c w : ℕ) → Up (parent_row T.edges x) (stands (all_rows n) (parent_row T.edges x) SR) w c → c < n
      child_row-is c w u = (parent_is_row c u.0 u.1).0

  -- and an output parent stands, as its child does
  pub parent_stands : (c v : ℕ) → up_row T.edges n SR x c ≡ some v → (stands_row T.edges n SR x c ≡ true) × (stands_row T.edges n SR x v ≡ true)
  unfolding stands_row up_row
  parent_stands c v e = parent_standing (parent_row T.edges x) (at T.nodes.time) rows_aged (all_rows n) rows_nodes SR c v e
