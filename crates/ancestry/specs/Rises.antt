-- The parent of rising edges is a row, and older than its child.
use Rattle.std.specs.Prelude.{◌≡◌, List, ℕ, ◌<◌, length}
use Rattle.std.proofs.Math.Option.{some}
use Rattle.meaning.specs.Words.{at}
use Rattle.meaning.specs.Rows.{EdgeColumns}
use Rattle.bridge.specs.Parents.{parent_row}
use Rattle.ancestry.specs.Column.{Rising}
use Rattle.ancestry.specs.Decided.{parent_decided}

-- a parent found is that of an edge row
pub parent_found : (E : EdgeColumns) (x u p : ℕ) → parent_row E x u ≡ some p → (e : ℕ) × (e < length E.left) × (at E.child e ≡ u) × (at E.parent e ≡ p)
parent_found E x u p h = let r : _ = parent_decided E x u p h in (r.0, r.1.row, r.1.own, r.2)

module _ (time : List ℕ) (E : EdgeColumns) (ok : Rising time E) (x : ℕ) where
  -- child and parent are rows, and the parent is older
  pub parent_rises : (u p : ℕ) → parent_row E x u ≡ some p → (u < length time) × (p < length time) × (at time u < at time p)
  parent_rises u p h =
      let r : _ = parent_found E x u p h in
      (rw r.2 at (ok.child_row-is r.0 r.1), rw r.3 at (ok.parent_row r.0 r.1), rw r.3 at (rw r.2 at (ok.age r.0 r.1)))
