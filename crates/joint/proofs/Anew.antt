-- Columns of the result that first served as working columns: what is written by rows leaves nothing of that.
use mathlib.Core.Path.{◌≡◌, sym, ap, ◌∙◌}
use mathlib.Core.List.{List, ◌++◌, map}
use Prim.Native.Nat.{ℕ, ◌≤◌}
use native.Mathlib.Omega.{arith}
use lib.ListN.{length, take, drop, length-map, length-append, length-drop}
use Rattle.meaning.specs.Words.{at}
use Rattle.meaning.specs.Rows.{EdgeColumns}
use Rattle.meaning.specs.Answer.{put}
use Rattle.batches.specs.Joint.{JointPut}
use Rattle.batches.proofs.Fronts.{part, put_over}
use Rattle.joint.specs.Sorting.{edges_by, EdgeRoom}

-- cells read by n rows, put over a list that stood at the front
pub over_list : (c w old mid out rows : List ℕ) (n : ℕ) → mid ≡ put w old → length w ≤ n → length rows ≡ n → n ≤ length old → out ≡ put (map (at c) rows) mid → out ≡ put (map (at c) rows) old
over_list c w old mid out rows n e h q k f = f ∙ ap (put (map (at c) rows)) e ∙ put_over (map (at c) rows) w old (omega (arith, length-map rows (at c))) (omega (arith, length-map rows (at c)))

-- or over m cells that were lent as a part
pub over_part : (c w old out rows : List ℕ) (m n : ℕ) → length w ≡ m → m ≤ n → length rows ≡ n → n ≤ length old → out ≡ put (map (at c) rows) (w ++ drop m old) → out ≡ put (map (at c) rows) old
unfolding put
over_part c w old out rows m n q h r k f = over_list c w old (w ++ drop m old) out rows n (ap (λ x. w ++ drop x old) (sym q)) (omega arith) r k f

-- or over both, one after the other
pub over_both : (c w v old mid out rows : List ℕ) (m n : ℕ) → length v ≡ m → m ≤ n → mid ≡ put w (v ++ drop m old) → length w ≤ n → length rows ≡ n → n ≤ length old → out ≡ put (map (at c) rows) mid → out ≡ put (map (at c) rows) old
over_both c w v old mid out rows m n q h e l r k f =
    over_part c v old out rows m n q h r k (over_list c w (v ++ drop m old) mid out rows n e l r (omega (arith, length-append v (drop m old), length-drop m old)) f)

-- cells of a column and of a list that stands at the front of another, read by rows
pub from_front : (c w old mid out new rows : List ℕ) (m : ℕ) → mid ≡ put w old → length w ≤ length old → m ≡ length w → new ≡ put (map (at (c ++ take m mid)) rows) out → new ≡ put (map (at (c ++ w)) rows) out
from_front c w old mid out new rows m e h q f = f ∙ ap (λ x. put (map (at (c ++ x)) rows) out) (part w old mid m e h q)

-- the edges' columns, of which three had parts lent
pub edges_anew : (rows : List ℕ) (E old new : EdgeColumns) (r p c : List ℕ) (m n : ℕ) → length r ≡ m → length p ≡ m → length c ≡ m → m ≤ n → length rows ≡ n → EdgeRoom n old → JointPut (edges_by rows E) (record { left = old.left; right = r ++ drop m old.right; parent = p ++ drop m old.parent; child = c ++ drop m old.child }) new → JointPut (edges_by rows E) old new
edges_anew rows E old new r p c m n a b d h q k v = record {
  left = v.left;
  right = over_part E.right r old.right new.right rows m n a h q k.right v.right;
  parent = over_part E.parent p old.parent new.parent rows m n b h q k.parent v.parent;
  child = over_part E.child c old.child new.child rows m n d h q k.child v.child;
}
