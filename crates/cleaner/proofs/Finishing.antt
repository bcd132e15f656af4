-- Columns put in order and renamed where they stand: what two writings to one front leave.
use mathlib.Core.Path.{◌≡◌, sym, ap, ◌∙◌}
use mathlib.Core.Bool.{Bool}
use mathlib.Core.List.{List, ◌++◌, map, map-map}
use Prim.Native.Nat.{ℕ, ◌≤◌}
use native.Mathlib.Omega.{arith}
use lib.ListN.{length, take, length-map}
use lib.Seq.{length-take-le}
use Rattle.meaning.specs.Words.{rows}
use Rattle.meaning.specs.Answer.{put}
use Rattle.order.specs.Order.{Inside, SortedFrom}
use Rattle.order.specs.Tables.{own_inside, permuted_inside}
use Rattle.keeping.specs.Fronts.{put_front, put_past}

-- an order of k rows has rows below k
pub ordered_inside : (lt : ℕ → ℕ → Bool) (k : ℕ) (order : List ℕ) → SortedFrom lt (rows (λ i. i) k) order → Inside k order
ordered_inside lt k order s = permuted_inside k (rows (λ i. i) k) order s.permuted (own_inside k k (omega arith))

-- what is read at k rows is k long
mapped_long : (f : ℕ → ℕ) (order : List ℕ) (k : ℕ) → k ≤ length order → k ≡ length (map f (take k order))
mapped_long f order k h = sym (length-map (take k order) f ∙ length-take-le k order h)

-- cells gathered in a spare column and copied back
pub copied_back : (f : ℕ → ℕ) (order spare spare' col col' : List ℕ) (k : ℕ) → k ≤ length order → spare' ≡ put (map f (take k order)) spare → col' ≡ put (take k spare') col → col' ≡ put (map f (take k order)) col
copied_back f order spare spare' col col' k h s e = e ∙ ap (λ (z : List ℕ). put z col) (put_front (map f (take k order)) spare spare' k (mapped_long f order k h) s)

-- a front written over one that is as long
put_twice : (new mid old col : List ℕ) → length new ≡ length mid → col ≡ put mid old → put new col ≡ put new old
unfolding put
put_twice new mid old col q e = ap (λ (z : List ℕ). new ++ z) (put_past mid old col (length new) q e)

-- cells put in order and then renamed
pub renamed_after : (f g : ℕ → ℕ) (order old mid new : List ℕ) (k : ℕ) → k ≤ length order → mid ≡ put (map f (take k order)) old → new ≡ put (map g (take k mid)) mid → new ≡ put (map (λ i. g (f i)) (take k order)) old
renamed_after f g order old mid new k h s e =
    e
    ∙ ap (λ (z : List ℕ). put (map g z) mid) (put_front (map f (take k order)) old mid k (mapped_long f order k h) s)
    ∙ ap (λ (z : List ℕ). put z mid) (map-map g f (take k order))
    ∙ put_twice (map (λ i. g (f i)) (take k order)) (map f (take k order)) old mid (sym (mapped_long (λ i. g (f i)) order k h) ∙ mapped_long f order k h) s
