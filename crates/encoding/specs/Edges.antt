-- The list of cleaned edges, known by what it says: strictly in key order, each edge as long as it can be, every parent covered.
use Rattle.std.specs.Prelude.{◌≡◌, refl, Bool, true, false, List, [], ◌∷◌, ◌++◌, ◌⊎◌, ℕ, zero, suc, ◌<◌, ◌≤◌, eqb}
use Rattle.std.proofs.Math.Path.{sym}
use Rattle.std.proofs.Common.{ap, ◌∙◌, inl, inr, ⊎_elim, arith}
use Rattle.std.proofs.Math.Option.{Option, none, some}
use Rattle.std.proofs.Math.Dec.{ltb}
use borrow.Author.Tests.{eqb-true, eq-eqb, ltb-true}
use Rattle.meaning.specs.Words.{mem, each, lex, sort}
use Rattle.meaning.specs.Rows.{Edge, edge_key}
use Rattle.meaning.specs.Forest.{Par, is}
use Rattle.meaning.specs.Clean.{before, runs, edges_for}
use Rattle.laws.specs.Bools.{clash, eq?}
use Rattle.laws.specs.Facts.{Distinct, Any, All, done, also, Cov}
use Rattle.history.specs.Order.{Less, sooner, tied, less_of, of_less, lex_irrefl, lex_trans, ltb_order, before_order, sort_sorted}
use Rattle.history.specs.Lists.{all_each, all_to}
use Rattle.history.specs.Encode.{parent_of, decode}
use Rattle.encoding.specs.Ascending.{Ascending, Has, pick, all_at, ascending_same, ascending_each}
use Rattle.encoding.specs.Runs.{Longest, left_not_after, right_not_before, Of, idle, runs_longest, runs_of_both, runs_ascending}

pub is_of : (o : Option ℕ) (u : ℕ) → is o u ≡ true → o ≡ some u
unfolding is
is_of none u h = absurd (clash h refl)
is_of (some p) u h = ap some (eqb-true p u h)

pub of_is : {o : Option ℕ} {u : ℕ} → o ≡ some u → is o u ≡ true
unfolding is
of_is {u = u} e = rw e (eq-eqb u u refl)

-- what holds of each of two lists holds of each pair
all_pairs : {A : Type 0} {P Q : A → Type 0} {R : A → A → Type 0} (l m : List A) → All P l → All Q m → ((a b : A) → P a → Q b → R a b) → All (λ a. All (λ b. R a b) m) l
all_pairs [] m done y h = done
all_pairs (a ∷ l) m (also p x) y h = also (all_to (λ b q. h a b p q) y) (all_pairs l m x y h)

all_both : {A : Type 0} {P Q : A → Type 0} {l : List A} → All P l → All Q l → All (λ a. P a × Q a) l
all_both done done = done
all_both (also p x) (also q y) = also (p, q) (all_both x y)

edge_eq : (d e : Edge) → d.left ≡ e.left → d.right ≡ e.right → d.parent ≡ e.parent → d.child ≡ e.child → d ≡ e
edge_eq d e l r p c = λ i. record { left = l i; right = r i; parent = p i; child = c i }

module _ (L : ℕ) (time : ℕ → ℕ) (D : ℕ → Par) where
  -- by edge key
  abbrev pub by_key : Edge → Edge → Bool
  by_key d e = lex (edge_key time d) (edge_key time e)

  -- the edge is as long as it can be
  abbrev pub Whole : Edge → Type 0
  Whole e = Longest L (λ x. is (D x e.child) e.parent) e

  -- some edge of the list gives each child its parent
  abbrev pub Covers : List Edge → Type 0
  Covers l = (x b p : ℕ) → x < L → D x b ≡ some p → Any (Cov x b p) l

  -- the same of equal births
  longest_of : (d : Edge) (b c p q : ℕ) → b ≡ c → p ≡ q → Longest L (λ x. is (D x b) p) d → Longest L (λ x. is (D x c) q) d
  longest_of d b c p q e f h = rw (e, f) at h

  -- two whole edges of one parent and child that share a position are one
  whole_same : (x : ℕ) (d e : Edge) → Whole d → Whole e → d.child ≡ e.child → d.parent ≡ e.parent → d.left ≤ x → x < d.right → e.left ≤ x → x < e.right → d ≡ e
  whole_same x d e p q c r dl dr el er =
      let p' : Longest L (λ x. is (D x e.child) e.parent) d = longest_of d d.child e.child d.parent e.parent c r p in
      edge_eq d e
      (⊎_elim (λ (z : d.left ≡ e.left). z) (λ (z : d.left ≡ e.left → ⊥). absurd (apart d.left e.left z (left_not_after x p' q dl dr el er) (left_not_after x q p' el er dl dr))) (eq? d.left e.left))
      (⊎_elim (λ (z : d.right ≡ e.right). z) (λ (z : d.right ≡ e.right → ⊥). absurd (apart d.right e.right z (right_not_before x p' q dl dr el er) (right_not_before x q p' el er dl dr))) (eq? d.right e.right))
      r c
    where
      apart : (a b : ℕ) → (a ≡ b → ⊥) → (a < b → ⊥) → (b < a → ⊥) → ⊥
      apart a b n l m = n (omega arith)

  -- a whole edge is in every list of whole edges that covers
  same_members : (l m : List Edge) → All Whole l → All Whole m → Covers m → (a : Edge) → Has l a → Has m a
  same_members l m wl wm cm a h =
      let w : Whole a = all_at a wl h in
      let g : D a.left a.child ≡ some a.parent = is_of (D a.left a.child) a.parent (w.holds a.left (omega arith) w.wide) in
      let r : _ = pick (cm a.left a.child a.parent (omega (arith, w.wide, w.inside)) g) in
      let v : Whole r.0 = all_at r.0 wm r.1 in
      let q : r.0 ≡ a = whole_same a.left r.0 a v w r.2.of_child r.2.to_parent r.2.begun r.2.not_over (omega arith) w.wide in
      rw q at r.1

  -- ---- the defined list is such a list

  module _ (fish : List ℕ) (once : Distinct fish) where
    children : ℕ → List Edge
    children p = each (λ c. runs p c (λ x. is (D x c) p) none 0 L) (sort ltb fish)

    start : (p c : ℕ) → Rattle.encoding.specs.Runs.Going p c (λ x. is (D x c) p) L 0 none
    start p c = idle (λ y q. absurd (omega arith))

    by_left : (p c : ℕ) (a b : Edge) → Of p c (λ x. is (D x c) p) L a → Of p c (λ x. is (D x c) p) L b → a.left < b.left → by_key a b ≡ true
    unfolding edge_key
    by_left p c a b o u l = of_less (edge_key time a) (edge_key time b) (tied (ap time z) (tied z (tied (o.child ∙ sym u.child) (sooner l))))
      where
        z : a.parent ≡ b.parent
        z = o.parent ∙ sym u.parent

    by_child : (p c d : ℕ) → ltb c d ≡ true → (a b : Edge) → Of p c (λ x. is (D x c) p) L a → Of p d (λ x. is (D x d) p) L b → by_key a b ≡ true
    unfolding edge_key
    by_child p c d h a b o u = of_less (edge_key time a) (edge_key time b) (tied (ap time z) (tied z (sooner (omega (arith, ltb-true c d h, o.child, u.child)))))
      where
        z : a.parent ≡ b.parent
        z = o.parent ∙ sym u.parent

    by_parent : (p q : ℕ) → before time p q ≡ true → (a b : Edge) → a.parent ≡ p → b.parent ≡ q → by_key a b ≡ true
    unfolding edge_key before
    by_parent p q h a b o u = of_less (edge_key time a) (edge_key time b) (rw (o, u) (longer (less_of (time p ∷ p ∷ []) (time q ∷ q ∷ []) h)))
      where
        longer : Less (time p ∷ p ∷ []) (time q ∷ q ∷ []) → Less (time p ∷ p ∷ a.child ∷ a.left ∷ []) (time q ∷ q ∷ b.child ∷ b.left ∷ [])
        longer (tied e (tied _ x15)) = elim x15 [ ]
        longer (sooner l) = sooner l
        longer (tied e (sooner l)) = tied e (sooner l)

    children_of : (p : ℕ) → All (λ (e : Edge). e.parent ≡ p) (children p)
    unfolding children
    children_of p = all_each (λ c. runs p c (λ x. is (D x c) p) none 0 L) (sort ltb fish) (λ c m. all_to (λ e o. o.parent) (runs_of_both p c (λ x. is (D x c) p) L none 0 L))

    children_ascending : (p : ℕ) → Ascending by_key (children p)
    unfolding children
    children_ascending p = ascending_each by_key ltb (λ c. runs p c (λ x. is (D x c) p) none 0 L) (sort ltb fish) (sort_sorted ltb ltb_order fish once)
        (λ c. runs_ascending p c (λ x. is (D x c) p) L by_key (by_left p c) none 0 L (start p c))
        (λ c d h. all_pairs (runs p c (λ x. is (D x c) p) none 0 L) (runs p d (λ x. is (D x d) p) none 0 L) (runs_of_both p c (λ x. is (D x c) p) L none 0 L) (runs_of_both p d (λ x. is (D x d) p) L none 0 L) (by_child p c d h))

    pub edges_ascending : Ascending by_key (edges_for L time D fish)
    unfolding edges_for children
    edges_ascending = ascending_each by_key (before time) children (sort (before time) fish) (sort_sorted (before time) (before_order time) fish once) children_ascending
        (λ p q h. all_pairs (children p) (children q) (children_of p) (children_of q) (by_parent p q h))

    pub edges_whole : All Whole (edges_for L time D fish)
    unfolding edges_for
    edges_whole = all_each (λ p. each (λ c. runs p c (λ x. is (D x c) p) none 0 L) (sort ltb fish)) (sort (before time) fish) (λ p m.
        all_each (λ c. runs p c (λ x. is (D x c) p) none 0 L) (sort ltb fish) (λ c k.
        all_to (λ e w. let o : Of p c (λ x. is (D x c) p) L e = w.1 in longest_of e c e.child p e.parent (sym o.child) (sym o.parent) w.0)
        (all_both (runs_longest p c (λ x. is (D x c) p) L none 0 L (start p c) (omega arith)) (runs_of_both p c (λ x. is (D x c) p) L none 0 L))))

    module _ (named : (x b p : ℕ) → x < L → D x b ≡ some p → (mem b fish ≡ true) × (mem p fish ≡ true)) where
      pub edges_cover : Covers (edges_for L time D fish)
      edges_cover x b p l e = parent_of x b (edges_for L time D fish) p (decode L time D fish x l (λ c q f. named x c q l f) b ∙ e)

      -- a strictly key-sorted list of whole edges that covers every nearest-standing parent is the list of cleaned edges
      pub the_edges : (l : List Edge) → Ascending by_key l → All Whole l → Covers l → l ≡ edges_for L time D fish
      the_edges l s w c = ascending_same by_key (λ e. lex_irrefl (edge_key time e)) (λ d e f. lex_trans (edge_key time d) (edge_key time e) (edge_key time f)) l (edges_for L time D fish) s edges_ascending
          (same_members l (edges_for L time D fish) w edges_whole edges_cover)
          (same_members (edges_for L time D fish) l edges_whole w c)
