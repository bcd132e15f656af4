-- The parent of one row is set: counts and sums are right but for one entry.
use mathlib.Core.Path.{◌≡◌, refl, sym, ap, subst, fun_ext, ◌∙◌}
use mathlib.Core.Bool.{Bool, true, false}
use mathlib.Core.List.{List}
use Prim.Native.Nat.{ℕ, ◌<◌, ◌≤◌}
use native.Mathlib.Omega.{arith}
use borrow.Author.Tests.{ne_eqb, eqb-true, eqb-false}
use lib.Dec.{eqb}
use lib.ListN.{length, get_or, set, length-set}
use lib.Seq.{get_or-set_same, get_or-set_other}
use Rattle.meaning.specs.Words.{and}
use Rattle.mend.specs.Right.{none, live, feeds, By, Lacks, Excess, Right, Shape, Grows}
use Rattle.mend.specs.Kept.{Mended, Enters}
use Rattle.mend.proofs.Mending.{shape_kept}
use Rattle.mend.proofs.Totals.{and_false, and_true, More, grow, shrink}

-- an edge of a live row
pub more_edge : (n : ℕ) (P Q : List ℕ) (L : ℕ → Bool) (c p : ℕ) → c < n → n ≤ none → ((v : ℕ) → (v ≡ c → ⊥) → get_or P v 0 ≡ get_or Q v 0) → get_or P c 0 ≡ none → get_or Q c 0 ≡ p → L c ≡ true → More n (feeds P L) (feeds Q L) p c
unfolding feeds
more_edge n P Q L c p h hn off nay yea lc = record {
  inside = h;
  off = λ u l v e. rw (off v e);
  no = λ u l. rw (nay, ne_eqb none u (λ e. omega arith));
  yes = λ u l. rw (yea, lc) (and_true (eqb p u));
}

-- an edge of a row that does not live
pub same_edge : (P Q : List ℕ) (L : ℕ → Bool) (c : ℕ) → ((v : ℕ) → (v ≡ c → ⊥) → get_or P v 0 ≡ get_or Q v 0) → L c ≡ false → feeds P L ≡ feeds Q L
unfolding feeds
same_edge P Q L c off nay = fun_ext (λ u. fun_ext (λ v. go u v (eqb v c) refl))
  where
    go : (u v : ℕ) → (b : Bool) → eqb v c ≡ b → and (eqb (get_or P v 0) u) (L v) ≡ and (eqb (get_or Q v 0) u) (L v)
    go u v true e = rw (eqb-true v c e) (rw nay (and_false (eqb (get_or P c 0) u) ∙ sym (and_false (eqb (get_or Q c 0) u))))
    go u v false e = rw (off v (eqb-false v c e))

-- the parent of c is set to p
module _ (T S P C M : List ℕ) (c p : ℕ) (hc : c < length P) where
  long : length P ≡ length (set P c p)
  long = sym (length-set P c p)

  at_c : get_or (set P c p) c 0 ≡ p
  at_c = get_or-set_same P c p 0 hc

  pub off_c : (v : ℕ) → (v ≡ c → ⊥) → get_or P v 0 ≡ get_or (set P c p) v 0
  off_c v n = sym (get_or-set_other P c v p 0 n)

  pub shape_edge : Shape T S P C M → Shape T S (set P c p) C M
  shape_edge h = record { times = h.times ∙ long; samples = h.samples ∙ long; counts = h.counts ∙ long; sums = h.sums ∙ long; rows = omega (arith, h.rows, long) }

  pub dead_edge : live S C c ≡ false → Right S P C M → Right S (set P c p) C M
  dead_edge l r = subst (λ (n : ℕ). By n (feeds (set P c p) (live S C)) C M) long (subst (λ (F : ℕ → ℕ → Bool). By (length P) F C M) (same_edge P (set P c p) (live S C) c off_c l) r)

  pub insert_live : length P ≤ none → get_or P c 0 ≡ none → live S C c ≡ true → Right S P C M → Lacks (length (set P c p)) (feeds (set P c p) (live S C)) C M p c
  insert_live hn e l r = subst (λ (n : ℕ). Lacks n (feeds (set P c p) (live S C)) C M p c) long (grow (more_edge (length P) P (set P c p) (live S C) c p hc hn off_c e at_c l) r)

  pub remove_live : length P ≤ none → p ≡ none → live S C c ≡ true → Right S P C M → Excess (length (set P c p)) (feeds (set P c p) (live S C)) C M (get_or P c 0) c
  remove_live hn e l r = subst (λ (n : ℕ). Excess n (feeds (set P c p) (live S C)) C M (get_or P c 0) c) long (shrink (more_edge (length P) (set P c p) P (live S C) c (get_or P c 0) hc hn (λ v n. sym (off_c v n)) (at_c ∙ e) refl l) r)

  -- p is none, or an older row
  pub grows_edge : Grows T P → ((p ≡ none → ⊥) → (p < length P) × (get_or T c 0 < get_or T p 0)) → Grows T (set P c p)
  grows_edge g h = record {
    inside = λ u l n. go_in u (eqb u c) refl (omega (arith, l, long)) n;
    age = λ u l n. go_age u (eqb u c) refl (omega (arith, l, long)) n;
    fits = λ u l. g.fits u (omega (arith, l, long));
  }
    where
      go_in : (u : ℕ) → (b : Bool) → eqb u c ≡ b → u < length P → (get_or (set P c p) u 0 ≡ none → ⊥) → get_or (set P c p) u 0 < length (set P c p)
      go_in u true e l n = let z : get_or (set P c p) u 0 ≡ p = ap (λ (x : ℕ). get_or (set P c p) x 0) (eqb-true u c e) ∙ at_c in omega (arith, (h (λ y. n (z ∙ y))).0, z, long)
      go_in u false e l n = let z : get_or P u 0 ≡ get_or (set P c p) u 0 = off_c u (eqb-false u c e) in omega (arith, g.inside u l (λ y. n (sym z ∙ y)), z, long)

      go_age : (u : ℕ) → (b : Bool) → eqb u c ≡ b → u < length P → (get_or (set P c p) u 0 ≡ none → ⊥) → get_or T u 0 < get_or T (get_or (set P c p) u 0) 0
      go_age u true e l n = let z : get_or (set P c p) u 0 ≡ p = ap (λ (x : ℕ). get_or (set P c p) x 0) (eqb-true u c e) ∙ at_c in omega (arith, (h (λ y. n (z ∙ y))).1, ap (λ (x : ℕ). get_or T x 0) z, ap (λ (x : ℕ). get_or T x 0) (eqb-true u c e))
      go_age u false e l n = let z : get_or P u 0 ≡ get_or (set P c p) u 0 = off_c u (eqb-false u c e) in omega (arith, g.age u l (λ y. n (sym z ∙ y)), ap (λ (x : ℕ). get_or T x 0) z)

-- c, which lives, has got the parent p: what the climb that mends asks
pub linked : {T S P C M : List ℕ} {c p : ℕ} → Mended T S P C M → Enters T P c p → live S C c ≡ true → Shape T S (set P c p) C M × Grows T (set P c p) × ((p ≡ none → ⊥) → p < length (set P c p)) × Lacks (length (set P c p)) (feeds (set P c p) (live S C)) C M p c × (c < length (set P c p)) × (get_or (set P c p) c 0 ≡ p)
linked {T} {S} {P} {C} {M} {c} {p} m e l = (
  shape_edge T S P C M c p e.child m.shape,
  grows_edge T S P C M c p e.child m.grows (λ n. (e.parent, e.older)),
  (λ n. omega (arith, length-set P c p, e.parent)),
  insert_live T S P C M c p e.child m.shape.rows e.free l m.right,
  omega (arith, length-set P c p, e.child),
  get_or-set_same P c p 0 e.child,
)

-- c, which lives, has lost its parent: what the climb that mends asks
pub unlinked : {T S P C M : List ℕ} {c : ℕ} → Mended T S P C M → c < length P → live S C c ≡ true → Shape T S (set P c none) C M × Grows T (set P c none) × ((get_or P c 0 ≡ none → ⊥) → get_or P c 0 < length (set P c none)) × (c < length (set P c none)) × Excess (length (set P c none)) (feeds (set P c none) (live S C)) C M (get_or P c 0) c
unlinked {T} {S} {P} {C} {M} {c} m h l = (
  shape_edge T S P C M c none h m.shape,
  grows_edge T S P C M c none h m.grows (λ n. absurd (n refl)),
  (λ n. omega (arith, length-set P c none, m.grows.inside c h n)),
  omega (arith, length-set P c none),
  remove_live T S P C M c none h m.shape.rows refl l m.right,
)

-- and after the climb
pub mended_after : {T S P C M : List ℕ} (c p : ℕ) (C' M' : List ℕ) → Mended T S P C M → Grows T (set P c p) → length C' ≡ length C → length M' ≡ length M → Right S (set P c p) C' M' → Mended T S (set P c p) C' M'
mended_after {T} {S} {P} {C} {M} c p C' M' m g ec em r = record { shape = shape_kept (set P c p) C' M' (length-set P c p) ec em m.shape; grows = g; right = r }

-- an edge of a row that does not live
pub mended_dead : {T S P C M : List ℕ} {c : ℕ} (p : ℕ) → Mended T S P C M → c < length P → ((p ≡ none → ⊥) → (p < length P) × (get_or T c 0 < get_or T p 0)) → live S C c ≡ false → Mended T S (set P c p) C M
mended_dead {T} {S} {P} {C} {M} {c} p m h a l = record { shape = shape_edge T S P C M c p h m.shape; grows = grows_edge T S P C M c p h m.grows a; right = dead_edge T S P C M c p h l m.right }
