-- Laws for the first pass: a mark by its two bytes, a stretch turn by turn, and the tests that end a kind and the file.
use mathlib.Core.Path.{◌≡◌, refl, sym, ap, ap₂, subst, ◌∙◌}
use mathlib.Core.Bool.{true, false, not}
use mathlib.Core.List.{List, [], ◌∷◌}
use Prim.Native.Nat.{ℕ, suc, ◌+◌, ◌*◌, ◌-◌, ◌<◌, ◌≤◌}
use native.Mathlib.Nat.{zero-mul, suc-mul}
use native.Mathlib.Numerals.{add-one}
use native.Mathlib.Omega.{arith}
use borrow.Author.Tests.{le-leb, lt-leb, lt-ltb, le-ltb, eq-eqb}
use lib.Dec.{eqb, leb}
use lib.ListN.{length}
use Rattle.std.specs.Prelude.{nat_eq}
use Rattle.std.specs.List.{starts_with}
use Rattle.std.specs.Cmp.Lexicographic.{same_text}
use Rattle.std.proofs.lemmas.List.{take_all, length-take}
use Rattle.laws.specs.Bools.{bool_ext}
use Rattle.std.specs.Prelude.{take, drop}
use Rattle.std.proofs.Common.{length-drop}
use Rattle.meaning.specs.Words.{and, at}
use Rattle.meaning.specs.Answer.{Answer, answer}
use Rattle.meaning.specs.Stored.{is_mark, whole, stop_then, end_then}
use Rattle.form.specs.Refusals.{refuse_no, refuse_yes}
use Rattle.form.specs.Marks.{marked, marked_front, two_front, front_mark, whole_more, whole_unmarked, whole_cut, whole_none, whole_within}
use Rattle.form.specs.Posts.{Stretched}
use Rattle.form.specs.declared.Stretch.{Stretch}

-- ---- a mark

-- a mark is the two bytes that it has
two_same : (m t : List ℕ) → length m ≡ 2 → starts_with nat_eq (at m 0 ∷ at m 1 ∷ t) m ≡ true
two_same [] t e = absurd (omega arith)
two_same (a ∷ []) t e = absurd (omega arith)
two_same (a ∷ b ∷ []) t e = rw (eq-eqb a a refl, eq-eqb b b refl) refl
two_same (a ∷ b ∷ d ∷ m) t e = absurd (omega arith)

-- the two bytes that stand there are the mark's
pub mark_there : (m s : List ℕ) (o : ℕ) → length m ≡ 2 → o ≤ length s → starts_with nat_eq (take (length s - o) (drop o s)) m ≡ is_mark (at m 0) (at m 1) s o
mark_there m s o e l = ap (λ t. starts_with nat_eq t m) (take_all (length s - o) (drop o s) (omega (arith, length-drop o s))) ∙ bool_ext there back
  where
    there : starts_with nat_eq (drop o s) m ≡ true → is_mark (at m 0) (at m 1) s o ≡ true
    there h =
        let q : m ≡ take (length m) (drop o s) = same_text m (take (length m) (drop o s)) (sym h) in
        let r : o + 2 ≤ length s = omega (arith, ap length q, length-take (length m) (drop o s), length-drop o s) in
        let w : m ≡ at s o ∷ at s (o + 1) ∷ [] = q ∙ ap (λ k. take k (drop o s)) e ∙ ap (take 2) (two_front s o r) in
        front_mark s o (two_front s o r ∙ ap₂ (λ x y. x ∷ y ∷ drop (o + 2) s) (sym (ap (λ t. at t 0) w)) (sym (ap (λ t. at t 1) w)))

    back : is_mark (at m 0) (at m 1) s o ≡ true → starts_with nat_eq (drop o s) m ≡ true
    back h =
        let q : drop o s ≡ at m 0 ∷ at m 1 ∷ drop (o + 2) s = marked_front (at m 0) (at m 1) s o (marked (at m 0) (at m 1) s o h) in
        rw q (two_same m (drop (o + 2) s) e)

-- ---- a stretch

-- n records are counted, and what is left from e on is what is left to count
pub record Counting (a b z most : ℕ) (s : List ℕ) (o n e : ℕ) : Type 0 where
  pub few : n ≤ most
  pub within : e ≤ length s
  pub so_far : e ≡ o + n * z
  pub left : n + whole a b z s (most - n) e ≡ whole a b z s most o

module _ (a b z most : ℕ) (s : List ℕ) (o : ℕ) where
  pub count_start : o ≤ length s → Counting a b z most s o 0 o
  count_start l =
      let q : most - 0 ≡ most = omega arith in
      record { few = omega arith; within = l; so_far = omega (arith, zero-mul z); left = omega (arith, ap (λ j. whole a b z s j o) q) }

  stops : (n e : ℕ) → Counting a b z most s o n e → whole a b z s (most - n) e ≡ 0 → Stretched a b z most s o (record { start = o; count = n; end = e })
  stops n e c q =
      let h : n ≡ whole a b z s most o = omega (arith, c.left) in
      record { starts = refl; counts = h; ends = c.so_far ∙ ap (λ j. o + j * z) h }

  pub count_unmarked : (n e : ℕ) → Counting a b z most s o n e → is_mark a b s e ≡ false → Stretched a b z most s o (record { start = o; count = n; end = e })
  count_unmarked n e c m = stops n e c (whole_unmarked a b z s (most - n) e m)

  pub count_cut : (n e : ℕ) → Counting a b z most s o n e → is_mark a b s e ≡ true → length s - e < z → Stretched a b z most s o (record { start = o; count = n; end = e })
  count_cut n e c m l = stops n e c (whole_cut a b z s (most - n) e m (omega (arith, c.within)))

  -- all that may be are counted
  pub count_full : (e n : ℕ) → Counting a b z most s o n e → most ≤ n → Stretched a b z most s o (record { start = o; count = most; end = e })
  count_full e n c l =
      let q : most - n ≡ 0 = omega arith in
      let p : n ≡ most = omega (arith, c.few) in
      subst (λ j. Stretched a b z most s o (record { start = o; count = j; end = e })) p (stops n e c (ap (λ j. whole a b z s j e) q ∙ whole_none a b z s e))

  pub count_more : (n e : ℕ) → Counting a b z most s o n e → n < most → is_mark a b s e ≡ true → z ≤ length s - e → Counting a b z most s o (n + 1) (e + z)
  count_more n e c l m h =
      let f : e + z ≤ length s = omega (arith, c.within) in
      let q : most - n ≡ suc (most - (n + 1)) = omega arith in
      let r : whole a b z s (most - n) e ≡ suc (whole a b z s (most - (n + 1)) (e + z)) = ap (λ j. whole a b z s j e) q ∙ whole_more a b z s (most - (n + 1)) e m f in
      let p : n + 1 ≡ suc n = add-one n in
      record { few = omega arith; within = f; so_far = omega (arith, c.so_far, suc-mul n z, ap (λ j. j * z) p); left = omega (arith, r, c.left) }

-- ---- where a kind ends

module _ (a b most n : ℕ) (s : List ℕ) (o : ℕ) (rest : Answer) where
  pub stop_none : is_mark a b s o ≡ false → stop_then a b most n s o rest ≡ rest
  unfolding stop_then
  stop_none m = refuse_no {t = and (is_mark a b s o) (leb most n)} 34 o _ (rw m) ∙ refuse_no 32 o rest m

  pub stop_over : is_mark a b s o ≡ true → most ≤ n → stop_then a b most n s o rest ≡ answer 34 o
  unfolding stop_then
  stop_over m l = refuse_yes {t = and (is_mark a b s o) (leb most n)} 34 o _ (rw (m, le-leb most n l))

  pub stop_cut : is_mark a b s o ≡ true → n < most → stop_then a b most n s o rest ≡ answer 32 o
  unfolding stop_then
  stop_cut m l = refuse_no {t = and (is_mark a b s o) (leb most n)} 34 o _ (rw (m, lt-leb most n l)) ∙ refuse_yes 32 o rest m

-- ---- where the file ends

module _ (s : List ℕ) (o : ℕ) (h : o ≤ length s) (rest : Answer) where
  pub end_short : length s - o < 2 → end_then s o rest ≡ answer 32 o
  unfolding end_then
  end_short l = refuse_yes 32 o _ (lt-ltb (length s) (o + 2) (omega arith))

  pub end_wrong : 2 ≤ length s - o → is_mark 69 78 s o ≡ false → end_then s o rest ≡ answer 31 o
  unfolding end_then
  end_wrong l m = refuse_no 32 o _ (le-ltb (length s) (o + 2) (omega arith)) ∙ refuse_yes 31 o _ (ap not m)

  pub end_follow : 2 < length s - o → is_mark 69 78 s o ≡ true → end_then s o rest ≡ answer 33 (o + 2)
  unfolding end_then
  end_follow l m = refuse_no 32 o _ (le-ltb (length s) (o + 2) (omega arith)) ∙ refuse_no 31 o _ (ap not m) ∙ refuse_yes 33 (o + 2) rest (lt-ltb (o + 2) (length s) (omega arith))

  pub end_clean : 2 ≤ length s - o → length s - o ≤ 2 → is_mark 69 78 s o ≡ true → end_then s o rest ≡ rest
  unfolding end_then
  end_clean l k m = refuse_no 32 o _ (le-ltb (length s) (o + 2) (omega arith)) ∙ refuse_no 31 o _ (ap not m) ∙ refuse_no 33 (o + 2) rest (le-ltb (o + 2) (length s) (omega arith))

-- ---- a kind, by the stretch that was found

module _ (a b z most : ℕ) (s : List ℕ) (o : ℕ) (w : Stretch) (f : Stretched a b z most s o w) where
  pub ends_within : o ≤ length s → w.end ≤ length s
  ends_within h = omega (arith, f.ends, whole_within a b z s most o h)

  pub kind_ends : is_mark a b s w.end ≡ false → (rest : Answer) → stop_then a b most (whole a b z s most o) s (o + whole a b z s most o * z) rest ≡ rest
  kind_ends m rest = stop_none a b most (whole a b z s most o) s (o + whole a b z s most o * z) rest (rw f.ends at m)

  pub kind_over : is_mark a b s w.end ≡ true → most ≤ w.count → (rest : Answer) → stop_then a b most (whole a b z s most o) s (o + whole a b z s most o * z) rest ≡ answer 34 w.end
  kind_over m l rest = stop_over a b most (whole a b z s most o) s (o + whole a b z s most o * z) rest (rw f.ends at m) (omega (arith, f.counts)) ∙ ap (answer 34) (sym f.ends)

  pub kind_cut : is_mark a b s w.end ≡ true → w.count < most → (rest : Answer) → stop_then a b most (whole a b z s most o) s (o + whole a b z s most o * z) rest ≡ answer 32 w.end
  kind_cut m l rest = stop_cut a b most (whole a b z s most o) s (o + whole a b z s most o * z) rest (rw f.ends at m) (omega (arith, f.counts)) ∙ ap (answer 32) (sym f.ends)
