-- Answers kept: one more is known after a lookup, and what is known stays so further on.
use mathlib.Core.Path.{◌≡◌, sym, ap, ◌∙◌}
use mathlib.Core.List.{List}
use mathlib.Core.Logic.{◌⊎◌, inl, inr, ⊎_elim}
use Prim.Native.Nat.{ℕ, zero, suc, ◌<◌, ◌≤◌}
use native.Mathlib.Omega.{arith}
use lib.ListN.{length, set, length-set}
use lib.Seq.{get_or-set_same, get_or-set_other}
use Rattle.meaning.specs.Words.{at}
use Rattle.meaning.specs.Rows.{EdgeColumns}
use Rattle.laws.specs.Bools.{eq?}
use Rattle.bridge.specs.Parents.{code, parent_row}
use Rattle.ancestry.specs.declared.Stretch.{Stretch}
use Rattle.ancestry.specs.Stretch.{until, stretch_at}
use Rattle.ancestry.specs.Holds.{until_holds}
use Rattle.overtaking.specs.Known.{Known, Keeping}
use Rattle.overtaking.specs.Overtaken.{Rightwards}

-- nothing is known at first
pub none_known : (E : EdgeColumns) (x : ℕ) (par ends : List ℕ) → ((u : ℕ) → at ends u ≡ 0) → Known E x par ends
none_known E x par ends z = record { cell = λ u y l h k. absurd (omega (arith, z u)) }

-- what is known stays so further on
pub known_on : {E : EdgeColumns} {x : ℕ} {par ends : List ℕ} (y : ℕ) → x ≤ y → Known E x par ends → Known E y par ends
known_on y h k = record { cell = λ u z l m. k.cell u z l (omega arith) }

-- an answer and its end, put at their row
pub known_set : {E : EdgeColumns} {x : ℕ} {par ends : List ℕ} (u p e : ℕ) → Known E x par ends → length ends ≡ length par → u < length par → p ≡ code (parent_row E x u) → ((y : ℕ) → x ≤ y → y < e → parent_row E y u ≡ parent_row E x u) → Known E x (set par u p) (set ends u e)
known_set {E} {x} {par} {ends} u p e k long row q holds = record { cell = λ v y l h m. go v y (omega (arith, length-set par u p)) h m (eq? v u) }
  where
    go : (v y : ℕ) → v < length par → x ≤ y → y < at (set ends u e) v → (v ≡ u) ⊎ (v ≡ u → ⊥) → at (set par u p) v ≡ code (parent_row E y v)
    go v y l h m (inl z) =
        let a : at (set par u p) v ≡ p = ap (at (set par u p)) z ∙ get_or-set_same par u p 0 row in
        let b : at (set ends u e) v ≡ e = ap (at (set ends u e)) z ∙ get_or-set_same ends u e 0 (omega arith) in
        a ∙ q ∙ sym (ap (λ w. code (parent_row E y w)) z ∙ ap code (holds y h (omega arith)))
    go v y l h m (inr n) =
        let b : at (set ends u e) v ≡ at ends v = get_or-set_other ends u v e 0 n in
        get_or-set_other par u v p 0 n ∙ k.cell v y l h (omega arith)

-- the same of what the lookup answers
pub known_stretch : {E : EdgeColumns} {x : ℕ} {par ends : List ℕ} (L u : ℕ) (s : Stretch) → s ≡ stretch_at E L x u → Known E x par ends → length ends ≡ length par → u < length par → (s.parent ≡ code (parent_row E x u)) × Known E x (set par u s.parent) (set ends u s.end)
known_stretch {E} {x} L u s q k long row =
    let p : s.parent ≡ code (parent_row E x u) = ap (λ (s : Stretch). s.parent) q in
    let e : s.end ≡ until E L x u = ap (λ (s : Stretch). s.end) q in
    (p, known_set u s.parent s.end k long row p (λ y h m. until_holds E x u L y h (omega arith)))

-- a working column of the same length will do
pub still_keeping : {n : ℕ} {ends par par' : List ℕ} → length par' ≡ length par → Keeping n ends par → Keeping n ends par'
still_keeping p k = record { ends_long = k.ends_long; par_long = omega (arith, k.par_long) }

-- ---- along the sites

pub further : (position : List ℕ) → Rightwards position → (s r : ℕ) → s ≤ r → r < length position → at position s ≤ at position r
further position ok s zero h l = let q : s ≡ 0 = omega arith in omega (arith, ap (at position) q)
further position ok s (suc r) h l = ⊎_elim
    (λ (q : s ≡ suc r). omega (arith, ap (at position) q))
    (λ (q : s ≡ suc r → ⊥). omega (arith, further position ok s r (omega arith) (omega arith), ok.rise r l))
    (eq? s (suc r))
