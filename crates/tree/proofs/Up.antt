-- An edge more changes the nearest standing row above three rows at most.
use mathlib.Core.Path.{◌≡◌, refl, sym, ap, subst, ◌∙◌}
use mathlib.Core.Bool.{Bool, true, false}
use mathlib.Core.Option.{Option, none, some}
use mathlib.Core.Logic.{◌⊎◌, inl, inr}
use Prim.Native.Nat.{ℕ, zero, suc, ◌+◌, ◌<◌, ◌≤◌}
use native.Mathlib.Omega.{arith}
use Rattle.meaning.specs.Forest.{Par}
use Rattle.laws.specs.Bools.{some_inj, none_some, clash, eq?}
use Rattle.forest.specs.Lines.{Ranked}
use Rattle.mend.specs.Line.{Low, here, down, Over, root, hit, on, Lives, Edge}

module _ {P : Par} {K L : ℕ → Bool} (lv : Lives P K L) where
  pub low_one : {v w x : ℕ} → Low P K L v x → Low P K L w x → v ≡ w
  low_one (here k) (here j) = refl
  low_one (here k) (down j e l y) = absurd (clash k j)
  low_one (down k e l x) (here j) = absurd (clash j k)
  low_one {w = w} (down {x = u} {d} k e l x) (down {d = f} j g m y) = low_one x (subst (λ (z : ℕ). Low P K L w z) (lv.only k g e m l) y)

module _ {P : Par} {K L : ℕ → Bool} where
  pub low_stands : {w x : ℕ} → Low P K L w x → K w ≡ true
  low_stands (here k) = k
  low_stands (down k e l y) = low_stands y

  -- what is over a row is over the low row of its line
  pub lower : {w x : ℕ} {o : Option ℕ} → Low P K L w x → Over P K o x → Over P K o w
  lower (here k) r = r
  lower (down k e l y) r = lower y (on e k r)

pub over_one : {P : Par} {K : ℕ → Bool} {o r : Option ℕ} {x : ℕ} → Over P K o x → Over P K r x → o ≡ r
over_one (root e z) (root f y) = z ∙ sym y
over_one (root e z) (hit f h y) = absurd (none_some e f)
over_one (root e z) (on f h y) = absurd (none_some e f)
over_one (hit e k z) (root f y) = absurd (none_some f e)
over_one (hit e k z) (hit f h y) = z ∙ ap some (some_inj e f) ∙ sym y
over_one {K = K} (hit e k z) (on f h y) = absurd (clash k (subst (λ (a : ℕ). K a ≡ false) (some_inj f e) h))
over_one (on e k z) (root f y) = absurd (none_some f e)
over_one {K = K} (on e k z) (hit f h y) = absurd (clash h (subst (λ (a : ℕ). K a ≡ false) (some_inj e f) k))
over_one {P} {K} {o} {r} (on e k z) (on f h y) = over_one z (subst (λ (a : ℕ). Over P K r a) (some_inj f e) y)

-- an edge more
module _ {P P' : Par} {K K' L : ℕ → Bool} {c p q : ℕ} (ed : Edge P P' K K' c p q) (lv : Lives P K L) where
  not_c : {x y : ℕ} → P x ≡ some y → x ≡ c → ⊥
  not_c e z = none_some (ap P z ∙ ed.before) e

  kept_par : {x y : ℕ} → P x ≡ some y → P' x ≡ some y
  kept_par {x} e = ed.off x (not_c e) ∙ e

  -- a row that is low for neither c nor q keeps what is over it
  pub keep : {v : ℕ} {o : Option ℕ} {x : ℕ} → (Low P K L v c → ⊥) → (K q ≡ false → Low P K L v q → ⊥) → Low P K L v x → L x ≡ true → Over P K o x → Over P' K' o x
  keep {v = v} {x = x} nc nq lw l (root e z) = root (ed.off x (λ y. nc (subst (λ (a : ℕ). Low P K L v a) y lw)) ∙ e) z
  keep {v = v} {x = x} nc nq lw l (hit {p = y} e k z) = hit (kept_par e) (go (eq? y q)) z
    where
      go : (y ≡ q) ⊎ (y ≡ q → ⊥) → K' y ≡ true
      go (inl t) = ap K' t ∙ ed.more (sym (ap K t) ∙ k)
      go (inr t) = ed.same y t ∙ k
  keep {v} {o} {x} nc nq lw l (on {p = y} e k r) = go (eq? y q) (keep nc nq (down k e l lw) (lv.up e l) r)
    where
      go : (y ≡ q) ⊎ (y ≡ q → ⊥) → Over P' K' o y → Over P' K' o x
      go (inl t) ih = absurd (nq (sym (ap K t) ∙ k) (subst (λ (a : ℕ). Low P K L v a) t (down k e l lw)))
      go (inr t) ih = on (kept_par e) (ed.same y t ∙ k) ih

  module _ (rank : ℕ → ℕ) (ok : Ranked P rank) (hp : rank c < rank p) where
    -- a line down by rows that stand as before is still one
    pub keep_low : {w x : ℕ} → ((y : ℕ) → rank y ≤ rank x → K' y ≡ K y) → Low P K L w x → Low P' K' L w x
    keep_low {w} h (here k) = here (h w (omega arith) ∙ k)
    keep_low h (down {x} {d} k e l y) = down (h x (omega arith) ∙ k) (kept_par e) l (keep_low (λ z t. h z (omega (arith, ok.grows e))) y)

    below : (x : ℕ) → rank x < rank q → (y : ℕ) → rank y ≤ rank x → K' y ≡ K y
    below x h y l = ed.same y (λ t. omega (arith, ap rank t))

    -- q comes to stand: the row that was low for it
    pub other_low : {w : ℕ} → K q ≡ false → K' q ≡ true → Low P K L w q → Over P' K' (some q) w
    other_low n k (here j) = absurd (clash j n)
    other_low n k (down {d = e} j f l y) = lower (keep_low (below e (ok.grows f)) y) (hit (kept_par f) k refl)

    module _ (in_live : (v : ℕ) → K v ≡ true → L v ≡ true) (U U' : ℕ → Option ℕ) (up : (v : ℕ) → K v ≡ true → Over P K (U v) v) where
      -- q comes to stand
      pub insert_stand : {w z : ℕ} → rank c < rank q → K q ≡ false → K' q ≡ true → Low P K L w c → Low P K L z q → Over P' K' (some q) c → U' w ≡ some q → U' z ≡ some q → Over P' K' (U' q) q → ((v : ℕ) → (v ≡ w → ⊥) → (v ≡ z → ⊥) → (v ≡ q → ⊥) → U' v ≡ U v) → (v : ℕ) → K' v ≡ true → Over P' K' (U' v) v
      insert_stand {w} {z} h n k lw lz oc uw uz oq rest v kv = go (eq? v w) (eq? v z) (eq? v q)
        where
          go : (v ≡ w) ⊎ (v ≡ w → ⊥) → (v ≡ z) ⊎ (v ≡ z → ⊥) → (v ≡ q) ⊎ (v ≡ q → ⊥) → Over P' K' (U' v) v
          go (inl t) b d = subst (λ (x : ℕ). Over P' K' (U' x) x) (sym t) (subst (λ (o : Option ℕ). Over P' K' o w) (sym uw) (lower (keep_low (below c h) lw) oc))
          go (inr s) (inl t) d = subst (λ (x : ℕ). Over P' K' (U' x) x) (sym t) (subst (λ (o : Option ℕ). Over P' K' o z) (sym uz) (other_low n k lz))
          go (inr s) (inr r) (inl t) = subst (λ (x : ℕ). Over P' K' (U' x) x) (sym t) oq
          go (inr s) (inr r) (inr t) = let j : K v ≡ true = sym (ed.same v t) ∙ kv in subst (λ (o : Option ℕ). Over P' K' o v) (sym (rest v s r t)) (keep (λ x. s (low_one lv x lw)) (λ m x. r (low_one lv x lz)) (here j) (in_live v j) (up v j))

      -- nothing comes to stand
      pub insert_same : {w : ℕ} {o : Option ℕ} → ((v : ℕ) → K' v ≡ K v) → q ≡ c → Low P K L w c → Over P' K' o c → U' w ≡ o → ((v : ℕ) → (v ≡ w → ⊥) → U' v ≡ U v) → (v : ℕ) → K' v ≡ true → Over P' K' (U' v) v
      insert_same {w} {o} same qc lw oc uw rest v kv = go (eq? v w)
        where
          go : (v ≡ w) ⊎ (v ≡ w → ⊥) → Over P' K' (U' v) v
          go (inl t) = subst (λ (x : ℕ). Over P' K' (U' x) x) (sym t) (subst (λ (r : Option ℕ). Over P' K' r w) (sym uw) (lower (keep_low (λ y l. same y) lw) oc))
          go (inr s) = let j : K v ≡ true = sym (same v) ∙ kv in subst (λ (r : Option ℕ). Over P' K' r v) (sym (rest v s)) (keep (λ x. s (low_one lv x lw)) (λ m x. s (low_one lv (subst (λ (a : ℕ). Low P K L v a) qc x) lw)) (here j) (in_live v j) (up v j))

    -- an edge less: P and K are then the new ones
    module _ (in_live : (v : ℕ) → K v ≡ true → L v ≡ true) (U U' : ℕ → Option ℕ) (total : (v : ℕ) → (o : Option ℕ) × Over P K o v) (up : (v : ℕ) → K' v ≡ true → Over P' K' (U' v) v) where
      pub remove_stand : {w z : ℕ} → K q ≡ false → Low P K L w c → Low P K L z q → U w ≡ none → ((z ≡ w → ⊥) → Over P K (U z) q) → ((v : ℕ) → (v ≡ w → ⊥) → (v ≡ z → ⊥) → (v ≡ q → ⊥) → U v ≡ U' v) → (v : ℕ) → K v ≡ true → Over P K (U v) v
      remove_stand {w} {z} n lw lz uw oz rest v kv = go (eq? v w) (eq? v z) (eq? v q)
        where
          go : (v ≡ w) ⊎ (v ≡ w → ⊥) → (v ≡ z) ⊎ (v ≡ z → ⊥) → (v ≡ q) ⊎ (v ≡ q → ⊥) → Over P K (U v) v
          go (inl t) b d = subst (λ (x : ℕ). Over P K (U x) x) (sym t) (subst (λ (o : Option ℕ). Over P K o w) (sym uw) (lower lw (root ed.before refl)))
          go (inr s) (inl t) d = subst (λ (x : ℕ). Over P K (U x) x) (sym t) (lower lz (oz (λ a. s (t ∙ a))))
          go (inr s) (inr r) (inl t) = absurd (clash kv (ap K t ∙ n))
          go (inr s) (inr r) (inr t) = let m : _ = total v in subst (λ (o : Option ℕ). Over P K o v) (over_one (keep (λ x. s (low_one lv x lw)) (λ i x. r (low_one lv x lz)) (here kv) (in_live v kv) m.1) (up v (ed.same v t ∙ kv)) ∙ sym (rest v s r t)) m.1

      -- nothing ceases to stand
      pub remove_same : {w : ℕ} → ((v : ℕ) → K' v ≡ K v) → q ≡ c → Low P K L w c → U w ≡ none → ((v : ℕ) → (v ≡ w → ⊥) → U v ≡ U' v) → (v : ℕ) → K v ≡ true → Over P K (U v) v
      remove_same {w} same qc lw uw rest v kv = go (eq? v w)
        where
          go : (v ≡ w) ⊎ (v ≡ w → ⊥) → Over P K (U v) v
          go (inl t) = subst (λ (x : ℕ). Over P K (U x) x) (sym t) (subst (λ (o : Option ℕ). Over P K o w) (sym uw) (lower lw (root ed.before refl)))
          go (inr s) = let m : _ = total v in subst (λ (o : Option ℕ). Over P K o v) (over_one (keep (λ x. s (low_one lv x lw)) (λ i x. s (low_one lv (subst (λ (a : ℕ). Low P K L v a) qc x) lw)) (here kv) (in_live v kv) m.1) (up v (same v ∙ kv)) ∙ sym (rest v s)) m.1

-- there is one over each row, where ranks are bounded
pub over_total : (P : Par) (K : ℕ → Bool) (rank : ℕ → ℕ) (top : ℕ) → Ranked P rank → ((b p : ℕ) → P b ≡ some p → rank p < top) → (k v : ℕ) → top ≤ k + rank v → (o : Option ℕ) × Over P K o v
over_total P K rank top ok bd zero v h = at_top (P v) refl
  where
    at_top : (o : Option ℕ) → P v ≡ o → (o : Option ℕ) × Over P K o v
    at_top none e = (none, root e refl)
    at_top (some p) e = absurd (omega (arith, ok.grows e, bd v p e))
over_total P K rank top ok bd (suc k) v h = go (P v) refl (λ p l. over_total P K rank top ok bd k p l)
  where
    stand : (p : ℕ) → P v ≡ some p → (b : Bool) → K p ≡ b → ((o : Option ℕ) × Over P K o p) → (o : Option ℕ) × Over P K o v
    stand p e true t r = (some p, hit e t refl)
    stand p e false t r = (r.0, on e t r.1)

    go : (o : Option ℕ) → P v ≡ o → ((p : ℕ) → top ≤ k + rank p → (o : Option ℕ) × Over P K o p) → (o : Option ℕ) × Over P K o v
    go none e ih = (none, root e refl)
    go (some p) e ih = stand p e (K p) refl (ih p (omega (arith, ok.grows e)))
