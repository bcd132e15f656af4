-- One edge begins or ends: the column of parents stays that of the edges that hold.
use mathlib.Core.Path.{◌≡◌, sym, ap, subst, ◌∙◌}
use mathlib.Core.Bool.{Bool, true, false}
use mathlib.Core.List.{List}
use mathlib.Core.Logic.{◌⊎◌, inl, inr, ⊎_elim}
use Prim.Native.Nat.{ℕ, ◌+◌, ◌<◌, ◌≤◌}
use native.Mathlib.Omega.{arith}
use lib.ListN.{length, get_or, set, length-set}
use lib.Seq.{get_or-set_same, get_or-set_other}
use Rattle.laws.specs.Bools.{clash, eq?}
use Rattle.mend.specs.Right as right
use Rattle.mend.specs.Kept.{Enters}
use Rattle.tree.specs.Sweep.{Index, Cut, Holds, acts, Plan, Between}
use Rattle.tree.proofs.Seeing.{not_seen, seen_here, acts_of, of_acts, not_acts, not_begun, acts_other, acts_still, past_seen, next_seen, seen_past, seen_next}

-- ---- the column of parents, for any set of edges that hold

module _ {A B : ℕ → Bool} (ch pa P : List ℕ) (e : ℕ) (ho : Holds A ch pa P) (he : e < length ch) (hc : get_or ch e 0 < length P) (off : (f : ℕ) → (f ≡ e → ⊥) → B f ≡ A f) (alone : (f : ℕ) → f < length ch → (f ≡ e → ⊥) → A f ≡ true → get_or ch f 0 ≡ get_or ch e 0 → ⊥) where
  kept_yes : (x f : ℕ) → f < length ch → B f ≡ true → (f ≡ e → ⊥) → get_or (set P (get_or ch e 0) x) (get_or ch f 0) 0 ≡ get_or pa f 0
  kept_yes x f hf t z = let s : A f ≡ true = sym (off f z) ∙ t in get_or-set_other P (get_or ch e 0) (get_or ch f 0) x 0 (λ c. alone f hf z s c) ∙ ho.yes f hf s

  kept_nay : (x u : ℕ) → u < length (set P (get_or ch e 0) x) → ((f : ℕ) → f < length ch → B f ≡ true → get_or ch f 0 ≡ u → ⊥) → (u ≡ get_or ch e 0 → ⊥) → get_or (set P (get_or ch e 0) x) u 0 ≡ 4294967295
  kept_nay x u hu n z = get_or-set_other P (get_or ch e 0) u x 0 z ∙ ho.nay u (rw length-set at hu) (λ f hf t c. n f hf (off f (λ q. z (sym c ∙ ap (λ (v : ℕ). get_or ch v 0) q)) ∙ t) c)

  -- the edge e ends
  holds_less : B e ≡ false → Holds B ch pa (set P (get_or ch e 0) 4294967295)
  holds_less j = record { yes = λ f hf t. yes f hf t (eq? f e); nay = λ u hu n. nay u hu n (eq? u (get_or ch e 0)) }
    where
      yes : (f : ℕ) → f < length ch → B f ≡ true → (f ≡ e) ⊎ (f ≡ e → ⊥) → get_or (set P (get_or ch e 0) 4294967295) (get_or ch f 0) 0 ≡ get_or pa f 0
      yes f hf t (inl z) = absurd (clash t (ap B z ∙ j))
      yes f hf t (inr z) = kept_yes 4294967295 f hf t z

      nay : (u : ℕ) → u < length (set P (get_or ch e 0) 4294967295) → ((f : ℕ) → f < length ch → B f ≡ true → get_or ch f 0 ≡ u → ⊥) → (u ≡ get_or ch e 0) ⊎ (u ≡ get_or ch e 0 → ⊥) → get_or (set P (get_or ch e 0) 4294967295) u 0 ≡ 4294967295
      nay u hu n (inl z) = ap (λ (v : ℕ). get_or (set P (get_or ch e 0) 4294967295) v 0) z ∙ get_or-set_same P (get_or ch e 0) 4294967295 0 hc
      nay u hu n (inr z) = kept_nay 4294967295 u hu n z

  -- the child of an edge that is yet to begin has no parent
  holds_free : A e ≡ false → get_or P (get_or ch e 0) 0 ≡ 4294967295
  holds_free k = ho.nay (get_or ch e 0) hc (λ f hf t c. alone f hf (λ z. clash t (ap A z ∙ k)) t c)

  -- the edge e begins
  holds_more : B e ≡ true → Holds B ch pa (set P (get_or ch e 0) (get_or pa e 0))
  holds_more j = record { yes = λ f hf t. yes f hf t (eq? f e); nay = λ u hu n. nay u hu n (eq? u (get_or ch e 0)) }
    where
      yes : (f : ℕ) → f < length ch → B f ≡ true → (f ≡ e) ⊎ (f ≡ e → ⊥) → get_or (set P (get_or ch e 0) (get_or pa e 0)) (get_or ch f 0) 0 ≡ get_or pa f 0
      yes f hf t (inl z) = subst (λ (v : ℕ). get_or (set P (get_or ch e 0) (get_or pa e 0)) (get_or ch v 0) 0 ≡ get_or pa v 0) (sym z) (get_or-set_same P (get_or ch e 0) (get_or pa e 0) 0 hc)
      yes f hf t (inr z) = kept_yes (get_or pa e 0) f hf t z

      nay : (u : ℕ) → u < length (set P (get_or ch e 0) (get_or pa e 0)) → ((f : ℕ) → f < length ch → B f ≡ true → get_or ch f 0 ≡ u → ⊥) → (u ≡ get_or ch e 0) ⊎ (u ≡ get_or ch e 0 → ⊥) → get_or (set P (get_or ch e 0) (get_or pa e 0)) u 0 ≡ 4294967295
      nay u hu n (inl z) = absurd (n e he j (sym z))
      nay u hu n (inr z) = kept_nay (get_or pa e 0) u hu n z

-- ---- the cursors

-- an edge that holds begins below hi and ends at from or later
pub spans : {T l r pa ch bl br P : List ℕ} {n i j lo hi from to f : ℕ} → Plan T l r pa ch bl br n → Between l r pa ch bl br P i j lo hi from to → f < length ch → acts bl br i j f ≡ true → (get_or l f 0 < hi) × (from ≤ get_or r f 0)
spans {bl = bl} {br} {i = i} {j} {f = f} pl bt hf a = let s : _ = acts_of bl br i j f a in (past_seen pl.lefts bt.begun f s.0, next_seen pl.rights bt.ended f hf s.1)

-- no two edges of one child hold at once
apart : {T l r pa ch bl br P : List ℕ} {n i j lo to e : ℕ} → Plan T l r pa ch bl br n → (y : ℕ) → Between l r pa ch bl br P i j lo y y to → e < length ch → get_or l e 0 < y → y ≤ get_or r e 0 → (f : ℕ) → f < length ch → (f ≡ e → ⊥) → acts bl br i j f ≡ true → get_or ch f 0 ≡ get_or ch e 0 → ⊥
apart {e = e} pl y bt he a b f hf n k c = let s : _ = spans pl bt hf k in ⊎_elim (λ z. omega (arith, s.0, s.1)) (λ z. omega (arith, s.0, s.1)) (pl.checked.apart f e hf he n c)

-- the cursor goes on by one
cut_on : {key b : List ℕ} {i lo x : ℕ} → Cut key b i lo (x + 1) → i < length b → get_or key (get_or b i 0) 0 ≤ x → Cut key b (i + 1) lo (x + 1)
cut_on {key} {b} {i} {lo} {x} c h l = record {
  within = omega arith;
  past = λ k a. ⊎_elim (λ (z : k ≡ i). omega (arith, ap (λ (y : ℕ). get_or key (get_or b y 0) 0) z)) (λ (z : k ≡ i → ⊥). c.past k (omega arith)) (eq? k i);
  next = λ k a d. c.next k (omega arith) d;
}

-- the cursor has come to the end, or to a key above x
pub cut_end : {key b : List ℕ} {i lo m : ℕ} (x : ℕ) → Index key b m → Cut key b i lo (x + 1) → (i < length b → x < get_or key (get_or b i 0) 0) → Cut key b i (x + 1) (x + 1)
cut_end {key} {b} {i} x ix c h = record {
  within = c.within;
  past = c.past;
  next = λ k a d. omega (arith, h (omega arith), ix.sorted i k a d);
}

-- keys below hi are below any greater number
pub cut_wide : {key b : List ℕ} {i lo hi to : ℕ} → hi ≤ to → Cut key b i lo hi → Cut key b i lo to
cut_wide h c = record { within = c.within; past = λ k a. omega (arith, c.past k a); next = c.next }

-- ---- one edge ends

module _ {T l r pa ch bl br P : List ℕ} {i j x : ℕ} (pl : Plan T l r pa ch bl br (length P)) (bt : Between l r pa ch bl br P i j x x x (x + 1)) (hj : j < length br) (hx : get_or r (get_or br j 0) 0 ≤ x) where
  end_in : get_or br j 0 < length ch
  end_in = pl.rights.rows j hj

  end_begun : get_or l (get_or br j 0) 0 < x
  end_begun = omega (arith, pl.checked.wide (get_or br j 0) end_in)

  end_acts : acts bl br i j (get_or br j 0) ≡ true
  end_acts = of_acts bl br i j (get_or br j 0) (seen_past pl.lefts bt.begun (get_or br j 0) end_in end_begun) (not_seen j pl.rights hj)

  end_last : x ≤ get_or r (get_or br j 0) 0
  end_last = bt.ended.next j (omega arith) hj

  -- the edge at the cursor holds, so its child has a parent
  pub end_had : length P ≤ right.none → get_or P (get_or ch (get_or br j 0) 0) 0 ≡ right.none → ⊥
  end_had h z = omega (arith, bt.holds.yes (get_or br j 0) end_in end_acts, pl.checked.parent (get_or br j 0) end_in)

  pub end_child : get_or ch (get_or br j 0) 0 < length P
  end_child = pl.checked.child (get_or br j 0) end_in

  pub end_one : (P' : List ℕ) → P' ≡ set P (get_or ch (get_or br j 0) 0) right.none → Between l r pa ch bl br P' i (j + 1) x x x (x + 1)
  end_one P' is = record {
    begun = bt.begun;
    ended = cut_on bt.ended hj hx;
    holds = rw is (holds_less ch pa P (get_or br j 0) bt.holds end_in end_child (acts_other bl br i j) (apart pl x bt end_in end_begun end_last) (not_acts bl br i (j + 1) (get_or br j 0) (seen_here br j)));
  }

-- ---- one edge begins

module _ {T l r pa ch bl br P : List ℕ} {i j x : ℕ} (pl : Plan T l r pa ch bl br (length P)) (bt : Between l r pa ch bl br P i j x (x + 1) (x + 1) (x + 1)) (hi : i < length bl) (hx : get_or l (get_or bl i 0) 0 ≤ x) where
  begin_in : get_or bl i 0 < length ch
  begin_in = pl.lefts.rows i hi

  begin_last : x + 1 ≤ get_or r (get_or bl i 0) 0
  begin_last = omega (arith, pl.checked.wide (get_or bl i 0) begin_in, bt.begun.next i (omega arith) hi)

  begin_child : get_or ch (get_or bl i 0) 0 < length P
  begin_child = pl.checked.child (get_or bl i 0) begin_in

  begin_alone : (f : ℕ) → f < length ch → (f ≡ get_or bl i 0 → ⊥) → acts bl br i j f ≡ true → get_or ch f 0 ≡ get_or ch (get_or bl i 0) 0 → ⊥
  begin_alone = apart pl (x + 1) bt begin_in (omega arith) begin_last

  -- the edge at the cursor may be put in
  pub begin_enters : Enters T P (get_or ch (get_or bl i 0) 0) (get_or pa (get_or bl i 0) 0)
  begin_enters = record {
    child = begin_child;
    parent = pl.checked.parent (get_or bl i 0) begin_in;
    free = holds_free {B = acts bl br (i + 1) j} ch pa P (get_or bl i 0) bt.holds begin_in begin_child (acts_still bl br i j) begin_alone (not_begun bl br i j (get_or bl i 0) (not_seen i pl.lefts hi));
    older = pl.checked.older (get_or bl i 0) begin_in;
  }

  pub begin_one : (P' : List ℕ) → P' ≡ set P (get_or ch (get_or bl i 0) 0) (get_or pa (get_or bl i 0) 0) → Between l r pa ch bl br P' (i + 1) j x (x + 1) (x + 1) (x + 1)
  begin_one P' is = record {
    begun = cut_on bt.begun hi hx;
    ended = bt.ended;
    holds = rw is (holds_more ch pa P (get_or bl i 0) bt.holds begin_in begin_child (acts_still bl br i j) begin_alone (of_acts bl br (i + 1) j (get_or bl i 0) (seen_here bl i) (seen_next pl.rights bt.ended (get_or bl i 0) begin_last)));
  }

pub plan_on : {T l r pa ch bl br : List ℕ} {n m : ℕ} → m ≡ n → Plan T l r pa ch bl br n → Plan T l r pa ch bl br m
plan_on e p = rw e p

-- no edge is left to end
pub end_all : {T l r pa ch bl br P : List ℕ} {n i j x : ℕ} → Plan T l r pa ch bl br n → Between l r pa ch bl br P i j x x x (x + 1) → (j < length br → x < get_or r (get_or br j 0) 0) → Between l r pa ch bl br P i j x x (x + 1) (x + 1)
end_all {x = x} pl bt h = record { begun = bt.begun; ended = cut_end x pl.rights bt.ended h; holds = bt.holds }

-- no edge is left to begin
pub begin_all : {T l r pa ch bl br P : List ℕ} {n i j x : ℕ} → Plan T l r pa ch bl br n → Between l r pa ch bl br P i j x (x + 1) (x + 1) (x + 1) → (i < length bl → x < get_or l (get_or bl i 0) 0) → Between l r pa ch bl br P i j (x + 1) (x + 1) (x + 1) (x + 1)
begin_all {x = x} pl bt h = record { begun = cut_end x pl.lefts bt.begun h; ended = bt.ended; holds = bt.holds }

-- past the last edge of an order none is left
pub ended_all : {T l r pa ch bl br P : List ℕ} {n i j x : ℕ} → Plan T l r pa ch bl br n → Between l r pa ch bl br P i j x x x (x + 1) → length br ≤ j → Between l r pa ch bl br P i (length br) x x (x + 1) (x + 1)
ended_all {br = br} {j = j} {x = x} pl bt h = let e : j ≡ length br = omega (arith, bt.ended.within) in rw (sym e) (end_all pl bt (λ k. absurd (omega arith)))

pub begun_all : {T l r pa ch bl br P : List ℕ} {n i j x : ℕ} → Plan T l r pa ch bl br n → Between l r pa ch bl br P i j x (x + 1) (x + 1) (x + 1) → length bl ≤ i → Between l r pa ch bl br P (length bl) j (x + 1) (x + 1) (x + 1) (x + 1)
begun_all {bl = bl} {i = i} {x = x} pl bt h = let e : i ≡ length bl = omega (arith, bt.begun.within) in rw (sym e) (begin_all pl bt (λ k. absurd (omega arith)))
