-- Marking the mutations of a site: with the rows that are left, the columns come to what they are to be.
use mathlib.Core.Path.{◌≡◌, refl, sym, ap, ap₂, subst, ◌∙◌}
use mathlib.Core.Bool.{Bool, true, false}
use mathlib.Core.List.{List}
use mathlib.Core.Logic.{◌⊎◌, inl, inr}
use Prim.Native.Nat.{ℕ, zero, suc, ◌+◌, ◌-◌, ◌<◌, ◌≤◌}
use native.Mathlib.Omega.{arith}
use lib.ListN.{length, set, length-set}
use lib.Seq.{get_or-set_same, get_or-set_other}
use borrow.Author.Tests.{eq-eqb, ne_eqb}
use Rattle.meaning.specs.Words.{at, any, rows_from, rows}
use Rattle.meaning.specs.Rows.{Mutation, MutationColumns, muts_of}
use Rattle.meaning.specs.Allele.{sits, carries, last_state}
use Rattle.laws.specs.Bools.{eq?}
use Rattle.bridge.specs.Sites.{mutation_row, any_end, any_hit, any_miss, last_end, last_hit, last_miss}
use Rattle.carrying.specs.Spans.{InSpan}
use Rattle.carrying.specs.Stamped.{stamp_if, Marked}

stamp_same : (b : Bool) (t : ℕ) → stamp_if b t t ≡ t
unfolding stamp_if
stamp_same true t = refl
stamp_same false t = refl

-- the mutation rows from row j on
abbrev pub rest : MutationColumns → ℕ → List Mutation
rest M j = rows_from (mutation_row (λ r. r) M) j (length M.site - j)

-- ---- one mutation row

module _ (M : MutationColumns) (i v j : ℕ) where
  abbrev g : ℕ → Mutation
  g = mutation_row (λ r. r) M

  pub elsewhere : (at M.site j ≡ i → ⊥) → sits i v (g j) ≡ false
  unfolding sits
  elsewhere n = rw (ne_eqb (at M.site j) i n)

  pub on_other : (at M.node j ≡ v → ⊥) → at M.site j ≡ i → sits i v (g j) ≡ false
  unfolding sits
  on_other n s = rw (eq-eqb (at M.site j) i s) (ne_eqb (at M.node j) v n)

  pub on_row : at M.node j ≡ v → at M.site j ≡ i → sits i v (g j) ≡ true
  unfolding sits
  on_row q s = rw (eq-eqb (at M.site j) i s) (eq-eqb (at M.node j) v q)

  -- a row that is not the site's on v changes nothing
  module _ (f : j < length M.site → sits i v (g j) ≡ false) where
    any_skip : any (sits i v) (rest M (j + 1)) ≡ any (sits i v) (rest M j)
    any_skip = go (length M.site - j) refl
      where
        go : (k : ℕ) → length M.site - j ≡ k → any (sits i v) (rest M (j + 1)) ≡ any (sits i v) (rest M j)
        go zero e =
            let a : length M.site - (j + 1) ≡ 0 = omega arith in
            ap (λ k. any (sits i v) (rows_from g (j + 1) k)) a ∙ any_end i v g (j + 1) ∙ sym (ap (λ k. any (sits i v) (rows_from g j k)) e ∙ any_end i v g j)
        go (suc k) e =
            let a : length M.site - (j + 1) ≡ k = omega arith in
            let n : j + 1 ≡ suc j = omega arith in
            ap₂ (λ l k. any (sits i v) (rows_from g l k)) n a ∙ sym (ap (λ k. any (sits i v) (rows_from g j k)) e ∙ any_miss i v g j k (f (omega arith)))

    last_skip : (s : ℕ) → last_state i v (rest M (j + 1)) s ≡ last_state i v (rest M j) s
    last_skip s = go (length M.site - j) refl
      where
        go : (k : ℕ) → length M.site - j ≡ k → last_state i v (rest M (j + 1)) s ≡ last_state i v (rest M j) s
        go zero e =
            let a : length M.site - (j + 1) ≡ 0 = omega arith in
            ap (λ k. last_state i v (rows_from g (j + 1) k) s) a ∙ last_end i v g (j + 1) s ∙ sym (ap (λ k. last_state i v (rows_from g j k) s) e ∙ last_end i v g j s)
        go (suc k) e =
            let a : length M.site - (j + 1) ≡ k = omega arith in
            let n : j + 1 ≡ suc j = omega arith in
            ap₂ (λ l k. last_state i v (rows_from g l k) s) n a ∙ sym (ap (λ k. last_state i v (rows_from g j k) s) e ∙ last_miss i v g j k s (f (omega arith)))

  -- the site's mutation on v
  module _ (l : j < length M.site) (q : sits i v (g j) ≡ true) where
    left_one : length M.site - j ≡ suc (length M.site - (j + 1))
    left_one = omega arith

    stamp_hit : (t m : ℕ) → stamp_if (any (sits i v) (rest M (j + 1))) t t ≡ stamp_if (any (sits i v) (rest M j)) t m
    unfolding stamp_if
    stamp_hit t m =
        stamp_same (any (sits i v) (rest M (j + 1))) t
        ∙ sym (ap (λ k. stamp_if (any (sits i v) (rows_from g j k)) t m) left_one ∙ ap (λ b. stamp_if b t m) (any_hit i v g j (length M.site - (j + 1)) q))

    last_one : (s : ℕ) → last_state i v (rest M (j + 1)) (at M.derived j) ≡ last_state i v (rest M j) s
    last_one s =
        let n : j + 1 ≡ suc j = omega arith in
        ap (λ k. last_state i v (rows_from g k (length M.site - (j + 1))) (at M.derived j)) n
        ∙ sym (ap (λ k. last_state i v (rows_from g j k) s) left_one ∙ last_hit i v g j (length M.site - (j + 1)) s q)

-- ---- no mutation row left

module _ (M : MutationColumns) (i v : ℕ) where
  any_none : (k j : ℕ) → ((l : ℕ) → j ≤ l → l < j + k → sits i v (mutation_row (λ r. r) M l) ≡ false) → any (sits i v) (rows_from (mutation_row (λ r. r) M) j k) ≡ false
  any_none zero j f = any_end i v (mutation_row (λ r. r) M) j
  any_none (suc k) j f = any_miss i v (mutation_row (λ r. r) M) j k (f j (omega arith) (omega arith)) ∙ any_none k (suc j) (λ l a b. f l (omega arith) (omega arith))

  last_none : (k j s : ℕ) → ((l : ℕ) → j ≤ l → l < j + k → sits i v (mutation_row (λ r. r) M l) ≡ false) → last_state i v (rows_from (mutation_row (λ r. r) M) j k) s ≡ s
  last_none zero j s f = last_end i v (mutation_row (λ r. r) M) j s
  last_none (suc k) j s f = last_miss i v (mutation_row (λ r. r) M) j k s (f j (omega arith) (omega arith)) ∙ last_none k (suc j) s (λ l a b. f l (omega arith) (omega arith))

-- ---- the loop

pub record Underway (M : MutationColumns) (i t : ℕ) (own₀ told₀ state₀ : List ℕ) (j : ℕ) (own told state : List ℕ) : Type 0 where
  pub own_long : length own ≡ length own₀
  pub told_long : length told ≡ length told₀
  pub state_long : length state ≡ length state₀
  pub owned : (v : ℕ) → stamp_if (any (sits i v) (rest M j)) t (at own v) ≡ stamp_if (carries (muts_of (λ r. r) M) i v) t (at own₀ v)
  pub telling : (v : ℕ) → stamp_if (any (sits i v) (rest M j)) t (at told v) ≡ stamp_if (carries (muts_of (λ r. r) M) i v) t (at told₀ v)
  pub states : (v : ℕ) → last_state i v (rest M j) (at state v) ≡ last_state i v (muts_of (λ r. r) M) (at state₀ v)

-- columns that are equal are as far
pub became : {M : MutationColumns} {i t : ℕ} {own₀ told₀ state₀ : List ℕ} {j : ℕ} {own told state own' told' state' : List ℕ} → own' ≡ own → told' ≡ told → state' ≡ state → Underway M i t own₀ told₀ state₀ j own told state → Underway M i t own₀ told₀ state₀ j own' told' state'
became {M} {i} {t} {own₀} {told₀} {state₀} {j} {own} {told} {state} {own'} {told'} {state'} p q r w =
    subst (λ (o : List ℕ). Underway M i t own₀ told₀ state₀ j o told' state') (sym p)
    (subst (λ (o : List ℕ). Underway M i t own₀ told₀ state₀ j own o state') (sym q)
    (subst (λ (o : List ℕ). Underway M i t own₀ told₀ state₀ j own told o) (sym r) w))

module _ {M : MutationColumns} {i t : ℕ} {own₀ told₀ state₀ : List ℕ} where
  at_first : Underway M i t own₀ told₀ state₀ 0 own₀ told₀ state₀
  unfolding carries muts_of rows
  at_first =
      let q : length M.site - 0 ≡ length M.site = omega arith in
      record {
        own_long = refl;
        told_long = refl;
        state_long = refl;
        owned = λ v. ap (λ k. stamp_if (any (sits i v) (rows_from (mutation_row (λ r. r) M) 0 k)) t (at own₀ v)) q;
        telling = λ v. ap (λ k. stamp_if (any (sits i v) (rows_from (mutation_row (λ r. r) M) 0 k)) t (at told₀ v)) q;
        states = λ v. ap (λ k. last_state i v (rows_from (mutation_row (λ r. r) M) 0 k) (at state₀ v)) q;
      }

  module _ {j : ℕ} {own told state : List ℕ} (w : Underway M i t own₀ told₀ state₀ j own told state) where
    -- a mutation at another site, or none, changes nothing
    pub skip : (j < length M.site → at M.site j ≡ i → ⊥) → Underway M i t own₀ told₀ state₀ (j + 1) own told state
    skip n = record {
      own_long = w.own_long;
      told_long = w.told_long;
      state_long = w.state_long;
      owned = λ v. ap (λ b. stamp_if b t (at own v)) (any_skip M i v j (λ l. elsewhere M i v j (n l))) ∙ w.owned v;
      telling = λ v. ap (λ b. stamp_if b t (at told v)) (any_skip M i v j (λ l. elsewhere M i v j (n l))) ∙ w.telling v;
      states = λ v. last_skip M i v j (λ l. elsewhere M i v j (n l)) (at state v) ∙ w.states v;
    }

    -- a mutation at the site stamps its node and leaves its state there
    module _ (l : j < length M.site) (s : at M.site j ≡ i) where
      abbrev u : ℕ
      u = at M.node j

      stamped_one : (column : List ℕ) → u < length column → (v : ℕ) → stamp_if (any (sits i v) (rest M (j + 1))) t (at (set column u t) v) ≡ stamp_if (any (sits i v) (rest M j)) t (at column v)
      stamped_one column a v = go (eq? v u)
        where
          go : (v ≡ u) ⊎ (v ≡ u → ⊥) → stamp_if (any (sits i v) (rest M (j + 1))) t (at (set column u t) v) ≡ stamp_if (any (sits i v) (rest M j)) t (at column v)
          go (inl q) = ap (stamp_if (any (sits i v) (rest M (j + 1))) t) (ap (at (set column u t)) q ∙ get_or-set_same column u t 0 a) ∙ stamp_hit M i v j l (on_row M i v j (sym q) s) t (at column v)
          go (inr n) = ap (stamp_if (any (sits i v) (rest M (j + 1))) t) (get_or-set_other column u v t 0 n) ∙ ap (λ b. stamp_if b t (at column v)) (any_skip M i v j (λ _. on_other M i v j (λ z. n (sym z)) s))

      left_one_state : u < length state → (v : ℕ) → last_state i v (rest M (j + 1)) (at (set state u (at M.derived j)) v) ≡ last_state i v (rest M j) (at state v)
      left_one_state a v = go (eq? v u)
        where
          go : (v ≡ u) ⊎ (v ≡ u → ⊥) → last_state i v (rest M (j + 1)) (at (set state u (at M.derived j)) v) ≡ last_state i v (rest M j) (at state v)
          go (inl q) = ap (last_state i v (rest M (j + 1))) (ap (at (set state u (at M.derived j))) q ∙ get_or-set_same state u (at M.derived j) 0 a) ∙ last_one M i v j l (on_row M i v j (sym q) s) (at state v)
          go (inr n) = ap (last_state i v (rest M (j + 1))) (get_or-set_other state u v (at M.derived j) 0 n) ∙ last_skip M i v j (λ _. on_other M i v j (λ z. n (sym z)) s) (at state v)

      pub put : u < length own → u < length told → u < length state → Underway M i t own₀ told₀ state₀ (j + 1) (set own u t) (set told u t) (set state u (at M.derived j))
      put a b d = record {
        own_long = length-set own u t ∙ w.own_long;
        told_long = length-set told u t ∙ w.told_long;
        state_long = length-set state u (at M.derived j) ∙ w.state_long;
        owned = λ v. stamped_one own a v ∙ w.owned v;
        telling = λ v. stamped_one told b v ∙ w.telling v;
        states = λ v. left_one_state d v ∙ w.states v;
      }

    -- with no mutation of the site left, the columns are what they are to be
    pub marked_all : {from to : ℕ} → InSpan M.site i from to → to ≤ j → Marked M i t own₀ told₀ state₀ own told state
    unfolding stamp_if
    marked_all {from} {to} span h = record {
      own_cell = λ v. sym (ap (λ b. stamp_if b t (at own v)) (any_none M i v (length M.site - j) j (none v))) ∙ w.owned v;
      told_cell = λ v. sym (ap (λ b. stamp_if b t (at told v)) (any_none M i v (length M.site - j) j (none v))) ∙ w.telling v;
      state_cell-is = λ v. sym (last_none M i v (length M.site - j) j (at state v) (none v)) ∙ w.states v;
    }
      where
        none : (v l : ℕ) → j ≤ l → l < j + (length M.site - j) → sits i v (mutation_row (λ r. r) M l) ≡ false
        none v l a b = elsewhere M i v l (λ q. omega (arith, (span.row l (omega arith) q).1))

  -- the rows before the span are at other sites
  pub begin : {from to : ℕ} → InSpan M.site i from to → Underway M i t own₀ told₀ state₀ from own₀ told₀ state₀
  begin {from} {to} span = go from (omega arith)
    where
      go : (k : ℕ) → k ≤ from → Underway M i t own₀ told₀ state₀ k own₀ told₀ state₀
      go zero h = at_first
      go (suc k) h =
          let e : k + 1 ≡ suc k = omega arith in
          subst (λ (n : ℕ). Underway M i t own₀ told₀ state₀ n own₀ told₀ state₀) e (skip (go k (omega arith)) (λ l q. omega (arith, (span.row k l q).0)))
