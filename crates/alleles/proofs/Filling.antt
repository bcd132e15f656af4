-- Filling columns with the marks and states of the mutations gone over so far.
use mathlib.Core.Path.{◌≡◌, refl, sym, ap, ap₂, subst₂, ◌∙◌}
use mathlib.Core.Bool.{Bool, true, false}
use mathlib.Core.List.{List}
use mathlib.Core.Logic.{◌⊎◌, inl, inr}
use Prim.Native.Nat.{ℕ, suc, ◌+◌, ◌-◌, ◌<◌, ◌≤◌}
use native.Mathlib.Omega.{arith}
use lib.ListN.{length, set, replicate, length-set, length-replicate, get_or-replicate}
use lib.Seq.{ext_get_or, get_or-set_same, get_or-set_other}
use borrow.Author.Tests.{eq-eqb, ne_eqb}
use Rattle.meaning.specs.Words.{at, any, rows_from, rows}
use Rattle.meaning.specs.Rows.{Mutation, MutationColumns, muts_of}
use Rattle.meaning.specs.Allele.{sits, carries, last_state}
use Rattle.laws.specs.Bools.{eq?}
use Rattle.laws.specs.Counting.{length_rows, get_rows}
use Rattle.bridge.specs.Sites.{mutation_row, any_end, any_hit, any_miss, last_end, last_hit, last_miss}
use Rattle.missing.specs.Marks.{Naming, mark, mark_after, state_after, marks_of, states_of}

-- rows made alike below n are the same
pub rows_same : (f g : ℕ → ℕ) (n : ℕ) → ((v : ℕ) → v < n → f v ≡ g v) → rows f n ≡ rows g n
rows_same f g n h = ext_get_or 0 (rows f n) (rows g n) (length_rows f n ∙ sym (length_rows g n)) (λ v l. let k : v < n = omega (arith, length_rows f n) in get_rows f 0 n v k ∙ h v k ∙ sym (get_rows g 0 n v k))

-- ---- the mutations from row j on

mark_one : (t : Bool) → mark t 1 ≡ 1
unfolding mark
mark_one true = refl
mark_one false = refl

-- with the mutations from row j on, the columns come to what they are to be with all of them
pub record Underway (M : MutationColumns) (i : ℕ) (has₀ state₀ : List ℕ) (j : ℕ) (has state : List ℕ) : Type 0 where
  pub has_long : length has ≡ length has₀
  pub state_long : length state ≡ length state₀
  pub marks : (v : ℕ) → v < length has₀ → mark (any (sits i v) (rows_from (mutation_row (λ r. r) M) j (length M.site - j))) (at has v) ≡ mark_after M i has₀ v
  pub states : (v : ℕ) → v < length state₀ → last_state i v (rows_from (mutation_row (λ r. r) M) j (length M.site - j)) (at state v) ≡ state_after M i state₀ v

-- columns that are equal are as far
pub became : {M : MutationColumns} {i : ℕ} {has₀ state₀ : List ℕ} {j : ℕ} {has state has' state' : List ℕ} → has' ≡ has → state' ≡ state → Underway M i has₀ state₀ j has state → Underway M i has₀ state₀ j has' state'
became {M} {i} {has₀} {state₀} {j} p q w = subst₂ (λ (h s : List ℕ). Underway M i has₀ state₀ j h s) (sym p) (sym q) w

module _ (M : MutationColumns) (i : ℕ) (has₀ state₀ : List ℕ) where
  pub begin : Underway M i has₀ state₀ 0 has₀ state₀
  unfolding carries muts_of rows mark_after state_after
  begin =
      let q : length M.site - 0 ≡ length M.site = omega arith in
      record {
        has_long = refl;
        state_long = refl;
        marks = λ v l. ap (λ k. mark (any (sits i v) (rows_from (mutation_row (λ r. r) M) 0 k)) (at has₀ v)) q;
        states = λ v l. ap (λ k. last_state i v (rows_from (mutation_row (λ r. r) M) 0 k) (at state₀ v)) q;
      }

  module _ (j : ℕ) (has state : List ℕ) (l : j < length M.site) (w : Underway M i has₀ state₀ j has state) where
    left_one : length M.site - j ≡ suc (length M.site - (j + 1))
    left_one = omega arith

    next : j + 1 ≡ suc j
    next = omega arith

    abbrev g : ℕ → Mutation
    g = mutation_row (λ r. r) M

    -- what is asked of row v before and after row j
    skip_mark : (v : ℕ) (m : ℕ) → sits i v (g j) ≡ false → mark (any (sits i v) (rows_from g (j + 1) (length M.site - (j + 1)))) m ≡ mark (any (sits i v) (rows_from g j (length M.site - j))) m
    skip_mark v m e =
        ap (λ k. mark (any (sits i v) (rows_from g k (length M.site - (j + 1)))) m) next
        ∙ ap (λ t. mark t m) (sym (any_miss i v g j (length M.site - (j + 1)) e))
        ∙ ap (λ k. mark (any (sits i v) (rows_from g j k)) m) (sym left_one)

    hit_mark : (v : ℕ) (m : ℕ) → sits i v (g j) ≡ true → mark (any (sits i v) (rows_from g (j + 1) (length M.site - (j + 1)))) 1 ≡ mark (any (sits i v) (rows_from g j (length M.site - j))) m
    unfolding mark
    hit_mark v m e =
        mark_one (any (sits i v) (rows_from g (j + 1) (length M.site - (j + 1))))
        ∙ ap (λ t. mark t m) (sym (any_hit i v g j (length M.site - (j + 1)) e))
        ∙ ap (λ k. mark (any (sits i v) (rows_from g j k)) m) (sym left_one)

    skip_state : (v s : ℕ) → sits i v (g j) ≡ false → last_state i v (rows_from g (j + 1) (length M.site - (j + 1))) s ≡ last_state i v (rows_from g j (length M.site - j)) s
    skip_state v s e =
        ap (λ k. last_state i v (rows_from g k (length M.site - (j + 1))) s) next
        ∙ sym (last_miss i v g j (length M.site - (j + 1)) s e)
        ∙ ap (λ k. last_state i v (rows_from g j k) s) (sym left_one)

    hit_state : (v s : ℕ) → sits i v (g j) ≡ true → last_state i v (rows_from g (j + 1) (length M.site - (j + 1))) (at M.derived j) ≡ last_state i v (rows_from g j (length M.site - j)) s
    hit_state v s e =
        ap (λ k. last_state i v (rows_from g k (length M.site - (j + 1))) (at M.derived j)) next
        ∙ sym (last_hit i v g j (length M.site - (j + 1)) s e)
        ∙ ap (λ k. last_state i v (rows_from g j k) s) (sym left_one)

    -- a mutation at another site changes nothing
    pub skip : (at M.site j ≡ i → ⊥) → Underway M i has₀ state₀ (j + 1) has state
    unfolding sits
    skip n =
        let e : (v : ℕ) → sits i v (g j) ≡ false = λ v. rw (ne_eqb (at M.site j) i n) in
        record {
          has_long = w.has_long;
          state_long = w.state_long;
          marks = λ v h. skip_mark v (at has v) (e v) ∙ w.marks v h;
          states = λ v h. skip_state v (at state v) (e v) ∙ w.states v h;
        }

    -- a mutation at the site marks its node and leaves its state there
    pub put : at M.site j ≡ i → at M.node j < length has → at M.node j < length state → Underway M i has₀ state₀ (j + 1) (set has (at M.node j) 1) (set state (at M.node j) (at M.derived j))
    unfolding sits
    put s a b = record {
      has_long = simp length-set w.has_long;
      state_long = simp length-set w.state_long;
      marks = λ v h. at_mark v h (eq? (at M.node j) v);
      states = λ v h. at_state v h (eq? (at M.node j) v);
    }
      where
        on : (v : ℕ) → at M.node j ≡ v → sits i v (g j) ≡ true
        on v q = rw (eq-eqb (at M.site j) i s) (eq-eqb (at M.node j) v q)

        off : (v : ℕ) → (at M.node j ≡ v → ⊥) → sits i v (g j) ≡ false
        off v q = rw (eq-eqb (at M.site j) i s) (ne_eqb (at M.node j) v q)

        at_mark : (v : ℕ) → v < length has₀ → (at M.node j ≡ v) ⊎ (at M.node j ≡ v → ⊥) → mark (any (sits i v) (rows_from g (j + 1) (length M.site - (j + 1)))) (at (set has (at M.node j) 1) v) ≡ mark_after M i has₀ v
        at_mark v h (inl q) = ap (mark (any (sits i v) (rows_from g (j + 1) (length M.site - (j + 1))))) (ap (at (set has (at M.node j) 1)) (sym q) ∙ get_or-set_same has (at M.node j) 1 0 a) ∙ hit_mark v (at has v) (on v q) ∙ w.marks v h
        at_mark v h (inr q) = ap (mark (any (sits i v) (rows_from g (j + 1) (length M.site - (j + 1))))) (get_or-set_other has (at M.node j) v 1 0 (λ z. q (sym z))) ∙ skip_mark v (at has v) (off v q) ∙ w.marks v h

        at_state : (v : ℕ) → v < length state₀ → (at M.node j ≡ v) ⊎ (at M.node j ≡ v → ⊥) → last_state i v (rows_from g (j + 1) (length M.site - (j + 1))) (at (set state (at M.node j) (at M.derived j)) v) ≡ state_after M i state₀ v
        at_state v h (inl q) = ap (last_state i v (rows_from g (j + 1) (length M.site - (j + 1)))) (ap (at (set state (at M.node j) (at M.derived j))) (sym q) ∙ get_or-set_same state (at M.node j) (at M.derived j) 0 b) ∙ hit_state v (at state v) (on v q) ∙ w.states v h
        at_state v h (inr q) = ap (last_state i v (rows_from g (j + 1) (length M.site - (j + 1)))) (get_or-set_other state (at M.node j) v (at M.derived j) 0 (λ z. q (sym z))) ∙ skip_state v (at state v) (off v q) ∙ w.states v h

  module _ (j : ℕ) (has state : List ℕ) (l : length M.site ≤ j) (w : Underway M i has₀ state₀ j has state) where
    over : length M.site - j ≡ 0
    over = omega arith

    -- with no mutation left, the columns are what they are to be
    pub marks_end : has ≡ rows (mark_after M i has₀) (length has₀)
    unfolding mark
    marks_end = ext_get_or 0 has (rows (mark_after M i has₀) (length has₀)) (w.has_long ∙ sym (length_rows (mark_after M i has₀) (length has₀)))
        (λ v h. let k : v < length has₀ = omega (arith, w.has_long) in
        ap (λ t. mark t (at has v)) (sym (any_end i v (mutation_row (λ r. r) M) j)) ∙ ap (λ n. mark (any (sits i v) (rows_from (mutation_row (λ r. r) M) j n)) (at has v)) (sym over) ∙ w.marks v k ∙ sym (get_rows (mark_after M i has₀) 0 (length has₀) v k))

    pub states_end : state ≡ rows (state_after M i state₀) (length state₀)
    states_end = ext_get_or 0 state (rows (state_after M i state₀) (length state₀)) (w.state_long ∙ sym (length_rows (state_after M i state₀) (length state₀)))
        (λ v h. let k : v < length state₀ = omega (arith, w.state_long) in
        sym (last_end i v (mutation_row (λ r. r) M) j (at state v)) ∙ ap (λ n. last_state i v (rows_from (mutation_row (λ r. r) M) j n) (at state v)) (sym over) ∙ w.states v k ∙ sym (get_rows (state_after M i state₀) 0 (length state₀) v k))

-- ---- from cleared columns

-- a cleared column is as long as it was
pub cleared_long : {h : List ℕ} (n v : ℕ) → h ≡ replicate n v → length h ≡ n
cleared_long {h} n v e = ap length e ∙ length-replicate n v

pub longer : {M : MutationColumns} {m n : ℕ} → Naming M m → n ≡ m → Naming M n
longer {M} {m} {n} a e = record { node_long = a.node_long; derived_long = a.derived_long; node_row = λ j l. omega (arith, a.node_row j l) }

module _ (M : MutationColumns) (i n : ℕ) where
  marks_cleared : rows (mark_after M i (replicate n 0)) n ≡ marks_of M i n
  unfolding marks_of mark_after
  marks_cleared = rows_same (mark_after M i (replicate n 0)) (λ v. mark (carries (muts_of (λ r. r) M) i v) 0) n (λ v l. ap (mark (carries (muts_of (λ r. r) M) i v)) (get_or-replicate n v 0 0 l))

  states_cleared : (other : ℕ) → rows (state_after M i (replicate n other)) n ≡ states_of M i other n
  unfolding states_of state_after
  states_cleared other = rows_same (state_after M i (replicate n other)) (λ v. last_state i v (muts_of (λ r. r) M) other) n (λ v l. ap (last_state i v (muts_of (λ r. r) M)) (get_or-replicate n v other 0 l))

  -- filled after it was cleared, a column has the marks
  pub marks_from : {h : List ℕ} → h ≡ replicate n 0 → rows (mark_after M i h) (length h) ≡ marks_of M i n
  marks_from {h} e = ap₂ (λ (l : List ℕ) (k : ℕ). rows (mark_after M i l) k) e (cleared_long n 0 e) ∙ marks_cleared

  -- and the states
  pub states_from : {h : List ℕ} (other : ℕ) → h ≡ replicate n other → rows (state_after M i h) (length h) ≡ states_of M i other n
  states_from {h} other e = ap₂ (λ (l : List ℕ) (k : ℕ). rows (state_after M i l) k) e (cleared_long n other e) ∙ states_cleared other
