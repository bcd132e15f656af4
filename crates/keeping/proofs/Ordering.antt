-- The other rows sorted by their keys are in the order by (time, birth).
use mathlib.Core.Path.{◌≡◌, refl, sym, ap, ◌∙◌}
use mathlib.Core.Bool.{Bool, true, false}
use mathlib.Core.List.{List, [], ◌∷◌, ◌++◌}
use mathlib.Core.Logic.{◌⊎◌, ⊎_elim}
use Prim.Native.Nat.{ℕ, suc, ◌<◌, ◌≤◌}
use native.Mathlib.Omega.{arith}
use lib.Dec.{eqb}
use lib.ListN.{length, take, drop}
use lib.Seq.{take_at, drop_at}
use borrow.Author.Tests.{eq-eqb, eqb-true}
use Rattle.meaning.specs.Words.{at, mem, count, lex, index_of}
use Rattle.meaning.specs.Rows.{NodeColumns, age_table}
use Rattle.meaning.specs.Answer.{put}
use Rattle.laws.specs.Bools.{clash, eq?, not_true}
use Rattle.laws.specs.Members.{mem_here, mem_there, index_at, index_below}
use Rattle.laws.specs.Facts.{Distinct, nil, cons}
use Rattle.history.specs.Order.{lex_irrefl, lex_apart}
use Rattle.history.specs.Order as history
use Rattle.accepted.specs.Checked.{Apart}
use Rattle.accepted.specs.Columns.{same_row}
use Rattle.order.specs.Order.{Permuted, Sorted, SortedFrom, key, by_keys}
use Rattle.order.specs.Counts.{bit, count_cons, count_nil, mem_counted, counted_mem, permuted_mem, permuted_sym}
use Rattle.order.specs.Lex.{trichotomy, lex_less, lex_more, lex_same}
use Rattle.byrows.specs.Rows.{before_row}
use Rattle.byrows.specs.Ground.{all_mem}
use Rattle.keeping.specs.Others.{other_rows, OthersListed}
use Rattle.keeping.specs.Fronts.{put_front, put_past}
use Rattle.keeping.proofs.Collecting.{other_of, of_other, others_once, others_few}

-- ---- a list with each number once

once_counted : (l : List ℕ) → Distinct l → (v : ℕ) → count (eqb v) l ≤ 1
unfolding bit
once_counted [] nil v = omega (arith, count_nil (eqb v))
once_counted (a ∷ l) (cons n d) v = go (eqb v a) refl (once_counted l d v)
  where
    go : (t : Bool) → eqb v a ≡ t → count (eqb v) l ≤ 1 → count (eqb v) (a ∷ l) ≤ 1
    go true e ih = ⊎_elim
        (λ (z : count (eqb v) l ≡ 0). omega (arith, count_cons (eqb v) a l, ap bit e))
        (λ (z : count (eqb v) l ≡ 0 → ⊥). absurd (clash (counted_mem v l (omega arith)) (ap (λ x. mem x l) (eqb-true v a e) ∙ n)))
        (eq? (count (eqb v) l) 0)
    go false e ih = omega (arith, count_cons (eqb v) a l, ap bit e)

counted_once : (l : List ℕ) → ((v : ℕ) → count (eqb v) l ≤ 1) → Distinct l
unfolding bit
counted_once [] h = nil
counted_once (a ∷ l) h = cons
    (not_true (mem a l) (λ m. omega (arith, h a, mem_counted a l m, count_cons (eqb a) a l, ap bit (eq-eqb a a refl))))
    (counted_once l (λ v. omega (arith, h v, count_cons (eqb v) a l)))

permuted_once : (l m : List ℕ) → Permuted l m → Distinct l → Distinct m
permuted_once l m p d = counted_once m (λ v. omega (arith, p.often v, once_counted l d v))

-- where of any two numbers of a list one comes before the other, sorted is sorted strictly
strictly : (lt : ℕ → ℕ → Bool) (l : List ℕ) → Distinct l → ((a b : ℕ) → mem a l ≡ true → mem b l ≡ true → (b ≡ a → ⊥) → lt b a ≡ false → lt a b ≡ true) → Sorted lt l → history.Sorted lt l
strictly lt [] nil h s = history.none_left
strictly lt (a ∷ l) (cons n d) h s = history.least
    (λ b m. h a b (mem_here a a l refl) (mem_there b a l m) (λ q. clash m (ap (λ x. mem x l) q ∙ n)) (ap (λ x. lt x a) (sym (index_at b l m)) ∙ s.apart 0 (suc (index_of b l)) (omega arith) (omega (arith, index_below b l m))))
    (strictly lt l d (λ c e p q. h c e (mem_there c a l p) (mem_there e a l q)) (record { apart = λ i j p q. s.apart (suc i) (suc j) (omega arith) (omega arith) }))

-- ---- the keys

-- the birth key again and again decides nothing more
keys_before : (time birth : List ℕ) (a b : ℕ) → by_keys time birth birth birth a b ≡ before_row (age_table time birth) a b
unfolding by_keys key before_row
keys_before time birth a b = first (trichotomy (at time a) (at time b))
  where
    second : (at birth a < at birth b) ⊎ ((at birth a ≡ at birth b) ⊎ (at birth b < at birth a)) → lex (at birth a ∷ at birth a ∷ at birth a ∷ []) (at birth b ∷ at birth b ∷ at birth b ∷ []) ≡ lex (at birth a ∷ []) (at birth b ∷ [])
    second r = ⊎_elim
        (λ (p : at birth a < at birth b). lex_less (at birth a) (at birth b) (at birth a ∷ at birth a ∷ []) (at birth b ∷ at birth b ∷ []) p ∙ sym (lex_less (at birth a) (at birth b) [] [] p))
        (λ r. ⊎_elim
        (λ (p : at birth a ≡ at birth b). rw p (lex_irrefl (at birth b ∷ at birth b ∷ at birth b ∷ []) ∙ sym (lex_irrefl (at birth b ∷ []))))
        (λ (p : at birth b < at birth a). lex_more (at birth a) (at birth b) (at birth a ∷ at birth a ∷ []) (at birth b ∷ at birth b ∷ []) p ∙ sym (lex_more (at birth a) (at birth b) [] [] p))
        r)
        r

    first : (at time a < at time b) ⊎ ((at time a ≡ at time b) ⊎ (at time b < at time a)) → lex (at time a ∷ at birth a ∷ at birth a ∷ at birth a ∷ []) (at time b ∷ at birth b ∷ at birth b ∷ at birth b ∷ []) ≡ lex (at time a ∷ at birth a ∷ []) (at time b ∷ at birth b ∷ [])
    first r = ⊎_elim
        (λ (p : at time a < at time b). lex_less (at time a) (at time b) (at birth a ∷ at birth a ∷ at birth a ∷ []) (at birth b ∷ at birth b ∷ at birth b ∷ []) p ∙ sym (lex_less (at time a) (at time b) (at birth a ∷ []) (at birth b ∷ []) p))
        (λ r. ⊎_elim
        (λ (p : at time a ≡ at time b). lex_same (at time a) (at time b) (at birth a ∷ at birth a ∷ at birth a ∷ []) (at birth b ∷ at birth b ∷ at birth b ∷ []) p ∙ second (trichotomy (at birth a) (at birth b)) ∙ sym (lex_same (at time a) (at time b) (at birth a ∷ []) (at birth b ∷ []) p))
        (λ (p : at time b < at time a). lex_more (at time a) (at time b) (at birth a ∷ at birth a ∷ at birth a ∷ []) (at birth b ∷ at birth b ∷ at birth b ∷ []) p ∙ sym (lex_more (at time a) (at time b) (at birth a ∷ []) (at birth b ∷ []) p))
        r)
        r

-- rows with different births are one before the other
before_apart : (N : NodeColumns) (a b : ℕ) → (at N.birth b ≡ at N.birth a → ⊥) → before_row N b a ≡ false → before_row N a b ≡ true
unfolding before_row
before_apart N a b n h = lex_apart (at N.time b ∷ at N.birth b ∷ []) (at N.time a ∷ at N.birth a ∷ []) refl (λ q. n (ap (λ (l : List ℕ). at l 1) q)) h

sorted_same : (lt gt : ℕ → ℕ → Bool) (l : List ℕ) → ((a b : ℕ) → lt a b ≡ gt a b) → Sorted lt l → Sorted gt l
sorted_same lt gt l h s = record { apart = λ i j p q. sym (h (at l j) (at l i)) ∙ s.apart i j p q }

-- ---- what the sort leaves

module _ (time birth stood sample : List ℕ) (long : length birth ≡ length stood) (once : Apart birth) where
  in_order : (m : List ℕ) → SortedFrom (by_keys time birth birth birth) (other_rows stood sample) m → history.Sorted (before_row (age_table time birth)) m
  in_order m s =
      strictly (before_row (age_table time birth)) m
      (permuted_once (other_rows stood sample) m s.permuted (others_once stood sample))
      (λ a b p q n e. before_apart (age_table time birth) a b (λ z. n (same_row birth once b a (inside b q) (inside a p) z)) e)
      (sorted_same (by_keys time birth birth birth) (before_row (age_table time birth)) m (keys_before time birth) s.sorted)
    where
      inside : (v : ℕ) → mem v m ≡ true → v < length birth
      inside v h = omega (arith, (other_of stood sample v (permuted_mem m (other_rows stood sample) (permuted_sym (other_rows stood sample) m s.permuted) v h)).0)

  others_listed : (k : ℕ) (old m new : List ℕ) → k ≤ length stood → take k new ≡ m → drop k new ≡ drop k old → SortedFrom (by_keys time birth birth birth) (other_rows stood sample) m → OthersListed (age_table time birth) stood sample k old new
  others_listed k old m new few e past s = record {
    few = few;
    inside = rw e (all_mem m (λ v h. (right v h).0));
    sorted = rw e (in_order m s);
    right = λ v h. right v (rw e at h);
    all = λ v l p q. rw e (permuted_mem (other_rows stood sample) m s.permuted v (of_other stood sample v l p q));
    past = past;
  }
    where
      right : (v : ℕ) → mem v m ≡ true → (v < length stood) × (at stood v ≡ 1) × (at sample v ≡ 0)
      right v h = other_of stood sample v (permuted_mem m (other_rows stood sample) (permuted_sym (other_rows stood sample) m s.permuted) v h)

  -- the first k cells of a column that holds the other rows, sorted as a part of it
  pub part_sorted : (k : ℕ) (old mid m : List ℕ) → k ≡ length (other_rows stood sample) → mid ≡ put (other_rows stood sample) old → length m ≡ k → SortedFrom (by_keys time birth birth birth) (take k mid) m → OthersListed (age_table time birth) stood sample k old (m ++ drop k mid)
  part_sorted k old mid m q e z s =
      others_listed k old m (m ++ drop k mid)
      (omega (arith, others_few stood sample))
      (take_at m (drop k mid) k z)
      (drop_at m (drop k mid) k z ∙ put_past (other_rows stood sample) old mid k q e)
      (rw (put_front (other_rows stood sample) old mid k q e) at s)
