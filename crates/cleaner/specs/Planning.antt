-- What the sweep asks, from tables that pass the check and the edge rows in the order of left and of right.
use Rattle.std.specs.Prelude.{◌≡◌, refl, true, List, [], ◌∷◌, ◌⊎◌, ℕ, zero, suc, ◌<◌, ◌≤◌, eqb, length}
use Rattle.std.proofs.Common.{sym, ap, ◌∙◌, inl, inr, ⊎_elim, arith, eq-eqb, ne_eqb, ltb-false}
use Rattle.meaning.specs.Words.{at, mem, count, index_of, rows, rows_from}
use Rattle.meaning.specs.Rows.{NodeColumns, EdgeColumns}
use Rattle.laws.specs.Bools.{eq?}
use Rattle.laws.specs.Counting.{length_rows, get_rows}
use Rattle.laws.specs.Members.{at_mem, index_at, index_below}
use Rattle.order.specs.Order.{Inside, SortedFrom, by_keys}
use Rattle.order.specs.Counts.{bit, count_nil, count_cons, mem_counted, permuted_mem}
use Rattle.order.specs.Lex.{trichotomy, one_key}
use Rattle.order.specs.Tables.{own_inside, permuted_inside}
use Rattle.tree.specs.Sweep.{Checked, Index, Plan}
use Rattle.sweep.specs.Columns.{Sited}
use Rattle.cleaner.specs.Tracing.{Passed}

-- ---- a sorted column of rows has each row once

bit_yes : (a : ℕ) → bit (eqb a a) ≡ 1
unfolding bit
bit_yes a = ap bit (eq-eqb a a refl)

bit_no : (a b : ℕ) → (a ≡ b → ⊥) → bit (eqb a b) ≡ 0
unfolding bit
bit_no a b n = ap bit (ne_eqb a b n)

-- a number at two places is counted twice
twice : (l : List ℕ) (v j k : ℕ) → j < k → k < length l → at l j ≡ v → at l k ≡ v → 2 ≤ count (eqb v) l
twice [] v j k a b p q = absurd (omega arith)
twice (x ∷ l) v zero zero a b p q = absurd (omega arith)
twice (x ∷ l) v (suc j) zero a b p q = absurd (omega arith)
twice (x ∷ l) v zero (suc k) a b p q =
    let m : mem v l ≡ true = ap (λ z. mem z l) (sym q) ∙ at_mem l k (omega arith) in
    let y : bit (eqb v x) ≡ 1 = ap (λ z. bit (eqb v z)) p ∙ bit_yes v in
    omega (arith, count_cons (eqb v) x l, mem_counted v l m)
twice (x ∷ l) v (suc j) (suc k) a b p q = omega (arith, count_cons (eqb v) x l, twice l v j k (omega arith) (omega arith) p q)

none_before : (v i k : ℕ) → v < i → count (eqb v) (rows_from (λ j. j) i k) ≡ 0
unfolding rows_from
none_before v i zero h = count_nil (eqb v)
none_before v i (suc k) h = let z : bit (eqb v i) ≡ 0 = bit_no v i (λ e. omega arith) in omega (arith, count_cons (eqb v) i (rows_from (λ j. j) (suc i) k), none_before v (suc i) k (omega arith))

single_from : (v i k : ℕ) → count (eqb v) (rows_from (λ j. j) i k) ≤ 1
unfolding rows_from
single_from v i zero = omega (arith, count_nil (eqb v))
single_from v i (suc k) = ⊎_elim
    (λ (e : v ≡ i). let y : bit (eqb v i) ≡ 1 = ap (λ z. bit (eqb v z)) (sym e) ∙ bit_yes v in omega (arith, count_cons (eqb v) i (rows_from (λ j. j) (suc i) k), none_before v (suc i) k (omega arith)))
    (λ (n : v ≡ i → ⊥). let z : bit (eqb v i) ≡ 0 = bit_no v i n in omega (arith, count_cons (eqb v) i (rows_from (λ j. j) (suc i) k), single_from v (suc i) k))
    (eq? v i)

single : (v n : ℕ) → count (eqb v) (rows (λ j. j) n) ≤ 1
unfolding rows
single v n = single_from v 0 n

module _ (key b : List ℕ) (m : ℕ) (s : SortedFrom (by_keys key key key key) (rows (λ i. i) m) b) where
  inside : Inside m b
  inside = permuted_inside m (rows (λ i. i) m) b s.permuted (own_inside m m (omega arith))

  never : (j k : ℕ) → j < k → k < length b → at b j ≡ at b k → ⊥
  never j k a h e = omega (arith, twice b (at b k) j k a h e refl, s.permuted.often (at b k), single (at b k) m)

  same : (j k : ℕ) → j < length b → k < length b → at b j ≡ at b k → j ≡ k
  same j k a h e = ⊎_elim (λ (l : j < k). absurd (never j k l h e)) (λ r. ⊎_elim (λ (q : j ≡ k). q) (λ (l : k < j). absurd (never k j l a (sym e))) r) (trichotomy j k)

  found : (e : ℕ) → e < m → mem e b ≡ true
  found e l = permuted_mem (rows (λ i. i) m) b s.permuted e (ap (λ z. mem z (rows (λ i. i) m)) (sym (get_rows (λ i. i) 0 m e l)) ∙ at_mem (rows (λ i. i) m) e (omega (arith, length_rows (λ i. i) m)))

  rising : (j k : ℕ) → j ≤ k → k < length b → at key (at b j) ≤ at key (at b k)
  rising j k h l = ⊎_elim
      (λ (q : j ≡ k). let z : at key (at b j) ≡ at key (at b k) = ap (λ i. at key (at b i)) q in omega arith)
      (λ (n : j ≡ k → ⊥). ltb-false (at key (at b k)) (at key (at b j)) (sym (one_key key (at b k) (at b j)) ∙ s.sorted.apart j k (omega arith) l))
      (eq? j k)

  -- the column is an index of the rows by key
  pub index_of-is : Index key b m
  index_of-is = record {
    rows = inside.row;
    once = same;
    all = λ e l. (index_of e b, index_below e b (found e l), index_at e b (found e l));
    sorted = rising;
  }

-- ---- the plan

module _ (L : ℕ) (N : NodeColumns) (E : EdgeColumns) (position site node S : List ℕ) (p : Passed L N E position site node S) where
  -- two edges of one child: one ends before the other begins
  apart : (e f : ℕ) → f < e → e < length E.left → at E.child e ≡ at E.child f → (at E.right e ≤ at E.left f) ⊎ (at E.right f ≤ at E.left e)
  apart e f h l c = go (trichotomy (at E.left e) (at E.left f)) (trichotomy (at E.right e) (at E.left f)) (trichotomy (at E.right f) (at E.left e))
    where
      share : (x : ℕ) → at E.left e ≤ x → at E.left f ≤ x → x < at E.right e → x < at E.right f → ⊥
      share x a b c' d = p.footing.sound.tree.single e f x h l (sym c) (record { begun = b; not_over = d }) (record { begun = a; not_over = c' })

      w : at E.left e < at E.right e
      w = (p.footing.sound.tree.edge e l).some_position

      v : at E.left f < at E.right f
      v = (p.footing.sound.tree.edge f (omega arith)).some_position

      go : (at E.left e < at E.left f) ⊎ ((at E.left e ≡ at E.left f) ⊎ (at E.left f < at E.left e)) → (at E.right e < at E.left f) ⊎ ((at E.right e ≡ at E.left f) ⊎ (at E.left f < at E.right e)) → (at E.right f < at E.left e) ⊎ ((at E.right f ≡ at E.left e) ⊎ (at E.left e < at E.right f)) → (at E.right e ≤ at E.left f) ⊎ (at E.right f ≤ at E.left e)
      go o (inl a) r = inl (omega arith)
      go o (inr (inl a)) r = inl (omega arith)
      go o (inr (inr a)) (inl b) = inr (omega arith)
      go o (inr (inr a)) (inr (inl b)) = inr (omega arith)
      go (inl o) (inr (inr a)) (inr (inr b)) = absurd (share (at E.left f) (omega arith) (omega arith) a v)
      go (inr (inl o)) (inr (inr a)) (inr (inr b)) = absurd (share (at E.left e) (omega arith) (omega arith) w b)
      go (inr (inr o)) (inr (inr a)) (inr (inr b)) = absurd (share (at E.left e) (omega arith) (omega arith) w b)

  edge : (e : ℕ) → e < length E.child → e < length E.left
  edge e l = omega (arith, p.footing.sound.shape.children)

  checked : Checked N.time E.left E.right E.parent E.child (length N.time)
  checked = record {
    lefts = sym p.footing.sound.shape.children;
    rights = p.footing.sound.shape.rights ∙ sym p.footing.sound.shape.children;
    parents = p.footing.sound.shape.parents ∙ sym p.footing.sound.shape.children;
    parent = λ e l. (p.footing.sound.tree.edge e (edge e l)).parent_row;
    child = λ e l. (p.footing.sound.tree.edge e (edge e l)).child_row-is;
    wide = λ e l. (p.footing.sound.tree.edge e (edge e l)).some_position;
    older = λ e l. (p.footing.sound.tree.edge e (edge e l)).older;
    apart = λ e f l k n c. ⊎_elim
        (λ (q : f < e). apart e f q (edge e l) c)
        (λ r. ⊎_elim (λ (q : f ≡ e). absurd (n (sym q))) (λ (q : e < f). ⊎_elim (λ (a : at E.right f ≤ at E.left e). inr a) (λ (a : at E.right e ≤ at E.left f). inl a) (apart f e q (edge f k) (sym c))) r)
        (trichotomy f e);
  }

  pub plan : (bl br : List ℕ) → SortedFrom (by_keys E.left E.left E.left E.left) (rows (λ i. i) (length E.left)) bl → SortedFrom (by_keys E.right E.right E.right E.right) (rows (λ i. i) (length E.right)) br → Plan N.time E.left E.right E.parent E.child bl br (length N.time)
  plan bl br a b = record {
    checked = checked;
    lefts = rw p.footing.sound.shape.children (index_of-is E.left bl (length E.left) a);
    rights = rw p.footing.sound.shape.children (rw p.footing.sound.shape.rights at (index_of-is E.right br (length E.right) b));
  }

  pub sited : (sample bl br : List ℕ) → Sited L (record { time = N.time; sample = sample; left = E.left; right = E.right; parent = E.parent; child = E.child; by_left = bl; by_right = br; position = position; site = site; node = node })
  sited sample bl br = record {
    nodes = p.footing.sound.shape.mutated;
    site_row = p.footing.sound.sites.site_row;
    node_row = p.footing.sound.sites.node_row;
    inside = p.footing.sound.sites.inside;
    ascending = p.footing.sound.sites.ascending;
    rising = p.footing.sound.sites.rising;
  }
