-- Laws for what writing returns: each refusal leaves the bytes as they were, and the pieces laid one after the other are the file.
use mathlib.Core.Path.{◌≡◌, refl, sym, ap, ap₂, subst, ◌∙◌}
use mathlib.Core.Bool.{Bool, false}
use mathlib.Core.List.{List, [], ◌∷◌, ◌++◌, append_assoc}
use Prim.Native.Nat.{ℕ, ◌+◌, ◌*◌, ◌<◌, ◌≤◌}
use native.Mathlib.Omega.{arith}
use borrow.Author.Tests.{lt-ltb, le-ltb}
use lib.ListN.{length, length-append}
use Rattle.meaning.specs.Words.{lowest}
use Rattle.meaning.specs.Rows.{Tables}
use Rattle.meaning.specs.Even.{EvenEdges, EvenSites, EvenMutations}
use Rattle.meaning.specs.Answer.{Answer, answer, done, stored_limits, refuse_row, refusal_of, put, left_by}
use Rattle.meaning.specs.declared.Refusal.{Refusal}
use Rattle.meaning.specs.declared.Refusal.TheVariants.{Ragged, TooMany, NoRoom, EdgeWide, MutationWide, Populated}
use Rattle.laws.specs.Counting.{none_passes}
use Rattle.meaning.specs.Stored.{SA, ND, ED, Si, MU, kinds, form, size, total, bytes_of, records_from, height, kinds_bytes, form_bytes}
use Rattle.meaning.specs.Files.{if_done, filed, too_wide, populated, written, write_answer, laid, writing}
use Rattle.form.specs.Numbers.{length_bytes}
use Rattle.form.specs.Refusals.{even_head, shape_even, refuse_no, refuse_yes, row_no}
use Rattle.stored.specs.Admitted.{Shaped, Within, Narrow, shapes_pass, write_sized, write_passes}
use Rattle.form.specs.Posts.{lay}
use Rattle.stored.specs.Answers.{Long, Counted, Ample, Lowest, Lacking, Uneven, most_rows, written_of}
use Rattle.stored.specs.declared.Lengths.{Lengths}
use Rattle.meaning.specs.declared.columns.Lent.{Lent}
use Rattle.meaning.specs.Columns.{lent_in}
use Rattle.meaning.specs.Words.{lowest_row}
use Rattle.laws.specs.Counting.{lowest_row-some, lowest_row-none}
use Rattle.stored.specs.declared.Rows.{Rows}
use Rattle.std.specs.Prelude.{Option, Some, None, Ok, Err}
use Rattle.stored.proofs.Returning.{refusal_not_done}
use Rattle.form.proofs.Laying.{lay_chain, lay_front, length_records}
use Rattle.stored.proofs.Admitting.{sizes_over, all_within}

-- ---- a refusal leaves everything as it was

laid_refused : (x : Refusal) (a : Answer) (new out : List ℕ) → a ≡ refusal_of x → written_of (Err x) out ≡ laid a new out
unfolding laid if_done left_by
laid_refused x a new out e = rw e (rw (refusal_not_done x, if_done, left_by))

row_yes : (n m : ℕ) (broken : ℕ → Bool) (rest : Answer) → lowest broken m < m → refuse_row n broken m rest ≡ answer n (lowest broken m)
unfolding refuse_row
row_yes n m broken rest h = refuse_yes n (lowest broken m) rest (lt-ltb (lowest broken m) m h)

module _ (L : ℕ) (T : Tables) (S out : List ℕ) where
  by_answer : (x : Refusal) → write_answer 2 stored_limits L T S (length out) ≡ refusal_of x → written_of (Err x) out ≡ writing 2 stored_limits L T S out
  unfolding writing
  by_answer x e = laid_refused x (write_answer 2 stored_limits L T S (length out)) (written 2 stored_limits L T S) out e

  pub write_ragged : (n : Lengths) → Long n T → (r : Option ℕ) → Uneven n r → (t : ℕ) → r ≡ Some t → written_of (Err (Ragged t)) out ≡ writing 2 stored_limits L T S out
  unfolding Uneven write_answer
  write_ragged n l r u t e = by_answer (Ragged t) (subst (Uneven n) e u T _ l)

  pub write_shaped : (n : Lengths) → Long n T → (r : Option ℕ) → Uneven n r → r ≡ None → Shaped T
  unfolding Uneven
  write_shaped n l r u e = subst (Uneven n) e u T l

  pub write_over : Shaped T → (n : Rows) → Counted n T S → (most : Rows) → most ≡ most_rows → (r : Option ℕ) → Lacking n most r → (t : ℕ) → r ≡ Some t → written_of (Err (TooMany t)) out ≡ writing 2 stored_limits L T S out
  unfolding Lacking write_answer
  write_over s n c most q r u t e =
      let h : Lowest n most_rows t = subst (λ m. Lowest n m t) q (subst (Lacking n most) e u) in
      by_answer (TooMany t) (shapes_pass T _ s ∙ sizes_over n T S c _ t h)

  pub write_ample : (n most : Rows) → most ≡ most_rows → (r : Option ℕ) → Lacking n most r → r ≡ None → Ample n most_rows
  unfolding Lacking
  write_ample n most q r u e = subst (λ m. Ample n m) q (subst (Lacking n most) e u)

  module _ (s : Shaped T) (w : Within stored_limits T S) where
    pub write_edge : (m e : ℕ) → m ≡ length T.edges.left → e ≡ lowest (too_wide 2 T.edges.parent T.edges.child) m → e < m → written_of (Err (EdgeWide e)) out ≡ writing 2 stored_limits L T S out
    write_edge m e q p h =
        let g : e ≡ lowest (too_wide 2 T.edges.parent T.edges.child) (length T.edges.left) = p ∙ ap (lowest (too_wide 2 T.edges.parent T.edges.child)) q in
        by_answer (EdgeWide e) (write_sized 2 stored_limits L T S (length out) s w ∙ row_yes 35 (length T.edges.left) (too_wide 2 T.edges.parent T.edges.child) _ (omega arith) ∙ ap (answer 35) (sym g))

    pub edges_narrow : (m e : ℕ) → m ≡ length T.edges.left → e ≡ lowest (too_wide 2 T.edges.parent T.edges.child) m → m ≤ e → (i : ℕ) → i < length T.edges.left → too_wide 2 T.edges.parent T.edges.child i ≡ false
    edges_narrow m e q p h i l = none_passes (too_wide 2 T.edges.parent T.edges.child) m i (omega arith) (omega arith)

    pub muts_narrow : (e : ℕ) → e ≡ lowest (too_wide 2 T.muts.site T.muts.node) (length T.muts.site) → length T.muts.site ≤ e → (i : ℕ) → i < length T.muts.site → too_wide 2 T.muts.site T.muts.node i ≡ false
    muts_narrow e p h i l = none_passes (too_wide 2 T.muts.site T.muts.node) (length T.muts.site) i (omega arith) l

    pub write_mutation : ((i : ℕ) → i < length T.edges.left → too_wide 2 T.edges.parent T.edges.child i ≡ false) → (e : ℕ) → e ≡ lowest (too_wide 2 T.muts.site T.muts.node) (length T.muts.site) → e < length T.muts.site → written_of (Err (MutationWide e)) out ≡ writing 2 stored_limits L T S out
    write_mutation n e p h =
        by_answer (MutationWide e) (write_sized 2 stored_limits L T S (length out) s w ∙ row_no 35 (length T.edges.left) (too_wide 2 T.edges.parent T.edges.child) _ n ∙ row_yes 36 (length T.muts.site) (too_wide 2 T.muts.site T.muts.node) _ (omega arith) ∙ ap (answer 36) (sym p))

    pub nodes_settled : (m e : ℕ) → m ≡ length T.nodes.time → e ≡ lowest (populated T.nodes.population) m → m ≤ e → (i : ℕ) → i < length T.nodes.time → populated T.nodes.population i ≡ false
    nodes_settled m e q p h i l = none_passes (populated T.nodes.population) m i (omega arith) (omega arith)

    pub write_populated : ((i : ℕ) → i < length T.edges.left → too_wide 2 T.edges.parent T.edges.child i ≡ false) → ((i : ℕ) → i < length T.muts.site → too_wide 2 T.muts.site T.muts.node i ≡ false) → (m e : ℕ) → m ≡ length T.nodes.time → e ≡ lowest (populated T.nodes.population) m → e < m → written_of (Err (Populated e)) out ≡ writing 2 stored_limits L T S out
    write_populated n k m e q p h =
        let g : e ≡ lowest (populated T.nodes.population) (length T.nodes.time) = p ∙ ap (lowest (populated T.nodes.population)) q in
        by_answer (Populated e) (write_sized 2 stored_limits L T S (length out) s w ∙ row_no 35 (length T.edges.left) (too_wide 2 T.edges.parent T.edges.child) _ n ∙ row_no 36 (length T.muts.site) (too_wide 2 T.muts.site T.muts.node) _ k ∙ row_yes 38 (length T.nodes.time) (populated T.nodes.population) _ (omega arith) ∙ ap (answer 38) (sym g))

-- ---- the whole file

module _ (L : ℕ) (T : Tables) (S : List ℕ) where
  abbrev sa : List ℕ
  sa = records_from (SA stored_limits) (S ∷ []) 0 (length S)

  abbrev nd : List ℕ
  nd = records_from (ND stored_limits) (T.nodes.time ∷ T.nodes.birth ∷ []) 0 (length T.nodes.time)

  abbrev ed : List ℕ
  ed = records_from (ED 2 stored_limits) (T.edges.left ∷ T.edges.right ∷ T.edges.parent ∷ T.edges.child ∷ []) 0 (length T.edges.left)

  abbrev si : List ℕ
  si = records_from (Si stored_limits) (T.sites.position ∷ T.sites.ancestral ∷ []) 0 (length T.sites.position)

  abbrev mu : List ℕ
  mu = records_from (MU 2 stored_limits) (T.muts.site ∷ T.muts.node ∷ T.muts.derived ∷ []) 0 (length T.muts.site)

  abbrev hd : List ℕ
  hd = 83 ∷ 81 ∷ bytes_of 4 L

  abbrev en : List ℕ
  en = 69 ∷ 78 ∷ []

  pieces : (((((hd ++ sa) ++ nd) ++ ed) ++ si) ++ mu) ++ en ≡ written 2 stored_limits L T S
  unfolding written form form_bytes kinds kinds_bytes filed height
  pieces = simp append_assoc

  length_sa : length sa ≡ length S * 6
  unfolding size total
  length_sa = length_records (SA stored_limits) (S ∷ []) 0 (length S) refl

  length_nd : length nd ≡ length T.nodes.time * 10
  unfolding size total
  length_nd = length_records (ND stored_limits) (T.nodes.time ∷ T.nodes.birth ∷ []) 0 (length T.nodes.time) refl

  length_ed : length ed ≡ length T.edges.left * 14
  unfolding size total
  length_ed = length_records (ED 2 stored_limits) (T.edges.left ∷ T.edges.right ∷ T.edges.parent ∷ T.edges.child ∷ []) 0 (length T.edges.left) refl

  length_si : length si ≡ length T.sites.position * 7
  unfolding size total
  length_si = length_records (Si stored_limits) (T.sites.position ∷ T.sites.ancestral ∷ []) 0 (length T.sites.position) refl

  length_mu : length mu ≡ length T.muts.site * 7
  unfolding size total
  length_mu = length_records (MU 2 stored_limits) (T.muts.site ∷ T.muts.node ∷ T.muts.derived ∷ []) 0 (length T.muts.site) refl

  length_hd : length hd ≡ 6
  length_hd = omega (arith, length_bytes 4 L)

  -- how long the front pieces are together
  length_1 : length (hd ++ sa) ≡ 6 + length S * 6
  length_1 = omega (arith, length-append hd sa, length_hd, length_sa)

  length_2 : length ((hd ++ sa) ++ nd) ≡ 6 + length S * 6 + length T.nodes.time * 10
  length_2 = omega (arith, length-append (hd ++ sa) nd, length_1, length_nd)

  length_3 : length (((hd ++ sa) ++ nd) ++ ed) ≡ 6 + length S * 6 + length T.nodes.time * 10 + length T.edges.left * 14
  length_3 = omega (arith, length-append ((hd ++ sa) ++ nd) ed, length_2, length_ed)

  length_4 : length ((((hd ++ sa) ++ nd) ++ ed) ++ si) ≡ 6 + length S * 6 + length T.nodes.time * 10 + length T.edges.left * 14 + length T.sites.position * 7
  length_4 = omega (arith, length-append (((hd ++ sa) ++ nd) ++ ed) si, length_3, length_si)

  length_5 : length (((((hd ++ sa) ++ nd) ++ ed) ++ si) ++ mu) ≡ 6 + length S * 6 + length T.nodes.time * 10 + length T.edges.left * 14 + length T.sites.position * 7 + length T.muts.site * 7
  length_5 = omega (arith, length-append ((((hd ++ sa) ++ nd) ++ ed) ++ si) mu, length_4, length_mu)

  pub length_written : length (written 2 stored_limits L T S) ≡ 8 + length S * 6 + length T.nodes.time * 10 + length T.edges.left * 14 + length T.sites.position * 7 + length T.muts.site * 7
  length_written = sym (ap length pieces) ∙ omega (arith, length-append (((((hd ++ sa) ++ nd) ++ ed) ++ si) ++ mu) en, length_5)

  module _ (out : List ℕ) (s : Shaped T) (w : Within stored_limits T S) (n : Narrow 2 T) where
    pub write_full : length out < 8 + length S * 6 + length T.nodes.time * 10 + length T.edges.left * 14 + length T.sites.position * 7 + length T.muts.site * 7 → written_of (Err (NoRoom 7)) out ≡ writing 2 stored_limits L T S out
    write_full h = by_answer L T S out (NoRoom 7) (write_passes 2 stored_limits L T S (length out) s w n ∙ refuse_yes 13 7 done (lt-ltb (length out) (length (written 2 stored_limits L T S)) (omega (arith, length_written))))

    -- the pieces laid one after the other
    pub record Steps (o1 o2 o3 o4 o5 o6 o7 : List ℕ) (a b c d e : ℕ) : Type 0 where
      pub head : o1 ≡ lay 0 hd out
      pub samples : (a ≡ 6 + length S * 6) × (o2 ≡ lay 6 sa o1)
      pub nodes : (b ≡ a + length T.nodes.time * 10) × (o3 ≡ lay a nd o2)
      pub edges : (c ≡ b + length T.edges.left * 14) × (o4 ≡ lay b ed o3)
      pub sites : (d ≡ c + length T.sites.position * 7) × (o5 ≡ lay c si o4)
      pub muts : (e ≡ d + length T.muts.site * 7) × (o6 ≡ lay d mu o5)
      pub end : o7 ≡ lay e en o6

    -- the file, and no more
    pub write_done : {o1 o2 o3 o4 o5 o6 o7 : List ℕ} {a b c d e : ℕ} (count : ℕ) → count ≡ 8 + length S * 6 + length T.nodes.time * 10 + length T.edges.left * 14 + length T.sites.position * 7 + length T.muts.site * 7 → count ≤ length out → Steps o1 o2 o3 o4 o5 o6 o7 a b c d e → written_of (Ok count) o7 ≡ writing 2 stored_limits L T S out
    unfolding writing laid if_done left_by
    write_done {o1} {o2} {o3} {o4} {o5} {o6} {o7} {a} {b} {c} {d} {e} count q h t =
        let r : 8 + length S * 6 + length T.nodes.time * 10 + length T.edges.left * 14 + length T.sites.position * 7 + length T.muts.site * 7 ≤ length out = omega arith in
        let e1 : o2 ≡ lay 0 (hd ++ sa) out = lay_chain 0 6 hd sa out t.head t.samples.1 (omega (arith, length_hd)) (omega (arith, length_sa)) in
        let e2 : o3 ≡ lay 0 ((hd ++ sa) ++ nd) out = lay_chain 0 a (hd ++ sa) nd out e1 t.nodes.1 (omega (arith, t.samples.0, length_1)) (omega (arith, t.samples.0, length_nd)) in
        let e3 : o4 ≡ lay 0 (((hd ++ sa) ++ nd) ++ ed) out = lay_chain 0 b ((hd ++ sa) ++ nd) ed out e2 t.edges.1 (omega (arith, t.samples.0, t.nodes.0, length_2)) (omega (arith, t.samples.0, t.nodes.0, length_ed)) in
        let e4 : o5 ≡ lay 0 ((((hd ++ sa) ++ nd) ++ ed) ++ si) out = lay_chain 0 c (((hd ++ sa) ++ nd) ++ ed) si out e3 t.sites.1 (omega (arith, t.samples.0, t.nodes.0, t.edges.0, length_3)) (omega (arith, t.samples.0, t.nodes.0, t.edges.0, length_si)) in
        let e5 : o6 ≡ lay 0 (((((hd ++ sa) ++ nd) ++ ed) ++ si) ++ mu) out = lay_chain 0 d ((((hd ++ sa) ++ nd) ++ ed) ++ si) mu out e4 t.muts.1 (omega (arith, t.samples.0, t.nodes.0, t.edges.0, t.sites.0, length_4)) (omega (arith, t.samples.0, t.nodes.0, t.edges.0, t.sites.0, length_mu)) in
        let e6 : o7 ≡ lay 0 ((((((hd ++ sa) ++ nd) ++ ed) ++ si) ++ mu) ++ en) out = lay_chain 0 e (((((hd ++ sa) ++ nd) ++ ed) ++ si) ++ mu) en out e5 t.end (omega (arith, t.samples.0, t.nodes.0, t.edges.0, t.sites.0, t.muts.0, length_5)) (omega (arith, t.samples.0, t.nodes.0, t.edges.0, t.sites.0, t.muts.0)) in
        let f : o7 ≡ put (written 2 stored_limits L T S) out = e6 ∙ ap (λ l. lay 0 l out) pieces ∙ lay_front (written 2 stored_limits L T S) out in
        let g : count ≡ length (written 2 stored_limits L T S) = q ∙ sym length_written in
        let k : write_answer 2 stored_limits L T S (length out) ≡ done = write_passes 2 stored_limits L T S (length out) s w n ∙ refuse_no 13 7 done (le-ltb (length out) (length (written 2 stored_limits L T S)) (omega arith)) in
        ap₂ (λ (x : ℕ) (y : List ℕ). record { answer = done; bytes = x; cells = y }) g f
        ∙ ap (λ x. laid x (written 2 stored_limits L T S) out) (sym k)

-- ---- columns of one length, one by one

module _ (T : Tables) (s : Shaped T) where
  pub nodes_same : (length T.nodes.birth ≡ length T.nodes.time) × (length T.nodes.population ≡ length T.nodes.time)
  nodes_same =
      let a : _ = even_head (shape_even T.nodes.time (T.nodes.birth ∷ T.nodes.population ∷ []) s.nodes) in
      (a.0, (even_head a.1).0)

  pub edges_same : EvenEdges T.edges
  edges_same =
      let a : _ = even_head (shape_even T.edges.left (T.edges.right ∷ T.edges.parent ∷ T.edges.child ∷ []) s.edges) in
      let b : _ = even_head a.1 in
      record { right_long = a.0; parent_long = b.0; child_long = (even_head b.1).0 }

  pub sites_same : EvenSites T.sites
  sites_same = record { ancestral_long = (even_head (shape_even T.sites.position (T.sites.ancestral ∷ []) s.sites)).0 }

  pub muts_same : EvenMutations T.muts
  muts_same =
      let a : _ = even_head (shape_even T.muts.site (T.muts.node ∷ T.muts.derived ∷ []) s.muts) in
      record { node_long = a.0; derived_long = (even_head a.1).0 }

-- ---- as the code has it

-- the lengths of lent columns, and how many rows they are
abbrev pub lengths_of : Lent → Lengths
lengths_of t = record { time = length t.time.now; birth = length t.birth.now; population = length t.population.now; left = length t.left.now; right = length t.right.now; parent = length t.parent.now; child = length t.child.now; position = length t.position.now; ancestral = length t.ancestral.now; site = length t.site.now; node = length t.node.now; derived = length t.derived.now }

abbrev pub rows_of : Lent → List ℕ → Rows
rows_of t S = record { nodes = length t.time.now; edges = length t.left.now; sites = length t.position.now; mutations = length t.site.now; samples = length S }

pub long_of : (t : Lent) → Long (lengths_of t) (lent_in t)
long_of t = record { time = refl; birth = refl; population = refl; left = refl; right = refl; parent = refl; child = refl; position = refl; ancestral = refl; site = refl; node = refl; derived = refl }

pub counted_of : (t : Lent) (S : List ℕ) → Counted (rows_of t S) (lent_in t) S
counted_of t S = record { nodes = refl; edges = refl; sites = refl; muts = refl; samples = refl }

module _ (L : ℕ) (t : Lent) (S out : List ℕ) {u : Option ℕ} (f : Uneven (lengths_of t) u) where
  pub lent_ragged : (k : ℕ) → u ≡ Some k → written_of (Err (Ragged k)) out ≡ writing 2 stored_limits L (lent_in t) S out
  lent_ragged k e = write_ragged L (lent_in t) S out (lengths_of t) (long_of t) u f k e

  module _ (d : u ≡ None) where
    pub lent_shaped : Shaped (lent_in t)
    lent_shaped = write_shaped L (lent_in t) S out (lengths_of t) (long_of t) u f d

    module _ {most : Rows} (q : most ≡ most_rows) {x : Option ℕ} (g : Lacking (rows_of t S) most x) where
      pub lent_over : (k : ℕ) → x ≡ Some k → written_of (Err (TooMany k)) out ≡ writing 2 stored_limits L (lent_in t) S out
      lent_over k e = write_over L (lent_in t) S out lent_shaped (rows_of t S) (counted_of t S) most q x g k e

      module _ (y : x ≡ None) where
        pub lent_ample : Ample (rows_of t S) most_rows
        lent_ample = write_ample L (lent_in t) S out (rows_of t S) most q x g y

        pub lent_within : Within stored_limits (lent_in t) S
        lent_within = all_within (rows_of t S) (lent_in t) S (counted_of t S) lent_ample

        -- the first edge that is too wide, the first mutation, and the first row with a population
        module _ {a : Option ℕ} (p : a ≡ lowest_row (too_wide 2 t.parent.now t.child.now) (length t.parent.now)) where
          pub lent_edge : (k : ℕ) → a ≡ Some k → written_of (Err (EdgeWide k)) out ≡ writing 2 stored_limits L (lent_in t) S out
          lent_edge k e =
              let w : _ = lowest_row-some (too_wide 2 t.parent.now t.child.now) (length t.parent.now) k (sym e ∙ p) in
              write_edge L (lent_in t) S out lent_shaped lent_within (length t.parent.now) k (edges_same (lent_in t) lent_shaped).parent_long w.2 w.0

          module _ (z : a ≡ None) where
            pub edges_pass : (i : ℕ) → i < length t.left.now → too_wide 2 t.parent.now t.child.now i ≡ false
            edges_pass = edges_narrow L (lent_in t) S out lent_shaped lent_within (length t.parent.now) (length t.parent.now) (edges_same (lent_in t) lent_shaped).parent_long (sym (lowest_row-none (too_wide 2 t.parent.now t.child.now) (length t.parent.now) (sym z ∙ p))) (omega arith)

            module _ {b : Option ℕ} (r : b ≡ lowest_row (too_wide 2 t.site.now t.node.now) (length t.site.now)) where
              pub lent_mutation : (k : ℕ) → b ≡ Some k → written_of (Err (MutationWide k)) out ≡ writing 2 stored_limits L (lent_in t) S out
              lent_mutation k e =
                  let w : _ = lowest_row-some (too_wide 2 t.site.now t.node.now) (length t.site.now) k (sym e ∙ r) in
                  write_mutation L (lent_in t) S out lent_shaped lent_within edges_pass k w.2 w.0

              module _ (z' : b ≡ None) where
                pub muts_pass : (i : ℕ) → i < length t.site.now → too_wide 2 t.site.now t.node.now i ≡ false
                muts_pass = muts_narrow L (lent_in t) S out lent_shaped lent_within (length t.site.now) (sym (lowest_row-none (too_wide 2 t.site.now t.node.now) (length t.site.now) (sym z' ∙ r))) (omega arith)

                module _ {m : Option ℕ} (v : m ≡ lowest_row (populated t.population.now) (length t.population.now)) where
                  pub lent_populated : (k : ℕ) → m ≡ Some k → written_of (Err (Populated k)) out ≡ writing 2 stored_limits L (lent_in t) S out
                  lent_populated k e =
                      let w : _ = lowest_row-some (populated t.population.now) (length t.population.now) k (sym e ∙ v) in
                      write_populated L (lent_in t) S out lent_shaped lent_within edges_pass muts_pass (length t.population.now) k (nodes_same (lent_in t) lent_shaped).1 w.2 w.0

                  module _ (z'' : m ≡ None) {n : ℕ} (c : n ≡ 8 + length S * 6 + length t.time.now * 10 + length t.left.now * 14 + length t.position.now * 7 + length t.site.now * 7) where
                    pub lent_narrow : Narrow 2 (lent_in t)
                    lent_narrow = record {
                      edges = edges_pass;
                      muts = muts_pass;
                      nodes = nodes_settled L (lent_in t) S out lent_shaped lent_within (length t.population.now) (length t.population.now) (nodes_same (lent_in t) lent_shaped).1 (sym (lowest_row-none (populated t.population.now) (length t.population.now) (sym z'' ∙ v))) (omega arith);
                    }

                    pub lent_full : length out < n → written_of (Err (NoRoom 7)) out ≡ writing 2 stored_limits L (lent_in t) S out
                    lent_full h = write_full L (lent_in t) S out lent_shaped lent_within lent_narrow (omega (arith, c))

                    pub lent_done : n ≤ length out → {o1 o2 o3 o4 o5 o6 o7 : List ℕ} {a' b' c' d' e' : ℕ} → Steps L (lent_in t) S out lent_shaped lent_within lent_narrow o1 o2 o3 o4 o5 o6 o7 a' b' c' d' e' → written_of (Ok n) o7 ≡ writing 2 stored_limits L (lent_in t) S out
                    lent_done h k = write_done L (lent_in t) S out lent_shaped lent_within lent_narrow n c h k
