-- The rows kept and the edges between rows name the fish kept and the edges of the cleaned record.
use Rattle.std.specs.Prelude.{◌≡◌, Bool, ◌⊎◌, ℕ, zero, suc, ◌<◌, ◌≤◌, eqb, length}
use Rattle.std.proofs.Math.Path.{refl, ap₂}
use Rattle.std.proofs.Common.{sym, ap, ◌∙◌, inl, inr, ⊎_elim, arith}
use Rattle.std.proofs.Math.Bool.{true, false}
use mathlib.Core.List.{List, [], ◌∷◌, ◌++◌, map, map-map, map-append}
use Rattle.std.proofs.Math.Option.{Option, none, some}
use Rattle.meaning.specs.Words.{at, mem, lex, index_of}
use Rattle.meaning.specs.Rows.{NodeColumns, EdgeColumns, Tables, Edge, Record, births, record_of, time_of, edge_key}
use Rattle.meaning.specs.Forest.{Par, Ages, parent_in, is, stands, up, drawn}
use Rattle.meaning.specs.Answer.{Limits}
use Rattle.meaning.specs.Clean.{before, stands_at, forest_at, others, kept, edges_for}
use Rattle.laws.specs.Bools.{clash, bool_ext, some_inj, none_some}
use Rattle.laws.specs.Members.{mem_here, mem_there, mem_cases, mem_nil}
use Rattle.laws.specs.Facts.{Distinct, Any, now, later, All, done, also, Cov}
use Rattle.bridge.specs.Parents.{parent_row}
use Rattle.forest.specs.Profile.{stands_profile}
use Rattle.history.specs.Order.{Sorted, none_left, least, sorted_unique, before_order}
use Rattle.history.specs.Kept.{chosen, not_sample, somewhere, of_somewhere, others_of, of_others, others_sorted, kept_distinct}
use Rattle.history.specs.Cleaned.{kept_in, drawn_ends}
use Rattle.encoding.specs.Ascending.{Ascending, empty, first}
use Rattle.encoding.specs.Runs.{Longest}
use Rattle.encoding.specs.Edges.{by_key, Whole, Covers, the_edges}
use Rattle.bridge.specs.Rename.{map_option, eqb_names, near_inside}
use Rattle.bridge.specs.Columns.{parent_inside}
use Rattle.byrows.specs.Named.{mem_names}
use Rattle.byrows.specs.Rows.{all_rows, sample_rows, stands_row, up_row, before_row, row_key}
use Rattle.byrows.specs.Ground.{Ground, mem_all, births_are, sample_names, samples_inside, once, within, row_name, row_fish, row_time, stands_row-is, up_row-is, clean_ok, birth_forest}

-- ---- lists under a map

-- a member of a mapped list is the image of a member
map_mem : (f : ℕ → ℕ) (b : ℕ) (l : List ℕ) → mem b (map f l) ≡ true → (v : ℕ) × (mem v l ≡ true) × (f v ≡ b)
map_mem f b [] h = absurd (mem_nil b h)
map_mem f b (a ∷ l) h = ⊎_elim
    (λ (e : b ≡ f a). (a, mem_here a a l refl, sym e))
    (λ (k : mem b (map f l) ≡ true). let r : _ = map_mem f b l k in (r.0, mem_there r.0 a l r.1, r.2))
    (mem_cases b (f a) (map f l) h)

sorted_map : (f : ℕ → ℕ) (lt gt : ℕ → ℕ → Bool) (l : List ℕ) → ((a b : ℕ) → mem a l ≡ true → mem b l ≡ true → lt (f a) (f b) ≡ gt a b) → Sorted gt l → Sorted lt (map f l)
sorted_map f lt gt [] h none_left = none_left
sorted_map f lt gt (a ∷ l) h (least g s) = least under (sorted_map f lt gt l (λ c d p q. h c d (mem_there c a l p) (mem_there d a l q)) s)
  where
    under : (b : ℕ) → mem b (map f l) ≡ true → lt (f a) b ≡ true
    under b m = let r : _ = map_mem f b l m in rw (sym r.2) (h a r.0 (mem_here a a l refl) (mem_there r.0 a l r.1) ∙ g r.0 r.1)

all_map : {A B : Type 0} {Q : A → Type 0} {W : B → Type 0} (h : A → B) {l : List A} → ((a : A) → Q a → W (h a)) → All Q l → All W (map h l)
all_map h f done = done
all_map h f (also q x) = also (f _ q) (all_map h f x)

ascending_map : {A B : Type 0} {Q : A → Type 0} (h : A → B) (lt : A → A → Bool) (gt : B → B → Bool) {l : List A} → ((a b : A) → Q a → Q b → gt (h a) (h b) ≡ lt a b) → All Q l → Ascending lt l → Ascending gt (map h l)
ascending_map h lt gt f done empty = empty
ascending_map {Q = Q} h lt gt f (also q x) (first p s) = first (under q x p) (ascending_map h lt gt f x s)
  where
    under : {a : _} {l : List _} → Q a → All Q l → All (λ b. lt a b ≡ true) l → All (λ b. gt (h a) b ≡ true) (map h l)
    under q done done = done
    under q (also w y) (also e z) = also (f _ _ q w ∙ e) (under q y z)

any_map : {A B : Type 0} {Q : A → Type 0} {W : B → Type 0} (h : A → B) {l : List A} → ((a : A) → Q a → W (h a)) → Any Q l → Any W (map h l)
any_map h f (now q) = now (f _ q)
any_map h f (later x) = later (any_map h f x)

-- an edge between rows, by births
abbrev pub name_edge : (ℕ → ℕ) → Edge → Edge
name_edge f e = record { left = e.left; right = e.right; parent = f e.parent; child = f e.child }

module _ (m : Limits) (L : ℕ) (T : Tables) (S : List ℕ) (g : Ground m L T S) where
  abbrev f : ℕ → ℕ
  f = at T.nodes.birth

  abbrev n : ℕ
  n = length T.nodes.birth

  abbrev R : Record
  R = record_of L T

  abbrev SR : List ℕ
  SR = sample_rows T.nodes.birth S

  abbrev time' : ℕ → ℕ
  time' = time_of R.nodes

  length_is : R.len ≡ L
  unfolding record_of
  length_is = refl

  before_rows : (a b : ℕ) → a < n → b < n → before time' (f a) (f b) ≡ before_row T.nodes a b
  unfolding before before_row
  before_rows a b p q = ap₂ (λ s t. lex (s ∷ f a ∷ []) (t ∷ f b ∷ [])) (row_time m L T S g a p) (row_time m L T S g b q)

  sample_row : (u : ℕ) → u < n → mem (f u) S ≡ mem u SR
  sample_row u l = ap (mem (f u)) (sym (sample_names m L T S g)) ∙ mem_names n f (once m L T S g) u l SR (samples_inside m L T S g)

  births_once : Distinct (births R.nodes)
  births_once = (clean_ok m L T S g).good.once

  -- ---- the rows kept

  -- a list of rows that is the other rows kept: those that stand somewhere and are no samples, by (time, birth)
  pub record Others (OR : List ℕ) : Type 0 where
    pub inside : All (λ v. v < n) OR
    pub sorted : Sorted (before_row T.nodes) OR
    pub right : (v : ℕ) → mem v OR ≡ true → (mem v SR ≡ false) × ((x : ℕ) × (x < L) × (stands_row T.edges n SR x v ≡ true))
    pub all : (v x : ℕ) → v < n → x < L → mem v SR ≡ false → stands_row T.edges n SR x v ≡ true → mem v OR ≡ true

  pub others_are : (OR : List ℕ) → Others OR → map f OR ≡ others stands R S
  others_are OR o = sorted_unique (before time') (before_order time') (map f OR) (others stands R S)
      (sorted_map f (before time') (before_row T.nodes) OR (λ a b p q. before_rows a b (mem_all OR o.inside a p) (mem_all OR o.inside b q)) o.sorted)
      (others_sorted stands R S births_once)
      (λ b. bool_ext (into b) (back b))
    where
      into : (b : ℕ) → mem b (map f OR) ≡ true → mem b (others stands R S) ≡ true
      into b h =
          let v : _ = map_mem f b OR h in
          let l : v.0 < n = mem_all OR o.inside v.0 v.1 in
          let r : _ = o.right v.0 v.1 in
          rw (sym v.2) (of_others stands R S (f v.0) (row_fish m L T S g v.0 l)
          (of_somewhere stands R S (f v.0) r.1.0 (sample_row v.0 l ∙ r.0) (omega (arith, r.1.1, length_is)) (stands_row-is m L T S g r.1.0 v.0 l ∙ r.1.2)))

      back : (b : ℕ) → mem b (others stands R S) ≡ true → mem b (map f OR) ≡ true
      back b h =
          let p : _ = others_of stands R S b h in
          let u : _ = row_name m L T S g b p.0 in
          let c : chosen stands R S (f u.0) ≡ true = rw u.2 p.1 in
          let x : _ = somewhere stands R S (f u.0) c in
          let i : mem u.0 OR ≡ true = o.all u.0 x.0 u.1 (omega (arith, x.1, length_is)) (sym (sample_row u.0 u.1) ∙ not_sample stands R S (f u.0) c) (sym (stands_row-is m L T S g x.0 u.0 u.1) ∙ x.2) in
          rw (sym u.2) (mem_names n f (once m L T S g) u.0 u.1 OR o.inside ∙ i)

  pub kept_are : (OR : List ℕ) → Others OR → map f (SR ++ OR) ≡ kept stands R S
  unfolding kept
  kept_are OR o = map-append f SR OR ∙ ap₂ ◌++◌ (sample_names m L T S g) (others_are OR o)

  -- ---- the edges

  rows_in : (x u p : ℕ) → u < n → parent_row T.edges x u ≡ some p → p < n
  unfolding parent_row
  rows_in x u p l h = parent_inside n T.edges (within m L T S g) x u p h

  climbed_inside : (x u p : ℕ) → u < n → (o : Option ℕ) → parent_row T.edges x u ≡ o → up (parent_row T.edges x) (stands_row T.edges n SR x) u ≡ some p → p < n
  unfolding up
  climbed_inside x u p l none e k = absurd (none_some refl (rw (e, up) at k))
  climbed_inside x u p l (some q) e k = (near_inside n (parent_row T.edges x) (rows_in x) (stands_row T.edges n SR x) Ages q p (rows_in x u q l e) (rw (e, up) at k)).0

  -- an output parent is a row
  pub up_inside : (x u p : ℕ) → u < n → up_row T.edges n SR x u ≡ some p → p < n
  unfolding up_row drawn
  up_inside x u p l h = inside (stands_row T.edges n SR x u) refl
    where
      inside : (t : Bool) → stands_row T.edges n SR x u ≡ t → p < n
      inside true e = climbed_inside x u p l (parent_row T.edges x u) refl (rw (e, drawn) at h)
      inside false e = absurd (none_some refl (rw (e, drawn) at h))

  is_rows : (o : Option ℕ) (u : ℕ) → ((p : ℕ) → o ≡ some p → p < n) → u < n → is (map_option f o) (f u) ≡ is o u
  unfolding is
  is_rows none u h l = refl
  is_rows (some p) u h l = eqb_names n f (once m L T S g) p u (h p refl) l

  abbrev D : ℕ → Par
  D x = forest_at stands R S x

  -- whether p is c's output parent at x, by births and by rows
  is_up : (x c p : ℕ) → c < n → p < n → is (D x (f c)) (f p) ≡ is (up_row T.edges n SR x c) p
  is_up x c p k l = ap (λ o. is o (f p)) (up_row-is m L T S g x c k) ∙ is_rows (up_row T.edges n SR x c) p (λ q e. up_inside x c q k e) l

  -- a list of edges between rows that is the edges of the result: in key order, each as long as it can be, every output parent covered
  pub record EdgeRows (F : List Edge) : Type 0 where
    pub inside : All (λ (e : Edge). (e.parent < n) × (e.child < n)) F
    pub ascending : Ascending (λ d e. lex (row_key T.nodes d) (row_key T.nodes e)) F
    pub whole : All (λ (e : Edge). Longest L (λ x. is (up_row T.edges n SR x e.child) e.parent) e) F
    pub covers : (x u p : ℕ) → x < L → u < n → up_row T.edges n SR x u ≡ some p → Any (Cov x u p) F

  all_and : {A : Type 0} {P Q : A → Type 0} {l : List A} → All P l → All Q l → All (λ a. P a × Q a) l
  all_and done done = done
  all_and (also p x) (also q y) = also (p, q) (all_and x y)

  key_rows : (d e : Edge) → (d.parent < n) × (d.child < n) → (e.parent < n) × (e.child < n) → by_key L time' D (name_edge f d) (name_edge f e) ≡ lex (row_key T.nodes d) (row_key T.nodes e)
  unfolding edge_key row_key
  key_rows d e p q = ap₂ (λ s t. lex (s ∷ f d.parent ∷ f d.child ∷ d.left ∷ []) (t ∷ f e.parent ∷ f e.child ∷ e.left ∷ [])) (row_time m L T S g d.parent p.0) (row_time m L T S g e.parent q.0)

  longest_names : (e : Edge) → (e.parent < n) × (e.child < n) → Longest L (λ x. is (up_row T.edges n SR x e.child) e.parent) e → Whole L time' D (name_edge f e)
  longest_names e p w = record {
    wide = w.wide;
    inside = w.inside;
    holds = λ x i j. is_up x e.child e.parent p.1 p.0 ∙ w.holds x i j;
    begins = λ y q. is_up y e.child e.parent p.1 p.0 ∙ w.begins y q;
    ends = λ l. is_up e.right e.child e.parent p.1 p.0 ∙ w.ends l;
  }

  -- an output parent by births is the name of one by rows
  un_name : (o : Option ℕ) (p : ℕ) → map_option f o ≡ some p → (q : ℕ) × (o ≡ some q) × (f q ≡ p)
  un_name none p h = absurd (none_some refl h)
  un_name (some q) p h = (q, refl, some_inj refl h)

  covers_names : (F : List Edge) → EdgeRows F → Covers L time' D (map (name_edge f) F)
  covers_names F r x b p l e =
      let z : _ = drawn_ends stands stands_profile R S (clean_ok m L T S g) x b p (omega (arith, length_is)) (birth_forest m L T S g x b ∙ e) in
      let u : _ = row_name m L T S g b (kept_in stands stands_profile R S (clean_ok m L T S g) b z.0) in
      let q : _ = un_name (up_row T.edges n SR x u.0) p (sym (up_row-is m L T S g x u.0 u.1) ∙ ap (D x) u.2 ∙ e) in
      any_map (name_edge f) (λ d c. record { of_child = ap f c.of_child ∙ u.2; begun = c.begun; not_over = c.not_over; to_parent = ap f c.to_parent ∙ q.2 }) (r.covers x u.0 q.0 l u.1 q.1)

  pub edges_are : (OR : List ℕ) → Others OR → (F : List Edge) → EdgeRows F → map (name_edge f) F ≡ edges_for L time' D (kept stands R S)
  edges_are OR o F r = the_edges L time' D (kept stands R S) (kept_distinct stands R S births_once (clean_ok m L T S g).distinct)
      (λ x b p l e. drawn_ends stands stands_profile R S (clean_ok m L T S g) x b p (omega (arith, length_is)) (birth_forest m L T S g x b ∙ e))
      (map (name_edge f) F)
      (ascending_map (name_edge f) (λ d e. lex (row_key T.nodes d) (row_key T.nodes e)) (by_key L time' D) key_rows r.inside r.ascending)
      (all_map (name_edge f) (λ e w. longest_names e w.0 w.1) (all_and r.inside r.whole))
      (covers_names F r)
