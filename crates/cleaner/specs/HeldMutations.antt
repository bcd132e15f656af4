-- The mutations that move, with places for rows, are the mutations of the result.
use Rattle.std.specs.Prelude.{◌≡◌, eqb, length, take}
use Rattle.std.proofs.Math.Path.{refl, sym, ap, ap₂}
use Rattle.std.proofs.Common.{◌∙◌, arith, eq-eqb, ne_eqb}
use Rattle.std.proofs.Math.Bool.{true, false}
use mathlib.Core.List.{List, [], ◌∷◌, ◌++◌, map}
use Rattle.std.proofs.Math.Option.{Option, none, some}
use Prim.Native.Nat.{ℕ, zero, suc, ◌+◌, ◌<◌, ◌≤◌}
use Rattle.meaning.specs.Words.{at, mem, index_of, rows, rows_from}
use Rattle.meaning.specs.Rows.{MutationColumns, Tables, Mutation, muts_of}
use Rattle.meaning.specs.Answer.{limits}
use Rattle.meaning.specs.Clean.{moved, row_in, no_row}
use Rattle.bridge.specs.Parents.{code}
use Rattle.byrows.specs.Rows.{all_rows, sample_rows, low_row}
use Rattle.byrows.specs.Ground.{Ground, low_inside}
use Rattle.byrows.specs.Kept.{Others}
use Rattle.byrows.specs.Result.{moved_rows}
use Rattle.writing.specs.Renamed.{renamed}
use Rattle.placing.specs.Placing.{movers}
use Rattle.cleaner.specs.Places.{kept_of, low_stands, named}

-- ---- one mutation more at the end

rows_end : {A : Type 0} (f : ℕ → A) (i k : ℕ) → rows_from f i (suc k) ≡ rows_from f i k ++ (f (i + k) ∷ [])
unfolding rows_from
rows_end f i zero = let e : i ≡ i + 0 = omega arith in ap (λ j. f j ∷ []) e
rows_end f i (suc k) = let e : suc i + k ≡ i + suc k = omega arith in ap (λ (l : List _). f i ∷ l) (rows_end f (suc i) k ∙ ap (λ j. rows_from f (suc i) k ++ (f j ∷ [])) e)

rows_more : {A : Type 0} (f : ℕ → A) (k : ℕ) → rows f (suc k) ≡ rows f k ++ (f k ∷ [])
unfolding rows
rows_more f k = let e : 0 + k ≡ k = omega arith in rows_end f 0 k ∙ ap (λ j. rows_from f 0 k ++ (f j ∷ [])) e

module _ (pos : ℕ → ℕ) (G : ℕ → ℕ → Option ℕ) where
  moved_append : (l r : List Mutation) → moved pos G (l ++ r) ≡ moved pos G l ++ moved pos G r
  unfolding moved
  moved_append [] r = refl
  moved_append (m ∷ l) r = go (G (pos m.site) m.node) refl (moved_append l r)
    where
      go : (t : Option ℕ) → G (pos m.site) m.node ≡ t → moved pos G (l ++ r) ≡ moved pos G l ++ moved pos G r → moved pos G (m ∷ (l ++ r)) ≡ moved pos G (m ∷ l) ++ moved pos G r
      go none e ih = rw (e, moved) ih
      go (some w) e ih = rw (e, moved) (ap (λ (z : List Mutation). record { site = m.site; node = w; derived = m.derived } ∷ z) ih)

map_append : {A B : Type 0} (h : A → B) (l r : List A) → map h (l ++ r) ≡ map h l ++ map h r
map_append h [] r = refl
map_append h (a ∷ l) r = ap (λ (z : List _). h a ∷ z) (map_append h l r)

-- a field of the moved mutations, read at the rows of those whose cell is a row
module _ (pos : ℕ → ℕ) (G : ℕ → ℕ → Option ℕ) (site node derived : ℕ → ℕ) (cells : ℕ → ℕ) (h : Mutation → ℕ) (c : ℕ → ℕ) where
  abbrev mut : ℕ → Mutation
  mut i = record { site = site i; node = node i; derived = derived i }

  one : (j : ℕ) → (G (pos (site j)) (node j) ≡ none → cells j ≡ no_row) → ((w : ℕ) → G (pos (site j)) (node j) ≡ some w → (cells j ≡ no_row → ⊥) × (h (record { site = site j; node = w; derived = derived j }) ≡ c j)) → map h (moved pos G (mut j ∷ [])) ≡ map c (elim (eqb (cells j) no_row) [ true ↦ [] | false ↦ j ∷ [] ])
  unfolding moved
  one j stay move = go (G (pos (site j)) (node j)) refl
    where
      go : (t : Option ℕ) → G (pos (site j)) (node j) ≡ t → map h (moved pos G (mut j ∷ [])) ≡ map c (elim (eqb (cells j) no_row) [ true ↦ [] | false ↦ j ∷ [] ])
      go none e = rw (e, moved) (rw (eq-eqb (cells j) no_row (stay e)) refl)
      go (some w) e = let y : _ = move w e in rw (e, moved) (rw (ne_eqb (cells j) no_row y.0) (ap (λ v. v ∷ []) y.1))

  none_moved : map h (moved pos G (rows mut 0)) ≡ []
  unfolding rows rows_from moved
  none_moved = refl

  pub moved_field : (k : ℕ) → ((j : ℕ) → j < k → G (pos (site j)) (node j) ≡ none → cells j ≡ no_row) → ((j w : ℕ) → j < k → G (pos (site j)) (node j) ≡ some w → (cells j ≡ no_row → ⊥) × (h (record { site = site j; node = w; derived = derived j }) ≡ c j)) → map h (moved pos G (rows mut k)) ≡ map c (movers cells k)
  unfolding movers
  moved_field zero stay move = none_moved
  moved_field (suc k) stay move =
      ap (λ l. map h (moved pos G l)) (rows_more mut k)
      ∙ ap (map h) (moved_append pos G (rows mut k) (mut k ∷ []))
      ∙ map_append h (moved pos G (rows mut k)) (moved pos G (mut k ∷ []))
      ∙ ap₂ ◌++◌ (moved_field k (λ j l. stay j (omega arith)) (λ j w l. move j w (omega arith))) (one k (stay k (omega arith)) (λ w. move k w (omega arith)))
      ∙ sym (map_append c (movers cells k) (elim (eqb (cells k) no_row) [ true ↦ [] | false ↦ k ∷ [] ]))

module _ (L : ℕ) (T : Tables) (S : List ℕ) (g : Ground limits L T S) (OR : List ℕ) (o : Others limits L T S g OR) where
  abbrev n : ℕ
  n = length T.nodes.birth

  abbrev SR : List ℕ
  SR = sample_rows T.nodes.birth S

  abbrev q : ℕ
  q = length T.muts.site

  abbrev low : ℕ → Option ℕ
  low i = low_row T.edges n SR (at T.sites.position (at T.muts.site i)) (at T.muts.node i)

  abbrev low_of : ℕ → ℕ
  low_of i = code (low i)

  row_of : (i w : ℕ) → i < q → low i ≡ some w → (w < n) × (mem w (SR ++ OR) ≡ true)
  row_of i w l z =
      let u : at T.muts.node i < n = omega (arith, g.sound.sites.node_row i l, g.sound.shape.births) in
      let x : at T.sites.position (at T.muts.site i) < L = g.sound.sites.inside (at T.muts.site i) (g.sound.sites.site_row i l) in
      let b : w < n = low_inside limits L T S g (at T.sites.position (at T.muts.site i)) (at T.muts.node i) w u z in
      (b, kept_of L T S g OR o w (at T.sites.position (at T.muts.site i)) b x (low_stands L T S g OR o (at T.sites.position (at T.muts.site i)) (at T.muts.node i) w z))

  stays : (i : ℕ) → i < q → low i ≡ none → low_of i ≡ no_row
  unfolding code
  stays i l z = ap code z

  goes : (i w : ℕ) → i < q → low i ≡ some w → low_of i ≡ no_row → ⊥
  unfolding code
  goes i w l z e = omega (arith, (row_of i w l z).0, ap code z, g.sound.size.nodes, g.sound.shape.births)

  module _ (places : List ℕ) (long : n ≤ length places) (placed : take n places ≡ map (row_in (SR ++ OR)) (all_rows n)) where
    place_of : (i w : ℕ) → i < q → low i ≡ some w → renamed places (low_of i) ≡ index_of w (SR ++ OR)
    unfolding code
    place_of i w l z = let r : _ = row_of i w l z in ap (λ v. renamed places (code v)) z ∙ named L T S g OR o places long placed w r.0 r.1

    field : (h : Mutation → ℕ) (c : ℕ → ℕ) → ((i w : ℕ) → i < q → low i ≡ some w → h (record { site = at T.muts.site i; node = w; derived = at T.muts.derived i }) ≡ c i) → map h (moved_rows T SR) ≡ map c (movers low_of q)
    unfolding moved_rows muts_of
    field h c y = moved_field (at T.sites.position) (low_row T.edges n SR) (at T.muts.site) (at T.muts.node) (at T.muts.derived) low_of h c q stays (λ i w l z. (goes i w l z, y i w l z))

    -- the mutations of the result
    pub the_mutations : ◌≡◌ {A = MutationColumns} (record {
      site = map (λ (m : Mutation). m.site) (moved_rows T SR);
      node = map (λ (m : Mutation). index_of m.node (SR ++ OR)) (moved_rows T SR);
      derived = map (λ (m : Mutation). m.derived) (moved_rows T SR);
    }) (record {
      site = map (at T.muts.site) (movers low_of q);
      node = map (λ i. renamed places (low_of i)) (movers low_of q);
      derived = map (at T.muts.derived) (movers low_of q);
    })
    the_mutations = λ j. record {
      site = field (λ (m : Mutation). m.site) (at T.muts.site) (λ i w l z. refl) j;
      node = field (λ (m : Mutation). index_of m.node (SR ++ OR)) (λ i. renamed places (low_of i)) (λ i w l z. sym (place_of i w l z)) j;
      derived = field (λ (m : Mutation). m.derived) (at T.muts.derived) (λ i w l z. refl) j;
    }
