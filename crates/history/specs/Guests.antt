-- A guest line can't touch ours: two records that agree on what is reached are cleaned to the same record; and common ancestors stay.
use Rattle.std.specs.Prelude.{◌≡◌, Bool, true, false, List, [], ◌∷◌, ℕ, ◌<◌}
use Rattle.std.proofs.Math.Path.{refl, ap}
use Rattle.std.proofs.Common.{sym, ap₂, ◌∙◌, ⊎_elim, arith}
use Rattle.std.proofs.Math.Option.{Option, none, some}
use Rattle.meaning.specs.Words.{mem, filter}
use Rattle.meaning.specs.Rows.{Site, Mutation, Tables, Record, births, node_of, time_of, pos_of, record_of, tables_of}
use Rattle.meaning.specs.Forest.{Par, Ages, Rules, parent_in, reached, low, drawn}
use Rattle.meaning.specs.Clean.{moved, stands_at, forest_at, low_at, kept, clean, cleaned}
use Rattle.laws.specs.Bools.{clash, truth}
use Rattle.laws.specs.Facts.{In, CleanOk}
use Rattle.forest.specs.Lines.{Above, here}
use Rattle.forest.specs.TreeLaws.{reached_of, of_reached}
use Rattle.forest.specs.Lowest.{low_of}
use Rattle.forest.specs.Redrawn.{low_reached}
use Rattle.forest.specs.Profile.{Profile}
use Rattle.forest.specs.Guest.{guest_stands, guest_forest, guest_low}
use Rattle.forest.specs.Mrca.{Mrca, mrca_stands, mrca_kept, mrca_none}
use Rattle.history.specs.Lists.{all_filter, all_to}
use Rattle.history.specs.Moved.{moved_same}
use Rattle.history.specs.Same.{same_clean}
use Rattle.history.specs.Cleaned.{good_aged, good_nodes, rule_at, drawn_at, reached_old, stands_kept, clean_parent}

unfoldable pub reached_at : Record → List ℕ → ℕ → ℕ → Bool
unfolding reached
reached_at R S x = reached (parent_in R.edges x) S

-- the mutation is on a reached node
abbrev pub on_reached : (ℕ → ℕ) → (ℕ → ℕ → Bool) → Mutation → Bool
on_reached pos r m = r (pos m.site) m.node

moved_reached : (pos : ℕ → ℕ) (r : ℕ → ℕ → Bool) (G : ℕ → ℕ → Option ℕ) → ((x u : ℕ) → r x u ≡ false → G x u ≡ none) → (l : List Mutation) → moved pos G (filter (on_reached pos r) l) ≡ moved pos G l
unfolding moved filter
moved_reached pos r G h [] = refl
moved_reached pos r G h (m ∷ l) = go (r (pos m.site) m.node) refl (G (pos m.site) m.node) refl (moved_reached pos r G h l)
  where
    go : (t : Bool) → r (pos m.site) m.node ≡ t → (o : Option ℕ) → G (pos m.site) m.node ≡ o → moved pos G (filter (on_reached pos r) l) ≡ moved pos G l →
        moved pos G (filter (on_reached pos r) (m ∷ l)) ≡ moved pos G (m ∷ l)
    go true e none f ih = rw (e, filter) (rw (f, moved) ih)
    go true e (some w) f ih = rw (e, filter) (rw (f, moved) (ap (λ (k : List Mutation). record { site = m.site; node = w; derived = m.derived } ∷ k) ih))
    go false e o f ih = rw (e, filter) (rw (h (pos m.site) m.node e, moved) ih)

-- two records with one chromosome, one list of sites and one list of samples, neither refused: at every position the same fish are reached, with the same rows and the same parents, and the same mutations are on reached fish in the same order
pub record Guests (S : List ℕ) (A B : Record) : Type 0 where
  pub ok_a : CleanOk A S
  pub ok_b : CleanOk B S
  pub len : A.len ≡ B.len
  pub not_empty : 0 < B.len
  pub sites : A.sites ≡ B.sites
  pub reached_same : (x : ℕ) → x < B.len → (b : ℕ) → reached_at A S x b ≡ reached_at B S x b
  pub parents : (x : ℕ) → x < B.len → (b : ℕ) → reached_at A S x b ≡ true → parent_in A.edges x b ≡ parent_in B.edges x b
  pub rows : (x : ℕ) → x < B.len → (b : ℕ) → reached_at A S x b ≡ true → node_of A.nodes b ≡ node_of B.nodes b
  pub muts : filter (on_reached (pos_of A.sites) (reached_at A S)) A.muts ≡ filter (on_reached (pos_of B.sites) (reached_at B S)) B.muts

module _ (rule : Rules) (pr : Profile rule) (S : List ℕ) where
  module _ (R : Record) (ok : CleanOk R S) (x : ℕ) where
    abbrev P : Par
    P = parent_in R.edges x

    of_stands : (b : ℕ) → stands_at rule R S x b ≡ true → reached_at R S x b ≡ true
    unfolding stands_at reached_at
    of_stands b k = of_reached P (time_of R.nodes) (good_aged R ok.good x) S b ((rule_at rule pr R S ok x).only k)

    of_sample : (b : ℕ) → In S b → reached_at R S x b ≡ true
    unfolding reached_at
    of_sample b m = of_reached P (time_of R.nodes) (good_aged R ok.good x) S b (b, m, here)

    in_record : (b : ℕ) → reached_at R S x b ≡ true → mem b (births R.nodes) ≡ true
    unfolding reached_at
    in_record b k = reached_old rule pr R S ok x b (reached_of P (time_of R.nodes) (good_aged R ok.good x) S b k)

    -- a mutation on a node that is not reached is dropped
    low_none : (u : ℕ) → reached_at R S x u ≡ false → low_at rule R S x u ≡ none
    unfolding low_at stands_at reached_at
    low_none u k = go (low (births R.nodes) P (reached P S) (rule (births R.nodes) P S) Ages u) refl
      where
        go : (o : Option ℕ) → low (births R.nodes) P (reached P S) (rule (births R.nodes) P S) Ages u ≡ o → o ≡ none
        go none e = refl
        go (some w) e = absurd (clash
            (of_reached P (time_of R.nodes) (good_aged R ok.good x) S u (low_reached (rule_at rule pr R S ok x) (low_of P (time_of R.nodes) (good_aged R ok.good x)
            (births R.nodes) (good_nodes R ok.good x) S (rule (births R.nodes) P S) (rule_at rule pr R S ok x) Ages w u e)))
            k)

  module _ (A B : Record) (h : Guests S A B) where
    abbrev pos : ℕ → ℕ
    pos = pos_of A.sites

    module _ (x : ℕ) (l : x < B.len) where
      same_stands : stands_at rule A S x ≡ stands_at rule B S x
      unfolding stands_at reached_at
      same_stands = guest_stands rule pr (parent_in A.edges x) (parent_in B.edges x) (time_of A.nodes) (time_of B.nodes) (good_aged A h.ok_a.good x)
          (good_aged B h.ok_b.good x) (births A.nodes) (births B.nodes) (good_nodes A h.ok_a.good x) (good_nodes B h.ok_b.good x) S (h.reached_same x l)
          (h.parents x l)

      same_forest : forest_at rule A S x ≡ forest_at rule B S x
      unfolding forest_at stands_at reached_at
      same_forest = guest_forest rule pr (parent_in A.edges x) (parent_in B.edges x) (time_of A.nodes) (time_of B.nodes) (good_aged A h.ok_a.good x)
          (good_aged B h.ok_b.good x) (births A.nodes) (births B.nodes) (good_nodes A h.ok_a.good x) (good_nodes B h.ok_b.good x) S (h.reached_same x l)
          (h.parents x l)

      low_reached_same : (u : ℕ) → reached_at A S x u ≡ true → low_at rule A S x u ≡ low_at rule B S x u
      unfolding low_at stands_at reached_at
      low_reached_same u k = guest_low rule pr (parent_in A.edges x) (parent_in B.edges x) (time_of A.nodes) (time_of B.nodes) (good_aged A h.ok_a.good x)
          (good_aged B h.ok_b.good x) (births A.nodes) (births B.nodes) (good_nodes A h.ok_a.good x) (good_nodes B h.ok_b.good x) S (h.reached_same x l)
          (h.parents x l) u (omega (arith, h.ok_a.good.young u)) (omega (arith, h.ok_b.good.young u)) k

      same_low : (u : ℕ) → low_at rule A S x u ≡ low_at rule B S x u
      same_low u = ⊎_elim (low_reached_same u)
          (λ (k : reached_at A S x u ≡ false). low_none A h.ok_a x u k ∙ sym (low_none B h.ok_b x u (sym (h.reached_same x l u) ∙ k))) (truth (reached_at A S x u))

      born : (b : ℕ) → stands_at rule B S x b ≡ true → (mem b (births A.nodes) ≡ true) × (mem b (births B.nodes) ≡ true) × (node_of A.nodes b ≡ node_of B.nodes b)
      born b k =
          let r : reached_at B S x b ≡ true = of_stands B h.ok_b x b k in
          let q : reached_at A S x b ≡ true = h.reached_same x l b ∙ r in
          (in_record A h.ok_a x b q, in_record B h.ok_b x b r, h.rows x l b q)

    same_moved : moved (pos_of A.sites) (low_at rule A S) A.muts ≡ moved (pos_of B.sites) (low_at rule B S) B.muts
    same_moved =
        sym (moved_reached pos (reached_at A S) (low_at rule A S) (low_none A h.ok_a) A.muts)
        ∙ moved_same pos (low_at rule A S) (low_at rule B S) (filter (on_reached pos (reached_at A S)) A.muts)
        (all_filter (on_reached pos (reached_at A S)) A.muts (all_to (λ m p. same_low (pos m.site) (omega (arith, p.1, h.len)) m.node) h.ok_a.good.muts_ok))
        ∙ ap₂ (λ (s : List Site) (l : List Mutation). moved (pos_of s) (low_at rule B S) l) h.sites h.muts
        ∙ moved_reached (pos_of B.sites) (reached_at B S) (low_at rule B S) (low_none B h.ok_b) B.muts

    -- the two cleaned records are one
    pub guest_clean : clean rule S A ≡ clean rule S B
    guest_clean = same_clean rule S A B (record {
      len = h.len;
      sites = h.sites;
      once_y = h.ok_a.good.once;
      once_x = h.ok_b.good.once;
      samples = h.ok_a.distinct;
      stand = same_stands;
      forest = same_forest;
      born = λ x b l k. born x l b k;
      sample_row = λ b m. h.rows 0 h.not_empty b (of_sample A h.ok_a 0 b m);
      muts = same_moved;
    })

  -- and so are the four tables
  pub guest_tables : (L : ℕ) (T U : Tables) → Guests S (record_of L T) (record_of L U) → cleaned rule L T S ≡ cleaned rule L U S
  unfolding cleaned
  guest_tables L T U h = ap tables_of (guest_clean (record_of L T) (record_of L U) h)

  -- ---- two samples' most recent common ancestor

  module _ (R : Record) (ok : CleanOk R S) (x : ℕ) (l : x < R.len) (s t : ℕ) (ms : In S s) (mt : In S t) where
    abbrev C : Record
    C = clean rule S R

    -- it is in the output, and is theirs there
    pub common_kept : (m : ℕ) → Mrca (parent_in R.edges x) s t m → (mem m (kept rule R S) ≡ true) × Mrca (parent_in C.edges x) s t m
    common_kept m a =
        let q : parent_in C.edges x ≡ drawn (parent_in R.edges x) (rule (births R.nodes) (parent_in R.edges x) S) = clean_parent rule pr R S ok x l in (
          stands_kept rule pr R S ok x m l (mrca_stands (parent_in R.edges x) _ _ (time_of R.nodes) (good_aged R ok.good x).ranked (In S) (rule_at rule pr R S ok x)
              (drawn_at rule pr R S ok x) s t ms mt m a),
          rw q (mrca_kept (parent_in R.edges x) _ _ (time_of R.nodes) (good_aged R ok.good x).ranked (In S) (rule_at rule pr R S ok x) (drawn_at rule pr R S ok x) s t ms mt m a),
        )

    -- where they have none, the output has none
    pub common_none : ((a : ℕ) → Above (parent_in R.edges x) a s → Above (parent_in R.edges x) a t → ⊥) → (a : ℕ) → Above (parent_in C.edges x) a s → Above (parent_in C.edges x) a t → ⊥
    common_none h = rw (clean_parent rule pr R S ok x l)
        (mrca_none (parent_in R.edges x) _ _ (time_of R.nodes) (good_aged R ok.good x).ranked (In S) (rule_at rule pr R S ok x) (drawn_at rule pr R S ok x) s t ms mt h)
