-- 01, "Allele": cleaning changes no sample's state, as far as it has one (`Missing`).
use Rattle.std.specs.Prelude.{◌≡◌, Bool, false, List, ◌⊎◌, ℕ, ◌<◌, ltb, length, get_or}
use Rattle.std.proofs.Math.Path.{refl, sym, ap}
use Rattle.std.proofs.Common.{◌∙◌, inl, inr, ⊎_elim, arith, ltb-true, ltb-false}
use Rattle.std.proofs.Math.Bool.{true}
use Rattle.std.proofs.Math.Option.{Option, none, some}
use Rattle.meaning.specs.Words.{mem}
use Rattle.meaning.specs.Rows.{Mutation, Record, births, time_of, pos_of, state_of}
use Rattle.meaning.specs.Forest.{Par, Ages, Rules, parent_in, ancestor, near, drawn}
use Rattle.meaning.specs.Clean.{moved, stands_at, low_at, clean}
use Rattle.meaning.specs.Allele.{carries, last_state, allele_at}
use Rattle.laws.specs.Bools.{clash, truth, eq?, not_true, none_some}
use Rattle.laws.specs.Facts.{In, CleanOk}
use Rattle.forest.specs.Lines.{Above, trans}
use Rattle.forest.specs.Contract.{Near, Low, near_in, near_above}
use Rattle.forest.specs.TreeLaws.{Aged, near_of, of_near}
use Rattle.forest.specs.Lowest.{low_of, of_low}
use Rattle.forest.specs.Redrawn.{contract_aged}
use Rattle.forest.specs.Profile.{Profile}
use Rattle.forest.specs.Carriers.{near_least, near_low, near_came, of_ancestor, low_order}
use Rattle.history.specs.Lists.{all_to}
use Rattle.history.specs.Pairs.{Pairs, pairs_to, pairs_at, pairs_moved, put}
use Rattle.history.specs.AtSite.{all_carry, carries_pick, carried_from, carried_to, last_moved}
use Rattle.history.specs.Cleaned.{good_aged, good_nodes, rule_at, drawn_at, clean_parent}

-- what check 10 finds: no mutation n that comes later at m's site is on a proper ancestor of m's node
abbrev pub Settles : Record → Mutation → Mutation → Type 0
Settles R m n = m.site ≡ n.site → ancestor (parent_in R.edges (pos_of R.sites m.site)) n.node m.node ≡ false

pub record Settled (R : Record) : Type 0 where
  pub order : Pairs (Settles R) R.muts

-- the same by rows, as check 10 looks
pub settled_rows : (R : Record) (d : Mutation) → ((j k : ℕ) → j < k → k < length R.muts → Settles R (get_or R.muts j d) (get_or R.muts k d)) → Settled R
settled_rows R d h = record { order = pairs_at d R.muts h }

-- ---- the allele by the nearest carrier

module _ (R : Record) (i b : ℕ) where
  abbrev pub carrier : Option ℕ
  carrier = near (parent_in R.edges (pos_of R.sites i)) (carries R.muts i) Ages b

  -- the state by the nearest carrier
  abbrev state : Option ℕ → ℕ
  state o = elim o [ none ↦ state_of R.sites i | some w ↦ last_state i w R.muts (state_of R.sites i) ]

  pub allele_none : carrier ≡ none → allele_at R i b ≡ state_of R.sites i
  unfolding allele_at
  allele_none e = ap state e

  allele_some : (w : ℕ) → carrier ≡ some w → allele_at R i b ≡ last_state i w R.muts (state_of R.sites i)
  unfolding allele_at
  allele_some w e = ap state e

-- ---- at one site

module _ (rule : Rules) (pr : Profile rule) (R : Record) (S : List ℕ) (ok : CleanOk R S) (st : Settled R) (i : ℕ) where
  abbrev pos : ℕ → ℕ
  pos = pos_of R.sites

  abbrev x : ℕ
  x = pos i

  abbrev P : Par
  P = parent_in R.edges x

  abbrev K : ℕ → Bool
  K = rule (births R.nodes) P S

  abbrev G : ℕ → ℕ → Option ℕ
  G = low_at rule R S

  aged : Aged P (time_of R.nodes)
  aged = good_aged R ok.good x

  aged_q : Aged (drawn P K) (time_of R.nodes)
  aged_q = contract_aged (time_of R.nodes) (drawn_at rule pr R S ok x) aged

  low_at-is : (u w : ℕ) → G x u ≡ some w → Low P K w u
  unfolding low_at stands_at
  low_at-is u w h = low_of P (time_of R.nodes) aged (births R.nodes) (good_nodes R ok.good x) S K (rule_at rule pr R S ok x) Ages w u h

  low_has : (u s : ℕ) → In S s → Above P u s → (w : ℕ) × (G x u ≡ some w)
  unfolding low_at stands_at
  low_has u s m a = of_low P (time_of R.nodes) aged (births R.nodes) (good_nodes R ok.good x) S K (rule_at rule pr R S ok x) Ages u (omega (arith, ok.good.young u)) (s, m, a)

  -- what carries a moved mutation is the nearest standing fish below one that carried it
  pub came : (w : ℕ) → carries (moved pos G R.muts) i w ≡ true → (u : ℕ) × (carries R.muts i u ≡ true) × Low P K w u
  came w h = let r : _ = carried_from i pos G w R.muts h in (r.0, r.1, low_at-is r.0 w r.2)

  abbrev Proper : ℕ → ℕ → Type 0
  Proper a b = ancestor P a b ≡ true

  module _ (s : ℕ) (ms : In S s) where
    ks : K s ≡ true
    ks = (rule_at rule pr R S ok x).samples ms

    -- the nearest carrier u above s, and the last of its rows, where its mutations come to w
    module _ (u w : ℕ) (n : Near P (carries R.muts i) u s) (e : G x u ≡ some w) where
      same_near : Near (drawn P K) (carries (moved pos G R.muts) i) w s
      same_near = near_low (drawn_at rule pr R S ok x) (time_of R.nodes) aged.ranked (carries R.muts i) (carries (moved pos G R.muts) i) came ks n (low_at-is u w e)
          (carried_to i pos G u w R.muts (near_in n) e)

      -- a fish with mutations that come to w is u or above it
      comes : (v : ℕ) → carries R.muts i v ≡ true → G x v ≡ some w → (v ≡ u) ⊎ Proper v u
      comes v c g =
          let ws : Above P w s = (low_at-is u w e).all ks (near_above n) in
          let up : Above P v u = near_least n c (trans (low_at-is v w g).below ws) in
          ⊎_elim (λ (q : v ≡ u). inl q) (λ (q : v ≡ u → ⊥). inr (of_ancestor P (time_of R.nodes) aged v u up q)) (eq? v u)

      same_last : (o : ℕ) → last_state i w (moved pos G R.muts) o ≡ last_state i u R.muts o
      same_last o = last_moved i pos G Proper u w e R.muts (pairs_to under st.order) (all_to (λ m c f g. comes m.node (c f) g) (all_carry i R.muts)) (near_in n) o o
        where
          under : (m n : Mutation) → Settles R m n → m.site ≡ i → n.site ≡ i → Proper n.node m.node → ⊥
          under m n t a b h = clash h (ap (λ (k : ℕ). ancestor (parent_in R.edges (pos k)) n.node m.node) (sym a) ∙ t (a ∙ sym b))

    -- ---- the two alleles

    abbrev C : Record
    C = clean rule S R

    clean_carrier : x < R.len → carrier C i s ≡ near (drawn P K) (carries (moved pos G R.muts) i) Ages s
    unfolding clean
    clean_carrier l = ap (λ (F : Par). near F (carries (moved pos G R.muts) i) Ages s) (clean_parent rule pr R S ok x l)

    clean_state : (w : ℕ) → last_state i w C.muts (state_of C.sites i) ≡ last_state i w (moved pos G R.muts) (state_of R.sites i)
    unfolding clean
    clean_state w = refl

    clean_start : state_of C.sites i ≡ state_of R.sites i
    unfolding clean
    clean_start = refl

    -- the site lies on the chromosome
    on_it : x < R.len → allele_at C i s ≡ allele_at R i s
    on_it l = go (carrier R i s) refl
      where
        gone : carrier R i s ≡ none → (o : Option ℕ) → near (drawn P K) (carries (moved pos G R.muts) i) Ages s ≡ o → o ≡ none
        gone e none f = refl
        gone e (some w) f =
            let r : _ = near_came (drawn_at rule pr R S ok x) (time_of R.nodes) aged.ranked (carries R.muts i) (carries (moved pos G R.muts) i) came
            (near_of (drawn P K) (carries (moved pos G R.muts) i) Ages w s f) in
            absurd (none_some e (of_near P (carries R.muts i) (time_of R.nodes) aged Ages r.0 s (omega arith) r.1))

        go : (o : Option ℕ) → carrier R i s ≡ o → allele_at C i s ≡ allele_at R i s
        go none e =
            let f : near (drawn P K) (carries (moved pos G R.muts) i) Ages s ≡ none = gone e (near (drawn P K) (carries (moved pos G R.muts) i) Ages s) refl in
            allele_none C i s (clean_carrier l ∙ f) ∙ clean_start ∙ sym (allele_none R i s e)
        go (some u) e =
            let n : Near P (carries R.muts i) u s = near_of P (carries R.muts i) Ages u s e in
            let w : _ = low_has u s ms (near_above n) in
            let f : near (drawn P K) (carries (moved pos G R.muts) i) Ages s ≡ some w.0 = of_near (drawn P K) (carries (moved pos G R.muts) i)
            (time_of R.nodes) aged_q Ages w.0 s (omega arith) (same_near u w.0 n w.1) in
            allele_some C i s w.0 (clean_carrier l ∙ f) ∙ clean_state w.0 ∙ same_last u w.0 n w.1 (state_of R.sites i) ∙ sym (allele_some R i s u e)

    -- what carries a mutation of the site shows that the site lies on the chromosome
    carried_on : (v : ℕ) → carries R.muts i v ≡ true → x < R.len
    carried_on v h = let m : _ = carries_pick i v R.muts h ok.good.muts_ok in let q : pos m.0.site ≡ x = ap pos m.1 in omega (arith, m.3.1, q)

    cleaned_on : (w : ℕ) → carries C.muts i w ≡ true → x < R.len
    unfolding clean
    cleaned_on w h = let r : _ = came w h in carried_on r.0 r.1

    off_it : (x < R.len → ⊥) → allele_at C i s ≡ allele_at R i s
    off_it f =
        allele_none C i s (silent (parent_in C.edges (pos_of C.sites i)) (carries C.muts i) (λ w h. f (cleaned_on w h)))
        ∙ clean_start
        ∙ sym (allele_none R i s (silent P (carries R.muts i) (λ v h. f (carried_on v h))))
      where
        silent : (F : Par) (c : ℕ → Bool) → ((v : ℕ) → c v ≡ true → ⊥) → near F c Ages s ≡ none
        silent F c h = go (near F c Ages s) refl
          where
            go : (o : Option ℕ) → near F c Ages s ≡ o → o ≡ none
            go none e = refl
            go (some w) e = absurd (h w (near_in (near_of F c Ages w s e)))

    -- "Cleaning changes no sample's allele.": the way upwards leads to the same state
    pub clean_allele : allele_at (clean rule S R) i s ≡ allele_at R i s
    clean_allele = ⊎_elim (λ (e : ltb x R.len ≡ true). on_it (ltb-true x R.len e)) (λ (e : ltb x R.len ≡ false). off_it (λ l. omega (arith, ltb-false x R.len e))) (truth (ltb x R.len))

-- ---- a cleaned record is settled again

module _ (rule : Rules) (pr : Profile rule) (R : Record) (S : List ℕ) (ok : CleanOk R S) (st : Settled R) where
  abbrev OnIt : Mutation → Type 0
  OnIt m = (mem m.node (births R.nodes) ≡ true) × (pos_of R.sites m.site < R.len)

  moved_settled : (m n : Mutation) (w v : ℕ) → OnIt m → Settles R m n → low_at rule R S (pos_of R.sites m.site) m.node ≡ some w →
      low_at rule R S (pos_of R.sites n.site) n.node ≡ some v → Settles (clean rule S R) (put m w) (put n v)
  unfolding clean
  moved_settled m n w v o t e f q = not_true (ancestor (parent_in (clean rule S R).edges (pos_of R.sites m.site)) v w) (λ h.
      let g : low_at rule R S (pos_of R.sites m.site) n.node ≡ some v = ap (λ (k : ℕ). low_at rule R S (pos_of R.sites k) n.node) q ∙ f in
      let c : ancestor (drawn (P rule pr R S ok st m.site) (K rule pr R S ok st m.site)) v w ≡ true = sym
      (ap (λ (F : Par). ancestor F v w) (clean_parent rule pr R S ok (pos_of R.sites m.site) o.1)) ∙ h in
      clash
      (low_order (P rule pr R S ok st m.site) (time_of R.nodes) (aged rule pr R S ok st m.site) (drawn_at rule pr R S ok (pos_of R.sites m.site))
      (low_at-is rule pr R S ok st m.site m.node w e) (low_at-is rule pr R S ok st m.site n.node v g) c)
      (t q))

  clean_order : Pairs (Settles (clean rule S R)) (moved (pos_of R.sites) (low_at rule R S) R.muts)
  clean_order = pairs_moved (pos_of R.sites) (low_at rule R S) (Settles R) (Settles (clean rule S R)) OnIt moved_settled R.muts ok.good.muts_ok st.order

  -- what check 10 found of a record it finds of the cleaned record
  pub clean_settled : Settled (clean rule S R)
  clean_settled = record { order = unfold clean in clean_order }
