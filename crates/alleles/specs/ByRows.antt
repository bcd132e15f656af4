-- What is read by rows from the columns of a site is the allele of the definitions, which speak of births.
use Rattle.std.specs.Prelude.{◌≡◌, Bool, List}
use Rattle.std.proofs.Math.Path.{refl, sym, ap}
use Rattle.std.proofs.Common.{◌∙◌}
use Rattle.std.proofs.Math.Bool.{true, false, not}
use Rattle.std.proofs.Math.Option.{Option, none, some}
use Prim.Native.Nat.{ℕ, ◌<◌, ◌≤◌}
use native.Mathlib.Omega.{arith}
use Rattle.std.proofs.Math.Dec.{eqb}
use Rattle.std.proofs.Math.ListN.{length}
use Rattle.meaning.specs.Words.{at, or}
use Rattle.meaning.specs.Rows.{EdgeColumns, MutationColumns, Tables, Record, record_of, edges_of, sites_of, muts_of, pos_of, state_of}
use Rattle.meaning.specs.Forest.{Ages, parent_in, near}
use Rattle.meaning.specs.Allele.{carries, last_state, allele_at, has_parent, has_child, found, missing_at}
use Rattle.laws.specs.Counting.{length_rows, get_rows}
use Rattle.bridge.specs.Parents.{parent_row}
use Rattle.bridge.specs.Rename.{map_option, Renamed, near_names, near_inside}
use Rattle.bridge.specs.Columns.{Within, parent_names}
use Rattle.bridge.specs.Sites.{pos_at, state_at, carries_names, last_names}
use Rattle.ancestry.specs.Index.{Ends, Indexed}
use Rattle.ancestry.specs.Rises.{parent_rises}
use Rattle.missing.specs.Marks.{marked, Naming, mark, marks_of, states_of}
use Rattle.missing.specs.Climbable.{Climbable}
use Rattle.alleles.specs.Reading.{carried_by, Readable}
use Rattle.missing.specs.Alone.{child_row, missing_row, parent_there, child_there}

-- ---- the columns, cell by cell

module _ (M : MutationColumns) (i m v : ℕ) (l : v < m) where
  -- a row is marked exactly if it has a mutation at the site
  pub marks_at-is : marked (marks_of M i m) v ≡ carries (muts_of (λ r. r) M) i v
  unfolding marked marks_of mark
  marks_at-is = ap (λ c. eqb c 1) (get_rows (λ v. mark (carries (muts_of (λ r. r) M) i v) 0) 0 m v l) ∙ one (carries (muts_of (λ r. r) M) i v)
    where
      one : (t : Bool) → eqb (mark t 0) 1 ≡ t
      one true = refl
      one false = refl

  pub states_at-is : (other : ℕ) → at (states_of M i other m) v ≡ last_state i v (muts_of (λ r. r) M) other
  unfolding states_of
  states_at-is other = get_rows (λ v. last_state i v (muts_of (λ r. r) M) other) 0 m v l

-- ---- the allele, branch by branch

module _ (R : Record) (i b : ℕ) where
  pub allele_none : near (parent_in R.edges (pos_of R.sites i)) (carries R.muts i) Ages b ≡ none → allele_at R i b ≡ state_of R.sites i
  unfolding allele_at
  allele_none e = ap (λ (o : Option ℕ). elim o [ none ↦ state_of R.sites i | some w ↦ last_state i w R.muts (state_of R.sites i) ]) e

  pub allele_some : (w : ℕ) → near (parent_in R.edges (pos_of R.sites i)) (carries R.muts i) Ages b ≡ some w → allele_at R i b ≡ last_state i w R.muts (state_of R.sites i)
  unfolding allele_at
  allele_some w e = ap (λ (o : Option ℕ). elim o [ none ↦ state_of R.sites i | some w ↦ last_state i w R.muts (state_of R.sites i) ]) e

module _ (E : EdgeColumns) (x : ℕ) (has state : List ℕ) (other u : ℕ) where
  pub carried_none : near (parent_row E x) (marked has) Ages u ≡ none → carried_by E x has state other u ≡ other
  unfolding carried_by
  carried_none e = ap (λ (o : Option ℕ). elim o [ none ↦ other | some w ↦ at state w ]) e

  pub carried_some : (w : ℕ) → near (parent_row E x) (marked has) Ages u ≡ some w → carried_by E x has state other u ≡ at state w
  unfolding carried_by
  carried_some w e = ap (λ (o : Option ℕ). elim o [ none ↦ other | some w ↦ at state w ]) e

-- ---- the columns of a site tell the allele

module _ (L : ℕ) (T : Tables) (by : List ℕ) (ok : Readable L T by) (i m : ℕ) (exists : i < length T.sites.position) (room : length T.nodes.time ≤ m) where
  -- each mutation is on one of m rows
  pub naming : Naming T.muts m
  naming = record { node_long = ok.naming.node_long; derived_long = ok.naming.derived_long; node_row = λ j l. omega (arith, ok.naming.node_row j l) }

  -- with ends that are filled the edges are what a parent is looked up in
  pub indexed_by : (ends : List ℕ) → Ends T.edges.child by ends → Indexed T.edges L by ends
  indexed_by ends filled = record { even = ok.rising.even; whole = ok.whole; order = ok.order; ends = filled }

  abbrev n : ℕ
  n = length T.nodes.birth

  abbrev x : ℕ
  x = at T.sites.position i

  within : Within (length T.nodes.birth) T.edges
  within = record {
    parent_row = λ e h. omega (arith, ok.rising.parent_row e h, ok.births_long);
    child_row-is = λ e h. omega (arith, ok.rising.child_row-is e h, ok.births_long);
  }

  parent_named : (u : ℕ) → u < n → parent_in (edges_of (at T.nodes.birth) T.edges) x (at T.nodes.birth u) ≡ map_option (at T.nodes.birth) (parent_row T.edges x u)
  unfolding parent_row
  parent_named u l = parent_names T.nodes.birth T.edges ok.once within x u l

  renamed : Renamed n (at T.nodes.birth) (parent_row T.edges x) (parent_in (edges_of (at T.nodes.birth) T.edges) x)
  renamed = record {
    apart = ok.once;
    inside = λ u p l h. omega (arith, (parent_rises T.nodes.time T.edges ok.rising x u p h).1, ok.births_long);
    parent = parent_named;
  }

  node_row : (j : ℕ) → j < length T.muts.site → at T.muts.node j < n
  node_row j h = omega (arith, ok.naming.node_row j h, ok.births_long)

  module _ (has state : List ℕ) (marks : has ≡ marks_of T.muts i m) (states : state ≡ states_of T.muts i (at T.sites.ancestral i) m) where
    same_marks : (v : ℕ) → v < n → carries (muts_of (at T.nodes.birth) T.muts) i (at T.nodes.birth v) ≡ marked has v
    same_marks v l = carries_names T.nodes.birth ok.once T.muts node_row i v l ∙ sym (marks_at-is T.muts i m v (omega (arith, ok.births_long))) ∙ sym (ap (λ h. marked h v) marks)

    -- from each row the way up can be gone
    pub climbs : (ends : List ℕ) → length ends ≡ m → (u : ℕ) → u < length T.nodes.time → Climbable T.nodes.time T.edges ends has u × (length T.nodes.time ≤ length state)
    unfolding marks_of states_of
    climbs ends long u row =
        let h : length has ≡ m = ap length marks ∙ length_rows (λ v. mark (carries (muts_of (λ r. r) T.muts) i v) 0) m in
        let s : length state ≡ m = ap length states ∙ length_rows (λ v. last_state i v (muts_of (λ r. r) T.muts) (at T.sites.ancestral i)) m in (
          record {
            rising = ok.rising;
            few = omega (arith, ok.few);
            ends_long = omega arith;
            long = omega arith;
            row = row;
          },
          omega arith,
        )

    module _ (u : ℕ) (row : u < length T.nodes.time) where
      -- the nearest by births is the birth of the nearest by rows
      nearest : near (parent_in (record_of L T).edges (pos_of (record_of L T).sites i)) (carries (record_of L T).muts i) Ages (at T.nodes.birth u) ≡ map_option (at T.nodes.birth) (near (parent_row T.edges x) (marked has) Ages u)
      unfolding record_of
      nearest =
          ap (λ p. near (parent_in (edges_of (at T.nodes.birth) T.edges) p) (carries (muts_of (at T.nodes.birth) T.muts) i) Ages (at T.nodes.birth u)) (pos_at T.sites i exists)
          ∙ near_names n (at T.nodes.birth) (parent_row T.edges x) (parent_in (edges_of (at T.nodes.birth) T.edges) x) renamed (marked has) (carries (muts_of (at T.nodes.birth) T.muts) i) same_marks Ages u (omega (arith, ok.births_long))

      pub carried_allele : carried_by T.edges (at T.sites.position i) has state (at T.sites.ancestral i) u ≡ allele_at (record_of L T) i (at T.nodes.birth u)
      unfolding record_of
      carried_allele = go (near (parent_row T.edges x) (marked has) Ages u) refl
        where
          go : (o : Option ℕ) → near (parent_row T.edges x) (marked has) Ages u ≡ o → carried_by T.edges x has state (at T.sites.ancestral i) u ≡ allele_at (record_of L T) i (at T.nodes.birth u)
          go none e =
              carried_none T.edges x has state (at T.sites.ancestral i) u e
              ∙ sym (state_at T.sites i exists)
              ∙ sym (allele_none (record_of L T) i (at T.nodes.birth u) (nearest ∙ ap (map_option (at T.nodes.birth)) e))
          go (some w) e =
              let l : w < n = (near_inside n (parent_row T.edges x) renamed.inside (marked has) Ages u w (omega (arith, ok.births_long)) e).0 in
              carried_some T.edges x has state (at T.sites.ancestral i) u w e
              ∙ ap (λ s. at s w) states
              ∙ states_at-is T.muts i m w (omega (arith, ok.births_long)) (at T.sites.ancestral i)
              ∙ ap (last_state i w (muts_of (λ r. r) T.muts)) (sym (state_at T.sites i exists))
              ∙ sym (last_names T.nodes.birth ok.once T.muts node_row i w l (state_of (sites_of T.sites) i))
              ∙ sym (allele_some (record_of L T) i (at T.nodes.birth u) (at T.nodes.birth w) (nearest ∙ ap (map_option (at T.nodes.birth)) e))

      -- and the fish is missing exactly if its row is
      pub missing_row-is : missing_row T.edges (at T.sites.position i) has u ≡ missing_at (record_of L T) i (at T.nodes.birth u)
      unfolding missing_row missing_at record_of
      missing_row-is =
          let l : u < n = omega (arith, ok.births_long) in
          let E : _ = edges_of (at T.nodes.birth) T.edges in
          let b : ℕ = at T.nodes.birth u in
          sym
          (ap (λ p. not (or (has_parent E p b) (or (has_child E p b) (carries (muts_of (at T.nodes.birth) T.muts) i b)))) (pos_at T.sites i exists)
          ∙ ap (λ t. not (or t (or (has_child E x b) (carries (muts_of (at T.nodes.birth) T.muts) i b)))) (parent_there T.nodes.birth T.edges ok.once within x u l)
          ∙ ap (λ t. not (or (found (parent_row T.edges x u)) (or t (carries (muts_of (at T.nodes.birth) T.muts) i b)))) (child_there T.nodes.birth T.edges ok.once within x u l)
          ∙ ap (λ t. not (or (found (parent_row T.edges x u)) (or (child_row T.edges.left T.edges.right T.edges.parent x u) t))) (same_marks u l))
