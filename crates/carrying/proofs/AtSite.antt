-- A site's column from its parts: the marks, what is told, and the bytes of each row.
use mathlib.Core.Path.{◌≡◌, refl, sym, ap, ◌∙◌}
use mathlib.Core.Bool.{Bool, true, false}
use mathlib.Core.List.{List}
use Prim.Native.Nat.{ℕ, zero, suc, ◌<◌, ◌≤◌}
use native.Mathlib.Omega.{arith}
use lib.Dec.{eqb}
use lib.ListN.{length}
use borrow.Author.Tests.{eq-eqb, ne_eqb}
use Rattle.meaning.specs.Words.{at, any, rows, rows_from}
use Rattle.meaning.specs.Rows.{Mutation, MutationColumns, Tables, muts_of}
use Rattle.meaning.specs.Allele.{sits, carries, last_state}
use Rattle.laws.specs.Bools.{clash}
use Rattle.bridge.specs.Parents.{no_row}
use Rattle.bridge.specs.Sites.{mutation_row, any_end, any_miss, last_hit, last_miss}
use Rattle.overtaking.specs.Known.{Known}
use Rattle.missing.specs.Marks.{marked, Naming}
use Rattle.missing.specs.Alone.{missing_row}
use Rattle.alleles.specs.ByRows.{marks_at-is, states_at-is}
use Rattle.carrying.specs.Kids.{KidsKnown}
use Rattle.carrying.specs.Cells.{marks_at, states_at, missing_cell, carried_cell, state_cell, flag_cell, ColumnAt}
use Rattle.carrying.specs.Work.{Index, Prepared, work_of, Long, Kept}
use Rattle.carrying.specs.Stamped.{stamp_if, Marked}
use Rattle.carrying.specs.Told.{Handed, Told, Owned}
use Rattle.carrying.specs.Column.{missing_by, Ready, RowsTold}
use Rattle.carrying.specs.Fresh.{Unstamped}
use Rattle.carrying.proofs.Nearest.{carried_here, carried_top, carried_step}

-- the last state of a row that has a mutation is told by its mutations alone
module _ (i v : ℕ) (g : ℕ → Mutation) where
  last_from : (k j a b : ℕ) → any (sits i v) (rows_from g j k) ≡ true → last_state i v (rows_from g j k) a ≡ last_state i v (rows_from g j k) b
  last_from zero j a b h = absurd (clash h (any_end i v g j))
  last_from (suc k) j a b h = go (sits i v (g j)) refl (λ q. last_from k (suc j) a b q)
    where
      go : (t : Bool) → sits i v (g j) ≡ t → (any (sits i v) (rows_from g (suc j) k) ≡ true → last_state i v (rows_from g (suc j) k) a ≡ last_state i v (rows_from g (suc j) k) b) → last_state i v (rows_from g j (suc k)) a ≡ last_state i v (rows_from g j (suc k)) b
      go true e ih = last_hit i v g j k a e ∙ sym (last_hit i v g j k b e)
      go false e ih = last_miss i v g j k a e ∙ ih (sym (any_miss i v g j k e) ∙ h) ∙ sym (last_miss i v g j k b e)

last_own : (M : MutationColumns) (i v a b : ℕ) → carries (muts_of (λ r. r) M) i v ≡ true → last_state i v (muts_of (λ r. r) M) a ≡ last_state i v (muts_of (λ r. r) M) b
unfolding carries muts_of rows
last_own M i v a b h = last_from i v (mutation_row (λ r. r) M) (length M.site) 0 a b h

-- ---- stamps

module _ (t m : ℕ) (low : m < t) where
  stamp_test : (b : Bool) → eqb (stamp_if b t m) t ≡ b
  unfolding stamp_if
  stamp_test true = eq-eqb t t refl
  stamp_test false = ne_eqb m t (λ q. omega arith)

  stamp_below : (b : Bool) → stamp_if b t m ≤ t
  unfolding stamp_if
  stamp_below true = omega arith
  stamp_below false = omega arith

  stamp_is : (b : Bool) → stamp_if b t m ≡ t → b ≡ true
  unfolding stamp_if
  stamp_is true q = refl
  stamp_is false q = absurd (omega arith)

stamp_put : (t m : ℕ) (b : Bool) → b ≡ true → stamp_if b t m ≡ t
unfolding stamp_if
stamp_put t m b e = rw (e, stamp_if)

-- ---- the parts

module _ (L : ℕ) (T : Tables) (by : List ℕ) (I : Index) (ok : Prepared L T by I) where
  abbrev n : ℕ
  n = length T.nodes.time

  few_rows : n ≤ no_row
  few_rows = omega (arith, ok.readable.few)

  -- columns that are long enough can be worked on
  pub ready : {par until kid kid_until own told state : List ℕ} → Long n (work_of par until kid kid_until own told state) → Ready T.nodes.time T.edges I.ends I.edge_first I.edge_past par kid own told state
  ready w = record {
    asking = record {
      keeping = record {
        ends_long = ok.ends_long;
        par_long = w.par;
      };
      rising = ok.readable.rising;
      few = few_rows;
      spans = ok.edges;
      first_long = ok.edge_first_long;
      past_long = ok.edge_past_long;
      kid_long = w.kid;
      own_long = w.own;
    };
    told_long = w.told;
    state_long = w.state;
  }

  -- each mutation is on one of m rows, where there are as many nodes
  pub naming : (m : ℕ) → n ≤ m → Naming T.muts m
  naming m h = record { node_long = ok.readable.naming.node_long; derived_long = ok.readable.naming.derived_long; node_row = λ j l. omega (arith, ok.readable.naming.node_row j l) }

  module _ (i : ℕ) where
    abbrev x : ℕ
    x = at T.sites.position i

    abbrev other : ℕ
    other = at T.sites.ancestral i

    -- what a row carries is handed on from parent to child
    pub handed : Handed T.edges x n other (marked (marks_at T i)) (carried_cell T i)
    unfolding carried_cell
    handed = record {
      top = λ v l e f. carried_top T.edges x (marks_at T i) (states_at T i) other v e f;
      step = λ v p l e f. carried_step T.edges x (marks_at T i) (states_at T i) other v T.nodes.time ok.readable.rising few_rows p e f;
    }

    module _ {t : ℕ} {own₀ told₀ state₀ own told state : List ℕ} (fresh : Unstamped t own₀ told₀) (m : Marked T.muts i t own₀ told₀ state₀ own told state) where
      pub owned : Owned n t (marked (marks_at T i)) own
      owned = record {
        cell = λ v l. ap (λ c. eqb c t) (m.own_cell v) ∙ stamp_test t (at own₀ v) (fresh.own_below v) (carries (muts_of (λ r. r) T.muts) i v) ∙ sym (marks_at-is T.muts i n v l);
      }

      pub own_most : (v : ℕ) → at own v ≤ t
      own_most v = omega (arith, m.own_cell v, stamp_below t (at own₀ v) (fresh.own_below v) (carries (muts_of (λ r. r) T.muts) i v))

      own_state : (v : ℕ) → v < n → carries (muts_of (λ r. r) T.muts) i v ≡ true → at state v ≡ carried_cell T i v
      unfolding carried_cell
      own_state v l e =
          m.state_cell-is v
          ∙ last_own T.muts i v (at state₀ v) other e
          ∙ sym (states_at-is T.muts i n v l other)
          ∙ sym (carried_here T.edges x (marks_at T i) (states_at T i) other v (marks_at-is T.muts i n v l ∙ e))

      pub told_first : Told n t (marked (marks_at T i)) (carried_cell T i) told state
      told_first = record {
        cell = λ v l e. own_state v l (stamp_is t (at told₀ v) (fresh.told_below v) (carries (muts_of (λ r. r) T.muts) i v) (sym (m.told_cell v) ∙ e));
        own = λ v l e. m.told_cell v ∙ stamp_put t (at told₀ v) (carries (muts_of (λ r. r) T.muts) i v) (sym (marks_at-is T.muts i n v l) ∙ e);
        most = λ v. omega (arith, m.told_cell v, stamp_below t (at told₀ v) (fresh.told_below v) (carries (muts_of (λ r. r) T.muts) i v));
      }

      -- the column, and what is kept
      module _ {listed states flags told' state' : List ℕ} {k : ℕ} (r : RowsTold T.edges x n other t own told state listed k states flags told' state') where
        pub column_at : ColumnAt T i k listed states flags
        unfolding state_cell flag_cell missing_cell missing_row missing_by
        column_at = record {
          state = λ j l. r.byte (marked (marks_at T i)) (carried_cell T i) handed owned told_first j l;
          flag = λ j l. r.mark (marked (marks_at T i)) (carried_cell T i) handed owned told_first j l;
        }

        pub kept_on : {par until kid kid_until : List ℕ} → Long n (work_of par until kid kid_until own told' state') → Known T.edges x par until → KidsKnown T.edges x kid kid_until → Kept T x t (work_of par until kid kid_until own told' state')
        kept_on long p c = record {
          long = long;
          known = p;
          kids = c;
          own = own_most;
          told = (r.still (marked (marks_at T i)) (carried_cell T i) handed owned told_first).most;
        }

-- columns of the same lengths are long enough
pub still_long : {n : ℕ} {par until kid kid_until own told state par' until' kid' kid_until' own' told' state' : List ℕ} → length par' ≡ length par → length kid' ≡ length kid → length own' ≡ length own → length told' ≡ length told → length state' ≡ length state → Long n (work_of par until kid kid_until own told state) → Long n (work_of par' until' kid' kid_until' own' told' state')
still_long a d f g h w = record {
  par = omega (arith, w.par);
  kid = omega (arith, w.kid);
  own = omega (arith, w.own);
  told = omega (arith, w.told);
  state = omega (arith, w.state);
}
