-- What a step leaves: the columns at the next change, and one list of finished edges for each one before.
use mathlib.Core.Path.{◌≡◌, sym, ap, ◌∙◌}
use mathlib.Core.List.{List}
use Prim.Native.Nat.{ℕ, ◌+◌, ◌<◌, ◌≤◌}
use native.Mathlib.Omega.{arith}
use lib.ListN.{length}
use Rattle.meaning.specs.Words.{at}
use Rattle.meaning.specs.Rows.{Edge}
use Rattle.bridge.specs.Parents.{code}
use Rattle.mend.specs.Listing.{Noted}
use Rattle.tree.specs.Sweep as tree
use Rattle.tree.specs.Sweep.{Ahead, next_change}
use Rattle.tree.specs.TreeAt.{Flags, TreeAt, low_at}
use Rattle.tree.proofs.Moving.{next_ahead}
use Rattle.runs.specs.Runs.{Settled, Stored}
use Rattle.runs.specs.Promises.{Touched, ChangeSettled, Bared}
use Rattle.runs.specs.Sized.{opened_after, settled_after}
use Rattle.runs.specs.Sweep.{swept_on}
use Rattle.runs.proofs.Storing.{room_kept}
use Rattle.sweep.specs.Columns.{Input, State, edges_in, up_in, position_of, low_cell}
use Rattle.placing.specs.Placing.{Placed}
use Rattle.sweep.specs.Sweeping.{Steady, Going, Later, Came}
use Rattle.sweep.proofs.Still.{up_same, low_same}
use Rattle.sweep.proofs.Inside.{up_cell, low_cell-is}
use Rattle.sweep.proofs.Stepping.{position_rises}

module _ {L : ℕ} {I : Input} {X K X' K' K'' : List ℕ} {x k next : ℕ} {Z : State} (Z' : State) (st : Steady L I (length X) K x Z) (below : x < L)
    (sw : tree.Swept I.time I.sample Z'.parents Z'.counts Z'.sums Z'.lows Z'.ups I.left I.right I.parent I.child I.by_left I.by_right Z'.begun Z'.ended (x + 1))
    (ta : (Q : List ℕ) → Flags I.sample Q (length Z'.parents) → TreeAt (edges_in I) Q (length Z'.parents) x I.sample Z'.parents Z'.counts Z'.ups)
    (nt : Noted (length Z.ups) Z.ups Z'.ups X K X' K' 0 k)
    (cs : ChangeSettled x Z'.ups X' k Z.runs Z.store Z'.runs Z'.store)
    (ba : Bared (length Z'.ups) X' k K' K'')
    (nx : next ≡ next_change I.left I.right I.by_left I.by_right Z'.begun Z'.ended L)
    (pl : Placed I.sample Z'.parents I.position I.site I.node next Z.moves Z.placed Z'.moves Z'.placed)
    (so : length Z'.store.stood ≡ length Z.store.stood) where
  abbrev n : ℕ
  n = length I.time

  long : length Z'.parents ≡ n
  long = sym sw.kept.mended.shape.times

  ups_long : n ≡ length Z'.ups
  ups_long = sym long ∙ sym sw.kept.up.long

  ups_before : length Z.ups ≡ n
  ups_before = st.tree.kept.up.long ∙ sym st.tree.kept.mended.shape.times

  there : Ahead I.left I.right I.by_left I.by_right Z'.begun Z'.ended next × (x + 1 ≤ next) × (next ≤ L)
  there = rw nx (next_ahead L sw.plan sw.ahead (omega arith))

  further : x < next
  further = omega (arith, there.1)

  -- every mark that a row had is taken away
  bare : (v : ℕ) → v < n → at K'' v ≡ 0
  bare v l = ba.bare v (omega (arith, ups_long)) (nt.listing.found v (omega (arith, ups_before)))

  steady : Steady L I (length X) K'' next Z'
  steady = record {
    tree = record { kept = sw.kept; plan = sw.plan; ahead = there.0; holds = sw.holds };
    sites = st.sites;
    listed = st.listed;
    marks_long = ba.long ∙ nt.listing.marks ∙ ups_before;
    bare = bare;
    runs = opened_after n Z'.ups Z.runs Z.store ups_long x X' k Z'.runs Z'.store cs;
    room = room_kept n Z.store Z'.store st.room cs.onward so;
    numbered = st.numbered;
    even = pl.between.beyond.lows_long ∙ st.even ∙ sym pl.between.beyond.rows_long;
    few = pl.between.few;
    most = pl.between.most;
    ahead = λ i a l. omega (arith, pl.stopped (omega arith), position_rises st.sites Z'.placed i a l);
    inside = there.2;
  }

  later : Later Z Z'
  later = record { onward = cs.onward; beyond = pl.between.beyond }

  module _ (Q : List ℕ) (fl : Flags I.sample Q n) where
    flags : Flags I.sample Q (length Z'.parents)
    flags = rw long fl

    at_x : TreeAt (edges_in I) Q n x I.sample Z'.parents Z'.counts Z'.ups
    at_x = rw long at (ta Q flags)

    ups : (c : ℕ) → c < n → at Z'.ups c ≡ code (up_in I Q x c)
    ups = up_cell at_x

    touched : ((c : ℕ) → c < n → at Z.runs.par c ≡ at Z.ups c) → Touched n Z'.ups Z.runs.par k X'
    touched cu c l ne = nt.listed c (λ e. ne (cu c l ∙ sym e))

    settled : (F : List Edge) → Going L I x Q F Z → (F' : List Edge) × Settled (up_in I Q) n L x F' (at Z'.runs.left) (at Z'.runs.par) × Stored n F' Z'.store
    settled F g = settled_after n Z'.ups Z.runs Z.store ups_long x X' k Z'.runs Z'.store cs (up_in I Q) L F g.swept ups (touched g.current) g.stored

    -- a mutation between x and the next change stands on the tree at x
    new_cell : (i : ℕ) → Z.placed ≤ i → i < Z'.placed → low_cell I Q i ≡ code (low_at (edges_in I) Q (length Z'.parents) x (at I.node i))
    new_cell i a l =
        let b : low_cell I Q i ≡ code (low_at (edges_in I) Q n x (at I.node i)) =
        ap code (low_same x sw.plan sw.ahead there.0 n Q (position_of I i) (at I.node i) (st.ahead i a (omega (arith, pl.between.most))) (pl.between.before i a l))
        ∙ sym (low_cell-is (edges_in I) Q n x (at I.node i)) in
        rw long b

    going : (F : List Edge) → Going L I x Q F Z → (F' : List Edge) × Going L I next Q F' Z'
    going F g =
        let r : _ = settled F g in (
          r.0,
          record {
            swept = swept_on (up_in I Q) n L x next r.0 (at Z'.runs.left) (at Z'.runs.par) r.1 further there.2 (λ y c a b l. up_same x sw.plan sw.ahead there.0 n Q y c a b);
            stored = r.2;
            current = λ c l. r.1.current c l ∙ sym (ups c l);
            held = pl.between.given (edges_in I) Q x flags (ta Q flags).forest (low_cell I Q) new_cell g.held;
          },
        )

  -- the sweep has come to the next change, which is further on
  pub came : Came L I (length X) K x Z K'' next Z' × (x < next)
  came = (record { steady = steady; later = later; going = going }, further)
