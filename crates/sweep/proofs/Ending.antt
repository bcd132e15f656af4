-- At the end of the chromosome every run is finished and every mutation is placed.
use mathlib.Core.Path.{◌≡◌}
use mathlib.Core.List.{List}
use mathlib.Core.Logic.{⊎_elim}
use Prim.Native.Nat.{ℕ, ◌<◌, ◌≤◌}
use native.Mathlib.Omega.{arith}
use lib.ListN.{length}
use Rattle.meaning.specs.Words.{at}
use Rattle.meaning.specs.Rows.{Edge}
use Rattle.tree.specs.TreeAt.{Flags}
use Rattle.mend.proofs.Reading.{lt?}
use Rattle.placing.specs.Placing.{Moves}
use Rattle.placing.specs.Movers.{beyond_none, beyond_then}
use Rattle.runs.specs.Runs.{Store, Room, Opened}
use Rattle.runs.specs.Promises.{Closed}
use Rattle.runs.specs.Onward.{onward_none, onward_then}
use Rattle.runs.specs.Sized.{opened_own, room_own, collected_after}
use Rattle.sweep.specs.Columns.{Input, State}
use Rattle.sweep.specs.Sweeping.{Steady, Going, Came, Done}

-- ---- steps one after the other

pub steady_on : {L : ℕ} {I : Input} {t k : ℕ} {K : List ℕ} {x : ℕ} {Z : State} → t ≡ k → Steady L I t K x Z → Steady L I k K x Z
steady_on e st = rw e at st

pub came_none : {L : ℕ} {I : Input} {t : ℕ} {K : List ℕ} {x : ℕ} {Z : State} → Steady L I t K x Z → Came L I t K x Z K x Z
came_none {Z = Z} st = record { steady = st; later = record { onward = onward_none Z.store; beyond = beyond_none Z.moves }; going = λ Q fl F g. (F, g) }

pub came_then : {L : ℕ} {I : Input} {t k : ℕ} {K K' K'' : List ℕ} {x y z : ℕ} {A B C : State} → k ≡ t → Came L I t K x A K' y B → Came L I k K' y B K'' z C → Came L I t K x A K'' z C
came_then {A = A} {B} {C} e a b = record {
  steady = steady_on e b.steady;
  later = record {
    onward = onward_then A.store B.store C.store a.later.onward b.later.onward;
    beyond = beyond_then a.later.beyond b.later.beyond;
  };
  going = λ Q fl F g. let r : _ = a.going Q fl F g in b.going Q fl r.0 r.1;
}

-- ---- the end

-- what finishing the open runs asks
pub close_ready : {L : ℕ} {I : Input} {t : ℕ} {K : List ℕ} {x : ℕ} {Z : State} → Steady L I t K x Z → Opened (length Z.runs.par) Z.runs × Room (length Z.runs.par) Z.store × (length Z.runs.par ≤ 4294967295)
close_ready {I = I} {Z = Z} st = (
  opened_own (length I.time) Z.runs Z.store Z.store st.runs,
  room_own (length I.time) Z.runs Z.store Z.store st.runs st.room,
  omega (arith, st.runs.par_long, st.tree.kept.mended.shape.times, st.tree.kept.mended.shape.rows),
)

module _ {L : ℕ} {I : Input} {t : ℕ} {K K' : List ℕ} {x : ℕ} {Z Z' : State} (ca : Came L I t K 0 Z K' x Z') (over : L ≤ x) where
  at_end : x ≡ L
  at_end = omega (arith, ca.steady.inside)

  -- no mutation lies past the end
  all_placed : Z'.placed ≡ length I.site
  all_placed = ⊎_elim
      (λ (q : Z'.placed < length I.site). absurd (omega (arith, ca.steady.ahead Z'.placed (omega arith) q, ca.steady.sites.inside (at I.site Z'.placed) (ca.steady.sites.site_row Z'.placed q))))
      (λ (q : length I.site ≤ Z'.placed). omega (arith, ca.steady.most))
      (lt? Z'.placed (length I.site))

  pub done : {D : Store} → Closed L Z'.runs Z'.store D → (Q : List ℕ) → Flags I.sample Q (length I.time) → (F : List Edge) → Going L I 0 Q F Z → Done L I Q Z.store Z.moves D Z'.moves
  done {D} cl Q fl F g =
      let r : _ = ca.going Q fl F g in
      let s : Going L I L Q r.0 Z' = rw at_end at r.1 in
      record {
        edges = collected_after (length I.time) Z'.runs Z'.store D ca.steady.runs L cl _ r.0 s.swept s.stored;
        onward = onward_then Z.store Z'.store D ca.later.onward cl.onward;
        held = rw all_placed at s.held;
        beyond = ca.later.beyond;
      }

-- which rows were marked before the marks were cleared is of no account
pub done_cleared : {L : ℕ} {I : Input} {Q l r p c s : List ℕ} (t : List ℕ) {k : ℕ} {W₀ W : Moves} {D : Store} → Done L I Q (record { left = l; right = r; parent = p; child = c; stood = t; count = k }) W₀ D W → Done L I Q (record { left = l; right = r; parent = p; child = c; stood = s; count = k }) W₀ D W
done_cleared t d =
    let o : _ = d.onward in
    record {
      edges = d.edges;
      onward = record {
        more = o.more;
        lefts = o.lefts;
        rights = o.rights;
        parents = o.parents;
        children = o.children;
        rest = λ i h. let e : _ = o.rest i h in record { left = e.left; right = e.right; parent = e.parent; child = e.child };
      };
      held = d.held;
      beyond = d.beyond;
    }
