-- `leave_states` meets its contract: with the mutations that are left, the columns come to what they are to be.
use mathlib.Core.Path.{◌∙◌}
use Rattle.alleles.proofs.Filling.{became, begin, skip, put, marks_end, states_end}
use native.Mathlib.Omega.{arith}
use Rattle.alleles.proofs.leave_states.Goals.{then-mutations-j, else-mutations-j}
use Rattle.alleles.proofs.leave_states.Goals as goal

pub loop-j-init : goal.loop-j-init
loop-j-init c = begin _ _ _ _

pub leave_state-requires : goal.leave_state-requires
leave_state-requires c = let w : _ = c.loop-j.invariant in
    let a : _ = c.requires.0.node_row c.loop-j.j c.loop-j-test.true in
    (omega (arith, w.has_long), omega (arith, w.state_long, c.requires.1))

pub loop-j-preserved : goal.loop-j-preserved
loop-j-preserved c = let w : _ = c.loop-j.invariant in
    let l : _ = c.loop-j-test.true in
    let a : _ = c.requires.0.node_row c.loop-j.j l in
    elim c.if-mutations-j.branch [
      | then-mutations-j h ↦ became (h.has-is ∙ h.leave_state.ensures.0) (h.state-is ∙ h.leave_state.ensures.1) (put _ _ _ _ _ _ _ l w h.if-mutations-j.true (omega (arith, w.has_long)) (omega (arith, w.state_long, c.requires.1)))
      | else-mutations-j h ↦ became h.has-is h.state-is (skip _ _ _ _ _ _ _ l w h.if-mutations-j.false)
    ]

pub returns : goal.returns
returns c = let w : _ = c.loop-j.invariant in
    (marks_end _ _ _ _ _ _ _ c.loop-j-test.false w, states_end _ _ _ _ _ _ _ c.loop-j-test.false w)
