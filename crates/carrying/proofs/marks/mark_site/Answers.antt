-- `mark_site` meets its contract: with the mutation rows that are left, the columns come to what they are to be.
use mathlib.Core.Path.{◌∙◌}
use Rattle.carrying.proofs.Marking.{became, begin, skip, put, marked_all}
use native.Mathlib.Omega.{arith}
use Rattle.carrying.proofs.marks.mark_site.Goals.{then-mutations-j, else-mutations-j}
use Rattle.carrying.proofs.marks.mark_site.Goals as goal

pub loop-j-init : goal.loop-j-init
loop-j-init c = begin c.requires.3

pub bounds-mutations-j : goal.bounds-mutations-j
bounds-mutations-j c = omega (arith, c.loop-j-test.true, c.requires.3.inside)

pub bounds-mutations-j-then-mutations-j : goal.bounds-mutations-j-then-mutations-j
bounds-mutations-j-then-mutations-j c = omega (arith, c.loop-j-test.true, c.requires.3.inside, c.requires.0.node_long)

pub bounds-mutations-j-then-mutations-j-2 : goal.bounds-mutations-j-then-mutations-j-2
bounds-mutations-j-then-mutations-j-2 c = omega (arith, c.loop-j-test.true, c.requires.3.inside, c.requires.0.derived_long)

pub leave_state-requires : goal.leave_state-requires
leave_state-requires c = (omega (arith, c.requires.0.node_row c.loop-j.j (omega (arith, c.loop-j-test.true, c.requires.3.inside)), c.loop-j.invariant.own_long), omega (arith, c.requires.1.node_row c.loop-j.j (omega (arith, c.loop-j-test.true, c.requires.3.inside)), c.loop-j.invariant.told_long), omega (arith, c.requires.2.node_row c.loop-j.j (omega (arith, c.loop-j-test.true, c.requires.3.inside)), c.loop-j.invariant.state_long))

pub loop-j-preserved : goal.loop-j-preserved
loop-j-preserved c = elim c.if-mutations-j.branch [
  | then-mutations-j h ↦ became (h.own-is ∙ h.leave_state.ensures.0) (h.told-is ∙ h.leave_state.ensures.1) (h.state-is ∙ h.leave_state.ensures.2) (put c.loop-j.invariant (omega (arith, c.loop-j-test.true, c.requires.3.inside)) h.if-mutations-j.true (omega (arith, c.requires.0.node_row c.loop-j.j (omega (arith, c.loop-j-test.true, c.requires.3.inside)), c.loop-j.invariant.own_long)) (omega (arith, c.requires.1.node_row c.loop-j.j (omega (arith, c.loop-j-test.true, c.requires.3.inside)), c.loop-j.invariant.told_long)) (omega (arith, c.requires.2.node_row c.loop-j.j (omega (arith, c.loop-j-test.true, c.requires.3.inside)), c.loop-j.invariant.state_long)))
  | else-mutations-j h ↦ became h.own-is h.told-is h.state-is (skip c.loop-j.invariant (λ _. h.if-mutations-j.false))
]

pub shape_of-own : goal.shape_of-own
shape_of-own c = c.loop-j.invariant.own_long

pub shape_of-told : goal.shape_of-told
shape_of-told c = c.loop-j.invariant.told_long

pub shape_of-state : goal.shape_of-state
shape_of-state c = c.loop-j.invariant.state_long

pub returns : goal.returns
returns c = marked_all c.loop-j.invariant c.requires.3 c.loop-j-test.false
