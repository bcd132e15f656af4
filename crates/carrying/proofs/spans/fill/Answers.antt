-- `fill` meets its contract: the spans of the rows gone over are noted.
use mathlib.Core.Path.{refl}
use lib.ListN.{length-set}
use Rattle.carrying.proofs.Spanning.{none_noted, all_noted, noted_more}
use native.Mathlib.Omega.{arith}
use Rattle.carrying.proofs.spans.fill.Goals as goal

pub loop-e-init : goal.loop-e-init
loop-e-init c = record { first_long = refl; past_long = refl; noted = none_noted c.requires.3 }

pub overflow_cast-v : goal.overflow_cast-v
overflow_cast-v c = omega (arith, c.type_inv.column c.loop-e.e)

pub bounds-first-v : goal.bounds-first-v
bounds-first-v c = omega (arith, c.requires.0 c.loop-e.e c.loop-e-test.true, c.loop-e.invariant.first_long)

pub bounds-past-v : goal.bounds-past-v
bounds-past-v c = omega (arith, c.requires.0 c.loop-e.e c.loop-e-test.true, c.requires.1, c.loop-e.invariant.past_long)

pub bounds-first-v-in-loop-e : goal.bounds-first-v-in-loop-e
bounds-first-v-in-loop-e c = omega (arith, c.requires.0 c.loop-e.e c.loop-e-test.true, c.loop-e.invariant.first_long)

pub bounds-past-v-in-loop-e : goal.bounds-past-v-in-loop-e
bounds-past-v-in-loop-e c = omega (arith, c.requires.0 c.loop-e.e c.loop-e-test.true, c.requires.1, c.loop-e.invariant.past_long)

pub loop-e-preserved : goal.loop-e-preserved
loop-e-preserved c = record {
  first_long = simp length-set c.loop-e.invariant.first_long;
  past_long = simp length-set c.loop-e.invariant.past_long;
  noted = noted_more c.loop-e.invariant.noted _ c.first_of.ensures (omega (arith, c.requires.0 c.loop-e.e c.loop-e-test.true, c.loop-e.invariant.first_long)) (omega (arith, c.requires.0 c.loop-e.e c.loop-e-test.true, c.requires.1, c.loop-e.invariant.past_long));
}

pub returns : goal.returns
returns c = all_noted c.loop-e-test.false (omega arith) c.loop-e.invariant.noted
