-- `Kids::child` meets its contract: the answer that is kept still holds, or a new one is kept with its end.
use Rattle.carrying.specs.Spans.{in_span}
use Rattle.carrying.proofs.Childless.{byte_is, known_set}
use native.Mathlib.Omega.{arith}
use Rattle.carrying.proofs.kids.Kids.child.Goals as goal

pub returns-then-x-self-clause-answer : goal.returns-then-x-self-clause-answer
returns-then-x-self-clause-answer c = c.requires.4.cell _ _ c.requires.3 (omega arith) c.if-x-self.true

pub child_from-b-requires : goal.child_from-b-requires
child_from-b-requires c = in_span c.requires.0 _

pub returns-clause-answer : goal.returns-clause-answer
returns-clause-answer c = c.child_from-b.ensures.here

pub returns-clause-known : goal.returns-clause-known
returns-clause-known c = known_set _ _ c.requires.4 c.args.self.now.even c.requires.3 (byte_is c.child_from-b.result.has) c.child_from-b.ensures
