-- searched meets its contract: what `position` answers is the place.
use mathlib.Core.Path.{◌≡◌}
use Rattle.std.proofs.Common.{rules}
use Rattle.std.proofs.lemmas.Iterator.{IsFirst-from_position, YieldsList-from_slice}
use borrow.Author.Tests.{tests}
use Rattle.order.proofs.Lookup.{found_place}
use Rattle.order.proofs.ranks.searched.Goals as goal

pub returns : goal.returns
returns c = found_place c.args.l.now c.args.b c.position.result (IsFirst-from_position _ _ c.position.result (λ x. x ≡ c.args.b) (λ x. x ≡ c.args.b → ⊥) c.position.ensures.ran (YieldsList-from_slice c.args.l.now cc) (λ x q k. search (rules, tests)) (λ x q k. search (rules, tests)))
