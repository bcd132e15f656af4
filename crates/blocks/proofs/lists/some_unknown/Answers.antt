-- `lists::some_unknown` meets its contract.
use mathlib.Core.Path.{◌≡◌}
use mathlib.Core.Bool.{true, false, not}
use borrow.Author.Rules.{rules}
use borrow.Author.Tests.{tests}
use Rattle.meaning.specs.Words.{mem}
use Rattle.std.proofs.lemmas.Iterator.{cases_from_any, YieldsList-from_slice}
use Rattle.blocks.proofs.Searching.{any_told}
use Rattle.blocks.proofs.lists.some_unknown.Goals as goal

pub returns : goal.returns
returns c = any_told (λ b. not (mem b c.args.birth.now)) c.args.fish.now _ (cases_from_any _ _ _ (λ x. not (mem x c.args.birth.now) ≡ true) (λ x. not (mem x c.args.birth.now) ≡ false) c.any.ensures.ran (YieldsList-from_slice c.args.fish.now cc) (λ x q k. search (rules, tests)) (λ x q k. search (rules, tests)))
