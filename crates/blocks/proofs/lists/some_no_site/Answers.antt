-- `lists::some_no_site` meets its contract.
use mathlib.Core.Path.{◌≡◌}
use mathlib.Core.Bool.{true, false}
use borrow.Author.Rules.{rules}
use borrow.Author.Tests.{tests}
use lib.Dec.{leb}
use Rattle.std.proofs.lemmas.Iterator.{cases_from_any, YieldsList-from_slice}
use Rattle.blocks.proofs.Searching.{any_told}
use Rattle.blocks.proofs.lists.some_no_site.Goals as goal

pub returns : goal.returns
returns c = any_told (leb c.args.most) c.args.sites.now _ (cases_from_any _ _ _ (λ x. leb c.args.most x ≡ true) (λ x. leb c.args.most x ≡ false) c.any.ensures.ran (YieldsList-from_slice c.args.sites.now cc) (λ x q k. search (rules, tests)) (λ x q k. search (rules, tests)))
