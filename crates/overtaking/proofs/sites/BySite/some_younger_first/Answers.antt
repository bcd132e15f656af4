-- `some_younger_first` meets its contract: the rows are gone over.
use mathlib.Core.Path.{refl, ◌∙◌}
use lib.ListN.{length}
use native.Mathlib.Omega.{arith}
use borrow.Author.Rules.{rules}
use borrow.Author.Tests.{tests}
use Rattle.std.proofs.lemmas.Iterator.{YieldsList-from_range}
use Rattle.std.proofs.lemmas.Iterator.Search.{any_from_yields_List}
use Rattle.overtaking.specs.Sites.{younger_first}
use Rattle.overtaking.proofs.OlderFirst.{some_in_range}
use Rattle.overtaking.proofs.sites.BySite.some_younger_first.Goals as goal

pub returns : goal.returns
returns c =
    let s = c.args.self in
    any_from_yields_List (younger_first s.time.now s.site.now s.node.now) _ _ _ c.any.ensures.ran (YieldsList-from_range 0 (length s.site.now) (length s.site.now) refl (omega arith)) (λ x b q k. search (rules, tests)) ∙ some_in_range s.time.now s.site.now s.node.now
