-- `younger_first` meets its contract: a row that does not end its site has a next one.
use mathlib.Core.Path.{sym, ◌∙◌}
use Rattle.overtaking.proofs.Overtaking.{goes_on}
use Rattle.overtaking.proofs.OlderFirst.{last_older, inner_older}
use native.Mathlib.Omega.{arith}
use Rattle.overtaking.proofs.sites.BySite.younger_first.Goals as goal

pub bounds-self-i-then-not-ends_site : goal.bounds-self-i-then-not-ends_site
bounds-self-i-then-not-ends_site c = let l : _ = (goes_on _ _ (sym c.ends_site.ensures ∙ c.if-not-ends_site.true)).0 in omega (arith, c.args.self.ordered.lined.node_long)

pub returns-then-not-ends_site : goal.returns-then-not-ends_site
returns-then-not-ends_site c = inner_older _ _ _ _ _ c.ends_site.ensures c.if-not-ends_site.true

pub returns-else-not-ends_site : goal.returns-else-not-ends_site
returns-else-not-ends_site c = last_older _ _ _ _ _ c.ends_site.ensures c.if-not-ends_site.false
