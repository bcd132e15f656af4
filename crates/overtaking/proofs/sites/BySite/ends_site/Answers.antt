-- `ends_site` meets its contract.
use Rattle.overtaking.proofs.Overtaking.{last_ends, inner_ends}
use Rattle.overtaking.proofs.sites.BySite.ends_site.Goals as goal

pub returns-then-i-self : goal.returns-then-i-self
returns-then-i-self c = last_ends _ _ c.if-i-self.true

pub returns-else-i-self : goal.returns-else-i-self
returns-else-i-self c = inner_ends _ _ c.requires c.if-i-self.false
