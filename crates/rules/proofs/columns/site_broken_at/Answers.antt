-- `site_broken_at` meets its contract: each way out is one case of rule 8.
use mathlib.Core.Path.{sym, ◌∙◌}
use borrow.Author.Tests.{le-leb, le-ltb}
use native.Mathlib.Omega.{arith}
use Rattle.rules.proofs.Rows.{site_past, site_first, site_later}
use Rattle.rules.proofs.columns.site_broken_at.Goals as goal

pub returns-then-len-position : goal.returns-then-len-position
returns-then-len-position c = le-leb _ _ c.if-len-position.true ∙ sym (site_past _ _ _ c.if-len-position.true)

pub returns-then-i-gt0 : goal.returns-then-i-gt0
returns-then-i-gt0 c = sym (site_later _ _ _ c.if-len-position.false (λ e. omega (arith, c.if-i-gt0.true)))

pub returns-else-i-gt0 : goal.returns-else-i-gt0
returns-else-i-gt0 c = le-ltb _ _ c.if-i-gt0.false ∙ sym (site_first _ _ _ c.if-len-position.false (omega (arith, c.if-i-gt0.false)))
