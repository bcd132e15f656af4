-- `unordered_at` meets its contract: the first row has none before it, and any other is compared with it.
use mathlib.Core.Path.{sym, ap, ◌∙◌}
use mathlib.Core.Bool.{not}
use borrow.Author.Tests.{le-ltb}
use native.Mathlib.Omega.{arith}
use Rattle.rules.proofs.Rows.{edge_first, edge_later}
use Rattle.rules.proofs.edges.unordered_at.Goals as goal

pub returns-then-i-gt0 : goal.returns-then-i-gt0
returns-then-i-gt0 c = ap not c.key_below.ensures ∙ sym (edge_later _ _ _ (λ e. omega (arith, c.if-i-gt0.true)))

pub returns-else-i-gt0 : goal.returns-else-i-gt0
returns-else-i-gt0 c = le-ltb _ _ c.if-i-gt0.false ∙ sym (edge_first _ _ _ (omega (arith, c.if-i-gt0.false)))
