-- `mutation_broken_at` meets its contract: each way out is one case of rule 9.
use mathlib.Core.Path.{sym}
use Rattle.rules.proofs.Rows.{no_site_row, no_node_row, mutation_first, mutation_later}
use Rattle.rules.proofs.mutations.mutation_broken_at.Goals as goal

pub returns-then-sites-mutations : goal.returns-then-sites-mutations
returns-then-sites-mutations c = sym (no_site_row _ _ _ _ c.if-sites-mutations.true)

pub returns-then-nodes-mutations : goal.returns-then-nodes-mutations
returns-then-nodes-mutations c = sym (no_node_row _ _ _ _ c.if-sites-mutations.false c.if-nodes-mutations.true)

pub returns-then-i-eq0 : goal.returns-then-i-eq0
returns-then-i-eq0 c = sym (mutation_first _ _ _ _ c.if-sites-mutations.false c.if-nodes-mutations.false c.if-i-eq0.true)

pub returns : goal.returns
returns c = sym (mutation_later _ _ _ _ c.if-sites-mutations.false c.if-nodes-mutations.false c.if-i-eq0.false)
