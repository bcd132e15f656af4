-- `batch_mutation_at` meets its contract: each way out is one case of rule 25.
use mathlib.Core.Path.{sym, ap, ◌∙◌}
use mathlib.Core.Bool.{not}
use Rattle.batches.proofs.Tests.{batch_no_site, batch_node}
use Rattle.batches.proofs.mutations.batch_mutation_at.Goals as goal

pub returns-then-sites-site : goal.returns-then-sites-site
returns-then-sites-site c = λ derived. sym (batch_no_site _ _ _ _ c.if-sites-site.true)

pub returns : goal.returns
returns c = λ derived. ap not c.known.ensures ∙ sym (batch_node _ _ _ _ c.if-sites-site.false)
