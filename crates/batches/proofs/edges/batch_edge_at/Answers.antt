-- `batch_edge_at` meets its contract: each way out is one case of rule 23.
use mathlib.Core.Path.{sym, ap, ap₂, ◌∙◌}
use mathlib.Core.Bool.{not}
use lib.Dec.{leb}
use Rattle.batches.proofs.Tests.{child_unborn, parent_nowhere, batch_empty, batch_past, batch_ages}
use Rattle.batches.proofs.edges.batch_edge_at.Goals as goal

pub returns-then-not-have : goal.returns-then-not-have
returns-then-not-have c = sym (child_unborn _ _ _ _ _ (ap not (sym c.have.ensures ∙ c.if-not-have.true)))

pub returns-then-lack : goal.returns-then-lack
returns-then-lack c = sym (parent_nowhere _ _ _ _ _ (ap not (sym c.have.ensures ∙ c.if-not-have.false)) (sym c.lack.ensures ∙ c.if-lack.true))

pub returns-then-edges-i : goal.returns-then-edges-i
returns-then-edges-i c = sym (batch_empty _ _ _ _ _ (ap not (sym c.have.ensures ∙ c.if-not-have.false)) (sym c.lack.ensures ∙ c.if-lack.false) c.if-edges-i.true)

pub returns-then-len-edges : goal.returns-then-len-edges
returns-then-len-edges c = sym (batch_past _ _ _ _ _ (ap not (sym c.have.ensures ∙ c.if-not-have.false)) (sym c.lack.ensures ∙ c.if-lack.false) c.if-edges-i.false c.if-len-edges.true)

pub returns : goal.returns
returns c = ap₂ leb c.time_of.ensures c.time_of-2.ensures ∙ sym (batch_ages _ _ _ _ _ (ap not (sym c.have.ensures ∙ c.if-not-have.false)) (sym c.lack.ensures ∙ c.if-lack.false) c.if-edges-i.false c.if-len-edges.false)
