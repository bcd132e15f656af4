-- `marks_at` meets its contract: the columns are cleared and then filled.
use mathlib.Core.Path.{sym, ◌∙◌}
use Rattle.alleles.proofs.Filling.{longer, marks_from, states_from}
use Rattle.alleles.proofs.marks_at.Goals as goal

pub leave_states-requires : goal.leave_states-requires
leave_states-requires c = (longer c.requires.0 c.fill.ensures.len, c.fill-2.ensures.len ∙ c.requires.1 ∙ sym c.fill.ensures.len)

pub returns : goal.returns
returns c = (
  c.leave_states.ensures.0 ∙ marks_from _ _ _ (c.fill.ensures.after (λ y k. k)),
  c.leave_states.ensures.1 ∙ states_from _ _ _ _ (c.fill-2.ensures.after (λ y k. k)),
)
