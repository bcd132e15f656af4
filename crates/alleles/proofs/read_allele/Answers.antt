-- `read_allele` meets its contract.
use mathlib.Core.Path.{sym, ◌∙◌}
use native.Mathlib.Omega.{arith}
use Rattle.alleles.specs.Call.{no_site}
use Rattle.alleles.proofs.Calling.{answer_read, answer_no_birth}
use Rattle.order.specs.Ranks.{place_in-some}
use Rattle.alleles.proofs.read_allele.Goals as goal

pub returns-then-tables-i : goal.returns-then-tables-i
returns-then-tables-i c = sym (no_site _ _ _ _ c.if-tables-i.true)

pub row_of-requires : goal.row_of-requires
row_of-requires c = record { ranked = λ e. c.requires.1 }

pub overflow_cast-u : goal.overflow_cast-u
overflow_cast-u c = omega (arith, (place_in-some _ _ _ (sym c.in-Some.is ∙ c.row_of.ensures)).1, c.requires.0.births_long, c.requires.0.few)

pub returns-in-None : goal.returns-in-None
returns-in-None c = answer_no_birth _ _ _ (sym c.in-None.is ∙ c.row_of.ensures) _ c.if-tables-i.false

pub row_allele-requires : goal.row_allele-requires
row_allele-requires c = (c.requires.0, c.if-tables-i.false, omega (arith, (place_in-some _ _ _ (sym c.in-Some.is ∙ c.row_of.ensures)).1, c.requires.0.births_long))

pub returns-in-Some : goal.returns-in-Some
returns-in-Some c = answer_read _ _ _ _ (sym c.in-Some.is ∙ c.row_of.ensures) _ _ c.if-tables-i.false c.row_allele.ensures
