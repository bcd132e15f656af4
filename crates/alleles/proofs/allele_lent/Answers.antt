-- `alleles::allele_lent` meets its contract: the check's refusal, or what is read after it.
use mathlib.Core.Path.{sym, ap, ◌∙◌}
use lib.Seq.{length-take-le}
use Rattle.laws.specs.Passing.{passed_on}
use Rattle.meaning.specs.Answer.{allele_of}
use Rattle.alleles.proofs.Whole.{sound_shaped, sound_readable, edges_room, births_room, still_readable, still_ranked, still_read, whole_refused, whole_read}
use Rattle.alleles.proofs.allele_lent.Goals as goal

pub evened-requires : goal.evened-requires
evened-requires c = sound_shaped _ _ c.check_lent.result c.check_lent.ensures.0 c.in_ok-check_lent.was

pub slice_bounds-read_allele-end : goal.slice_bounds-read_allele-end
slice_bounds-read_allele-end c = edges_room _ _ c.check_lent.result c.check_lent.ensures.0 _ _ c.check_lent.ensures.1 c.in_ok-check_lent.was _ c.requires.0 c.check_lent.auto.by_child

pub slice_bounds-read_allele-end-2 : goal.slice_bounds-read_allele-end-2
slice_bounds-read_allele-end-2 c = sym (length-take-le _ _ (edges_room _ _ c.check_lent.result c.check_lent.ensures.0 _ _ c.check_lent.ensures.1 c.in_ok-check_lent.was _ c.requires.0 c.check_lent.auto.by_child))

pub slice_bounds-read_allele-end-3 : goal.slice_bounds-read_allele-end-3
slice_bounds-read_allele-end-3 c = births_room _ _ c.check_lent.result c.check_lent.ensures.0 _ _ c.check_lent.ensures.1 c.in_ok-check_lent.was _ c.requires.1 c.check_lent.auto.by_birth

pub slice_bounds-read_allele-end-4 : goal.slice_bounds-read_allele-end-4
slice_bounds-read_allele-end-4 c = sym (c.check_lent.ensures.1.births c.in_ok-check_lent.was).long

pub read_allele-requires : goal.read_allele-requires
read_allele-requires c = (
  still_readable c.evened.ensures (sound_readable _ _ c.check_lent.result c.check_lent.ensures.0 _ _ c.check_lent.ensures.1 c.in_ok-check_lent.was),
  still_ranked c.evened.ensures (c.check_lent.ensures.1.births c.in_ok-check_lent.was),
)

pub returns-in_err-check_lent : goal.returns-in_err-check_lent
returns-in_err-check_lent c = ap allele_of (passed_on c.from_residual.ensures.1) ∙ whole_refused _ _ c.check_lent.result c.check_lent.ensures.0 _ _ _ c.in_err-check_lent.was

pub returns : goal.returns
returns c = whole_read _ _ c.check_lent.result c.check_lent.ensures.0 _ _ _ c.in_ok-check_lent.was (still_read _ _ _ c.evened.ensures c.read_allele.ensures)
