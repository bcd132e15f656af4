-- `gather` meets its contract: after i cells the front of out has the cells that the first i rows name.
use mathlib.Core.Path.{◌∙◌}
use native.Mathlib.Omega.{arith}
use Rattle.std.proofs.lemmas.List.{get_or_default}
use Rattle.batches.proofs.Fronts.{gather_start, gather_next, gather_end}
use Rattle.batches.proofs.columns.gather.Goals as goal

pub loop-i-init : goal.loop-i-init
loop-i-init g c = gather_start _ _ _

pub loop-i-preserved : goal.loop-i-preserved
loop-i-preserved g c = gather_next _ _ _ c.loop-i.out c.loop-i.i c.wide.result c.index-src-wide.result c.wide.ensures c.loop-i-test.true c.requires.0 (λ other. c.index-src-wide.is ∙ get_or_default c.args.src.now c.wide.result c.index-src-wide.result other (omega (arith, c.wide.ensures, c.requires.1.row c.loop-i.i c.loop-i-test.true))) c.loop-i.invariant

pub returns : goal.returns
returns g c = gather_end _ _ _ c.loop-i.out c.loop-i.i c.loop-i-test.false c.loop-i.invariant
