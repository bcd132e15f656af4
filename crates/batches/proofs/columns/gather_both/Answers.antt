-- `gather_both` meets its contract: after i cells the front of out has the cells that the first i rows name.
use native.Mathlib.Omega.{arith}
use Rattle.batches.proofs.Fronts.{gather_start, gather_next, gather_end}
use Rattle.batches.proofs.columns.gather_both.Goals as goal

pub loop-i-init : goal.loop-i-init
loop-i-init g c = gather_start _ _ _

pub joined_cell-requires : goal.joined_cell-requires
joined_cell-requires g c = omega (arith, c.wide.ensures, c.requires.1.row c.loop-i.i c.loop-i-test.true)

pub loop-i-preserved : goal.loop-i-preserved
loop-i-preserved g c = gather_next _ _ _ c.loop-i.out c.loop-i.i c.wide.result c.joined_cell.result c.wide.ensures c.loop-i-test.true c.requires.0 (λ other. c.joined_cell.ensures other) c.loop-i.invariant

pub returns : goal.returns
returns g c = gather_end _ _ _ c.loop-i.out c.loop-i.i c.loop-i-test.false c.loop-i.invariant
