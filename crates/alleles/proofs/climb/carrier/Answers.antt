-- `alleles::climb::carrier` meets its contract: what a climb from the row that was come to tells is told of the first.
use Rattle.alleles.proofs.Climbing.{begin, told_done, told_from, go_on}
use Rattle.alleles.proofs.climb.carrier.Goals as goal

pub loop-r-init : goal.loop-r-init
loop-r-init c = begin c.requires _

pub up-requires : goal.up-requires
up-requires c = (c.loop-r.invariant.climb, c.loop-r.invariant.inside)

pub returns-in-Break : goal.returns-in-Break
returns-in-Break c = told_done c.loop-r.invariant c.up.result c.up.ensures c.in-Break.is

pub loop-r-smaller : goal.loop-r-smaller
loop-r-smaller c = (told_from c.loop-r.invariant c.up.result c.up.ensures c.in-Continue.is).fewer

pub loop-r-preserved : goal.loop-r-preserved
loop-r-preserved c = go_on c.loop-r.invariant c.up.result c.up.ensures c.in-Continue.is
