-- `runs::push` meets its contract: the edge is counted up to one more than the limit, and written while there are cells.
use Rattle.runs.proofs.Storing.{pushed_written, pushed_over}
use Rattle.runs.proofs.push.Goals as goal

pub returns-then-count-gt-MOST : goal.returns-then-count-gt-MOST
returns-then-count-gt-MOST c = pushed_over _ _ c.requires.1 c.if-count-gt-MOST.true

pub write-requires : goal.write-requires
write-requires c = (c.requires.0.right_long, c.requires.0.parent_long, c.requires.0.child_long)

pub returns : goal.returns
returns c = pushed_written _ _ _ _ _ _ c.requires.0 c.requires.1 c.if-count-gt-MOST.false c.write.ensures.0 c.write.ensures.1 c.write.ensures.2 c.write.ensures.3
