-- `cleaner::fill::fill` meets its contract: copied where the first sweep could keep all, else swept again.
use Rattle.cleaner.proofs.Filling.{copy_written, count_few, filled}
use native.Mathlib.Omega.{arith}
use Rattle.cleaner.proofs.fill.fill.Goals as goal

pub write-requires : goal.write-requires
write-requires c = (c.if-first.true, c.requires.4.left_room, c.requires.4.right_room, c.requires.4.parent_room, c.requires.4.child_room)

pub copy-requires : goal.copy-requires
copy-requires c = (c.if-first-2.true, c.requires.4.rows_room)

pub copy-requires-then-first-2 : goal.copy-requires-then-first-2
copy-requires-then-first-2 c = (omega (arith, c.if-first-2.true, c.args.first.even), c.requires.4.lows_room)

pub returns-then-first-2-clause-filled : goal.returns-then-first-2-clause-filled
returns-then-first-2-clause-filled c = λ Q D M flags done. filled done c.args.first.made c.args.first.moved (count_few done) c.if-first.true c.if-first-2.true _ _ _ _ _ _ (copy_written c.args.first.made c.args.first.edges.left.now c.args.out.now.left.now _ c.if-first.true c.requires.4.left_room c.write.ensures.copied.0) (copy_written c.args.first.made c.args.first.edges.right.now c.args.out.now.right.now _ (omega (arith, c.if-first.true, c.args.first.edges.even.right_long)) c.requires.4.right_room c.write.ensures.copied.1) (copy_written c.args.first.made c.args.first.edges.parent.now c.args.out.now.parent.now _ (omega (arith, c.if-first.true, c.args.first.edges.even.parent_long)) c.requires.4.parent_room c.write.ensures.copied.2) (copy_written c.args.first.made c.args.first.edges.child.now c.args.out.now.child.now _ (omega (arith, c.if-first.true, c.args.first.edges.even.child_long)) c.requires.4.child_room c.write.ensures.copied.3) (copy_written c.args.first.moved c.args.first.row.now c.args.out_site.now _ c.if-first-2.true c.requires.4.rows_room c.copy.ensures) (copy_written c.args.first.moved c.args.first.low.now c.args.out_node.now _ (omega (arith, c.if-first-2.true, c.args.first.even)) c.requires.4.lows_room c.copy-then-first-2.ensures)

pub again-requires : goal.again-requires
again-requires c = (c.requires.0, c.requires.1, c.requires.2, c.requires.3, c.requires.4.stood_long, c.requires.4.left_room, c.requires.4.right_room, c.requires.4.parent_room, c.requires.4.child_room, c.requires.4.rows_room, c.requires.4.lows_room)

pub returns-clause-filled : goal.returns-clause-filled
returns-clause-filled c = λ Q D M flags done. c.again.ensures.filled Q (count_few done) flags
