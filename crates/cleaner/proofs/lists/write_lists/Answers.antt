-- `cleaner::lists::write_lists` meets its contract: the lists, then the edges' order and every row's place.
use mathlib.Core.Path.{◌∙◌}
use lib.ListN.{take}
use Rattle.cleaner.specs.Out.{written_in}
use Rattle.cleaner.specs.Results.{lists_written}
use Rattle.cleaner.proofs.Finishing.{ordered_inside}
use Rattle.cleaner.proofs.Storing.{fill_ready, order_ready, order_room, mutations_ready, left_room, right_room, parent_room, child_room, rows_room, lows_room, in_turns, lists_same}
use borrow.Author.Rules.{rules}
use Rattle.cleaner.proofs.lists.write_lists.Goals as goal

pub fill-requires : goal.fill-requires
fill-requires c = fill_ready c.requires.0 c.requires.2

pub order-requires : goal.order-requires
order-requires c = order_ready c.requires.0 c.requires.2 (c.fill.ensures.filled _ _ _ c.requires.0.flags c.requires.0.swept) c.args.bl.now c.args.br.now c.requires.1 c.requires.0.long.lefts c.requires.0.long.rights

pub finish-requires : goal.finish-requires
finish-requires c =
    let r : _ = c.requires.0 in
    let f : _ = c.fill.ensures.filled _ _ _ c.requires.0.flags c.requires.0.swept in (
      order_room r c.requires.2 f c.order.new.order (c.order.auto.order ∙ r.long.lefts),
      order_room r c.requires.2 f c.order.new.spare (c.order.auto.spare ∙ r.long.rights),
      left_room r c.requires.2 f,
      right_room r c.requires.2 f,
      parent_room r c.requires.2 f,
      child_room r c.requires.2 f,
      ordered_inside _ c.args.first.made (take c.args.first.made c.order.new.order) (c.order.ensures c.fill.new.out.left.now (left_room r c.requires.2 f) (in_turns r c.requires.2 f)),
    )

pub finish_mutations-requires : goal.finish_mutations-requires
finish_mutations-requires c = mutations_ready c.requires.0 c.requires.2 (c.fill.ensures.filled _ _ _ c.requires.0.flags c.requires.0.swept)

pub returns : goal.returns
returns c =
    let r : _ = c.requires.0 in
    let f : _ = c.fill.ensures.filled _ _ _ c.requires.0.flags c.requires.0.swept in
    lists_same (lists_written _ _ _ _ r c.requires.2.edges_few _ _ _ _ _ _ f (parent_room r c.requires.2 f) (child_room r c.requires.2 f) (rows_room r c.requires.2 f) (lows_room r c.requires.2 f) (written_in c.finish.new.self)
    (record {
      order = take c.args.first.made c.order.new.order;
      sorted = c.order.ensures c.fill.new.out.left.now (left_room r c.requires.2 f) (in_turns r c.requires.2 f);
      lefts = c.finish.ensures.finished.0;
      rights = c.finish.ensures.finished.1;
      parents = c.finish.ensures.finished.2;
      children = c.finish.ensures.finished.3;
    }) _ _ _ _ c.finish_mutations.ensures) (search rules) (search rules) (search rules) (search rules)
