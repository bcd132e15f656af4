-- `cleaner::out::EdgesOut::finish` meets its contract: the columns by the order, and then the places.
use Rattle.meaning.specs.Words.{at}
use Rattle.writing.specs.Renamed.{renamed}
use Rattle.cleaner.proofs.Finishing.{renamed_after}
use Rattle.cleaner.proofs.edges_out.EdgesOut.finish.Goals as goal

pub returns-clause-finished : goal.returns-clause-finished
returns-clause-finished c = (
  c.reorder.ensures.ordered.0,
  c.reorder.ensures.ordered.1,
  renamed_after (at c.args.self.now.parent.now) (renamed c.args.places.now) c.args.order.now c.args.self.now.parent.now c.reorder.new.self.parent.now _ c.args.k c.requires.0 c.reorder.ensures.ordered.2 c.rename.ensures,
  renamed_after (at c.args.self.now.child.now) (renamed c.args.places.now) c.args.order.now c.args.self.now.child.now c.reorder.new.self.child.now _ c.args.k c.requires.0 c.reorder.ensures.ordered.3 c.rename-2.ensures,
)
