-- `listing::put::Page::word` meets its contract: the bytes are copied there. Assumes nothing.
use Rattle.listing.proofs.Writing.{wrote_part}
use Rattle.listing.proofs.put.Page.word.Goals as goal

pub returns-clause-wrote : goal.returns-clause-wrote
returns-clause-wrote c = wrote_part c.args.self.now.len c.args.w.now c.args.self.now.out.now c.requires c.copy_from_slice.ensures.after
