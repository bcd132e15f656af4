-- `lowest_overtaken` meets its contract: the working columns stand on the stack.
use mathlib.Core.Path.{sym}
use Rattle.order.specs.Tables.{front_long}
use Rattle.batches.proofs.above.lowest_overtaken.Goals as goal

pub slice_bounds-lowest_by_site-end : goal.slice_bounds-lowest_by_site-end
slice_bounds-lowest_by_site-end c = front_long 4096 _ c.requires.edges

pub slice_bounds-lowest_by_site-end-2 : goal.slice_bounds-lowest_by_site-end-2
slice_bounds-lowest_by_site-end-2 c = front_long 1024 _ c.requires.mutations

pub slice_bounds-lowest_by_site-end-3 : goal.slice_bounds-lowest_by_site-end-3
slice_bounds-lowest_by_site-end-3 c = front_long 1024 _ c.requires.mutations

pub slice_bounds-lowest_by_site-end-4 : goal.slice_bounds-lowest_by_site-end-4
slice_bounds-lowest_by_site-end-4 c = front_long 1024 _ c.requires.mutations

pub lowest_by_site-requires : goal.lowest_by_site-requires
lowest_by_site-requires c = (c.requires, sym (front_long 4096 _ c.requires.edges), sym (front_long 1024 _ c.requires.mutations), sym (front_long 1024 _ c.requires.mutations), sym (front_long 1024 _ c.requires.mutations))

pub returns : goal.returns
returns c = c.lowest_by_site.ensures
