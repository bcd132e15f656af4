-- `listing::put::Page::fields` meets its contract: the loop has written the numbers that it has passed. Assumes nothing.
use mathlib.Core.Path.{◌≡◌}
use lib.ListN.{length}
use Rattle.listing.specs.Written.{spaced}
use Rattle.listing.proofs.Going.{Going}
use Rattle.listing.proofs.put.Page.fields.Given as goal

abbrev pub invariant-loop-n : goal.invariant-loop-n
invariant-loop-n l = record {
  going : Going (spaced l.ns) (length l.ns) l.initial.self.len l.initial.self.out.now l.self.out.now l.self.len l.n-index;
  same : l.self.out.ghost_name ≡ l.initial.self.out.ghost_name;
}
