-- `lowest_above` meets its contract: the columns stay ready for the next row, and each row tells whether it is overtaken.
use mathlib.Core.Path.{◌≡◌}
use lib.ListN.{length}
use Prim.Native.Nat.{◌<◌}
use Rattle.meaning.specs.Columns.{edges_in}
use Rattle.laws.specs.Counting.{Sought}
use Rattle.overtaking.specs.Same.{SameKept}
use Rattle.overtaking.specs.Overtaken.{overtaken, Working, Going}
use Rattle.overtaking.proofs.stamps.lowest_above.Given as goal

abbrev pub invariant-loop-i : goal.invariant-loop-i
invariant-loop-i l = record {
  sought : Sought (overtaken (edges_in l.index.edges) l.mutations.position.now l.mutations.site.now l.mutations.node.now) (length l.mutations.site.now) l.i;
  same : SameKept l.initial.kept l.kept;
  long : length l.kept.par.now ≡ length l.initial.kept.par.now;
  working : Working l.mutations.time.now (edges_in l.index.edges) l.index.ends.now l.kept.par.now l.stamps;
  going : l.i < length l.mutations.site.now → Going l.mutations.time.now (edges_in l.index.edges) l.mutations.position.now l.mutations.site.now l.mutations.node.now l.i l.kept.par.now l.kept.until.now l.stamps;
}
