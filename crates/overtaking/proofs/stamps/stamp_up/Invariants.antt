-- `stamp_up` meets its contract: each step up is a law of Stamping, and the number of older rows falls.
use mathlib.Core.Path.{◌≡◌}
use lib.ListN.{length}
use Rattle.meaning.specs.Columns.{edges_in}
use Rattle.ancestry.specs.Column.{older}
use Rattle.overtaking.specs.Known.{Known}
use Rattle.overtaking.specs.Same.{SameKept}
use Rattle.overtaking.proofs.Stamping.{Climbing}
use Rattle.overtaking.proofs.stamps.stamp_up.Given as goal

abbrev pub invariant-loop-u : goal.invariant-loop-u
invariant-loop-u l = record {
  same : SameKept l.initial.kept l.kept;
  long : length l.kept.par.now ≡ length l.initial.kept.par.now;
  climbing : Climbing l.time (edges_in l.index.edges) l.x l.t l.bound l.initial.stamps l.u0 l.stamps l.u;
  known : Known (edges_in l.index.edges) l.x l.kept.par.now l.kept.until.now;
}

abbrev pub decreases-loop-u : goal.decreases-loop-u
decreases-loop-u l = older l.time l.u
