-- `find` meets its contract: each row on the way carries what the first one carries.
use mathlib.Core.Path.{◌≡◌}
use lib.ListN.{length}
use Rattle.meaning.specs.Columns.{edges_in}
use Rattle.ancestry.specs.Column.{older}
use Rattle.overtaking.specs.Known.{Known}
use Rattle.overtaking.specs.Same.{SameKept}
use Rattle.carrying.proofs.Telling.{Climbing}
use Rattle.carrying.proofs.carry.find.Given as goal

abbrev pub invariant-loop-u : goal.invariant-loop-u
invariant-loop-u l = record {
  same : SameKept l.initial.kept l.kept;
  long : length l.kept.par.now ≡ length l.initial.kept.par.now;
  climbing : Climbing (edges_in l.index.edges) l.x (length l.time) l.other l.t l.told l.state l.u0 l.u;
  known : Known (edges_in l.index.edges) l.x l.kept.par.now l.kept.until.now;
}

abbrev pub decreases-loop-u : goal.decreases-loop-u
decreases-loop-u l = older l.time l.u
