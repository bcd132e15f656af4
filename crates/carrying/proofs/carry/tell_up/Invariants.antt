-- `tell_up` meets its contract: the rows gone over are told what they carry.
use mathlib.Core.Path.{◌≡◌}
use lib.ListN.{length}
use Rattle.meaning.specs.Columns.{edges_in}
use Rattle.ancestry.specs.Column.{older}
use Rattle.overtaking.specs.Known.{Known}
use Rattle.overtaking.specs.Same.{SameKept}
use Rattle.carrying.proofs.Telling.{Passing}
use Rattle.carrying.proofs.carry.tell_up.Given as goal

abbrev pub invariant-loop-told : goal.invariant-loop-told
invariant-loop-told l = record {
  same : SameKept l.initial.kept l.kept;
  long : length l.kept.par.now ≡ length l.initial.kept.par.now;
  passing : Passing (edges_in l.index.edges) l.x (length l.time) l.t l.s l.u0 l.initial.told l.initial.state l.told l.state l.u;
  known : Known (edges_in l.index.edges) l.x l.kept.par.now l.kept.until.now;
}

abbrev pub decreases-loop-told : goal.decreases-loop-told
decreases-loop-told l = older l.time l.u
