-- `portions::fill_portion` meets its contract: site after site, told and written.
use mathlib.Core.Path.{◌≡◌}
use lib.ListN.{length}
use Rattle.meaning.specs.Columns.{tables_in}
use Rattle.overtaking.specs.Same.{SameKept}
use Rattle.carrying.specs.Lent.{work_in}
use Rattle.carrying.specs.Same.{SameKids}
use Rattle.panel.proofs.Taking.{Telling}
use Rattle.panel.proofs.portions.fill_portion.Given as goal

abbrev pub invariant-loop-j : goal.invariant-loop-j
invariant-loop-j l = record {
  same : SameKept l.initial.kept l.kept;
  kids_same : SameKids l.initial.kids l.kids;
  long : length l.kept.par.now ≡ length l.initial.kept.par.now;
  kids_long : length l.kids.has.now ≡ length l.initial.kids.has.now;
  own_long : length l.own ≡ length l.initial.own;
  told_long : length l.told ≡ length l.initial.told;
  state_long : length l.state ≡ length l.initial.state;
  telling : Telling (tables_in l.filled.tables) l.sites l.fish l.base l.k l.initial.column l.initial.gaps l.initial.states l.initial.flags (work_in l.kept l.kids l.own l.told l.state) l.column l.gaps l.states l.flags l.reached.last l.reached.stamp l.j;
}
