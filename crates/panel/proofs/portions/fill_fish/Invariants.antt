-- `portions::fill_fish` meets its contract: portion after portion, each found and told.
use mathlib.Core.Path.{◌≡◌}
use Prim.Native.Nat.{◌-◌}
use lib.ListN.{length}
use Rattle.meaning.specs.Columns.{tables_in}
use Rattle.overtaking.specs.Same.{SameKept}
use Rattle.carrying.specs.Lent.{work_in}
use Rattle.carrying.specs.Same.{SameKids}
use Rattle.panel.proofs.Taking.{Taken}
use Rattle.panel.proofs.portions.fill_fish.Given as goal

abbrev pub invariant-loop-base : goal.invariant-loop-base
invariant-loop-base l = record {
  same : SameKept l.initial.kept l.kept;
  kids_same : SameKids l.initial.kids l.kids;
  long : length l.kept.par.now ≡ length l.initial.kept.par.now;
  kids_long : length l.kids.has.now ≡ length l.initial.kids.has.now;
  own_long : length l.own ≡ length l.initial.own;
  told_long : length l.told ≡ length l.initial.told;
  state_long : length l.state ≡ length l.initial.state;
  taken : Taken (tables_in l.filled.tables) l.sites l.fish l.initial.rows l.initial.column l.initial.gaps l.initial.states l.initial.flags (work_in l.kept l.kids l.own l.told l.state) l.rows l.column l.gaps l.states l.flags l.trail.last l.trail.stamp l.base;
}

abbrev pub decreases-loop-base : goal.decreases-loop-base
decreases-loop-base l = length l.fish - l.base
