-- `tell_rows` meets its contract: the rows gone over have their bytes.
use mathlib.Core.Path.{◌≡◌}
use lib.ListN.{length}
use Rattle.meaning.specs.Columns.{edges_in}
use Rattle.overtaking.specs.Known.{Known}
use Rattle.overtaking.specs.Same.{SameKept}
use Rattle.carrying.specs.Kids.{KidsKnown}
use Rattle.carrying.specs.Same.{SameKids}
use Rattle.carrying.specs.Column.{RowsTold}
use Rattle.carrying.proofs.column.tell_rows.Given as goal

abbrev pub invariant-loop-j : goal.invariant-loop-j
invariant-loop-j l = record {
  same : SameKept l.initial.kept l.kept;
  kids_same : SameKids l.initial.kids l.kids;
  long : length l.kept.par.now ≡ length l.initial.kept.par.now;
  kids_long : length l.kids.has.now ≡ length l.initial.kids.has.now;
  told_long : length l.told ≡ length l.initial.told;
  state_long : length l.state ≡ length l.initial.state;
  states_long : length l.states ≡ length l.initial.states;
  flags_long : length l.flags ≡ length l.initial.flags;
  known : Known (edges_in l.index.edges) l.x l.kept.par.now l.kept.until.now;
  kids : KidsKnown (edges_in l.index.edges) l.x l.kids.has.now l.kids.until.now;
  rows : RowsTold (edges_in l.index.edges) l.x (length l.time) l.other l.t l.own l.initial.told l.initial.state l.rows l.j l.states l.flags l.told l.state;
}
