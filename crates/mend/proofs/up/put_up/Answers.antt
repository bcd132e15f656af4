-- `mend::up::put_up` meets its contract: a row with a mark is listed already, and for one without there is a cell.
use Rattle.std.proofs.Common.{refl, arith, rules}
use Rattle.mend.proofs.Touching.{listed_room, noted_new, noted_old}
use Rattle.mend.proofs.up.put_up.Goals as goal

pub returns-then-listed-v-gt0 : goal.returns-then-listed-v-gt0
returns-then-listed-v-gt0 c = (refl, noted_old _ _ _ _ _ _ c.requires.0 c.requires.1 c.if-listed-v-gt0.true)

pub offset_bounds-touched-k : goal.offset_bounds-touched-k
offset_bounds-touched-k c = let h : _ = listed_room c.args.v c.requires.1 c.requires.0 (omega (arith, c.if-listed-v-gt0.false)) in search rules

pub bounds-touched-k : goal.bounds-touched-k
bounds-touched-k c = listed_room c.args.v c.requires.1 c.requires.0 (omega (arith, c.if-listed-v-gt0.false))

pub overflow_add-result : goal.overflow_add-result
overflow_add-result c = let h : _ = listed_room c.args.v c.requires.1 c.requires.0 (omega (arith, c.if-listed-v-gt0.false)) in search rules

pub returns : goal.returns
returns c = (refl, noted_new _ _ _ _ _ _ c.requires.0 c.requires.1 (omega (arith, c.if-listed-v-gt0.false)))
