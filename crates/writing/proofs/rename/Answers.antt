-- `writing::rename` meets its contract: the first i cells are renamed.
use mathlib.Core.Path.{sym, ap, ◌∙◌}
use mathlib.Core.List.{map}
use Prim.Native.Nat.{◌-◌}
use lib.ListN.{take}
use Rattle.writing.specs.Renamed.{renamed}
use Rattle.writing.proofs.Filling.{fill_start, fill_next, fill_same, fill_old, fill_end, made_long, made_at, renamed_row, renamed_none}
use native.Mathlib.Omega.{arith}
use borrow.Author.Rules.{rules}
use Rattle.writing.proofs.rename.Goals as goal
use Rattle.writing.proofs.rename.Goals.{then-v-names, else-v-names}

pub loop-i-init : goal.loop-i-init
loop-i-init c = fill_start (map (renamed c.args.names.now) (take c.args.k c.args.col.now)) c.args.col.now (omega (arith, made_long (renamed c.args.names.now) c.args.col.now c.args.k c.requires))

pub bounds-col-i : goal.bounds-col-i
bounds-col-i c = omega (arith, c.loop-i.invariant.long)

pub bounds-col-i-then-v-names : goal.bounds-col-i-then-v-names
bounds-col-i-then-v-names c = omega (arith, c.loop-i.invariant.long)

pub loop-i-preserved : goal.loop-i-preserved
loop-i-preserved c = elim c.if-v-names.branch [ then-v-names w ↦ rw w.col-is (fill_next (map (renamed c.args.names.now) (take c.args.k c.args.col.now)) c.args.col.now c.loop-i.col c.loop-i.i c.loop-i.invariant _ (omega (arith, made_long (renamed c.args.names.now) c.args.col.now c.args.k c.requires)) (made_at (renamed c.args.names.now) c.args.col.now c.args.k c.requires c.loop-i.i c.loop-i-test.true ∙ ap (renamed c.args.names.now) (sym (fill_old (map (renamed c.args.names.now) (take c.args.k c.args.col.now)) c.args.col.now c.loop-i.col c.loop-i.i c.loop-i.invariant) ∙ sym c.wide-v.ensures) ∙ renamed_row c.args.names.now c.wide-v.result w.if-v-names.true)) | else-v-names w ↦ rw w.col-is (fill_same (map (renamed c.args.names.now) (take c.args.k c.args.col.now)) c.args.col.now c.loop-i.col c.loop-i.i c.loop-i.invariant (omega (arith, made_long (renamed c.args.names.now) c.args.col.now c.args.k c.requires)) (made_at (renamed c.args.names.now) c.args.col.now c.args.k c.requires c.loop-i.i c.loop-i-test.true ∙ ap (renamed c.args.names.now) (sym (fill_old (map (renamed c.args.names.now) (take c.args.k c.args.col.now)) c.args.col.now c.loop-i.col c.loop-i.i c.loop-i.invariant) ∙ sym c.wide-v.ensures) ∙ renamed_none c.args.names.now c.wide-v.result w.if-v-names.false ∙ sym (sym (fill_old (map (renamed c.args.names.now) (take c.args.k c.args.col.now)) c.args.col.now c.loop-i.col c.loop-i.i c.loop-i.invariant) ∙ sym c.wide-v.ensures))) ]

pub shape_of-col : goal.shape_of-col
shape_of-col c = c.loop-i.invariant.long

pub returns : goal.returns
returns c = fill_end (map (renamed c.args.names.now) (take c.args.k c.args.col.now)) c.args.col.now c.loop-i.col c.loop-i.i c.loop-i.invariant (omega (arith, made_long (renamed c.args.names.now) c.args.col.now c.args.k c.requires))
