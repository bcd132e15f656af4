-- `form::fill::fill8` meets its contract: the loop has filled the cells that it has passed. Assumes nothing.
use mathlib.Core.Path.{sym, ap, ◌∙◌}
use Prim.Native.Nat.{ℕ, ◌+◌, ◌*◌}
use lib.ListN.{get_or}
use Rattle.meaning.specs.Stored.{number}
use Rattle.form.proofs.Filling.{number_one, fill_start, fill_more, fill_end, field_there}
use native.Mathlib.Omega.{arith}
use Rattle.form.proofs.fill.fill8.Goals as goal

pub loop-i-init : goal.loop-i-init
loop-i-init c = fill_start (λ (k : ℕ). number 1 c.args.s.now (c.args.start + k * c.args.step)) c.args.start c.args.step c.args.n c.args.out.now

pub bounds-s-at : goal.bounds-s-at
bounds-s-at c = omega (arith, field_there 1 c.args.s.now c.args.start c.args.step c.args.n c.loop-i.at c.loop-i.i c.requires.0 c.loop-i.invariant.place c.loop-i-test.true)

pub bounds-out-i : goal.bounds-out-i
bounds-out-i c = omega (arith, c.loop-i.invariant.same, c.requires.1)

pub overflow_add-at : goal.overflow_add-at
overflow_add-at c = omega (arith, field_there 1 c.args.s.now c.args.start c.args.step c.args.n c.loop-i.at c.loop-i.i c.requires.0 c.loop-i.invariant.place c.loop-i-test.true, c.requires.0.short)

pub loop-i-preserved : goal.loop-i-preserved
loop-i-preserved c = fill_more (λ (k : ℕ). number 1 c.args.s.now (c.args.start + k * c.args.step)) c.args.start c.args.step c.args.n c.args.out.now c.loop-i.out c.loop-i.at c.loop-i.i (get_or c.args.s.now c.loop-i.at 0) c.requires.1 c.loop-i.invariant c.loop-i-test.true (sym (number_one c.args.s.now c.loop-i.at) ∙ ap (number 1 c.args.s.now) c.loop-i.invariant.place)

pub shape_of-out : goal.shape_of-out
shape_of-out c = c.loop-i.invariant.same

pub returns : goal.returns
returns c = fill_end (λ (k : ℕ). number 1 c.args.s.now (c.args.start + k * c.args.step)) c.args.start c.args.step c.args.n c.args.out.now c.loop-i.out c.loop-i.at c.loop-i.i c.loop-i.invariant c.loop-i-test.false
