-- `keeping::collect` meets its contract: the other rows below u stand at the front.
use mathlib.Core.Path.{sym, ◌∙◌}
use Prim.Native.Nat.{◌-◌}
use Rattle.keeping.proofs.Collecting.{gather_none, gather_hit, gather_miss, gather_all}
use native.Mathlib.Omega.{arith}
use borrow.Author.Rules.{rules}
use Rattle.keeping.proofs.collect.Goals as goal
use Rattle.keeping.proofs.collect.Goals.{then-is_other, else-is_other}

pub loop-u-init : goal.loop-u-init
loop-u-init c = gather_none c.args.stood.now c.args.sample.now c.args.out.now

pub loop-u-preserved : goal.loop-u-preserved
loop-u-preserved c =
    elim c.if-is_other.branch [
      | then-is_other w ↦ gather_hit c.args.stood.now c.args.sample.now c.args.out.now c.loop-u.out c.if-is_other.out c.loop-u.k c.if-is_other.k c.loop-u.u (omega arith) (sym c.is_other.ensures ∙ w.if-is_other.true) w.out-is w.k-is c.loop-u.invariant
      | else-is_other w ↦ gather_miss c.args.stood.now c.args.sample.now c.args.out.now c.loop-u.out c.if-is_other.out c.loop-u.k c.if-is_other.k c.loop-u.u (sym c.is_other.ensures ∙ w.if-is_other.false) w.out-is w.k-is c.loop-u.invariant
    ]

pub returns : goal.returns
returns c = gather_all c.args.stood.now c.args.sample.now c.args.out.now c.loop-u.out c.loop-u.k c.loop-u.u (omega arith) c.loop-u-test.false c.loop-u.invariant
