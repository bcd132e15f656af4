-- `placing::place` meets its contract: each turn gives one mutation its nearest standing row.
use Rattle.std.proofs.Common.{◌≡◌, ℕ, length, Option, unwrap_or, sym, ap, ◌∙◌}
use Rattle.std.proofs.lemmas.Option.{IfSome_then}
use Rattle.tree.specs.TreeAt.{given_cell}
use native.Mathlib.Omega.{arith}
use Rattle.placing.proofs.Giving.{none_given, one_given}
use Rattle.placing.proofs.place.Goals as goal

pub loop-m-init : goal.loop-m-init
loop-m-init c = none_given c.requires.2.most c.requires.2.few

pub bounds-position-s : goal.bounds-position-s
bounds-position-s c = c.requires.2.site_row _ c.loop-m-test.true

pub returns-then-next-position : goal.returns-then-next-position
returns-then-next-position c = record { between = c.loop-m.invariant; stopped = λ h. c.if-next-position.true }

pub bounds-node-m : goal.bounds-node-m
bounds-node-m c = omega (arith, c.requires.2.nodes, c.loop-m-test.true)

pub low_at-w-requires : goal.low_at-w-requires
low_at-w-requires c = (c.requires.0, c.requires.1, c.requires.2.node_row _ c.loop-m-test.true)

pub overflow_cast-m : goal.overflow_cast-m
overflow_cast-m c = omega (arith, c.requires.2.numbered, c.loop-m-test.true)

pub keep-k-requires : goal.keep-k-requires
keep-k-requires c = (
  omega (arith, c.requires.2.even, c.loop-m.invariant.beyond.rows_long, c.loop-m.invariant.beyond.lows_long),
  omega (arith, c.requires.2.numbered, c.loop-m-test.true, c.loop-m.invariant.few),
  IfSome_then c.low_at-w.result c.low_at-w.ensures.row (λ r l. omega (arith, l, c.requires.0.shape.rows)),
)

pub loop-m-preserved : goal.loop-m-preserved
loop-m-preserved c = one_given _ c.loop-m.invariant c.keep-k.ensures c.loop-m-test.true c.if-next-position.false (λ E Q x fl is. ap (λ (w : Option ℕ). unwrap_or w 4294967295) (c.low_at-w.ensures.low E Q x fl is) ∙ given_cell _)

pub returns : goal.returns
returns c = let w : _ = c.loop-m.invariant in
    let e : c.loop-m.m ≡ length c.args.site.now = omega (arith, c.loop-m-test.false, w.most) in
    record { between = rw (sym e) w; stopped = λ h. absurd (omega arith) }
