-- `fill::prepare` meets its contract: three columns of places, each filled in by one pass.
use mathlib.Core.Path.{◌∙◌}
use native.Mathlib.Omega.{arith}
use Rattle.panel.proofs.Calling.{prepared}
use Rattle.panel.proofs.fill.prepare.Goals as goal

pub fill_ends-requires : goal.fill_ends-requires
fill_ends-requires c = (c.requires.0.order, omega (arith, c.requires.0.few_edges), omega (arith, c.requires.4))

pub fill-requires : goal.fill-requires
fill-requires c = (
  (λ e l. omega (arith, c.requires.0.rising.parent_row e (omega (arith, c.requires.0.rising.even.parent_long)), c.requires.0.few, c.requires.5)),
  omega (arith, c.requires.5, c.requires.6),
  omega (arith, c.requires.0.few_edges, c.requires.0.rising.even.parent_long),
  c.requires.9,
)

pub fill-requires-2 : goal.fill-requires-2
fill-requires-2 c = (
  (λ e l. omega (arith, c.requires.1.there e l, c.requires.2, c.requires.7)),
  omega (arith, c.requires.7, c.requires.8),
  omega (arith, c.requires.3),
  c.requires.10,
)

pub shape_of-ends : goal.shape_of-ends
shape_of-ends c = c.fill_ends.auto.ends

pub shape_of-edge_first : goal.shape_of-edge_first
shape_of-edge_first c = c.fill.auto.first

pub shape_of-edge_past : goal.shape_of-edge_past
shape_of-edge_past c = c.fill.auto.past

pub shape_of-mut_first : goal.shape_of-mut_first
shape_of-mut_first c = c.fill-2.auto.first

pub shape_of-mut_past : goal.shape_of-mut_past
shape_of-mut_past c = c.fill-2.auto.past

pub returns : goal.returns
returns c = prepared c.requires.0 c.requires.1.there c.fill_ends.ensures c.fill.ensures c.fill-2.ensures
    (c.fill_ends.auto.ends ∙ c.requires.4) (c.fill.auto.first ∙ c.requires.5) (c.fill.auto.past ∙ c.requires.6)
    (c.fill-2.auto.first ∙ c.requires.7) (c.fill-2.auto.past ∙ c.requires.8) c.requires.2
