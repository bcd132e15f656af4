-- `alone::is_missing` meets its contract: a mark, a parent or a child keeps a row from being missing.
use native.Mathlib.Omega.{arith}
use Rattle.missing.proofs.Missing.{by_mutation, by_parent, by_child}
use Rattle.missing.proofs.is_missing.Goals as goal

pub returns-then-has-u-eq1 : goal.returns-then-has-u-eq1
returns-then-has-u-eq1 c = by_mutation c.requires 0 _ c.if-has-u-eq1.true

pub parent_from-s-requires : goal.parent_from-s-requires
parent_from-s-requires c = omega (arith, c.requires.row, c.requires.ends_long)

pub returns-then-p : goal.returns-then-p
returns-then-p c = by_parent c.requires _ _ c.parent_from-s.result c.parent_from-s.ensures c.if-p.true

pub returns : goal.returns
returns c = by_child c.requires _ _ c.parent_from-s.result c.parent_from-s.ensures c.if-has-u-eq1.false c.if-p.false _ c.has_child-below.ensures
