-- `alleles::climb::up` meets its contract. The measure is the number of rows older than u.
use native.Mathlib.Omega.{arith}
use Rattle.alleles.proofs.Climbing.{lt_eq, climb_here, climb_top, climb_from, climb_next, climb_on}
use Rattle.alleles.proofs.climb.+up.Goals as goal

pub bounds-has-u : goal.bounds-has-u
bounds-has-u t c = omega (arith, c.requires.0.row, c.requires.0.long)

pub returns-then-has-u-eq1 : goal.returns-then-has-u-eq1
returns-then-has-u-eq1 t c = climb_here c.requires.0 _ _ c.requires.1 c.if-has-u-eq1.true

pub parent_from-s-requires : goal.parent_from-s-requires
parent_from-s-requires t c = omega (arith, c.requires.0.row, c.requires.0.ends_long)

pub returns-then-p : goal.returns-then-p
returns-then-p t c = climb_top c.requires.0 _ _ c.requires.1 c.if-has-u-eq1.false c.parent_from-s.result c.parent_from-s.ensures _ c.min-end.ensures c.if-p.true

pub returns-then-calls_left-eq0 : goal.returns-then-calls_left-eq0
returns-then-calls_left-eq0 t c = climb_from c.requires.0 _ _ c.requires.1 c.if-has-u-eq1.false c.parent_from-s.result c.parent_from-s.ensures _ c.min-end.ensures c.if-p.false

pub up-requires : goal.up-requires
up-requires t c = (lt_eq (climb_from c.requires.0 _ _ c.requires.1 c.if-has-u-eq1.false c.parent_from-s.result c.parent_from-s.ensures _ c.min-end.ensures c.if-p.false).fewer c.decreases, climb_next c.requires.0 _ _ c.requires.1 c.if-has-u-eq1.false c.parent_from-s.result c.parent_from-s.ensures _ c.min-end.ensures c.if-p.false)

pub returns : goal.returns
returns t c = climb_on c.requires.0 _ _ c.requires.1 c.if-has-u-eq1.false c.parent_from-s.result c.parent_from-s.ensures _ c.min-end.ensures c.if-p.false c.up.result c.up.ensures
