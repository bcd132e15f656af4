-- `even` meets its contract: each way out is one column that is longer or shorter than the first of its table.
use borrow.Author.Tests.{eq-eqb, ne_eqb}
use mathlib.Core.Path.{refl}
use native.Mathlib.Omega.{arith}
use Rattle.rules.specs.Lengths.{ragged_table}
use Rattle.rules.proofs.lengths.even.Goals.{then-lent-via-then-lent, then-lent-via-else-lent+then-lent-2, then-lent-3-via-then-lent-3, then-lent-3-via-else-lent-3+then-lent-4, then-lent-3-via-else-lent-3+else-lent-4+then-lent-5, then-lent-7-via-then-lent-7, then-lent-7-via-else-lent-7+then-lent-8}
use Rattle.rules.proofs.lengths.even.Goals as goal

pub returns-then-lent : goal.returns-then-lent
unfolding ragged_table
returns-then-lent c = elim c.then-lent.branch [
  | then-lent-via-then-lent w ↦ (simp (ne_eqb _ _ w.if-lent.true), λ e. omega arith)
  | then-lent-via-else-lent+then-lent-2 w ↦ (simp (eq-eqb _ _ w.if-lent.false, ne_eqb _ _ w.if-lent-2.true), λ e. omega arith)
]

pub returns-then-lent-3 : goal.returns-then-lent-3
unfolding ragged_table
returns-then-lent-3 c = elim c.then-lent-3.branch [
  | then-lent-3-via-then-lent-3 w ↦ (simp (eq-eqb _ _ c.if-lent.false, eq-eqb _ _ c.if-lent-2.false, ne_eqb _ _ w.if-lent-3.true), λ e. omega arith)
  | then-lent-3-via-else-lent-3+then-lent-4 w ↦ (simp (eq-eqb _ _ c.if-lent.false, eq-eqb _ _ c.if-lent-2.false, eq-eqb _ _ w.if-lent-3.false, ne_eqb _ _ w.if-lent-4.true), λ e. omega arith)
  | then-lent-3-via-else-lent-3+else-lent-4+then-lent-5 w ↦ (simp (eq-eqb _ _ c.if-lent.false, eq-eqb _ _ c.if-lent-2.false, eq-eqb _ _ w.if-lent-3.false, eq-eqb _ _ w.if-lent-4.false, ne_eqb _ _ w.if-lent-5.true), λ e. omega arith)
]

pub returns-then-lent-6 : goal.returns-then-lent-6
unfolding ragged_table
returns-then-lent-6 c = (simp (eq-eqb _ _ c.if-lent.false, eq-eqb _ _ c.if-lent-2.false, eq-eqb _ _ c.if-lent-3.false, eq-eqb _ _ c.if-lent-4.false, eq-eqb _ _ c.if-lent-5.false, ne_eqb _ _ c.if-lent-6.true), λ e. omega arith)

pub returns-then-lent-7 : goal.returns-then-lent-7
unfolding ragged_table
returns-then-lent-7 c = elim c.then-lent-7.branch [
  | then-lent-7-via-then-lent-7 w ↦ (simp (eq-eqb _ _ c.if-lent.false, eq-eqb _ _ c.if-lent-2.false, eq-eqb _ _ c.if-lent-3.false, eq-eqb _ _ c.if-lent-4.false, eq-eqb _ _ c.if-lent-5.false, eq-eqb _ _ c.if-lent-6.false, ne_eqb _ _ w.if-lent-7.true), λ e. omega arith)
  | then-lent-7-via-else-lent-7+then-lent-8 w ↦ (simp (eq-eqb _ _ c.if-lent.false, eq-eqb _ _ c.if-lent-2.false, eq-eqb _ _ c.if-lent-3.false, eq-eqb _ _ c.if-lent-4.false, eq-eqb _ _ c.if-lent-5.false, eq-eqb _ _ c.if-lent-6.false, eq-eqb _ _ w.if-lent-7.false, ne_eqb _ _ w.if-lent-8.true), λ e. omega arith)
]

pub returns : goal.returns
unfolding ragged_table
returns c = (simp (eq-eqb _ _ c.if-lent.false, eq-eqb _ _ c.if-lent-2.false, eq-eqb _ _ c.if-lent-3.false, eq-eqb _ _ c.if-lent-4.false, eq-eqb _ _ c.if-lent-5.false, eq-eqb _ _ c.if-lent-6.false, eq-eqb _ _ c.if-lent-7.false, eq-eqb _ _ c.if-lent-8.false), refl)
