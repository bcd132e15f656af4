-- `words::number_edges` meets its contract: each turn writes one row more.
use native.Mathlib.Omega.{arith}
use Rattle.words.specs.Columns.{next_column}
use Rattle.words.proofs.Giving.{edges_start, edges_on, edges_all}
use borrow.Author.Rules.{rules}
use Rattle.words.proofs.number_edges.Goals as goal

pub overflow_mul-a : goal.overflow_mul-a
overflow_mul-a c = let h : _ = next_column c.args.k 6 c.args.m c.requires.0 in search rules

pub overflow_mul-a-2 : goal.overflow_mul-a-2
overflow_mul-a-2 c = let h : _ = next_column c.args.k 6 c.args.m c.requires.0 in search rules

pub overflow_add-a : goal.overflow_add-a
overflow_add-a c = let h : _ = next_column c.args.k 6 c.args.m c.requires.0 in search rules

pub loop-e-init : goal.loop-e-init
loop-e-init c = edges_start (λ e. e) _ _ _ _ c.requires.0 c.requires.1

pub overflow_cast-words : goal.overflow_cast-words
overflow_cast-words c = let h : _ = next_column c.args.k 6 c.args.m c.requires.0 in let l : _ = c.loop-e.invariant.aside.long in let t : _ = c.loop-e-test.true in search rules

pub overflow_add-words : goal.overflow_add-words
overflow_add-words c = let h : _ = next_column c.args.k 6 c.args.m c.requires.0 in let l : _ = c.loop-e.invariant.aside.long in let t : _ = c.loop-e-test.true in search rules

pub offset_bounds-words-a : goal.offset_bounds-words-a
offset_bounds-words-a c = let h : _ = next_column c.args.k 6 c.args.m c.requires.0 in let l : _ = c.loop-e.invariant.aside.long in let t : _ = c.loop-e-test.true in search rules

pub bounds-words-a : goal.bounds-words-a
bounds-words-a c = let h : _ = next_column c.args.k 6 c.args.m c.requires.0 in let l : _ = c.loop-e.invariant.aside.long in let t : _ = c.loop-e-test.true in search rules

pub loop-e-preserved : goal.loop-e-preserved
loop-e-preserved c = edges_on (λ e. e) _ _ _ _ c.requires.0 c.requires.1 _ _ c.loop-e.invariant c.loop-e-test.true

pub returns : goal.returns
returns c = let g : _ = c.loop-e.invariant in (edges_all (λ e. e) _ _ _ _ c.requires.0 c.requires.1 _ _ g (omega (arith, g.few, c.loop-e-test.false)), g.aside)
