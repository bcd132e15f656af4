-- `words::fill` meets its contract: each turn writes one row more.
use native.Mathlib.Omega.{arith}
use borrow.Author.Rules.{rules}
use Rattle.words.specs.Columns.{next_column}
use Rattle.words.proofs.Giving.{given_on, given_all}
use Rattle.words.proofs.fill.Goals as goal

pub overflow_mul-a : goal.overflow_mul-a
overflow_mul-a c = let h : _ = next_column c.args.k 16 c.args.n c.requires.0 in search rules

pub overflow_add-words : goal.overflow_add-words
overflow_add-words c = let h : _ = next_column c.args.k 16 c.args.n c.requires.0 in let l : _ = c.loop-i.invariant.only.long in search rules

pub offset_bounds-words-a : goal.offset_bounds-words-a
offset_bounds-words-a c = let h : _ = next_column c.args.k 16 c.args.n c.requires.0 in let l : _ = c.loop-i.invariant.only.long in search rules

pub bounds-words-a : goal.bounds-words-a
bounds-words-a c = let h : _ = next_column c.args.k 16 c.args.n c.requires.0 in let l : _ = c.loop-i.invariant.only.long in search rules

pub loop-i-preserved : goal.loop-i-preserved
loop-i-preserved c = given_on (λ u. c.args.v) _ _ _ c.requires.0 c.requires.1 _ _ c.loop-i.invariant c.loop-i-test.true

pub returns : goal.returns
returns c = let g : _ = c.loop-i.invariant in (given_all (λ u. c.args.v) _ _ _ c.requires.0 c.requires.1 _ _ g (omega (arith, g.few, c.loop-i-test.false)), g.only)
