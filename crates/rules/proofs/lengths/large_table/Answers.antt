-- `large_table` meets its contract: each way out is one table.
use borrow.Author.Tests.{lt-ltb, le-ltb}
use Rattle.rules.specs.Lengths.{large_table, table_of}
use Rattle.rules.proofs.lengths.large_table.Goals as goal

pub returns-then-rows-gt-MOST : goal.returns-then-rows-gt-MOST
unfolding large_table table_of
returns-then-rows-gt-MOST c = simp (lt-ltb _ _ c.if-rows-gt-MOST.true)

pub returns-then-rows-gt-MOST-2 : goal.returns-then-rows-gt-MOST-2
unfolding large_table table_of
returns-then-rows-gt-MOST-2 c = simp (le-ltb _ _ c.if-rows-gt-MOST.false, lt-ltb _ _ c.if-rows-gt-MOST-2.true)

pub returns-then-rows-gt-MOST-3 : goal.returns-then-rows-gt-MOST-3
unfolding large_table table_of
returns-then-rows-gt-MOST-3 c = simp (le-ltb _ _ c.if-rows-gt-MOST.false, le-ltb _ _ c.if-rows-gt-MOST-2.false, lt-ltb _ _ c.if-rows-gt-MOST-3.true)

pub returns-then-rows-gt-MOST-4 : goal.returns-then-rows-gt-MOST-4
unfolding large_table table_of
returns-then-rows-gt-MOST-4 c = simp (le-ltb _ _ c.if-rows-gt-MOST.false, le-ltb _ _ c.if-rows-gt-MOST-2.false, le-ltb _ _ c.if-rows-gt-MOST-3.false, lt-ltb _ _ c.if-rows-gt-MOST-4.true)

pub returns : goal.returns
unfolding large_table table_of
returns c = simp (le-ltb _ _ c.if-rows-gt-MOST.false, le-ltb _ _ c.if-rows-gt-MOST-2.false, le-ltb _ _ c.if-rows-gt-MOST-3.false, le-ltb _ _ c.if-rows-gt-MOST-4.false)
