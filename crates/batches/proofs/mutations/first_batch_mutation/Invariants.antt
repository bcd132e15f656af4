-- `first_batch_mutation` meets its contract: no mutation before the one looked at is broken.
use mathlib.Core.List.{List}
use Prim.Native.Nat.{ℕ}
use Rattle.meaning.specs.Rows.{mutation_table}
use Rattle.meaning.specs.Join.{batch_mutation}
use lib.ListN.{length}
use Rattle.laws.specs.Counting.{Sought}
use Rattle.batches.proofs.mutations.first_batch_mutation.Given as goal

abbrev pub invariant-loop-i : goal.invariant-loop-i
invariant-loop-i l = (derived : List ℕ) → Sought (batch_mutation l.sites l.birth (mutation_table l.site l.node derived)) (length l.site) l.i
