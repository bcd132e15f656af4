-- `joiner::join` meets its contract: the checks' refusal, or the joining of what they pass, with the orders that they leave in two columns on the stack.
use mathlib.Core.Path.{sym}
use Rattle.laws.specs.Passing.{passed_on}
use Prim.Native.Nat.{ℕ}
use lib.ListN.{replicate, length-replicate}
use Rattle.joiner.proofs.Entry.{joinable, call_refused, call_done}
use Rattle.joiner.proofs.Orders.{base_few, batch_few, still_room}
use Rattle.joiner.proofs.join.Goals as goal

pub slice_bounds-check_join-end : goal.slice_bounds-check_join-end
slice_bounds-check_join-end c = sym (length-replicate {A = ℕ} 1024 0)

pub slice_bounds-check_join-end-2 : goal.slice_bounds-check_join-end-2
slice_bounds-check_join-end-2 c = sym (length-replicate {A = ℕ} 1024 0)

pub check_join-requires : goal.check_join-requires
check_join-requires c = (length-replicate {A = ℕ} 1024 0, length-replicate {A = ℕ} 1024 0)

pub slice_bounds-base_by_birth-end : goal.slice_bounds-base_by_birth-end
slice_bounds-base_by_birth-end c = still_room _ (replicate 1024 0) c.check_join.new.base_by_birth (base_few _ _ _ (joinable _ _ _ c.check_join.result c.check_join.ensures.0 c.in_ok-check_join.was)) (length-replicate {A = ℕ} 1024 0) c.check_join.auto.base_by_birth

pub slice_bounds-store-end : goal.slice_bounds-store-end
slice_bounds-store-end c = sym (c.check_join.ensures.1.births c.in_ok-check_join.was).long

pub slice_bounds-by_birth-end : goal.slice_bounds-by_birth-end
slice_bounds-by_birth-end c = still_room _ (replicate 1024 0) c.check_join.new.by_birth (batch_few _ _ _ (joinable _ _ _ c.check_join.result c.check_join.ensures.0 c.in_ok-check_join.was)) (length-replicate {A = ℕ} 1024 0) c.check_join.auto.by_birth

pub slice_bounds-store-end-2 : goal.slice_bounds-store-end-2
slice_bounds-store-end-2 c = sym (c.check_join.ensures.2.births c.in_ok-check_join.was).long

pub store-requires : goal.store-requires
store-requires c = (joinable _ _ _ c.check_join.result c.check_join.ensures.0 c.in_ok-check_join.was, c.check_join.ensures.1.births c.in_ok-check_join.was, c.check_join.ensures.2.births c.in_ok-check_join.was)

pub returns-in_err-check_join : goal.returns-in_err-check_join
returns-in_err-check_join c = call_refused _ _ _ _ c.check_join.ensures.0 _ _ _ c.in_err-check_join.was _ (passed_on c.from_residual.ensures.1)

pub returns : goal.returns
returns c = call_done _ _ _ _ c.check_join.ensures.0 _ _ c.in_ok-check_join.was _ c.store.ensures
