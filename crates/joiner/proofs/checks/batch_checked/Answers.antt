-- `batch_checked` meets its contract: 20 and 21, then 22 to 26, which leave the order in the front of the lent column.
use mathlib.Core.Path.{sym, ap, ◌∙◌}
use lib.ListN.{length}
use Rattle.laws.specs.Passing.{passed_on}
use Rattle.meaning.specs.Answer.{checked_of}
use Rattle.meaning.specs.Columns.{lent_in, batch_in}
use Rattle.joiner.proofs.Groups.{lengths_stop, lengths_go_on, batch_asked, batch_even, batch_births}
use Rattle.checker.proofs.Handing.{front_fits, front_long, front_ranked}
use Rattle.joiner.proofs.Orders.{refusal_unordered, ranked_ordered}
use Rattle.joiner.proofs.checks.batch_checked.Goals as goal

pub slice_bounds-rules_checked-end : goal.slice_bounds-rules_checked-end
slice_bounds-rules_checked-end c = front_fits 1024 (length c.args.batch.birth.now) c.args.by_birth.now (batch_births (lent_in c.args.base) (batch_in c.args.batch) _ c.lengths_checked.ensures c.in_ok-lengths_checked.was) c.requires.2

pub slice_bounds-rules_checked-end-2 : goal.slice_bounds-rules_checked-end-2
slice_bounds-rules_checked-end-2 c = sym (front_long 1024 (length c.args.batch.birth.now) c.args.by_birth.now (batch_births (lent_in c.args.base) (batch_in c.args.batch) _ c.lengths_checked.ensures c.in_ok-lengths_checked.was) c.requires.2)

pub invariant_of-even : goal.invariant_of-even
invariant_of-even c = record { even = record { birth_long = (batch_even (lent_in c.args.base) (batch_in c.args.batch) _ c.lengths_checked.ensures c.in_ok-lengths_checked.was).births } }

pub invariant_of-even-2 : goal.invariant_of-even-2
invariant_of-even-2 c = record { even = (batch_even (lent_in c.args.base) (batch_in c.args.batch) _ c.lengths_checked.ensures c.in_ok-lengths_checked.was).edges }

pub invariant_of-even-3 : goal.invariant_of-even-3
invariant_of-even-3 c = record { even = (batch_even (lent_in c.args.base) (batch_in c.args.batch) _ c.lengths_checked.ensures c.in_ok-lengths_checked.was).mutated }

pub rules_checked-requires : goal.rules_checked-requires
rules_checked-requires c = (
  batch_asked (lent_in c.args.base) (batch_in c.args.batch) _ c.lengths_checked.ensures c.in_ok-lengths_checked.was c.requires.0,
  front_long 1024 (length c.args.batch.birth.now) c.args.by_birth.now (batch_births (lent_in c.args.base) (batch_in c.args.batch) _ c.lengths_checked.ensures c.in_ok-lengths_checked.was) c.requires.2,
)

pub returns-in_err-lengths_checked : goal.returns-in_err-lengths_checked
returns-in_err-lengths_checked c = let q : _ = passed_on c.from_residual.ensures.1 in
    (ap checked_of (q ∙ sym c.in_err-lengths_checked.was) ∙ lengths_stop (lent_in c.args.base) (batch_in c.args.batch) _ c.lengths_checked.ensures _ c.in_err-lengths_checked.was _, refusal_unordered _ _ _ _ q)

pub returns : goal.returns
returns c = (lengths_go_on (lent_in c.args.base) (batch_in c.args.batch) _ c.lengths_checked.ensures c.in_ok-lengths_checked.was c.rules_checked.result _ c.rules_checked.ensures.0, ranked_ordered _ _ _ (front_ranked _ _ _ c.rules_checked.ensures.1))
