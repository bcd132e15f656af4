-- `cleaner::clean` meets its contract: the check's refusal, or the cleaning of sound tables.
use Rattle.std.proofs.Common.{ap, ◌∙◌}
use Rattle.laws.specs.Passing.{passed_on}
use Rattle.meaning.specs.Lent.{Tabled}
use Rattle.meaning.specs.Rows.{node_table, edge_table, site_table, mutation_table, tables}
use Rattle.meaning.specs.Clean.{outcome_of}
use Prim.Native.Nat.{ℕ}
use lib.ListN.{length-replicate}
use Rattle.cleaner.proofs.Calling.{grounded, shaped, call_refused, call_done}
use native.Mathlib.Omega.{arith}
use Rattle.cleaner.proofs.clean.Goals as goal

pub check_all_lent-requires : goal.check_all_lent-requires
check_all_lent-requires c = (length-replicate {A = ℕ} 4096 0, length-replicate {A = ℕ} 1024 0)

pub invariant_of-even : goal.invariant_of-even
invariant_of-even c = record { even = record { birth_long = (shaped _ _ _ _ c.check_all_lent.ensures.0 c.in_ok-check_all_lent.was).births } }

pub invariant_of-even-2 : goal.invariant_of-even-2
invariant_of-even-2 c = let s : _ = shaped _ _ _ _ c.check_all_lent.ensures.0 c.in_ok-check_all_lent.was in record { even = record { right_long = s.rights; parent_long = s.parents; child_long = s.children } }

pub invariant_of-even-3 : goal.invariant_of-even-3
invariant_of-even-3 c = record { even = record { ancestral_long = (shaped _ _ _ _ c.check_all_lent.ensures.0 c.in_ok-check_all_lent.was).states } }

pub invariant_of-even-4 : goal.invariant_of-even-4
invariant_of-even-4 c = let s : _ = shaped _ _ _ _ c.check_all_lent.ensures.0 c.in_ok-check_all_lent.was in record { even = record { node_long = s.mutated; derived_long = s.derived } }

pub clean_sound-requires : goal.clean_sound-requires
clean_sound-requires c = (grounded _ _ _ _ c.check_all_lent.ensures.0 c.in_ok-check_all_lent.was (λ i l. omega (arith, c.type_inv.time i)), c.check_all_lent.ensures.1.births c.in_ok-check_all_lent.was, c.check_all_lent.auto.by_child ∙ length-replicate {A = ℕ} 4096 0)

pub returns-in_err-check_all_lent : goal.returns-in_err-check_all_lent
returns-in_err-check_all_lent c =
    let out : _ = (tables (node_table c.args.out_time.now c.args.out_birth.now c.args.out_population.now) (edge_table c.args.out_left.now c.args.out_right.now c.args.out_parent.now c.args.out_child.now) (site_table c.args.out_position.now c.args.out_ancestral.now) (mutation_table c.args.out_site.now c.args.out_node.now c.args.out_derived.now)) in
    ap (λ (a : Tabled). outcome_of a out c.args.out_map.now) (passed_on c.from_residual.ensures.1) ∙ call_refused _ _ _ _ c.check_all_lent.ensures.0 out c.args.out_map.now c.args.cells _ c.in_err-check_all_lent.was

pub returns : goal.returns
returns c = call_done _ _ _ _ c.check_all_lent.ensures.0 _ _ _ c.in_ok-check_all_lent.was _ c.clean_sound.ensures
