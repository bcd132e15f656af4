-- `cleaner::sound::clean_sound` meets its contract: the first sweep in working columns, then 13 before anything is written, or one table after the other.
use Rattle.laws.specs.Passing.{passed_on}
use Rattle.accepted.specs.Numbers.{refusal_refuses}
use Rattle.meaning.specs.Answer.{checked_of}
use Rattle.meaning.specs.Lent.{Tabled}
use Rattle.meaning.specs.Clean.{outcome_of}
use Rattle.meaning.specs.Rows.{node_table, edge_table, site_table, mutation_table, tables}
use mathlib.Core.Path.{refl, sym, ◌∙◌, ap}
use Prim.Native.Nat.{ℕ}
use lib.ListN.{length-replicate}
use Rattle.cleaner.proofs.Storing.{nodes_ready, map_room, refused_after, done_after, room_left, lists_room}
use Rattle.cleaner.proofs.sound.clean_sound.Goals as goal

pub work-z-requires : goal.work-z-requires
work-z-requires c = (record { population = _; ancestral = _; derived = _; footing = c.requires.0 }, (length-replicate {A = ℕ} 1280 0, length-replicate {A = ℕ} 1024 0, length-replicate {A = ℕ} 1024 0, c.requires.2, length-replicate {A = ℕ} 4096 0, refl, refl, refl, length-replicate {A = ℕ} 1024 0, refl), c.requires.1)

pub returns-in_err-check_room_and_block : goal.returns-in_err-check_room_and_block
returns-in_err-check_room_and_block c =
    let out : _ = (tables (node_table c.args.out_time.now c.args.out_birth.now c.args.out_population.now) (edge_table c.args.out_left.now c.args.out_right.now c.args.out_parent.now c.args.out_child.now) (site_table c.args.out_position.now c.args.out_ancestral.now) (mutation_table c.args.out_site.now c.args.out_node.now c.args.out_derived.now)) in
    ap (λ (a : Tabled). outcome_of a out c.args.out_map.now) (passed_on c.from_residual.ensures.1)
    ∙ refused_after (c.work-z.ensures _ c.requires.0) out c.args.out_map.now c.args.cells _ (refusal_refuses _) (ap checked_of (sym c.in_err-check_room_and_block.was) ∙ c.check_room_and_block.ensures)

pub invariant_of-first : goal.invariant_of-first
invariant_of-first c = record { even = record { right_long = c.work-z.auto.fr ∙ sym c.work-z.auto.fl; parent_long = c.work-z.auto.fp ∙ sym c.work-z.auto.fl; child_long = c.work-z.auto.fc ∙ sym c.work-z.auto.fl } }

pub invariant_of-first-2 : goal.invariant_of-first-2
invariant_of-first-2 c = record { even = c.work-z.auto.mlow ∙ sym c.work-z.auto.mrow }

pub write_nodes-requires : goal.write_nodes-requires
write_nodes-requires c = nodes_ready (c.work-z.ensures _ c.requires.0) refl (room_left _ _ _ (ap checked_of (sym c.in_ok-check_room_and_block.was) ∙ c.check_room_and_block.ensures))

pub write_sites-requires : goal.write_sites-requires
write_sites-requires c = ((room_left _ _ _ (ap checked_of (sym c.in_ok-check_room_and_block.was) ∙ c.check_room_and_block.ensures)).position, (room_left _ _ _ (ap checked_of (sym c.in_ok-check_room_and_block.was) ∙ c.check_room_and_block.ensures)).ancestral)

pub write_lists-requires : goal.write_lists-requires
write_lists-requires c = (c.work-z.ensures _ c.requires.0, c.requires.1, lists_room (room_left _ _ _ (ap checked_of (sym c.in_ok-check_room_and_block.was) ∙ c.check_room_and_block.ensures)) refl refl refl refl refl refl refl)

pub copy-requires : goal.copy-requires
copy-requires c = (map_room (c.work-z.ensures _ c.requires.0), (room_left _ _ _ (ap checked_of (sym c.in_ok-check_room_and_block.was) ∙ c.check_room_and_block.ensures)).nodemap)

pub returns : goal.returns
returns c = done_after (c.work-z.ensures _ c.requires.0) _ _ _ (sym c.check_room_and_block.ensures ∙ ap checked_of c.in_ok-check_room_and_block.was) _ _ c.write_nodes.ensures.0 c.write_nodes.ensures.1 c.write_nodes.ensures.2 c.write_sites.ensures.0 c.write_sites.ensures.1 c.write_lists.ensures c.copy.ensures
