-- `ffr::clean::ffr_clean_v2` meets its contract: C is told what the call answers.
use mathlib.Core.Path.{refl}
use mathlib.Core.List.{List}
use Prim.Native.Nat.{ℕ}
use Rattle.meaning.specs.Rows.{Tables}
use Rattle.ffr.proofs.Cleaning.{tellable, call_told}
use Rattle.ffr.proofs.clean.ffr_clean_v2.Goals as goal

pub tell-requires : goal.tell-requires
tell-requires c = let cells : Tables = record { nodes = record { time = c.clean-answer.new.out_time; birth = c.clean-answer.new.out_birth; population = c.clean-answer.new.out_population }; edges = record { left = c.clean-answer.new.out_left; right = c.clean-answer.new.out_right; parent = c.clean-answer.new.out_parent; child = c.clean-answer.new.out_child }; sites = record { position = c.clean-answer.new.out_position; ancestral = c.clean-answer.new.out_ancestral }; muts = record { site = c.clean-answer.new.out_site; node = c.clean-answer.new.out_node; derived = c.clean-answer.new.out_derived } } in
    let nodemap : List ℕ = c.clean-answer.new.out_map in
    tellable _ _ _ _ _ c.args.block.now c.clean-answer.result cells nodemap c.clean-answer.ensures c.clean-answer.result refl

pub shape_of-out_time : goal.shape_of-out_time
shape_of-out_time c = c.clean-answer.auto.out_time

pub shape_of-out_birth : goal.shape_of-out_birth
shape_of-out_birth c = c.clean-answer.auto.out_birth

pub shape_of-out_population : goal.shape_of-out_population
shape_of-out_population c = c.clean-answer.auto.out_population

pub shape_of-out_left : goal.shape_of-out_left
shape_of-out_left c = c.clean-answer.auto.out_left

pub shape_of-out_right : goal.shape_of-out_right
shape_of-out_right c = c.clean-answer.auto.out_right

pub shape_of-out_parent : goal.shape_of-out_parent
shape_of-out_parent c = c.clean-answer.auto.out_parent

pub shape_of-out_child : goal.shape_of-out_child
shape_of-out_child c = c.clean-answer.auto.out_child

pub shape_of-out_position : goal.shape_of-out_position
shape_of-out_position c = c.clean-answer.auto.out_position

pub shape_of-out_ancestral : goal.shape_of-out_ancestral
shape_of-out_ancestral c = c.clean-answer.auto.out_ancestral

pub shape_of-out_site : goal.shape_of-out_site
shape_of-out_site c = c.clean-answer.auto.out_site

pub shape_of-out_node : goal.shape_of-out_node
shape_of-out_node c = c.clean-answer.auto.out_node

pub shape_of-out_derived : goal.shape_of-out_derived
shape_of-out_derived c = c.clean-answer.auto.out_derived

pub shape_of-out_map : goal.shape_of-out_map
shape_of-out_map c = c.clean-answer.auto.out_map

pub returns : goal.returns
returns c = let cells : Tables = record { nodes = record { time = c.clean-answer.new.out_time; birth = c.clean-answer.new.out_birth; population = c.clean-answer.new.out_population }; edges = record { left = c.clean-answer.new.out_left; right = c.clean-answer.new.out_right; parent = c.clean-answer.new.out_parent; child = c.clean-answer.new.out_child }; sites = record { position = c.clean-answer.new.out_position; ancestral = c.clean-answer.new.out_ancestral }; muts = record { site = c.clean-answer.new.out_site; node = c.clean-answer.new.out_node; derived = c.clean-answer.new.out_derived } } in
    let nodemap : List ℕ = c.clean-answer.new.out_map in
    call_told _ _ _ _ _ c.args.block.now c.clean-answer.result cells nodemap c.clean-answer.ensures c.clean-answer.result refl _ _ c.tell.ensures
