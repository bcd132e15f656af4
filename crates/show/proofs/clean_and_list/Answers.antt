-- `show::clean_and_list` meets its contract: the cleaning's line or its listing, whose rows keep to the limits. Assumes nothing.
use mathlib.Core.Path.{◌≡◌, sym, ap, ◌∙◌}
use mathlib.Core.List.{List}
use Prim.Native.Nat.{ℕ}
use lib.ListN.{length}
use Rattle.meaning.specs.Words.{zeros}
use Rattle.meaning.specs.Columns.{lent_in}
use Rattle.meaning.specs.Rows.{Tables}
use Rattle.meaning.specs.Forest.{stands}
use Rattle.meaning.specs.Answer.{done, limits, stored_limits}
use Rattle.meaning.specs.Lent.{Counts, no_rows_written}
use Rattle.meaning.specs.Clean.{outcome_of, cleaning}
use Rattle.meaning.specs.Lent.{Tabled}
use Rattle.meaning.specs.Shown.{blank}
use Rattle.show.proofs.Printing.{printed_as, clean_listed, clean_refused}
use Rattle.show.proofs.Keeping.{Listable, clean_listable, listing_room}
use native.Mathlib.Omega.{arith}
use Rattle.show.proofs.clean_and_list.Goals as goal

pub list_rows-requires : goal.list_rows-requires
unfolding blank zeros
list_rows-requires c = let L : ℕ = c.args.len in
    let T : Tables = lent_in c.args.lent in
    let S : List ℕ = c.args.samples.now in
    let cells : Tables = record { nodes = record { time = c.clean-answer.new.out_time; birth = c.clean-answer.new.out_birth; population = c.clean-answer.new.out_population }; edges = record { left = c.clean-answer.new.out_left; right = c.clean-answer.new.out_right; parent = c.clean-answer.new.out_parent; child = c.clean-answer.new.out_child }; sites = record { position = c.clean-answer.new.out_position; ancestral = c.clean-answer.new.out_ancestral }; muts = record { site = c.clean-answer.new.out_site; node = c.clean-answer.new.out_node; derived = c.clean-answer.new.out_derived } } in
    let nodemap : List ℕ = c.clean-answer.new.out_map in
    let n : Counts = record { nodes = c.in-Ok.rows.nodes; edges = c.in-Ok.rows.edges; sites = c.in-Ok.rows.sites; mutations = c.in-Ok.rows.mutations } in
    let e : record { answer = done; counts = n; cells = cells; map = nodemap } ≡ cleaning stands limits L T S blank (zeros stored_limits.nodes) 4 = ap (λ (a : Tabled). outcome_of a cells nodemap) (sym c.in-Ok.is) ∙ c.clean-answer.ensures in
    let f : Listable n cells (length T.nodes.birth) nodemap = clean_listable L T S blank (zeros stored_limits.nodes) n cells nodemap e in
    (f.long, f.rows_long, listing_room n (length T.nodes.birth) (length c.args.out.now) f.few f.rows_few c.requires)

pub refused-requires : goal.refused-requires
refused-requires c = omega (arith, c.requires)

pub returns-in-Ok : goal.returns-in-Ok
unfolding blank zeros
returns-in-Ok c = let L : ℕ = c.args.len in
    let T : Tables = lent_in c.args.lent in
    let S : List ℕ = c.args.samples.now in
    let cells : Tables = record { nodes = record { time = c.clean-answer.new.out_time; birth = c.clean-answer.new.out_birth; population = c.clean-answer.new.out_population }; edges = record { left = c.clean-answer.new.out_left; right = c.clean-answer.new.out_right; parent = c.clean-answer.new.out_parent; child = c.clean-answer.new.out_child }; sites = record { position = c.clean-answer.new.out_position; ancestral = c.clean-answer.new.out_ancestral }; muts = record { site = c.clean-answer.new.out_site; node = c.clean-answer.new.out_node; derived = c.clean-answer.new.out_derived } } in
    let nodemap : List ℕ = c.clean-answer.new.out_map in
    let n : Counts = record { nodes = c.in-Ok.rows.nodes; edges = c.in-Ok.rows.edges; sites = c.in-Ok.rows.sites; mutations = c.in-Ok.rows.mutations } in
    printed_as (clean_listed L T S n cells nodemap (ap (λ (a : Tabled). outcome_of a cells nodemap) (sym c.in-Ok.is) ∙ c.clean-answer.ensures)) c.list_rows.ensures

pub returns-in-Err : goal.returns-in-Err
unfolding blank zeros
returns-in-Err c = let L : ℕ = c.args.len in
    let T : Tables = lent_in c.args.lent in
    let S : List ℕ = c.args.samples.now in
    let cells : Tables = record { nodes = record { time = c.clean-answer.new.out_time; birth = c.clean-answer.new.out_birth; population = c.clean-answer.new.out_population }; edges = record { left = c.clean-answer.new.out_left; right = c.clean-answer.new.out_right; parent = c.clean-answer.new.out_parent; child = c.clean-answer.new.out_child }; sites = record { position = c.clean-answer.new.out_position; ancestral = c.clean-answer.new.out_ancestral }; muts = record { site = c.clean-answer.new.out_site; node = c.clean-answer.new.out_node; derived = c.clean-answer.new.out_derived } } in
    let nodemap : List ℕ = c.clean-answer.new.out_map in
    printed_as (clean_refused L T S no_rows_written cells nodemap c.in-Err.x (ap (λ (a : Tabled). outcome_of a cells nodemap) (sym c.in-Err.is) ∙ c.clean-answer.ensures)) c.refused.ensures
