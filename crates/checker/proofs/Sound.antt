-- What a check whose answer is 0 has found: no row is broken.
use mathlib.Core.Path.{◌≡◌, refl, sym, ◌∙◌}
use mathlib.Core.Bool.{true, false, not}
use mathlib.Core.List.{List, [], ◌∷◌}
use Prim.Native.Nat.{ℕ, ◌≤◌}
use lib.Dec.{eqb, ltb}
use lib.ListN.{length}
use borrow.Author.Tests.{eqb-true, ltb-false}
use Rattle.meaning.specs.Words.{at}
use Rattle.meaning.specs.Rows.{NodeColumns, EdgeColumns, Tables, edges_of}
use Rattle.meaning.specs.Answer.{Answer, Limits, ragged, accepted}
use Rattle.meaning.specs.Check.{repeated, edge_broken, edge_unordered, edge_shared, site_broken, mutation_broken, mutation_above, sample_unknown, length_broken, shapes, sizes, tree_rules, site_rules, rules, check_then, sample_rules, check_all_then}
use Rattle.laws.specs.Bools.{or_no, not_no}
use Rattle.rules.proofs.ByLengths.{ragged_two, ragged_three, ragged_four}
use Rattle.checker.specs.Found.{Shaped, Sized, TreeSound, SitesSound, TablesSound, SamplesSound}
use Rattle.checker.proofs.Order.{refuse_done, rows_done}

-- a column that is not unlike another is as long
alike : (a b : ℕ) → not (eqb a b) ≡ false → a ≡ b
alike a b h = eqb-true a b (not_no (eqb a b) h)

-- the accepted rest is handed on, so that groups follow each other
pub shapes_sound : (T : Tables) (rest : Answer) → accepted (shapes T rest) ≡ true → Shaped T × (accepted rest ≡ true)
unfolding shapes
shapes_sound T rest h =
    let n : _ = T.nodes in
    let e : _ = T.edges in
    let s : _ = T.sites in
    let u : _ = T.muts in
    let one : _ = refuse_done (ragged (n.time ∷ n.birth ∷ n.population ∷ [])) 1 1 _ refl h in
    let two : _ = refuse_done (ragged (e.left ∷ e.right ∷ e.parent ∷ e.child ∷ [])) 1 2 _ refl one.1 in
    let three : _ = refuse_done (ragged (s.position ∷ s.ancestral ∷ [])) 1 3 _ refl two.1 in
    let four : _ = refuse_done (ragged (u.site ∷ u.node ∷ u.derived ∷ [])) 1 4 rest refl three.1 in
    let edges : _ = or_no _ _ (sym (ragged_four e.left e.right e.parent e.child) ∙ two.0) in
    let ends : _ = or_no _ _ edges.1 in
    let muts : _ = or_no _ _ (sym (ragged_three u.site u.node u.derived) ∙ four.0) in (
      record {
        birth_long = alike _ _ (or_no _ _ (sym (ragged_three n.time n.birth n.population) ∙ one.0)).0;
        edges = record { right_long = alike _ _ edges.0; parent_long = alike _ _ ends.0; child_long = alike _ _ ends.1 };
        ancestral_long = alike _ _ (sym (ragged_two s.position s.ancestral) ∙ three.0);
        node_long = alike _ _ muts.0;
        derived_long = alike _ _ muts.1;
      },
      four.1,
    )

pub sizes_sound : (m : Limits) (T : Tables) (rest : Answer) → accepted (sizes m T rest) ≡ true → Sized m T × (accepted rest ≡ true)
unfolding sizes
sizes_sound m T rest h =
    let one : _ = refuse_done (ltb m.nodes (length T.nodes.time)) 2 1 _ refl h in
    let two : _ = refuse_done (ltb m.edges (length T.edges.left)) 2 2 _ refl one.1 in
    let three : _ = refuse_done (ltb m.sites (length T.sites.position)) 2 3 _ refl two.1 in
    let four : _ = refuse_done (ltb m.mutations (length T.muts.site)) 2 4 rest refl three.1 in
    (record { nodes = ltb-false _ _ one.0; edges = ltb-false _ _ two.0; sites = ltb-false _ _ three.0; mutations = ltb-false _ _ four.0 }, four.1)

pub tree_sound : (L : ℕ) (N : NodeColumns) (E : EdgeColumns) (rest : Answer) → accepted (tree_rules L N E rest) ≡ true → TreeSound L N E × (accepted rest ≡ true)
unfolding tree_rules
tree_sound L N E rest h =
    let four : _ = rows_done (repeated N.birth) 4 (length N.birth) _ refl h in
    let five : _ = rows_done (edge_broken L N.time E) 5 (length E.left) _ refl four.1 in
    let six : _ = rows_done (edge_unordered N E) 6 (length E.left) _ refl five.1 in
    let seven : _ = rows_done (edge_shared E) 7 (length E.left) rest refl six.1 in
    (record { once = four.0; whole = five.0; ordered = six.0; apart = seven.0 }, seven.1)

pub sites_sound : (L : ℕ) (T : Tables) (rest : Answer) → accepted (site_rules L T rest) ≡ true → SitesSound L T × (accepted rest ≡ true)
unfolding site_rules
sites_sound L T rest h =
    let p : _ = T.sites.position in
    let eight : _ = rows_done (site_broken L p) 8 (length p) _ refl h in
    let nine : _ = rows_done (mutation_broken (length p) (length T.nodes.time) T.muts) 9 (length T.muts.site) _ refl eight.1 in
    let ten : _ = rows_done (mutation_above (edges_of (at T.nodes.birth) T.edges) p (at T.nodes.birth) T.muts) 10 (length T.muts.site) rest refl nine.1 in
    (record { placed = eight.0; whole = nine.0; lowest_first = ten.0 }, ten.1)

pub samples_sound : (birth S : List ℕ) (rest : Answer) → accepted (sample_rules birth S rest) ≡ true → SamplesSound birth S × (accepted rest ≡ true)
unfolding sample_rules
samples_sound birth S rest h =
    let eleven : _ = rows_done (sample_unknown birth S) 11 (length S) _ refl h in
    let twelve : _ = rows_done (repeated S) 12 (length S) rest refl eleven.1 in
    (record { known = eleven.0; once = twelve.0 }, twelve.1)

pub rules_sound : (L : ℕ) (T : Tables) (rest : Answer) → accepted (rules L T rest) ≡ true → (length_broken L ≡ false) × TreeSound L T.nodes T.edges × SitesSound L T × (accepted rest ≡ true)
unfolding rules
rules_sound L T rest h =
    let three : _ = refuse_done (length_broken L) 3 0 _ refl h in
    let tree : _ = tree_sound L T.nodes T.edges _ three.1 in
    let sites : _ = sites_sound L T rest tree.1 in
    (three.0, tree.0, sites.0, sites.1)

-- 1 to 10, and what comes after them
pub tables_sound : (m : Limits) (L : ℕ) (T : Tables) (rest : Answer) → accepted (check_then m L T rest) ≡ true → TablesSound m L T × (accepted rest ≡ true)
unfolding check_then
tables_sound m L T rest h =
    let one : _ = shapes_sound T _ h in
    let two : _ = sizes_sound m T _ one.1 in
    let r : _ = rules_sound L T rest two.1 in
    (record { shaped = one.0; sized = two.0; long = r.0; tree = r.1; sites = r.2 }, r.3)

-- 1 to 12, and what comes after them
pub all_sound : (m : Limits) (L : ℕ) (T : Tables) (S : List ℕ) (rest : Answer) → accepted (check_all_then m L T S rest) ≡ true → TablesSound m L T × (length S ≤ m.samples) × SamplesSound T.nodes.birth S × (accepted rest ≡ true)
unfolding check_all_then
all_sound m L T S rest h =
    let one : _ = shapes_sound T _ h in
    let two : _ = sizes_sound m T _ one.1 in
    let five : _ = refuse_done (ltb m.samples (length S)) 2 5 _ refl two.1 in
    let r : _ = rules_sound L T _ five.1 in
    let s : _ = samples_sound T.nodes.birth S rest r.3 in
    (record { shaped = one.0; sized = two.0; long = r.0; tree = r.1; sites = r.2 }, ltb-false _ _ five.0, s.0, s.1)
