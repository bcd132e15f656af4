-- Tables as the rules 3 to 12 see them: time and birth of each node, and no populations (M-106).
use Rattle.std.specs.Prelude.{◌≡◌, refl, Bool, ℕ, zero, suc, length}
use Rattle.std.proofs.Common.{ap}
use Rattle.meaning.specs.Rows.{NodeColumns, EdgeColumns, Tables, age_table, tables}
use Rattle.meaning.specs.Answer.{Answer, Limits, refuse, refuse_row}
use Rattle.meaning.specs.Check.{repeated, edge_broken, key_of, edge_unordered, edge_shared, length_broken, tree_rules, site_rules, rules}
use Rattle.checker.specs.Found.{Shaped, Sized}

abbrev pub aged : Tables → Tables
aged T = tables (age_table T.nodes.time T.nodes.birth) T.edges T.sites T.muts

-- ---- the population "plays no part in order or in what stands"

unordered_aged : (N : NodeColumns) (E : EdgeColumns) (i : ℕ) → edge_unordered (age_table N.time N.birth) E i ≡ edge_unordered N E i
unfolding edge_unordered key_of
unordered_aged N E zero = refl
unordered_aged N E (suc i) = refl

tree_aged : (L : ℕ) (N : NodeColumns) (E : EdgeColumns) (rest : Answer) → tree_rules L (age_table N.time N.birth) E rest ≡ tree_rules L N E rest
unfolding tree_rules
tree_aged L N E rest = ap
    (λ (f : ℕ → Bool). refuse_row 4 (repeated N.birth) (length N.birth) (refuse_row 5 (edge_broken L N.time E) (length E.left) (refuse_row 6 f (length E.left) (refuse_row 7 (edge_shared E) (length E.left) rest))))
    (λ k i. unordered_aged N E i k)

pub rules_aged : (L : ℕ) (T : Tables) (rest : Answer) → rules L (aged T) rest ≡ rules L T rest
unfolding rules site_rules
rules_aged L T rest = ap (λ (a : Answer). refuse (length_broken L) 3 0 a) (tree_aged L T.nodes T.edges (site_rules L T rest))

-- ---- what 1 and 2 find is handed on without them

pub shaped_aged : {T : Tables} → Shaped T → Shaped (aged T)
shaped_aged s = record { birth_long = s.birth_long; edges = s.edges; ancestral_long = s.ancestral_long; node_long = s.node_long; derived_long = s.derived_long }

pub sized_aged : {m : Limits} {T : Tables} → Sized m T → Sized m (aged T)
sized_aged s = record { nodes = s.nodes; edges = s.edges; sites = s.sites; mutations = s.mutations }
