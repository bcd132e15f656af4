-- Wrong cleaners of 01's listing for 501 and 502, each refuted by a theorem of Demands: one that loses a sample, one that alters a time,
-- one that writes a row twice, one that drops a site, one that writes a map of its own, one that gives a fish another's population.
use Rattle.std.specs.Prelude.{◌≡◌, true, false, List, [], ◌∷◌, ℕ, zero, suc, ◌<◌, length, take}
use Rattle.std.proofs.Math.Path.{refl}
use Rattle.std.proofs.Common.{sym, ap, arith}
use Rattle.meaning.specs.Words.{at, mem}
use Rattle.meaning.specs.Rows.{NodeColumns, SiteColumns, Node, node_at}
use Rattle.meaning.specs.Listing.{listing, nodes, sites}
use Rattle.laws.specs.Bools.{clash}
use Rattle.laws.specs.Facts.{Distinct}
use Rattle.results.specs.NodeTable.{Mapped, to_row, to_none}

abbrev samples : List ℕ
samples = 501 ∷ 502 ∷ []

-- the node table without 502; with another time for 501; with 501 once more
abbrev lost : NodeColumns
lost = record { time = 0 ∷ 1 ∷ 2 ∷ []; birth = 501 ∷ 401 ∷ 301 ∷ []; population = 0 ∷ 0 ∷ 0 ∷ [] }

abbrev altered : NodeColumns
altered = record { time = 9 ∷ 0 ∷ 1 ∷ 2 ∷ []; birth = 501 ∷ 502 ∷ 401 ∷ 301 ∷ []; population = 0 ∷ 0 ∷ 0 ∷ 0 ∷ [] }

abbrev repeated : NodeColumns
repeated = record { time = 0 ∷ 0 ∷ 0 ∷ []; birth = 501 ∷ 502 ∷ 501 ∷ []; population = 0 ∷ 0 ∷ 0 ∷ [] }

-- fish of five stocks, and the two samples with each other's
abbrev stocked : List ℕ
stocked = 3 ∷ 1 ∷ 4 ∷ 1 ∷ 5 ∷ []

abbrev swapped : NodeColumns
swapped = record { time = 0 ∷ 0 ∷ 1 ∷ 2 ∷ []; birth = 501 ∷ 502 ∷ 401 ∷ 301 ∷ []; population = 1 ∷ 3 ∷ 4 ∷ 1 ∷ [] }

abbrev one_site : SiteColumns
one_site = record { position = 5 ∷ []; ancestral = 65 ∷ [] }

-- no fish of the listing is of time 9
never_nine : (j : ℕ) → at nodes.time j ≡ 9 → ⊥
never_nine zero e = omega (arith, e)
never_nine (suc zero) e = omega (arith, e)
never_nine (suc (suc zero)) e = omega (arith, e)
never_nine (suc (suc (suc zero))) e = omega (arith, e)
never_nine (suc (suc (suc (suc zero)))) e = omega (arith, e)
never_nine (suc (suc (suc (suc (suc j))))) e = omega (arith, e)

abbrev second : List ℕ → ℕ
second l = at l 1

pub record Refuted : Type 0 where
  -- by `samples-first`
  pub sample_lost : take (length samples) lost.birth ≡ samples → ⊥
  -- by `rows-as-they-were`, at row 0
  pub time_altered : ((j : ℕ) × (j < length nodes.birth) × (node_at nodes j ≡ node_at altered 0)) → ⊥
  -- by `no-row-twice`
  pub row_repeated : Distinct repeated.birth → ⊥
  -- by `sites-as-they-were`
  pub site_dropped : one_site ≡ sites → ⊥
  -- by `map-by-birth`: 401 sent to the row of 501, and to none
  pub map_astray : Mapped (501 ∷ 502 ∷ 401 ∷ 301 ∷ []) 401 0 → ⊥
  pub map_to_none : Mapped (501 ∷ 502 ∷ 401 ∷ 301 ∷ []) 401 4294967295 → ⊥
  -- by `stock-as-it-was`, at row 0
  pub stock_swapped : ((i j : ℕ) → i < length swapped.birth → j < length nodes.birth → at nodes.birth j ≡ at swapped.birth i → at stocked j ≡ at swapped.population i) → ⊥

astray : Mapped (501 ∷ 502 ∷ 401 ∷ 301 ∷ []) 401 0 → ⊥
astray (to_row l e) = omega (arith, e)
astray (to_none e m) = omega (arith, e)

to_nowhere : Mapped (501 ∷ 502 ∷ 401 ∷ 301 ∷ []) 401 4294967295 → ⊥
to_nowhere (to_row l e) = omega (arith, l)
to_nowhere (to_none e m) = let k : mem 401 (501 ∷ 502 ∷ 401 ∷ 301 ∷ []) ≡ true = unfold mem in refl in clash k m

twice : Distinct (501 ∷ 502 ∷ 501 ∷ []) → ⊥
twice (Distinct.cons m d) = let k : mem 501 (502 ∷ 501 ∷ []) ≡ true = unfold mem in refl in clash k m

pub refuted : Refuted
refuted = record {
  sample_lost = λ e. let q : ◌≡◌ {A = ℕ} 401 502 = ap second e in omega arith;
  time_altered = λ h. never_nine h.0 (ap (λ (n : Node). n.time) h.2);
  row_repeated = twice;
  site_dropped = λ e. let q : ◌≡◌ {A = ℕ} 0 8 = ap (λ (s : SiteColumns). second s.position) e in omega arith;
  map_astray = astray;
  map_to_none = to_nowhere;
  stock_swapped = λ h. let q : ◌≡◌ {A = ℕ} 3 1 = h 0 0 (omega arith) (omega arith) refl in omega arith;
}
