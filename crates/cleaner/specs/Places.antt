-- The places of the rows kept: edges and moved mutations are on rows kept, and get their places.
use Rattle.std.specs.Prelude.{◌≡◌, refl, Bool, true, false, List, ◌++◌, map, ℕ, ◌<◌, ◌≤◌, length, take}
use Rattle.std.proofs.Math.Path.{sym, ap}
use Rattle.std.proofs.Common.{◌∙◌, arith, get_or-take, lt-ltb, le-ltb}
use Rattle.std.proofs.Math.Option.{some}
use Rattle.meaning.specs.Words.{at, mem, index_of, rows}
use Rattle.meaning.specs.Rows.{Tables}
use Rattle.meaning.specs.Forest.{Ages, stands}
use Rattle.meaning.specs.Answer.{limits}
use Rattle.meaning.specs.Clean.{row_in}
use Rattle.laws.specs.Counting.{length_rows, get_rows}
use Rattle.laws.specs.Members.{mem_left, mem_right}
use Rattle.forest.specs.Lowest.{stands_rule, low_of}
use Rattle.byrows.specs.Rows.{all_rows, sample_rows, reached_row, stands_row, low_row}
use Rattle.byrows.specs.Ground.{Ground}
use Rattle.byrows.specs.Kept.{Others}
use Rattle.byrows.specs.Standing.{rows_aged, rows_nodes}
use Rattle.writing.specs.Renamed.{renamed}
use Rattle.laws.specs.Members.{at_map}
use Rattle.bridge.specs.Parents.{parent_row}

pub renamed_row : (names : List ℕ) (v : ℕ) → v < length names → renamed names v ≡ at names v
unfolding renamed
renamed_row names v h = rw (lt-ltb v (length names) h, renamed)

pub renamed_none : (names : List ℕ) (v : ℕ) → length names ≤ v → renamed names v ≡ v
unfolding renamed
renamed_none names v h = rw (le-ltb v (length names) h, renamed)

-- a row kept is placed where it is first
row_placed : (K : List ℕ) (v : ℕ) → mem v K ≡ true → row_in K v ≡ index_of v K
unfolding row_in
row_placed K v e = rw (e, row_in)

module _ (L : ℕ) (T : Tables) (S : List ℕ) (g : Ground limits L T S) (OR : List ℕ) (o : Others limits L T S g OR) where
  abbrev n : ℕ
  n = length T.nodes.birth

  abbrev SR : List ℕ
  SR = sample_rows T.nodes.birth S

  -- what stands somewhere is kept
  pub kept_of : (v x : ℕ) → v < n → x < L → stands_row T.edges n SR x v ≡ true → mem v (SR ++ OR) ≡ true
  kept_of v x l h s = go (mem v SR) refl
    where
      go : (t : Bool) → mem v SR ≡ t → mem v (SR ++ OR) ≡ true
      go true e = mem_left v SR OR e
      go false e = mem_right v SR OR (o.all v x l h e s)

  -- where a mutation goes stands
  pub low_stands : (x u w : ℕ) → low_row T.edges n SR x u ≡ some w → stands_row T.edges n SR x w ≡ true
  unfolding low_row reached_row stands_row
  low_stands x u w e = (low_of (parent_row T.edges x) (at T.nodes.time) (rows_aged limits L T S g x) (all_rows n) (rows_nodes limits L T S g x) SR (stands (all_rows n) (parent_row T.edges x) SR) (stands_rule (parent_row T.edges x) (at T.nodes.time) (rows_aged limits L T S g x) (all_rows n) (rows_nodes limits L T S g x) SR) Ages w u e).in_set

  -- the name of a row kept is its place
  pub named : (places : List ℕ) → n ≤ length places → take n places ≡ map (row_in (SR ++ OR)) (all_rows n) → (v : ℕ) → v < n → mem v (SR ++ OR) ≡ true → renamed places v ≡ index_of v (SR ++ OR)
  unfolding all_rows
  named places h e v l k =
      renamed_row places v (omega arith)
      ∙ sym (get_or-take n places v 0 l)
      ∙ ap (λ z. at z v) e
      ∙ at_map (row_in (SR ++ OR)) (rows (λ i. i) n) v (omega (arith, length_rows (λ i. i) n))
      ∙ ap (row_in (SR ++ OR)) (get_rows (λ i. i) 0 n v l)
      ∙ row_placed (SR ++ OR) v k
