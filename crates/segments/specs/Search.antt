-- 01: "ancestral segments: a left, a right and an output row". Which segment holds a position, and the row that a search finds there.
use Rattle.std.specs.Prelude.{◌≡◌, refl, Bool, true, false, List, ℕ, ◌+◌, ◌<◌, ◌≤◌, leb, ltb, length, get_or, Option, Some, None, option_map, unwrap_or}
use Rattle.std.proofs.Math.Path.{sym, ap}
use Rattle.std.proofs.Common.{◌∙◌, arith, le-leb}
use Rattle.std.proofs.lemmas.Bool.{lt-leb}
use Rattle.std.proofs.Math.ListN.{get_or-eq_default}
use Rattle.meaning.specs.Words.{and, lowest, lowest_row}
use Rattle.meaning.specs.Clean.{no_row}
use Rattle.laws.specs.Counting.{Sought, sought_start, sought_hit, sought_miss, sought_none, lowest_is, lowest_hit, lowest_missed, lowest_row-none, lowest_row-some}
use Rattle.runs.specs.declared.Segment.{Segment}

-- what stands past the end of a list: a segment that holds no position and has no row
abbrev pub no_segment : Segment
no_segment = record { left = 0; right = 0; row = no_row }

-- segment i of a list
abbrev pub seg_at : List Segment → ℕ → Segment
seg_at l i = get_or l i no_segment

-- "left <= x < right"
abbrev pub covers : ℕ → ℕ → ℕ → Bool
covers left right x = and (leb left x) (ltb x right)

pub covers_in : (left right x : ℕ) → left ≤ x → ltb x right ≡ covers left right x
covers_in left right x h = rw (le-leb left x h)

pub covers_out : (left right x : ℕ) → x < left → false ≡ covers left right x
covers_out left right x h = rw (lt-leb left x h)

-- segment i holds x
unfoldable pub covers_at : List Segment → ℕ → ℕ → Bool
covers_at l x i = covers (seg_at l i).left (seg_at l i).right x

-- the output row of the first segment that holds x; no_row where none does
unfoldable pub row_at : List Segment → ℕ → ℕ
unfolding lowest covers_at
row_at l x = (seg_at l (lowest (covers_at l x) (length l))).row

-- the output row of the first segment that holds x, where one does
unfoldable pub first_row : List Segment → ℕ → Option ℕ
unfolding lowest covers_at
first_row l x = option_map (λ (i : ℕ). (seg_at l i).row) (lowest_row (covers_at l x) (length l))

-- ---- what a search from the front keeps and finds
module _ (l : List Segment) (x : ℕ) where
  -- no segment before i holds x: the first from i on is the first of all
  abbrev pub Onward : ℕ → Type 0
  Onward i = Sought (covers_at l x) (length l) i

  pub onward_start : Onward 0
  onward_start = sought_start (covers_at l x) (length l)

  pub onward_next : (i : ℕ) → i < length l → Onward i → covers (seg_at l i).left (seg_at l i).right x ≡ false → Onward (i + 1)
  unfolding covers_at
  onward_next i h s e = sought_miss (covers_at l x) (length l) i h s e

  pub row_found : (i : ℕ) → i < length l → Onward i → covers (seg_at l i).left (seg_at l i).right x ≡ true → (seg_at l i).row ≡ row_at l x
  unfolding covers_at row_at
  row_found i h s e = ap (λ (k : ℕ). (seg_at l k).row) (sought_hit (covers_at l x) (length l) i h s e)

  pub row_missing : (i : ℕ) → i ≤ length l → length l ≤ i → Onward i → no_row ≡ row_at l x
  unfolding row_at
  row_missing i h k s = sym (ap (λ (t : Segment). t.row) past) ∙ ap (λ (k : ℕ). (seg_at l k).row) (sought_none (covers_at l x) (length l) i h k s)
    where
      past : seg_at l (length l) ≡ no_segment
      past = get_or-eq_default l no_segment (omega arith)

  -- the search ends at a segment that holds x, or with none
  pub first_found : (i : ℕ) → i < length l → Onward i → covers (seg_at l i).left (seg_at l i).right x ≡ true → Some (seg_at l i).row ≡ first_row l x
  unfolding covers_at first_row
  first_found i h s e = ap (option_map (λ (k : ℕ). (seg_at l k).row)) (lowest_hit (covers_at l x) (length l) i h s e)

  pub first_missing : (i : ℕ) → i ≤ length l → length l ≤ i → Onward i → None ≡ first_row l x
  unfolding first_row
  first_missing i h k s = ap (option_map (λ (k : ℕ). (seg_at l k).row)) (lowest_missed (covers_at l x) (length l) i h k s)

  -- as a cell it is the row at x
  pub first_cell : unwrap_or (first_row l x) no_row ≡ row_at l x
  unfolding first_row row_at
  first_cell = go (lowest_row (covers_at l x) (length l)) refl
    where
      past : seg_at l (length l) ≡ no_segment
      past = get_or-eq_default l no_segment (omega arith)

      go : (o : Option ℕ) → o ≡ lowest_row (covers_at l x) (length l) → unwrap_or (option_map (λ (k : ℕ). (seg_at l k).row) o) no_row ≡ (seg_at l (lowest (covers_at l x) (length l))).row
      go (Some i) e = ap (λ (k : ℕ). (seg_at l k).row) (lowest_row-some (covers_at l x) (length l) i e).2
      go None e = sym (ap (λ (k : ℕ). (seg_at l k).row) (lowest_row-none (covers_at l x) (length l) e) ∙ ap (λ (t : Segment). t.row) past)

  -- the row of a segment that holds x while none before it does
  pub row_of_first : (i : ℕ) → i < length l → covers_at l x i ≡ true → ((j : ℕ) → j < i → covers_at l x j ≡ false) → row_at l x ≡ (seg_at l i).row
  unfolding row_at
  row_of_first i h e before = ap (λ (k : ℕ). (seg_at l k).row) (lowest_is (covers_at l x) (length l) i h e before)
