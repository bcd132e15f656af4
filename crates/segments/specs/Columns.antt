-- The segments that three columns make, and back.
use Rattle.std.specs.Prelude.{◌≡◌, List, map, true, false, ℕ, min, ◌+◌, ◌<◌, ◌≤◌, length, get_or, Some, None}
use Rattle.std.proofs.Common.{sym, ap, ◌∙◌, arith}
use Rattle.std.proofs.lemmas.List.{length-map}
use Rattle.std.proofs.Math.ListN.{get_or-map}
use Rattle.std.proofs.Math.Seq.{ext_get_or}
use Rattle.meaning.specs.Words.{at, rows}
use Rattle.laws.specs.Counting.{length_rows, get_rows}
use Rattle.runs.specs.declared.Segment.{Segment}
use Rattle.segments.specs.Search.{seg_at, no_segment, covers, row_at, first_row, Onward, onward_next, row_found, first_found, first_missing}

-- the number of cells of the shortest of three columns
abbrev pub shortest : List ℕ → List ℕ → List ℕ → ℕ
shortest ls rs ws = min (length ls) (min (length rs) (length ws))

-- segment i of three columns
abbrev pub segment_of : List ℕ → List ℕ → List ℕ → ℕ → Segment
segment_of ls rs ws i = record { left = at ls i; right = at rs i; row = at ws i }

-- the segments of three columns, as many as the shortest has
unfoldable pub segments_of : List ℕ → List ℕ → List ℕ → List Segment
unfolding rows
segments_of ls rs ws = rows (segment_of ls rs ws) (shortest ls rs ws)

module _ (ls rs ws : List ℕ) where
  pub length_segments : length (segments_of ls rs ws) ≡ shortest ls rs ws
  unfolding segments_of
  length_segments = length_rows (segment_of ls rs ws) (shortest ls rs ws)

  pub segment_at : (i : ℕ) → i < shortest ls rs ws → seg_at (segments_of ls rs ws) i ≡ segment_of ls rs ws i
  unfolding segments_of
  segment_at i h = get_rows (segment_of ls rs ws) no_segment (shortest ls rs ws) i h

  -- ---- a search on the columns is one on the segments
  module _ (x : ℕ) where
    abbrev S : List Segment
    S = segments_of ls rs ws

    inside : (i : ℕ) → i < shortest ls rs ws → i < length S
    inside i h = omega (arith, length_segments)

    test_is : (i : ℕ) → i < shortest ls rs ws → covers (at ls i) (at rs i) x ≡ covers (seg_at S i).left (seg_at S i).right x
    test_is i h = ap (λ (s : Segment). covers s.left s.right x) (sym (segment_at i h))

    pub column_next : (i : ℕ) → i < shortest ls rs ws → Onward S x i → covers (at ls i) (at rs i) x ≡ false → Onward S x (i + 1)
    column_next i h s e = onward_next S x i (inside i h) s (sym (test_is i h) ∙ e)

    pub column_found : (i : ℕ) → i < shortest ls rs ws → Onward S x i → covers (at ls i) (at rs i) x ≡ true → at ws i ≡ row_at S x
    column_found i h s e = ap (λ (s : Segment). s.row) (sym (segment_at i h)) ∙ row_found S x i (inside i h) s (sym (test_is i h) ∙ e)

    pub column_first : (i : ℕ) → i < shortest ls rs ws → Onward S x i → covers (at ls i) (at rs i) x ≡ true → Some (at ws i) ≡ first_row S x
    column_first i h s e = ap (λ (s : Segment). Some s.row) (sym (segment_at i h)) ∙ first_found S x i (inside i h) s (sym (test_is i h) ∙ e)

    pub column_none : (i : ℕ) → i ≤ shortest ls rs ws → shortest ls rs ws ≤ i → Onward S x i → None ≡ first_row S x
    column_none i h k s = first_missing S x i (omega (arith, length_segments)) (omega (arith, length_segments)) s

-- ---- the columns of a list of segments make that list again
-- a segment of zeros, with which cells past the end are read
abbrev pub zeros : Segment
zeros = record { left = 0; right = 0; row = 0 }

module _ (l : List Segment) where
  abbrev pub lefts : List ℕ
  lefts = map (λ (s : Segment). s.left) l

  abbrev pub rights : List ℕ
  rights = map (λ (s : Segment). s.right) l

  abbrev pub outputs : List ℕ
  outputs = map (λ (s : Segment). s.row) l

  shortest_is : shortest lefts rights outputs ≡ length l
  shortest_is = omega (arith, length-map l (λ (s : Segment). s.left), length-map l (λ (s : Segment). s.right), length-map l (λ (s : Segment). s.row))

  segment_is : (i : ℕ) → segment_of lefts rights outputs i ≡ get_or l i zeros
  segment_is i = λ j. record {
    left = get_or-map (λ (s : Segment). s.left) l i zeros j;
    right = get_or-map (λ (s : Segment). s.right) l i zeros j;
    row = get_or-map (λ (s : Segment). s.row) l i zeros j;
  }

  pub columns_make : segments_of lefts rights outputs ≡ l
  unfolding segments_of
  columns_make = ext_get_or zeros (segments_of lefts rights outputs) l (length_segments lefts rights outputs ∙ shortest_is)
      (λ i h. get_rows (segment_of lefts rights outputs) zeros (shortest lefts rights outputs) i (omega (arith, length_segments lefts rights outputs)) ∙ segment_is i)
