-- The node table, the sites and the node map that a cleaning leaves, row by row.
use Rattle.std.specs.Prelude.{◌≡◌, refl, Bool, false, List, [], ◌∷◌, ◌++◌, take}
use Rattle.std.proofs.Math.Path.{sym, ap}
use Rattle.std.proofs.Common.{subst, ◌∙◌, arith}
use Rattle.std.proofs.Math.Bool.{true}
use Prim.Native.Nat.{ℕ, ◌<◌}
use Rattle.std.proofs.Math.ListN.{length, length-map}
use Rattle.meaning.specs.Words.{mem, at, index_of}
use Rattle.meaning.specs.Rows.{Tables, Record, node_at, nodes_of, node_of, record_of, tables_of}
use Rattle.meaning.specs.Forest.{Rules}
use Rattle.meaning.specs.Answer.{Limits}
use Rattle.meaning.specs.Clean.{no_row, row_in, others, kept, clean, cleaned, node_map, clean_answer}
use Rattle.laws.specs.Members.{index_at, index_below, at_mem, at_map}
use Rattle.laws.specs.Facts.{In, Distinct, CleanOk}
use Rattle.forest.specs.Profile.{Profile}
use Rattle.history.specs.Kept.{kept_distinct, sample_kept as kept_sample}
use Rattle.history.specs.Cleaned.{kept_in, clean_row}
use Rattle.accepted.specs.Refusals.{Accepted}
use Rattle.accepted.specs.Columns.{birth_out, node_of-is}
use Rattle.accepted.specs.Checked.{Sound}
use Rattle.accepted.specs.Records.{Young}
use Rattle.accepted.specs.Calls.{Cleans, clean_tells, clean_accepted}
use Rattle.results.specs.Back.{back_again}
use Rattle.results.specs.Cleaning.{cleaned_means, cleaned_sound, cleaned_births}

-- the front of two lists put together
pub take_front : (a b : List ℕ) → take (length a) (a ++ b) ≡ a
take_front [] b = refl
take_front (x ∷ a) b = ap (λ (l : List ℕ). x ∷ l) (take_front a b)

-- "output row .. or none": row r of the births is b, or r is none and b is not among them
pub data Mapped (births : List ℕ) (b r : ℕ) : Type 0 where
  to_row : r < length births → at births r ≡ b → Mapped births b r
  to_none : r ≡ no_row → mem b births ≡ false → Mapped births b r

mapped : (l : List ℕ) (b : ℕ) → Mapped l b (row_in l b)
unfolding row_in
mapped l b = go (mem b l) refl
  where
    go : (t : Bool) → mem b l ≡ t → Mapped l b (row_in l b)
    go true e = rw (e, row_in) (to_row (index_below b l e) (index_at b l e))
    go false e = rw (e, row_in) (to_none refl e)

module _ (rule : Rules) (pr : Profile rule) (m : Limits) (L : ℕ) (T : Tables) (S : List ℕ) (out : Tables) (out_map : List ℕ) (cells : ℕ)
    (accept : Accepted (clean_answer rule m L T S out out_map cells)) (young : Young T.nodes) where
  told : Cleans rule m L T S out out_map cells
  told = clean_tells rule m L T S out out_map cells accept

  ok : CleanOk (record_of L T) S
  ok = clean_accepted rule m L T S out out_map cells accept young

  the_births : (cleaned rule L T S).nodes.birth ≡ kept rule (record_of L T) S
  the_births = cleaned_births rule pr m L T S out out_map cells accept young

  -- "the samples in list order, then every other node"
  pub samples_first : take (length S) (cleaned rule L T S).nodes.birth ≡ S
  unfolding kept
  samples_first = ap (take (length S)) the_births ∙ take_front S (others rule (record_of L T) S)

  pub sample_kept : (s : ℕ) → In S s → mem s (cleaned rule L T S).nodes.birth ≡ true
  sample_kept s h = ap (mem s) the_births ∙ kept_sample rule (record_of L T) S s h

  -- no row stands twice
  pub rows_once : Distinct (cleaned rule L T S).nodes.birth
  rows_once = subst Distinct (sym the_births) (kept_distinct rule (record_of L T) S ok.good.once ok.distinct)

  -- "Time and birth are copied", and M-106's population: every row is a row of the input, whole
  pub rows_copied : (i : ℕ) → i < length (cleaned rule L T S).nodes.birth → (j : ℕ) × (j < length T.nodes.birth) × (node_at T.nodes j ≡ node_at (cleaned rule L T S).nodes i)
  unfolding record_of
  rows_copied i l =
      let b : ℕ = at (cleaned rule L T S).nodes.birth i in
      let k : mem b (kept rule (record_of L T) S) ≡ true = sym (ap (mem b) the_births) ∙ at_mem (cleaned rule L T S).nodes.birth i l in
      let o : mem b T.nodes.birth ≡ true = birth_out T.nodes told.sound.shape.births b (kept_in rule pr (record_of L T) S ok b k) in
      let j : ℕ = index_of b T.nodes.birth in
      let q : j < length T.nodes.birth = index_below b T.nodes.birth o in
      (j, q, sym (node_of-is T.nodes told.sound.shape.births told.sound.tree.once j (omega (arith, told.sound.shape.births))) ∙ ap (node_of (nodes_of T.nodes)) (index_at b T.nodes.birth o) ∙ same b k ∙ node_of-is (cleaned rule L T S).nodes after.shape.births after.tree.once i (omega (arith, after.shape.births)))
    where
      after : Sound m L (cleaned rule L T S)
      after = cleaned_sound rule pr m L T S out out_map cells accept young

      same : (b : ℕ) → mem b (kept rule (record_of L T) S) ≡ true → node_of (nodes_of T.nodes) b ≡ node_of (nodes_of (cleaned rule L T S).nodes) b
      same b k = sym (ap (λ (X : Record). node_of X.nodes b) (cleaned_means rule pr m L T S out out_map cells accept young) ∙ clean_row rule pr (record_of L T) S ok b k)

  -- "Sites: all kept, unchanged."
  pub sites_same : (cleaned rule L T S).sites ≡ T.sites
  unfolding cleaned tables_of clean
  sites_same = ap (λ (X : Tables). X.sites) (back_again m L T told.sound)

  -- "The map gives each input row its output row, or none."
  pub map_long : length (node_map rule L T S) ≡ length T.nodes.birth
  unfolding node_map
  map_long = length-map T.nodes.birth (row_in (kept rule (record_of L T) S))

  pub map_rows : (i : ℕ) → i < length T.nodes.birth → Mapped (cleaned rule L T S).nodes.birth (at T.nodes.birth i) (at (node_map rule L T S) i)
  unfolding node_map
  map_rows i l = rw (the_births, at_map (row_in (kept rule (record_of L T) S)) T.nodes.birth i l) (mapped (kept rule (record_of L T) S) (at T.nodes.birth i))
