-- The marks and last states of a site's mutations by node rows.
use Rattle.std.specs.Prelude.{◌≡◌, Bool, true, false, List, ℕ, ◌<◌, eqb, length}
use Rattle.meaning.specs.Words.{at, rows}
use Rattle.meaning.specs.Rows.{MutationColumns, muts_of}
use Rattle.meaning.specs.Allele.{carries, last_state}

-- row v is marked
unfoldable pub marked : List ℕ → ℕ → Bool
marked marks v = eqb (at marks v) 1

-- the columns are equally long, and each mutation is on one of n rows: part of what 1 and 9 find
pub record Naming (M : MutationColumns) (n : ℕ) : Type 0 where
  pub node_long : length M.node ≡ length M.site
  pub derived_long : length M.derived ≡ length M.site
  pub node_row : (j : ℕ) → j < length M.site → at M.node j < n

-- 1 where the test holds, and else what was there
unfoldable pub mark : Bool → ℕ → ℕ
mark true m = 1
mark false m = m

-- the mark of row v after the mutations at site row i: 1 where it has one, and else as it was
unfoldable pub mark_after : MutationColumns → ℕ → List ℕ → ℕ → ℕ
unfolding mark carries muts_of
mark_after M i has v = mark (carries (muts_of (λ r. r) M) i v) (at has v)

-- the state of row v after the mutations at site row i: that of its last one, and else as it was
unfoldable pub state_after : MutationColumns → ℕ → List ℕ → ℕ → ℕ
unfolding last_state muts_of
state_after M i state v = last_state i v (muts_of (λ r. r) M) (at state v)

-- the marks of n rows at site row i
unfoldable pub marks_of : MutationColumns → ℕ → ℕ → List ℕ
unfolding mark carries muts_of rows
marks_of M i n = rows (λ v. mark (carries (muts_of (λ r. r) M) i v) 0) n

-- the last states of n rows at site row i
unfoldable pub states_of : MutationColumns → ℕ → ℕ → ℕ → List ℕ
unfolding last_state muts_of rows
states_of M i other n = rows (λ v. last_state i v (muts_of (λ r. r) M) other) n
