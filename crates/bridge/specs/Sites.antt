-- The sites' and mutations' columns read by rows and read by births: positions, states, and which node carries a mutation.
use Rattle.std.specs.Prelude.{◌≡◌, Bool, true, false, List, eqb, length}
use Rattle.std.proofs.Math.Path.{refl, sym, ap}
use Rattle.std.proofs.Common.{◌∙◌}
use Prim.Native.Nat.{ℕ, zero, suc, ◌+◌, ◌<◌, ◌≤◌}
use native.Mathlib.Omega.{arith}
use Rattle.meaning.specs.Words.{and, at, any, rows_from, rows}
use Rattle.meaning.specs.Rows.{Site, SiteColumns, Mutation, MutationColumns, sites_of, muts_of, pos_of, state_of}
use Rattle.meaning.specs.Allele.{sits, carries, last_state}
use Rattle.laws.specs.Counting.{any_rows}
use Rattle.bridge.specs.Rename.{eqb_names}
use Rattle.bridge.specs.Columns.{Apart, any_same}

-- ---- sites

module _ (P : SiteColumns) where
  site_row : ℕ → Site
  site_row i = record { pos = at P.position i; state = at P.ancestral i }

  pos_from : (j k i : ℕ) → i < k → pos_of (rows_from site_row j k) i ≡ at P.position (j + i)
  unfolding site_row pos_of rows_from
  pos_from j zero i l = absurd (omega arith)
  pos_from j (suc k) zero l = let q : j ≡ j + 0 = omega arith in ap (at P.position) q
  pos_from j (suc k) (suc i) l = let q : suc j + i ≡ j + suc i = omega arith in pos_from (suc j) k i (omega arith) ∙ ap (at P.position) q

  state_from : (j k i : ℕ) → i < k → state_of (rows_from site_row j k) i ≡ at P.ancestral (j + i)
  unfolding site_row state_of rows_from
  state_from j zero i l = absurd (omega arith)
  state_from j (suc k) zero l = let q : j ≡ j + 0 = omega arith in ap (at P.ancestral) q
  state_from j (suc k) (suc i) l = let q : suc j + i ≡ j + suc i = omega arith in state_from (suc j) k i (omega arith) ∙ ap (at P.ancestral) q

  -- the position of a site row is its cell
  pub pos_at : (i : ℕ) → i < length P.position → pos_of (sites_of P) i ≡ at P.position i
  unfolding site_row sites_of rows
  pos_at i l = let q : 0 + i ≡ i = omega arith in pos_from 0 (length P.position) i l ∙ ap (at P.position) q

  -- and so is its ancestral state
  pub state_at : (i : ℕ) → i < length P.position → state_of (sites_of P) i ≡ at P.ancestral i
  unfolding site_row sites_of rows
  state_at i l = let q : 0 + i ≡ i = omega arith in state_from 0 (length P.position) i l ∙ ap (at P.ancestral) q

-- ---- mutations

-- row j of the mutations, where name turns what the column holds into a node
abbrev pub mutation_row : (ℕ → ℕ) → MutationColumns → ℕ → Mutation
mutation_row name M j = record { site = at M.site j; node = name (at M.node j); derived = at M.derived j }

-- one step of the search for a mutation, and for the last one
module _ (i b : ℕ) (g : ℕ → Mutation) where
  pub any_end : (j : ℕ) → any (sits i b) (rows_from g j zero) ≡ false
  unfolding any rows_from
  any_end j = refl

  pub any_hit : (j k : ℕ) → sits i b (g j) ≡ true → any (sits i b) (rows_from g j (suc k)) ≡ true
  unfolding any rows_from
  any_hit j k e = rw (e, any)

  pub any_miss : (j k : ℕ) → sits i b (g j) ≡ false → any (sits i b) (rows_from g j (suc k)) ≡ any (sits i b) (rows_from g (suc j) k)
  unfolding any rows_from
  any_miss j k e = rw (e, any)

  pub last_end : (j s : ℕ) → last_state i b (rows_from g j zero) s ≡ s
  unfolding last_state rows_from
  last_end j s = refl

  pub last_hit : (j k s : ℕ) → sits i b (g j) ≡ true → last_state i b (rows_from g j (suc k)) s ≡ last_state i b (rows_from g (suc j) k) (g j).derived
  unfolding last_state rows_from
  last_hit j k s e = rw (e, last_state)

  pub last_miss : (j k s : ℕ) → sits i b (g j) ≡ false → last_state i b (rows_from g j (suc k)) s ≡ last_state i b (rows_from g (suc j) k) s
  unfolding last_state rows_from
  last_miss j k s e = rw (e, last_state)

module _ (birth : List ℕ) (once : Apart birth) (M : MutationColumns) (known : (j : ℕ) → j < length M.site → at M.node j < length birth) (i v : ℕ) (l : v < length birth) where
  same_sits : (j : ℕ) → j < length M.site → sits i (at birth v) (mutation_row (at birth) M j) ≡ sits i v (mutation_row (λ r. r) M j)
  unfolding sits
  same_sits j h = ap (and (eqb (at M.site j) i)) (eqb_names (length birth) (at birth) once (at M.node j) v (known j h) l)

  -- a birth carries a mutation at site row i exactly if its row does
  pub carries_names : carries (muts_of (at birth) M) i (at birth v) ≡ carries (muts_of (λ r. r) M) i v
  unfolding carries muts_of
  carries_names =
      any_rows (sits i (at birth v)) (mutation_row (at birth) M) (length M.site)
      ∙ any_same (λ j. sits i (at birth v) (mutation_row (at birth) M j)) (λ j. sits i v (mutation_row (λ r. r) M j)) (length M.site) same_sits
      ∙ sym (any_rows (sits i v) (mutation_row (λ r. r) M) (length M.site))

  from_names : (k j s : ℕ) → j + k ≤ length M.site → last_state i (at birth v) (rows_from (mutation_row (at birth) M) j k) s ≡ last_state i v (rows_from (mutation_row (λ r. r) M) j k) s
  from_names zero j s h = last_end i (at birth v) (mutation_row (at birth) M) j s ∙ sym (last_end i v (mutation_row (λ r. r) M) j s)
  from_names (suc k) j s h = go (sits i v (mutation_row (λ r. r) M j)) refl (λ d. from_names k (suc j) d (omega arith))
    where
      go : (t : Bool) → sits i v (mutation_row (λ r. r) M j) ≡ t → ((d : ℕ) → last_state i (at birth v) (rows_from (mutation_row (at birth) M) (suc j) k) d ≡ last_state i v (rows_from (mutation_row (λ r. r) M) (suc j) k) d) → last_state i (at birth v) (rows_from (mutation_row (at birth) M) j (suc k)) s ≡ last_state i v (rows_from (mutation_row (λ r. r) M) j (suc k)) s
      go true e ih = last_hit i (at birth v) (mutation_row (at birth) M) j k s (same_sits j (omega arith) ∙ e) ∙ ih (at M.derived j) ∙ sym (last_hit i v (mutation_row (λ r. r) M) j k s e)
      go false e ih = last_miss i (at birth v) (mutation_row (at birth) M) j k s (same_sits j (omega arith) ∙ e) ∙ ih s ∙ sym (last_miss i v (mutation_row (λ r. r) M) j k s e)

  -- the last state of a birth is that of its row
  pub last_names : (s : ℕ) → last_state i (at birth v) (muts_of (at birth) M) s ≡ last_state i v (muts_of (λ r. r) M) s
  unfolding muts_of rows
  last_names s = from_names (length M.site) 0 s (omega arith)
