-- The answer as one number, and the rows written in the lent block.
use mathlib.Core.Path.{◌≡◌, refl, sym, ap, subst, ◌∙◌}
use mathlib.Core.Bool.{Bool, true, false}
use mathlib.Core.List.{List, [], ◌∷◌}
use Prim.Native.Nat.{ℕ, ◌+◌, ◌*◌, ◌<◌, ◌≤◌}
use native.Mathlib.Omega.{arith}
use lib.Dec.{ltb}
use lib.ListN.{length, set}
use borrow.Author.Tests.{ltb-false}
use Rattle.meaning.specs.declared.Refusal.{Refusal}
use Rattle.meaning.specs.Rows.{Tables}
use Rattle.meaning.specs.Answer.{Answer, answer, done, limits, accepted, put, left_by, refusal_of}
use Rattle.meaning.specs.Lent.{Counts, counts_by}
use Rattle.meaning.specs.Called.{packed, block_by}
use Rattle.accepted.specs.Refusals.{Accepted, passed}
use Rattle.accepted.specs.Rooms.{Fits}
use Rattle.checker.proofs.After.{refused}
use Rattle.meaning.specs.Lent.{Tabled}
use Rattle.std.specs.Prelude.{Ok, Err}
use Rattle.meaning.specs.declared.Counts as written
use Rattle.ffr.specs.Told.{Counted, Tellable, Told}

-- four cells written one after the other
pub four : (l : List ℕ) (a b c d : ℕ) → 4 ≤ length l → set (set (set (set l 0 a) 1 b) 2 c) 3 d ≡ put (a ∷ b ∷ c ∷ d ∷ []) l
unfolding put
four [] a b c d h = absurd (omega arith)
four (x ∷ []) a b c d h = absurd (omega arith)
four (x ∷ y ∷ []) a b c d h = absurd (omega arith)
four (x ∷ y ∷ z ∷ []) a b c d h = absurd (omega arith)
four (x ∷ y ∷ z ∷ w ∷ l) a b c d h = refl

-- a refusal leaves the block as it was
pub block_kept : (r : Refusal) (c : Counts) (block : List ℕ) → block ≡ block_by (refusal_of r) c block
unfolding block_by left_by
block_kept r c block = rw (refused r, left_by)

counts_of : (a : Answer) (new : Tables) → Accepted a → counts_by a new ≡ record { nodes = length new.nodes.time; edges = length new.edges.left; sites = length new.sites.position; mutations = length new.muts.site }
unfolding counts_by
counts_of a new h = rw (h, counts_by)

pub counts_small : (a : Answer) (new out : Tables) (cells : ℕ) (c : Counts) → c ≡ counts_by a new → Accepted a → Fits limits new out → 4 ≤ cells → Counted c cells
counts_small a new out cells c e h f b =
    let q : _ = e ∙ counts_of a new h in
    record {
      block = b;
      nodes = omega (arith, ap (λ (c : Counts). c.nodes) q, f.nodes.few);
      edges = omega (arith, ap (λ (c : Counts). c.edges) q, f.edges.few);
      sites = omega (arith, ap (λ (c : Counts). c.sites) q, f.sites.few);
      mutations = omega (arith, ap (λ (c : Counts). c.mutations) q, f.muts.few);
    }

-- ---- what C is told, by the answer

module _ {x : Tabled} where
  pub row_of : {r : Refusal} (cells : ℕ) → x ≡ Err r → Tellable x cells → (refusal_of r).row < 4294967296
  row_of cells q t = subst (λ (y : Tabled). Tellable y cells) q t

  pub told_counts : {w : written.Counts} (cells : ℕ) → x ≡ Ok w → Tellable x cells → Counted (record { nodes = w.nodes; edges = w.edges; sites = w.sites; mutations = w.mutations }) cells
  told_counts cells q t = subst (λ (y : Tabled). Tellable y cells) q t

  pub refused_told : {r : Refusal} {v : ℕ} (block : List ℕ) → x ≡ Err r → v ≡ packed (refusal_of r) → Told x block v block
  refused_told {r} {v} block q p = subst (λ (y : Tabled). Told y block v block) (sym q) (p, refl)

  pub done_told : {w : written.Counts} (block : List ℕ) {block' : List ℕ} → x ≡ Ok w → block' ≡ put (w.nodes ∷ w.edges ∷ w.sites ∷ w.mutations ∷ []) block → Told x block 0 block'
  done_told block {block'} q p = subst (λ (y : Tabled). Told y block 0 block') (sym q) (refl, p)
