-- What is printed: by equal bytes, by a refusal, by a cleaning and by a reading.
use mathlib.Core.Path.{◌≡◌, sym, ap, ap₂, subst, ◌∙◌}
use mathlib.Core.List.{List}
use Prim.Native.Nat.{ℕ, ◌<◌, ◌≤◌}
use borrow.Author.Tests.{lt-ltb, le-ltb}
use native.Mathlib.Omega.{arith}
use lib.ListN.{length, take, drop, length-append}
use Rattle.meaning.specs.Words.{zeros}
use Rattle.meaning.specs.Rows.{Tables}
use Rattle.meaning.specs.Forest.{stands}
use Rattle.meaning.specs.Answer.{done, limits, stored_limits, accepted, put, refusal_of}
use Rattle.meaning.specs.declared.Refusal.{Refusal}
use Rattle.meaning.specs.Lent.{Counts}
use Rattle.meaning.specs.Clean.{cleaning}
use Rattle.accepted.specs.Numbers.{refusal_refuses}
use Rattle.meaning.specs.Files.{reading}
use Rattle.meaning.specs.Printed.{listed, refused_line, too_long}
use Rattle.listing.specs.Written.{Printed}
use Rattle.meaning.specs.Shown.{blank, front, printed_by, outcome_shown, clean_shown, reading_shown, shown, answered}

pub printed_as : {new new' old out : List ℕ} {r : ℕ} → new ≡ new' → Printed new old out r → Printed new' old out r
printed_as {old = old} {out = out} {r = r} e p = subst (λ (b : List ℕ). Printed b old out r) e p

pub refused_as : {n n' r r' : ℕ} → n ≡ n' → r ≡ r' → refused_line n r ≡ refused_line n' r'
refused_as p q = ap₂ refused_line p q

-- a refusal prints its line
refusal_printed : (x : Refusal) (new : List ℕ) → printed_by (refusal_of x) new ≡ refused_line (refusal_of x).number (refusal_of x).row
unfolding printed_by
refusal_printed x new = rw (refusal_refuses x, printed_by)

module _ (L : ℕ) (T : Tables) (S : List ℕ) (n : Counts) (cells : Tables) (nodemap : List ℕ) where
  -- a cleaning that is done prints its result
  pub clean_listed : record { answer = done; counts = n; cells = cells; map = nodemap } ≡ cleaning stands limits L T S blank (zeros stored_limits.nodes) 4 → listed L (front n cells) (take (length T.nodes.birth) nodemap) ≡ clean_shown L T S
  unfolding clean_shown outcome_shown printed_by accepted
  clean_listed e = ap (outcome_shown L (length T.nodes.birth)) e

  -- and one that is refused its line
  pub clean_refused : (x : Refusal) → record { answer = refusal_of x; counts = n; cells = cells; map = nodemap } ≡ cleaning stands limits L T S blank (zeros stored_limits.nodes) 4 → refused_line (refusal_of x).number (refusal_of x).row ≡ clean_shown L T S
  unfolding clean_shown outcome_shown
  clean_refused x e = sym (refusal_printed x _) ∙ ap (outcome_shown L (length T.nodes.birth)) e

module _ (s : List ℕ) (L : ℕ) (n : Counts) (k : ℕ) (cells : Tables) (samples : List ℕ) where
  -- a reading that is done prints what its rows do
  pub read_listed : record { answer = done; len = L; rows = n; listed = k; cells = cells; samples = samples } ≡ reading 2 stored_limits s blank (zeros stored_limits.samples) → clean_shown L (front n cells) (take k samples) ≡ shown s
  unfolding shown reading_shown printed_by accepted
  read_listed e = ap reading_shown e

  -- and one that is refused its line
  pub read_refused : (x : Refusal) → record { answer = refusal_of x; len = L; rows = n; listed = k; cells = cells; samples = samples } ≡ reading 2 stored_limits s blank (zeros stored_limits.samples) → refused_line (refusal_of x).number (refusal_of x).row ≡ shown s
  unfolding shown reading_shown
  read_refused x e = sym (refusal_printed x _) ∙ ap reading_shown e

-- ---- the length of the input

pub answered_long : (s : List ℕ) → 65536 < length s → too_long ≡ answered s
unfolding answered
answered_long s h = sym (rw (lt-ltb 65536 (length s) h, answered))

pub answered_short : (s : List ℕ) → length s ≤ 65536 → shown s ≡ answered s
unfolding answered
answered_short s h = sym (rw (le-ltb 65536 (length s) h, answered))

-- the bytes that were printed are there to be written out
pub printed_within : {new old out : List ℕ} {r : ℕ} → Printed new old out r → r ≤ length out
unfolding put
printed_within {new} {old} {out} {r} p = omega (arith, p.count, ap length p.cells, length-append new (drop (length new) old))
