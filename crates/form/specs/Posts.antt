-- What the code's own answers stand for: the promises of the functions below the two calls.
use Rattle.std.specs.Prelude.{◌≡◌, List, ◌++◌, ℕ, ◌+◌, ◌*◌, ◌<◌, ◌≤◌, length, take, drop, Result, Ok, Err}
use Rattle.meaning.specs.Answer.{Answer, stored_limits, refusal_of}
use Rattle.meaning.specs.Stored.{kinds, form, whole, stop_then, kinds_then, end_then, form_then}
use Rattle.meaning.specs.Files.{nodes_from, edges_from, sites_from, muts_from}
use Rattle.form.specs.declared.Stretch.{Stretch}
use Rattle.form.specs.declared.Layout.{Layout}
use Rattle.meaning.specs.declared.Refusal.{Refusal}

-- the stretch of whole records of z bytes with the mark a b from offset o on
pub record Stretched (a b z most : ℕ) (s : List ℕ) (o : ℕ) (w : Stretch) : Type 0 where
  pub starts : w.start ≡ o
  pub counts : w.count ≡ whole a b z s most o
  pub ends : w.end ≡ o + whole a b z s most o * z

-- a kind's step: its stretch, after which its mark stands no more, or the refusal
unfoldable pub Stepped : ℕ → ℕ → ℕ → ℕ → List ℕ → ℕ → Result Stretch Refusal → Type 0
Stepped a b z most s o (Ok w) = Stretched a b z most s o w × ((rest : Answer) → stop_then a b most (whole a b z s most o) s (o + whole a b z s most o * z) rest ≡ rest)
Stepped a b z most s o (Err x) = (rest : Answer) → stop_then a b most (whole a b z s most o) s (o + whole a b z s most o * z) rest ≡ refusal_of x

-- where the rows of each kind stand
pub record Found (s : List ℕ) (l : Layout) : Type 0 where
  pub samples : Stretched 83 65 6 stored_limits.samples s 6 l.samples
  pub nodes : Stretched 78 68 10 stored_limits.nodes s (nodes_from stored_limits s) l.nodes
  pub edges : Stretched 69 68 14 stored_limits.edges s (edges_from stored_limits s) l.edges
  pub sites : Stretched 83 73 7 stored_limits.sites s (sites_from 2 stored_limits s) l.sites
  pub mutations : Stretched 77 85 7 stored_limits.mutations s (muts_from 2 stored_limits s) l.mutations

-- the whole file: its layout, or the refusal 31 to 34
unfoldable pub Scanned : List ℕ → Result Layout Refusal → Type 0
Scanned s (Ok l) = Found s l × (6 ≤ length s) × ((rest : Answer) → form_then (form 2 stored_limits) s rest ≡ rest)
Scanned s (Err x) = (rest : Answer) → form_then (form 2 stored_limits) s rest ≡ refusal_of x

-- the same, of what stands from the kinds on
unfoldable pub KindsScanned : List ℕ → Result Layout Refusal → Type 0
KindsScanned s (Ok l) = Found s l × ((rest : Answer) → kinds_then (kinds 2 stored_limits) s 6 rest ≡ rest)
KindsScanned s (Err x) = (rest : Answer) → kinds_then (kinds 2 stored_limits) s 6 rest ≡ refusal_of x

-- the end of the file: nothing, or the refusal
unfoldable pub EndScanned : List ℕ → ℕ → Result Unit Refusal → Type 0
EndScanned s o (Ok w) = (rest : Answer) → end_then s o rest ≡ rest
EndScanned s o (Err x) = (rest : Answer) → end_then s o rest ≡ refusal_of x

-- ---- what filling asks

-- n fields of w bytes stand at offset o and each next one z bytes further on
pub record Fields (w : ℕ) (s : List ℕ) (o z n : ℕ) : Type 0 where
  pub near : o ≤ length s + 256
  pub short : z ≤ 256
  pub there : (i : ℕ) → i < n → o + i * z + w ≤ length s

-- n records of z bytes stand at offset o
pub record Records (z : ℕ) (s : List ℕ) (o n : ℕ) : Type 0 where
  pub begins : o ≤ length s
  pub there : (i : ℕ) → i < n → o + i * z + z ≤ length s

-- ---- what writing leaves

-- the bytes new stand at offset o, and all else is as it was
unfoldable pub lay : ℕ → List ℕ → List ℕ → List ℕ
lay o new old = take o old ++ (new ++ drop (o + length new) old)
