-- The outcomes of reading and writing fix the code's answer and every lent cell.
use Rattle.std.specs.Prelude.{◌≡◌, refl, List, ℕ, Result, Ok, Err}
use Rattle.std.proofs.Common.{sym, ap, ◌∙◌}
use Rattle.meaning.specs.Rows.{Tables}
use Rattle.accepted.specs.Numbers.{refusal_one}
use Rattle.meaning.specs.Files.{Reading, Writing}
use Rattle.stored.specs.Answers.{read_of, written_of}
use Rattle.meaning.specs.declared.Refusal.{Refusal}
use Rattle.stored.specs.declared.Contents.{Contents}
use Rattle.outcomes.specs.Cleaning.{done_refused}

-- ---- reading

-- the contents that an outcome tells
abbrev done_read : Reading → Result Contents Refusal
done_read o = Ok (record { len = o.len; rows = record { nodes = o.rows.nodes; edges = o.rows.edges; sites = o.rows.sites; mutations = o.rows.mutations; samples = o.listed } })

read_same : (r s : Result Contents Refusal) (T U : Tables) (m n : List ℕ) → read_of r T m ≡ read_of s U n → r ≡ s
read_same (Ok k) (Ok l) T U m n e = ap done_read e
read_same (Ok k) (Err s) T U m n e = absurd (done_refused s (ap (λ (o : Reading). o.answer) e))
read_same (Err r) (Ok l) T U m n e = absurd (done_refused r (sym (ap (λ (o : Reading). o.answer) e)))
read_same (Err r) (Err s) T U m n e = ap (λ (x : Refusal). Err x) (refusal_one r s (ap (λ (o : Reading). o.answer) e))

read_cells : (r : Result Contents Refusal) (T : Tables) (m : List ℕ) → (read_of r T m).cells ≡ T
read_cells (Ok k) T m = refl
read_cells (Err r) T m = refl

read_samples : (r : Result Contents Refusal) (T : Tables) (m : List ℕ) → (read_of r T m).samples ≡ m
read_samples (Ok k) T m = refl
read_samples (Err r) T m = refl

pub read_one : (r s : Result Contents Refusal) (T U : Tables) (m n : List ℕ) → read_of r T m ≡ read_of s U n → (r ≡ s) × (T ≡ U) × (m ≡ n)
read_one r s T U m n e = (
  read_same r s T U m n e,
  sym (read_cells r T m) ∙ ap (λ (o : Reading). o.cells) e ∙ read_cells s U n,
  sym (read_samples r T m) ∙ ap (λ (o : Reading). o.samples) e ∙ read_samples s U n,
)

-- ---- writing

written_same : (r s : Result ℕ Refusal) (m n : List ℕ) → written_of r m ≡ written_of s n → r ≡ s
written_same (Ok k) (Ok l) m n e = ap (λ (o : Writing). Ok o.bytes) e
written_same (Ok k) (Err s) m n e = absurd (done_refused s (ap (λ (o : Writing). o.answer) e))
written_same (Err r) (Ok l) m n e = absurd (done_refused r (sym (ap (λ (o : Writing). o.answer) e)))
written_same (Err r) (Err s) m n e = ap (λ (x : Refusal). Err x) (refusal_one r s (ap (λ (o : Writing). o.answer) e))

written_cells : (r : Result ℕ Refusal) (m : List ℕ) → (written_of r m).cells ≡ m
written_cells (Ok k) m = refl
written_cells (Err r) m = refl

pub written_one : (r s : Result ℕ Refusal) (m n : List ℕ) → written_of r m ≡ written_of s n → (r ≡ s) × (m ≡ n)
written_one r s m n e = (
  written_same r s m n e,
  sym (written_cells r m) ∙ ap (λ (o : Writing). o.cells) e ∙ written_cells s n,
)
