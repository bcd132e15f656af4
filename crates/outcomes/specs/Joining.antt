-- A join's outcome fixes the code's answer and the tables, so no two outcomes meet the promise of `joiner::join`.
use Rattle.std.specs.Prelude.{◌≡◌, refl, Ok, Err}
use Rattle.std.proofs.Common.{sym, ap, ◌∙◌}
use Rattle.meaning.specs.Rows.{Tables}
use Rattle.meaning.specs.Lent.{Counts}
use Rattle.meaning.specs.Join.{JoinOutcome, joined_of}
use Rattle.accepted.specs.Numbers.{refusal_one}
use Rattle.meaning.specs.Lent.{Tabled}
use Rattle.meaning.specs.declared.Refusal.{Refusal}
use Rattle.outcomes.specs.Cleaning.{done_refused}

-- the answer Done with such counts
abbrev done_with : Counts → Tabled
done_with c = Ok (record { nodes = c.nodes; edges = c.edges; sites = c.sites; mutations = c.mutations })

joined_same : (r s : Tabled) (T U : Tables) → joined_of r T ≡ joined_of s U → r ≡ s
joined_same (Ok a) (Ok b) T U e = ap (λ (o : JoinOutcome). done_with o.counts) e
joined_same (Ok a) (Err s) T U e = absurd (done_refused s (ap (λ (o : JoinOutcome). o.answer) e))
joined_same (Err r) (Ok a) T U e = absurd (done_refused r (sym (ap (λ (o : JoinOutcome). o.answer) e)))
joined_same (Err r) (Err s) T U e = ap (λ (q : Refusal). Err q) (refusal_one r s (ap (λ (o : JoinOutcome). o.answer) e))

joined_cells : (r : Tabled) (T : Tables) → (joined_of r T).cells ≡ T
joined_cells (Ok a) T = refl
joined_cells (Err r) T = refl

-- equal outcomes: one answer, the same tables
pub joined_one : (r s : Tabled) (T U : Tables) → joined_of r T ≡ joined_of s U → (r ≡ s) × (T ≡ U)
joined_one r s T U e = (
  joined_same r s T U e,
  sym (joined_cells r T) ∙ ap (λ (o : JoinOutcome). o.cells) e ∙ joined_cells s U,
)
