-- A cleaning's outcome fixes the code's answer, the tables and the map, so no two outcomes meet the promise of `cleaner::clean`.
use Rattle.std.specs.Prelude.{◌≡◌, refl, List, ℕ, Ok, Err}
use Rattle.std.proofs.Common.{sym, ap, ◌∙◌}
use Rattle.meaning.specs.Rows.{Tables}
use Rattle.meaning.specs.Answer.{done, accepted, refusal_of}
use Rattle.meaning.specs.Lent.{Counts}
use Rattle.meaning.specs.Clean.{Outcome, outcome_of}
use Rattle.meaning.specs.declared.Refusal.{Refusal}
use Rattle.laws.specs.Bools.{clash}
use Rattle.accepted.specs.Numbers.{refusal_one, refusal_refuses}
use Rattle.meaning.specs.Lent.{Tabled}
use Rattle.meaning.specs.declared.Refusal.{Refusal}

-- an answer 0 is no refusal
pub done_refused : (r : Refusal) → done ≡ refusal_of r → ⊥
unfolding accepted
done_refused r e = clash (sym (ap accepted e)) (refusal_refuses r)

-- the answer Done with such counts
abbrev done_with : Counts → Tabled
done_with c = Ok (record { nodes = c.nodes; edges = c.edges; sites = c.sites; mutations = c.mutations })

cleaned_same : (r s : Tabled) (T U : Tables) (m n : List ℕ) → outcome_of r T m ≡ outcome_of s U n → r ≡ s
cleaned_same (Ok a) (Ok b) T U m n e = ap (λ (o : Outcome). done_with o.counts) e
cleaned_same (Ok a) (Err s) T U m n e = absurd (done_refused s (ap (λ (o : Outcome). o.answer) e))
cleaned_same (Err r) (Ok a) T U m n e = absurd (done_refused r (sym (ap (λ (o : Outcome). o.answer) e)))
cleaned_same (Err r) (Err s) T U m n e = ap (λ (q : Refusal). Err q) (refusal_one r s (ap (λ (o : Outcome). o.answer) e))

outcome_cells : (r : Tabled) (T : Tables) (m : List ℕ) → (outcome_of r T m).cells ≡ T
outcome_cells (Ok a) T m = refl
outcome_cells (Err r) T m = refl

outcome_map : (r : Tabled) (T : Tables) (m : List ℕ) → (outcome_of r T m).map ≡ m
outcome_map (Ok a) T m = refl
outcome_map (Err r) T m = refl

-- equal outcomes: one answer, the same tables, the same map
pub cleaned_one : (r s : Tabled) (T U : Tables) (m n : List ℕ) → outcome_of r T m ≡ outcome_of s U n → (r ≡ s) × (T ≡ U) × (m ≡ n)
cleaned_one r s T U m n e = (
  cleaned_same r s T U m n e,
  sym (outcome_cells r T m) ∙ ap (λ (o : Outcome). o.cells) e ∙ outcome_cells s U n,
  sym (outcome_map r T m) ∙ ap (λ (o : Outcome). o.map) e ∙ outcome_map s U n,
)
