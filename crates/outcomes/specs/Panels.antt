-- The outcome of a panel fixes the code's answer and every byte of both blocks.
use Rattle.std.specs.Prelude.{◌≡◌, refl, List, ℕ, Ok, Err}
use Rattle.std.proofs.Common.{sym, ap, ◌∙◌}
use Rattle.accepted.specs.Numbers.{refusal_one}
use Rattle.meaning.specs.Panel.{Panel, PanelOutcome, panel_of}
use Rattle.meaning.specs.declared.Refusal.{Refusal}
use Rattle.outcomes.specs.Cleaning.{done_refused}

panel_same : (r s : Panel) (a b m n : List ℕ) → panel_of r a b ≡ panel_of s m n → r ≡ s
panel_same (Ok k) (Ok l) a b m n e = ap (λ (o : PanelOutcome). Ok o.bytes) e
panel_same (Ok k) (Err s) a b m n e = absurd (done_refused s (ap (λ (o : PanelOutcome). o.answer) e))
panel_same (Err r) (Ok l) a b m n e = absurd (done_refused r (sym (ap (λ (o : PanelOutcome). o.answer) e)))
panel_same (Err r) (Err s) a b m n e = ap (λ (q : Refusal). Err q) (refusal_one r s (ap (λ (o : PanelOutcome). o.answer) e))

panel_states : (r : Panel) (a b : List ℕ) → (panel_of r a b).states ≡ a
panel_states (Ok k) a b = refl
panel_states (Err r) a b = refl

panel_flags : (r : Panel) (a b : List ℕ) → (panel_of r a b).flags ≡ b
panel_flags (Ok k) a b = refl
panel_flags (Err r) a b = refl

pub panel_one : (r s : Panel) (a b m n : List ℕ) → panel_of r a b ≡ panel_of s m n → (r ≡ s) × (a ≡ m) × (b ≡ n)
panel_one r s a b m n e = (
  panel_same r s a b m n e,
  sym (panel_states r a b) ∙ ap (λ (o : PanelOutcome). o.states) e ∙ panel_states s m n,
  sym (panel_flags r a b) ∙ ap (λ (o : PanelOutcome). o.flags) e ∙ panel_flags s m n,
)
