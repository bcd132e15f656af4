-- What the allele call answers, from the row of the birth number.
use mathlib.Core.Path.{◌≡◌, sym, ap, ◌∙◌}
use Prim.Native.Nat.{ℕ, ◌<◌}
use lib.ListN.{length}
use Rattle.std.specs.Prelude.{Some, None}
use Rattle.meaning.specs.Words.{at, place_in}
use Rattle.meaning.specs.Rows.{Tables}
use Rattle.meaning.specs.Answer.{Stated, answer, done, unread}
use Rattle.order.specs.Ranks.{place_in-some, place_in-none}
use Rattle.alleles.specs.Call.{read_of, read_allele, no_birth, reads}

module _ (L : ℕ) (T : Tables) (b : ℕ) where
  pub answer_read : (u : ℕ) → Some u ≡ place_in b T.nodes.birth → (i : ℕ) (s : Stated) → i < length T.sites.position → s ≡ read_of L T i (at T.nodes.birth u) done → s ≡ read_allele L T i b
  answer_read u e i s h f =
      let w : _ = place_in-some b T.nodes.birth u e in
      f ∙ ap (λ (b : ℕ). read_of L T i b done) w.2 ∙ sym (reads L T i b h w.3)

  pub answer_no_birth : None ≡ place_in b T.nodes.birth → (i : ℕ) → i < length T.sites.position → ◌≡◌ {A = Stated} (unread (answer 42 0)) (read_allele L T i b)
  answer_no_birth e i h = sym (no_birth L T i b h (place_in-none b T.nodes.birth e).1)
