-- Laws for the chain of kinds: each step that ends leads on to the next, and a refusal is the answer of the whole.
use mathlib.Core.Path.{◌≡◌, sym, ap, subst, ◌∙◌}
use mathlib.Core.Bool.{true, false, not}
use mathlib.Core.List.{List}
use Prim.Native.Nat.{ℕ, ◌<◌, ◌≤◌}
use native.Mathlib.Omega.{arith}
use borrow.Author.Tests.{lt-ltb, le-ltb}
use lib.ListN.{length}
use Rattle.std.specs.Prelude.{Result, Ok, Err}
use Rattle.meaning.specs.Answer.{Answer, answer, stored_limits, refusal_of}
use Rattle.meaning.specs.declared.Refusal.{Refusal}
use Rattle.meaning.specs.Stored.{Kind, is_mark, size, rows_at, after, kind_then, end_then, kinds_then, form, form_then, kinds}
use Rattle.form.specs.Refusals.{refuse_no, refuse_yes}
use Rattle.form.specs.Posts.{Stretched, Stepped, EndScanned, KindsScanned, Scanned}
use Rattle.form.specs.declared.Stretch.{Stretch}
use Rattle.form.specs.declared.Layout.{Layout}
use Rattle.form.proofs.Walking.{ends_within}

-- a step that ended: its stretch, and that the next kind is read from its end on
pub record Went (k : Kind) (z : ℕ) (s : List ℕ) (o : ℕ) (w : Stretch) : Type 0 where
  pub stretched : Stretched k.first k.second z k.most s o w
  pub next : w.end ≡ after k s o
  pub on : (rest : Answer) → kind_then k s o rest ≡ rest

-- the step of the kind k, whose records have z bytes, from where the one before ended
module _ (k : Kind) (z : ℕ) (q : size k ≡ z) (s : List ℕ) (p o : ℕ) (e : p ≡ o) (r : Result Stretch Refusal) (f : Stepped k.first k.second z k.most s p r) where
  at_kind : Stepped k.first k.second (size k) k.most s o r
  at_kind = subst (λ j. Stepped k.first k.second j k.most s o r) (sym q) (subst (λ j. Stepped k.first k.second z k.most s j r) e f)

  pub went : (w : Stretch) → r ≡ Ok w → Went k z s o w
  unfolding Stepped kind_then rows_at after
  went w g =
      let h : Stepped k.first k.second (size k) k.most s o (Ok w) = subst (Stepped k.first k.second (size k) k.most s o) g at_kind in
      record {
        stretched = subst (λ j. Stretched k.first k.second j k.most s o w) q h.0;
        next = h.0.ends;
        on = h.1;
      }

  pub stopped : (x : Refusal) → r ≡ Err x → (rest : Answer) → kind_then k s o rest ≡ refusal_of x
  unfolding Stepped kind_then rows_at after
  stopped x g = subst (Stepped k.first k.second (size k) k.most s o) g at_kind

  -- what follows starts within the file
  pub went_within : (w : Stretch) → r ≡ Ok w → p ≤ length s → w.end ≤ length s
  unfolding Stepped
  went_within w g h = ends_within k.first k.second z k.most s p w (subst (Stepped k.first k.second z k.most s p) g f).0 h

pub end_went : (s : List ℕ) (p o : ℕ) → p ≡ o → (r : Result Unit Refusal) → EndScanned s p r → (w : Unit) → r ≡ Ok w → (rest : Answer) → end_then s o rest ≡ rest
unfolding EndScanned
end_went s p o e r f w g = subst (λ j. EndScanned s j (Ok w)) e (subst (EndScanned s p) g f)

pub end_stopped : (s : List ℕ) (p o : ℕ) → p ≡ o → (r : Result Unit Refusal) → EndScanned s p r → (x : Refusal) → r ≡ Err x → (rest : Answer) → end_then s o rest ≡ refusal_of x
unfolding EndScanned
end_stopped s p o e r f x g = subst (λ j. EndScanned s j (Err x)) e (subst (EndScanned s p) g f)

-- a refusal of the kinds, handed on
pub kinds_refused : (s : List ℕ) (r : Result Layout Refusal) (x : Refusal) → r ≡ Err x → ((rest : Answer) → kinds_then (kinds 2 stored_limits) s 6 rest ≡ refusal_of x) → KindsScanned s r
unfolding KindsScanned
kinds_refused s r x e h = subst (KindsScanned s) (sym e) h

-- ---- the first record

module _ (s : List ℕ) where
  pub file_empty : length s < 2 → (rest : Answer) → form_then (form 2 stored_limits) s rest ≡ answer 32 0
  unfolding form_then
  file_empty l rest = refuse_yes 32 0 _ (lt-ltb (length s) 2 l)

  pub file_wrong : 2 ≤ length s → is_mark 83 81 s 0 ≡ false → (rest : Answer) → form_then (form 2 stored_limits) s rest ≡ answer 31 0
  unfolding form_then form
  file_wrong l m rest = refuse_no 32 0 _ (le-ltb (length s) 2 l) ∙ refuse_yes 31 0 _ (ap not m)

  pub file_cut : 2 ≤ length s → is_mark 83 81 s 0 ≡ true → length s < 6 → (rest : Answer) → form_then (form 2 stored_limits) s rest ≡ answer 32 0
  unfolding form_then form
  file_cut l m h rest = refuse_no 32 0 _ (le-ltb (length s) 2 l) ∙ refuse_no 31 0 _ (ap not m) ∙ refuse_yes 32 0 _ (lt-ltb (length s) 6 h)

  file_on : 6 ≤ length s → is_mark 83 81 s 0 ≡ true → (rest : Answer) → form_then (form 2 stored_limits) s rest ≡ kinds_then (kinds 2 stored_limits) s 6 rest
  unfolding form_then form
  file_on l m rest = refuse_no 32 0 _ (le-ltb (length s) 2 (omega arith)) ∙ refuse_no 31 0 _ (ap not m) ∙ refuse_no 32 0 _ (le-ltb (length s) 6 l)

  pub file_kinds : 6 ≤ length s → is_mark 83 81 s 0 ≡ true → (r : Result Layout Refusal) → KindsScanned s r → Scanned s r
  unfolding KindsScanned Scanned
  file_kinds l m (Ok y) h = (h.0, l, λ rest. file_on l m rest ∙ h.1 rest)
  file_kinds l m (Err x) h = λ rest. file_on l m rest ∙ h rest
