-- The fish that a cleaning keeps: the samples, then every other that stands somewhere, each once.
use Rattle.std.specs.Prelude.{◌≡◌, Bool, true, false, not, List, ◌⊎◌, ℕ, ◌<◌}
use Rattle.std.proofs.Common.{sym, ◌∙◌}
use Rattle.std.proofs.Math.Logic.{inl, inr, ⊎_elim}
use Rattle.meaning.specs.Words.{and, mem, filter, any_below}
use Rattle.meaning.specs.Rows.{Record, births, time_of}
use Rattle.meaning.specs.Forest.{Rules}
use Rattle.meaning.specs.Clean.{before, stands_at, others, kept}
use Rattle.laws.specs.Bools.{clash, truth, and_of, and_yes, not_of}
use Rattle.laws.specs.Counting.{below_of, of_below}
use Rattle.laws.specs.Members.{mem_left, mem_right, mem_split}
use Rattle.laws.specs.Facts.{In, Distinct}
use Rattle.history.specs.Order.{Sorted, mem_sort, sort_sorted, sorted_distinct, before_order}
use Rattle.history.specs.Lists.{filter_of, of_filter, filter_distinct, distinct_join}

module _ (rule : Rules) (R : Record) (S : List ℕ) where
  -- no sample, and stands somewhere
  abbrev pub chosen : ℕ → Bool
  chosen b = and (not (mem b S)) (any_below (λ x. stands_at rule R S x b) R.len)

  pub not_sample : (b : ℕ) → chosen b ≡ true → mem b S ≡ false
  not_sample b h = not_of (mem b S) (and_of (not (mem b S)) (any_below (λ x. stands_at rule R S x b) R.len) h).0

  pub somewhere : (b : ℕ) → chosen b ≡ true → (x : ℕ) × (x < R.len) × (stands_at rule R S x b ≡ true)
  somewhere b h = below_of (λ x. stands_at rule R S x b) R.len (and_of (not (mem b S)) (any_below (λ x. stands_at rule R S x b) R.len) h).1

  pub of_somewhere : (b x : ℕ) → mem b S ≡ false → x < R.len → stands_at rule R S x b ≡ true → chosen b ≡ true
  of_somewhere b x m l k = and_yes {a = not (mem b S)} (rw m) (of_below (λ x. stands_at rule R S x b) R.len x l k)

  mem_others : (b : ℕ) → mem b (others rule R S) ≡ mem b (filter chosen (births R.nodes))
  unfolding others
  mem_others b = mem_sort (before (time_of R.nodes)) b (filter chosen (births R.nodes))

  pub others_of : (b : ℕ) → mem b (others rule R S) ≡ true → (mem b (births R.nodes) ≡ true) × (chosen b ≡ true)
  others_of b h = filter_of chosen b (births R.nodes) (sym (mem_others b) ∙ h)

  pub of_others : (b : ℕ) → mem b (births R.nodes) ≡ true → chosen b ≡ true → mem b (others rule R S) ≡ true
  of_others b m h = mem_others b ∙ of_filter chosen b (births R.nodes) m h

  pub others_sorted : Distinct (births R.nodes) → Sorted (before (time_of R.nodes)) (others rule R S)
  unfolding others
  others_sorted d = sort_sorted (before (time_of R.nodes)) (before_order (time_of R.nodes)) (filter chosen (births R.nodes)) (filter_distinct chosen (births R.nodes) d)

  pub others_distinct : Distinct (births R.nodes) → Distinct (others rule R S)
  others_distinct d = sorted_distinct (before (time_of R.nodes)) (before_order (time_of R.nodes)) (others_sorted d)

  pub kept_distinct : Distinct (births R.nodes) → Distinct S → Distinct (kept rule R S)
  unfolding kept
  kept_distinct d e = distinct_join S (others rule R S) e (others_distinct d) (λ c i j. clash i (not_sample c (others_of c j).1))

  pub kept_cases : (b : ℕ) → mem b (kept rule R S) ≡ true → (mem b S ≡ true) ⊎ ((mem b (births R.nodes) ≡ true) × (chosen b ≡ true))
  unfolding kept
  kept_cases b h = ⊎_elim (λ i. inl i) (λ (i : mem b (others rule R S) ≡ true). inr (others_of b i)) (mem_split b S (others rule R S) h)

  -- what is kept was in the record
  pub kept_old : ((s : ℕ) → In S s → mem s (births R.nodes) ≡ true) → (b : ℕ) → mem b (kept rule R S) ≡ true → mem b (births R.nodes) ≡ true
  kept_old listed b h = ⊎_elim (λ (m : mem b S ≡ true). listed b m) (λ (m : (mem b (births R.nodes) ≡ true) × (chosen b ≡ true)). m.0) (kept_cases b h)

  pub sample_kept : (b : ℕ) → mem b S ≡ true → mem b (kept rule R S) ≡ true
  unfolding kept
  sample_kept b m = mem_left b S (others rule R S) m

  pub standing_kept : (b x : ℕ) → mem b (births R.nodes) ≡ true → x < R.len → stands_at rule R S x b ≡ true → mem b (kept rule R S) ≡ true
  unfolding kept
  standing_kept b x i l k = ⊎_elim
      (λ (m : mem b S ≡ true). mem_left b S (others rule R S) m)
      (λ (m : mem b S ≡ false). mem_right b S (others rule R S) (of_others b i (of_somewhere b x m l k)))
      (truth (mem b S))
