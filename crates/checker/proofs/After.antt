-- A check of several groups is one group after another: what a caller that goes on after 0 leans on.
use mathlib.Core.Path.{◌≡◌, refl, sym, ap, ◌∙◌}
use mathlib.Core.Bool.{Bool, true, false}
use mathlib.Core.List.{List}
use Prim.Native.Nat.{ℕ}
use lib.Dec.{eqb, ltb}
use lib.ListN.{length}
use Rattle.meaning.specs.Words.{lowest}
use Rattle.meaning.specs.Rows.{NodeColumns, EdgeColumns, Tables}
use Rattle.meaning.specs.Answer.{Answer, Limits, done, refuse, refuse_row, accepted, refusal_of, checked_of}
use Rattle.meaning.specs.declared.Refusal.{Refusal}
use Rattle.meaning.specs.declared.Refusal.TheVariants.{Ragged, TooMany, Length, BirthRepeated, EdgeBroken, EdgeOrder, EdgeShared, SiteBroken, MutationBroken, MutationAbove, SampleUnknown, SampleRepeated, NoRoom, BatchRagged, BatchTooMany, BatchBirth, BatchEdge, BatchShared, BatchMutation, BatchAbove, MarkWrong, BytesEnd, BytesFollow, RowsOver, EdgeWide, MutationWide, Populated, NoSite, NoBirth}
use Rattle.meaning.specs.Answer.{Checked}
use Rattle.std.specs.Prelude.{Ok, Err}
use Rattle.meaning.specs.Check.{shapes, sizes, length_broken, tree_rules, site_rules, rules, check_then, sample_rules, check_all_then}
use Rattle.checker.specs.Then.{after}

pub after_sound : (rest : Answer) → after done rest ≡ rest
unfolding after accepted
after_sound rest = refl

pub after_refused : {a : Answer} (rest : Answer) → accepted a ≡ false → after a rest ≡ a
unfolding after
after_refused rest e = rw (e, after)

-- ---- a rule hands on what comes after

module _ (a rest : Answer) where
  refuse_after : (t : Bool) (n r : ℕ) → eqb n 0 ≡ false → refuse t n r (after a rest) ≡ after (refuse t n r a) rest
  unfolding refuse after accepted
  refuse_after true n r e = sym (after_refused rest e)
  refuse_after false n r e = refl

  row_after : (n : ℕ) (f : ℕ → Bool) (m : ℕ) → eqb n 0 ≡ false → refuse_row n f m (after a rest) ≡ after (refuse_row n f m a) rest
  unfolding refuse_row
  row_after n f m e = refuse_after (ltb (lowest f m) m) n (lowest f m) e

-- ---- and so does a group

pub shapes_after : (T : Tables) (a rest : Answer) → shapes T (after a rest) ≡ after (shapes T a) rest
unfolding shapes
shapes_after T a rest = simp refuse_after

pub sizes_after : (m : Limits) (T : Tables) (a rest : Answer) → sizes m T (after a rest) ≡ after (sizes m T a) rest
unfolding sizes
sizes_after m T a rest = simp refuse_after

pub tree_after : (L : ℕ) (N : NodeColumns) (E : EdgeColumns) (a rest : Answer) → tree_rules L N E (after a rest) ≡ after (tree_rules L N E a) rest
unfolding tree_rules
tree_after L N E a rest = simp row_after

pub sites_after : (L : ℕ) (T : Tables) (a rest : Answer) → site_rules L T (after a rest) ≡ after (site_rules L T a) rest
unfolding site_rules
sites_after L T a rest = simp row_after

pub samples_after : (birth S : List ℕ) (a rest : Answer) → sample_rules birth S (after a rest) ≡ after (sample_rules birth S a) rest
unfolding sample_rules
samples_after birth S a rest = simp row_after

pub rules_after : (L : ℕ) (T : Tables) (a rest : Answer) → rules L T (after a rest) ≡ after (rules L T a) rest
unfolding rules
rules_after L T a rest =
    ap (λ x. refuse (length_broken L) 3 0 (tree_rules L T.nodes T.edges x)) (sites_after L T a rest)
    ∙ ap (refuse (length_broken L) 3 0) (tree_after L T.nodes T.edges (site_rules L T a) rest)
    ∙ refuse_after (tree_rules L T.nodes T.edges (site_rules L T a)) rest (length_broken L) 3 0 refl

pub tables_after : (m : Limits) (L : ℕ) (T : Tables) (a rest : Answer) → check_then m L T (after a rest) ≡ after (check_then m L T a) rest
unfolding check_then
tables_after m L T a rest =
    ap (λ x. shapes T (sizes m T x)) (rules_after L T a rest)
    ∙ ap (shapes T) (sizes_after m T (rules L T a) rest)
    ∙ shapes_after T (sizes m T (rules L T a)) rest

pub all_after : (m : Limits) (L : ℕ) (T : Tables) (S : List ℕ) (a rest : Answer) → check_all_then m L T S (after a rest) ≡ after (check_all_then m L T S a) rest
unfolding check_all_then
all_after m L T S a rest =
    let samples : Answer = sample_rules T.nodes.birth S a in
    let few : Answer = refuse (ltb m.samples (length S)) 2 5 (rules L T samples) in
    ap (λ x. shapes T (sizes m T (refuse (ltb m.samples (length S)) 2 5 (rules L T x)))) (samples_after T.nodes.birth S a rest)
    ∙ ap (λ x. shapes T (sizes m T (refuse (ltb m.samples (length S)) 2 5 x))) (rules_after L T samples rest)
    ∙ ap (λ x. shapes T (sizes m T x)) (refuse_after (rules L T samples) rest (ltb m.samples (length S)) 2 5 refl)
    ∙ ap (shapes T) (sizes_after m T few rest)
    ∙ shapes_after T (sizes m T few) rest

-- ---- a call that goes on after a check: its answer is the check's, or what comes after

-- the group hands on what comes after it
abbrev pub Hands : (Answer → Answer) → Type 0
Hands G = (rest : Answer) → G rest ≡ after (G done) rest

pub hands : (G : Answer → Answer) → ((a rest : Answer) → G (after a rest) ≡ after (G a) rest) → Hands G
hands G h rest = ap G (sym (after_sound rest)) ∙ h done rest

-- a refusal is no 0
pub refused : (r : Refusal) → accepted (refusal_of r) ≡ false
unfolding accepted
refused r = elim r as (λ k. accepted (refusal_of k) ≡ false) [
  | Ragged t ↦ refl
  | TooMany t ↦ refl
  | Length ↦ refl
  | BirthRepeated i ↦ refl
  | EdgeBroken i ↦ refl
  | EdgeOrder i ↦ refl
  | EdgeShared i ↦ refl
  | SiteBroken i ↦ refl
  | MutationBroken i ↦ refl
  | MutationAbove i ↦ refl
  | SampleUnknown i ↦ refl
  | SampleRepeated i ↦ refl
  | NoRoom t ↦ refl
  | BatchRagged t ↦ refl
  | BatchTooMany t ↦ refl
  | BatchBirth i ↦ refl
  | BatchEdge i ↦ refl
  | BatchShared i ↦ refl
  | BatchMutation i ↦ refl
  | BatchAbove i ↦ refl
  | MarkWrong o ↦ refl
  | BytesEnd o ↦ refl
  | BytesFollow o ↦ refl
  | RowsOver o ↦ refl
  | EdgeWide i ↦ refl
  | MutationWide i ↦ refl
  | Populated i ↦ refl
  | NoSite ↦ refl
  | NoBirth ↦ refl
]

module _ (G : Answer → Answer) (h : Hands G) (c : Checked) (e : checked_of c ≡ G done) where
  -- the group refused, so its answer is the whole's
  pub stops : (r : Refusal) → c ≡ Err r → (rest : Answer) → checked_of c ≡ G rest
  stops r q rest = e ∙ sym (h rest ∙ after_refused rest (ap accepted (sym e ∙ ap checked_of q) ∙ refused r))

  -- the group did not refuse, so the whole is what comes after
  pub goes_on : c ≡ Ok tt → (rest : Answer) → G rest ≡ rest
  goes_on q rest = h rest ∙ ap (λ a. after a rest) (sym e ∙ ap checked_of q) ∙ after_sound rest

  pub was_sound : c ≡ Ok tt → accepted (G done) ≡ true
  unfolding accepted
  was_sound q = ap accepted (sym e ∙ ap checked_of q)
