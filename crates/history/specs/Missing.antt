-- M-103: a sample that is missing at a site is missing there in the cleaned record too. (Cleaning can isolate a fish, so not the other way round.)
use Rattle.std.specs.Prelude.{◌≡◌, Bool, true, not, ◌⊎◌, ℕ, ◌<◌, eqb, leb, ltb}
use Rattle.std.proofs.Math.Path.{refl, ap}
use Rattle.std.proofs.Common.{sym, ◌∙◌, inl, inr}
use Rattle.std.proofs.Math.Bool.{false}
use mathlib.Core.List.{List, [], ◌∷◌}
use Rattle.std.proofs.Math.Option.{Option, none, some}
use Rattle.std.proofs.Math.Logic.{⊎_elim}
use borrow.Author.Tests.{eqb-true, eq-eqb, leb-true, le-leb, ltb-true, lt-ltb}
use Rattle.meaning.specs.Words.{and, or, any}
use Rattle.meaning.specs.Rows.{Edge, Record, births, pos_of, state_of}
use Rattle.meaning.specs.Forest.{Par, Ages, Rules, parent_in, drawn}
use Rattle.meaning.specs.Clean.{clean}
use Rattle.meaning.specs.Allele.{carries, allele_at, found, has_parent, under, has_child, missing_at}
use Rattle.laws.specs.Bools.{clash, truth, and_of, or_no, not_of, none_some}
use Rattle.laws.specs.Counting.{any_hit, any_miss}
use Rattle.laws.specs.Facts.{In, Any, now, later, Cov, CleanOk}
use Rattle.forest.specs.Lines.{Above, here, step, child_to}
use Rattle.forest.specs.Contract.{Near, on, Low, near_above}
use Rattle.forest.specs.TreeLaws.{near_of}
use Rattle.forest.specs.Profile.{Profile}
use Rattle.history.specs.Encode.{parent_of}
use Rattle.history.specs.Cleaned.{clean_parent, clean_edge, drawn_at}
use Rattle.history.specs.Alleles.{Settled, carrier, allele_none, came}

-- ---- a child at a position

module _ (x q : ℕ) where
  under_of : (v : ℕ) (e : Edge) → Cov x v q e → under x q e ≡ true
  unfolding under
  under_of v e c = rw (eq-eqb e.parent q c.to_parent, le-leb e.left x c.begun) (lt-ltb x e.right c.not_over)

  of_under : (e : Edge) → under x q e ≡ true → Cov x e.child q e
  unfolding under
  of_under e h =
      let a : _ = and_of (eqb e.parent q) (and (leb e.left x) (ltb x e.right)) h in
      let b : _ = and_of (leb e.left x) (ltb x e.right) a.1 in
      record { of_child = refl; begun = leb-true e.left x b.0; not_over = ltb-true x e.right b.1; to_parent = eqb-true e.parent q a.0 }

  -- whose edge holds at x is a child
  pub child_there : (v : ℕ) (l : List Edge) → Any (Cov x v q) l → has_child l x q ≡ true
  unfolding has_child
  child_there v [] x'' = elim x'' [ ]
  child_there v (e ∷ l) (now c) = any_hit (under x q) e l (under_of v e c)
  child_there v (e ∷ l) (later a) = ⊎_elim (λ (t : under x q e ≡ true). any_hit (under x q) e l t) (λ (t : under x q e ≡ false). any_miss (under x q) e l t ∙ child_there v l a) (truth (under x q e))

  -- and a child has such an edge
  pub a_child : (l : List Edge) → has_child l x q ≡ true → (v : ℕ) × Any (Cov x v q) l
  unfolding has_child any
  a_child [] h = absurd (clash h refl)
  a_child (e ∷ l) h = ⊎_elim
      (λ (t : under x q e ≡ true). (e.child, now (of_under e t)))
      (λ (t : under x q e ≡ false). let r : _ = a_child l (sym (any_miss (under x q) e l t) ∙ h) in (r.0, later r.1))
      (truth (under x q e))

-- ---- what missing says

pub record Alone (R : Record) (i b : ℕ) : Type 0 where
  pub no_parent : parent_in R.edges (pos_of R.sites i) b ≡ none
  pub no_child : has_child R.edges (pos_of R.sites i) b ≡ false
  pub no_mutation : carries R.muts i b ≡ false

module _ (R : Record) (i b : ℕ) where
  abbrev x : ℕ
  x = pos_of R.sites i

  pub alone_of : missing_at R i b ≡ true → Alone R i b
  unfolding missing_at has_parent
  alone_of h =
      let n : _ = not_of (or (found (parent_in R.edges x b)) (or (has_child R.edges x b) (carries R.muts i b))) h in
      let p : _ = or_no (found (parent_in R.edges x b)) (or (has_child R.edges x b) (carries R.muts i b)) n in
      let c : _ = or_no (has_child R.edges x b) (carries R.muts i b) p.1 in
      record { no_parent = nowhere (parent_in R.edges x b) p.0; no_child = c.0; no_mutation = c.1 }
    where
      nowhere : (o : Option ℕ) → found o ≡ false → o ≡ none
      nowhere none e = refl
      nowhere (some p) e = absurd (clash (unfold found in refl) e)

  pub of_alone : Alone R i b → missing_at R i b ≡ true
  unfolding missing_at has_parent found
  of_alone a = rw (a.no_parent, a.no_child, a.no_mutation)

  -- what is missing would have the ancestral state, had it one
  pub alone_state : Alone R i b → allele_at R i b ≡ state_of R.sites i
  alone_state a = allele_none R i b (go (carrier R i b) refl)
    where
      nobody : (w : ℕ) → Near (parent_in R.edges x) (carries R.muts i) w b → ⊥
      nobody w (Near.found c) = clash c a.no_mutation
      nobody w (on c e n) = none_some a.no_parent e

      go : (o : Option ℕ) → carrier R i b ≡ o → o ≡ none
      go none e = refl
      go (some w) e = absurd (nobody w (near_of (parent_in R.edges x) (carries R.muts i) Ages w b e))

-- ---- and of the cleaned record

module _ (rule : Rules) (pr : Profile rule) (R : Record) (S : List ℕ) (ok : CleanOk R S) (st : Settled R) (i s : ℕ) (inside : pos_of R.sites i < R.len) (a : Alone R i s) where
  abbrev y : ℕ
  y = pos_of R.sites i

  abbrev P : Par
  P = parent_in R.edges y

  abbrev K : ℕ → Bool
  K = rule (births R.nodes) P S

  abbrev C : Record
  C = clean rule S R

  no_drawn : (o : Option ℕ) → drawn P K s ≡ o → o ≡ none
  no_drawn none e = refl
  no_drawn (some w) e = absurd (none_some a.no_parent ((drawn_at rule pr R S ok y).into e).1)

  -- a child of s after cleaning hangs, in the input, on a line that comes to s by a child of s
  no_drawn_child : (v : ℕ) → drawn P K v ≡ some s → ⊥
  no_drawn_child v e =
      let u : _ = (drawn_at rule pr R S ok y).into e in
      ⊎_elim
      (λ (q : s ≡ u.0). clash (child_there y s v R.edges (parent_of y v R.edges s (u.1 ∙ ap some (sym q)))) a.no_child)
      (λ (c : (c : ℕ) × (P c ≡ some s) × Above P c u.0). clash (child_there y s c.0 R.edges (parent_of y c.0 R.edges s c.1)) a.no_child)
      (child_to (near_above u.2))

  -- a mutation of s after cleaning was on s, or on an ancestor of s
  no_moved : (u : ℕ) → carries R.muts i u ≡ true → Above P u s → ⊥
  no_moved u c here = clash c a.no_mutation
  no_moved u c (step e z) = none_some a.no_parent e

  clean_alone : Alone C i s
  unfolding clean
  clean_alone = record {
    no_parent = ap (λ (F : Par). F s) (clean_parent rule pr R S ok y inside) ∙ no_drawn (drawn P K s) refl;
    no_child = ⊎_elim
        (λ (h : has_child C.edges y s ≡ true). let c : _ = a_child y s C.edges h in absurd (no_drawn_child c.0 (clean_edge rule pr R S ok y c.0 s c.1).1))
        (λ (h : has_child C.edges y s ≡ false). h)
        (truth (has_child C.edges y s));
    no_mutation = ⊎_elim
        (λ (h : carries C.muts i s ≡ true). let r : _ = came rule pr R S ok st i s h in absurd (no_moved r.0 r.1 r.2.below))
        (λ (h : carries C.muts i s ≡ false). h)
        (truth (carries C.muts i s));
  }

module _ (rule : Rules) (pr : Profile rule) (R : Record) (S : List ℕ) (ok : CleanOk R S) (st : Settled R) (i s : ℕ) (inside : pos_of R.sites i < R.len) where
  -- what is missing stays missing; s need not be a sample
  pub clean_missing : missing_at R i s ≡ true → missing_at (clean rule S R) i s ≡ true
  clean_missing h = of_alone (clean rule S R) i s (clean_alone rule pr R S ok st i s inside (alone_of R i s h))
