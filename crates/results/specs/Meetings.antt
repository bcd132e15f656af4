-- The letter, "every sample, every place where sampled lineages meet .. and nothing more": the node table of a cleaning is just these.
use Rattle.std.specs.Prelude.{◌≡◌, true, List, ◌⊎◌}
use Rattle.std.proofs.Math.Path.{refl}
use Rattle.std.proofs.Common.{sym, ap, subst, ◌∙◌, arith}
use Rattle.std.proofs.Math.Logic.{inl, inr}
use Prim.Native.Nat.{ℕ, ◌<◌}
use Rattle.meaning.specs.Words.{mem}
use Rattle.meaning.specs.Rows.{Tables, Record, births, record_of, time_of}
use Rattle.meaning.specs.Forest.{parent_in, stands}
use Rattle.meaning.specs.Answer.{Limits}
use Rattle.meaning.specs.Clean.{stands_at, kept, clean, cleaned, clean_answer}
use Rattle.laws.specs.Facts.{In, CleanOk}
use Rattle.forest.specs.Profile.{stands_profile}
use Rattle.forest.specs.Mrca.{Mrca}
use Rattle.history.specs.Kept.{kept_cases, chosen, somewhere}
use Rattle.history.specs.Guests.{common_kept}
use Rattle.accepted.specs.Refusals.{Accepted}
use Rattle.accepted.specs.Records.{Young}
use Rattle.accepted.specs.Calls.{clean_accepted}
use Rattle.results.specs.Trees.{tree_at, Vertex, drawn_induced, stands_vertex}
use Rattle.results.specs.Cleaning.{cleaned_means, cleaned_births}
use Rattle.results.specs.Marginal.{given_aged, given_nodes}

-- the lines from two samples, s and t, meet in b at position x of the chromosome
pub record Meeting (L : ℕ) (T : Tables) (S : List ℕ) (b : ℕ) : Type 0 where
  pub x : ℕ
  pub on : x < L
  pub s : ℕ
  pub t : ℕ
  pub one : In S s
  pub other : In S t
  pub meets : Mrca (tree_at L T x) s t b

module _ (m : Limits) (L : ℕ) (T : Tables) (S : List ℕ) (out : Tables) (out_map : List ℕ) (cells : ℕ)
    (accept : Accepted (clean_answer stands m L T S out out_map cells)) (young : Young T.nodes) where
  ok : CleanOk (record_of L T) S
  ok = clean_accepted stands m L T S out out_map cells accept young

  the_births : (cleaned stands L T S).nodes.birth ≡ kept stands (record_of L T) S
  the_births = cleaned_births stands stands_profile m L T S out out_map cells accept young

  same_length : (record_of L T).len ≡ L
  unfolding record_of
  same_length = refl

  -- where two samples' lines meet is an output node, and they meet there in the output too
  pub meeting_kept : (x : ℕ) → x < L → (s t b : ℕ) → In S s → In S t → Mrca (tree_at L T x) s t b → (mem b (cleaned stands L T S).nodes.birth ≡ true) × Mrca (tree_at L (cleaned stands L T S) x) s t b
  meeting_kept x l s t b h k q =
      let p : _ = common_kept stands stands_profile S (record_of L T) ok x (omega (arith, same_length)) s t h k b q in
      (ap (mem b) the_births ∙ p.0, subst (λ (X : Record). Mrca (parent_in X.edges x) s t b) (sym (cleaned_means stands stands_profile m L T S out out_map cells accept young)) p.1)

  -- an output node is a sample, or a place where two samples' lines meet
  pub only_meetings : (b : ℕ) → mem b (cleaned stands L T S).nodes.birth ≡ true → (mem b S ≡ true) ⊎ Meeting L T S b
  unfolding stands_at
  only_meetings b h = go (kept_cases stands (record_of L T) S b (sym (ap (mem b) the_births) ∙ h))
    where
      go : (mem b S ≡ true) ⊎ ((mem b (births (record_of L T).nodes) ≡ true) × (chosen stands (record_of L T) S b ≡ true)) → (mem b S ≡ true) ⊎ Meeting L T S b
      go (inl s) = inl s
      go (inr c) =
          let r : _ = somewhere stands (record_of L T) S b c.1 in
          let x : ℕ = r.0 in
          let v : _ = stands_vertex (tree_at L T x) (time_of (record_of L T).nodes) (given_aged m L T S out out_map cells accept young x) (births (record_of L T).nodes) (given_nodes m L T S out out_map cells accept young x) S b r.2 in
          let q : _ = (drawn_induced (tree_at L T x) (time_of (record_of L T).nodes) (given_aged m L T S out out_map cells accept young x) (births (record_of L T).nodes) (given_nodes m L T S out out_map cells accept young x) S).only b v in
          inr (record { x = x; on = omega (arith, same_length, r.1); s = q.0; t = q.1; one = q.2; other = q.3; meets = q.4 })
