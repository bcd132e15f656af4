-- Demand 3 for tables: the last cleaned tables are equal row for row, with and without the cleanings in between.
use Rattle.std.specs.Prelude.{◌≡◌, List, [], ◌∷◌, ℕ}
use Rattle.std.proofs.Math.Path.{refl, sym, ap}
use Rattle.std.proofs.Common.{◌∙◌}
use Rattle.meaning.specs.Rows.{Tables, Record, record_of, tables_of}
use Rattle.meaning.specs.Forest.{Rules, stands}
use Rattle.meaning.specs.Clean.{clean, cleaned}
use Rattle.meaning.specs.Join.{BatchTables, batch_of, join, joined}
use Rattle.laws.specs.Facts.{Closed, JoinOk, CleanOk}
use Rattle.forest.specs.Profile.{Profile, stands_profile, line, line_profile}
use Rattle.history.specs.Cleaned.{clean_closed}
use Rattle.history.specs.Joined.{join_closed}
use Rattle.history.specs.Run.{run, plain, Accepted}
use Rattle.history.specs.Calls.{Call, joins, cleans, meant, plain_t, run_t, AcceptedT}
use Rattle.history.specs.RowForm.{there_back}
use Rattle.history.proofs.Run.{demand_three}

module _ (L : ℕ) where
  joined_means : (T : Tables) (B : BatchTables) → Closed (record_of L T) → JoinOk (record_of L T) (batch_of B) → record_of L (joined L T B) ≡ join (record_of L T) (batch_of B)
  unfolding joined
  joined_means T B c j = there_back L (join (record_of L T) (batch_of B)) same (join_closed (record_of L T) (batch_of B) c j)
    where
      same : (join (record_of L T) (batch_of B)).len ≡ L
      same = unfold join record_of in refl

  joined_closed : (T : Tables) (B : BatchTables) → Closed (record_of L T) → JoinOk (record_of L T) (batch_of B) → Closed (record_of L (joined L T B))
  joined_closed T B c j = rw (joined_means T B c j) (join_closed (record_of L T) (batch_of B) c j)

  module _ (rule : Rules) where
    module _ (pr : Profile rule) where
      cleaned_means : (T : Tables) (S : List ℕ) → CleanOk (record_of L T) S → record_of L (cleaned rule L T S) ≡ clean rule S (record_of L T)
      unfolding cleaned
      cleaned_means T S ok = there_back L (clean rule S (record_of L T)) same (clean_closed rule pr (record_of L T) S ok)
        where
          same : (clean rule S (record_of L T)).len ≡ L
          same = unfold clean record_of in refl

      cleaned_closed : (T : Tables) (S : List ℕ) → CleanOk (record_of L T) S → Closed (record_of L (cleaned rule L T S))
      cleaned_closed T S ok = rw (cleaned_means T S ok) (clean_closed rule pr (record_of L T) S ok)

      -- calls that are not refused are moves that are not refused
      accepted_means : (l : List Call) (S : List ℕ) (T P : Tables) → Closed (record_of L T) → Closed (record_of L P) → AcceptedT L rule l S T P → Accepted rule (meant l) S (record_of L T) (record_of L P)
      accepted_means [] S T P c d a = a
      accepted_means (joins B ∷ l) S T P c d a =
          let r : _ = accepted_means l S (joined L T B) (joined L P B) (joined_closed T B c a.2) (joined_closed P B d a.3) a.4 in
          (a.0, a.1, a.2, a.3, rw (joined_means T B c a.2) at (rw (joined_means P B d a.3) at r))
      accepted_means (cleans F ∷ l) S T P c d a =
          let r : _ = accepted_means l S (cleaned rule L T F) P (cleaned_closed T F a.0) d a.2 in
          (a.0, a.1, rw (cleaned_means T F a.0) at r)

      run_means : (l : List Call) (S : List ℕ) (T P : Tables) → Closed (record_of L T) → AcceptedT L rule l S T P → record_of L (run_t L rule l T) ≡ run rule (meant l) (record_of L T)
      run_means [] S T P c a = refl
      run_means (joins B ∷ l) S T P c a = run_means l S (joined L T B) (joined L P B) (joined_closed T B c a.2) a.4 ∙ ap (run rule (meant l)) (joined_means T B c a.2)
      run_means (cleans F ∷ l) S T P c a = run_means l S (cleaned rule L T F) P (cleaned_closed T F a.0) a.2 ∙ ap (run rule (meant l)) (cleaned_means T F a.0)

      plain_means : (l : List Call) (S : List ℕ) (T P : Tables) → Closed (record_of L P) → AcceptedT L rule l S T P → record_of L (plain_t L l P) ≡ plain (meant l) (record_of L P)
      plain_means [] S T P d a = refl
      plain_means (joins B ∷ l) S T P d a = plain_means l S (joined L T B) (joined L P B) (joined_closed P B d a.3) a.4 ∙ ap (plain (meant l)) (joined_means P B d a.3)
      plain_means (cleans F ∷ l) S T P d a = plain_means l S (cleaned rule L T F) P d a.2

      -- demand 3, row for row, for any rule of what stands that is a profile
      pub tables_three : (l : List Call) (S : List ℕ) (T : Tables) → Closed (record_of L T) → AcceptedT L rule l S T T → cleaned rule L (run_t L rule l T) S ≡ cleaned rule L (plain_t L l T) S
      unfolding cleaned
      tables_three l S T c a =
          ap (λ (R : Record). tables_of (clean rule S R)) (run_means l S T T c a)
          ∙ ap tables_of (demand_three rule pr (meant l) S (record_of L T) (accepted_means l S T T c c a))
          ∙ sym (ap (λ (R : Record). tables_of (clean rule S R)) (plain_means l S T T c a))

  -- for 01's rule
  pub tables_three_stands : (l : List Call) (S : List ℕ) (T : Tables) → Closed (record_of L T) → AcceptedT L stands l S T T → cleaned stands L (run_t L stands l T) S ≡ cleaned stands L (plain_t L l T) S
  tables_three_stands = tables_three stands stands_profile

  -- for the rule that every reached node stands
  pub tables_three_line : (l : List Call) (S : List ℕ) (T : Tables) → Closed (record_of L T) → AcceptedT L line l S T T → cleaned line L (run_t L line l T) S ≡ cleaned line L (plain_t L l T) S
  tables_three_line = tables_three line line_profile
