-- What an answer leaves: after a refusal nothing is altered, after 0 the result stands at the front.
use Rattle.std.specs.Prelude.{◌≡◌, refl, Bool, true, false, List, ℕ, length}
use Rattle.std.proofs.Common.{sym, ap, ◌∙◌}
use Rattle.meaning.specs.Rows.{Tables}
use Rattle.meaning.specs.Answer.{Answer, Stated, done, accepted, put, left_by, given, absent, unread}
use Rattle.meaning.specs.Lent.{no_rows_written, rows_in, put_all, counts_by, cells_by}
use Rattle.meaning.specs.Clean.{clean_end}
use Rattle.meaning.specs.Join.{join_end}
use Rattle.meaning.specs.Files.{if_done, handed, laid}
use Rattle.meaning.specs.Allele.{stated}
use Rattle.laws.specs.Bools.{clash}

-- ---- "after a refusal all but number and row are 0 and all lent cells keep their values"

module _ (a : Answer) (refused : accepted a ≡ false) where
  pub clean_refused : (new : Tables) (new_map : List ℕ) (out : Tables) (out_map : List ℕ) → clean_end a new new_map out out_map ≡ record { answer = a; counts = no_rows_written; cells = out; map = out_map }
  unfolding clean_end counts_by cells_by left_by
  clean_refused new new_map out out_map = rw (refused, counts_by, cells_by, left_by)

  pub join_refused : (new out : Tables) → join_end a new out ≡ record { answer = a; counts = no_rows_written; cells = out }
  unfolding join_end counts_by cells_by left_by
  join_refused new out = rw (refused, counts_by, cells_by, left_by)

  pub read_refused : (L : ℕ) (T : Tables) (S : List ℕ) (out : Tables) (list_out : List ℕ) → handed a L T S out list_out ≡ record { answer = a; len = 0; rows = no_rows_written; listed = 0; cells = out; samples = list_out }
  unfolding handed if_done counts_by cells_by left_by
  read_refused L T S out list_out = rw (refused, if_done, counts_by, cells_by, left_by)

  pub write_refused : (new out : List ℕ) → laid a new out ≡ record { answer = a; bytes = 0; cells = out }
  unfolding laid if_done left_by
  write_refused new out = rw (refused, if_done, left_by)

  pub allele_refused : (missing : Bool) (s : ℕ) → stated a missing s ≡ unread a
  unfolding stated
  allele_refused missing s = rw (refused, stated)

-- ---- "the result stands at the front of each output, and cells past it keep their values"

pub clean_done : (new : Tables) (new_map : List ℕ) (out : Tables) (out_map : List ℕ) → clean_end done new new_map out out_map ≡ record { answer = done; counts = rows_in new; cells = put_all new out; map = put new_map out_map }
unfolding clean_end counts_by cells_by left_by accepted put_all
clean_done new new_map out out_map = refl

pub join_done : (new out : Tables) → join_end done new out ≡ record { answer = done; counts = rows_in new; cells = put_all new out }
unfolding join_end counts_by cells_by left_by accepted put_all
join_done new out = refl

pub read_done : (L : ℕ) (T : Tables) (S : List ℕ) (out : Tables) (list_out : List ℕ) → handed done L T S out list_out ≡ record { answer = done; len = L; rows = rows_in T; listed = length S; cells = put_all T out; samples = put S list_out }
unfolding handed if_done counts_by cells_by left_by accepted put_all
read_done L T S out list_out = refl

pub write_done : (new out : List ℕ) → laid done new out ≡ record { answer = done; bytes = length new; cells = put new out }
unfolding laid if_done left_by accepted
write_done new out = refl

-- ---- an allele's answer 0: a state, or missing

state_given : (s : ℕ) → stated done false s ≡ given s
unfolding stated accepted
state_given s = refl

state_absent : (s : ℕ) → stated done true s ≡ absent
unfolding stated accepted
state_absent s = refl

pub gives : (a : Answer) (missing : Bool) (s v : ℕ) → a ≡ done → missing ≡ false → s ≡ v → stated a missing s ≡ given v
gives a missing s v p q r = rw (p, q, r) (state_given v)

pub gives_none : (a : Answer) (missing : Bool) (s : ℕ) → a ≡ done → missing ≡ true → stated a missing s ≡ absent
gives_none a missing s p q = rw (p, q) (state_absent s)

stated_answer : (a : Answer) (missing : Bool) (s : ℕ) → (stated a missing s).answer ≡ a
unfolding stated
stated_answer a missing s = go (accepted a) refl
  where
    go : (t : Bool) → accepted a ≡ t → (stated a missing s).answer ≡ a
    go true e = rw (e, stated)
    go false e = rw (e, stated)

-- the answer is 0 where what is read is a state or missing
answer_zero : (a : Answer) (missing : Bool) (s : ℕ) (r : Stated) → stated a missing s ≡ r → r.answer ≡ done → a ≡ done
answer_zero a missing s r e q = sym (stated_answer a missing s) ∙ ap (λ (r : Stated). r.answer) e ∙ q

pub of_given : (a : Answer) (missing : Bool) (s v : ℕ) → stated a missing s ≡ given v → (a ≡ done) × (missing ≡ false) × (s ≡ v)
of_given a missing s v e =
    let q : a ≡ done = answer_zero a missing s (given v) e refl in
    let d : stated done missing s ≡ given v = ap (λ (a : Answer). stated a missing s) (sym q) ∙ e in
    let r : (missing ≡ false) × (s ≡ v) = go missing d in (q, r.0, r.1)
  where
    go : (m : Bool) → stated done m s ≡ given v → (m ≡ false) × (s ≡ v)
    go true d = absurd (clash refl (ap (λ (r : Stated). r.missing) (sym (state_absent s) ∙ d)))
    go false d = (refl, ap (λ (r : Stated). r.state) (sym (state_given s) ∙ d))

pub of_absent : (a : Answer) (missing : Bool) (s : ℕ) → stated a missing s ≡ absent → (a ≡ done) × (missing ≡ true)
of_absent a missing s e =
    let q : a ≡ done = answer_zero a missing s absent e refl in
    (q, go missing (ap (λ (a : Answer). stated a missing s) (sym q) ∙ e))
  where
    go : (m : Bool) → stated done m s ≡ absent → m ≡ true
    go true d = refl
    go false d = ap (λ (r : Stated). r.missing) (sym (state_given s) ∙ d)
