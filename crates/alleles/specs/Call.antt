-- The allele call after the check of the tables: 41, 42, or what is read.
use Rattle.std.specs.Prelude.{◌≡◌, true, false, not, ℕ, ◌<◌, ◌≤◌, leb, length}
use Rattle.std.proofs.Math.Path.{refl, ap}
use Rattle.std.proofs.Common.{sym, ◌∙◌, le-leb}
use Rattle.std.proofs.lemmas.Bool.{lt-leb}
use Rattle.meaning.specs.Words.{mem}
use Rattle.meaning.specs.Rows.{Tables, record_of}
use Rattle.meaning.specs.Answer.{Answer, Stated, answer, done, refuse, accepted, given, absent, unread}
use Rattle.meaning.specs.Allele.{allele_at, missing_at, stated}
use Rattle.accepted.specs.Endings.{allele_refused, gives, gives_none}

-- "41 if the site row doesn't exist (row 0), 42 if the birth number names no node (row 0)"
unfoldable pub named : Tables → ℕ → ℕ → Answer
unfolding refuse mem
named T i b = refuse (leb (length T.sites.position) i) 41 0 (refuse (not (mem b T.nodes.birth)) 42 0 done)

-- what is read of the fish b at site row i
abbrev pub read_of : ℕ → Tables → ℕ → ℕ → Answer → Stated
read_of L T i b a = stated a (missing_at (record_of L T) i b) (allele_at (record_of L T) i b)

-- what the call gives for tables that the check does not refuse
unfoldable pub read_allele : ℕ → Tables → ℕ → ℕ → Stated
unfolding stated named missing_at allele_at record_of
read_allele L T i b = read_of L T i b (named T i b)

module _ (T : Tables) (i b : ℕ) where
  named_no_site : length T.sites.position ≤ i → named T i b ≡ answer 41 0
  unfolding named
  named_no_site h = rw (le-leb (length T.sites.position) i h)

  named_no_birth : i < length T.sites.position → mem b T.nodes.birth ≡ false → named T i b ≡ answer 42 0
  unfolding named
  named_no_birth h e = rw (lt-leb (length T.sites.position) i h) (rw e)

  named_both : i < length T.sites.position → mem b T.nodes.birth ≡ true → named T i b ≡ done
  unfolding named
  named_both h e = rw (lt-leb (length T.sites.position) i h) (rw e)

module _ (L : ℕ) (T : Tables) (i b : ℕ) where
  pub by_answer : (a : Answer) → named T i b ≡ a → read_allele L T i b ≡ read_of L T i b a
  unfolding read_allele
  by_answer a e = ap (read_of L T i b) e

  refuses : (n : ℕ) → accepted (answer n 0) ≡ false → read_of L T i b (answer n 0) ≡ unread (answer n 0)
  refuses n e = allele_refused (answer n 0) e (missing_at (record_of L T) i b) (allele_at (record_of L T) i b)

  pub no_site : length T.sites.position ≤ i → read_allele L T i b ≡ unread (answer 41 0)
  unfolding accepted
  no_site h = by_answer (answer 41 0) (named_no_site T i b h) ∙ refuses 41 refl

  pub no_birth : i < length T.sites.position → mem b T.nodes.birth ≡ false → read_allele L T i b ≡ unread (answer 42 0)
  unfolding accepted
  no_birth h e = by_answer (answer 42 0) (named_no_birth T i b h e) ∙ refuses 42 refl

  pub reads : i < length T.sites.position → mem b T.nodes.birth ≡ true → read_allele L T i b ≡ read_of L T i b done
  reads h e = by_answer done (named_both T i b h e)

  -- an answer 0: missing, or a state
  pub reads_missing : missing_at (record_of L T) i b ≡ true → absent ≡ read_of L T i b done
  reads_missing e = sym (gives_none done (missing_at (record_of L T) i b) (allele_at (record_of L T) i b) refl e)

  pub reads_state : (s : ℕ) → missing_at (record_of L T) i b ≡ false → s ≡ allele_at (record_of L T) i b → given s ≡ read_of L T i b done
  reads_state s e f = sym (gives done (missing_at (record_of L T) i b) (allele_at (record_of L T) i b) s refl e (sym f))
