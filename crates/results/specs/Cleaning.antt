-- A cleaning that is not refused: its tables pass the check for any of their own nodes, a sample's state is the input's wherever it has one, and cleaning again changes nothing.
use Rattle.std.specs.Prelude.{◌≡◌, Bool, true, not, ◌⊎◌, List, ℕ, ◌<◌, ◌≤◌, leb, length}
use Rattle.std.proofs.Math.Path.{refl, sym, ap, ap₂}
use Rattle.std.proofs.Common.{◌∙◌}
use Rattle.std.proofs.Math.Bool.{false}
use Rattle.std.proofs.Math.Logic.{inl, inr, ⊎_elim}
use Rattle.std.proofs.Math.ListN.{length-map}
use Rattle.meaning.specs.Words.{mem, at}
use Rattle.meaning.specs.Rows.{Tables, Site, Record, sites_of, record_of, tables_of, pos_of, state_of}
use Rattle.meaning.specs.Forest.{Rules}
use Rattle.meaning.specs.Answer.{Answer, Limits, done, refuse, given, absent}
use Rattle.meaning.specs.Check.{check}
use Rattle.meaning.specs.Clean.{kept, clean, cleaned, clean_answer}
use Rattle.meaning.specs.Allele.{allele_at, missing_at, allele_answer, stated, allele}
use Rattle.laws.specs.Bools.{clash, truth}
use Rattle.laws.specs.Counting.{length_rows}
use Rattle.laws.specs.Members.{at_mem}
use Rattle.laws.specs.Facts.{In, Distinct, CleanOk}
use Rattle.forest.specs.Profile.{Profile}
use Rattle.history.specs.Kept.{sample_kept}
use Rattle.history.specs.Cleaned.{clean_births, clean_closed}
use Rattle.history.specs.Alleles.{clean_allele}
use Rattle.history.specs.Missing.{alone_of, alone_state, clean_missing}
use Rattle.history.specs.Tidy.{tidy_law}
use Rattle.history.specs.RowForm.{there_back}
use Rattle.bridge.specs.Sites.{state_at}
use Rattle.accepted.specs.Refusals.{Accepted, of_done}
use Rattle.accepted.specs.Checked.{Sound, Sized, of_sound}
use Rattle.accepted.specs.Columns.{birth_out}
use Rattle.accepted.specs.Records.{Young, site_within}
use Rattle.accepted.specs.Calls.{Cleans, clean_tells, clean_accepted, check_done, allele_tells}
use Rattle.accepted.specs.Endings.{gives, gives_none, of_given, of_absent}
use Rattle.results.specs.Facts.{RecordSound, record_sound_of}
use Rattle.results.specs.Tabled.{apart_of, tabled_sound}
use Rattle.results.specs.Cleaned.{clean_record_sound}

module _ (rule : Rules) (pr : Profile rule) (m : Limits) (L : ℕ) (T : Tables) (S : List ℕ) (out : Tables) (out_map : List ℕ) (cells : ℕ)
    (accept : Accepted (clean_answer rule m L T S out out_map cells)) (young : Young T.nodes) where
  told : Cleans rule m L T S out out_map cells
  told = clean_tells rule m L T S out out_map cells accept

  ok : CleanOk (record_of L T) S
  ok = clean_accepted rule m L T S out out_map cells accept young

  facts : RecordSound L (record_of L T)
  facts = record_sound_of m L T told.sound

  same_length : (clean rule S (record_of L T)).len ≡ L
  unfolding clean record_of
  same_length = refl

  -- the cleaned tables mean the cleaned record
  pub cleaned_means : record_of L (cleaned rule L T S) ≡ clean rule S (record_of L T)
  unfolding cleaned
  cleaned_means = there_back L (clean rule S (record_of L T)) same_length (clean_closed rule pr (record_of L T) S ok)

  size : Sized m (cleaned rule L T S)
  size = record { nodes = told.fits.nodes.few; edges = told.fits.edges.few; sites = told.fits.sites.few; muts = told.fits.muts.few }

  -- the checks 1 to 10 find nothing in the cleaned tables
  pub cleaned_sound : Sound m L (cleaned rule L T S)
  unfolding cleaned
  cleaned_sound = tabled_sound L (clean rule S (record_of L T)) (clean_record_sound rule pr L (record_of L T) facts S ok) m size told.sound.len

  -- "cleaned tables pass the check for any of their own nodes as samples"
  pub cleaned_passes : (S' : List ℕ) → length S' ≤ m.samples → Distinct S' → ((b : ℕ) → In S' b → mem b (cleaned rule L T S).nodes.birth ≡ true) → check m L (cleaned rule L T S) S' ≡ done
  cleaned_passes S' few once known = check_done m L (cleaned rule L T S) S'
      (record { sound = cleaned_sound; listed = record { few = few; known = λ i l. known (at S' i) (at_mem S' i l); once = apart_of S' once } })

  -- ---- alleles

  pub cleaned_births : (cleaned rule L T S).nodes.birth ≡ kept rule (record_of L T) S
  unfolding cleaned tables_of
  cleaned_births = clean_births rule pr (record_of L T) S ok

  -- the way upwards leads to the same state
  pub cleaned_allele : (i s : ℕ) → In S s → allele_at (record_of L (cleaned rule L T S)) i s ≡ allele_at (record_of L T) i s
  cleaned_allele i s h = ap (λ (R : Record). allele_at R i s) cleaned_means ∙ clean_allele rule pr (record_of L T) S ok facts.settled i s h

  site_count : length (cleaned rule L T S).sites.position ≡ length T.sites.position
  unfolding cleaned tables_of clean record_of sites_of
  site_count =
      length-map (sites_of T.sites) (λ (s : Site). s.pos)
      ∙ length_rows (λ i. record { pos = at T.sites.position i; state = at T.sites.ancestral i }) (length T.sites.position)

  sample_known : (s : ℕ) → In S s → mem s T.nodes.birth ≡ true
  sample_known s h = unfold record_of in birth_out T.nodes told.sound.shape.births s (ok.listed s h)

  sample_stays : (s : ℕ) → In S s → mem s (cleaned rule L T S).nodes.birth ≡ true
  sample_stays s h = ap (mem s) cleaned_births ∙ sample_kept rule (record_of L T) S s h

  -- what comes after the checks 1 to 10 in an allele's answer
  abbrev later : ℕ → ℕ → Bool → Answer
  later i n known = refuse (leb n i) 41 0 (refuse (not known) 42 0 done)

  -- the call is refused for a sample of the cleaned tables just as for the input
  pub same_answer : (i s : ℕ) → In S s → allele_answer m L (cleaned rule L T S) i s ≡ allele_answer m L T i s
  unfolding allele_answer
  same_answer i s h =
      of_sound m L (cleaned rule L T S) (later i (length (cleaned rule L T S).sites.position) (mem s (cleaned rule L T S).nodes.birth)) cleaned_sound
      ∙ ap₂ (later i) site_count (sample_stays s h ∙ sym (sample_known s h))
      ∙ sym (of_sound m L T (later i (length T.sites.position) (mem s T.nodes.birth)) told.sound)

  -- M-103: what is missing in the input is missing in the cleaned tables
  pub cleaned_missing : (i s : ℕ) → pos_of (record_of L T).sites i < (record_of L T).len → missing_at (record_of L T) i s ≡ true → missing_at (record_of L (cleaned rule L T S)) i s ≡ true
  cleaned_missing i s l h = ap (λ (R : Record). missing_at R i s) cleaned_means ∙ clean_missing rule pr (record_of L T) S ok facts.settled i s l h

  -- a site that the call can be asked about lies on the chromosome
  site_inside : (i s : ℕ) → allele_answer m L T i s ≡ done → pos_of (record_of L T).sites i < (record_of L T).len
  unfolding record_of
  site_inside i s e = let r : _ = allele_tells m L T i s (of_done (allele_answer m L T i s) e) in site_within m L T r.sound i r.site_row

  -- what is missing in the cleaned tables would have the ancestral state there
  ancestral_state : (i s : ℕ) → allele_answer m L T i s ≡ done → missing_at (record_of L (cleaned rule L T S)) i s ≡ true → allele_at (record_of L (cleaned rule L T S)) i s ≡ at T.sites.ancestral i
  unfolding clean record_of
  ancestral_state i s d q =
      alone_state (record_of L (cleaned rule L T S)) i s (alone_of (record_of L (cleaned rule L T S)) i s q)
      ∙ ap (λ (R : Record). state_of R.sites i) cleaned_means
      ∙ state_at T.sites i (allele_tells m L T i s (of_done (allele_answer m L T i s) d)).site_row

  -- "wherever the cleaned tables give a state, the input gives the same"
  pub cleaned_gives : (i s v : ℕ) → In S s → allele m L (cleaned rule L T S) i s ≡ given v → allele m L T i s ≡ given v
  unfolding allele
  cleaned_gives i s v h e =
      let R : Record = record_of L T in
      let g : _ = of_given (allele_answer m L (cleaned rule L T S) i s) (missing_at (record_of L (cleaned rule L T S)) i s) (allele_at (record_of L (cleaned rule L T S)) i s) v e in
      let d : allele_answer m L T i s ≡ done = sym (same_answer i s h) ∙ g.0 in
      let n : missing_at R i s ≡ false = ⊎_elim
      (λ (q : missing_at R i s ≡ true). absurd (clash (cleaned_missing i s (site_inside i s d) q) g.1))
      (λ (q : missing_at R i s ≡ false). q)
      (truth (missing_at R i s)) in
      gives (allele_answer m L T i s) (missing_at R i s) (allele_at R i s) v d n (sym (cleaned_allele i s h) ∙ g.2)

  -- and where the input gives none for a sample, nor do they
  pub cleaned_absent : (i s : ℕ) → In S s → allele m L T i s ≡ absent → allele m L (cleaned rule L T S) i s ≡ absent
  unfolding allele
  cleaned_absent i s h e =
      let g : _ = of_absent (allele_answer m L T i s) (missing_at (record_of L T) i s) (allele_at (record_of L T) i s) e in
      let d : allele_answer m L (cleaned rule L T S) i s ≡ done = same_answer i s h ∙ g.0 in
      gives_none (allele_answer m L (cleaned rule L T S) i s) (missing_at (record_of L (cleaned rule L T S)) i s) (allele_at (record_of L (cleaned rule L T S)) i s) d (cleaned_missing i s (site_inside i s g.0) g.1)

  -- cleaning can isolate a sample, and only one that has the ancestral state
  pub cleaned_isolated : (i s : ℕ) → In S s → allele m L (cleaned rule L T S) i s ≡ absent → (allele m L T i s ≡ absent) ⊎ (allele m L T i s ≡ given (at T.sites.ancestral i))
  unfolding allele
  cleaned_isolated i s h e =
      let g : _ = of_absent (allele_answer m L (cleaned rule L T S) i s) (missing_at (record_of L (cleaned rule L T S)) i s) (allele_at (record_of L (cleaned rule L T S)) i s) e in
      let d : allele_answer m L T i s ≡ done = sym (same_answer i s h) ∙ g.0 in
      ⊎_elim
      (λ (q : missing_at (record_of L T) i s ≡ true). inl (gives_none (allele_answer m L T i s) (missing_at (record_of L T) i s) (allele_at (record_of L T) i s) d q))
      (λ (q : missing_at (record_of L T) i s ≡ false). inr (gives (allele_answer m L T i s) (missing_at (record_of L T) i s) (allele_at (record_of L T) i s) (at T.sites.ancestral i) d q (sym (cleaned_allele i s h) ∙ ancestral_state i s d g.1)))
      (truth (missing_at (record_of L T) i s))

  -- ---- "cleaning twice with the same list changes nothing more"

  pub cleaned_twice : cleaned rule L (cleaned rule L T S) S ≡ cleaned rule L T S
  unfolding cleaned
  cleaned_twice = ap (λ (R : Record). tables_of (clean rule S R)) cleaned_means ∙ ap tables_of (tidy_law rule pr (record_of L T) S S ok ok.distinct (λ s h. h))
