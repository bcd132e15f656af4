-- What an answer 0 of each call tells: its whole list of facts, and that the row is 0; and the facts give the answer 0.
use Rattle.std.specs.Prelude.{◌≡◌, true, ℕ, ◌<◌, ◌≤◌, leb, length}
use Rattle.std.proofs.Common.{ap, ◌∙◌, arith}
use Rattle.std.proofs.Math.Bool.{not}
use mathlib.Core.List.{List, [], ◌∷◌}
use borrow.Author.Tests.{leb-false, lt-leb}
use Rattle.meaning.specs.Words.{mem}
use Rattle.meaning.specs.Rows.{Tables, record_of}
use Rattle.meaning.specs.Forest.{Rules}
use Rattle.meaning.specs.Answer.{Answer, Limits, done, refuse, lacks}
use Rattle.meaning.specs.Lent.{fit_then, block_then}
use Rattle.meaning.specs.Check.{check}
use Rattle.meaning.specs.Clean.{cleaned, node_map, clean_answer}
use Rattle.meaning.specs.Join.{BatchTables, batch_of, batch_shapes, batch_sizes, batch_rules, joined, join_answer}
use Rattle.meaning.specs.Allele.{allele_answer}
use Rattle.laws.specs.Bools.{not_no}
use Rattle.laws.specs.Facts.{Good, Closed, JoinOk, CleanOk}
use Rattle.accepted.specs.Refusals.{Accepted, passed, pass}
use Rattle.accepted.specs.Checked.{Sound, Listed, sound_of, of_sound, all_sound_of, of_all_sound}
use Rattle.accepted.specs.Records.{Young, good_of, closed_of, clean_ok_of}
use Rattle.accepted.specs.Batches.{BatchSound, batch_sound_of, of_batch_sound}
use Rattle.accepted.specs.Joins.{join_ok_of}
use Rattle.accepted.specs.Rooms.{Room, Fits, passed_room, pass_room, fits_of, of_fits, block_long, block_done}

-- ---- the check

module _ (m : Limits) (L : ℕ) (T : Tables) (S : List ℕ) where
  pub record Checks : Type 0 where
    pub sound : Sound m L T
    pub listed : Listed m T.nodes.birth S

  pub check_tells : Accepted (check m L T S) → Checks
  unfolding check
  check_tells h = let p : _ = all_sound_of m L T S done h in record { sound = p.0; listed = p.1 }

  pub check_done : Checks → check m L T S ≡ done
  unfolding check
  check_done c = of_all_sound m L T S done c.sound c.listed

  pub check_accepted : Accepted (check m L T S) → Young T.nodes → CleanOk (record_of L T) S
  check_accepted h y = let c : Checks = check_tells h in clean_ok_of m L T c.sound S c.listed y

  -- "After 0 the row is 0"
  pub check_row : Accepted (check m L T S) → check m L T S ≡ done
  check_row h = check_done (check_tells h)

-- ---- cleaning

module _ (rule : Rules) (m : Limits) (L : ℕ) (T : Tables) (S : List ℕ) (out : Tables) (out_map : List ℕ) (cells : ℕ) where
  pub record Cleans : Type 0 where
    pub sound : Sound m L T
    pub listed : Listed m T.nodes.birth S
    pub fits : Fits m (cleaned rule L T S) out
    pub map_fits : Room m.nodes (out_map ∷ []) (length (node_map rule L T S))
    pub block_fits : 4 ≤ cells

  -- what comes after the room of tables 1 to 4, and what after 1 to 12
  abbrev map_then : Answer
  map_then = refuse (lacks m.nodes (out_map ∷ []) (length (node_map rule L T S))) 13 6 (block_then cells done)

  abbrev room_then : Answer
  room_then = fit_then m (cleaned rule L T S) out map_then

  pub clean_tells : Accepted (clean_answer rule m L T S out out_map cells) → Cleans
  unfolding clean_answer
  clean_tells h =
      let a : _ = all_sound_of m L T S room_then h in
      let b : _ = fits_of m (cleaned rule L T S) out map_then a.2 in
      let c : _ = passed_room m.nodes out_map [] (length (node_map rule L T S)) 13 6 (block_then cells done) (omega arith) b.1 in
      record { sound = a.0; listed = a.1; fits = b.0; map_fits = c.0; block_fits = block_long cells c.1 }

  pub clean_done : Cleans → clean_answer rule m L T S out out_map cells ≡ done
  unfolding clean_answer
  clean_done c =
      of_all_sound m L T S room_then c.sound c.listed
      ∙ of_fits m (cleaned rule L T S) out map_then c.fits
      ∙ pass_room m.nodes out_map [] (length (node_map rule L T S)) 13 6 (block_then cells done) c.map_fits
      ∙ block_done cells c.block_fits

  -- the premises of every theorem on cleaning
  pub clean_accepted : Accepted (clean_answer rule m L T S out out_map cells) → Young T.nodes → CleanOk (record_of L T) S
  clean_accepted h y = let c : Cleans = clean_tells h in clean_ok_of m L T c.sound S c.listed y

  pub clean_closed : Accepted (clean_answer rule m L T S out out_map cells) → Closed (record_of L T)
  clean_closed h = closed_of m L T (clean_tells h).sound

  pub clean_row : Accepted (clean_answer rule m L T S out out_map cells) → clean_answer rule m L T S out out_map cells ≡ done
  clean_row h = clean_done (clean_tells h)

-- ---- joining

module _ (m : Limits) (L : ℕ) (T : Tables) (B : BatchTables) (out : Tables) (cells : ℕ) where
  pub record JoinsUp : Type 0 where
    pub sound : Sound m L T
    pub batch : BatchSound m L T B
    pub fits : Fits m (joined L T B) out
    pub block_fits : 4 ≤ cells

  -- what comes after 20 to 26, and what after 1 to 10
  abbrev last_then : Answer
  last_then = fit_then m (joined L T B) out (block_then cells done)

  abbrev batch_then : Answer
  batch_then = batch_shapes B (batch_sizes m T B (batch_rules L T B last_then))

  pub join_tells : Accepted (join_answer m L T B out cells) → JoinsUp
  unfolding join_answer
  join_tells h =
      let a : _ = sound_of m L T batch_then h in
      let b : _ = batch_sound_of m L T B last_then a.1 in
      let c : _ = fits_of m (joined L T B) out (block_then cells done) b.1 in
      record { sound = a.0; batch = b.0; fits = c.0; block_fits = block_long cells c.1 }

  pub join_done : JoinsUp → join_answer m L T B out cells ≡ done
  unfolding join_answer
  join_done c =
      of_sound m L T batch_then c.sound
      ∙ of_batch_sound m L T B last_then c.batch
      ∙ of_fits m (joined L T B) out (block_then cells done) c.fits
      ∙ block_done cells c.block_fits

  -- the premises of every theorem on joining
  pub join_accepted : Accepted (join_answer m L T B out cells) → Young B.nodes → JoinOk (record_of L T) (batch_of B)
  join_accepted h y = let c : JoinsUp = join_tells h in join_ok_of m L T B c.sound c.batch y

  pub join_good : Accepted (join_answer m L T B out cells) → Young T.nodes → Good (record_of L T)
  join_good h y = good_of m L T (join_tells h).sound y

  pub join_closed : Accepted (join_answer m L T B out cells) → Closed (record_of L T)
  join_closed h = closed_of m L T (join_tells h).sound

  pub join_row : Accepted (join_answer m L T B out cells) → join_answer m L T B out cells ≡ done
  join_row h = join_done (join_tells h)

-- ---- an allele

module _ (m : Limits) (L : ℕ) (T : Tables) (i b : ℕ) where
  pub record Reads : Type 0 where
    pub sound : Sound m L T
    pub site_row : i < length T.sites.position
    pub known : mem b T.nodes.birth ≡ true

  -- what comes after 41, and what after 1 to 10
  abbrev known_then : Answer
  known_then = refuse (not (mem b T.nodes.birth)) 42 0 done

  abbrev site_then : Answer
  site_then = refuse (leb (length T.sites.position) i) 41 0 known_then

  pub allele_tells : Accepted (allele_answer m L T i b) → Reads
  unfolding allele_answer
  allele_tells h =
      let a : _ = sound_of m L T site_then h in
      let c : _ = passed (leb (length T.sites.position) i) 41 0 known_then (omega arith) a.1 in
      let d : _ = passed (not (mem b T.nodes.birth)) 42 0 done (omega arith) c.1 in
      record { sound = a.0; site_row = leb-false (length T.sites.position) i c.0; known = not_no (mem b T.nodes.birth) d.0 }

  pub allele_done : Reads → allele_answer m L T i b ≡ done
  unfolding allele_answer
  allele_done c =
      of_sound m L T site_then c.sound
      ∙ pass (leb (length T.sites.position) i) 41 0 known_then (lt-leb (length T.sites.position) i c.site_row)
      ∙ pass (not (mem b T.nodes.birth)) 42 0 done (ap not c.known)

  pub allele_row : Accepted (allele_answer m L T i b) → allele_answer m L T i b ≡ done
  allele_row h = allele_done (allele_tells h)
