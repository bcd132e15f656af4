-- 01, "The work": cleaning and joining as they are called from C, with the answer as one number and the rows written in a lent block.
use Rattle.std.specs.Prelude.{◌≡◌, refl, List, [], ◌∷◌, ℕ, ◌+◌, ◌*◌, length}
use Rattle.meaning.specs.Rows.{Tables}
use Rattle.meaning.specs.Forest.{Rules, stands}
use Rattle.meaning.specs.Answer.{Answer, Limits, limits, left_by}
use Rattle.meaning.specs.Lent.{Counts}
use Rattle.meaning.specs.Clean.{Outcome, cleaning}
use Rattle.meaning.specs.Join.{BatchTables, JoinOutcome, joining}
use Rattle.meaning.specs.Listing.{listing}

-- ---- the calls

-- "Such a call returns the answer's number times 4,294,967,296 plus its row"
unfoldable pub packed : Answer → ℕ
packed a = a.number * 4294967296 + a.row

-- "and puts the rows written in tables 1 to 4 into a lent block of four u32"; after a refusal "all lent cells keep their values"
unfoldable pub block_by : Answer → Counts → List ℕ → List ℕ
unfolding left_by
block_by a c block = left_by a (c.nodes ∷ c.edges ∷ c.sites ∷ c.mutations ∷ []) block

-- all that a call of cleaning gives and leaves
pub record CleanCall : Type 0 where
  pub code : ℕ
  pub cells : Tables
  pub map : List ℕ
  pub block : List ℕ

unfoldable pub clean_call : Rules → Limits → ℕ → Tables → List ℕ → Tables → List ℕ → List ℕ → CleanCall
unfolding cleaning packed block_by
clean_call rule m L T S out out_map block =
    let o : Outcome = cleaning rule m L T S out out_map (length block) in
    record { code = packed o.answer; cells = o.cells; map = o.map; block = block_by o.answer o.counts block }

-- all that a call of joining gives and leaves
pub record JoinCall : Type 0 where
  pub code : ℕ
  pub cells : Tables
  pub block : List ℕ

unfoldable pub join_call : Limits → ℕ → Tables → BatchTables → Tables → List ℕ → JoinCall
unfolding joining packed block_by
join_call m L T B out block =
    let o : JoinOutcome = joining m L T B out (length block) in
    record { code = packed o.answer; cells = o.cells; block = block_by o.answer o.counts block }

-- ---- 01's listing by such a call, in its own columns

-- four cells take the rows written, the fifth keeps its value
pub listing_block : (clean_call stands limits 10 listing (501 ∷ 401 ∷ []) listing (9 ∷ 9 ∷ 9 ∷ 9 ∷ 9 ∷ []) (9 ∷ 9 ∷ 9 ∷ 9 ∷ 9 ∷ [])).block ≡ 2 ∷ 1 ∷ 2 ∷ 3 ∷ 9 ∷ []
unfolding clean_call stands
listing_block = refl

-- a block of three cells is refused with 13 and row 7, and no cell changes
pub short_block : clean_call stands limits 10 listing (501 ∷ 401 ∷ []) listing (9 ∷ 9 ∷ 9 ∷ 9 ∷ 9 ∷ []) (9 ∷ 9 ∷ 9 ∷ []) ≡ record { code = 13 * 4294967296 + 7; cells = listing; map = 9 ∷ 9 ∷ 9 ∷ 9 ∷ 9 ∷ []; block = 9 ∷ 9 ∷ 9 ∷ [] }
unfolding clean_call stands
short_block = refl
