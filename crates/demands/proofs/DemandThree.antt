-- The third demand, with the theorem that says it (the other two: specs/Demands).
use Rattle.std.specs.Prelude.{◌≡◌, List, [], ◌∷◌, ℕ}
use Rattle.meaning.specs.Rows.{Tables}
use Rattle.meaning.specs.Forest.{stands}
use Rattle.meaning.specs.Answer.{Limits}
use Rattle.meaning.specs.Clean.{cleaned}
use Rattle.meaning.specs.Join.{BatchTables, joined}
use Rattle.forest.specs.Profile.{stands_profile}
use Rattle.accepted.specs.Records.{Young}
use Rattle.demands.specs.Histories.{Lent, LentJoin, Call, joins, cleans, tidied, untouched, NotRefused}
use Rattle.demands.specs.Third.{YoungBatches}
use Rattle.demands.proofs.Third.{last_tables_equal}

-- ---- 3. "Clean after any batches you like and then at the end, or only at the end: the last four tables are equal, row for row.
-- This holds if no call is refused, and if each cleaning lists every fish then in the record that a later batch or a later sample list names."
-- Calls from C are in it: each call says how many cells its block has, and one that is not refused has four or more.

pub demand_3 : (m : Limits) (L : ℕ) (calls : List Call) (last : List ℕ) (lent_tidied lent_untouched : Lent) (start : Tables) → Young start.nodes → YoungBatches calls →
    NotRefused stands m L calls last lent_tidied lent_untouched start start →
    cleaned stands L (tidied stands m L calls start) last ≡ cleaned stands L (untouched stands m L calls start) last
demand_3 m L = last_tables_equal stands stands_profile m L

-- the same for one cleaning before one batch: S lists every fish of the record that the batch or the last list names
pub one_step : (m : Limits) (L : ℕ) (T : Tables) (B : BatchTables) (S last : List ℕ) (lent : Lent) (join_tidied join_untouched : LentJoin) (lent_tidied lent_untouched : Lent) → Young T.nodes → Young B.nodes →
    NotRefused stands m L (cleans S lent ∷ joins B join_tidied join_untouched ∷ []) last lent_tidied lent_untouched T T →
    cleaned stands L (joined L (cleaned stands L T S) B) last ≡ cleaned stands L (joined L T B) last
one_step m L T B S last lent o p q r y z a = demand_3 m L (cleans S lent ∷ joins B o p ∷ []) last q r T y (z, Prim.tt) a
