-- Demand 1 on the definitions: a refusal alters no cell of the caller's, and all but its number and row is 0.
use Rattle.std.specs.Prelude.{◌≡◌, Bool, true, false, List, ℕ, length}
use Rattle.std.proofs.Common.{ap}
use Rattle.meaning.specs.Rows.{Tables, record_of}
use Rattle.meaning.specs.Forest.{Rules}
use Rattle.meaning.specs.Answer.{Answer, Limits, accepted, left_by, unread}
use Rattle.meaning.specs.Lent.{no_rows_written, counts_by, cells_by}
use Rattle.meaning.specs.Clean.{cleaned, node_map, clean_answer, cleaning, clean_end}
use Rattle.meaning.specs.Join.{BatchTables, joined, join_answer, joining, join_end}
use Rattle.meaning.specs.Allele.{allele_answer, missing_at, allele_at, allele}
use Rattle.meaning.specs.Called.{packed, block_by, clean_call, join_call}
use Rattle.meaning.specs.Stored.{number, form, form_then}
use Rattle.meaning.specs.Files.{handed, laid, room_answer, found, tables_in, samples_in, reading, written, write_answer, writing}
use Rattle.accepted.specs.Endings.{clean_refused, join_refused, read_refused, write_refused, allele_refused}

module _ (rule : Rules) (m : Limits) (L : ℕ) (T : Tables) (S : List ℕ) (out : Tables) (out_map : List ℕ) where
  pub refused_cleaning : (cells : ℕ) → accepted (clean_answer rule m L T S out out_map cells) ≡ false →
      cleaning rule m L T S out out_map cells ≡ record { answer = clean_answer rule m L T S out out_map cells; counts = no_rows_written; cells = out; map = out_map }
  unfolding cleaning
  refused_cleaning cells r = clean_refused (clean_answer rule m L T S out out_map cells) r (cleaned rule L T S) (node_map rule L T S) out out_map

  -- the call from C: the block too
  pub refused_clean_call : (block : List ℕ) → accepted (clean_answer rule m L T S out out_map (length block)) ≡ false →
      clean_call rule m L T S out out_map block ≡ record { code = packed (clean_answer rule m L T S out out_map (length block)); cells = out; map = out_map; block = block }
  unfolding clean_call cleaning clean_end cells_by block_by left_by
  refused_clean_call block r = rw (r, cells_by, left_by)

module _ (m : Limits) (L : ℕ) (T : Tables) (B : BatchTables) (out : Tables) where
  pub refused_joining : (cells : ℕ) → accepted (join_answer m L T B out cells) ≡ false →
      joining m L T B out cells ≡ record { answer = join_answer m L T B out cells; counts = no_rows_written; cells = out }
  unfolding joining
  refused_joining cells r = join_refused (join_answer m L T B out cells) r (joined L T B) out

  pub refused_join_call : (block : List ℕ) → accepted (join_answer m L T B out (length block)) ≡ false →
      join_call m L T B out block ≡ record { code = packed (join_answer m L T B out (length block)); cells = out; block = block }
  unfolding join_call joining join_end cells_by block_by left_by
  refused_join_call block r = rw (r, cells_by, left_by)

-- the file reader, where a row field has w bytes
pub refused_reading : (w : ℕ) (m : Limits) (s : List ℕ) (out : Tables) (list_out : List ℕ) → accepted (reading w m s out list_out).answer ≡ false →
    reading w m s out list_out ≡ record { answer = (reading w m s out list_out).answer; len = 0; rows = no_rows_written; listed = 0; cells = out; samples = list_out }
unfolding reading handed
refused_reading w m s out list_out r =
    let T : Tables = tables_in (found w m s) in
    let S : List ℕ = samples_in (found w m s) in
    read_refused (form_then (form w m) s (room_answer m T S out list_out)) r (number 4 s 2) T S out list_out

-- and the writer
pub refused_writing : (w : ℕ) (m : Limits) (L : ℕ) (T : Tables) (S out : List ℕ) → accepted (write_answer w m L T S (length out)) ≡ false →
    writing w m L T S out ≡ record { answer = write_answer w m L T S (length out); bytes = 0; cells = out }
unfolding writing
refused_writing w m L T S out r = write_refused (write_answer w m L T S (length out)) r (written w m L T S) out

-- the allele call lends nothing out: a refusal gives no state
pub refused_allele : (m : Limits) (L : ℕ) (T : Tables) (site birth : ℕ) → accepted (allele_answer m L T site birth) ≡ false → allele m L T site birth ≡ unread (allele_answer m L T site birth)
unfolding allele
refused_allele m L T site birth r = allele_refused (allele_answer m L T site birth) r (missing_at (record_of L T) site birth) (allele_at (record_of L T) site birth)
