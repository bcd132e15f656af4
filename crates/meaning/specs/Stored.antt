-- 01, "Stored form": numbers as bytes, kinds of records, and what stands in a file. Marks, order, widths and limits are data.
use Rattle.std.specs.Prelude.{Bool, true, false, not, List, [], ◌∷◌, ◌++◌, ℕ, zero, suc, ◌+◌, ◌*◌, ◌/◌, ◌%◌, eqb, leb, ltb, length, get_or}
use Rattle.meaning.specs.Words.{and, at, rows}
use Rattle.meaning.specs.Answer.{Answer, Limits, refuse}

-- ---- "Numbers are little-endian."

-- the number that w bytes of s from offset o on hold
unfoldable pub number : ℕ → List ℕ → ℕ → ℕ
number zero s o = 0
number (suc w) s o = at s o + 256 * number w s (suc o)

-- v in w bytes
unfoldable pub bytes_of : ℕ → ℕ → List ℕ
bytes_of zero v = []
bytes_of (suc w) v = v % 256 ∷ bytes_of w (v / 256)

-- ---- records and their kinds

-- "Each record opens with a two-byte mark in ASCII": both bytes are there, and are a and b
unfoldable pub is_mark : ℕ → ℕ → List ℕ → ℕ → Bool
is_mark a b s o = and (leb (o + 2) (length s)) (and (eqb (at s o) a) (eqb (at s (o + 1)) b))

-- the mark, the widths of the fields after it, and the limit
pub record Kind : Type 0 where
  pub first : ℕ
  pub second : ℕ
  pub widths : List ℕ
  pub most : ℕ

unfoldable pub total : List ℕ → ℕ
total [] = 0
total (w ∷ ws) = w + total ws

-- the bytes of a record, its mark with it
unfoldable pub size : Kind → ℕ
unfolding total
size k = 2 + total k.widths

-- the mark of the first record, and the kinds "in that order"
pub record Form : Type 0 where
  pub first : ℕ
  pub second : ℕ
  pub kinds : List Kind

-- SA (birth), ND (time, birth), ED (left, right, parent, child), Si (position, state) and MU (site, node, state), where a row field has w bytes
abbrev pub SA : Limits → Kind
SA m = record { first = 83; second = 65; widths = 4 ∷ []; most = m.samples }

abbrev pub ND : Limits → Kind
ND m = record { first = 78; second = 68; widths = 4 ∷ 4 ∷ []; most = m.nodes }

abbrev pub ED : ℕ → Limits → Kind
ED w m = record { first = 69; second = 68; widths = 4 ∷ 4 ∷ w ∷ w ∷ []; most = m.edges }

abbrev pub Si : Limits → Kind
Si m = record { first = 83; second = 73; widths = 4 ∷ 1 ∷ []; most = m.sites }

abbrev pub MU : ℕ → Limits → Kind
MU w m = record { first = 77; second = 85; widths = w ∷ w ∷ 1 ∷ []; most = m.mutations }

unfoldable pub kinds : ℕ → Limits → List Kind
kinds w m = SA m ∷ ND m ∷ ED w m ∷ Si m ∷ MU w m ∷ []

-- the form that opens with SQ
unfoldable pub form : ℕ → Limits → Form
unfolding kinds
form w m = record { first = 83; second = 81; kinds = kinds w m }

-- ---- reading: "left to right; at a record it tests the whole mark's presence, the mark, the limit, then the fields"

-- the whole records of z bytes with the mark a b that stand from offset o on, one after the other, at most j of them
unfoldable pub whole : ℕ → ℕ → ℕ → List ℕ → ℕ → ℕ → ℕ
unfolding is_mark
whole a b z s zero o = 0
whole a b z s (suc j) o = elim (and (is_mark a b s o) (leb (o + z) (length s))) [ true ↦ suc (whole a b z s j (o + z)) | false ↦ 0 ]

-- how many rows of the kind stand from offset o on
unfoldable pub rows_at : Kind → List ℕ → ℕ → ℕ
unfolding whole size
rows_at k s o = whole k.first k.second (size k) s k.most o

-- the offset after them
unfoldable pub after : Kind → List ℕ → ℕ → ℕ
unfolding rows_at size
after k s o = o + rows_at k s o * size k

-- n records with the mark a b end at offset o. Where the mark stands once more: 34 "one row more than the limit", else 32 "bytes run out"
unfoldable pub stop_then : ℕ → ℕ → ℕ → ℕ → List ℕ → ℕ → Answer → Answer
unfolding is_mark refuse
stop_then a b most n s o rest =
    refuse (and (is_mark a b s o) (leb most n)) 34 o
    (refuse (is_mark a b s o) 32 o rest)

unfoldable pub kind_then : Kind → List ℕ → ℕ → Answer → Answer
unfolding rows_at after stop_then
kind_then k s o rest = stop_then k.first k.second k.most (rows_at k s o) s (after k s o) rest

-- "then EN": 32 "bytes run out", 31 "mark unknown or not allowed here", 33 "bytes follow EN"
unfoldable pub end_then : List ℕ → ℕ → Answer → Answer
unfolding is_mark refuse
end_then s o rest =
    refuse (ltb (length s) (o + 2)) 32 o
    (refuse (not (is_mark 69 78 s o)) 31 o (refuse (ltb (o + 2) (length s)) 33 (o + 2) rest))

unfoldable pub kinds_then : List Kind → List ℕ → ℕ → Answer → Answer
unfolding end_then kind_then after
kinds_then [] s o rest = end_then s o rest
kinds_then (k ∷ ks) s o rest = kind_then k s o (kinds_then ks s (after k s o) rest)

-- the first record holds L; then the kinds
unfoldable pub form_then : Form → List ℕ → Answer → Answer
unfolding is_mark kinds_then refuse
form_then f s rest =
    refuse (ltb (length s) 2) 32 0
    (refuse (not (is_mark f.first f.second s 0)) 31 0
    (refuse (ltb (length s) 6) 32 0 (kinds_then f.kinds s 6 rest)))

-- the fields of n records, column by column: the first record's fields start at offset o, each next one's z bytes further on
unfoldable pub columns : List ℕ → List ℕ → ℕ → ℕ → ℕ → List (List ℕ)
unfolding number rows
columns [] s o z n = []
columns (w ∷ ws) s o z n = rows (λ i. number w s (o + i * z)) n ∷ columns ws s (o + w) z n

-- the columns of each kind
unfoldable pub tables_from : List Kind → List ℕ → ℕ → List (List (List ℕ))
unfolding columns size rows_at after
tables_from [] s o = []
tables_from (k ∷ ks) s o = columns k.widths s (o + 2) (size k) (rows_at k s o) ∷ tables_from ks s (after k s o)

-- ---- writing

-- the fields of row i
unfoldable pub fields_at : List ℕ → List (List ℕ) → ℕ → List ℕ
unfolding bytes_of
fields_at [] cs i = []
fields_at (w ∷ ws) [] i = []
fields_at (w ∷ ws) (c ∷ cs) i = bytes_of w (at c i) ++ fields_at ws cs i

unfoldable pub record_at : Kind → List (List ℕ) → ℕ → List ℕ
unfolding fields_at
record_at k cs i = k.first ∷ k.second ∷ fields_at k.widths cs i

-- n records from row i on
unfoldable pub records_from : Kind → List (List ℕ) → ℕ → ℕ → List ℕ
unfolding record_at
records_from k cs i zero = []
records_from k cs i (suc n) = record_at k cs i ++ records_from k cs (suc i) n

-- the first column counts the rows
unfoldable pub height : List (List ℕ) → ℕ
height [] = 0
height (c ∷ cs) = length c

-- the records of each kind, then EN
unfoldable pub kinds_bytes : List Kind → List (List (List ℕ)) → List ℕ
unfolding records_from height
kinds_bytes [] X = 69 ∷ 78 ∷ []
kinds_bytes (k ∷ ks) [] = 69 ∷ 78 ∷ []
kinds_bytes (k ∷ ks) (cs ∷ X) = records_from k cs 0 (height cs) ++ kinds_bytes ks X

unfoldable pub form_bytes : Form → ℕ → List (List (List ℕ)) → List ℕ
unfolding bytes_of kinds_bytes
form_bytes f L X = f.first ∷ f.second ∷ (bytes_of 4 L ++ kinds_bytes f.kinds X)
