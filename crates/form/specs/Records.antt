-- The records of one kind: what was read is what stands there, and what was written is read.
use Rattle.std.specs.Prelude.{◌≡◌, refl, true, take}
use Rattle.std.proofs.Math.Path.{sym, ap, ap₂}
use Rattle.std.proofs.Common.{◌∙◌, take-append-drop, ext_get_or, take-add, drop-drop}
use mathlib.Core.List.{List, [], ◌∷◌, ◌++◌, append_assoc}
use Prim.Native.Nat.{ℕ, zero, suc, ◌+◌, ◌*◌, ◌^◌, ◌-◌, ◌<◌, ◌≤◌}
use Rattle.std.proofs.Math.Nat.{zero-mul, suc-mul}
use native.Mathlib.Omega.{arith}
use Rattle.std.proofs.Math.ListN.{length, drop, length-append, length-drop}
use Rattle.std.proofs.Math.Seq.{drop_at}
use Rattle.meaning.specs.Words.{at, rows}
use Rattle.laws.specs.Counting.{length_rows, get_rows, rows_at}
use Rattle.meaning.specs.Stored.{Kind, number, bytes_of, is_mark, total, size, columns, fields_at, record_at, records_from}
use Rattle.form.specs.Numbers.{Bytes, length_bytes, number_written, bytes_read}
use Rattle.form.specs.Marks.{marked, marked_front, front_mark}

-- rows made by functions that agree below n
rows_same : (f g : ℕ → ℕ) (n : ℕ) → ((i : ℕ) → i < n → f i ≡ g i) → rows f n ≡ rows g n
rows_same f g n h = ext_get_or 0 (rows f n) (rows g n) (length_rows f n ∙ sym (length_rows g n)) (λ i l. let k : i < n = omega (arith, length_rows f n) in get_rows f 0 n i k ∙ h i k ∙ sym (get_rows g 0 n i k))

-- ---- from the bytes to the rows and back

-- the fields of row i are the bytes from which they were read
pub fields_read : (ws s : List ℕ) (o z n i : ℕ) → Bytes s → i < n → o + i * z + total ws ≤ length s → fields_at ws (columns ws s o z n) i ≡ take (total ws) (drop (o + i * z) s)
unfolding fields_at columns total
fields_read [] s o z n i b h l = refl
fields_read (w ∷ ws) s o z n i b h l =
    let q : o + w + i * z ≡ o + i * z + w = omega arith in
    ap₂ (λ (x y : List ℕ). x ++ y)
    (ap (bytes_of w) (get_rows (λ j. number w s (o + j * z)) 0 n i h) ∙ bytes_read w s (o + i * z) b (omega arith))
    (fields_read ws s (o + w) z n i b h (omega arith) ∙ ap (λ p. take (total ws) (drop p s)) q ∙ ap (take (total ws)) (sym (drop-drop w (o + i * z) s)))
    ∙ sym (take-add w (total ws) (drop (o + i * z) s))

-- n records of the kind stand from offset o on
abbrev pub Stand : Kind → List ℕ → ℕ → ℕ → Type 0
Stand k s o n = (i : ℕ) → i < n → (is_mark k.first k.second s (o + i * size k) ≡ true) × (o + i * size k + size k ≤ length s)

module _ (k : Kind) (s : List ℕ) (o n : ℕ) (b : Bytes s) (f : Stand k s o n) where
  record_read : (i : ℕ) → i < n → drop (o + i * size k) s ≡ record_at k (columns k.widths s (o + 2) (size k) n) i ++ drop (o + suc i * size k) s
  unfolding record_at size
  record_read i h =
      let m : _ = marked k.first k.second s (o + i * size k) (f i h).0 in
      let p : o + i * size k + 2 ≡ o + 2 + i * size k = omega arith in
      let q : o + 2 + i * size k + total k.widths ≡ o + suc i * size k = omega (arith, suc-mul i (size k)) in
      marked_front k.first k.second s (o + i * size k) m
      ∙ ap (λ l. k.first ∷ k.second ∷ l) (
      ap (λ j. drop j s) p
      ∙ sym (take-append-drop (total k.widths) (drop (o + 2 + i * size k) s))
      ∙ ap₂ (λ (x y : List ℕ). x ++ y)
      (sym (fields_read k.widths s (o + 2) (size k) n i b h (omega (arith, (f i h).1))))
      (drop-drop (total k.widths) (o + 2 + i * size k) s ∙ ap (λ j. drop j s) q))

  -- the records of rows i on are the bytes up to where the kind ends
  pub records_read : (d i : ℕ) → i + d ≡ n → drop (o + i * size k) s ≡ records_from k (columns k.widths s (o + 2) (size k) n) i d ++ drop (o + n * size k) s
  unfolding records_from
  records_read zero i e = let q : i ≡ n = omega arith in ap (λ j. drop (o + j * size k) s) q
  records_read (suc d) i e =
      record_read i (omega arith)
      ∙ ap (λ l. record_at k (columns k.widths s (o + 2) (size k) n) i ++ l) (records_read d (suc i) (omega arith))
      ∙ sym (append_assoc (record_at k (columns k.widths s (o + 2) (size k) n) i) (records_from k (columns k.widths s (o + 2) (size k) n) (suc i) d) (drop (o + n * size k) s))

-- ---- from rows to bytes and back

-- n rows, each cell within the bytes of its field
pub data Fit : List ℕ → List (List ℕ) → ℕ → Type 0 where
  nil : {n : ℕ} → Fit [] [] n
  cons : {w : ℕ} {ws : List ℕ} {c : List ℕ} {cs : List (List ℕ)} {n : ℕ} → length c ≡ n → ((i : ℕ) → i < n → at c i < 256 ^ w) → Fit ws cs n → Fit (w ∷ ws) (c ∷ cs) n

pub length_fields : (ws : List ℕ) (cs : List (List ℕ)) (i : ℕ) → length cs ≡ length ws → length (fields_at ws cs i) ≡ total ws
unfolding fields_at total
length_fields [] cs i e = refl
length_fields (w ∷ ws) [] i e = absurd (omega arith)
length_fields (w ∷ ws) (c ∷ cs) i e =
    let h : length cs ≡ length ws = omega arith in
    length-append (bytes_of w (at c i)) (fields_at ws cs i) ∙ ap₂ (λ (x y : ℕ). x + y) (length_bytes w (at c i)) (length_fields ws cs i h)

pub length_record : (k : Kind) (cs : List (List ℕ)) (i : ℕ) → length cs ≡ length k.widths → length (record_at k cs i) ≡ size k
unfolding record_at size
length_record k cs i e = omega (arith, length_fields k.widths cs i e)

-- a column for each field
pub fit_columns : {ws : List ℕ} {cs : List (List ℕ)} {n : ℕ} → Fit ws cs n → length cs ≡ length ws
fit_columns nil = refl
fit_columns (cons e l f) = ap suc (fit_columns f)

-- the columns read are the columns whose fields stand there
pub columns_written : {ws : List ℕ} {cs : List (List ℕ)} {n : ℕ} (s : List ℕ) (o z : ℕ) (t : ℕ → List ℕ) → Fit ws cs n → ((i : ℕ) → i < n → drop (o + i * z) s ≡ fields_at ws cs i ++ t i) → columns ws s o z n ≡ cs
unfolding columns fields_at
columns_written s o z t nil h = refl
columns_written s o z t (cons {w = w} {ws = ws} {c = c} {cs = cs} {n = n} e l f) h =
    ap₂ (λ (x : List ℕ) (y : List (List ℕ)). x ∷ y)
    (rows_same (λ i. number w s (o + i * z)) (at c) n (λ i k. number_written w (at c i) (fields_at ws cs i ++ t i) (o + i * z) s (l i k) (split i k)) ∙ ap (rows (at c)) (sym e) ∙ rows_at c)
    (columns_written s (o + w) z t f (λ i k. let q : o + w + i * z ≡ o + i * z + w = omega arith in ap (λ j. drop j s) q ∙ sym (drop-drop w (o + i * z) s) ∙ ap (drop w) (split i k) ∙ drop_at (bytes_of w (at c i)) (fields_at ws cs i ++ t i) w (length_bytes w (at c i))))
  where
    split : (i : ℕ) → i < n → drop (o + i * z) s ≡ bytes_of w (at c i) ++ (fields_at ws cs i ++ t i)
    split i k = h i k ∙ append_assoc (bytes_of w (at c i)) (fields_at ws cs i) (t i)

module _ (k : Kind) (s : List ℕ) (o n : ℕ) (cs : List (List ℕ)) (t : List ℕ) (f : Fit k.widths cs n) (e : drop o s ≡ records_from k cs 0 n ++ t) where
  -- what stands from row i on
  pub records_written : (i d : ℕ) → i + d ≡ n → drop (o + i * size k) s ≡ records_from k cs i d ++ t
  unfolding records_from
  records_written zero d h =
      let q : o + 0 * size k ≡ o = omega (arith, zero-mul (size k)) in
      let p : n ≡ d = omega arith in
      ap (λ j. drop j s) q ∙ e ∙ ap (λ j. records_from k cs 0 j ++ t) p
  records_written (suc i) d h =
      let q : o + suc i * size k ≡ o + i * size k + size k = omega (arith, suc-mul i (size k)) in
      ap (λ j. drop j s) q
      ∙ sym (drop-drop (size k) (o + i * size k) s)
      ∙ ap (drop (size k)) (records_written i (suc d) (omega arith) ∙ append_assoc (record_at k cs i) (records_from k cs (suc i) d) t)
      ∙ drop_at (record_at k cs i) (records_from k cs (suc i) d ++ t) (size k) (length_record k cs i (fit_columns f))

  -- the record of row i and what is left after it
  row_written : (i : ℕ) → i < n → drop (o + i * size k) s ≡ record_at k cs i ++ (records_from k cs (suc i) (n - suc i) ++ t)
  unfolding records_from
  row_written i h = let q : i + suc (n - suc i) ≡ n = omega arith in records_written i (suc (n - suc i)) q ∙ append_assoc (record_at k cs i) (records_from k cs (suc i) (n - suc i)) t

  -- so n records of the kind stand there
  pub stand_written : Stand k s o n
  unfolding record_at
  stand_written i h =
      let r : _ = row_written i h in
      (front_mark s (o + i * size k) r, omega (arith, length-drop (o + i * size k) s, ap length r, length-append (record_at k cs i) (records_from k cs (suc i) (n - suc i) ++ t), length_record k cs i (fit_columns f)))

  -- and their columns are read
  pub read_columns : columns k.widths s (o + 2) (size k) n ≡ cs
  unfolding record_at
  read_columns = columns_written s (o + 2) (size k) (λ i. records_from k cs (suc i) (n - suc i) ++ t) f at_fields
    where
      at_fields : (i : ℕ) → i < n → drop (o + 2 + i * size k) s ≡ fields_at k.widths cs i ++ (records_from k cs (suc i) (n - suc i) ++ t)
      at_fields i h = let q : o + 2 + i * size k ≡ o + i * size k + 2 = omega arith in ap (λ j. drop j s) q ∙ sym (drop-drop 2 (o + i * size k) s) ∙ ap (drop 2) (row_written i h)
