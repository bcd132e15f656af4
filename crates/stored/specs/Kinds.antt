-- All kinds in their order, and the whole file: what was written is read, and what was read is written.
use Rattle.std.specs.Prelude.{◌≡◌, Bool, true, List, [], ◌∷◌, ◌++◌, ℕ, zero, suc, ◌+◌, ◌*◌, ◌^◌, ◌<◌, ◌≤◌, eqb, leb, ltb, take, drop}
use Rattle.std.proofs.Math.Path.{refl, ap}
use Rattle.std.proofs.Common.{sym, ap₂, ◌∙◌, zero-mul, ltb-true, ltb-false, le-ltb, take-append-drop, length-drop, length-append, drop_at, drop-drop}
use Rattle.std.proofs.Math.Bool.{false, not}
use native.Mathlib.Omega.{arith}
use Rattle.std.proofs.Math.ListN.{length}
use Rattle.std.proofs.Math.Seq.{drop-length}
use Rattle.meaning.specs.Words.{and}
use Rattle.meaning.specs.Answer.{Answer, refuse, accepted}
use Rattle.laws.specs.Bools.{clash, and_of, not_of, not_no}
use Rattle.laws.specs.Counting.{length_rows}
use Rattle.meaning.specs.Stored.{Kind, Form, number, bytes_of, is_mark, size, rows_at, after, stop_then, kind_then, end_then, kinds_then, form_then, columns, tables_from, record_at, records_from, height, kinds_bytes, form_bytes}
use Rattle.form.specs.Refusals.{refuse_no, passed}
use Rattle.form.specs.Numbers.{Bytes, length_bytes, number_written, bytes_read}
use Rattle.form.specs.Marks.{marked, marked_front, front_mark, other_mark, whole_marked, whole_is}
use Rattle.form.specs.Records.{Fit, records_read, records_written, stand_written, read_columns}

-- ---- kinds that can be told apart

-- the mark a b is neither EN nor that of one of the kinds
unfoldable pub foreign : ℕ → ℕ → List Kind → Bool
foreign a b [] = not (and (eqb 69 a) (eqb 78 b))
foreign a b (k ∷ ks) = elim (and (eqb k.first a) (eqb k.second b)) [ true ↦ false | false ↦ foreign a b ks ]

-- each kind has a field, and a mark that no later kind has
unfoldable pub proper : List Kind → Bool
unfolding foreign
proper [] = true
proper (k ∷ ks) = and (ltb 0 (length k.widths)) (and (foreign k.first k.second ks) (proper ks))

pub record Proper (k : Kind) (ks : List Kind) : Type 0 where
  pub field : 0 < length k.widths
  pub apart : foreign k.first k.second ks ≡ true
  pub later : proper ks ≡ true

pub proper_of : (k : Kind) (ks : List Kind) → proper (k ∷ ks) ≡ true → Proper k ks
unfolding proper
proper_of k ks h =
    let p : _ = and_of (ltb 0 (length k.widths)) (and (foreign k.first k.second ks) (proper ks)) h in
    let q : _ = and_of (foreign k.first k.second ks) (proper ks) p.1 in
    record { field = ltb-true _ _ p.0; apart = q.0; later = q.1 }

-- ---- from the bytes to the tables and back

height_columns : (ws s : List ℕ) (o z n : ℕ) → 0 < length ws → height (columns ws s o z n) ≡ n
unfolding height columns
height_columns [] s o z n l = absurd (omega arith)
height_columns (w ∷ ws) s o z n l = length_rows (λ i. number w s (o + i * z)) n

end_read : (s : List ℕ) (o : ℕ) (rest : Answer) → accepted (end_then s o rest) ≡ true → drop o s ≡ 69 ∷ 78 ∷ []
unfolding end_then
end_read s o rest h =
    let p : _ = passed (ltb (length s) (o + 2)) 32 o (refuse (not (is_mark 69 78 s o)) 31 o (refuse (ltb (o + 2) (length s)) 33 (o + 2) rest)) refl h in
    let q : _ = passed (not (is_mark 69 78 s o)) 31 o (refuse (ltb (o + 2) (length s)) 33 (o + 2) rest) refl p.1 in
    let r : _ = passed (ltb (o + 2) (length s)) 33 (o + 2) rest refl q.1 in
    let l : length s ≡ o + 2 = omega (arith, ltb-false (length s) (o + 2) p.0, ltb-false (o + 2) (length s) r.0) in
    marked_front 69 78 s o (marked 69 78 s o (not_no (is_mark 69 78 s o) q.0)) ∙ ap (λ j. 69 ∷ 78 ∷ drop j s) (sym l) ∙ ap (λ t. 69 ∷ 78 ∷ t) (drop-length s)

-- what is accepted has no further mark of the kind, and goes on
kind_passed : (k : Kind) (s : List ℕ) (o : ℕ) (rest : Answer) → accepted (kind_then k s o rest) ≡ true → accepted rest ≡ true
unfolding kind_then stop_then
kind_passed k s o rest h =
    let m : Bool = is_mark k.first k.second s (after k s o) in
    (passed m 32 (after k s o) rest refl (passed (and m (leb k.most (rows_at k s o))) 34 (after k s o) (refuse m 32 (after k s o) rest) refl h).1).1

kind_records : (k : Kind) (s : List ℕ) (o : ℕ) → Bytes s → drop o s ≡ records_from k (columns k.widths s (o + 2) (size k) (rows_at k s o)) 0 (rows_at k s o) ++ drop (after k s o) s
unfolding rows_at after
kind_records k s o b =
    let q : o ≡ o + 0 * size k = omega (arith, zero-mul (size k)) in
    let e : 0 + rows_at k s o ≡ rows_at k s o = omega arith in
    ap (λ j. drop j s) q ∙ records_read k s o (rows_at k s o) b (whole_marked k.first k.second (size k) s k.most o) (rows_at k s o) 0 e

pub kinds_read : (ks : List Kind) (s : List ℕ) (o : ℕ) (rest : Answer) → proper ks ≡ true → Bytes s → accepted (kinds_then ks s o rest) ≡ true → kinds_bytes ks (tables_from ks s o) ≡ drop o s
unfolding kinds_then kinds_bytes tables_from
kinds_read [] s o rest p b h = sym (end_read s o rest h)
kinds_read (k ∷ ks) s o rest p b h =
    let v : _ = proper_of k ks p in
    ap₂ (λ (n : ℕ) (t : List ℕ). records_from k (columns k.widths s (o + 2) (size k) (rows_at k s o)) 0 n ++ t)
    (height_columns k.widths s (o + 2) (size k) (rows_at k s o) v.field)
    (kinds_read ks s (after k s o) rest v.later b (kind_passed k s o (kinds_then ks s (after k s o) rest) h))
    ∙ sym (kind_records k s o b)

-- ---- from the tables to the bytes and back

-- tables of the kinds, within the limits and the widths
pub data Fitting : List Kind → List (List (List ℕ)) → Type 0 where
  nil : Fitting [] []
  cons : {k : Kind} {ks : List Kind} {cs : List (List ℕ)} {X : List (List (List ℕ))} → Fit k.widths cs (height cs) → height cs ≤ k.most → Fitting ks X → Fitting (k ∷ ks) (cs ∷ X)

-- a foreign mark does not stand where the kinds' records begin
foreign_mark : {ks : List Kind} {X : List (List (List ℕ))} (a b : ℕ) (s : List ℕ) (o : ℕ) → Fitting ks X → foreign a b ks ≡ true → drop o s ≡ kinds_bytes ks X → is_mark a b s o ≡ false
unfolding foreign kinds_bytes records_from record_at
foreign_mark a b s o nil h e = other_mark a b s o e (not_of (and (eqb 69 a) (eqb 78 b)) h)
foreign_mark a b s o (cons {k = k} {ks = ks} {cs = cs} {X = X} f l g) h e = go (and (eqb k.first a) (eqb k.second b)) refl (height cs) e (foreign_mark a b s o g)
  where
    go : (t : Bool) → and (eqb k.first a) (eqb k.second b) ≡ t → (n : ℕ) → drop o s ≡ records_from k cs 0 n ++ kinds_bytes ks X → (foreign a b ks ≡ true → drop o s ≡ kinds_bytes ks X → is_mark a b s o ≡ false) → is_mark a b s o ≡ false
    go true q n e ih = absurd (clash h (rw (q, foreign)))
    go false q zero e ih = ih (rw (q, foreign) at h) e
    go false q (suc n) e ih = other_mark a b s o e q

end_written : (s : List ℕ) (o : ℕ) (rest : Answer) → drop o s ≡ 69 ∷ 78 ∷ [] → end_then s o rest ≡ rest
unfolding end_then
end_written s o rest e =
    let l : length s ≡ o + 2 = omega (arith, length-drop o s, ap length e) in
    refuse_no 32 o _ (le-ltb (length s) (o + 2) (omega arith))
    ∙ refuse_no 31 o _ (ap not (front_mark s o e))
    ∙ refuse_no 33 (o + 2) _ (le-ltb (o + 2) (length s) (omega arith))

-- one kind, whose records stand before those of the later kinds
module _ (k : Kind) (ks : List Kind) (cs : List (List ℕ)) (X : List (List (List ℕ))) (s : List ℕ) (o : ℕ) (v : Proper k ks) (f : Fit k.widths cs (height cs)) (l : height cs ≤ k.most) (g : Fitting ks X) (e : drop o s ≡ records_from k cs 0 (height cs) ++ kinds_bytes ks X) where
  later_written : drop (o + height cs * size k) s ≡ kinds_bytes ks X
  unfolding records_from
  later_written = let q : height cs + 0 ≡ height cs = omega arith in records_written k s o (height cs) cs (kinds_bytes ks X) f e (height cs) 0 q

  unmarked : is_mark k.first k.second s (o + height cs * size k) ≡ false
  unmarked = foreign_mark k.first k.second s (o + height cs * size k) g v.apart later_written

  counted : rows_at k s o ≡ height cs
  unfolding rows_at
  counted = whole_is k.first k.second (size k) s (height cs) k.most o l (stand_written k s o (height cs) cs (kinds_bytes ks X) f e) unmarked

  ends : after k s o ≡ o + height cs * size k
  unfolding after
  ends = ap (λ n. o + n * size k) counted

  kind_skipped : (r : Answer) → kind_then k s o r ≡ r
  unfolding kind_then stop_then
  kind_skipped r = let u : is_mark k.first k.second s (after k s o) ≡ false = rw ends unmarked in refuse_no {t = and (is_mark k.first k.second s (after k s o)) (leb k.most (rows_at k s o))} 34 _ _ (rw u) ∙ refuse_no 32 _ _ u

  kind_columns : columns k.widths s (o + 2) (size k) (rows_at k s o) ≡ cs
  kind_columns = ap (columns k.widths s (o + 2) (size k)) counted ∙ read_columns k s o (height cs) cs (kinds_bytes ks X) f e

pub kinds_written : {ks : List Kind} {X : List (List (List ℕ))} (s : List ℕ) (o : ℕ) (rest : Answer) → proper ks ≡ true → Fitting ks X → drop o s ≡ kinds_bytes ks X → (kinds_then ks s o rest ≡ rest) × (tables_from ks s o ≡ X)
unfolding kinds_then kinds_bytes tables_from
kinds_written s o rest p nil e = (end_written s o rest e, refl)
kinds_written s o rest p (cons {k = k} {ks = ks} {cs = cs} {X = X} f l g) e =
    let v : Proper k ks = proper_of k ks p in
    let q : after k s o ≡ o + height cs * size k = ends k ks cs X s o v f l g e in
    let ih : _ = kinds_written s (o + height cs * size k) rest v.later g (later_written k ks cs X s o v f l g e) in
    (kind_skipped k ks cs X s o v f l g e (kinds_then ks s (after k s o) rest) ∙ ap (λ j. kinds_then ks s j rest) q ∙ ih.0, ap₂ (λ (x : List (List ℕ)) (y : List (List (List ℕ))). x ∷ y) (kind_columns k ks cs X s o v f l g e) (ap (tables_from ks s) q ∙ ih.1))

-- ---- the whole file

-- what stands after the first record's mark, and after L
first_drop : (f : Form) (L : ℕ) (X : List (List (List ℕ))) → drop 6 (form_bytes f L X) ≡ kinds_bytes f.kinds X
unfolding form_bytes
first_drop f L X = drop_at (bytes_of 4 L) (kinds_bytes f.kinds X) 4 (length_bytes 4 L)

first_long : (f : Form) (L : ℕ) (X : List (List (List ℕ))) → 6 ≤ length (form_bytes f L X)
unfolding form_bytes
first_long f L X = omega (arith, length-append (bytes_of 4 L) (kinds_bytes f.kinds X), length_bytes 4 L)

module _ (f : Form) (L : ℕ) (X : List (List (List ℕ))) (p : proper f.kinds ≡ true) (l : L < 256 ^ 4) (g : Fitting f.kinds X) where
  -- what was written is accepted
  pub form_accepted : (rest : Answer) → form_then f (form_bytes f L X) rest ≡ rest
  unfolding form_then form_bytes
  form_accepted rest =
      let h : 6 ≤ length (form_bytes f L X) = first_long f L X in
      refuse_no 32 0 _ (le-ltb (length (form_bytes f L X)) 2 (omega arith))
      ∙ refuse_no 31 0 _ (ap not (front_mark (form_bytes f L X) 0 refl))
      ∙ refuse_no 32 0 _ (le-ltb (length (form_bytes f L X)) 6 h)
      ∙ (kinds_written (form_bytes f L X) 6 rest p g (first_drop f L X)).0

  -- with its L
  pub form_len : number 4 (form_bytes f L X) 2 ≡ L
  unfolding form_bytes
  form_len = number_written 4 L (kinds_bytes f.kinds X) 2 (form_bytes f L X) l refl

  -- and its tables
  pub form_tables : tables_from f.kinds (form_bytes f L X) 6 ≡ X
  form_tables = (kinds_written (form_bytes f L X) 6 (record { number = 0; row = 0 }) p g (first_drop f L X)).1

-- what was accepted is written back byte for byte
pub form_read : (f : Form) (s : List ℕ) (rest : Answer) → proper f.kinds ≡ true → Bytes s → accepted (form_then f s rest) ≡ true → form_bytes f (number 4 s 2) (tables_from f.kinds s 6) ≡ s
unfolding form_then form_bytes
form_read f s rest p b h =
    let m : Bool = is_mark f.first f.second s 0 in
    let p1 : _ = passed (ltb (length s) 2) 32 0 (refuse (not m) 31 0 (refuse (ltb (length s) 6) 32 0 (kinds_then f.kinds s 6 rest))) refl h in
    let p2 : _ = passed (not m) 31 0 (refuse (ltb (length s) 6) 32 0 (kinds_then f.kinds s 6 rest)) refl p1.1 in
    let p3 : _ = passed (ltb (length s) 6) 32 0 (kinds_then f.kinds s 6 rest) refl p2.1 in
    let l : 6 ≤ length s = ltb-false (length s) 6 p3.0 in
    let e : drop 0 s ≡ f.first ∷ f.second ∷ drop (0 + 2) s = marked_front f.first f.second s 0 (marked f.first f.second s 0 (not_no m p2.0)) in
    let t : bytes_of 4 (number 4 s 2) ≡ take 4 (drop 2 s) = bytes_read 4 s 2 b l in
    let k : kinds_bytes f.kinds (tables_from f.kinds s 6) ≡ drop 4 (drop 2 s) = kinds_read f.kinds s 6 rest p b p3.1 ∙ sym (drop-drop 4 2 s) in
    ap (λ r. f.first ∷ f.second ∷ r) (ap₂ (λ (x y : List ℕ). x ++ y) t k ∙ take-append-drop 4 (drop 2 s)) ∙ sym e
