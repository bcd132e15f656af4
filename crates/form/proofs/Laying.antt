-- Laws for bytes laid at an offset: one after the other, record by record, and over the whole file.
use mathlib.Core.Path.{◌≡◌, refl, sym, ap, ap₂, ◌∙◌}
use mathlib.Core.List.{List, [], ◌∷◌, ◌++◌, append_assoc, append-nil}
use Prim.Native.Nat.{ℕ, zero, suc, ◌+◌, ◌*◌, ◌-◌, ◌/◌, ◌%◌, ◌<◌, ◌≤◌}
use native.Mathlib.Nat.{zero-mul, suc-mul}
use native.Mathlib.Numerals.{add-one}
use native.Mathlib.Omega.{arith}
use lib.ListN.{length, take, drop, set, length-append, length-drop, take-append-drop}
use lib.Seq.{set_split, take_at, drop_at, drop-drop, length-take-le}
use Rattle.std.specs.Int.{w32, to_le_bytes}
use Rattle.meaning.specs.Answer.{put}
use Rattle.meaning.specs.Stored.{Kind, bytes_of, size, record_at, records_from}
use Rattle.form.specs.Records.{length_record}
use Rattle.form.specs.Posts.{lay}

-- ---- bytes of a number

pub bytes_one : (v : ℕ) → v < 256 → bytes_of 1 v ≡ v ∷ []
unfolding bytes_of
bytes_one v h = let q : v % 256 ≡ v = omega arith in ap (λ a. a ∷ []) q

-- four bytes are two and two
pub bytes_halves : (v : ℕ) → bytes_of 2 v ++ bytes_of 2 (v / 65536) ≡ bytes_of 4 v
unfolding bytes_of
bytes_halves v = let q : v / 65536 ≡ v / 256 / 256 = omega arith in ap (λ a. v % 256 ∷ v / 256 % 256 ∷ a % 256 ∷ a / 256 % 256 ∷ []) q

-- the bytes that the library gives are those of the form
pub bytes_four : (v : ℕ) → to_le_bytes w32 v ≡ bytes_of 4 v
unfolding bytes_of
bytes_four v =
    let p : v / 65536 ≡ v / 256 / 256 = omega arith in
    let q : v / 16777216 ≡ v / 256 / 256 / 256 = omega arith in
    ap₂ (λ (a b : ℕ). v % 256 ∷ v / 256 % 256 ∷ a % 256 ∷ b % 256 ∷ []) p q

pub bytes_two : (v : ℕ) → take 2 (to_le_bytes w32 v) ≡ bytes_of 2 v
unfolding bytes_of
bytes_two v = refl

-- ---- one after the other

pub length_lay : (o : ℕ) (new old : List ℕ) → o + length new ≤ length old → length (lay o new old) ≡ length old
unfolding lay
length_lay o new old h = omega (arith, length-append (take o old) (new ++ drop (o + length new) old), length-append new (drop (o + length new) old), length-take-le o old (omega arith), length-drop (o + length new) old)

pub lay_one : (o v : ℕ) (old : List ℕ) → o + 1 ≤ length old → set old o v ≡ lay o (v ∷ []) old
unfolding lay
lay_one o v old h = set_split old o v (omega arith) ∙ ap (λ j. take o old ++ (v ∷ drop j old)) (sym (add-one o))

-- a part that was copied over is laid
pub lay_part : (o n : ℕ) (new old : List ℕ) {part : List ℕ} → part ≡ new → length new ≡ n → take o old ++ (part ++ drop (o + n - o) (drop o old)) ≡ lay o new old
unfolding lay
lay_part o n new old e l =
    let q : o + (o + n - o) ≡ o + length new = omega (arith, l) in
    ap₂ (λ (p r : List ℕ). take o old ++ (p ++ r)) e (drop-drop (o + n - o) o old ∙ ap (λ j. drop j old) q)

lay_nil : (o : ℕ) (old : List ℕ) → lay o [] old ≡ old
unfolding lay
lay_nil o old = let q : o + 0 ≡ o = omega arith in ap (λ j. take o old ++ drop j old) q ∙ take-append-drop o old

lay_then : (o p : ℕ) (a b old : List ℕ) → p ≡ o + length a → p + length b ≤ length old → lay p b (lay o a old) ≡ lay o (a ++ b) old
unfolding lay
lay_then o p a b old e h =
    let rest : List ℕ = drop (o + length a) old in
    let l : length (take o old ++ a) ≡ p = omega (arith, length-append (take o old) a, length-take-le o old (omega arith)) in
    let s : take o old ++ (a ++ rest) ≡ (take o old ++ a) ++ rest = sym (append_assoc (take o old) a rest) in
    let t : take p (take o old ++ (a ++ rest)) ≡ take o old ++ a = ap (take p) s ∙ take_at (take o old ++ a) rest p l in
    let d : drop (p + length b) (take o old ++ (a ++ rest)) ≡ drop (o + length a + length b) old =
    ap (drop (p + length b)) s ∙ sym (drop-drop (length b) p ((take o old ++ a) ++ rest)) ∙ ap (drop (length b)) (drop_at (take o old ++ a) rest p l) ∙ drop-drop (length b) (o + length a) old in
    let q : o + length a + length b ≡ o + length (a ++ b) = omega (arith, length-append a b) in
    ap₂ (λ (x y : List ℕ). x ++ (b ++ y)) t (d ∙ ap (λ j. drop j old) q)
    ∙ append_assoc (take o old) a (b ++ drop (o + length (a ++ b)) old)
    ∙ ap (λ x. take o old ++ x) (sym (append_assoc a b (drop (o + length (a ++ b)) old)))

-- what was laid, and then more laid behind it
pub lay_chain : (o p : ℕ) (a b old : List ℕ) {mid out : List ℕ} → mid ≡ lay o a old → out ≡ lay p b mid → p ≡ o + length a → p + length b ≤ length old → out ≡ lay o (a ++ b) old
lay_chain o p a b old e f q h = f ∙ ap (lay p b) e ∙ lay_then o p a b old q h

-- bytes laid from offset 0 on stand at the front
pub lay_front : (new old : List ℕ) → lay 0 new old ≡ put new old
unfolding lay put
lay_front new old = let q : 0 + length new ≡ length new = omega arith in ap (λ j. new ++ drop j old) q

-- ---- record by record

records_more : (k : Kind) (cs : List (List ℕ)) (i n : ℕ) → records_from k cs i (suc n) ≡ records_from k cs i n ++ record_at k cs (i + n)
unfolding records_from
records_more k cs i zero = let q : i ≡ i + 0 = omega arith in append-nil (record_at k cs i) ∙ ap (record_at k cs) q
records_more k cs i (suc n) =
    let q : suc i + n ≡ i + suc n = omega arith in
    ap (λ r. record_at k cs i ++ r) (records_more k cs (suc i) n ∙ ap (λ j. records_from k cs (suc i) n ++ record_at k cs j) q)
    ∙ sym (append_assoc (record_at k cs i) (records_from k cs (suc i) n) (record_at k cs (i + suc n)))

pub length_records : (k : Kind) (cs : List (List ℕ)) (i n : ℕ) → length cs ≡ length k.widths → length (records_from k cs i n) ≡ n * size k
unfolding records_from
length_records k cs i zero e = sym (zero-mul (size k))
length_records k cs i (suc n) e = omega (arith, length-append (record_at k cs i) (records_from k cs (suc i) n), length_record k cs i e, length_records k cs (suc i) n e, suc-mul n (size k))

-- i of n records of z bytes are laid from offset o on, and the next stands at p
pub record Laid (k : Kind) (cs : List (List ℕ)) (o z n : ℕ) (old out : List ℕ) (p i : ℕ) : Type 0 where
  pub few : i ≤ n
  pub place : p ≡ o + i * z
  pub same : length out ≡ length old
  pub cells : out ≡ lay o (records_from k cs 0 i) old

module _ (k : Kind) (cs : List (List ℕ)) (o z n : ℕ) (old : List ℕ) where
  pub laid_start : Laid k cs o z n old old o 0
  unfolding records_from
  laid_start = record { few = omega arith; place = omega (arith, zero-mul z); same = refl; cells = sym (lay_nil o old) }

  -- the next record has room
  pub laid_room : (out : List ℕ) (p i : ℕ) → Laid k cs o z n old out p i → o + n * z ≤ length old → i < n → p + z ≤ length old
  laid_room out p i c h l = omega (arith, c.place, suc-mul i z, mul_mono (suc i) n z l)
    where
      mul_mono : (a b z : ℕ) → a ≤ b → a * z ≤ b * z
      mul_mono a zero z h = let q : a ≡ 0 = omega arith in rw q (omega arith)
      mul_mono zero (suc b) z h = omega (arith, zero-mul z)
      mul_mono (suc a) (suc b) z h = omega (arith, suc-mul a z, suc-mul b z, mul_mono a b z (omega arith))

  pub laid_more : (out : List ℕ) (p i : ℕ) (next : List ℕ) → length cs ≡ length k.widths → size k ≡ z → o + n * z ≤ length old → Laid k cs o z n old out p i → i < n → next ≡ lay p (record_at k cs i) out → Laid k cs o z n old next (p + z) (i + 1)
  laid_more out p i next e q h c l g =
      let j : i + 1 ≡ suc i = add-one i in
      let b : length (records_from k cs 0 i) ≡ i * z = length_records k cs 0 i e ∙ ap (λ y. i * y) q in
      let r : length (record_at k cs i) ≡ z = length_record k cs i e ∙ q in
      let f : p + z ≤ length old = laid_room out p i c h l in
      let m : 0 + i ≡ i = omega arith in
      let t : next ≡ lay o (records_from k cs 0 i ++ record_at k cs i) old = lay_chain o p (records_from k cs 0 i) (record_at k cs i) old c.cells g (omega (arith, c.place)) (omega arith) in
      let u : records_from k cs 0 i ++ record_at k cs i ≡ records_from k cs 0 (i + 1) = ap (λ y. records_from k cs 0 i ++ record_at k cs y) (sym m) ∙ sym (records_more k cs 0 i) ∙ ap (records_from k cs 0) (sym j) in
      record {
        few = omega arith;
        place = omega (arith, c.place, suc-mul i z, ap (λ y. y * z) j);
        same = ap length t ∙ length_lay o (records_from k cs 0 i ++ record_at k cs i) old (omega (arith, c.place, length-append (records_from k cs 0 i) (record_at k cs i)));
        cells = t ∙ ap (λ y. lay o y old) u;
      }

  pub laid_end : (out : List ℕ) (p i : ℕ) → Laid k cs o z n old out p i → n ≤ i → (p ≡ o + n * z) × (out ≡ lay o (records_from k cs 0 n) old)
  laid_end out p i c l =
      let q : i ≡ n = omega (arith, c.few) in
      (c.place ∙ ap (λ j. o + j * z) q, c.cells ∙ ap (λ j. lay o (records_from k cs 0 j) old) q)
