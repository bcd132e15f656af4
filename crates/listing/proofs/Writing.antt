-- Laws of bytes written into lent bytes, one piece after the other.
use mathlib.Core.Path.{◌≡◌, refl, sym, ap, ap₂, subst, ◌∙◌}
use mathlib.Core.List.{List, [], ◌∷◌, ◌++◌, append_assoc}
use Prim.Native.Nat.{ℕ, ◌+◌, ◌-◌, ◌<◌, ◌≤◌}
use native.Mathlib.Numerals.{add-one}
use native.Mathlib.Omega.{arith}
use lib.ListN.{length, take, drop, set, length-append, length-drop, take-append-drop}
use lib.Seq.{set_split, take_at, drop_at, drop-drop, length-take-le}
use Rattle.meaning.specs.Answer.{put}
use Rattle.listing.specs.Written.{lay, Wrote, Printed}

length_lay : (o : ℕ) (new old : List ℕ) → o + length new ≤ length old → length (lay o new old) ≡ length old
unfolding lay
length_lay o new old h = omega (arith, length-append (take o old) (new ++ drop (o + length new) old), length-append new (drop (o + length new) old), length-take-le o old (omega arith), length-drop (o + length new) old)

lay_then : (o p : ℕ) (a b old : List ℕ) → p ≡ o + length a → p + length b ≤ length old → lay p b (lay o a old) ≡ lay o (a ++ b) old
unfolding lay
lay_then o p a b old e h =
    let more : List ℕ = drop (o + length a) old in
    let l : length (take o old ++ a) ≡ p = omega (arith, length-append (take o old) a, length-take-le o old (omega arith)) in
    let s : take o old ++ (a ++ more) ≡ (take o old ++ a) ++ more = sym (append_assoc (take o old) a more) in
    let t : take p (take o old ++ (a ++ more)) ≡ take o old ++ a = ap (take p) s ∙ take_at (take o old ++ a) more p l in
    let d : drop (p + length b) (take o old ++ (a ++ more)) ≡ drop (o + length a + length b) old =
    ap (drop (p + length b)) s ∙ sym (drop-drop (length b) p ((take o old ++ a) ++ more)) ∙ ap (drop (length b)) (drop_at (take o old ++ a) more p l) ∙ drop-drop (length b) (o + length a) old in
    let q : o + length a + length b ≡ o + length (a ++ b) = omega (arith, length-append a b) in
    ap₂ (λ (x y : List ℕ). x ++ (b ++ y)) t (d ∙ ap (λ j. drop j old) q)
    ∙ append_assoc (take o old) a (b ++ drop (o + length (a ++ b)) old)
    ∙ ap (λ x. take o old ++ x) (sym (append_assoc a b (drop (o + length (a ++ b)) old)))

pub wrote_nothing : (o : ℕ) (old : List ℕ) → o ≤ length old → Wrote o [] old old o
unfolding lay
wrote_nothing o old h =
    let q : o ≡ o + 0 = omega arith in
    record { fits = omega arith; next = omega arith; cells = sym (take-append-drop o old) ∙ ap (λ j. take o old ++ drop j old) q }

pub wrote_byte : (o v : ℕ) (old : List ℕ) → o < length old → Wrote o (v ∷ []) old (set old o v) (o + 1)
unfolding lay
wrote_byte o v old h = record {
  fits = omega arith;
  next = refl;
  cells = set_split old o v h ∙ ap (λ j. take o old ++ (v ∷ drop j old)) (sym (add-one o));
}

-- a part that was copied over
pub wrote_part : (o : ℕ) (new old : List ℕ) {part : List ℕ} → o + length new ≤ length old → part ≡ new → Wrote o new old (take o old ++ (part ++ drop (o + length new - o) (drop o old))) (o + length new)
unfolding lay
wrote_part o new old h e =
    let q : o + (o + length new - o) ≡ o + length new = omega arith in
    record { fits = h; next = refl; cells = ap₂ (λ (p r : List ℕ). take o old ++ (p ++ r)) e (drop-drop (o + length new - o) o old ∙ ap (λ j. drop j old) q) }

-- a writer changes no length
pub wrote_length : {o r : ℕ} {new old out : List ℕ} → Wrote o new old out r → length out ≡ length old
wrote_length {o} {r} {new} {old} {out} w = ap length w.cells ∙ length_lay o new old w.fits

-- one piece, and the next behind it
pub wrote_then : {o p r : ℕ} {a b old mid out : List ℕ} → Wrote o a old mid p → Wrote p b mid out r → Wrote o (a ++ b) old out r
wrote_then {o} {p} {r} {a} {b} {old} {mid} {out} v w =
    let l : length mid ≡ length old = wrote_length v in
    let q : p ≡ o + length a = v.next in
    record {
      fits = omega (arith, w.fits, length-append a b);
      next = omega (arith, w.next, length-append a b);
      cells = w.cells ∙ ap (lay p b) v.cells ∙ lay_then o p a b old q (omega (arith, w.fits));
    }

-- room for two pieces is room for the first
pub room_first : (o : ℕ) (a b old : List ℕ) → o + length (a ++ b) ≤ length old → o + length a ≤ length old
room_first o a b old h = omega (arith, length-append a b)

-- and, once that is written, for the second
pub room_then : {o p : ℕ} {a old mid : List ℕ} (b : List ℕ) → Wrote o a old mid p → o + length (a ++ b) ≤ length old → p + length b ≤ length mid
room_then {o} {p} {a} {old} {mid} b w h = omega (arith, length-append a b, wrote_length w, w.next)

-- the same bytes by another name
pub wrote_as : {o r : ℕ} {a b old out : List ℕ} → a ≡ b → Wrote o a old out r → Wrote o b old out r
wrote_as {o} {r} {a} {b} {old} {out} e w = subst (λ (l : List ℕ). Wrote o l old out r) e w

pub room_as : (o : ℕ) {a b : List ℕ} (old : List ℕ) → a ≡ b → o + length a ≤ length old → o + length b ≤ length old
room_as o old e h = omega (arith, ap length e)

-- bytes written from offset 0 on stand at the front
pub wrote_front : {r : ℕ} {new old out : List ℕ} → Wrote 0 new old out r → Printed new old out r
unfolding lay put
wrote_front {r} {new} {old} {out} w =
    let q : 0 + length new ≡ length new = omega arith in
    record { count = w.next ∙ q; fits = omega (arith, w.next, w.fits); cells = w.cells ∙ ap (λ j. new ++ drop j old) q }

-- the bytes of a page are those that were lent
pub printed_on : {r : ℕ} {new old out lent : List ℕ} → Printed new old out r → lent ≡ out → Printed new old lent r
printed_on {r} {new} {old} {out} {lent} p e = record { count = p.count; fits = p.fits; cells = e ∙ p.cells }
