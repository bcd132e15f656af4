-- Rows with one number, and edges that share a position, are so both ways.
use Rattle.std.specs.Prelude.{◌≡◌, true, List, ℕ, ◌<◌, eqb, ltb}
use Rattle.std.proofs.Common.{sym, lt-ltb, ltb-true, eqb-true, eq-eqb}
use Rattle.meaning.specs.Words.{at, and}
use Rattle.meaning.specs.Rows.{EdgeColumns}
use Rattle.meaning.specs.Check.{share}
use Rattle.laws.specs.Bools.{and_of, and_yes}
use Rattle.rules.specs.Lined.{twins}

pub twins_even : (l : List ℕ) (a b : ℕ) → twins l a b ≡ true → twins l b a ≡ true
twins_even l a b e = eq-eqb (at l b) (at l a) (sym (eqb-true (at l a) (at l b) e))

pub share_of : (E : EdgeColumns) (j i : ℕ) → share E j i ≡ true → (at E.child j ≡ at E.child i) × (at E.left j < at E.right i) × (at E.left i < at E.right j)
unfolding share
share_of E j i h =
    let r : _ = and_of (eqb (at E.child j) (at E.child i)) (and (ltb (at E.left j) (at E.right i)) (ltb (at E.left i) (at E.right j))) h in
    let s : _ = and_of (ltb (at E.left j) (at E.right i)) (ltb (at E.left i) (at E.right j)) r.1 in
    (eqb-true _ _ r.0, ltb-true _ _ s.0, ltb-true _ _ s.1)

pub of_share : (E : EdgeColumns) (j i : ℕ) → at E.child j ≡ at E.child i → at E.left j < at E.right i → at E.left i < at E.right j → share E j i ≡ true
unfolding share
of_share E j i a b c = and_yes (eq-eqb _ _ a) (and_yes (lt-ltb _ _ b) (lt-ltb _ _ c))

pub share_even : (E : EdgeColumns) (j i : ℕ) → share E j i ≡ true → share E i j ≡ true
share_even E j i h = let r : _ = share_of E j i h in of_share E i j (sym r.0) r.2 r.1
