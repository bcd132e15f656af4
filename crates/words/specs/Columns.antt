-- Columns of one block of words: word k * n + u of the block is row u of column k; after 16 columns come the edges' words.
use Rattle.std.specs.Prelude.{◌≡◌, refl, Bool, true, false, not, List, [], ◌∷◌, ℕ, suc, ◌+◌, ◌-◌, ◌*◌, ◌<◌, ◌≤◌, eqb, ltb, length, get_or, drop, set}
use Rattle.std.proofs.Common.{sym, ◌∙◌, mul-le-mul_right, suc-mul, length-set, drop-set-lt, drop-drop, ltb-true, ltb-false, ne_eqb}
use Rattle.std.proofs.Math.Path.{ap}
use native.Mathlib.Omega.{arith}
use Rattle.std.proofs.Math.ListN.{take, length-drop}
use Rattle.std.proofs.Math.Seq.{take-set-le, take-set-lt, get_or-take, get_or-drop, length-take-le}
use Rattle.std.proofs.lemmas.List.{drop-set-add}
use Rattle.std.proofs.lemmas.Bool.{eqb-false}
use Rattle.meaning.specs.Words.{and}
use Rattle.laws.specs.Bools.{clash, and_of, and_yes}

-- ---- a part: n words from b on

-- the n words from b on
unfoldable pub part : ℕ → ℕ → List ℕ → List ℕ
part b n w = take n (drop b w)

module _ (b n : ℕ) (w : List ℕ) where
  pub part_length : b + n ≤ length w → length (part b n w) ≡ n
  unfolding part
  part_length h = length-take-le n (drop b w) (omega (arith, length-drop b w))

  pub part_get : (u : ℕ) → u < n → get_or (part b n w) u 0 ≡ get_or w (b + u) 0
  unfolding part
  part_get u h = get_or-take n (drop b w) u 0 h ∙ get_or-drop b w u 0

  pub part_set : (u v : ℕ) → u < n → part b n (set w (b + u) v) ≡ set (part b n w) u v
  unfolding part
  part_set u v h = ap (take n) (drop-set-add b w u v) ∙ take-set-lt n (drop b w) u v h

  -- a write below or past it leaves it
  pub part_below : (i v : ℕ) → i < b → part b n (set w i v) ≡ part b n w
  unfolding part
  part_below i v h = ap (take n) (drop-set-lt b w i v h)

  pub part_past : (i v : ℕ) → b + n ≤ i → part b n (set w i v) ≡ part b n w
  unfolding part
  part_past i v h = let e : b + (i - b) ≡ i = omega arith in ap (λ (x : ℕ). take n (drop b (set w x v))) (sym e) ∙ ap (take n) (drop-set-add b w (i - b) v) ∙ take-set-le n (drop b w) (i - b) v (omega arith)

-- ---- columns

abbrev pub column : ℕ → List ℕ → ℕ → List ℕ
column k w n = part (k * n) n w

-- the words past the nodes' columns
abbrev pub past : List ℕ → ℕ → List ℕ
past w n = drop (16 * n) w

-- a later column starts at or past the end of an earlier one
pub next_column : (j k n : ℕ) → j < k → j * n + n ≤ k * n
next_column j k n h = omega (arith, mul-le-mul_right {m = suc j} {n = k} n h, suc-mul j n)

-- a column has a word for each row
pub column_long : (k n : ℕ) (w : List ℕ) → 16 * n ≤ length w → ltb k 16 ≡ true → length (column k w n) ≡ n
column_long k n w h b = part_length (k * n) n w (omega (arith, next_column k 16 n (ltb-true k 16 b)))

-- what is read and written by the word's number is row u of the column
pub column_get : (k n : ℕ) (w : List ℕ) (u : ℕ) → u < n → get_or w (k * n + u) 0 ≡ get_or (column k w n) u 0
column_get k n w u h = sym (part_get (k * n) n w u h)

module _ (k n : ℕ) (w : List ℕ) (u v : ℕ) (h : u < n) where
  pub column_set : column k (set w (k * n + u) v) n ≡ set (column k w n) u v
  column_set = part_set (k * n) n w u v h

  -- and every other column stays; at numerals the condition is refl
  pub column_off : (j : ℕ) → eqb j k ≡ false → column j (set w (k * n + u) v) n ≡ column j w n
  column_off j e = go (ltb j k) refl
    where
      go : (t : Bool) → ltb j k ≡ t → column j (set w (k * n + u) v) n ≡ column j w n
      go true l = part_past (j * n) n w (k * n + u) v (omega (arith, next_column j k n (ltb-true j k l)))
      go false l = part_below (j * n) n w (k * n + u) v (omega (arith, next_column k j n (omega (arith, ltb-false j k l, eqb-false j k e))))

  -- and what is past the columns
  pub column_past : ltb k 16 ≡ true → past (set w (k * n + u) v) n ≡ past w n
  column_past e = drop-set-lt (16 * n) w (k * n + u) v (omega (arith, next_column k 16 n (ltb-true k 16 e)))

-- ---- what a function leaves as it was

-- j is none of the columns ks
abbrev pub off : ℕ → List ℕ → Bool
off j [] = true
off j (k ∷ ks) = and (not (eqb j k)) (off j ks)

-- w' is w but for the columns ks
pub record Only (ks : List ℕ) (n : ℕ) (w w' : List ℕ) : Type 0 where
  pub long : length w' ≡ length w
  pub same : (j : ℕ) → off j ks ≡ true → column j w' n ≡ column j w n
  pub rest : past w' n ≡ past w n

pub only_none : {ks : List ℕ} {n : ℕ} {w : List ℕ} → Only ks n w w
only_none = record { long = refl; same = λ j e. refl; rest = refl }

-- one write more in one of the columns ks
pub only_set : (ks : List ℕ) (n : ℕ) (w w' : List ℕ) (k u v : ℕ) → Only ks n w w' → u < n → off k ks ≡ false → ltb k 16 ≡ true → Only ks n w (set w' (k * n + u) v)
only_set ks n w w' k u v o h e l = record {
  long = length-set w' (k * n + u) v ∙ o.long;
  same = λ j f. column_off k n w' u v h j (apart j k ks f e) ∙ o.same j f;
  rest = column_past k n w' u v h l ∙ o.rest;
}
  where
    apart : (j k : ℕ) (ks : List ℕ) → off j ks ≡ true → off k ks ≡ false → eqb j k ≡ false
    apart j k ks f e = ne_eqb j k (λ q. clash f (ap (λ (x : ℕ). off x ks) q ∙ e))

-- the same, by the equation that a call gives
pub only_put : {ks : List ℕ} {n : ℕ} {w w' w'' : List ℕ} → Only ks n w w' → (k u v : ℕ) → w'' ≡ set w' (k * n + u) v → u < n → off k ks ≡ false → ltb k 16 ≡ true → Only ks n w w''
only_put {ks} {n} {w} {w'} o k u v e h f l = rw e (only_set ks n w w' k u v o h f l)

-- one call after the other, where the second changes no more columns
pub only_then : {ks ls : List ℕ} {n : ℕ} {w w' w'' : List ℕ} → Only ks n w w' → Only ls n w' w'' → ((j : ℕ) → off j ks ≡ true → off j ls ≡ true) → Only ks n w w''
only_then a b sub = record {
  long = b.long ∙ a.long;
  same = λ j e. b.same j (sub j e) ∙ a.same j e;
  rest = b.rest ∙ a.rest;
}

-- none of the columns ks is outside ls
abbrev pub within : List ℕ → List ℕ → Bool
within [] ls = true
within (k ∷ ks) ls = and (not (off k ls)) (within ks ls)

not_true : (b : Bool) → not b ≡ true → b ≡ false
not_true true h = absurd (clash h refl)
not_true false h = refl

off_within : (ks ls : List ℕ) → within ks ls ≡ true → (j : ℕ) → off j ls ≡ true → off j ks ≡ true
off_within [] ls h j e = refl
off_within (k ∷ ks) ls h j e =
    let p : _ = and_of (not (off k ls)) (within ks ls) h in
    and_yes (ap not (ne_eqb j k (λ q. clash e (ap (λ (x : ℕ). off x ls) q ∙ not_true (off k ls) p.0)))) (off_within ks ls p.1 j e)

-- what changes no column but those of ks changes none but those of more; at numerals the condition is refl
pub only_more : {ks ls : List ℕ} {n : ℕ} {w w' : List ℕ} → within ks ls ≡ true → Only ks n w w' → Only ls n w w'
only_more {ks} {ls} h o = record { long = o.long; same = λ j e. o.same j (off_within ks ls h j e); rest = o.rest }

-- ---- the edges' columns: m words each, past the nodes'

abbrev pub edge : ℕ → List ℕ → ℕ → ℕ → List ℕ
edge k w n m = part (16 * n + k * m) m w

pub edge_long : (k n m : ℕ) (w : List ℕ) → 16 * n + 6 * m ≤ length w → ltb k 6 ≡ true → length (edge k w n m) ≡ m
edge_long k n m w h b = part_length (16 * n + k * m) m w (omega (arith, next_column k 6 m (ltb-true k 6 b)))

pub edge_get : (k n m : ℕ) (w : List ℕ) (e : ℕ) → e < m → get_or w (16 * n + k * m + e) 0 ≡ get_or (edge k w n m) e 0
edge_get k n m w e h = sym (part_get (16 * n + k * m) m w e h)

module _ (k n m : ℕ) (w : List ℕ) (e v : ℕ) where
  pub edge_set : e < m → edge k (set w (16 * n + k * m + e) v) n m ≡ set (edge k w n m) e v
  edge_set h = part_set (16 * n + k * m) m w e v h

  pub edge_off : e < m → (j : ℕ) → eqb j k ≡ false → edge j (set w (16 * n + k * m + e) v) n m ≡ edge j w n m
  edge_off h j f = go (ltb j k) refl
    where
      go : (t : Bool) → ltb j k ≡ t → edge j (set w (16 * n + k * m + e) v) n m ≡ edge j w n m
      go true l = part_past (16 * n + j * m) m w (16 * n + k * m + e) v (omega (arith, next_column j k m (ltb-true j k l)))
      go false l = part_below (16 * n + j * m) m w (16 * n + k * m + e) v (omega (arith, next_column k j m (omega (arith, ltb-false j k l, eqb-false j k f))))

  -- a write among the edges leaves the nodes' columns
  pub column_edge : (j : ℕ) → ltb j 16 ≡ true → column j (set w (16 * n + k * m + e) v) n ≡ column j w n
  column_edge j l = part_past (j * n) n w (16 * n + k * m + e) v (omega (arith, next_column j 16 n (ltb-true j 16 l)))

-- what is past the nodes' columns settles the edges' columns
past_edge : (j n m : ℕ) (w w' : List ℕ) → past w' n ≡ past w n → edge j w' n m ≡ edge j w n m
unfolding part
past_edge j n m w w' e = ap (take m) (sym (drop-drop (j * m) (16 * n) w') ∙ ap (drop (j * m)) e ∙ drop-drop (j * m) (16 * n) w)

-- a write among the nodes leaves the edges' columns
pub edge_column : (k n m : ℕ) (w : List ℕ) (u v : ℕ) → u < n → (j : ℕ) → ltb k 16 ≡ true → edge j (set w (k * n + u) v) n m ≡ edge j w n m
edge_column k n m w u v h j l = past_edge j n m w (set w (k * n + u) v) (column_past k n w u v h l)

pub only_edge : {ks : List ℕ} {n : ℕ} {w w' : List ℕ} → Only ks n w w' → (j m : ℕ) → edge j w' n m ≡ edge j w n m
only_edge {ks} {n} {w} {w'} o j m = past_edge j n m w w' o.rest

-- w' is w aside from the nodes' columns ks and the edges' columns es
pub record Aside (ks es : List ℕ) (n m : ℕ) (w w' : List ℕ) : Type 0 where
  pub long : length w' ≡ length w
  pub same : (j : ℕ) → ltb j 16 ≡ true → off j ks ≡ true → column j w' n ≡ column j w n
  pub edges : (j : ℕ) → off j es ≡ true → edge j w' n m ≡ edge j w n m
  pub rest : drop (16 * n + 6 * m) w' ≡ drop (16 * n + 6 * m) w

pub aside_none : {ks es : List ℕ} {n m : ℕ} {w : List ℕ} → Aside ks es n m w w
aside_none = record { long = refl; same = λ j l e. refl; edges = λ j e. refl; rest = refl }

-- a function that knows the nodes only, among functions that know both
pub only_aside : {ks : List ℕ} (es : List ℕ) {n : ℕ} (m : ℕ) {w w' : List ℕ} → Only ks n w w' → Aside ks es n m w w'
only_aside es {n} m {w} {w'} o = record {
  long = o.long;
  same = λ j l e. o.same j e;
  edges = λ j e. only_edge o j m;
  rest = sym (drop-drop (6 * m) (16 * n) w') ∙ ap (drop (6 * m)) o.rest ∙ drop-drop (6 * m) (16 * n) w;
}

pub aside_then : {ks es ls fs : List ℕ} {n m : ℕ} {w w' w'' : List ℕ} → Aside ks es n m w w' → Aside ls fs n m w' w'' → ((j : ℕ) → off j ks ≡ true → off j ls ≡ true) → ((j : ℕ) → off j es ≡ true → off j fs ≡ true) → Aside ks es n m w w''
aside_then a b sub tub = record {
  long = b.long ∙ a.long;
  same = λ j l e. b.same j l (sub j e) ∙ a.same j l e;
  edges = λ j e. b.edges j (tub j e) ∙ a.edges j e;
  rest = b.rest ∙ a.rest;
}

-- one write more in one of the edges' columns es
pub aside_edge : (ks es : List ℕ) (n m : ℕ) (w w' : List ℕ) (k e v : ℕ) → Aside ks es n m w w' → e < m → off k es ≡ false → ltb k 6 ≡ true → Aside ks es n m w (set w' (16 * n + k * m + e) v)
aside_edge ks es n m w w' k e v o h f l = record {
  long = length-set w' (16 * n + k * m + e) v ∙ o.long;
  same = λ j b g. column_edge k n m w' e v j b ∙ o.same j b g;
  edges = λ j g. edge_off k n m w' e v h j (ne_eqb j k (λ q. clash g (ap (λ (x : ℕ). off x es) q ∙ f))) ∙ o.edges j g;
  rest = drop-set-lt (16 * n + 6 * m) w' (16 * n + k * m + e) v (omega (arith, next_column k 6 m (ltb-true k 6 l))) ∙ o.rest;
}

pub aside_more : {ks ls es fs : List ℕ} {n m : ℕ} {w w' : List ℕ} → within ks ls ≡ true → within es fs ≡ true → Aside ks es n m w w' → Aside ls fs n m w w'
aside_more {ks} {ls} {es} {fs} h g o = record {
  long = o.long;
  same = λ j b e. o.same j b (off_within ks ls h j e);
  edges = λ j e. o.edges j (off_within es fs g j e);
  rest = o.rest;
}

-- one write more in one of the nodes' columns ks
pub aside_column : (ks es : List ℕ) (n m : ℕ) (w w' : List ℕ) (k u v : ℕ) → Aside ks es n m w w' → u < n → off k ks ≡ false → ltb k 16 ≡ true → Aside ks es n m w (set w' (k * n + u) v)
aside_column ks es n m w w' k u v o h e l = record {
  long = length-set w' (k * n + u) v ∙ o.long;
  same = λ j b f. column_off k n w' u v h j (ne_eqb j k (λ q. clash f (ap (λ (x : ℕ). off x ks) q ∙ e))) ∙ o.same j b f;
  edges = λ j f. edge_column k n m w' u v h j l ∙ o.edges j f;
  rest = drop-set-lt (16 * n + 6 * m) w' (k * n + u) v (omega (arith, next_column k 16 n (ltb-true k 16 l))) ∙ o.rest;
}
