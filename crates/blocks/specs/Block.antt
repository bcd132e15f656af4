-- A block of rows of s cells each: cell b of row a stands at a * s + b.
use Rattle.std.specs.Prelude.{◌≡◌, refl, ◌⊎◌}
use Rattle.std.proofs.Math.Path.{sym, ap}
use Rattle.std.proofs.Common.{◌∙◌, inl, inr, mul-le-mul_right, arith, get_or-drop}
use mathlib.Core.List.{List, [], ◌∷◌, ◌++◌, map}
use Prim.Native.Nat.{ℕ, zero, suc, ◌+◌, ◌*◌, ◌-◌, ◌<◌, ◌≤◌}
use Rattle.std.proofs.Math.Nat.{zero-mul, suc-mul}
use Rattle.std.proofs.Math.ListN.{length, get_or, drop, length-append, length-drop, length-map, get_or-append}
use Rattle.std.proofs.Math.Seq.{ext_get_or, get_or-append-add}
use Rattle.meaning.specs.Words.{at, each}
use Rattle.meaning.specs.Answer.{put}
use Rattle.order.specs.Lex.{trichotomy}

-- cell i of a mapped list
pub get_map : {A B : Type 0} (h : A → B) (d : B) (x : A) (l : List A) (i : ℕ) → i < length l → get_or (map h l) i d ≡ h (get_or l i x)
get_map h d x [] i k = absurd (omega arith)
get_map h d x (a ∷ l) zero k = refl
get_map h d x (a ∷ l) (suc i) k = get_map h d x l i (omega arith)

module _ (s : ℕ) where
  pub rows_rise : (a c : ℕ) → a ≤ c → a * s ≤ c * s
  rows_rise a c h = mul-le-mul_right s h

  -- a row ends where the next begins, or before
  pub row_below : (a c : ℕ) → a < c → a * s + s ≤ c * s
  row_below a c h = omega (arith, suc-mul a s, rows_rise (suc a) c h)

  -- every cell below n rows is some cell of some row
  pub some_cell : (n p : ℕ) → p < n * s → (a : ℕ) × (b : ℕ) × (a < n) × (b < s) × (p ≡ a * s + b)
  some_cell zero p h = absurd (omega (arith, zero-mul s))
  some_cell (suc n) p h = go (trichotomy p (n * s)) (some_cell n p)
    where
      last : n * s ≤ p → (a : ℕ) × (b : ℕ) × (a < suc n) × (b < s) × (p ≡ a * s + b)
      last l = (n, p - n * s, omega arith, omega (arith, suc-mul n s), omega arith)

      go : (p < n * s) ⊎ ((p ≡ n * s) ⊎ (n * s < p)) → (p < n * s → (a : ℕ) × (b : ℕ) × (a < n) × (b < s) × (p ≡ a * s + b)) → (a : ℕ) × (b : ℕ) × (a < suc n) × (b < s) × (p ≡ a * s + b)
      go (inl l) ih = let r : (a : ℕ) × (b : ℕ) × (a < n) × (b < s) × (p ≡ a * s + b) = ih l in (r.0, r.1, omega (arith, r.2), r.3, r.4)
      go (inr (inl l)) ih = last (omega arith)
      go (inr (inr l)) ih = last (omega arith)

  -- cells in two places of their rows are two cells
  pub two_cells : (a b c d : ℕ) → b < s → d < s → (b ≡ d → ⊥) → a * s + b ≡ c * s + d → ⊥
  two_cells a b c d h k n e = go (trichotomy a c)
    where
      go : (a < c) ⊎ ((a ≡ c) ⊎ (c < a)) → ⊥
      go (inl l) = omega (arith, row_below a c l)
      go (inr (inl q)) = n (omega (arith, ap (λ z. z * s) q))
      go (inr (inr l)) = omega (arith, row_below c a l)

-- ---- cells written

-- cell j of each of k rows from base on has the value of a column, and every other cell is as it was
pub record Scattered (s base k j : ℕ) (column old new : List ℕ) : Type 0 where
  pub long : length new ≡ length old
  pub here : (a : ℕ) → a < k → at new ((base + a) * s + j) ≡ at column a
  pub else : (p : ℕ) → ((a : ℕ) → a < k → p ≡ (base + a) * s + j → ⊥) → at new p ≡ at old p

-- f tells the byte of a fish and a site, by their places in the lists

-- the first j cells of each of k rows from base on are written, and nothing before or after these rows
pub record SitesWritten (f : ℕ → ℕ → ℕ) (s base k j : ℕ) (old new : List ℕ) : Type 0 where
  pub long : length new ≡ length old
  pub here : (a b : ℕ) → a < k → b < j → at new ((base + a) * s + b) ≡ f (base + a) b
  pub before : (p : ℕ) → p < base * s → at new p ≡ at old p
  pub after : (p : ℕ) → (base + k) * s ≤ p → at new p ≡ at old p

-- the first rows, up to base, are written, and nothing after them
pub record FishWritten (f : ℕ → ℕ → ℕ) (s base : ℕ) (old new : List ℕ) : Type 0 where
  pub long : length new ≡ length old
  pub here : (a b : ℕ) → a < base → b < s → at new (a * s + b) ≡ f a b
  pub after : (p : ℕ) → base * s ≤ p → at new p ≡ at old p

module _ (f : ℕ → ℕ → ℕ) (s : ℕ) where
  module _ (base k : ℕ) where
    pub no_site_yet : (old : List ℕ) → SitesWritten f s base k 0 old old
    no_site_yet old = record { long = refl; here = λ a b l m. absurd (omega arith); before = λ p l. refl; after = λ p l. refl }

    -- one site more
    pub site_more : (j : ℕ) (column old mid new : List ℕ) → j < s → SitesWritten f s base k j old mid → Scattered s base k j column mid new → ((a : ℕ) → a < k → at column a ≡ f (base + a) j) → SitesWritten f s base k (j + 1) old new
    site_more j column old mid new h w c g = record {
      long = c.long ∙ w.long;
      here = λ a b l m. go a b l m (trichotomy b j);
      before = λ p l. c.else p (λ a m e. omega (arith, rows_rise s base (base + a) (omega arith))) ∙ w.before p l;
      after = λ p l. c.else p (λ a m e. omega (arith, row_below s (base + a) (base + k) (omega arith))) ∙ w.after p l;
    }
      where
        go : (a b : ℕ) → a < k → b < j + 1 → (b < j) ⊎ ((b ≡ j) ⊎ (j < b)) → at new ((base + a) * s + b) ≡ f (base + a) b
        go a b l m (inl q) = c.else ((base + a) * s + b) (λ d n e. two_cells s (base + a) b (base + d) j (omega arith) h (λ z. omega arith) e) ∙ w.here a b l q
        go a b l m (inr (inl q)) = ap (λ z. at new ((base + a) * s + z)) q ∙ c.here a l ∙ g a l ∙ ap (f (base + a)) (sym q)
        go a b l m (inr (inr q)) = absurd (omega arith)

  pub no_fish_yet : (old : List ℕ) → FishWritten f s 0 old old
  no_fish_yet old = record { long = refl; here = λ a b l m. absurd (omega arith); after = λ p l. refl }

  -- some fish more
  pub fish_more : (base k : ℕ) (old mid new : List ℕ) → FishWritten f s base old mid → SitesWritten f s base k s mid new → FishWritten f s (base + k) old new
  fish_more base k old mid new w c = record {
    long = c.long ∙ w.long;
    here = λ a b l m. go a b l m (trichotomy a base);
    after = λ p l. c.after p l ∙ w.after p (omega (arith, rows_rise s base (base + k) (omega arith)));
  }
    where
      past : (a b : ℕ) → a < base + k → b < s → base ≤ a → at new (a * s + b) ≡ f a b
      past a b l m h = let q : base + (a - base) ≡ a = omega arith in
          ap (λ z. at new (z * s + b)) (sym q) ∙ c.here (a - base) b (omega arith) m ∙ ap (λ z. f z b) q

      go : (a b : ℕ) → a < base + k → b < s → (a < base) ⊎ ((a ≡ base) ⊎ (base < a)) → at new (a * s + b) ≡ f a b
      go a b l m (inl q) = c.before (a * s + b) (omega (arith, row_below s a base q)) ∙ w.here a b q m
      go a b l m (inr (inl q)) = past a b l m (omega arith)
      go a b l m (inr (inr q)) = past a b l m (omega arith)

  -- with all fish written, the block has the cells at its front
  pub all_written : (n : ℕ) (cells old new : List ℕ) → length cells ≡ n * s → n * s ≤ length old → ((a b : ℕ) → a < n → b < s → at cells (a * s + b) ≡ f a b) → FishWritten f s n old new → new ≡ put cells old
  unfolding put
  all_written n cells old new e r g w = ext_get_or 0 new (cells ++ drop (length cells) old) (w.long ∙ long) (λ p l. go p l (trichotomy p (length cells)))
    where
      long : length old ≡ length (cells ++ drop (length cells) old)
      long = omega (arith, length-append cells (drop (length cells) old), length-drop (length cells) old)

      past : (p : ℕ) → length cells ≤ p → at new p ≡ at (cells ++ drop (length cells) old) p
      past p h =
          let q : length cells + (p - length cells) ≡ p = omega arith in
          w.after p (omega arith)
          ∙ ap (at old) (sym q)
          ∙ sym (get_or-drop (length cells) old (p - length cells) 0)
          ∙ sym (get_or-append-add cells (drop (length cells) old) (p - length cells) 0)
          ∙ ap (at (cells ++ drop (length cells) old)) q

      go : (p : ℕ) → p < length new → (p < length cells) ⊎ ((p ≡ length cells) ⊎ (length cells < p)) → at new p ≡ at (cells ++ drop (length cells) old) p
      go p l (inl q) =
          let r : (a : ℕ) × (b : ℕ) × (a < n) × (b < s) × (p ≡ a * s + b) = some_cell s n p (omega arith) in
          ap (at new) r.4 ∙ w.here r.0 r.1 r.2 r.3 ∙ sym (g r.0 r.1 r.2 r.3) ∙ ap (at cells) (sym r.4) ∙ sym (get_or-append cells (drop (length cells) old) 0 p q)
      go p l (inr (inl q)) = past p (omega arith)
      go p l (inr (inr q)) = past p (omega arith)

-- ---- the cells of a list of lists

module _ {A : Type 0} (g : ℕ → ℕ → A) (sites : List ℕ) where
  pub length_cells : (fish : List ℕ) → length (each (λ b. map (λ i. g i b) sites) fish) ≡ length fish * length sites
  unfolding each
  length_cells [] = sym (zero-mul (length sites))
  length_cells (b ∷ l) = omega (arith, length-append (map (λ i. g i b) sites) (each (λ b. map (λ i. g i b) sites) l), length-map sites (λ i. g i b), length_cells l, suc-mul (length l) (length sites))

  pub cell_there : (d : A) (fish : List ℕ) (a c : ℕ) → a < length fish → c < length sites → get_or (each (λ b. map (λ i. g i b) sites) fish) (a * length sites + c) d ≡ g (at sites c) (at fish a)
  unfolding each
  cell_there d [] a c h k = absurd (omega arith)
  cell_there d (b ∷ l) zero c h k =
      let q : 0 * length sites + c ≡ c = omega (arith, zero-mul (length sites)) in
      ap (λ p. get_or (map (λ i. g i b) sites ++ each (λ b. map (λ i. g i b) sites) l) p d) q
      ∙ get_or-append (map (λ i. g i b) sites) (each (λ b. map (λ i. g i b) sites) l) d c (omega (arith, length-map sites (λ i. g i b)))
      ∙ get_map (λ i. g i b) d 0 sites c k
  cell_there d (b ∷ l) (suc a) c h k =
      let q : suc a * length sites + c ≡ length (map (λ i. g i b) sites) + (a * length sites + c) = omega (arith, suc-mul a (length sites), length-map sites (λ i. g i b)) in
      ap (λ p. get_or (map (λ i. g i b) sites ++ each (λ b. map (λ i. g i b) sites) l) p d) q
      ∙ get_or-append-add (map (λ i. g i b) sites) (each (λ b. map (λ i. g i b) sites) l) (a * length sites + c) d
      ∙ cell_there d l a c (omega arith) k
