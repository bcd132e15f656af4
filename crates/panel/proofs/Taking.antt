-- The rows of some fish found, one after another; and what the loops over sites and over fish keep.
use mathlib.Core.Path.{◌≡◌, sym, ap, subst, ◌∙◌}
use mathlib.Core.List.{List}
use mathlib.Core.Logic.{◌⊎◌, inl, inr}
use Prim.Native.Nat.{ℕ, ◌+◌, ◌*◌, ◌<◌, ◌≤◌}
use native.Mathlib.Omega.{arith}
use lib.ListN.{length, set}
use lib.Seq.{get_or-set_same, get_or-set_other}
use Rattle.std.specs.Prelude.{Some}
use Rattle.meaning.specs.Words.{at, index_of, place_in}
use Rattle.meaning.specs.Rows.{Tables}
use Rattle.laws.specs.Members.{index_below}
use Rattle.order.specs.Ranks.{place_in-some}
use Rattle.order.specs.Lex.{trichotomy}
use Rattle.carrying.specs.Cells.{state_cell, flag_cell, ColumnAt}
use Rattle.carrying.specs.Work.{Work, Kept}
use Rattle.blocks.specs.Block.{Scattered, SitesWritten, FishWritten, site_more, fish_more, rows_rise}
use Rattle.blocks.specs.Lists.{AllThere}
use Rattle.panel.specs.Rows.{state_byte, flag_byte}
use Rattle.panel.specs.Whole.{RowsFound}

-- ---- rows found

-- the row of a known fish is small
pub row_small : (b u : ℕ) (l : List ℕ) → Some u ≡ place_in b l → length l < 4294967296 → u < 4294967296
row_small b u l e h = omega (arith, (place_in-some b l u e).1)

module _ (birth fish : List ℕ) (base : ℕ) where
  pub no_row_yet : (rows : List ℕ) → RowsFound birth fish base 0 rows
  no_row_yet rows = record { row = λ a l. absurd (omega arith) }

  pub row_more : (a : ℕ) (rows : List ℕ) (u : ℕ) → a < length rows → Some u ≡ place_in (at fish (base + a)) birth → RowsFound birth fish base a rows → RowsFound birth fish base (a + 1) (set rows a u)
  row_more a rows u l e w = record { row = λ b h. go b h (trichotomy b a) }
    where
      go : (b : ℕ) → b < a + 1 → (b < a) ⊎ ((b ≡ a) ⊎ (a < b)) → at (set rows a u) b ≡ index_of (at fish (base + b)) birth
      go b h (inl q) = get_or-set_other rows a b u 0 (λ z. omega arith) ∙ w.row b q
      go b h (inr (inl q)) = ap (at (set rows a u)) q ∙ get_or-set_same rows a u 0 l ∙ (place_in-some (at fish (base + a)) birth u e).0 ∙ ap (λ c. index_of (at fish (base + c)) birth) (sym q)
      go b h (inr (inr q)) = absurd (omega arith)

  pub rows_all : (a k : ℕ) (rows : List ℕ) → a ≤ k → k ≤ a → RowsFound birth fish base a rows → RowsFound birth fish base k rows
  rows_all a k rows h l w = let q : a ≡ k = omega arith in subst (λ (k : ℕ). RowsFound birth fish base k rows) q w

-- ---- one portion, site after site

-- the first j sites are told of k fish from base on
pub record Telling (T : Tables) (sites fish : List ℕ) (base k : ℕ) (column₀ gaps₀ states₀ flags₀ : List ℕ) (W : Work) (column gaps states flags : List ℕ) (last stamp j : ℕ) : Type 0 where
  pub kept : Kept T last stamp W
  pub column_long : length column ≡ length column₀
  pub gaps_long : length gaps ≡ length gaps₀
  pub states_done : SitesWritten (state_byte T sites fish) (length sites) base k j states₀ states
  pub flags_done : SitesWritten (flag_byte T sites fish) (length sites) base k j flags₀ flags

-- rows of known fish are rows
pub rows_inside : (birth sites fish rows : List ℕ) (most n base k : ℕ) → RowsFound birth fish base k rows → AllThere most birth sites fish → length birth ≡ n → base + k ≤ length fish → (a : ℕ) → a < k → at rows a < n
rows_inside birth sites fish rows most n base k found all e h a l = omega (arith, found.row a l, index_below (at fish (base + a)) birth (all.fish_known (base + a) (omega arith)))

module _ (T : Tables) (sites fish : List ℕ) (base k : ℕ) (rows : List ℕ) (found : RowsFound T.nodes.birth fish base k rows) where
  module _ (column₀ gaps₀ states₀ flags₀ : List ℕ) where
    pub told_more : (W : Work) (column gaps states flags : List ℕ) (last stamp j : ℕ) (W' : Work) (column' gaps' states' flags' : List ℕ) (last' stamp' : ℕ) → j < length sites → Telling T sites fish base k column₀ gaps₀ states₀ flags₀ W column gaps states flags last stamp j → length column' ≡ length column → length gaps' ≡ length gaps → ColumnAt T (at sites j) k rows column' gaps' → Kept T last' stamp' W' → Scattered (length sites) base k j column' states states' → Scattered (length sites) base k j gaps' flags flags' → Telling T sites fish base k column₀ gaps₀ states₀ flags₀ W' column' gaps' states' flags' last' stamp' (j + 1)
    told_more W column gaps states flags last stamp j W' column' gaps' states' flags' last' stamp' h w cl gl c q u v = record {
      kept = q;
      column_long = cl ∙ w.column_long;
      gaps_long = gl ∙ w.gaps_long;
      states_done = site_more (state_byte T sites fish) (length sites) base k j column' states₀ states states' h w.states_done u (λ a l. c.state a l ∙ ap (state_cell T (at sites j)) (found.row a l));
      flags_done = site_more (flag_byte T sites fish) (length sites) base k j gaps' flags₀ flags flags' h w.flags_done v (λ a l. c.flag a l ∙ ap (flag_cell T (at sites j)) (found.row a l));
    }

-- all sites are told
pub sites_all : (f : ℕ → ℕ → ℕ) (s base k j : ℕ) (old new : List ℕ) → j ≤ s → s ≤ j → SitesWritten f s base k j old new → SitesWritten f s base k s old new
sites_all f s base k j old new h l w = let q : j ≡ s = omega arith in subst (λ (j : ℕ). SitesWritten f s base k j old new) q w

-- ---- all fish, portion after portion

-- the fish below base are told at all sites
pub record Taken (T : Tables) (sites fish : List ℕ) (rows₀ column₀ gaps₀ states₀ flags₀ : List ℕ) (W : Work) (rows column gaps states flags : List ℕ) (last stamp base : ℕ) : Type 0 where
  pub few : base ≤ length fish
  pub kept : Kept T last stamp W
  pub rows_long : length rows ≡ length rows₀
  pub column_long : length column ≡ length column₀
  pub gaps_long : length gaps ≡ length gaps₀
  pub states_done : FishWritten (state_byte T sites fish) (length sites) base states₀ states
  pub flags_done : FishWritten (flag_byte T sites fish) (length sites) base flags₀ flags

pub taken_more : (T : Tables) (sites fish : List ℕ) (rows₀ column₀ gaps₀ states₀ flags₀ : List ℕ) (W : Work) (rows column gaps states flags : List ℕ) (last stamp base k : ℕ) (W' : Work) (rows' column' gaps' states' flags' : List ℕ) (last' stamp' : ℕ) → base + k ≤ length fish → Taken T sites fish rows₀ column₀ gaps₀ states₀ flags₀ W rows column gaps states flags last stamp base → length rows' ≡ length rows → length column' ≡ length column → length gaps' ≡ length gaps → Kept T last' stamp' W' → SitesWritten (state_byte T sites fish) (length sites) base k (length sites) states states' → SitesWritten (flag_byte T sites fish) (length sites) base k (length sites) flags flags' → Taken T sites fish rows₀ column₀ gaps₀ states₀ flags₀ W' rows' column' gaps' states' flags' last' stamp' (base + k)
taken_more T sites fish rows₀ column₀ gaps₀ states₀ flags₀ W rows column gaps states flags last stamp base k W' rows' column' gaps' states' flags' last' stamp' h w rl cl gl q u v = record {
  few = h;
  kept = q;
  rows_long = rl ∙ w.rows_long;
  column_long = cl ∙ w.column_long;
  gaps_long = gl ∙ w.gaps_long;
  states_done = fish_more (state_byte T sites fish) (length sites) base k states₀ states states' w.states_done u;
  flags_done = fish_more (flag_byte T sites fish) (length sites) base k flags₀ flags flags' w.flags_done v;
}

-- so many fish have room where all have
pub portion_room : (a n s m : ℕ) → a ≤ n → n * s ≤ m → a * s ≤ m
portion_room a n s m h l = omega (arith, rows_rise s a n h)

-- all fish are told
pub fish_all : (f : ℕ → ℕ → ℕ) (s base n : ℕ) (old new : List ℕ) → base ≤ n → n ≤ base → FishWritten f s base old new → FishWritten f s n old new
fish_all f s base n old new h l w = let q : base ≡ n = omega arith in subst (λ (n : ℕ). FishWritten f s n old new) q w
