-- The column of the standing rows below, written along a line upwards: from a row up to before the next row that stands.
use Rattle.std.specs.Prelude.{◌≡◌, ℕ, ◌<◌, ◌≤◌, Bool, ◌⊎◌, List, length, slice_index}
use Rattle.ancestry.specs.Column.{older}
use Rattle.mend.specs.Right.{none, Grows}
use Rattle.mend.specs.Line.{par_of, opt, Over, Pass}
use Rattle.std.specs.declared.ops.ControlFlow.{ControlFlow}
use Rattle.std.specs.declared.ops.ControlFlow.TheVariants.{Continue, Break}

-- the columns that a relabelling from q on goes by
pub record Labelling (T S P C D : List ℕ) (q : ℕ) : Type 0 where
  pub samples : length S ≡ length P
  pub counts : length C ≡ length P
  pub lows : length D ≡ length P
  pub rows : length P ≤ none
  pub grows : Grows T P
  pub row : q < length P

-- D' is D, but that q and the rows above it up to before the next one of K have w
pub record Relabelled (P : List ℕ) (K : ℕ → Bool) (w : ℕ) (D D' : List ℕ) (q : ℕ) : Type 0 where
  pub long : length D' ≡ length D
  pub cell : (v : ℕ) → (Pass (par_of P) K q v × (slice_index D' v ≡ w)) ⊎ ((Pass (par_of P) K q v → ⊥) × (slice_index D' v ≡ slice_index D v))

module _ (T P : List ℕ) (K : ℕ → Bool) (w : ℕ) (D D₁ : List ℕ) where
  -- D₁ has w from q up to before o, which is older: it is enough to go on from o
  pub record Onward (q o : ℕ) : Type 0 where
    pub row : o < length P
    pub fewer : older T o < older T q
    pub rest : (D' : List ℕ) → Relabelled P K w D₁ D' o → Relabelled P K w D D' q
    pub over : (r : ℕ) → Over (par_of P) K (opt r) o → Over (par_of P) K (opt r) q

  -- what a relabelling from q of bounded depth leaves and tells
  abbrev pub Led : ℕ → ControlFlow ℕ ℕ → Type 0
  Led q (Break r) = Relabelled P K w D D₁ q × Over (par_of P) K (opt r) q
  Led q (Continue o) = Onward q o
