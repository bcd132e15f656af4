-- The state of the tree's columns between two edges.
use Rattle.std.specs.Prelude.{◌≡◌, ℕ, ◌<◌, true, false, List, length, replicate, slice_index, slice_index_or}
use Rattle.std.proofs.Common.{ap, ◌∙◌}
use Rattle.std.proofs.lemmas.List.{length-replicate, get_or-replicate}
use Rattle.mend.specs.Right.{live, stands, Right, Shape, Grows}
use Rattle.mend.specs.Line.{par_of, opt, Low, Over}

-- counts and sums are right for the parents
pub record Mended (T S P C M : List ℕ) : Type 0 where
  pub shape : Shape T S P C M
  pub grows : Grows T P
  pub right : Right S P C M

-- the column U holds, at each row that stands, the nearest standing row above, and none at any other
pub record UpOk (S P C U : List ℕ) : Type 0 where
  pub long : length U ≡ length P
  pub cell : (v : ℕ) → stands S C v ≡ true → Over (par_of P) (stands S C) (opt (slice_index U v)) v
  pub idle : (v : ℕ) → v < length P → stands S C v ≡ false → slice_index U v ≡ 4294967295

-- the column D holds, at each live row, the standing row at or below it to which the only live children lead
pub record LowOk (S P C D : List ℕ) : Type 0 where
  pub long : length D ≡ length P
  pub cell : (u : ℕ) → live S C u ≡ true → Low (par_of P) (stands S C) (live S C) (slice_index D u) u

-- all columns are right for the parents
pub record Kept (T S P C M D U : List ℕ) : Type 0 where
  pub mended : Mended T S P C M
  pub low : LowOk S P C D
  pub up : UpOk S P C U

-- an edge from c to p may be put in: c has no parent yet, and p is older
pub record Enters (T P : List ℕ) (c p : ℕ) : Type 0 where
  pub child : c < length P
  pub parent : p < length P
  pub free : slice_index_or P c 0 ≡ 4294967295
  pub older : slice_index_or T c 0 < slice_index T p

-- the n cells of X are all v
pub record Filled (X : List ℕ) (n v : ℕ) : Type 0 where
  pub long : length X ≡ n
  pub cells : (u : ℕ) → u < n → slice_index X u ≡ v

-- one value in every cell
pub filled : {X : List ℕ} {n v : ℕ} → X ≡ replicate n v → Filled X n v
filled {n = n} {v} e = record {
  long = ap length e ∙ length-replicate n v;
  cells = λ u l. ap (λ (x : List ℕ). slice_index x u) e ∙ get_or-replicate n u v 0 l;
}
