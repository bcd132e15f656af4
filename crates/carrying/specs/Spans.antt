-- For each number, where the rows that name it lie in a column.
use Rattle.std.specs.Prelude.{◌≡◌, true, false, List, ℕ, ◌<◌, ◌≤◌, eqb, length}
use Rattle.std.proofs.Common.{ap, arith}
use Rattle.meaning.specs.Words.{at}

-- each row lies at or after the first one that names its number, and before the end of those; no end is past the column
pub record Spans (column first past : List ℕ) : Type 0 where
  pub from : (e : ℕ) → e < length column → at first (at column e) ≤ e
  pub to : (e : ℕ) → e < length column → e < at past (at column e)
  pub inside : (v : ℕ) → at past v ≤ length column

-- the rows that name v lie from one row to before another
pub record InSpan (column : List ℕ) (v from to : ℕ) : Type 0 where
  pub row : (e : ℕ) → e < length column → at column e ≡ v → (from ≤ e) × (e < to)
  pub inside : to ≤ length column

pub in_span : {column first past : List ℕ} → Spans column first past → (v : ℕ) → InSpan column v (at first v) (at past v)
in_span {column} {first} {past} s v = record {
  row = λ e l q. (omega (arith, s.from e l, ap (at first) q), omega (arith, s.to e l, ap (at past) q));
  inside = s.inside v;
}

-- the first row noted, or e where none is noted yet
unfoldable pub first_by : ℕ → ℕ → ℕ → ℕ
first_by first past e = elim (eqb past 0) [ true ↦ e | false ↦ first ]
