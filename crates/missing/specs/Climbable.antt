-- What a look upwards from a row stands on.
use Rattle.std.specs.Prelude.{List, ℕ, ◌<◌, ◌≤◌, length}
use Rattle.meaning.specs.Rows.{EdgeColumns}
use Rattle.bridge.specs.Parents.{no_row}
use Rattle.ancestry.specs.Column.{Rising}

-- what the way up from row u asks of the edges, and of columns by node rows, beside the edges' index
pub record Climbable (time : List ℕ) (E : EdgeColumns) (ends has : List ℕ) (u : ℕ) : Type 0 where
  pub rising : Rising time E
  pub few : length time ≤ no_row
  pub ends_long : length time ≤ length ends
  pub long : length time ≤ length has
  pub row : u < length time
