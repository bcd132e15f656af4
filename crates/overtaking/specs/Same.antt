-- The lent columns that keep the lookup's answers, before and after a function that keeps more.
use Rattle.std.specs.Prelude.{◌≡◌}
use Rattle.overtaking.specs.declared.known.Kept.{Kept}

-- they are the same columns
abbrev pub SameKept : Kept → Kept → Type 0
SameKept k k' = (k'.par.ghost_name ≡ k.par.ghost_name) × (k'.until.ghost_name ≡ k.until.ghost_name)
