-- The lent columns that keep whether rows have children, before and after a function that keeps more.
use Rattle.std.specs.Prelude.{◌≡◌}
use Rattle.carrying.specs.declared.kids.Kids.{Kids}

-- they are the same columns
abbrev pub SameKids : Kids → Kids → Type 0
SameKids k k' = (k'.has.ghost_name ≡ k.has.ghost_name) × (k'.until.ghost_name ≡ k.until.ghost_name)
