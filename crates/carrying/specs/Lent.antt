-- What the code's columns of a call hold: what is filled in once, and what is kept from site to site.
use Rattle.std.specs.Prelude.{List, ℕ}
use Rattle.meaning.specs.Rows.{Tables}
use Rattle.meaning.specs.Columns.{tables_in}
use Rattle.overtaking.specs.declared.known.Kept.{Kept as KeptColumns}
use Rattle.carrying.specs.Work.{index_by, Prepared, Work, work_of, Kept}
use Rattle.carrying.specs.declared.Filled.{Filled}
use Rattle.carrying.specs.declared.Trail.{Trail}
use Rattle.carrying.specs.declared.kids.Kids.{Kids}

-- tables that the check passes, with the columns filled in
abbrev pub IsPrepared : Filled → Type 0
IsPrepared f = Prepared f.len (tables_in f.tables) f.by_child.now (index_by f.ends.now f.parents.first.now f.parents.past.now f.muts.first.now f.muts.past.now)

abbrev pub work_in : KeptColumns → Kids → List ℕ → List ℕ → List ℕ → Work
work_in kept kids own told state = work_of kept.par.now kept.until.now kids.has.now kids.until.now own told state

-- answers hold from the position last asked on, and no stamp is above the one last given
abbrev pub KeptAt : Tables → Trail → Work → Type 0
KeptAt T t W = Kept T t.last t.stamp W
