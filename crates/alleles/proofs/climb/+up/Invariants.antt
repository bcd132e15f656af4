-- The number of rows older than u.
use Rattle.ancestry.specs.Column.{older}
use Rattle.alleles.proofs.climb.+up.Given as goal

abbrev pub decreases-up : goal.decreases-up
decreases-up l = older l.time.now l.u
