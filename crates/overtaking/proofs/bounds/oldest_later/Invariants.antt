-- `oldest_later` meets its contract: the rows up to the site's last are met, or any time is no older than the answer.
use Rattle.overtaking.proofs.Bounding.{Met}
use Rattle.overtaking.proofs.bounds.oldest_later.Given as goal

abbrev pub invariant-loop-k : goal.invariant-loop-k
invariant-loop-k l = Met l.mutations.time.now l.mutations.node.now l.i l.k l.top
