-- `form::lay::head` meets its contract: the mark and L, one after the other. Assumes nothing.
use mathlib.Core.List.{[], ◌∷◌}
use Rattle.meaning.specs.Stored.{bytes_of}
use Rattle.form.proofs.Laying.{lay_chain}
use native.Mathlib.Omega.{arith}
use Rattle.form.proofs.lay.head.Goals as goal

pub returns : goal.returns
unfolding bytes_of
returns c = lay_chain 0 2 (83 ∷ 81 ∷ []) (bytes_of 4 c.args.len) c.args.out.now c.mark.ensures c.put32.ensures (omega arith) (omega (arith, c.requires))
