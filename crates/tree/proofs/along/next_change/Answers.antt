-- `tree::sweep::next_change` meets its contract.
use mathlib.Core.Path.{ap, ◌∙◌}
use Prim.Native.Nat.{ℕ}
use Rattle.tree.specs.Sweep.{next_key, next_change}
use Rattle.tree.proofs.along.next_change.Goals as goal

pub returns : goal.returns
unfolding next_change
returns c = let a : _ = c.args in c.next_key.ensures ∙ ap (λ (y : ℕ). next_key a.edges.right.now a.br.now a.j y) c.next_key-y.ensures
