-- `joiner::store::write_sites` meets its contract: one column after the other.
use mathlib.Core.Path.{sym, ap, ◌∙◌}
use mathlib.Core.List.{List, ◌++◌}
use Prim.Native.Nat.{ℕ}
use lib.ListN.{drop, length}
use Rattle.meaning.specs.Answer.{put}
use Rattle.joiner.proofs.store.write_sites.Goals as goal

pub returns : goal.returns
unfolding put
returns c = (
  ap (λ (l : List ℕ). l ++ drop (length c.args.base.position.now) c.args.out_position.now) c.copy.ensures,
  ap (λ (l : List ℕ). l ++ drop (length c.args.base.position.now) c.args.out_ancestral.now) c.copy-2.ensures
      ∙ ap (λ j. c.args.base.ancestral.now ++ drop j c.args.out_ancestral.now) (sym c.requires.0),
)
