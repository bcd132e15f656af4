-- `cleaner::store::write_sites` meets its contract: one column after the other.
use mathlib.Core.Path.{ap, ◌∙◌}
use lib.ListN.{length}
use lib.Seq.{take-length, take_all}
use Rattle.meaning.specs.Answer.{put}
use native.Mathlib.Omega.{arith}
use Rattle.cleaner.proofs.store.write_sites.Goals as goal

pub returns : goal.returns
returns c = (c.copy.ensures ∙ ap (λ z. put z c.args.out_position.now) (take-length c.args.sites.position.now), c.copy-2.ensures ∙ ap (λ z. put z c.args.out_ancestral.now) (take_all (length c.args.sites.position.now) c.args.sites.ancestral.now (omega (arith, c.args.sites.even.ancestral_long))))
