-- `cleaner::fill::again` meets its contract: the sweep into the fronts of the lent columns.
use mathlib.Core.Path.{sym, ◌∙◌}
use lib.ListN.{length}
use Rattle.cleaner.proofs.Ranking.{cut}
use Rattle.cleaner.proofs.Filling.{part_written, filled}
use native.Mathlib.Omega.{arith}
use Rattle.cleaner.proofs.fill.again.Goals as goal

pub swept-requires : goal.swept-requires
swept-requires c = (c.requires.0, record { right_long = sym (cut c.args.edges c.args.out.now.right.now c.requires.6) ∙ (cut c.args.edges c.args.out.now.left.now c.requires.5); parent_long = sym (cut c.args.edges c.args.out.now.parent.now c.requires.7) ∙ (cut c.args.edges c.args.out.now.left.now c.requires.5); child_long = sym (cut c.args.edges c.args.out.now.child.now c.requires.8) ∙ (cut c.args.edges c.args.out.now.left.now c.requires.5); stood_long = sym (cut (length c.args.tables.ages.time.now) c.args.stood.now c.requires.4) }, sym (cut c.args.mutations c.args.out_node.now c.requires.10) ∙ (cut c.args.mutations c.args.out_site.now c.requires.9))

pub returns-clause-filled : goal.returns-clause-filled
returns-clause-filled c = λ Q few flags. filled (c.swept.ensures Q flags) c.args.edges c.args.mutations few (omega (arith, c.swept.auto.fl, (cut c.args.edges c.args.out.now.left.now c.requires.5))) (omega (arith, c.swept.auto.mrow, (cut c.args.mutations c.args.out_site.now c.requires.9))) _ _ _ _ _ _ (part_written c.args.edges c.args.out.now.left.now c.swept.new.fl c.requires.5 (c.swept.auto.fl ∙ sym (cut c.args.edges c.args.out.now.left.now c.requires.5))) (part_written c.args.edges c.args.out.now.right.now c.swept.new.fr c.requires.6 (c.swept.auto.fr ∙ sym (cut c.args.edges c.args.out.now.right.now c.requires.6))) (part_written c.args.edges c.args.out.now.parent.now c.swept.new.fp c.requires.7 (c.swept.auto.fp ∙ sym (cut c.args.edges c.args.out.now.parent.now c.requires.7))) (part_written c.args.edges c.args.out.now.child.now c.swept.new.fc c.requires.8 (c.swept.auto.fc ∙ sym (cut c.args.edges c.args.out.now.child.now c.requires.8))) (part_written c.args.mutations c.args.out_site.now c.swept.new.mrow c.requires.9 (c.swept.auto.mrow ∙ sym (cut c.args.mutations c.args.out_site.now c.requires.9))) (part_written c.args.mutations c.args.out_node.now c.swept.new.mlow c.requires.10 (c.swept.auto.mlow ∙ sym (cut c.args.mutations c.args.out_node.now c.requires.10)))
