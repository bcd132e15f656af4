-- `cleaner::rank::keep_rows` meets its contract: the others behind the samples, and the places of all.
use mathlib.Core.Path.{sym, ◌∙◌}
use Prim.Native.Nat.{◌-◌}
use lib.ListN.{length, drop, length-take, length-drop}
use Rattle.cleaner.proofs.Ranking.{cut, kept_long, kept_inside, none_inside, kept_rows}
use native.Mathlib.Omega.{arith}
use Rattle.cleaner.proofs.rank.keep_rows.Goals as goal

pub others-no-requires : goal.others-no-requires
others-no-requires c = (sym (cut (length c.args.ages.time.now) c.args.sample.now c.requires.0) ∙ cut (length c.args.ages.time.now) c.args.stood.now c.requires.1, cut (length c.args.ages.time.now) c.args.stood.now c.requires.1, c.args.ages.even.birth_long ∙ cut (length c.args.ages.time.now) c.args.stood.now c.requires.1, omega (arith, cut (length c.args.ages.time.now) c.args.stood.now c.requires.1, length-take (length c.args.kept.now - c.args.ns) (drop c.args.ns c.args.kept.now), length-drop c.args.ns c.args.kept.now, c.requires.2), omega (arith, cut (length c.args.ages.time.now) c.args.stood.now c.requires.1, c.requires.2, c.requires.3), c.requires.5)

pub overflow_add-k : goal.overflow_add-k
overflow_add-k c = omega (arith, c.others-no.ensures.few, cut (length c.args.ages.time.now) c.args.stood.now c.requires.1, c.requires.2, c.requires.3)

pub places-requires : goal.places-requires
places-requires c = (kept_long c.args.ns c.others-no.result c.args.kept.now c.others-no.new.out _ (omega (arith, c.requires.2)) (omega (arith, c.others-no.ensures.few, cut (length c.args.ages.time.now) c.args.stood.now c.requires.1, c.others-no.auto.out, length-take (length c.args.kept.now - c.args.ns) (drop c.args.ns c.args.kept.now), length-drop c.args.ns c.args.kept.now, c.requires.2)), omega arith, omega (arith, c.others-no.ensures.few, cut (length c.args.ages.time.now) c.args.stood.now c.requires.1, c.requires.2, c.requires.3), kept_inside c.args.ns c.others-no.result c.args.kept.now c.others-no.new.out _ (omega (arith, c.requires.2)) (omega (arith, c.others-no.ensures.few, cut (length c.args.ages.time.now) c.args.stood.now c.requires.1, c.others-no.auto.out, length-take (length c.args.kept.now - c.args.ns) (drop c.args.ns c.args.kept.now), length-drop c.args.ns c.args.kept.now, c.requires.2)) _ (rw (cut (length c.args.ages.time.now) c.args.places.now c.requires.4) at c.requires.6) (rw (sym (cut (length c.args.ages.time.now) c.args.stood.now c.requires.1) ∙ cut (length c.args.ages.time.now) c.args.places.now c.requires.4) at c.others-no.ensures.inside), none_inside _)

pub returns : goal.returns
returns c = kept_rows _ c.args.sample.now c.args.stood.now c.args.ns c.others-no.result c.args.kept.now c.others-no.new.out _ _ _ _ _ (omega (arith, c.requires.2)) (omega (arith, c.others-no.ensures.few, cut (length c.args.ages.time.now) c.args.stood.now c.requires.1, c.others-no.auto.out, length-take (length c.args.kept.now - c.args.ns) (drop c.args.ns c.args.kept.now), length-drop c.args.ns c.args.kept.now, c.requires.2)) c.others-no.ensures c.places.ensures (c.places.auto.nodemap ∙ sym (cut (length c.args.ages.time.now) c.args.places.now c.requires.4)) (sym (cut (length c.args.ages.time.now) c.args.places.now c.requires.4))
