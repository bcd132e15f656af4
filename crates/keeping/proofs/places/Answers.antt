-- `keeping::places` meets its contract: the others get their places and then the samples.
use mathlib.Core.Path.{◌∙◌}
use lib.ListN.{length, take}
use lib.Seq.{length-take-le}
use Rattle.keeping.proofs.Placing.{both_placed, inside_as}
use native.Mathlib.Omega.{arith}
use Rattle.keeping.proofs.places.Goals as goal

pub place-requires : goal.place-requires
place-requires c = (c.requires.1, c.requires.2, inside_as (take c.args.no c.args.others.now) (length c.args.nodemap.now) (length c.none_kept.new.nodemap) c.none_kept.auto.nodemap c.requires.4)

pub place-requires-2 : goal.place-requires-2
place-requires-2 c = (c.requires.0, omega arith, inside_as (take c.args.ns c.args.srow.now) (length c.args.nodemap.now) (length c.place.new.nodemap) (c.place.auto.nodemap ∙ c.none_kept.auto.nodemap) c.requires.3)

pub returns : goal.returns
returns c = both_placed (take c.args.ns c.args.srow.now) (take c.args.no c.args.others.now) c.none_kept.new.nodemap c.place.new.nodemap c.place-2.new.nodemap (length c.args.nodemap.now) c.args.ns (length-take-le c.args.ns c.args.srow.now c.requires.0) c.none_kept.ensures c.place.ensures c.place-2.ensures
