-- `stored::measure::settle` meets its contract: the first n cells are filled. Assumes nothing.
use mathlib.Core.Path.{◌≡◌}
use Rattle.std.specs.Prelude.{replicate}
use Rattle.std.proofs.Common.{rules}
use Rattle.stored.proofs.Returning.{put_zeros}
use Rattle.stored.proofs.measure.settle.Goals as goal

pub returns : goal.returns
returns c = let e : c.fill.new.self ≡ replicate c.args.n 0 = search rules in put_zeros c.args.n c.args.population.now e
