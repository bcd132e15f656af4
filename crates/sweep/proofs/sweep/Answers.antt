-- `sweep::sweep` meets its contract: with cleared columns the walk starts with no finished edge.
use mathlib.Core.Path.{refl}
use mathlib.Core.List.{[]}
use Rattle.mend.specs.Kept.{filled}
use Rattle.sweep.proofs.Starting.{room_cleared, steady_start, going_start}
use Rattle.sweep.proofs.Ending.{done_cleared}
use Rattle.sweep.proofs.sweep.Goals as goal

pub start-requires : goal.start-requires
start-requires c = (c.requires.shape, c.requires.lows_long, c.requires.ups_long)

pub walk-requires : goal.walk-requires
walk-requires c = steady_start _ c.requires c.start.ensures c.start.auto.parent (filled (c.fill.ensures.after (λ y e. e))) (filled (c.fill-2.ensures.after (λ y e. e))) (filled (c.fill-3.ensures.after (λ y e. e))) (filled (c.fill-4.ensures.after (λ y e. e))) (room_cleared _ _ _ c.requires.room refl refl refl refl c.fill-4.auto.self) refl refl refl refl refl refl

pub returns : goal.returns
returns c = λ Q fl. done_cleared _ (c.walk.ensures Q fl [] (going_start _ c.requires c.start.ensures c.start.auto.parent (filled (c.fill.ensures.after (λ y e. e))) (filled (c.fill-2.ensures.after (λ y e. e))) (filled (c.fill-3.ensures.after (λ y e. e))) (filled (c.fill-4.ensures.after (λ y e. e))) (room_cleared _ _ _ c.requires.room refl refl refl refl c.fill-4.auto.self) refl refl refl refl refl refl refl Q))
