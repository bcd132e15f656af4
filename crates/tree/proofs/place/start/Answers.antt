-- `tree::place::start` meets its contract: with no edge every column is right.
use Rattle.tree.proofs.Moving.{filled_on, swept_start}
use mathlib.Core.Path.{ap, ◌∙◌}
use Prim.Native.Nat.{ℕ}
use Rattle.meaning.specs.Words.{rows}
use Rattle.mend.specs.Kept.{filled}
use native.Mathlib.Omega.{arith}
use Rattle.tree.proofs.place.start.Goals as goal

pub iota-requires : goal.iota-requires
iota-requires c = let r : _ = c.requires.0.rows in omega (arith, r, c.requires.1)

pub returns : goal.returns
returns c = let sh : _ = c.requires.0 in
    λ l r pa ch bl br pl. swept_start c.args.time.now c.args.sample.now sh.times sh.samples (λ u h. omega (arith, c.type_inv.time u)) sh.rows (filled (c.fill.ensures.after (λ y e. e))) (filled_on sh.counts (filled (c.fill-2.ensures.after (λ y e. e)))) (filled_on sh.sums (filled (c.fill-3.ensures.after (λ y e. e)))) (c.iota.ensures ∙ ap (λ (m : ℕ). rows (λ i. i) m) c.requires.1) (filled_on c.requires.2 (filled (c.fill-4.ensures.after (λ y e. e)))) pl
