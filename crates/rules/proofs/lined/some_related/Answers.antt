-- `some_related` meets its contract: of the rows below k, no two up to place p are related.
use mathlib.Core.Path.{sym, ◌∙◌}
use Rattle.rules.proofs.Neighbours.{passed_hit, passed_miss, passed_last, passed_end}
use Rattle.rules.proofs.lined.some_related.Goals as goal

pub returns-then-idx-q : goal.returns-then-idx-q
returns-then-idx-q g c = passed_last _ (g.met.R.Relation.even c.args.rows.now) _ _ _ c.requires.0 c.requires.1 _ _ c.loop-p.invariant c.next_below-q.ensures c.if-idx-q.true

pub returns-then-relate : goal.returns-then-relate
returns-then-relate g c = passed_hit _ (g.met.R.Relation.even c.args.rows.now) _ _ _ c.requires.0 _ _ c.loop-p.invariant c.loop-p-test.true c.next_below-q.ensures c.if-idx-q.false (sym c.relate.ensures ∙ c.if-relate.true)

pub loop-p-preserved : goal.loop-p-preserved
loop-p-preserved g c = passed_miss _ (g.met.R.Relation.even c.args.rows.now) _ _ _ c.requires.0 _ _ c.loop-p.invariant c.loop-p-test.true c.next_below-q.ensures c.if-idx-q.false (sym c.relate.ensures ∙ c.if-relate.false)

pub returns : goal.returns
returns g c = passed_end _ (g.met.R.Relation.even c.args.rows.now) _ _ _ c.requires.0 c.requires.1 _ c.loop-p.invariant c.loop-p-test.false
