-- `tell_site` meets its contract: answers kept hold from the site on, its mutations are marked with a new stamp, and each row has its bytes.
use mathlib.Core.Path.{ap, ◌∙◌}
use Rattle.carrying.specs.Spans.{in_span}
use Rattle.carrying.proofs.Beginning.{parents_hold, children_hold, same_parents, same_children}
use Rattle.carrying.proofs.AtSite.{column_at, kept_on, ready, naming, still_long}
use native.Mathlib.Omega.{arith}
use lib.ListN.{length}
use Rattle.carrying.proofs.tell_site.Goals as goal

pub next_stamp-stamp-requires : goal.next_stamp-stamp-requires
next_stamp-stamp-requires c = (c.requires.1.own, c.requires.1.told)

pub mark_site-requires : goal.mark_site-requires
mark_site-requires c = (naming _ _ _ _ c.requires.0 _ (omega (arith, c.requires.1.long.own, c.next_stamp-stamp.auto.own)), naming _ _ _ _ c.requires.0 _ (omega (arith, c.requires.1.long.told, c.next_stamp-stamp.auto.told)), naming _ _ _ _ c.requires.0 _ c.requires.1.long.state, in_span c.requires.0.muts _)

pub tell_rows-requires : goal.tell_rows-requires
tell_rows-requires c = (
  ready _ _ _ _ c.requires.0 {until = c.args.kept.now.until.now} {kid_until = c.args.kids.now.until.now} (still_long (ap length c.forget.ensures.par) (ap length c.forget.ensures.has) (c.mark_site.auto.own ∙ c.next_stamp-stamp.auto.own) (c.mark_site.auto.told ∙ c.next_stamp-stamp.auto.told) c.mark_site.auto.state c.requires.1.long),
  same_parents c.forget.ensures.par (parents_hold c.forget.ensures.ends c.requires.1.known),
  same_children c.forget.ensures.has (children_hold c.forget.ensures.ends c.requires.1.kids),
  c.requires.3,
  c.requires.4,
  c.requires.5,
  c.requires.6,
)

pub shape_of-own : goal.shape_of-own
shape_of-own c = c.mark_site.auto.own ∙ c.next_stamp-stamp.auto.own

pub shape_of-told : goal.shape_of-told
shape_of-told c = c.tell_rows.auto.told ∙ c.mark_site.auto.told ∙ c.next_stamp-stamp.auto.told

pub shape_of-state : goal.shape_of-state
shape_of-state c = c.tell_rows.auto.state ∙ c.mark_site.auto.state

pub returns-clause-column : goal.returns-clause-column
returns-clause-column c = column_at _ _ _ _ c.requires.0 _ c.next_stamp-stamp.ensures c.mark_site.ensures c.tell_rows.ensures.rows

pub returns-clause-kept : goal.returns-clause-kept
returns-clause-kept c = kept_on _ _ _ _ c.requires.0 _ c.next_stamp-stamp.ensures c.mark_site.ensures c.tell_rows.ensures.rows
    (still_long (c.tell_rows.ensures.long ∙ ap length c.forget.ensures.par) (c.tell_rows.ensures.kids_long ∙ ap length c.forget.ensures.has) (c.mark_site.auto.own ∙ c.next_stamp-stamp.auto.own) (c.tell_rows.auto.told ∙ c.mark_site.auto.told ∙ c.next_stamp-stamp.auto.told) (c.tell_rows.auto.state ∙ c.mark_site.auto.state) c.requires.1.long)
    c.tell_rows.ensures.known c.tell_rows.ensures.kids
