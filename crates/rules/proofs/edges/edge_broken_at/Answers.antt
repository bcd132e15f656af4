-- `edge_broken_at` meets its contract: each way out is one case of rule 5.
use mathlib.Core.Path.{sym}
use Rattle.rules.proofs.Rows.{no_parent_row, no_child_row, empty_edge, edge_past, edge_ages}
use Rattle.rules.proofs.edges.edge_broken_at.Goals as goal

pub returns-then-time-p : goal.returns-then-time-p
returns-then-time-p c = sym (no_parent_row _ _ _ _ c.if-time-p.true)

pub returns-then-time-c : goal.returns-then-time-c
returns-then-time-c c = sym (no_child_row _ _ _ _ c.if-time-p.false c.if-time-c.true)

pub returns-then-edges-i : goal.returns-then-edges-i
returns-then-edges-i c = sym (empty_edge _ _ _ _ c.if-time-p.false c.if-time-c.false c.if-edges-i.true)

pub returns-then-len-edges : goal.returns-then-len-edges
returns-then-len-edges c = sym (edge_past _ _ _ _ c.if-time-p.false c.if-time-c.false c.if-edges-i.false c.if-len-edges.true)

pub returns : goal.returns
returns c = sym (edge_ages _ _ _ _ c.if-time-p.false c.if-time-c.false c.if-edges-i.false c.if-len-edges.false)
