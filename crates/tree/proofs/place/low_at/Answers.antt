-- `tree::place::low_at` meets its contract.
use mathlib.Core.Path.{sym, ◌∙◌}
use Rattle.tree.proofs.Lowering.{low_is, low_is_none, low_row}
use borrow.Author.Rules.{rules}
use native.Mathlib.Omega.{arith}
use Rattle.tree.proofs.place.low_at.Goals as goal

pub alive-requires : goal.alive-requires
alive-requires c = let m : _ = c.requires.0.shape in let l : _ = c.requires.2 in (omega arith, omega arith)

pub bounds-low-u : goal.bounds-low-u
bounds-low-u c = let h : _ = c.requires in omega (arith, h.1.long, h.2)

pub returns-then-alive : goal.returns-then-alive
returns-then-alive c =
    let h : _ = c.requires in
    let k : _ = h.1.cell _ (sym c.alive.ensures ∙ c.if-alive.true) in
    record { row = low_row h.0 k; low = λ E Q x fl is. low_is h.0 fl E x is k }

pub returns : goal.returns
returns c = record { row = search rules; low = λ E Q x fl is. low_is_none c.requires.0 fl E x is _ (sym c.alive.ensures ∙ c.if-alive.false) }
