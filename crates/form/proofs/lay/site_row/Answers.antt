-- `form::lay::site_row` meets its contract: the mark and the fields, one after the other. Assumes nothing.
use mathlib.Core.Path.{sym, ap, ◌∙◌}
use mathlib.Core.List.{List, [], ◌∷◌, ◌++◌}
use Prim.Native.Nat.{ℕ, ◌+◌}
use Rattle.meaning.specs.Words.{at}
use Rattle.meaning.specs.Stored.{bytes_of, record_at, fields_at}
use Rattle.form.specs.Posts.{lay}
use Rattle.form.proofs.Laying.{lay_chain}
use native.Mathlib.Omega.{arith}
use Rattle.form.proofs.lay.site_row.Goals as goal

pub returns : goal.returns
unfolding bytes_of record_at fields_at
returns c = let e0 : _ = c.mark.ensures in
    let e1 : _ = lay_chain c.args.at (c.args.at + 2) (83 ∷ 73 ∷ []) (bytes_of 4 (at c.args.sites.position.now c.args.i)) c.args.out.now e0 c.put32.ensures (omega arith) (omega (arith, c.requires.0)) in
    let e2 : _ = lay_chain c.args.at (c.args.at + 2 + 4) ((83 ∷ 73 ∷ []) ++ bytes_of 4 (at c.args.sites.position.now c.args.i)) (at c.args.sites.ancestral.now c.args.i ∷ []) c.args.out.now e1 c.put8.ensures.0 (omega arith) (omega (arith, c.requires.0)) in
    e2 ∙ ap (λ (x : List ℕ). lay c.args.at (((83 ∷ 73 ∷ []) ++ bytes_of 4 (at c.args.sites.position.now c.args.i)) ++ x) c.args.out.now) (sym c.put8.ensures.1)
