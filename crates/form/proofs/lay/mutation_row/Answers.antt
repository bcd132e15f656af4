-- `form::lay::mutation_row` meets its contract: the mark and the fields, one after the other. Assumes nothing.
use mathlib.Core.Path.{sym, ap, ◌∙◌}
use mathlib.Core.List.{List, [], ◌∷◌, ◌++◌}
use Prim.Native.Nat.{ℕ, ◌+◌}
use Rattle.meaning.specs.Words.{at}
use Rattle.meaning.specs.Stored.{bytes_of, record_at, fields_at}
use Rattle.form.specs.Posts.{lay}
use Rattle.form.proofs.Laying.{lay_chain}
use native.Mathlib.Omega.{arith}
use Rattle.form.proofs.lay.mutation_row.Goals as goal

pub returns : goal.returns
unfolding bytes_of record_at fields_at
returns c = let e0 : _ = c.mark.ensures in
    let e1 : _ = lay_chain c.args.at (c.args.at + 2) (77 ∷ 85 ∷ []) (bytes_of 2 (at c.args.mutations.site.now c.args.i)) c.args.out.now e0 c.put16.ensures (omega arith) (omega (arith, c.requires.0)) in
    let e2 : _ = lay_chain c.args.at (c.args.at + 2 + 2) ((77 ∷ 85 ∷ []) ++ bytes_of 2 (at c.args.mutations.site.now c.args.i)) (bytes_of 2 (at c.args.mutations.node.now c.args.i)) c.args.out.now e1 c.put16-2.ensures (omega arith) (omega (arith, c.requires.0)) in
    let e3 : _ = lay_chain c.args.at (c.args.at + 2 + 2 + 2) (((77 ∷ 85 ∷ []) ++ bytes_of 2 (at c.args.mutations.site.now c.args.i)) ++ bytes_of 2 (at c.args.mutations.node.now c.args.i)) (at c.args.mutations.derived.now c.args.i ∷ []) c.args.out.now e2 c.put8.ensures.0 (omega arith) (omega (arith, c.requires.0)) in
    e3 ∙ ap (λ (x : List ℕ). lay c.args.at ((((77 ∷ 85 ∷ []) ++ bytes_of 2 (at c.args.mutations.site.now c.args.i)) ++ bytes_of 2 (at c.args.mutations.node.now c.args.i)) ++ x) c.args.out.now) (sym c.put8.ensures.1)
