-- `form::lay::node_row` meets its contract: the mark and the fields, one after the other. Assumes nothing.
use mathlib.Core.List.{[], ◌∷◌, ◌++◌}
use Prim.Native.Nat.{◌+◌}
use Rattle.meaning.specs.Words.{at}
use Rattle.meaning.specs.Stored.{bytes_of, record_at, fields_at}
use Rattle.form.proofs.Laying.{lay_chain}
use native.Mathlib.Omega.{arith}
use Rattle.form.proofs.lay.node_row.Goals as goal

pub returns : goal.returns
unfolding bytes_of record_at fields_at
returns c = let e0 : _ = c.mark.ensures in
    let e1 : _ = lay_chain c.args.at (c.args.at + 2) (78 ∷ 68 ∷ []) (bytes_of 4 (at c.args.ages.time.now c.args.i)) c.args.out.now e0 c.put32.ensures (omega arith) (omega (arith, c.requires.0)) in
    let e2 : _ = lay_chain c.args.at (c.args.at + 2 + 4) ((78 ∷ 68 ∷ []) ++ bytes_of 4 (at c.args.ages.time.now c.args.i)) (bytes_of 4 (at c.args.ages.birth.now c.args.i)) c.args.out.now e1 c.put32-2.ensures (omega arith) (omega (arith, c.requires.0)) in
    e2
