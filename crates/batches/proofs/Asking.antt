-- What rule 26 asks of base and batch, said of the columns by rows that its search fills, and its answer read back from them.
use mathlib.Core.Path.{◌≡◌, sym, ap, ap₂, subst, ◌∙◌}
use mathlib.Core.List.{List, ◌++◌}
use Prim.Native.Nat.{ℕ}
use native.Mathlib.Omega.{arith}
use lib.ListN.{length, length-append, length-map}
use Rattle.std.specs.Prelude.{Option}
use Rattle.meaning.specs.Words.{at, index_of, lowest, lowest_row, row_below}
use Rattle.meaning.specs.Rows.{EdgeColumns, Tables, edges_of}
use Rattle.meaning.specs.Check.{mutation_above}
use Rattle.meaning.specs.Join.{BatchTables}
use Rattle.overtaking.specs.Overtaken.{overtaken}
use Rattle.batches.specs.Joint.{rows_in, own_edges}
use Rattle.batches.specs.Asked.{read_base, read_batch, Above, Unlined}
use Rattle.batches.proofs.Together.{all_long}
use Rattle.batches.proofs.Reading.{batch_node_row}
use Rattle.batches.proofs.Found.{stateless}
use Rattle.batches.proofs.Own.{own_rising, own_whole, own_apart, own_26}

module _ {len : ℕ} {basetime basebirth : List ℕ} {D : EdgeColumns} {position time birth : List ℕ} {E : EdgeColumns} {site node : List ℕ} (k : Above len basetime basebirth D position time birth E site node) where
  abbrev T : Tables
  T = read_base basetime basebirth D position

  abbrev B : BatchTables
  B = read_batch time birth E site node

  abbrev all : List ℕ
  all = basebirth ++ birth

  own_unlined : Unlined len (basetime ++ time) (own_edges all E) position site (rows_in all node)
  own_unlined = record {
    few = omega (arith, length-append basetime time, k.joint.few);
    edges = omega (arith, k.edges);
    sites = k.sites;
    mutations = k.mutations;
    rising = own_rising len T B k.joint;
    whole = own_whole len T B k.joint;
    apart = own_apart len T B k.joint k.apart;
    rightwards = k.rightwards;
    node_long = length-map node (λ b. index_of b all) ∙ k.node_long;
    site_row = k.site_row;
    node_row = λ i l. omega (arith, batch_node_row len T B k.joint k.node_long k.node_in i l, all_long len T B k.joint);
  }

  -- ---- of columns that hold the same

  module _ {t p c w : List ℕ} (et : t ≡ basetime ++ time) (ep : p ≡ rows_in all E.parent) (ec : c ≡ rows_in all E.child) (ew : w ≡ rows_in all node) where
    abbrev held : EdgeColumns
    held = record { left = E.left; right = E.right; parent = p; child = c }

    held_is : held ≡ own_edges all E
    held_is = ap₂ (λ x y. record { left = E.left; right = E.right; parent = x; child = y }) ep ec

    pub held_unlined : Unlined len t held position site w
    held_unlined = subst (λ x. Unlined len x held position site w) (sym et) (subst (λ x. Unlined len (basetime ++ time) x position site w) (sym held_is) (subst (λ x. Unlined len (basetime ++ time) (own_edges all E) position site x) (sym ew) own_unlined))

    pub held_26 : (x : Option ℕ) → x ≡ lowest_row (overtaken held position site w) (length site) → (derived : List ℕ) → x ≡ lowest_row (mutation_above (edges_of (at basebirth) D ++ edges_of (λ b. b) E) position (λ b. b) (record { site = site; node = node; derived = derived })) (length site)
    held_26 x e derived =
        e
        ∙ ap (row_below (length site)) (ap₂ (λ E v. lowest (overtaken E position site v) (length site)) held_is ew
        ∙ own_26 len T B k.joint k.node_long k.node_in
        ∙ stateless (edges_of (at basebirth) D ++ edges_of (λ b. b) E) position site node derived (length site))
