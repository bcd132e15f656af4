-- What may be joined has what the writing of edges and mutations asks, where the lent columns have room.
use mathlib.Core.Path.{◌≡◌}
use mathlib.Core.List.{[]}
use Prim.Native.Nat.{ℕ, ◌+◌, ◌<◌}
use native.Mathlib.Omega.{arith}
use lib.ListN.{length}
use Rattle.meaning.specs.Words.{at}
use Rattle.meaning.specs.Rows.{Tables, EdgeColumns, MutationColumns}
use Rattle.meaning.specs.Check.{key_of}
use Rattle.meaning.specs.Join.{BatchTables}
use Rattle.accepted.specs.Tests.{Holds, of_not_shared}
use Rattle.accepted.specs.Columns.{same_row}
use Rattle.ancestry.specs.Column.{Rising}
use Rattle.batches.specs.Joint.{Joint}
use Rattle.batches.specs.Asked.{read_base, read_batch}
use Rattle.batches.specs.Aged.{joint_aged}
use Rattle.joint.specs.Asked.{Single, EdgesAsked}
use Rattle.joint.specs.Sorting.{EdgeRoom}
use Rattle.joint.specs.Mutations.{MutationRoom, MutationsAsked, MutationRows}
use Rattle.joiner.specs.Joinable.{Joinable, joinable_few}

-- edges of a child that share no position, each with a position
single_of : (E : EdgeColumns) → ((i : ℕ) → i < length E.left → at E.left i < at E.right i) → ((i j x : ℕ) → j < i → i < length E.left → at E.child j ≡ at E.child i → Holds E j x → Holds E i x → ⊥) → Single E
single_of E h s = record { holds = h; apart = λ i l. of_not_shared E i (h i l) (λ j k. h j (omega arith)) (λ j x k. s i j x k l) }

module _ (L : ℕ) (T : Tables) (B : BatchTables) (k : Joinable L T B) where
  base_rising : Rising T.nodes.time T.edges
  base_rising = record {
    even = record { right_long = k.sound.shape.rights; parent_long = k.sound.shape.parents; child_long = k.sound.shape.children };
    parent_row = λ i l. (k.sound.tree.edge i l).parent_row;
    child_row-is = λ i l. (k.sound.tree.edge i l).child_row-is;
    age = λ i l. (k.sound.tree.edge i l).older;
  }

  pub joint : Joint L T B
  joint = record {
    base_long = k.sound.shape.births;
    long = k.batch.shape.births;
    few = k.batch.size.nodes;
    base_once = same_row T.nodes.birth k.sound.tree.once;
    once = same_row B.nodes.birth k.batch.rows.once;
    fresh = k.batch.rows.fresh;
    rising = base_rising;
    even = record { right_long = k.batch.shape.rights; parent_long = k.batch.shape.parents; child_long = k.batch.shape.children };
    edge = k.batch.rows.edge;
  }

  pub base_single : Single T.edges
  base_single = single_of T.edges (λ i l. (k.sound.tree.edge i l).some_position) k.sound.tree.single

  pub batch_single : Single B.edges
  batch_single = single_of B.edges (λ i l. (k.batch.rows.edge i l).some_position) k.batch.rows.single

  -- the edges are written from the columns of nodes and edges alone, the populations not among them
  pub edges_asked : (out : EdgeColumns) → EdgeRoom (length T.edges.left + length B.edges.left) out → EdgesAsked L (read_base T.nodes.time T.nodes.birth T.edges []) (read_batch B.nodes.time B.nodes.birth B.edges [] []) out
  unfolding key_of
  edges_asked out r = record {
    found = record {
      joint = joint_aged L T B [] [] [] joint;
      few = k.batch.size.edges;
      base_single = base_single;
      base_rises = record { above = k.sound.tree.ordered };
      single = batch_single;
    };
    room = r;
  }

  pub mutation_rows : MutationRows T B
  mutation_rows = record {
    base_node_long = k.sound.shape.mutated;
    base_derived_long = k.sound.shape.derived;
    node_long = k.batch.shape.mutated;
    derived_long = k.batch.shape.derived;
    base_site = k.sound.sites.site_row;
    base_node = k.sound.sites.node_row;
    site_row = k.batch.rows.site_row;
    node_in = k.batch.rows.node_in;
  }

  pub mutations_asked : (out : MutationColumns) → MutationRoom (length T.muts.site + length B.muts.site) out → MutationsAsked T.nodes.birth B.nodes.birth T.muts B.muts out
  mutations_asked out r = record {
    nodes = joinable_few k;
    base_node_long = k.sound.shape.mutated;
    base_derived_long = k.sound.shape.derived;
    node_long = k.batch.shape.mutated;
    derived_long = k.batch.shape.derived;
    sites = record { few = k.batch.size.muts; rising = k.sound.sites.rising };
    room = r;
  }
