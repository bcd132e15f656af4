-- What the checks 3 to 10 find of tables, as facts of the record that they mean.
use Rattle.std.specs.Prelude.{◌≡◌, refl, true, [], ◌∷◌, ℕ, ◌<◌, ◌≤◌}
use Rattle.std.proofs.Math.Path.{ap}
use Rattle.std.proofs.Common.{◌∙◌, arith}
use Rattle.std.proofs.Math.ListN.{length}
use Rattle.meaning.specs.Words.{at, lex}
use Rattle.meaning.specs.Rows.{Tables, Edge, Mutation, Record, births, nodes_of, edges_of, sites_of, muts_of, record_of, time_of, pos_of, edge_key}
use Rattle.meaning.specs.Forest.{parent_in, ancestor}
use Rattle.meaning.specs.Answer.{Limits}
use Rattle.meaning.specs.Check.{key_of}
use Rattle.meaning.specs.Join.{keyed}
use Rattle.laws.specs.Counting.{length_rows}
use Rattle.laws.specs.Facts.{Distinct, All, Closed}
use Rattle.history.specs.Pairs.{Pairs}
use Rattle.history.specs.Alleles.{Settled, Settles}
use Rattle.accepted.specs.Tests.{EdgeRight}
use Rattle.accepted.specs.Checked.{Sound}
use Rattle.accepted.specs.Columns.{all_rows-is, same_row, births_once, time_of-is, pos_of-is}
use Rattle.accepted.specs.Records.{closed_of}
use Rattle.results.specs.Pairwise.{Pairwise, pairwise_rows, to_pairs}

-- ---- of one row, and of two

-- 5, but for the rows that are named: the edge has a position, ends on the chromosome, and its parent is older
pub record Right (L : ℕ) (time : ℕ → ℕ) (e : Edge) : Type 0 where
  pub wide : e.left < e.right
  pub within : e.right ≤ L
  pub older : time e.child < time e.parent

-- 7: two edges of one child share no position
abbrev pub Parted : Edge → Edge → Type 0
Parted d e = (x : ℕ) → d.child ≡ e.child → d.left ≤ x → x < d.right → e.left ≤ x → x < e.right → ⊥

-- 9: the site row doesn't fall
abbrev pub Rises : Mutation → Mutation → Type 0
Rises m n = m.site ≤ n.site

-- 3 to 10
pub record RecordSound (L : ℕ) (R : Record) : Type 0 where
  pub len : R.len ≡ L
  pub once : Distinct (births R.nodes)
  pub closed : Closed R
  pub edge : All (Right L (time_of R.nodes)) R.edges
  pub ordered : Pairwise (λ d e. keyed R.nodes d e ≡ true) R.edges
  pub parted : Pairwise Parted R.edges
  pub inside : (i : ℕ) → i < length R.sites → pos_of R.sites i < L
  pub ascending : (i j : ℕ) → j < i → i < length R.sites → pos_of R.sites j < pos_of R.sites i
  pub site_row : All (λ (m : Mutation). m.site < length R.sites) R.muts
  pub rising : Pairs Rises R.muts
  pub settled : Settled R

-- ---- tables that pass the check mean such a record

module _ (m : Limits) (L : ℕ) (T : Tables) (s : Sound m L T) where
  -- row i of the edges and of the mutations
  abbrev edge_row : ℕ → Edge
  edge_row i = record { left = at T.edges.left i; right = at T.edges.right i; parent = at T.nodes.birth (at T.edges.parent i); child = at T.nodes.birth (at T.edges.child i) }

  abbrev mutation_row : ℕ → Mutation
  mutation_row i = record { site = at T.muts.site i; node = at T.nodes.birth (at T.muts.node i); derived = at T.muts.derived i }

  time_at : (i : ℕ) → i < length T.nodes.time → time_of (nodes_of T.nodes) (at T.nodes.birth i) ≡ at T.nodes.time i
  time_at = time_of-is T.nodes s.shape.births s.tree.once

  right_rows : All (Right L (time_of (nodes_of T.nodes))) (edges_of (at T.nodes.birth) T.edges)
  unfolding edges_of
  right_rows = all_rows-is (Right L (time_of (nodes_of T.nodes))) edge_row (length T.edges.left) (λ i l.
      let e : EdgeRight L T.nodes.time T.edges i = s.tree.edge i l in
      record { wide = e.some_position; within = e.within; older = omega (arith, time_at (at T.edges.child i) e.child_row-is, time_at (at T.edges.parent i) e.parent_row) })

  key_is : (i : ℕ) → i < length T.edges.left → edge_key (time_of (nodes_of T.nodes)) (edge_row i) ≡ key_of T.nodes T.edges i
  unfolding edge_key key_of
  key_is i l = ap (λ (t : ℕ). t ∷ at T.nodes.birth (at T.edges.parent i) ∷ at T.nodes.birth (at T.edges.child i) ∷ at T.edges.left i ∷ []) (time_at (at T.edges.parent i) (s.tree.edge i l).parent_row)

  ordered_rows : Pairwise (λ d e. keyed (nodes_of T.nodes) d e ≡ true) (edges_of (at T.nodes.birth) T.edges)
  unfolding edges_of keyed
  ordered_rows = pairwise_rows (λ d e. lex (edge_key (time_of (nodes_of T.nodes)) d) (edge_key (time_of (nodes_of T.nodes)) e) ≡ true) edge_row (length T.edges.left) (λ i j k l.
      (λ q. lex (key_is j (omega arith) q) (key_is i l q)) ∙ s.tree.ordered i j k l)

  parted_rows : Pairwise Parted (edges_of (at T.nodes.birth) T.edges)
  unfolding edges_of
  parted_rows = pairwise_rows Parted edge_row (length T.edges.left) (λ i j k l x e a b c d.
      s.tree.single i j x k l
      (same_row T.nodes.birth s.tree.once (at T.edges.child j) (at T.edges.child i) (omega (arith, (s.tree.edge j (omega arith)).child_row-is, s.shape.births)) (omega (arith, (s.tree.edge i l).child_row-is, s.shape.births)) e)
      (record { begun = a; not_over = b }) (record { begun = c; not_over = d }))

  sites_long : length (sites_of T.sites) ≡ length T.sites.position
  unfolding sites_of
  sites_long = length_rows (λ i. record { pos = at T.sites.position i; state = at T.sites.ancestral i }) (length T.sites.position)

  site_rows : All (λ (u : Mutation). u.site < length (sites_of T.sites)) (muts_of (at T.nodes.birth) T.muts)
  unfolding muts_of
  site_rows = all_rows-is (λ (u : Mutation). u.site < length (sites_of T.sites)) mutation_row (length T.muts.site) (λ i l. omega (arith, s.sites.site_row i l, sites_long))

  rising_rows : Pairs Rises (muts_of (at T.nodes.birth) T.muts)
  unfolding muts_of
  rising_rows = to_pairs (pairwise_rows Rises mutation_row (length T.muts.site) (λ i j k l. s.sites.rising i j k l))

  settled_rows : Pairs (Settles (record_of L T)) (muts_of (at T.nodes.birth) T.muts)
  unfolding muts_of record_of
  settled_rows = to_pairs (pairwise_rows (Settles (record_of L T)) mutation_row (length T.muts.site) (λ i j k l e.
      ap (λ (p : ℕ). ancestor (parent_in (edges_of (at T.nodes.birth) T.edges) p) (at T.nodes.birth (at T.muts.node i)) (at T.nodes.birth (at T.muts.node j))) (pos_of-is T.sites (at T.muts.site j) ∙ ap (at T.sites.position) e)
      ∙ s.sites.downwards i j k l e))

  pub record_sound_of : RecordSound L (record_of L T)
  unfolding record_of
  record_sound_of = record {
    len = refl;
    once = births_once T.nodes s.shape.births s.tree.once;
    closed = closed_of m L T s;
    edge = right_rows;
    ordered = ordered_rows;
    parted = parted_rows;
    inside = λ i l. rw (pos_of-is T.sites i) (s.sites.inside i (omega (arith, sites_long)));
    ascending = λ i j k l. rw (pos_of-is T.sites i) (rw (pos_of-is T.sites j) (s.sites.ascending i j k (omega (arith, sites_long))));
    site_row = site_rows;
    rising = rising_rows;
    settled = record { order = settled_rows };
  }
