-- What the sweep asks is met: by tables that the check finds sound, by their edge rows sorted by left and by right, and by marked samples.
use Rattle.std.specs.Prelude.{◌≡◌, Bool, true, false, List, ℕ, ◌<◌, length}
use Rattle.std.proofs.Common.{sym, ap, ◌∙◌, ⊎_elim, arith, ltb-false}
use Rattle.meaning.specs.Words.{at, mem, rows}
use Rattle.meaning.specs.Rows.{NodeColumns, EdgeColumns, Tables}
use Rattle.laws.specs.Bools.{truth}
use Rattle.laws.specs.Counting.{get_rows}
use Rattle.accepted.specs.Tests.{of_edge, of_not_shared}
use Rattle.accepted.specs.Checked.{Shaped, TreeSound, SitesSound}
use Rattle.order.specs.Order.{by_keys, SortedFrom}
use Rattle.order.specs.Lex.{one_key}
use Rattle.tree.specs.Sweep.{Checked, Index, Plan}
use Rattle.tree.specs.TreeAt.{Flags}
use Rattle.tree.proofs.Checking.{checked, index}
use Rattle.sweep.specs.Columns.{Input, Sited}

-- the columns that a sweep reads: those of the tables, the marks of the samples, and the edge rows by left and by right
abbrev pub input_of : Tables → List ℕ → List ℕ → List ℕ → Input
input_of T sample by_left by_right = record {
  time = T.nodes.time;
  sample = sample;
  left = T.edges.left;
  right = T.edges.right;
  parent = T.edges.parent;
  child = T.edges.child;
  by_left = by_left;
  by_right = by_right;
  position = T.sites.position;
  site = T.muts.site;
  node = T.muts.node;
}

-- m rows sorted by a key, as the crate order sorts them, are every row once, in the order of the key
pub index_of-is : (key b : List ℕ) (m : ℕ) → SortedFrom (by_keys key key key key) (rows (λ v. v) m) b → Index key b m
index_of-is key b m s = index key b m s.permuted.often (λ j k l h. ltb-false (at key (at b k)) (at key (at b j)) (sym (one_key key (at b k) (at b j)) ∙ s.sorted.apart j k l h))

-- the edges of sound tables
pub checked_of : (L : ℕ) (N : NodeColumns) (E : EdgeColumns) → TreeSound L N E → length E.right ≡ length E.left → length E.parent ≡ length E.left → length E.child ≡ length E.left → Checked N.time E.left E.right E.parent E.child (length N.time)
checked_of L N E s r p c = checked L N.time E (sym c) (r ∙ sym c) (p ∙ sym c)
    (λ e l. of_edge L N.time E e (s.edge e (omega arith)))
    (λ e l. of_not_shared E e (s.edge e (omega arith)).some_position (λ j k. (s.edge j (omega arith)).some_position) (λ j x k. s.single e j x k (omega arith)))

module _ (L : ℕ) (T : Tables) (h : Shaped T) where
  -- the edges in both orders
  pub plan_of : (by_left by_right : List ℕ) → TreeSound L T.nodes T.edges → SortedFrom (by_keys T.edges.left T.edges.left T.edges.left T.edges.left) (rows (λ v. v) (length T.edges.left)) by_left → SortedFrom (by_keys T.edges.right T.edges.right T.edges.right T.edges.right) (rows (λ v. v) (length T.edges.left)) by_right → Plan T.nodes.time T.edges.left T.edges.right T.edges.parent T.edges.child by_left by_right (length T.nodes.time)
  plan_of bl br s a b = record {
    checked = checked_of L T.nodes T.edges s h.rights h.parents h.children;
    lefts = rw h.children (index_of-is T.edges.left bl (length T.edges.left) a);
    rights = rw h.children (index_of-is T.edges.right br (length T.edges.left) b);
  }

  -- sites and mutations
  pub sited_of : (sample by_left by_right : List ℕ) → SitesSound L T → Sited L (input_of T sample by_left by_right)
  sited_of sample bl br s = record {
    nodes = h.mutated;
    site_row = s.site_row;
    node_row = s.node_row;
    inside = s.inside;
    ascending = s.ascending;
    rising = s.rising;
  }

-- a column marked at the rows of Q, which are below n
pub flags_of : (mark : Bool → ℕ) → 0 < mark true → mark false ≡ 0 → (Q : List ℕ) (n : ℕ) → ((s : ℕ) → mem s Q ≡ true → s < n) → Flags (rows (λ u. mark (mem u Q)) n) Q n
flags_of mark above bare Q n inside = record {
  set = λ s h. let l : s < n = inside s h in (l, omega (arith, get_rows (λ u. mark (mem u Q)) 0 n s l, ap mark h));
  only = λ s l k. ⊎_elim
      (λ (h : mem s Q ≡ true). h)
      (λ (h : mem s Q ≡ false). absurd (omega (arith, get_rows (λ u. mark (mem u Q)) 0 n s l, ap mark h)))
      (truth (mem s Q));
}
