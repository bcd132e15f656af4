-- What a row that is not broken says, and what later rules make of it.
use mathlib.Core.Path.{◌≡◌, refl, sym}
use mathlib.Core.Bool.{Bool, true, false}
use mathlib.Core.List.{List}
use Prim.Native.Nat.{ℕ, suc, ◌<◌, ◌≤◌}
use native.Mathlib.Omega.{arith}
use lib.Dec.{eqb, leb, ltb}
use lib.ListN.{length}
use borrow.Author.Tests.{eq-eqb, leb-false, ltb-true, ltb-false}
use Rattle.meaning.specs.Words.{or, at}
use Rattle.meaning.specs.Rows.{EdgeColumns, MutationColumns, age_table}
use Rattle.meaning.specs.Check.{repeated, edge_broken, not_above, site_broken, falls, mutation_broken}
use Rattle.laws.specs.Bools.{clash, or_no}
use Rattle.laws.specs.Counting.{of_below}
use Rattle.bridge.specs.Columns.{Apart}
use Rattle.ancestry.specs.Column.{Rising}
use Rattle.overtaking.specs.Overtaken.{Rightwards, Lined}
use Rattle.ancestry.specs.Index.{Whole}
use Rattle.meaning.specs.Even.{EvenEdges}
use Rattle.rules.specs.Asked.{NamedNodes}
use Rattle.rules.specs.Lined.{Somewhere}

-- 5: the rows named exist, the edge holds somewhere and not past the chromosome, and the parent is older
pub record EdgeWhole (L : ℕ) (time : List ℕ) (E : EdgeColumns) (i : ℕ) : Type 0 where
  pub parent_row : at E.parent i < length time
  pub child_row-is : at E.child i < length time
  pub holds : at E.left i < at E.right i
  pub inside : at E.right i ≤ L
  pub age : at time (at E.child i) < at time (at E.parent i)

pub edge_whole : (L : ℕ) (time : List ℕ) (E : EdgeColumns) (i : ℕ) → edge_broken L time E i ≡ false → EdgeWhole L time E i
unfolding edge_broken
edge_whole L time E i h =
    let no_parent : Bool = leb (length time) (at E.parent i) in
    let no_child : Bool = leb (length time) (at E.child i) in
    let empty : Bool = leb (at E.right i) (at E.left i) in
    let past : Bool = ltb L (at E.right i) in
    let young : Bool = leb (at time (at E.parent i)) (at time (at E.child i)) in
    let a : _ = or_no no_parent (or no_child (or empty (or past young))) h in
    let b : _ = or_no no_child (or empty (or past young)) a.1 in
    let c : _ = or_no empty (or past young) b.1 in
    let d : _ = or_no past young c.1 in
    record {
      parent_row = leb-false _ _ a.0;
      child_row-is = leb-false _ _ b.0;
      holds = leb-false _ _ c.0;
      inside = ltb-false _ _ d.0;
      age = leb-false _ _ d.1;
    }

-- ---- what the searches ask of rows that earlier rules have passed

module _ (L : ℕ) (time : List ℕ) (E : EdgeColumns) (e : EvenEdges E) (h : (i : ℕ) → i < length E.left → edge_broken L time E i ≡ false) where
  -- rule 6: every edge row names node rows that exist
  pub named : (birth : List ℕ) → NamedNodes (age_table time birth) E
  named birth = record {
    parent_row = λ i l. (edge_whole L time E i (h i l)).parent_row;
    child_row-is = λ i l. (edge_whole L time E i (h i l)).child_row-is;
  }

  -- rule 10: and the parent is older than the child
  pub rising : Rising time E
  rising = record {
    even = e;
    parent_row = λ i l. (edge_whole L time E i (h i l)).parent_row;
    child_row-is = λ i l. (edge_whole L time E i (h i l)).child_row-is;
    age = λ i l. (edge_whole L time E i (h i l)).age;
  }

  -- rule 7: every edge holds somewhere
  pub somewhere : Somewhere E
  somewhere = record { held = λ i l. (edge_whole L time E i (h i l)).holds }

  -- rule 10: and not past the chromosome
  pub whole : Whole E L
  whole = record { held = λ i l. (edge_whole L time E i (h i l)).holds; inside = λ i l. (edge_whole L time E i (h i l)).inside }

-- 9: the rows named exist, and the site row is not below that of the row before
module _ (sites nodes : ℕ) (M : MutationColumns) (i : ℕ) (h : mutation_broken sites nodes M i ≡ false) where
  mutation_parts : (leb sites (at M.site i) ≡ false) × (leb nodes (at M.node i) ≡ false) × (falls M.site i ≡ false)
  unfolding mutation_broken
  mutation_parts =
      let a : _ = or_no (leb sites (at M.site i)) (or (leb nodes (at M.node i)) (falls M.site i)) h in
      let b : _ = or_no (leb nodes (at M.node i)) (falls M.site i) a.1 in
      (a.0, b.0, b.1)

-- rule 10: every mutation names rows that exist, and site rows do not fall
pub lined : (sites nodes : ℕ) (M : MutationColumns) → length M.node ≡ length M.site → ((i : ℕ) → i < length M.site → mutation_broken sites nodes M i ≡ false) → Lined sites nodes M.site M.node
unfolding falls
lined sites nodes M n h = record {
  node_long = n;
  site_row = λ i l. leb-false _ _ (mutation_parts sites nodes M i (h i l)).0;
  node_row = λ i l. leb-false _ _ (mutation_parts sites nodes M i (h i l)).1;
  rise = λ i l. ltb-false _ _ (mutation_parts sites nodes M (suc i) (h (suc i) l)).2;
}

-- 4: no birth number stands at two rows
pub apart : (l : List ℕ) → ((i : ℕ) → i < length l → repeated l i ≡ false) → Apart l
unfolding repeated
apart l h i j a b e = go (ltb i j) refl (ltb j i) refl
  where
    go : (t : Bool) → ltb i j ≡ t → (u : Bool) → ltb j i ≡ u → i ≡ j
    go true p u q = absurd (clash (of_below (λ k. eqb (at l k) (at l j)) j i (ltb-true i j p) (eq-eqb _ _ e)) (h j b))
    go false p true q = absurd (clash (of_below (λ k. eqb (at l k) (at l i)) i j (ltb-true j i q) (eq-eqb _ _ (sym e))) (h i a))
    go false p false q = omega (arith, ltb-false i j p, ltb-false j i q)

-- rule 10: the positions of the sites rise
pub rightwards : (L : ℕ) (position : List ℕ) → ((i : ℕ) → i < length position → site_broken L position i ≡ false) → Rightwards position
unfolding site_broken not_above
rightwards L position h = record {
  rise = λ s l.
      let r : _ = or_no (leb L (at position (suc s))) (leb (at position (suc s)) (at position s)) (h (suc s) l) in
      omega (arith, leb-false (at position (suc s)) (at position s) r.1);
}
