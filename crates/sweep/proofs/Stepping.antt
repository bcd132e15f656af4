-- From a change to the next: the tree is brought to x, the runs are settled there, and the mutations before the next change are placed.
use mathlib.Core.Path.{◌≡◌, refl, sym, ap, ◌∙◌}
use mathlib.Core.Bool.{Bool, true, false}
use mathlib.Core.List.{List}
use mathlib.Core.Option.{Option, some}
use mathlib.Core.Logic.{⊎_elim}
use Prim.Native.Nat.{ℕ, ◌+◌, ◌<◌, ◌≤◌}
use native.Mathlib.Omega.{arith}
use lib.ListN.{length, get_or}
use Rattle.meaning.specs.Words.{at}
use Rattle.laws.specs.Bools.{eq?, none_some, some_inj}
use Rattle.bridge.specs.Parents.{no_row}
use Rattle.mend.specs.Right.{stands}
use Rattle.mend.specs.Line.{par_of, Over, root, hit, on}
use Rattle.mend.specs.Kept.{Kept}
use Rattle.mend.specs.Listing.{Listed, Noted, listed_start, listed_few}
use Rattle.tree.specs.Sweep as tree
use Rattle.mend.proofs.Reading.{par_of-is, opt_some}
use Rattle.runs.specs.Runs.{Named}
use Rattle.runs.specs.Promises.{Ready}
use Rattle.runs.specs.Sized.{ready_of}
use Rattle.sweep.specs.Columns.{Input, State, position_of, Sited}
use Rattle.placing.specs.Placing.{Placeable}
use Rattle.sweep.specs.Sweeping.{Steady}

-- ---- a cell of the tree's output parents holds a row or none

over_row : (P : List ℕ) {K : ℕ → Bool} {o : Option ℕ} {v : ℕ} → ((u : ℕ) → u < length P → (get_or P u 0 ≡ no_row → ⊥) → get_or P u 0 < length P) → Over (par_of P) K o v → (p : ℕ) → o ≡ some p → p < length P
over_row P g (root e q) p h = absurd (none_some q h)
over_row P {v = v} g (hit {p = a} e k q) p h = let r : _ = par_of-is P v a e in let z : a ≡ p = some_inj q h in omega (arith, g v r.0 r.2, r.1)
over_row P g (on e k w) p h = over_row P g w p h

pub up_rows : {T S P C M D U : List ℕ} → Kept T S P C M D U → (c : ℕ) → c < length P → Named (length P) (get_or U c 0)
up_rows {T} {S} {P} {C} {M} {D} {U} k c l n = go (stands S C c) refl
  where
    go : (t : Bool) → stands S C c ≡ t → get_or U c 0 < length P
    go true e = over_row P k.mended.grows.inside (k.up.cell c e) (get_or U c 0) (opt_some (get_or U c 0) n)
    go false e = absurd (n (k.up.idle c l e))

-- ---- mutations are in the order of their positions

pub position_rises : {L : ℕ} {I : Input} → Sited L I → (j i : ℕ) → j ≤ i → i < length I.site → position_of I j ≤ position_of I i
position_rises {L} {I} s j i h l = ⊎_elim
    (λ (q : j ≡ i). let e : position_of I j ≡ position_of I i = ap (position_of I) q in omega arith)
    (λ (q : j ≡ i → ⊥). ⊎_elim
    (λ (z : at I.site j ≡ at I.site i). let e : position_of I j ≡ position_of I i = ap (at I.position) z in omega arith)
    (λ (z : at I.site j ≡ at I.site i → ⊥). omega (arith, s.ascending (at I.site i) (at I.site j) (omega (arith, s.rising i j (omega arith) l)) (s.site_row i l)))
    (eq? (at I.site j) (at I.site i)))
    (eq? j i)

-- ---- what the calls of a step ask

module _ {L : ℕ} {I : Input} {t : ℕ} {K : List ℕ} {x : ℕ} {Z : State} (st : Steady L I t K x Z) where
  ups_before : length Z.ups ≡ length I.time
  ups_before = st.tree.kept.up.long ∙ sym st.tree.kept.mended.shape.times

  pub advance_ready : {X : List ℕ} → t ≡ length X → Listed (length Z.ups) 0 X K
  advance_ready {X} e = rw ups_before (listed_start (length I.time) X K (omega (arith, st.listed)) st.marks_long st.bare)

  module _ {P C M D U : List ℕ} {i j : ℕ} (sw : tree.Swept I.time I.sample P C M D U I.left I.right I.parent I.child I.by_left I.by_right i j (x + 1)) where
    long : length I.time ≡ length P
    long = sw.kept.mended.shape.times

    ups_long : length I.time ≡ length U
    ups_long = long ∙ sym sw.kept.up.long

    pub settle_ready : {X X' K' : List ℕ} {k : ℕ} → Noted (length Z.ups) Z.ups U X K X' K' 0 k → Ready U Z.runs Z.store × (k ≤ length X') × ((e : ℕ) → e < k → at X' e < length U) × (length K' ≡ length U)
    settle_ready {X' = X'} {K'} {k} nt = (
      ready_of (length I.time) U Z.runs Z.store ups_long st.runs st.room (rw (sym long) at (up_rows sw.kept)),
      omega (arith, listed_few (length Z.ups) k X' K' nt.listing, nt.listing.room),
      λ e l. omega (arith, nt.listing.rows e l, ups_long, ups_before),
      nt.listing.marks ∙ ups_before ∙ ups_long,
    )

    pub place_ready : Placeable I.position I.site I.node Z.moves (length P) Z.placed
    place_ready = record {
      nodes = st.sites.nodes;
      site_row = st.sites.site_row;
      node_row = rw (sym long) st.sites.node_row;
      numbered = st.numbered;
      even = st.even;
      few = st.few;
      most = st.most;
    }
