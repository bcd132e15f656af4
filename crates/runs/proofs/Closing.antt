-- At the end of the chromosome the open runs are finished row by row: what holds after the first rows, and at the end.
use mathlib.Core.Path.{◌≡◌, refl, sym, ◌∙◌, fun_ext}
use mathlib.Core.Bool.{Bool, true, false}
use mathlib.Core.List.{List, [], ◌∷◌, ◌++◌}
use mathlib.Core.Logic.{⊎_elim}
use Prim.Native.Nat.{ℕ, ◌+◌, ◌<◌, ◌≤◌}
use native.Mathlib.Omega.{arith}
use lib.Dec.{ltb}
use lib.ListN.{length}
use borrow.Author.Tests.{lt-ltb, le-ltb, eq-eqb, ne_eqb, ltb-true, ltb-false}
use Rattle.meaning.specs.Words.{at}
use Rattle.meaning.specs.Rows.{Edge}
use Rattle.meaning.specs.Forest.{Par}
use Rattle.laws.specs.Bools.{eq?}
use Rattle.laws.specs.Facts.{Any, Cov}
use Rattle.bridge.specs.Parents.{no_row}
use Rattle.history.specs.Lists.{all_to, append_nil}
use Rattle.runs.specs.Runs.{OpenRuns, Store, Room, Opened, Behind, Kept, Swept, Collected, Stored, Onward}
use Rattle.runs.specs.Onward.{onward_none, onward_then}
use Rattle.runs.specs.Promises.{leaves, Pushed, RowClosed, Closed}
use Rattle.runs.proofs.Storing.{room_kept}
use Rattle.runs.proofs.Turning.{opened, turned}

-- ---- one row

pub leaves_none : (x c s o : ℕ) → o ≡ no_row → leaves x c s o ≡ []
unfolding leaves
leaves_none x c s o e = rw (eq-eqb o no_row e, leaves)

pub leaves_edge : (x c s o : ℕ) → (o ≡ no_row → ⊥) → leaves x c s o ≡ record { left = s; right = x; parent = o; child = c } ∷ []
unfolding leaves
leaves_edge x c s o n = rw (ne_eqb o no_row n, leaves)

pub row_none : (x c : ℕ) (O : OpenRuns) (D : Store) → at O.par c ≡ no_row → RowClosed x c O D D
row_none x c O D e = record { onward = onward_none D; closes = λ n F s. rw (leaves_none x c (at O.left c) (at O.par c) e, append_nil F) s }

pub row_pushed : (x c : ℕ) (O : OpenRuns) (D D' : Store) → (at O.par c ≡ no_row → ⊥) → Pushed (record { left = at O.left c; right = x; parent = at O.par c; child = c }) D D' → RowClosed x c O D D'
row_pushed x c O D D' v p = record { onward = p.onward; closes = λ n F s. rw (leaves_edge x c (at O.left c) (at O.par c) v) (p.one_more n F s) }

-- what storing the finished edge asks
pub close_ready : (c : ℕ) (O : OpenRuns) (D : Store) → Opened (length O.par) O → Room (length O.par) D → c < length O.par → (at O.par c ≡ no_row → ⊥) → Room (length D.stood) D × (at O.par c < length D.stood)
close_ready c O D o r l v = (
  record { right_long = r.right_long; parent_long = r.parent_long; child_long = r.child_long; stood_long = refl },
  omega (arith, o.rows c l v, r.stood_long),
)

-- ---- the rows below c

-- v for the rows below c, and else as f
unfoldable pub shut : ℕ → ℕ → (ℕ → ℕ) → ℕ → ℕ
shut v c f d = elim (ltb d c) [ true ↦ v | false ↦ f d ]

module _ (v c : ℕ) (f : ℕ → ℕ) (d : ℕ) where
  shut_below : d < c → shut v c f d ≡ v
  unfolding shut
  shut_below l = rw (lt-ltb d c l, shut)

  shut_from : c ≤ d → shut v c f d ≡ f d
  unfolding shut
  shut_from l = rw (le-ltb d c l, shut)

shut_other : (v c : ℕ) (f : ℕ → ℕ) (d : ℕ) → (d ≡ c → ⊥) → shut v (c + 1) f d ≡ shut v c f d
shut_other v c f d n = go (ltb d c) refl
  where
    go : (t : Bool) → ltb d c ≡ t → shut v (c + 1) f d ≡ shut v c f d
    go true e = shut_below v (c + 1) f d (omega (arith, ltb-true d c e)) ∙ sym (shut_below v c f d (ltb-true d c e))
    go false e = shut_from v (c + 1) f d (omega (arith, ltb-false d c e)) ∙ sym (shut_from v c f d (ltb-false d c e))

shut_none : (v : ℕ) (f : ℕ → ℕ) → shut v 0 f ≡ f
shut_none v f = fun_ext (λ d. shut_from v 0 f d (omega arith))

-- the open runs of the first c rows are finished: from D₀ the columns came to D
pub record Closing (L : ℕ) (O : OpenRuns) (D₀ : Store) (c : ℕ) (D : Store) : Type 0 where
  pub room : Room (length O.par) D
  pub onward : Onward D₀ D
  pub closes : (U : ℕ → Par) (F : List Edge) → Swept U (length O.par) L L F (at O.left) (at O.par) → Stored (length O.par) F D₀ → (F' : List Edge) × Kept U (length O.par) L L F' (shut L c (at O.left)) (shut no_row c (at O.par)) × Stored (length O.par) F' D

module _ (L : ℕ) (O : OpenRuns) (D₀ : Store) where
  abbrev n : ℕ
  n = length O.par

  pub closing_start : Room n D₀ → Closing L O D₀ 0 D₀
  closing_start r = record {
    room = r;
    onward = onward_none D₀;
    closes = λ U F s t. (F, rw (shut_none L (at O.left), shut_none no_row (at O.par)) s.kept, t);
  }

  module _ (o : Opened n O) (c : ℕ) (cn : c < n) (U : ℕ → Par) (F : List Edge) where
    -- one row more is finished
    closed_row : Behind L (at O.left c) (at O.par c) → Kept U n L L F (shut L c (at O.left)) (shut no_row c (at O.par)) → Kept U n L L (F ++ leaves L c (at O.left c) (at O.par c)) (shut L (c + 1) (at O.left)) (shut no_row (c + 1) (at O.par))
    closed_row b k = ⊎_elim
        (λ (z : at O.par c ≡ no_row).
        rw (leaves_none L c (at O.left c) (at O.par c) z, append_nil F)
        (opened U n L L F lefts pars k c cn lefts' pars' other_left other_par here newly (now_par ∙ z)))
        (λ (z : at O.par c ≡ no_row → ⊥).
        rw (leaves_edge L c (at O.left c) (at O.par c) z, ← now_left, ← now_par)
        (turned U n L L F lefts pars k c cn lefts' pars' other_left other_par here newly (λ q. z (sym now_par ∙ q)) (omega (arith, now_par, o.rows c cn z)) (wide z) (λ l. absurd (omega arith))))
        (eq? (at O.par c) no_row)
      where
        lefts : ℕ → ℕ
        lefts = shut L c (at O.left)

        pars : ℕ → ℕ
        pars = shut no_row c (at O.par)

        lefts' : ℕ → ℕ
        lefts' = shut L (c + 1) (at O.left)

        pars' : ℕ → ℕ
        pars' = shut no_row (c + 1) (at O.par)

        other_left : (d : ℕ) → (d ≡ c → ⊥) → lefts' d ≡ lefts d
        other_left = shut_other L c (at O.left)

        other_par : (d : ℕ) → (d ≡ c → ⊥) → pars' d ≡ pars d
        other_par = shut_other no_row c (at O.par)

        here : lefts' c ≡ L
        here = shut_below L (c + 1) (at O.left) c (omega arith)

        newly : (pars' c ≡ no_row → ⊥) → (pars' c ≡ pars c → ⊥) × Behind L (lefts c) (pars c)
        newly v = absurd (v (shut_below no_row (c + 1) (at O.par) c (omega arith)))

        now_left : lefts c ≡ at O.left c
        now_left = shut_from L c (at O.left) c (omega arith)

        now_par : pars c ≡ at O.par c
        now_par = shut_from no_row c (at O.par) c (omega arith)

        wide : (at O.par c ≡ no_row → ⊥) → lefts c < L
        wide z = ⊎_elim (λ (l : at O.left c < L). omega (arith, now_left)) (λ (q : (L ≡ 0) × (at O.par c ≡ no_row)). absurd (z q.1)) b

  pub closing_next : (c : ℕ) (D D' : Store) → Opened n O → c < n → Closing L O D₀ c D → RowClosed L c O D D' → length D'.stood ≡ length D.stood → Closing L O D₀ (c + 1) D'
  closing_next c D D' o cn w s long = record {
    room = room_kept n D D' w.room s.onward long;
    onward = onward_then D₀ D D' w.onward s.onward;
    closes = λ U F a t.
        let r : _ = w.closes U F a t in
        (r.0 ++ leaves L c (at O.left c) (at O.par c), closed_row o c cn U r.0 (a.behind c cn) r.1, s.closes n r.0 r.2);
  }

  pub closing_end : (c : ℕ) (D : Store) → n ≤ c → Closing L O D₀ c D → Closed L O D₀ D
  closing_end c D l w = record {
    onward = w.onward;
    closes = λ U F a t.
        let r : _ = w.closes U F a t in
        (r.0, collected U r.0 r.1, r.2);
  }
    where
      collected : (U : ℕ → Par) (F : List Edge) → Kept U n L L F (shut L c (at O.left)) (shut no_row c (at O.par)) → Collected U n L F
      collected U F k = record {
        inside = all_to (λ e f. (f.parent_row, f.child_row-is)) k.edges;
        whole = all_to (λ e f. f.whole) k.edges;
        in_turn = k.in_turn;
        covers = λ y d p a b e. ⊎_elim
            (λ (q : Any (Cov y d p) F). q)
            (λ (q : shut L c (at O.left) d ≤ y). absurd (omega (arith, shut_below L c (at O.left) d (omega arith))))
            (k.covers y d p a b e);
      }
