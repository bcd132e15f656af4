-- One row's open run ends at x: it is finished as an edge if it is of a parent, and another begins.
use mathlib.Core.Path.{◌≡◌, sym, ap, ◌∙◌}
use mathlib.Core.Bool.{true, false}
use mathlib.Core.List.{List, [], ◌∷◌, ◌++◌}
use mathlib.Core.Option.{Option, none, some}
use mathlib.Core.Logic.{◌⊎◌, inl, inr, ⊎_elim}
use Prim.Native.Nat.{ℕ, suc, ◌<◌, ◌≤◌}
use native.Mathlib.Omega.{arith}
use Rattle.meaning.specs.Rows.{Edge}
use Rattle.meaning.specs.Forest.{Par, is}
use Rattle.laws.specs.Bools.{eq?, not_true}
use Rattle.laws.specs.Facts.{Any, now, All, done, also, Cov}
use Rattle.bridge.specs.Parents.{no_row, code}
use Rattle.history.specs.Lists.{any_left, any_right, all_app, all_to}
use Rattle.encoding.specs.Runs.{Longest}
use Rattle.encoding.specs.Edges.{is_of, of_is}
use Rattle.runs.specs.Runs.{Run, Finished, Follows, InTurn, none_yet, one_more, Kept, Behind}

-- ---- cells and parents

pub code_some : {o : Option ℕ} {p : ℕ} → o ≡ some p → code o ≡ p
unfolding code
code_some e = rw e

-- a cell that is not none is that of its row
pub some_code : (o : Option ℕ) (p : ℕ) → (p ≡ no_row → ⊥) → code o ≡ p → o ≡ some p
unfolding code
some_code none p n e = absurd (n (sym e))
some_code (some q) p n e = ap some e

is_code : (o : Option ℕ) (p : ℕ) → (p ≡ no_row → ⊥) → code o ≡ p → is o p ≡ true
is_code o p n e = of_is (some_code o p n e)

not_code : (o : Option ℕ) (p : ℕ) → (code o ≡ p → ⊥) → is o p ≡ false
not_code o p n = not_true (is o p) (λ h. n (code_some (is_of o p h)))

-- ---- one edge more

pub in_turn_snoc : (l : List Edge) (e : Edge) → InTurn l → All (λ d. Follows d e) l → InTurn (l ++ e ∷ [])
in_turn_snoc [] e none_yet done = one_more done none_yet
in_turn_snoc (d ∷ l) e (one_more a o) (also b h) = one_more (all_app a (also b done)) (in_turn_snoc l e o h)

module _ (U : ℕ → Par) (n L x : ℕ) (F : List Edge) (left par : ℕ → ℕ) (k : Kept U n L x F left par) (c : ℕ) (cn : c < n)
    (left' par' : ℕ → ℕ) (same_left : (d : ℕ) → (d ≡ c → ⊥) → left' d ≡ left d) (same_par : (d : ℕ) → (d ≡ c → ⊥) → par' d ≡ par d)
    (here : left' c ≡ x) (new : (par' c ≡ no_row → ⊥) → (par' c ≡ par c → ⊥) × Behind x (left c) (par c)) where
  -- the run that begins at x could not begin before
  fresh : (par' c ≡ no_row → ⊥) → (y : ℕ) → suc y ≡ x → code (U y c) ≡ par' c → ⊥
  fresh v y q e = ⊎_elim
      (λ (l : left c < x). (new v).0 (sym e ∙ (k.run c cn).same y (omega arith) (omega arith)))
      (λ (z : (x ≡ 0) × (par c ≡ no_row)). let w : x ≡ 0 = z.0 in omega arith)
      (new v).1

  run_after : (d : ℕ) → d < n → Run U x d (left' d) (par' d)
  run_after d l = ⊎_elim
      (λ (q : d ≡ c). rw q (record {
        begun = omega (arith, here);
        same = λ y i j. absurd (omega (arith, here));
        early = λ v y z. fresh v y (z ∙ here);
      }))
      (λ (q : d ≡ c → ⊥). rw (same_left d q, same_par d q) (k.run d l))
      (eq? d c)

  finished_after : (e : Edge) → Finished U n L left e → Finished U n L left' e
  finished_after e f = record {
    parent_row = f.parent_row;
    child_row-is = f.child_row-is;
    whole = f.whole;
    ended = ⊎_elim
        (λ (q : e.child ≡ c). let r : left' e.child ≡ x = ap left' q ∙ here in omega (arith, f.ended, (k.run e.child f.child_row-is).begun))
        (λ (q : e.child ≡ c → ⊥). omega (arith, f.ended, same_left e.child q))
        (eq? e.child c);
  }

  -- what holds of another row's cover still does
  covered : (y d p : ℕ) → (d ≡ c → ⊥) → Any (Cov y d p) F ⊎ (left d ≤ y) → Any (Cov y d p) F ⊎ (left' d ≤ y)
  covered y d p q (inl a) = inl a
  covered y d p q (inr l) = inr (omega (arith, same_left d q))

  -- a run of none is left, and nothing is finished
  pub opened : par c ≡ no_row → Kept U n L x F left' par'
  opened z = record {
    inside = k.inside;
    named = k.named;
    run = run_after;
    edges = all_to finished_after k.edges;
    in_turn = k.in_turn;
    covers = λ y d p a l e. ⊎_elim
        (λ (q : d ≡ c). ⊎_elim
        (λ (u : Any (Cov y d p) F). inl u)
        (λ (u : left d ≤ y). absurd (k.named y d p l e (sym (code_some e) ∙ (k.run d l).same y u a ∙ ap par q ∙ z)))
        (k.covers y d p a l e))
        (λ (q : d ≡ c → ⊥). covered y d p q (k.covers y d p a l e))
        (eq? d c);
  }

  -- a run of a parent is finished: the edge from its beginning to x
  module _ (some_par : par c ≡ no_row → ⊥) (par_row : par c < n) (wide : left c < x) (over : x < L → code (U x c) ≡ par c → ⊥) where
    abbrev pub ending : Edge
    ending = record { left = left c; right = x; parent = par c; child = c }

    ending_whole : Longest L (λ y. is (U y c) (par c)) ending
    ending_whole = record {
      wide = wide;
      inside = k.inside;
      holds = λ y i j. is_code (U y c) (par c) some_par ((k.run c cn).same y i j);
      begins = λ y q. not_code (U y c) (par c) ((k.run c cn).early some_par y q);
      ends = λ l. not_code (U x c) (par c) (over l);
    }

    ending_finished : Finished U n L left' ending
    ending_finished = record { parent_row = par_row; child_row-is = cn; whole = ending_whole; ended = omega (arith, here) }

    -- an edge finished before ends where or before the run begins
    ending_follows : (d : Edge) → Finished U n L left d → Follows d ending
    ending_follows d f p = let r : left d.child ≡ left c = ap left p in omega (arith, f.ended, f.whole.wide)

    pub turned : Kept U n L x (F ++ ending ∷ []) left' par'
    turned = record {
      inside = k.inside;
      named = k.named;
      run = run_after;
      edges = all_app (all_to finished_after k.edges) (also ending_finished done);
      in_turn = in_turn_snoc F ending k.in_turn (all_to ending_follows k.edges);
      covers = λ y d p a l e. ⊎_elim
          (λ (q : d ≡ c). ⊎_elim
          (λ (u : Any (Cov y d p) F). inl (any_left (ending ∷ []) u))
          (λ (u : left d ≤ y). inl (any_right F (now (record {
            of_child = sym q;
            begun = rw q at u;
            not_over = a;
            to_parent = sym (ap par q) ∙ sym ((k.run d l).same y u a) ∙ code_some e;
          }))))
          (k.covers y d p a l e))
          (λ (q : d ≡ c → ⊥). ⊎_elim (λ (u : Any (Cov y d p) F). inl (any_left (ending ∷ []) u)) (λ (u : left' d ≤ y). inr u) (covered y d p q (k.covers y d p a l e)))
          (eq? d c);
    }
