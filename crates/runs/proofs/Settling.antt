-- The open run of one row becomes that of x: left as it is, begun anew, or finished and begun anew.
use mathlib.Core.Path.{◌≡◌, refl, sym, ap, ◌∙◌}
use mathlib.Core.List.{List, [], ◌∷◌, ◌++◌}
use mathlib.Core.Logic.{◌⊎◌, inl, ⊎_elim}
use Prim.Native.Nat.{ℕ, ◌<◌}
use native.Mathlib.Omega.{arith}
use lib.ListN.{length, set, length-set}
use lib.Seq.{get_or-set_same, get_or-set_other}
use Rattle.meaning.specs.Words.{at}
use Rattle.meaning.specs.Rows.{Edge}
use Rattle.meaning.specs.Forest.{Par}
use Rattle.laws.specs.Bools.{eq?}
use Rattle.bridge.specs.Parents.{no_row, code}
use Rattle.runs.specs.Runs.{OpenRuns, Store, Room, Opened, Behind, Settling}
use Rattle.runs.specs.Onward.{onward_none}
use Rattle.runs.specs.Promises.{Pushed, Ready, RowSettled}
use Rattle.runs.proofs.Turning.{opened, turned}

-- what storing the finished edge asks
pub push_ready : (c : ℕ) (up : List ℕ) (O : OpenRuns) (D : Store) → Ready up O D → c < length up → (at O.par c ≡ no_row → ⊥) → (p : ℕ) → p ≡ at O.par c → Room (length D.stood) D × (p < length D.stood)
push_ready c up O D ready cn v p e = (
  record {
    right_long = ready.room.right_long;
    parent_long = ready.room.parent_long;
    child_long = ready.room.child_long;
    stood_long = refl;
  },
  omega (arith, ready.runs.rows c cn v, ready.room.stood_long),
)

module _ (x c : ℕ) (up : List ℕ) (O : OpenRuns) (D : Store) (ready : Ready up O D) (cn : c < length up) where
  -- the open run is that of x already
  pub row_same : at O.par c ≡ at up c → RowSettled x c up O D O D
  row_same e = record {
    runs = ready.runs;
    here = e;
    others = λ d q. refl;
    onward = onward_none D;
    settles = λ U L F s u t. (F, s, t);
  }

  module _ (new : at O.par c ≡ at up c → ⊥) where
    abbrev pub renewed : OpenRuns
    renewed = record { left = set O.left c x; par = set O.par c (at up c) }

    here_left : at (set O.left c x) c ≡ x
    here_left = get_or-set_same O.left c x 0 (omega (arith, ready.runs.left_long))

    here_par : at (set O.par c (at up c)) c ≡ at up c
    here_par = get_or-set_same O.par c (at up c) 0 (omega (arith, ready.runs.par_long))

    other_left : (d : ℕ) → (d ≡ c → ⊥) → at (set O.left c x) d ≡ at O.left d
    other_left d q = get_or-set_other O.left c d x 0 q

    other_par : (d : ℕ) → (d ≡ c → ⊥) → at (set O.par c (at up c)) d ≡ at O.par d
    other_par d q = get_or-set_other O.par c d (at up c) 0 q

    renewed_opened : Opened (length up) renewed
    renewed_opened = record {
      left_long = length-set O.left c x ∙ ready.runs.left_long;
      par_long = length-set O.par c (at up c) ∙ ready.runs.par_long;
      rows = λ d l. ⊎_elim
          (λ (q : d ≡ c). rw (q, here_par) (ready.rows c cn))
          (λ (q : d ≡ c → ⊥). rw (other_par d q) (ready.runs.rows d l))
          (eq? d c);
    }

    module _ (U : ℕ → Par) (L : ℕ) (F : List Edge) (s : Settling U (length up) L x F (at O.left) (at O.par)) (u : at up c ≡ code (U x c)) where
      -- the run that is left has a position behind it, or nothing was begun yet
      behind : Behind x (at O.left c) (at O.par c)
      behind = ⊎_elim
          (λ (q : at O.par c ≡ code (U x c)). absurd (new (q ∙ sym u)))
          (λ (q : Behind x (at O.left c) (at O.par c)). q)
          (s.either c cn)

      either_after : (d : ℕ) → d < length up → (at renewed.par d ≡ code (U x d)) ⊎ Behind x (at renewed.left d) (at renewed.par d)
      either_after d l = ⊎_elim
          (λ (q : d ≡ c). inl (ap (at renewed.par) q ∙ here_par ∙ u ∙ ap (λ w. code (U x w)) (sym q)))
          (λ (q : d ≡ c → ⊥). rw (other_left d q, other_par d q) (s.either d l))
          (eq? d c)

      newly : (at renewed.par c ≡ no_row → ⊥) → (at renewed.par c ≡ at O.par c → ⊥) × Behind x (at O.left c) (at O.par c)
      newly v = (λ q. new (sym q ∙ here_par), behind)

      kept_opened : at O.par c ≡ no_row → Settling U (length up) L x F (at renewed.left) (at renewed.par)
      kept_opened z = record {
        kept = opened U (length up) L x F (at O.left) (at O.par) s.kept c cn (at renewed.left) (at renewed.par) other_left other_par here_left newly z;
        either = either_after;
      }

      kept_turned : (at O.par c ≡ no_row → ⊥) → Settling U (length up) L x (F ++ record { left = at O.left c; right = x; parent = at O.par c; child = c } ∷ []) (at renewed.left) (at renewed.par)
      kept_turned v = record {
        kept = turned U (length up) L x F (at O.left) (at O.par) s.kept c cn (at renewed.left) (at renewed.par) other_left other_par here_left newly v (ready.runs.rows c cn v)
            (⊎_elim (λ (l : at O.left c < x). l) (λ (z : (x ≡ 0) × (at O.par c ≡ no_row)). absurd (v z.1)) behind)
            (λ l q. new (sym q ∙ sym u));
        either = either_after;
      }

    -- a run of none is left
    pub row_opened : at O.par c ≡ no_row → RowSettled x c up O D renewed D
    row_opened z = record {
      runs = renewed_opened;
      here = here_par;
      others = other_par;
      onward = onward_none D;
      settles = λ U L F s u t. (F, kept_opened U L F s u z, t);
    }

    -- a run of a parent is finished
    pub row_turned : (at O.par c ≡ no_row → ⊥) → (e : Edge) → e ≡ record { left = at O.left c; right = x; parent = at O.par c; child = c } → (D' : Store) → Pushed e D D' → RowSettled x c up O D renewed D'
    row_turned v e q D' p = record {
      runs = renewed_opened;
      here = here_par;
      others = other_par;
      onward = p.onward;
      settles = λ U L F s u t. (F ++ e ∷ [], rw q (kept_turned U L F s u v), p.one_more (length up) F t);
    }
