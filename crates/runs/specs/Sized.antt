-- What the functions ask and promise, for n rows however n is written.
use Rattle.std.specs.Prelude.{◌≡◌, List, ℕ, ◌<◌, length}
use Rattle.std.proofs.Common.{sym}
use Rattle.meaning.specs.Words.{at}
use Rattle.meaning.specs.Rows.{Edge}
use Rattle.meaning.specs.Forest.{Par}
use Rattle.bridge.specs.Parents.{code}
use Rattle.runs.specs.Runs.{Named, OpenRuns, Store, Room, Opened, Stored, Swept, Settled, Collected}
use Rattle.runs.specs.Promises.{Ready, Touched, ChangeSettled, Closed}

module _ (n : ℕ) (up : List ℕ) (O : OpenRuns) (D : Store) (long : n ≡ length up) where
  pub ready_of : Opened n O → Room n D → ((c : ℕ) → c < n → Named n (at up c)) → Ready up O D
  ready_of o r k = record { runs = rw long at o; room = rw long at r; rows = rw long at k }

  module _ (x : ℕ) (touched : List ℕ) (k : ℕ) (O' : OpenRuns) (D' : Store) (s : ChangeSettled x up touched k O D O' D') where
    pub opened_after : Opened n O'
    opened_after = rw long s.runs

    pub settled_after : (U : ℕ → Par) (L : ℕ) (F : List Edge) → Swept U n L x F (at O.left) (at O.par) → ((c : ℕ) → c < n → at up c ≡ code (U x c)) → Touched n up O.par k touched → Stored n F D → (F' : List Edge) × Settled U n L x F' (at O'.left) (at O'.par) × Stored n F' D'
    settled_after U L F a u t b = rw long (s.settles U L F (rw long at a) (rw long at u) (rw long at t) (rw long at b))

module _ (n : ℕ) (O : OpenRuns) (D D' : Store) (o : Opened n O) where
  pub opened_own : Opened (length O.par) O
  opened_own = rw (sym o.par_long) at o

  pub room_own : Room n D → Room (length O.par) D
  room_own r = rw (sym o.par_long) at r

  pub collected_after : (L : ℕ) → Closed L O D D' → (U : ℕ → Par) (F : List Edge) → Swept U n L L F (at O.left) (at O.par) → Stored n F D → (F' : List Edge) × Collected U n L F' × Stored n F' D'
  collected_after L s U F a b = rw (sym o.par_long) (s.closes U F (rw (sym o.par_long) at a) (rw (sym o.par_long) at b))
