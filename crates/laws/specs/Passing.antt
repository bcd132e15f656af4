-- A refusal that is handed on by `?` is the one that came.
use Rattle.std.specs.Prelude.{◌≡◌, Result, Err, IsErrAnd}
use Rattle.std.proofs.Common.{sym, ◌∙◌}
use Rattle.std.proofs.Math.Path.{ap}
use Rattle.std.proofs.lemmas.Result.{err_from_is_err_and}

pub passed_on : {A E : Type 0} {r : Result A E} {e : E} → IsErrAnd r (λ y. y ≡ e) → r ≡ Err e
passed_on {A} {E} {r} {e} h = let p : (y : E) × (r ≡ Err y) × (y ≡ e) = err_from_is_err_and r h in p.1 ∙ ap (λ (y : E). Err y) p.2
