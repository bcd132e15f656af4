-- One group of rules after another.
use Rattle.std.specs.Prelude.{true, false}
use Rattle.meaning.specs.Answer.{Answer, accepted}

-- what comes after where an answer is 0, and else the answer
unfoldable pub after : Answer → Answer → Answer
unfolding accepted
after a rest = elim (accepted a) [ true ↦ rest | false ↦ a ]
