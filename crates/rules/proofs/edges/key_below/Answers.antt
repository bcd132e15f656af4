-- `key_below` meets its contract: the four numbers of each edge are its key, of two edges of one parent the first two are alike, and the first that differ decide.
use mathlib.Core.Path.{◌∙◌, sym, ap}
use Rattle.meaning.specs.Words.{at}
use Rattle.meaning.specs.Check.{key_of}
use Rattle.order.specs.Lex.{lex_same, lex_differ}
use Rattle.rules.proofs.Laws.{lex_two, lex_four}
use Rattle.rules.proofs.edges.key_below.Goals as goal

pub returns-then-p-q : goal.returns-then-p-q
unfolding key_of
returns-then-p-q c = c.lt.ensures ∙ lex_two _ _ _ _ ∙ sym (lex_same _ _ _ _ (ap (at c.args.ages.time.now) c.if-p-q.true) ∙ lex_same _ _ _ _ (ap (at c.args.ages.birth.now) c.if-p-q.true))

pub returns-then-ages-p : goal.returns-then-ages-p
unfolding key_of
returns-then-ages-p c = lex_differ _ _ _ _ c.if-ages-p.true

pub returns : goal.returns
unfolding key_of
returns c = c.lt-2.ensures ∙ lex_four _ _ _ _ _ _ _ _
