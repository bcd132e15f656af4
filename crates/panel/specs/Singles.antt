-- M-100 cell by cell: after 0, the bytes of fish a and site c are those of the single call, at a times the number of sites plus c.
use Rattle.std.specs.Prelude.{◌≡◌, List, ℕ, ◌+◌, ◌*◌, ◌<◌, length, get_or, drop}
use Rattle.std.proofs.Common.{◌∙◌, arith}
use Rattle.std.proofs.Math.Path.{ap}
use Rattle.std.proofs.lemmas.List.{length-map}
use Rattle.std.proofs.Math.ListN.{get_or-append}
use Rattle.meaning.specs.Words.{at}
use Rattle.meaning.specs.Rows.{Tables}
use Rattle.meaning.specs.Answer.{Answer, Limits, Stated, done, absent, put}
use Rattle.meaning.specs.Allele.{allele}
use Rattle.meaning.specs.Panel.{PanelOutcome, singles, state_bytes, flag_bytes, flag, panel_answer, panel_end, panel}
use Rattle.blocks.specs.Block.{row_below, get_map, length_cells, cell_there}
use Rattle.panel.specs.Whole.{end_done}

-- cells of a result stand at its front
front : (new old : List ℕ) (p : ℕ) → p < length new → at (put new old) p ≡ at new p
unfolding put
front new old p l = get_or-append new (drop (length new) old) 0 p l

module _ (m : Limits) (L : ℕ) (T : Tables) (sites fish states flags : List ℕ) (ok : panel_answer m L T sites fish states flags ≡ done) where
  abbrev cells : List Stated
  cells = singles m L T sites fish

  outcome : panel m L T sites fish states flags ≡ panel_end done cells states flags
  unfolding panel
  outcome = ap (λ (a : Answer). panel_end a cells states flags) ok

  module _ (a c : ℕ) (h : a < length fish) (k : c < length sites) where
    abbrev place : ℕ
    place = a * length sites + c

    inside : place < length cells
    unfolding singles
    inside = omega (arith, length_cells (allele m L T) sites fish, row_below (length sites) a (length fish) h)

    single : get_or cells place absent ≡ allele m L T (at sites c) (at fish a)
    unfolding singles
    single = cell_there (allele m L T) sites absent fish a c h k

    pub state_of_single : at (panel m L T sites fish states flags).states place ≡ (allele m L T (at sites c) (at fish a)).state
    state_of_single =
        ap (λ (o : PanelOutcome). at o.states place) (outcome ∙ end_done cells states flags)
        ∙ front (state_bytes cells) states place (omega (arith, inside, length-map cells (λ (s : Stated). s.state)))
        ∙ get_map (λ (s : Stated). s.state) 0 absent cells place inside
        ∙ ap (λ (s : Stated). s.state) single

    pub flag_of_single : at (panel m L T sites fish states flags).flags place ≡ flag (allele m L T (at sites c) (at fish a)).missing
    flag_of_single =
        ap (λ (o : PanelOutcome). at o.flags place) (outcome ∙ end_done cells states flags)
        ∙ front (flag_bytes cells) flags place (omega (arith, inside, length-map cells (λ (s : Stated). flag s.missing)))
        ∙ get_map (λ (s : Stated). flag s.missing) 0 absent cells place inside
        ∙ ap (λ (s : Stated). flag s.missing) single
