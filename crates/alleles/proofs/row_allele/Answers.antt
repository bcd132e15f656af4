-- `alleles::row_allele` meets its contract: the columns of the site tell whether the fish is missing, and with the way up its state.
use mathlib.Core.Path.{refl, sym, ◌∙◌}
use Rattle.alleles.specs.ByRows.{naming, climbs, carried_allele, missing_row-is}
use Rattle.alleles.specs.Call.{reads_missing, reads_state}
use Rattle.alleles.proofs.row_allele.Goals as goal

pub marks_at-requires : goal.marks_at-requires
marks_at-requires c = let p : _ = c.requires in
    (naming _ _ _ p.0 _ 1024 p.1 p.0.few, refl)

pub is_missing-requires : goal.is_missing-requires
is_missing-requires c = let p : _ = c.requires in
    (climbs _ _ _ p.0 _ 1024 p.1 p.0.few _ _ c.marks_at.ensures.0 c.marks_at.ensures.1 _ c.fill_ends.auto.ends _ p.2).0

pub returns-then-is_missing : goal.returns-then-is_missing
returns-then-is_missing c = let p : _ = c.requires in
    reads_missing _ _ _ _ (sym (missing_row-is _ _ _ p.0 _ 1024 p.1 p.0.few _ _ c.marks_at.ensures.0 c.marks_at.ensures.1 _ p.2) ∙ sym c.is_missing.ensures ∙ c.if-is_missing.true)

pub carried-requires : goal.carried-requires
carried-requires c = let p : _ = c.requires in
    climbs _ _ _ p.0 _ 1024 p.1 p.0.few _ _ c.marks_at.ensures.0 c.marks_at.ensures.1 _ c.fill_ends.auto.ends _ p.2

pub returns : goal.returns
returns c = let p : _ = c.requires in
    reads_state _ _ _ _ _ (sym (missing_row-is _ _ _ p.0 _ 1024 p.1 p.0.few _ _ c.marks_at.ensures.0 c.marks_at.ensures.1 _ p.2) ∙ sym c.is_missing.ensures ∙ c.if-is_missing.false)
    (c.carried.ensures ∙ carried_allele _ _ _ p.0 _ 1024 p.1 p.0.few _ _ c.marks_at.ensures.0 c.marks_at.ensures.1 _ p.2)
