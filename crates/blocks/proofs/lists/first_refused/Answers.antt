-- `lists::first_refused` meets its contract: cell by cell of the first fish, then fish by fish.
use mathlib.Core.Path.{◌∙◌, sym}
use native.Mathlib.Omega.{arith}
use borrow.Author.Rules.{rules}
use Rattle.laws.specs.Bools.{not_of}
use Rattle.blocks.specs.Lists.{at_first_site, at_first_fish}
use Rattle.blocks.proofs.Searching.{some_site_missing, some_fish_unknown, all_there}
use Rattle.blocks.proofs.lists.first_refused.Goals as goal

pub overflow_cast-sites : goal.overflow_cast-sites
overflow_cast-sites c = omega (arith, c.type_inv.sites 0)

pub returns-then-most-sites : goal.returns-then-most-sites
returns-then-most-sites c = at_first_site _ _ _ _ c.requires.1 c.requires.2 c.if-most-sites.true

pub is_unknown-requires : goal.is_unknown-requires
is_unknown-requires c = c.requires.0

pub returns-then-is_unknown : goal.returns-then-is_unknown
returns-then-is_unknown c = at_first_fish _ _ _ _ c.requires.1 c.requires.2 c.if-most-sites.false (not_of _ (sym c.is_unknown.ensures ∙ c.if-is_unknown.true))

pub returns-then-site_missing : goal.returns-then-site_missing
returns-then-site_missing c = some_site_missing _ _ _ _ c.requires.2 (sym c.is_unknown.ensures ∙ c.if-is_unknown.false) (sym c.some_no_site-site_missing.ensures ∙ c.if-site_missing.true)

pub some_unknown-fish_unknown-requires : goal.some_unknown-fish_unknown-requires
some_unknown-fish_unknown-requires c = c.requires.0

pub returns-then-fish_unknown : goal.returns-then-fish_unknown
returns-then-fish_unknown c = some_fish_unknown _ _ _ _ c.requires.1 (sym c.some_no_site-site_missing.ensures ∙ c.if-site_missing.false) (sym c.some_unknown-fish_unknown.ensures ∙ c.if-fish_unknown.true)

pub returns : goal.returns
returns c = all_there _ _ _ _ (sym c.some_no_site-site_missing.ensures ∙ search rules) (sym c.some_unknown-fish_unknown.ensures ∙ c.if-fish_unknown.false)
