-- `listing::put::Page::number` ends: the number falls.
use Rattle.listing.proofs.put.Page.+number.Given as goal

abbrev pub decreases-number : goal.decreases-number
decreases-number l = l.n
