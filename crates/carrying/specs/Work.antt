-- What is filled in once for a call, and what is kept from site to site.
use Rattle.std.specs.Prelude.{List, ℕ, ◌<◌, ◌≤◌, length}
use Rattle.meaning.specs.Words.{at}
use Rattle.meaning.specs.Rows.{Tables}
use Rattle.ancestry.specs.Index.{Ends}
use Rattle.overtaking.specs.Known.{Known}
use Rattle.alleles.specs.Reading.{Readable}
use Rattle.carrying.specs.Spans.{Spans}
use Rattle.carrying.specs.Kids.{KidsKnown}

-- columns that are filled in once: the ends of each row's edges by child, and where the edges of a parent and the mutations of a site lie
pub record Index : Type 0 where
  pub ends : List ℕ
  pub edge_first : List ℕ
  pub edge_past : List ℕ
  pub mut_first : List ℕ
  pub mut_past : List ℕ

abbrev pub index_by : List ℕ → List ℕ → List ℕ → List ℕ → List ℕ → Index
index_by ends ef ep mf mp = record { ends = ends; edge_first = ef; edge_past = ep; mut_first = mf; mut_past = mp }

-- tables that the check passes, with these columns filled in
pub record Prepared (L : ℕ) (T : Tables) (by : List ℕ) (I : Index) : Type 0 where
  pub readable : Readable L T by
  pub site_row : (j : ℕ) → j < length T.muts.site → at T.muts.site j < length T.sites.position
  pub ends : Ends T.edges.child by I.ends
  pub ends_long : length T.nodes.time ≤ length I.ends
  pub edges : Spans T.edges.parent I.edge_first I.edge_past
  pub edge_first_long : length T.nodes.time ≤ length I.edge_first
  pub edge_past_long : length T.nodes.time ≤ length I.edge_past
  pub muts : Spans T.muts.site I.mut_first I.mut_past
  pub mut_first_long : length T.sites.position ≤ length I.mut_first
  pub mut_past_long : length T.sites.position ≤ length I.mut_past

-- columns that are kept from site to site: parents and how far they hold, children and how far that holds, the stamps of rows with a
-- mutation and of rows whose state is told, and these states
pub record Work : Type 0 where
  pub par : List ℕ
  pub until : List ℕ
  pub kid : List ℕ
  pub kid_until : List ℕ
  pub own : List ℕ
  pub told : List ℕ
  pub state : List ℕ

abbrev pub work_of : List ℕ → List ℕ → List ℕ → List ℕ → List ℕ → List ℕ → List ℕ → Work
work_of par until kid ku own told state = record { par = par; until = until; kid = kid; kid_until = ku; own = own; told = told; state = state }

-- each column has a cell for each of n rows
pub record Long (n : ℕ) (W : Work) : Type 0 where
  pub par : n ≤ length W.par
  pub kid : n ≤ length W.kid
  pub own : n ≤ length W.own
  pub told : n ≤ length W.told
  pub state : n ≤ length W.state

-- answers hold from x on, and no stamp is above t
pub record Kept (T : Tables) (x t : ℕ) (W : Work) : Type 0 where
  pub long : Long (length T.nodes.time) W
  pub known : Known T.edges x W.par W.until
  pub kids : KidsKnown T.edges x W.kid W.kid_until
  pub own : (v : ℕ) → at W.own v ≤ t
  pub told : (v : ℕ) → at W.told v ≤ t
