-- A join that is not refused: its tables pass the check, and have the rows of base and batch and no others; the batch with no rows changes nothing.
use Rattle.std.specs.Prelude.{◌≡◌, Bool, true, List, [], ◌++◌, ℕ, ◌+◌, ◌≤◌, length}
use Rattle.std.proofs.Math.Path.{refl}
use Rattle.std.proofs.Common.{ap, ◌∙◌}
use Rattle.meaning.specs.Words.{mem, at, rows, sort}
use Rattle.meaning.specs.Rows.{Tables, Node, Edge, Mutation, Record, nodes_of, edges_of, muts_of, record_of, tables_of}
use Rattle.meaning.specs.Answer.{Limits, done}
use Rattle.meaning.specs.Check.{check}
use Rattle.meaning.specs.Join.{BatchTables, Batch, batch_of, keyed, join, joined, join_answer}
use Rattle.laws.specs.Members.{at_mem}
use Rattle.laws.specs.Facts.{In, Distinct}
use Rattle.history.specs.Lists.{append_nil}
use Rattle.history.specs.Same.{record_eq}
use Rattle.history.specs.Tidy.{nothing}
use Rattle.history.specs.RowForm.{there_back}
use Rattle.accepted.specs.Refusals.{Accepted}
use Rattle.accepted.specs.Checked.{Sound, Sized}
use Rattle.accepted.specs.Calls.{JoinsUp, join_tells, check_done}
use Rattle.results.specs.Pairwise.{of_pairs, sort_ordered}
use Rattle.results.specs.Facts.{RecordSound, record_sound_of}
use Rattle.results.specs.Tabled.{apart_of, tabled_sound}
use Rattle.results.specs.Batched.{BatchFacts, batch_facts_of}
use Rattle.results.specs.Joined.{join_record_closed, join_record_sound}
use Rattle.results.specs.Rows.{often, often_app, often_sort, often_by_site, by_site_same}
use Rattle.results.specs.Back.{back_again}

-- a row is in a joined record as often as in base and batch together: so it is for every test of rows, and so for the test of being one row
pub record Together (R : Record) (B : Batch) (X : Record) : Type 0 where
  pub nodes : (f : Node → Bool) → often f X.nodes ≡ often f R.nodes + often f B.nodes
  pub edges : (f : Edge → Bool) → often f X.edges ≡ often f R.edges + often f B.edges
  pub muts : (f : Mutation → Bool) → often f X.muts ≡ often f R.muts + often f B.muts
  pub sites : X.sites ≡ R.sites

module _ (m : Limits) (L : ℕ) (T : Tables) (B : BatchTables) (out : Tables) (cells : ℕ) (accept : Accepted (join_answer m L T B out cells)) where
  told : JoinsUp m L T B out cells
  told = join_tells m L T B out cells accept

  facts : RecordSound L (record_of L T)
  facts = record_sound_of m L T told.sound

  batch_facts : BatchFacts L (record_of L T) (batch_of B)
  batch_facts = batch_facts_of m L T B told.sound told.batch

  same_length : (join (record_of L T) (batch_of B)).len ≡ L
  unfolding join record_of
  same_length = refl

  -- the joined tables mean the joined record
  pub joined_means : record_of L (joined L T B) ≡ join (record_of L T) (batch_of B)
  unfolding joined
  joined_means = there_back L (join (record_of L T) (batch_of B)) same_length (join_record_closed L (record_of L T) (batch_of B) facts batch_facts)

  size : Sized m (joined L T B)
  size = record { nodes = told.fits.nodes.few; edges = told.fits.edges.few; sites = told.fits.sites.few; muts = told.fits.muts.few }

  -- the checks 1 to 10 find nothing in the joined tables
  pub joined_sound : Sound m L (joined L T B)
  unfolding joined
  joined_sound = tabled_sound L (join (record_of L T) (batch_of B)) (join_record_sound L (record_of L T) (batch_of B) facts batch_facts) m size told.sound.len

  -- "a join's result passes the check"
  pub joined_passes : (S : List ℕ) → length S ≤ m.samples → Distinct S → ((b : ℕ) → In S b → mem b (joined L T B).nodes.birth ≡ true) → check m L (joined L T B) S ≡ done
  joined_passes S few once known = check_done m L (joined L T B) S
      (record { sound = joined_sound; listed = record { few = few; known = λ i l. known (at S i) (at_mem S i l); once = apart_of S once } })

  join_together : Together (record_of L T) (batch_of B) (join (record_of L T) (batch_of B))
  unfolding join
  join_together = record {
    nodes = λ f. often_app f (record_of L T).nodes (batch_of B).nodes;
    edges = λ f.
        often_sort f (keyed ((record_of L T).nodes ++ (batch_of B).nodes)) ((record_of L T).edges ++ (batch_of B).edges)
        ∙ often_app f (record_of L T).edges (batch_of B).edges;
    muts = λ f. often_by_site f (record_of L T).muts (batch_of B).muts (length (record_of L T).sites) facts.site_row batch_facts.site_row;
    sites = refl;
  }

  -- "the record's rows with the batch's, and no others"
  pub joined_rows : Together (record_of L T) (batch_of B) (record_of L (joined L T B))
  joined_rows = rw joined_means join_together

-- ---- the batch with no rows

pub join_nothing : (L : ℕ) (R : Record) → RecordSound L R → join R nothing ≡ R
unfolding join
join_nothing L R s = record_eq (join R nothing) R refl
    (append_nil R.nodes)
    (ap (λ (N : List Node). sort (keyed N) (R.edges ++ [])) (append_nil R.nodes) ∙ ap (sort (keyed R.nodes)) (append_nil R.edges) ∙ sort_ordered (keyed R.nodes) R.edges s.ordered)
    refl
    (by_site_same R.muts (length R.sites) (of_pairs s.rising) s.site_row)

-- its columns
abbrev pub no_rows : BatchTables
no_rows = record { nodes = record { time = []; birth = []; population = [] }; edges = record { left = []; right = []; parent = []; child = [] }; muts = record { site = []; node = []; derived = [] } }

no_rows_mean : batch_of no_rows ≡ nothing
unfolding batch_of nodes_of edges_of muts_of rows
no_rows_mean = refl

-- joined to tables that pass the check, it gives them back
pub joined_nothing : (m : Limits) (L : ℕ) (T : Tables) → Sound m L T → joined L T no_rows ≡ T
unfolding joined
joined_nothing m L T s =
    ap (λ (B : Batch). tables_of (join (record_of L T) B)) no_rows_mean
    ∙ ap tables_of (join_nothing L (record_of L T) (record_sound_of m L T s))
    ∙ back_again m L T s
