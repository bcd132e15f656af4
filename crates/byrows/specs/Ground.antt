-- What the checks found, for rows: the forest of rows is the forest of births, and so is all that cleaning says of it.
use Rattle.std.specs.Prelude.{◌≡◌, Bool, true, false, List, [], ◌∷◌, ◌++◌, map, ◌⊎◌, ℕ, zero, suc, ◌<◌, ◌≤◌, length}
use Rattle.std.proofs.Math.Path.{refl, sym, ap, ap₂}
use Rattle.std.proofs.Common.{◌∙◌, inl, inr, ⊎_elim, arith}
use Rattle.std.proofs.Math.Option.{Option, none, some}
use Rattle.meaning.specs.Words.{at, mem, rows, index_of}
use Rattle.meaning.specs.Rows.{NodeColumns, EdgeColumns, Tables, Edge, Record, births, node_at, nodes_of, edges_of, record_of, node_of, time_of}
use Rattle.meaning.specs.Forest.{Par, Ages, parent_in, reached, stands, low, drawn}
use Rattle.meaning.specs.Answer.{Limits}
use Rattle.meaning.specs.Clean.{stands_at, forest_at, low_at}
use Rattle.laws.specs.Bools.{clash}
use Rattle.laws.specs.Counting.{length_rows, rows_at, map_rows}
use Rattle.laws.specs.Members.{mem_here, mem_there, mem_cases, mem_nil, at_mem, index_at, index_below}
use Rattle.laws.specs.Facts.{In, Distinct, All, done, also, CleanOk}
use Rattle.bridge.specs.Parents.{parent_row}
use Rattle.accepted.specs.Checked.{Sound, Listed, Apart}
use Rattle.accepted.specs.Columns.{all_rows-is, distinct_of, same_row, births_of, node_of-is, time_of-is}
use Rattle.accepted.specs.Records.{Young, clean_ok_of}
use Rattle.bridge.specs.Rename.{map_option, Renamed}
use Rattle.bridge.specs.Columns.{Within, renamed}
use Rattle.byrows.specs.Named.{reached_names, stands_names, drawn_names, low_names, low_within}
use Rattle.byrows.specs.Rows.{all_rows, sample_rows, reached_row, stands_row, up_row, low_row}

-- every member of a list of numbers passes
pub all_mem : {Q : ℕ → Type 0} (l : List ℕ) → ((b : ℕ) → mem b l ≡ true → Q b) → All Q l
all_mem [] h = done
all_mem (a ∷ l) h = also (h a (mem_here a a l refl)) (all_mem l (λ b m. h b (mem_there b a l m)))

pub mem_all : {Q : ℕ → Type 0} (l : List ℕ) → All Q l → (b : ℕ) → mem b l ≡ true → Q b
mem_all [] done b m = absurd (mem_nil b m)
mem_all (a ∷ l) (also q x) b m = ⊎_elim (λ (e : b ≡ a). rw e q) (λ (k : mem b l ≡ true). mem_all l x b k) (mem_cases b a l m)

-- tables that pass the check, with a list of samples that does
pub record Ground (m : Limits) (L : ℕ) (T : Tables) (S : List ℕ) : Type 0 where
  pub sound : Sound m L T
  pub listed : Listed m T.nodes.birth S
  pub young : Young T.nodes

module _ (m : Limits) (L : ℕ) (T : Tables) (S : List ℕ) (g : Ground m L T S) where
  abbrev pub birth : List ℕ
  birth = T.nodes.birth

  abbrev pub E : EdgeColumns
  E = T.edges

  -- the number of nodes
  abbrev pub n : ℕ
  n = length T.nodes.birth

  abbrev pub R : Record
  R = record_of L T

  -- the samples' rows
  abbrev pub SR : List ℕ
  SR = sample_rows T.nodes.birth S

  pub clean_ok : CleanOk R S
  clean_ok = clean_ok_of m L T g.sound S g.listed g.young

  pub once : (i j : ℕ) → i < n → j < n → at birth i ≡ at birth j → i ≡ j
  once = same_row birth g.sound.tree.once

  pub within : Within n E
  within = record {
    parent_row = λ e l. omega (arith, (g.sound.tree.edge e l).parent_row, g.sound.shape.births);
    child_row-is = λ e l. omega (arith, (g.sound.tree.edge e l).child_row-is, g.sound.shape.births);
  }

  pub births_are : births R.nodes ≡ birth
  unfolding record_of
  births_are = births_of T.nodes g.sound.shape.births

  -- births are the rows' names
  pub names : map (at birth) (all_rows n) ≡ birth
  unfolding all_rows
  names = map_rows (at birth) (λ i. i) n ∙ rows_at birth

  pub rows_inside : All (λ v. v < n) (all_rows n)
  unfolding all_rows
  rows_inside = all_rows-is (λ v. v < n) (λ i. i) n (λ j l. l)

  named_list : (l : List ℕ) → ((b : ℕ) → mem b l ≡ true → mem b birth ≡ true) → map (at birth) (map (λ b. index_of b birth) l) ≡ l
  named_list [] h = refl
  named_list (a ∷ l) h = ap₂ ◌∷◌ (index_at a birth (h a (mem_here a a l refl))) (named_list l (λ b k. h b (mem_there b a l k)))

  known : (b : ℕ) → mem b S ≡ true → mem b birth ≡ true
  known b h = rw (index_at b S h) at (g.listed.known (index_of b S) (index_below b S h))

  -- samples are their rows' names
  pub sample_names : map (at birth) SR ≡ S
  unfolding sample_rows
  sample_names = named_list S known

  index_inside : (l : List ℕ) → ((b : ℕ) → mem b l ≡ true → mem b birth ≡ true) → All (λ v. v < n) (map (λ b. index_of b birth) l)
  index_inside [] h = done
  index_inside (a ∷ l) h = also (index_below a birth (h a (mem_here a a l refl))) (index_inside l (λ b k. h b (mem_there b a l k)))

  pub samples_inside : All (λ v. v < n) SR
  unfolding sample_rows
  samples_inside = index_inside S known

  -- a fish of the record is the name of its row
  pub row_name : (b : ℕ) → mem b (births R.nodes) ≡ true → (u : ℕ) × (u < n) × (at birth u ≡ b)
  row_name b h = let k : mem b birth ≡ true = ap (mem b) (sym births_are) ∙ h in (index_of b birth, index_below b birth k, index_at b birth k)

  pub row_fish : (u : ℕ) → u < n → mem (at birth u) (births R.nodes) ≡ true
  row_fish u l = ap (mem (at birth u)) births_are ∙ at_mem birth u l

  -- the node of a row's fish is the row's
  pub row_node : (u : ℕ) → u < n → node_of R.nodes (at birth u) ≡ node_at T.nodes u
  unfolding record_of
  row_node u l = node_of-is T.nodes g.sound.shape.births g.sound.tree.once u (omega (arith, g.sound.shape.births))

  -- the time of a row's fish is the row's
  pub row_time : (u : ℕ) → u < n → time_of R.nodes (at birth u) ≡ at T.nodes.time u
  unfolding record_of
  row_time u l = time_of-is T.nodes g.sound.shape.births g.sound.tree.once u (omega (arith, g.sound.shape.births))

  module _ (x : ℕ) where
    abbrev P' : Par
    P' = parent_in R.edges x

    ren : Renamed n (at birth) (parent_row E x) P'
    unfolding parent_row record_of
    ren = renamed birth E once within x

    reached_row-is : (u : ℕ) → u < n → reached P' S (at birth u) ≡ reached_row E SR x u
    unfolding reached_row
    reached_row-is u l = ap (λ z. reached P' z (at birth u)) (sym sample_names) ∙ reached_names n (at birth) (parent_row E x) P' ren SR samples_inside u l

    pub stands_row-is : (u : ℕ) → u < n → stands_at stands R S x (at birth u) ≡ stands_row E n SR x u
    unfolding stands_at stands_row
    stands_row-is u l =
        ap₂ (λ z w. stands z P' w (at birth u)) (births_are ∙ sym names) (sym sample_names)
        ∙ stands_names n (at birth) (parent_row E x) P' ren SR samples_inside (all_rows n) rows_inside u l

    -- the cleaned forest by births, written out
    pub birth_forest : (b : ℕ) → drawn P' (stands (births R.nodes) P' S) b ≡ forest_at stands R S x b
    unfolding forest_at stands_at
    birth_forest b = refl

    -- the output parent by births is the name of the output parent by rows
    pub up_row-is : (u : ℕ) → u < n → forest_at stands R S x (at birth u) ≡ map_option (at birth) (up_row E n SR x u)
    unfolding forest_at up_row
    up_row-is u l = drawn_names n (at birth) (parent_row E x) P' ren (stands_row E n SR x) (stands_at stands R S x) stands_row-is u l

    pub low_row-is : (u : ℕ) → u < n → low_at stands R S x (at birth u) ≡ map_option (at birth) (low_row E n SR x u)
    unfolding low_at low_row
    low_row-is u l =
        ap (λ z. low z P' (reached P' S) (stands_at stands R S x) Ages (at birth u)) (births_are ∙ sym names)
        ∙ low_names n (at birth) (parent_row E x) P' ren (stands_row E n SR x) (stands_at stands R S x) stands_row-is (reached_row E SR x) (reached P' S) reached_row-is (all_rows n) rows_inside Ages u l

    -- where the mutations of a row go is a row
    pub low_inside : (u w : ℕ) → u < n → low_row E n SR x u ≡ some w → w < n
    unfolding low_row
    low_inside u w l h = low_within n (parent_row E x) (reached_row E SR x) (stands_row E n SR x) (all_rows n) rows_inside Ages u w l h
