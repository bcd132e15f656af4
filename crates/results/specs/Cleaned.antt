-- A cleaned record has again what the checks 3 to 10 found of the record.
use Rattle.std.specs.Prelude.{◌≡◌, true, ℕ, ◌<◌}
use Rattle.std.proofs.Math.Path.{refl, ap, ap₂}
use Rattle.std.proofs.Common.{subst, ◌∙◌, arith}
use mathlib.Core.List.{List, [], ◌∷◌}
use Rattle.std.proofs.Math.Option.{Option, none, some}
use Rattle.std.proofs.Math.ListN.{length}
use Rattle.meaning.specs.Words.{mem, lex}
use Rattle.meaning.specs.Rows.{Edge, Mutation, Record, time_of, pos_of, edge_key}
use Rattle.meaning.specs.Forest.{Par, Rules, is, drawn}
use Rattle.meaning.specs.Clean.{moved, stands_at, forest_at, low_at, kept, clean}
use Rattle.meaning.specs.Join.{keyed}
use Rattle.laws.specs.Bools.{clash, some_inj}
use Rattle.laws.specs.Facts.{All, done, also, CleanOk}
use Rattle.forest.specs.Contract.{contract_ranked}
use Rattle.forest.specs.Profile.{Profile}
use Rattle.history.specs.Order.{lex_irrefl}
use Rattle.history.specs.Lists.{all_to, all_both}
use Rattle.history.specs.Nodes.{time_same}
use Rattle.history.specs.Encode.{edges_among}
use Rattle.history.specs.Kept.{kept_distinct}
use Rattle.history.specs.Pairs.{Pairs, pairs_moved}
use Rattle.history.specs.Cleaned.{T, K, good_aged, drawn_at, clean_row, clean_closed, clean_good}
use Rattle.history.specs.Alleles.{clean_settled}
use Rattle.encoding.specs.Runs.{Longest, left_not_after}
use Rattle.encoding.specs.Edges.{by_key, Whole, is_of, edges_ascending, edges_whole}
use Rattle.results.specs.Pairwise.{Pairwise, of_ascending, pairwise_with}
use Rattle.results.specs.Facts.{Right, Parted, Rises, RecordSound}

-- what holds of a mutation's site holds after it moved
moved_all : (Q : ℕ → Type 0) (pos : ℕ → ℕ) (G : ℕ → ℕ → Option ℕ) (l : List Mutation) → All (λ (m : Mutation). Q m.site) l → All (λ (m : Mutation). Q m.site) (moved pos G l)
unfolding moved
moved_all Q pos G [] done = done
moved_all Q pos G (m ∷ l) (also q x) = go (G (pos m.site) m.node) refl (moved_all Q pos G l x)
  where
    go : (o : Option ℕ) → G (pos m.site) m.node ≡ o → All (λ (m : Mutation). Q m.site) (moved pos G l) → All (λ (m : Mutation). Q m.site) (moved pos G (m ∷ l))
    go none e ih = rw (e, moved) ih
    go (some w) e ih = rw (e, moved) (also q ih)

-- two whole edges of one child that share a position begin together, and are of one parent
module _ (L : ℕ) (time : ℕ → ℕ) (D : ℕ → Par) where
  whole_parted : (d e : Edge) → Whole L time D d → Whole L time D e → by_key L time D d e ≡ true → Parted d e
  whole_parted d e p q h x c dl dr el er = clash h (rw keys (lex_irrefl (edge_key time e)))
    where
      parents : d.parent ≡ e.parent
      parents = some_inj (is_of (D x d.child) d.parent (p.holds x dl dr)) (ap (D x) c ∙ is_of (D x e.child) e.parent (q.holds x el er))

      as_e : Longest L (λ x. is (D x e.child) e.parent) d
      as_e = subst (λ (b : ℕ). Longest L (λ x. is (D x b) e.parent) d) c (subst (λ (b : ℕ). Longest L (λ x. is (D x d.child) b) d) parents p)

      apart : (a b : ℕ) → (a < b → ⊥) → (b < a → ⊥) → a ≡ b
      apart a b l m = omega arith

      lefts : d.left ≡ e.left
      lefts = apart d.left e.left (left_not_after x as_e q dl dr el er) (left_not_after x q as_e el er dl dr)

      keys : edge_key time d ≡ edge_key time e
      keys = unfold edge_key in λ i. time (parents i) ∷ parents i ∷ c i ∷ lefts i ∷ []

module _ (rule : Rules) (pr : Profile rule) (L : ℕ) (R : Record) (s : RecordSound L R) (S : List ℕ) (ok : CleanOk R S) where
  abbrev fish : List ℕ
  fish = kept rule R S

  abbrev C : Record
  C = clean rule S R

  abbrev time : ℕ → ℕ
  time = time_of R.nodes

  abbrev D : ℕ → Par
  D = forest_at rule R S

  same_time : (b : ℕ) → mem b fish ≡ true → time_of C.nodes b ≡ time b
  same_time b m = time_same C.nodes R.nodes b (clean_row rule pr R S ok b m)

  among : All (λ (e : Edge). (mem e.parent fish ≡ true) × (mem e.child fish ≡ true)) C.edges
  unfolding clean
  among = edges_among R.len time D fish

  whole : All (Whole R.len time D) C.edges
  unfolding clean
  whole = edges_whole R.len time D fish (kept_distinct rule R S ok.good.once ok.distinct)

  rises : Pairwise (λ d e. by_key R.len time D d e ≡ true) C.edges
  unfolding clean
  rises = of_ascending (edges_ascending R.len time D fish (kept_distinct rule R S ok.good.once ok.distinct))

  -- what a whole edge says of its ends
  older : (e : Edge) → (mem e.parent fish ≡ true) × (mem e.child fish ≡ true) → Whole R.len time D e → time_of C.nodes e.child < time_of C.nodes e.parent
  older e m w =
      let d : drawn (T rule pr R S ok e.left) (K rule pr R S ok e.left) e.child ≡ some e.parent = unfold forest_at stands_at in is_of (D e.left e.child) e.parent (w.holds e.left (omega arith) w.wide) in
      let l : time e.child < time e.parent = (contract_ranked (drawn_at rule pr R S ok e.left) (good_aged R ok.good e.left).ranked).grows d in
      omega (arith, l, same_time e.child m.1, same_time e.parent m.0)

  right : All (Right L (time_of C.nodes)) C.edges
  right = all_to (λ e p. record { wide = p.1.wide; within = omega (arith, p.1.inside, s.len); older = older e p.0 p.1 }) (all_both among whole)

  same_key : (e : Edge) → mem e.parent fish ≡ true → edge_key (time_of C.nodes) e ≡ edge_key time e
  unfolding edge_key
  same_key e m = ap (λ (t : ℕ). t ∷ e.parent ∷ e.child ∷ e.left ∷ []) (same_time e.parent m)

  ordered : Pairwise (λ d e. keyed C.nodes d e ≡ true) C.edges
  unfolding keyed
  ordered = pairwise_with (λ d e p q h. ap₂ lex (same_key d p.0) (same_key e q.0) ∙ h) among rises

  parted : Pairwise Parted C.edges
  parted = pairwise_with (λ d e p q h. whole_parted R.len time D d e p q h) whole rises

  site_rows : All (λ (m : Mutation). m.site < length R.sites) C.muts
  unfolding clean
  site_rows = moved_all (λ i. i < length R.sites) (pos_of R.sites) (low_at rule R S) R.muts s.site_row

  rising : Pairs Rises C.muts
  unfolding clean
  rising = pairs_moved (pos_of R.sites) (low_at rule R S) Rises Rises (λ (m : Mutation). m.site < length R.sites) (λ m n w v o q e f. q) R.muts s.site_row s.rising

  same_sites : C.sites ≡ R.sites
  unfolding clean
  same_sites = refl

  same_length : C.len ≡ R.len
  unfolding clean
  same_length = refl

  -- what the checks 3 to 10 found of a record they find of the cleaned record
  pub clean_record_sound : RecordSound L (clean rule S R)
  clean_record_sound = record {
    len = same_length ∙ s.len;
    once = (clean_good rule pr R S ok).once;
    closed = clean_closed rule pr R S ok;
    edge = right;
    ordered = ordered;
    parted = parted;
    inside = rw same_sites s.inside;
    ascending = rw same_sites s.ascending;
    site_row = rw same_sites site_rows;
    rising = rising;
    settled = clean_settled rule pr R S ok s.settled;
  }
