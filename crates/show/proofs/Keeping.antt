-- Rows that are read or written keep to their table's limit, and each column has them.
use mathlib.Core.Path.{◌≡◌, refl, sym, ap, subst, ◌∙◌}
use mathlib.Core.List.{List, [], ◌∷◌}
use mathlib.Core.Bool.{Bool, true, false, not}
use Prim.Native.Nat.{ℕ, ◌+◌, ◌≤◌}
use native.Mathlib.Omega.{arith}
use lib.Dec.{leb, ltb}
use lib.ListN.{length, drop, length-append, length-drop, length-map}
use Rattle.meaning.specs.Words.{and}
use Rattle.meaning.specs.Rows.{Tables, record_of}
use Rattle.meaning.specs.Forest.{stands}
use Rattle.meaning.specs.Answer.{Answer, done, limits, stored_limits, accepted, refuse, lacks, put, left_by}
use Rattle.meaning.specs.Lent.{Counts, rows_in, counts_by, cells_by}
use Rattle.meaning.specs.Clean.{Outcome, clean_end, row_in, kept, cleaned, node_map, clean_answer, cleaning}
use Rattle.laws.specs.Facts.{All}
use Rattle.laws.specs.Facts.All.{also}
use Rattle.accepted.specs.Refusals.{Accepted, of_done, passed}
use Rattle.accepted.specs.Rooms.{Fits, fits_of, passed_room}
use Rattle.accepted.specs.Calls.{Cleans, clean_tells}
use Rattle.meaning.specs.Stored.{is_mark, Kind, Form, form, rows_at, after, stop_then, kind_then, end_then, kinds_then, form_then}
use Rattle.meaning.specs.Files.{Reading, reading, handed, if_done, room_answer, found, tables_in, samples_in}
use Rattle.listing.specs.Written.{room}
use Rattle.meaning.specs.Shown.{Long}

-- so many rows keep to the limits of a listing
pub record Few (n : Counts) : Type 0 where
  pub nodes : n.nodes ≤ stored_limits.nodes
  pub edges : n.edges ≤ stored_limits.edges
  pub sites : n.sites ≤ stored_limits.sites
  pub mutations : n.mutations ≤ stored_limits.mutations

counts_accepted : (a : Answer) (T : Tables) → Accepted a → counts_by a T ≡ rows_in T
unfolding counts_by
counts_accepted a T h = rw (h, counts_by)

few_of : (a : Answer) (new out : Tables) (n : Counts) → Accepted a → n ≡ counts_by a new → Fits limits new out → Few n
few_of a new out n h e f =
    let q : n ≡ rows_in new = e ∙ counts_accepted a new h in
    record {
      nodes = omega (arith, ap (λ (c : Counts). c.nodes) q, f.nodes.few);
      edges = omega (arith, ap (λ (c : Counts). c.edges) q, f.edges.few);
      sites = omega (arith, ap (λ (c : Counts). c.sites) q, f.sites.few);
      mutations = omega (arith, ap (λ (c : Counts). c.mutations) q, f.muts.few);
    }

-- ---- a lent column keeps its length, or grows

left_long : (a : Answer) (new old : List ℕ) (need : ℕ) → need ≤ length old → need ≤ length (left_by a new old)
unfolding left_by put
left_long a new old need l = go (accepted a) refl
  where
    go : (t : Bool) → accepted a ≡ t → need ≤ length (left_by a new old)
    go true e = rw (e, left_by) (omega (arith, length-append new (drop (length new) old), length-drop (length new) old))
    go false e = rw (e, left_by) l

both : {need : ℕ} {a b : List ℕ} → All (λ c. need ≤ length c) (a ∷ b ∷ []) → (need ≤ length a) × (need ≤ length b)
both (also p (also q All.done)) = (p, q)

three : {need : ℕ} {a b d : List ℕ} → All (λ c. need ≤ length c) (a ∷ b ∷ d ∷ []) → (need ≤ length a) × (need ≤ length b) × (need ≤ length d)
three (also p (also q (also r All.done))) = (p, q, r)

four : {need : ℕ} {a b d e : List ℕ} → All (λ c. need ≤ length c) (a ∷ b ∷ d ∷ e ∷ []) → (need ≤ length a) × (need ≤ length b) × (need ≤ length d) × (need ≤ length e)
four (also p (also q (also r (also s All.done)))) = (p, q, r, s)

one : {need : ℕ} {a : List ℕ} → All (λ c. need ≤ length c) (a ∷ []) → need ≤ length a
one (also p All.done) = p

-- the rows of an accepted answer are there in each column that it leaves
fronts_of : (a : Answer) (new out : Tables) → Fits limits new out → Long (rows_in new) (cells_by a new out)
unfolding cells_by
fronts_of a new out f =
    let n : _ = three f.nodes.roomy in
    let e : _ = four f.edges.roomy in
    let s : _ = both f.sites.roomy in
    let m : _ = three f.muts.roomy in
    record {
      time = left_long a new.nodes.time out.nodes.time _ n.0;
      birth = left_long a new.nodes.birth out.nodes.birth _ n.1;
      population = left_long a new.nodes.population out.nodes.population _ n.2;
      left = left_long a new.edges.left out.edges.left _ e.0;
      right = left_long a new.edges.right out.edges.right _ e.1;
      parent = left_long a new.edges.parent out.edges.parent _ e.2;
      child = left_long a new.edges.child out.edges.child _ e.3;
      position = left_long a new.sites.position out.sites.position _ s.0;
      ancestral = left_long a new.sites.ancestral out.sites.ancestral _ s.1;
      site = left_long a new.muts.site out.muts.site _ m.0;
      node = left_long a new.muts.node out.muts.node _ m.1;
      derived = left_long a new.muts.derived out.muts.derived _ m.2;
    }

long_of : (a : Answer) (new out cells : Tables) (n : Counts) → Accepted a → n ≡ counts_by a new → cells ≡ cells_by a new out → Fits limits new out → Long n cells
long_of a new out cells n h e q f = subst (λ (m : Counts). Long m cells) (sym (e ∙ counts_accepted a new h)) (subst (Long _) (sym q) (fronts_of a new out f))

-- ---- cleaning

-- so many rows of the tables and of the node map can be listed
pub record Listable (n : Counts) (cells : Tables) (rows : ℕ) (nodemap : List ℕ) : Type 0 where
  pub few : Few n
  pub long : Long n cells
  pub rows_few : rows ≤ stored_limits.nodes
  pub rows_long : rows ≤ length nodemap

-- what a cleaning that is done wrote
pub clean_listable : (L : ℕ) (T : Tables) (S : List ℕ) (out : Tables) (out_map : List ℕ) (n : Counts) (cells : Tables) (nodemap : List ℕ) → record { answer = done; counts = n; cells = cells; map = nodemap } ≡ cleaning stands limits L T S out out_map 4 → Listable n cells (length T.nodes.birth) nodemap
unfolding cleaning clean_end node_map
clean_listable L T S out out_map n cells nodemap e =
    let a : Answer = clean_answer stands limits L T S out out_map 4 in
    let new : Tables = cleaned stands L T S in
    let h : Accepted a = of_done a (sym (ap (λ (o : Outcome). o.answer) e)) in
    let k : Cleans stands limits L T S out out_map 4 = clean_tells stands limits L T S out out_map 4 h in
    let same : length (node_map stands L T S) ≡ length T.nodes.birth = length-map T.nodes.birth (row_in (kept stands (record_of L T) S)) in
    let l : length (node_map stands L T S) ≤ length (left_by a (node_map stands L T S) out_map) = left_long a (node_map stands L T S) out_map _ (one k.map_fits.roomy) in
    record {
      few = few_of a new out n h (ap (λ (o : Outcome). o.counts) e) k.fits;
      long = long_of a new out cells n h (ap (λ (o : Outcome). o.counts) e) (ap (λ (o : Outcome). o.cells) e) k.fits;
      rows_few = omega (arith, k.map_fits.few);
      rows_long = omega (arith, ap (λ (o : Outcome). length o.map) e);
    }

-- the room that 01's limits ask
pub listing_room : (n : Counts) (rows bytes : ℕ) → Few n → rows ≤ stored_limits.nodes → 313344 ≤ bytes → room n.nodes n.edges n.sites n.mutations rows ≤ bytes
listing_room n rows bytes f r b = omega arith

-- ---- reading

stop_passed : (a b most n : ℕ) (s : List ℕ) (o : ℕ) (rest : Answer) → Accepted (stop_then a b most n s o rest) → Accepted rest
unfolding stop_then
stop_passed a b most n s o rest h = (passed (is_mark a b s o) 32 o rest (omega arith) (passed (and (is_mark a b s o) (leb most n)) 34 o (refuse (is_mark a b s o) 32 o rest) (omega arith) h).1).1

end_passed : (s : List ℕ) (o : ℕ) (rest : Answer) → Accepted (end_then s o rest) → Accepted rest
unfolding end_then
end_passed s o rest h =
    let follow : Answer = refuse (ltb (o + 2) (length s)) 33 (o + 2) rest in
    let wrong : Answer = refuse (not (is_mark 69 78 s o)) 31 o follow in
    let p : _ = passed (ltb (length s) (o + 2)) 32 o wrong (omega arith) h in
    let q : _ = passed (not (is_mark 69 78 s o)) 31 o follow (omega arith) p.1 in
    (passed (ltb (o + 2) (length s)) 33 (o + 2) rest (omega arith) q.1).1

kinds_passed : (ks : List Kind) (s : List ℕ) (o : ℕ) (rest : Answer) → Accepted (kinds_then ks s o rest) → Accepted rest
unfolding kinds_then kind_then
kinds_passed [] s o rest h = end_passed s o rest h
kinds_passed (k ∷ ks) s o rest h = kinds_passed ks s (after k s o) rest (stop_passed k.first k.second k.most (rows_at k s o) s (after k s o) (kinds_then ks s (after k s o) rest) h)

form_passed : (f : Form) (s : List ℕ) (rest : Answer) → Accepted (form_then f s rest) → Accepted rest
unfolding form_then
form_passed f s rest h =
    let all : Answer = kinds_then f.kinds s 6 rest in
    let cut : Answer = refuse (ltb (length s) 6) 32 0 all in
    let wrong : Answer = refuse (not (is_mark f.first f.second s 0)) 31 0 cut in
    let p : _ = passed (ltb (length s) 2) 32 0 wrong (omega arith) h in
    let q : _ = passed (not (is_mark f.first f.second s 0)) 31 0 cut (omega arith) p.1 in
    kinds_passed f.kinds s 6 rest (passed (ltb (length s) 6) 32 0 all (omega arith) q.1).1

done_is : (a : Answer) (n : ℕ) → Accepted a → if_done a n ≡ n
unfolding if_done
done_is a n h = rw (h, if_done)

-- what a reading that is done read
pub read_long : (s : List ℕ) (out : Tables) (list_out : List ℕ) (L : ℕ) (n : Counts) (k : ℕ) (cells : Tables) (samples : List ℕ) → record { answer = done; len = L; rows = n; listed = k; cells = cells; samples = samples } ≡ reading 2 stored_limits s out list_out → Long n cells × (k ≤ length samples)
unfolding reading handed room_answer
read_long s out list_out L n k cells samples e =
    let T : Tables = tables_in (found 2 stored_limits s) in
    let S : List ℕ = samples_in (found 2 stored_limits s) in
    let last : Answer = refuse (lacks stored_limits.samples (list_out ∷ []) (length S)) 13 5 done in
    let a : Answer = form_then (form 2 stored_limits) s (room_answer stored_limits T S out list_out) in
    let h : Accepted a = of_done a (sym (ap (λ (r : Reading). r.answer) e)) in
    let f : _ = fits_of stored_limits T out last (form_passed (form 2 stored_limits) s (room_answer stored_limits T S out list_out) h) in
    let g : _ = passed_room stored_limits.samples list_out [] (length S) 13 5 done (omega arith) f.1 in
    let l : length S ≤ length (left_by a S list_out) = left_long a S list_out _ (one g.0.roomy) in
    (long_of a T out cells n h (ap (λ (r : Reading). r.rows) e) (ap (λ (r : Reading). r.cells) e) f.0, omega (arith, ap (λ (r : Reading). r.listed) e, done_is a (length S) h, ap (λ (r : Reading). length r.samples) e))
