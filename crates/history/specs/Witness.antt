-- The premise of demand 3 can be met: a record of two fish, a cleaning for the younger, and a batch with its child.
use Rattle.std.specs.Prelude.{◌≡◌, Bool, true, false, ℕ, ◌<◌, eqb}
use Rattle.std.proofs.Math.Path.{refl, sym}
use Rattle.std.proofs.Common.{ap, ◌∙◌, inl, arith}
use mathlib.Core.List.{List, [], ◌∷◌, ◌++◌}
use Rattle.std.proofs.Math.Logic.{inr, ⊎_elim}
use Rattle.meaning.specs.Words.{mem}
use Rattle.meaning.specs.Rows.{Node, Edge, Record, births, node_of, time_of}
use Rattle.meaning.specs.Forest.{Ages, stands}
use Rattle.meaning.specs.Clean.{clean}
use Rattle.meaning.specs.Join.{Batch, join}
use Rattle.laws.specs.Bools.{clash}
use Rattle.laws.specs.Members.{mem_nil, mem_here, mem_cases, mem_left, mem_right}
use Rattle.laws.specs.Facts.{In, Distinct, nil, cons, Any, now, later, All, done, also, Cov, parents, Good, JoinOk, CleanOk}
use Rattle.forest.specs.Profile.{stands_profile}
use Rattle.history.specs.Cleaned.{clean_good}
use Rattle.history.specs.Joined.{base_time, batch_time, join_births, join_good}
use Rattle.history.specs.Run.{batch, tidy, Names, Accepted}

-- fish 2 is the parent of fish 1
abbrev raw : Record
raw = record {
  len = 10;
  nodes = record { time = 4; birth = 1; population = 6 } ∷ record { time = 5; birth = 2; population = 7 } ∷ [];
  edges = record { left = 0; right = 10; parent = 2; child = 1 } ∷ [];
  sites = [];
  muts = [];
}

-- fish 3 is a child of fish 1
abbrev born : Batch
born = record {
  nodes = record { time = 0; birth = 3; population = 8 } ∷ [];
  edges = record { left = 0; right = 10; parent = 1; child = 3 } ∷ [];
  muts = [];
}

-- the only edge of a list
only : {x v q : ℕ} {e : Edge} → Any (Cov x v q) (e ∷ []) → (e.child ≡ v) × (e.parent ≡ q)
only (now c) = (c.of_child, c.to_parent)
only (later a) = elim a [ ]

young_of : (l : List Node) → All (λ (n : Node). n.time < Ages) l → (b : ℕ) → time_of l b < Ages
unfolding time_of node_of
young_of [] done b = omega arith
young_of (n ∷ l) (also q a) b = go (eqb n.birth b) refl (young_of l a b)
  where
    go : (t : Bool) → eqb n.birth b ≡ t → time_of l b < Ages → time_of (n ∷ l) b < Ages
    go true e ih = rw (e, time_of, node_of) q
    go false e ih = rw (e, time_of, node_of) ih

raw_good : Good raw
unfolding mem births time_of node_of
raw_good = record {
  once = cons {a = 1} {l = 2 ∷ []} refl (cons {a = 2} {l = []} refl nil);
  young = young_of raw.nodes (also (omega arith) (also (omega arith) done));
  edge = λ x v q a. let r : _ = only a in rw (sym r.0) (rw (sym r.1) (refl, refl, omega arith));
  single = λ x v q r a b. sym (only a).1 ∙ (only b).1;
  muts_ok = done;
}

-- the batch can be joined to any record that has fish 1 at its time, and not fish 3
born_ok : (R : Record) → mem 1 (births R.nodes) ≡ true → mem 3 (births R.nodes) ≡ false → time_of R.nodes 1 ≡ 4 → JoinOk R born
unfolding births parents time_of node_of
born_ok R one three time = record {
  once = cons {a = 3} {l = []} (unfold mem in refl) nil;
  fresh = λ b m i. ⊎_elim (λ (e : b ≡ 3). clash (rw e at i) three) (mem_nil b) (mem_cases b 3 [] m);
  young = young_of born.nodes (also (omega arith) done);
  edge = λ x v q a.
      let r : _ = only a in
      (mem_here v 3 [] (sym r.0), inr (rw (sym r.1) one), rw (sym r.0) (rw (sym r.1) older));
  rows_in = also (inr one, mem_here 3 3 [] refl) done;
  known = λ q m. ⊎_elim (λ (e : q ≡ 1). inr (rw e one)) (λ (k : mem q [] ≡ true). absurd (mem_nil q k)) (mem_cases q 1 [] m);
  single = λ x v q r a b. sym (only a).1 ∙ (only b).1;
  muts_ok = done;
}
  where
    young : time_of born.nodes 3 ≡ 0
    young = refl

    older : time_of (R.nodes ++ born.nodes) 3 < time_of (R.nodes ++ born.nodes) 1
    older = omega (arith, base_time R born 1 one, batch_time R born 3 three, time, young)

abbrev first : List ℕ
first = 1 ∷ []

abbrev last : List ℕ
last = 3 ∷ 1 ∷ []

abbrev tidied : Record
tidied = clean stands first raw

first_ok : CleanOk raw first
unfolding births
first_ok = record {
  good = raw_good;
  distinct = cons {a = 1} {l = []} (unfold mem in refl) nil;
  listed = λ s m. ⊎_elim (λ (e : s ≡ 1). mem_here s 1 (2 ∷ []) e) (λ (k : mem s [] ≡ true). absurd (mem_nil s k)) (mem_cases s 1 [] m);
}

last_distinct : Distinct last
last_distinct = cons {a = 3} {l = 1 ∷ []} (unfold mem in refl) (cons {a = 1} {l = []} (unfold mem in refl) nil)

last_ok : (R : Record) → Good R → mem 1 (births R.nodes) ≡ true → JoinOk R born → CleanOk (join R born) last
last_ok R g one j = record {
  good = join_good R born g j;
  distinct = last_distinct;
  listed = λ s m. ap (mem s) (join_births R born) ∙ ⊎_elim
      (λ (e : s ≡ 3). mem_right s (births R.nodes) (births born.nodes) (unfold births in mem_here s 3 [] e))
      (λ (k : mem s (1 ∷ []) ≡ true). ⊎_elim (λ (e : s ≡ 1). mem_left s (births R.nodes) (births born.nodes) (rw e one)) (λ (n : mem s [] ≡ true). absurd (mem_nil s n)) (mem_cases s 1 [] k))
      (mem_cases s 3 (1 ∷ []) m);
}

-- of the fish then in the record, only fish 1 is named later
named : (b : ℕ) → mem b (births raw.nodes) ≡ true → Names (batch born ∷ []) last b → In first b
unfolding births parents
named b m (inl p) = p
named b m (inr p) = ⊎_elim (λ (e : b ≡ 3). absurd (clash (rw e at m) (unfold mem in refl))) (λ k. k) (mem_cases b 3 (1 ∷ []) p)

-- a cleaning for fish 1, the batch, and a last cleaning for fish 3 and 1
pub witness : Accepted stands (tidy first ∷ batch born ∷ []) last raw raw
witness = (first_ok, named, (g_c, raw_good, j_c, j_r, (last_ok tidied g_c one_c j_c, last_ok raw raw_good one_r j_r)))
  where
    g_c : Good tidied
    g_c = clean_good stands stands_profile raw first first_ok

    one_c : mem 1 (births tidied.nodes) ≡ true
    one_c = unfold mem births clean stands in refl

    j_c : JoinOk tidied born
    j_c = born_ok tidied one_c (unfold mem births clean stands in refl) (unfold time_of node_of clean stands in refl)

    one_r : mem 1 (births raw.nodes) ≡ true
    one_r = unfold mem births in refl

    j_r : JoinOk raw born
    j_r = born_ok raw one_r (unfold mem births in refl) (unfold time_of node_of in refl)
