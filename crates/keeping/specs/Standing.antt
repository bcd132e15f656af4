-- The rows marked as parents of finished edges are the rows that stand somewhere, of those that are no samples.
use Rattle.std.specs.Prelude.{◌≡◌, refl, Bool, true, false, List, ◌⊎◌, ℕ, ◌<◌, length, take}
use Rattle.std.proofs.Common.{sym, ◌∙◌, ⊎_elim, arith}
use Rattle.std.proofs.Math.Path.{ap}
use Rattle.std.proofs.Math.Option.{some}
use Rattle.meaning.specs.Words.{at, mem, rows}
use Rattle.meaning.specs.Rows.{Tables, Edge, age_table}
use Rattle.meaning.specs.Forest.{is}
use Rattle.meaning.specs.Answer.{Limits}
use Rattle.laws.specs.Counting.{get_rows}
use Rattle.laws.specs.Facts.{Any, now, later, All, also, Cov, done}
use Rattle.encoding.specs.Runs.{Longest}
use Rattle.encoding.specs.Edges.{is_of}
use Rattle.order.specs.Counts.{bit}
use Rattle.byrows.specs.Rows.{sample_rows, stands_row, up_row, before_row}
use Rattle.byrows.specs.Ground.{Ground}
use Rattle.byrows.specs.Kept.{Others}
use Rattle.byrows.specs.Standing.{stands_parent, parent_stands}
use Rattle.keeping.specs.Others.{OthersListed}

-- some edge of F has the parent v
abbrev pub Parent : List Edge → ℕ → Type 0
Parent F v = Any (λ (e : Edge). e.parent ≡ v) F

-- the mark of v is 1 where v is the parent of an edge of F, and else 0
abbrev pub Mark : List Edge → ℕ → ℕ → Type 0
Mark F v k = ((k ≡ 1) × Parent F v) ⊎ ((k ≡ 0) × (Parent F v → ⊥))

-- a member that passes one test passes another that all pass
any_also : {A : Type 0} {P Q : A → Type 0} {l : List A} → All P l → Any Q l → (a : A) × P a × Q a
any_also {A = A} {P = P} {Q = Q} done x3 = elim x3 [ ]
any_also (also p x) (now q) = (_, p, q)
any_also (also p x) (later y) = any_also x y

any_to : {A : Type 0} {P Q : A → Type 0} {l : List A} → ((a : A) → P a → Q a) → Any P l → Any Q l
any_to h (now p) = now (h _ p)
any_to h (later x) = later (any_to h x)

bit_none : (t : Bool) → bit t ≡ 0 → t ≡ false
unfolding bit
bit_none true h = absurd (omega arith)
bit_none false h = refl

bit_of_none : (t : Bool) → t ≡ false → bit t ≡ 0
unfolding bit
bit_of_none t e = ap bit e

module _ (m : Limits) (L : ℕ) (T : Tables) (S : List ℕ) (g : Ground m L T S) where
  abbrev n : ℕ
  n = length T.nodes.birth

  abbrev SR : List ℕ
  SR = sample_rows T.nodes.birth S

  module _ (F : List Edge) (whole : All (λ (e : Edge). Longest L (λ x. is (up_row T.edges n SR x e.child) e.parent) e) F) where
    -- the parent of a finished edge stands where the edge begins
    parent_somewhere : (v : ℕ) → Parent F v → (x : ℕ) × (x < L) × (stands_row T.edges n SR x v ≡ true)
    parent_somewhere v h = let e : _ = any_also whole h in at_left e.0 e.1 e.2
      where
        at_left : (e : Edge) → Longest L (λ x. is (up_row T.edges n SR x e.child) e.parent) e → e.parent ≡ v → (x : ℕ) × (x < L) × (stands_row T.edges n SR x v ≡ true)
        at_left e w q =
            let up : up_row T.edges n SR e.left e.child ≡ some e.parent = is_of (up_row T.edges n SR e.left e.child) e.parent (w.holds e.left (omega arith) w.wide) in
            (e.left, omega (arith, w.wide, w.inside), rw (sym q) (parent_stands m L T S g e.left e.child e.parent up).1)

    module _ (covers : (x u p : ℕ) → x < L → u < n → up_row T.edges n SR x u ≡ some p → Any (Cov x u p) F) where
      -- a row that stands and is no sample is the parent of a finished edge
      somewhere_parent : (v x : ℕ) → x < L → mem v SR ≡ false → stands_row T.edges n SR x v ≡ true → Parent F v
      somewhere_parent v x l s k = let c : _ = stands_parent m L T S g x v k s in any_to (λ e y. y.to_parent) (covers x c.0 v l c.1 c.2)

      -- so the rows listed by these marks and the samples' are the other rows kept
      pub listed_others : (stood sample : List ℕ) → length stood ≡ n → ((v : ℕ) → v < n → Mark F v (at stood v)) → sample ≡ rows (λ u. bit (mem u SR)) n → (k : ℕ) (old new : List ℕ) → OthersListed (age_table T.nodes.time T.nodes.birth) stood sample k old new → Others m L T S g (take k new)
      unfolding before_row
      listed_others stood sample long marks e k old new o = record {
        inside = rw long at o.inside;
        sorted = o.sorted;
        right = λ v h. let r : _ = o.right v h in let l : v < n = omega (arith, r.0) in (bit_none (mem v SR) (sym (cell v l) ∙ r.2), parent_somewhere v (marked v l r.1));
        all = λ v x l b s z. o.all v (omega arith) (mark v l (somewhere_parent v x b s z)) (cell v l ∙ bit_of_none (mem v SR) s);
      }
        where
          cell : (v : ℕ) → v < n → at sample v ≡ bit (mem v SR)
          cell v l = ap (λ s. at s v) e ∙ get_rows (λ u. bit (mem u SR)) 0 n v l

          marked : (v : ℕ) → v < n → at stood v ≡ 1 → Parent F v
          marked v l h = ⊎_elim (λ (y : (at stood v ≡ 1) × Parent F v). y.1) (λ (y : (at stood v ≡ 0) × (Parent F v → ⊥)). absurd (omega (arith, y.0))) (marks v l)

          mark : (v : ℕ) → v < n → Parent F v → at stood v ≡ 1
          mark v l h = ⊎_elim (λ (y : (at stood v ≡ 1) × Parent F v). y.0) (λ (y : (at stood v ≡ 0) × (Parent F v → ⊥)). absurd (y.1 h)) (marks v l)
