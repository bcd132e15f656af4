-- The trace: what the sweep asks is there, and what it leaves is what the samples' rows stand for.
use mathlib.Core.Path.{◌≡◌, refl, ap, ◌∙◌}
use mathlib.Core.Bool.{Bool, true, false}
use mathlib.Core.List.{List, ◌++◌}
use Prim.Native.Nat.{ℕ, ◌<◌, ◌≤◌}
use native.Mathlib.Omega.{arith}
use lib.ListN.{length, take}
use lib.Seq.{take_at}
use Rattle.meaning.specs.Words.{at, mem, rows}
use Rattle.meaning.specs.Rows.{NodeColumns, EdgeColumns}
use Rattle.meaning.specs.Answer.{limits, put}
use Rattle.laws.specs.Counting.{length_rows, get_rows}
use Rattle.order.specs.Order.{SortedFrom, by_keys}
use Rattle.order.specs.Counts.{bit}
use Rattle.byrows.specs.Rows.{sample_rows}
use Rattle.byrows.specs.Ground.{mem_all, samples_inside}
use Rattle.tree.specs.TreeAt.{Flags}
use Rattle.placing.specs.Placing.{Moves}
use Rattle.runs.specs.Runs.{Store}
use Rattle.sweep.specs.Columns.{Input}
use Rattle.sweep.specs.Sweeping.{Done}
use Rattle.cleaner.specs.Tracing.{Passed, Traced}
use Rattle.cleaner.specs.Planning.{plan, sited}
use Rattle.cleaner.specs.Sweeping.{Sweepable}

bit_of : (t : Bool) → t ≡ true → bit t ≡ 1
unfolding bit
bit_of t e = ap bit e

of_bit : (t : Bool) → 0 < bit t → t ≡ true
unfolding bit
of_bit true h = refl
of_bit false h = absurd (omega arith)

module _ {L : ℕ} {N : NodeColumns} {E : EdgeColumns} {position site node S : List ℕ} (p : Passed L N E position site node S) where
  abbrev SR : List ℕ
  SR = sample_rows N.birth S

  births : length N.birth ≡ length N.time
  births = p.footing.sound.shape.births

  abbrev inputs : List ℕ → List ℕ → List ℕ → Input
  inputs sample bl br = record { time = N.time; sample = sample; left = E.left; right = E.right; parent = E.parent; child = E.child; by_left = bl; by_right = br; position = position; site = site; node = node }

  pub edges_fit : (length E.left ≤ limits.edges) × (length E.right ≤ limits.edges)
  edges_fit = (p.footing.sound.size.edges, omega (arith, p.footing.sound.size.edges, p.footing.sound.shape.rights))

  flags : (sample : List ℕ) → sample ≡ rows (λ u. bit (mem u SR)) (length N.time) → Flags sample SR (length N.time)
  flags sample e = record {
    set = λ s m. let l : s < length N.time = omega (arith, births, mem_all SR (samples_inside limits L _ S p.footing) s m) in (l, omega (arith, cell s l, bit_of (mem s SR) m));
    only = λ s l h. of_bit (mem s SR) (omega (arith, cell s l));
  }
    where
      cell : (s : ℕ) → s < length N.time → at sample s ≡ bit (mem s SR)
      cell s l = ap (λ z. at z s) e ∙ get_rows (λ u. bit (mem u SR)) 0 (length N.time) s l

  -- the sweep's columns, the marks and both orders at the fronts of longer ones
  pub sweepable : (sp srest pl rl pr rr : List ℕ) → sp ≡ rows (λ u. bit (mem u SR)) (length N.birth) → length pl ≡ length E.left → length pr ≡ length E.left → SortedFrom (by_keys E.left E.left E.left E.left) (rows (λ i. i) (length E.left)) pl → SortedFrom (by_keys E.right E.right E.right E.right) (rows (λ i. i) (length E.right)) pr → Sweepable L (inputs (take (length N.time) (sp ++ srest)) (take (length E.left) (pl ++ rl)) (take (length E.left) (pr ++ rr)))
  sweepable sp srest pl rl pr rr e a b s t =
      let m : length sp ≡ length N.time = ap length e ∙ length_rows (λ u. bit (mem u SR)) (length N.birth) ∙ births in
      rw (take_at sp srest (length N.time) m)
      (rw (take_at pl rl (length E.left) a)
      (rw (take_at pr rr (length E.left) b)
      (record {
        few = p.footing.sound.size.nodes;
        samples = m;
        plan = plan L N E position site node S p pl pr s t;
        sites = sited L N E position site node S p sp pl pr;
        numbered = p.footing.sound.size.muts;
      })))

  pub traced : (kept kept' sp srest pl rl pr rr fl fr fp fc st strest : List ℕ) (r : ℕ) (D₀ : Store) (W₀ W : Moves) → kept' ≡ put SR kept → sp ≡ rows (λ u. bit (mem u SR)) (length N.birth) → length pl ≡ length E.left → length pr ≡ length E.left → SortedFrom (by_keys E.left E.left E.left E.left) (rows (λ i. i) (length E.left)) pl → SortedFrom (by_keys E.right E.right E.right E.right) (rows (λ i. i) (length E.right)) pr → length st ≡ length N.time → ((Q : List ℕ) → Flags (take (length N.time) (sp ++ srest)) Q (length N.time) → Done L (inputs (take (length N.time) (sp ++ srest)) (take (length E.left) (pl ++ rl)) (take (length E.left) (pr ++ rr))) Q D₀ W₀ (record { left = fl; right = fr; parent = fp; child = fc; stood = st; count = r }) W) → Traced L (inputs (take (length N.time) (sp ++ srest)) (take (length E.left) (pl ++ rl)) (take (length E.left) (pr ++ rr))) SR kept kept' D₀ (record { left = fl; right = fr; parent = fp; child = fc; stood = take (length N.time) (st ++ strest); count = r }) W₀ W
  traced kept kept' sp srest pl rl pr rr fl fr fp fc st strest r D₀ W₀ W k e a b s t l d =
      let m : length sp ≡ length N.time = ap length e ∙ length_rows (λ u. bit (mem u SR)) (length N.birth) ∙ births in
      let f : take (length N.time) (sp ++ srest) ≡ rows (λ u. bit (mem u SR)) (length N.time) = take_at sp srest (length N.time) m ∙ e ∙ ap (rows (λ u. bit (mem u SR))) births in
      let g : Flags (take (length N.time) (sp ++ srest)) SR (length N.time) = flags (take (length N.time) (sp ++ srest)) f in
      record {
        front = k;
        marks = f;
        flags = g;
        sweepable = sweepable sp srest pl rl pr rr e a b s t;
        swept = rw (take_at st strest (length N.time) l) (d SR g);
      }
