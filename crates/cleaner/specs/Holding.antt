-- What the stages leave is all that a result is written from.
use Rattle.std.specs.Prelude.{◌≡◌, List, ◌++◌, map, ℕ, length, take}
use Rattle.std.proofs.Common.{sym, ap, ap₂, ◌∙◌, length-take-le, arith}
use Rattle.meaning.specs.Words.{mem, rows}
use Rattle.meaning.specs.Rows.{Tables, Edge, age_table}
use Rattle.meaning.specs.Answer.{limits}
use Rattle.meaning.specs.Clean.{row_in}
use Rattle.order.specs.Counts.{bit}
use Rattle.byrows.specs.Rows.{all_rows, sample_rows, up_row}
use Rattle.byrows.specs.Ground.{Ground}
use Rattle.byrows.specs.Kept.{Others}
use Rattle.placing.specs.Placing.{Moves}
use Rattle.runs.specs.Runs.{Store, Collected, Stored}
use Rattle.keeping.specs.Fronts.{samples_front}
use Rattle.keeping.specs.Standing.{listed_others}
use Rattle.cleaner.specs.Work.{Work, input_in, store_of, Long, Ready}
use Rattle.cleaner.specs.Tracing.{Traced, KeptRows}

module _ (L : ℕ) (T : Tables) (S : List ℕ) (g : Ground limits L T S) (W : Work) (kept₀ kept₁ : List ℕ) (D₀ : Store) (V₀ : Moves) (t : Traced L (input_in T W) (sample_rows T.nodes.birth S) kept₀ kept₁ D₀ (store_of (length T.nodes.time) W.store) V₀ W.moves) (kr : KeptRows (age_table T.nodes.time T.nodes.birth) W.sample W.store.stood (length S) kept₁ W.nodes W.kept W.places) (long : Long T W) where
  abbrev n : ℕ
  n = length T.nodes.birth

  abbrev SR : List ℕ
  SR = sample_rows T.nodes.birth S

  abbrev OR : List ℕ
  OR = take kr.count kr.new

  abbrev F : List Edge
  F = t.swept.edges.0

  births : n ≡ length T.nodes.time
  births = g.sound.shape.births

  col : Collected (up_row T.edges n SR) n L F
  col = rw births t.swept.edges.1

  st : Stored n F (store_of (length T.nodes.time) W.store)
  st = rw births t.swept.edges.2

  marks : take (length T.nodes.time) W.sample ≡ rows (λ u. bit (mem u SR)) n
  marks = rw births t.marks

  stood : length (take (length T.nodes.time) W.store.stood) ≡ n
  stood = length-take-le (length T.nodes.time) W.store.stood (omega (arith, long.stood, g.sound.size.nodes)) ∙ sym births

  o : Others limits L T S g OR
  o = listed_others limits L T S g F col.whole col.covers (take (length T.nodes.time) W.store.stood) (take (length T.nodes.time) W.sample) stood st.marks marks kr.count kr.old kr.new kr.listed

  kept_is : take W.nodes W.kept ≡ SR ++ OR
  kept_is = kr.front ∙ ap₂ ◌++◌ (samples_front T.nodes.birth S kept₀ kept₁ t.front) kr.those

  placed : take n W.places ≡ map (row_in (SR ++ OR)) (all_rows n)
  placed = ap (λ z. take z W.places) births ∙ kr.places ∙ ap₂ (λ z w. map (row_in z) (all_rows w)) kept_is (sym births)

  -- all that is needed
  pub ready : Ready L T S W
  ready = record {
    footing = g;
    long = long;
    sweepable = t.sweepable;
    flags = t.flags;
    stored = D₀;
    moved = V₀;
    swept = t.swept;
    others = OR;
    known = o;
    kept_long = kr.long;
    kept_is = kept_is;
    placed = placed;
  }
