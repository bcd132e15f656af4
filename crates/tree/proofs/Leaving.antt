-- The column of the nearest standing rows after an edge less: at most three cells change.
use mathlib.Core.Path.{◌≡◌, refl, sym, ap, subst, ◌∙◌}
use mathlib.Core.Bool.{Bool, true, false}
use mathlib.Core.List.{List}
use mathlib.Core.Option.{Option}
use mathlib.Core.Logic.{◌⊎◌, inl, inr}
use Prim.Native.Nat.{ℕ, ◌<◌}
use native.Mathlib.Omega.{arith}
use lib.ListN.{length, get_or, set, length-set}
use lib.Seq.{get_or-set_same, get_or-set_other}
use Rattle.laws.specs.Bools.{clash, eq?}
use Rattle.forest.specs.Lines.{Ranked}
use Rattle.mend.specs.Right as right
use Rattle.mend.specs.Right.{W, live, stands, Grows}
use Rattle.mend.specs.Line.{par_of, opt, Low, here, down, Over, Edge, Lives, Lost}
use Rattle.mend.specs.Kept.{Mended, UpOk, Kept}
use Rattle.mend.proofs.Reading.{par_of-is, of_par, no_parent, par_off, ranked, opt_none, stands_live}
use Rattle.mend.proofs.Only.{lives}
use Rattle.tree.proofs.Up.{low_stands, keep, over_one, remove_stand, remove_same, over_total}

-- there is something over each row
over_every : (T P : List ℕ) (K : ℕ → Bool) → Grows T P → (v : ℕ) → (o : Option ℕ) × Over (par_of P) K o v
over_every T P K g v = over_total (par_of P) K (λ (u : ℕ). get_or T u 0) W (ranked T P g) (λ b p e. let k : _ = par_of-is P b p e in subst (λ (x : ℕ). get_or T x 0 < W) k.1 (g.fits _ (g.inside b k.0 k.2))) W v (omega arith)

-- c, which lives, has lost its parent, and the climb that mends ended at s
pub record Parting (T S P C M D U C' M' : List ℕ) (c s : ℕ) : Type 0 where
  pub kept : Kept T S P C M D U
  pub child : c < length P
  pub had : get_or P c 0 ≡ right.none → ⊥
  pub lives : live S C c ≡ true
  pub mended : Mended T S (set P c right.none) C' M'
  pub lost : Lost T S (set P c right.none) C C' (get_or P c 0) s

module _ {T S P C M D U C' M' : List ℕ} {c s : ℕ} (pt : Parting T S P C M D U C' M' c s) where
  pub long : length (set P c right.none) ≡ length P
  long = length-set P c right.none

  pub older : get_or T c 0 < get_or T (get_or P c 0) 0
  older = pt.kept.mended.grows.age c pt.child pt.had

  ok : Ranked (par_of (set P c right.none)) (λ (v : ℕ). get_or T v 0)
  ok = ranked T (set P c right.none) pt.mended.grows

  edge : (q : ℕ) → ((v : ℕ) → (v ≡ q → ⊥) → stands S C v ≡ stands S C' v) → (stands S C' q ≡ true → stands S C q ≡ true) → Edge (par_of (set P c right.none)) (par_of P) (stands S C') (stands S C) c (get_or P c 0) q
  edge q same more = record {
    before = no_parent (set P c right.none) c (omega (arith, long, pt.child)) (get_or-set_same P c right.none 0 pt.child);
    after = of_par P c pt.child pt.had;
    off = λ v n. sym (par_off P c right.none v n);
    same = same;
    more = more;
  }

  pub lv : Lives (par_of (set P c right.none)) (stands S C') (live S C')
  lv = lives T S (set P c right.none) C' M' pt.mended.shape pt.mended.grows pt.mended.right

  every : (v : ℕ) → (o : Option ℕ) × Over (par_of (set P c right.none)) (stands S C') o v
  every v = over_every T (set P c right.none) (stands S C') pt.mended.grows v

  -- all stand as before: only the row w to which c leads changes
  module _ {w : ℕ} (w_in : w < length P) (w_low : Low (par_of (set P c right.none)) (stands S C') (live S C') w c) (steady : (v : ℕ) → stands S C v ≡ stands S C' v) where
    pub less_up : UpOk S (set P c right.none) C' (set U w right.none)
    less_up = record {
      long = length-set U w right.none ∙ pt.kept.up.long ∙ sym long;
      cell = remove_same (edge c (λ v n. steady v) (λ k. steady c ∙ k)) lv (λ (v : ℕ). get_or T v 0) ok older (stands_live S C') (λ (v : ℕ). opt (get_or (set U w right.none) v 0)) (λ (v : ℕ). opt (get_or U v 0)) every pt.kept.up.cell steady refl w_low
          (opt_none _ (get_or-set_same U w right.none 0 (omega (arith, w_in, pt.kept.up.long))))
          (λ v a. ap opt (get_or-set_other U w v right.none 0 a));
      idle = λ v l n. get_or-set_other U w v right.none 0 (λ e. clash (low_stands w_low) (ap (stands S C') (sym e) ∙ n)) ∙ pt.kept.up.idle v (omega (arith, l, long)) (steady v ∙ n);
    }

  -- s ceases to stand: z comes below o
  module _ {w z : ℕ} (w_in : w < length P) (w_low : Low (par_of (set P c right.none)) (stands S C') (live S C') w c) (o : ℕ) (row : s ≡ right.none → ⊥) (new : stands S C' s ≡ false) (z_in : z < length P) (z_low : Low (par_of (set P c right.none)) (stands S C') (live S C') z s) (o_over : Over (par_of (set P c right.none)) (stands S C') (opt o) s) where
    other : (v : ℕ) → (v ≡ s → ⊥) → stands S C v ≡ stands S C' v
    other v n = sym (pt.lost.same v n)

    w_s : w ≡ s → ⊥
    w_s y = clash (low_stands w_low) (ap (stands S C') y ∙ new)

    z_s : z ≡ s → ⊥
    z_s y = clash (low_stands z_low) (ap (stands S C') y ∙ new)

    two_long : length (set (set U z o) s right.none) ≡ length P
    two_long = length-set (set U z o) s right.none ∙ length-set U z o ∙ pt.kept.up.long

    rest : (v : ℕ) → (v ≡ w → ⊥) → (v ≡ z → ⊥) → (v ≡ s → ⊥) → get_or (set (set (set U z o) s right.none) w right.none) v 0 ≡ get_or U v 0
    rest v a b d = get_or-set_other (set (set U z o) s right.none) w v right.none 0 a ∙ get_or-set_other (set U z o) s v right.none 0 d ∙ get_or-set_other U z v o 0 b

    z_cell : (z ≡ w → ⊥) → get_or (set (set (set U z o) s right.none) w right.none) z 0 ≡ o
    z_cell n = get_or-set_other (set (set U z o) s right.none) w z right.none 0 n ∙ get_or-set_other (set U z o) s z right.none 0 z_s ∙ get_or-set_same U z o 0 (omega (arith, z_in, pt.kept.up.long))

    s_cell : get_or (set (set (set U z o) s right.none) w right.none) s 0 ≡ right.none
    s_cell = get_or-set_other (set (set U z o) s right.none) w s right.none 0 (λ e. w_s (sym e)) ∙ get_or-set_same (set U z o) s right.none 0 (omega (arith, (pt.lost.still row).0, long, pt.kept.up.long, length-set U z o))

    pub fall_up : UpOk S (set P c right.none) C' (set (set (set U z o) s right.none) w right.none)
    fall_up = record {
      long = length-set (set (set U z o) s right.none) w right.none ∙ two_long ∙ sym long;
      cell = remove_stand (edge s other (λ k. pt.lost.was row)) lv (λ (v : ℕ). get_or T v 0) ok older (stands_live S C') (λ (v : ℕ). opt (get_or (set (set (set U z o) s right.none) w right.none) v 0)) (λ (v : ℕ). opt (get_or U v 0)) every pt.kept.up.cell
          new w_low z_low
          (opt_none _ (get_or-set_same (set (set U z o) s right.none) w right.none 0 (omega (arith, w_in, two_long))))
          (λ n. subst (λ (x : ℕ). Over (par_of (set P c right.none)) (stands S C') (opt x) s) (sym (z_cell n)) o_over)
          (λ v a b d. ap opt (rest v a b d));
      idle = λ v l n. idle v (omega (arith, l, long)) n (eq? v s);
    }
      where
        not_up : (v : ℕ) → stands S C' v ≡ false → (x : ℕ) → stands S C' x ≡ true → v ≡ x → ⊥
        not_up v n x k e = clash k (ap (stands S C') (sym e) ∙ n)

        idle : (v : ℕ) → v < length P → stands S C' v ≡ false → (v ≡ s) ⊎ (v ≡ s → ⊥) → get_or (set (set (set U z o) s right.none) w right.none) v 0 ≡ right.none
        idle v l n (inl e) = ap (λ (x : ℕ). get_or (set (set (set U z o) s right.none) w right.none) x 0) e ∙ s_cell
        idle v l n (inr e) = rest v (not_up v n w (low_stands w_low)) (not_up v n z (low_stands z_low)) e ∙ pt.kept.up.idle v l (other v e ∙ n)

-- an edge of a row that does not live
pub dead_less : {T S P C M D U : List ℕ} {c : ℕ} → Kept T S P C M D U → c < length P → (get_or P c 0 ≡ right.none → ⊥) → live S C c ≡ false → Mended T S (set P c right.none) C M → UpOk S (set P c right.none) C U
dead_less {T} {S} {P} {C} {M} {D} {U} {c} k hc had n md = record {
  long = k.up.long ∙ sym (length-set P c right.none);
  cell = λ v j. let m : _ = over_every T (set P c right.none) (stands S C) md.grows v in subst (λ (o : Option ℕ). Over (par_of (set P c right.none)) (stands S C) o v) (over_one (keep ed lv (λ x. clash (low_live x) n) (λ i x. clash (low_live x) n) (here j) (stands_live S C v j) m.1) (k.up.cell v j)) m.1;
  idle = λ v l j. k.up.idle v (omega (arith, l, length-set P c right.none)) j;
}
  where
    lv : Lives (par_of (set P c right.none)) (stands S C) (live S C)
    lv = lives T S (set P c right.none) C M md.shape md.grows md.right

    ed : Edge (par_of (set P c right.none)) (par_of P) (stands S C) (stands S C) c (get_or P c 0) c
    ed = record {
      before = no_parent (set P c right.none) c (omega (arith, length-set P c right.none, hc)) (get_or-set_same P c right.none 0 hc);
      after = of_par P c hc had;
      off = λ v m. sym (par_off P c right.none v m);
      same = λ v m. refl;
      more = λ j. j;
    }

    low_live : {x y : ℕ} → Low (par_of (set P c right.none)) (stands S C) (live S C) x y → live S C y ≡ true
    low_live {x} (here t) = stands_live S C x t
    low_live (down a b l y) = (lives T S (set P c right.none) C M md.shape md.grows md.right).up b l
