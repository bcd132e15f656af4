-- The column of the nearest standing rows after an edge more: at most three cells change.
use mathlib.Core.Path.{◌≡◌, refl, sym, ap, subst, ◌∙◌}
use mathlib.Core.Bool.{Bool, true, false}
use mathlib.Core.List.{List}
use mathlib.Core.Option.{Option, some}
use mathlib.Core.Logic.{◌⊎◌, inl, inr, ⊎_elim}
use Prim.Native.Nat.{ℕ, ◌<◌, ◌≤◌}
use native.Mathlib.Omega.{arith}
use lib.ListN.{length, get_or, set, length-set}
use lib.Seq.{get_or-set_same, get_or-set_other}
use Rattle.laws.specs.Bools.{clash, eq?}
use Rattle.mend.specs.Right as right
use Rattle.mend.specs.Right.{live, stands, Grows}
use Rattle.mend.specs.Line.{par_of, opt, Low, here, down, Over, Edge, Lives, Stop, ends, at, over, Gained}
use Rattle.mend.specs.Kept.{Mended, UpOk, Kept, Enters}
use Rattle.mend.proofs.Reading.{of_par, no_parent, par_off, ranked, opt_some, stands_live}
use Rattle.mend.proofs.Only.{lives}
use Rattle.tree.proofs.Up.{low_stands, insert_stand, insert_same, keep}

-- a climb stops at no younger row than it starts from
stop_rank : (T P : List ℕ) (L : ℕ → Bool) (s q : ℕ) → Grows T P → (s ≡ right.none → ⊥) → ((q ≡ right.none → ⊥) → q < length P) → Stop P L s q → get_or T q 0 ≤ get_or T s 0
stop_rank T P L s q g n h (ends e z) = absurd (n z)
stop_rank T P L s q g n h (at m l z) = omega (arith, ap (λ (x : ℕ). get_or T x 0) z)
stop_rank T P L s q g n h (over m l z) = go (eq? (get_or P q 0) right.none) (stop_rank T P L s (get_or P q 0) g n (g.inside q (h m)) z)
  where
    at_none : (x : ℕ) → x ≡ right.none → Stop P L s x → ⊥
    at_none x e (ends f y) = n y
    at_none x e (at f l y) = f e
    at_none x e (over f l y) = f e

    go : (get_or P q 0 ≡ right.none) ⊎ (get_or P q 0 ≡ right.none → ⊥) → get_or T (get_or P q 0) 0 ≤ get_or T s 0 → get_or T q 0 ≤ get_or T s 0
    go (inl e) ih = absurd (at_none (get_or P q 0) e z)
    go (inr e) ih = omega (arith, g.age q (h m) e)

-- where it stops there is a live row
stop_live : (T P : List ℕ) (L : ℕ → Bool) (s q : ℕ) → Grows T P → (s ≡ right.none → ⊥) → ((q ≡ right.none → ⊥) → q < length P) → Stop P L s q → (s < length P) × (L s ≡ true)
stop_live T P L s q g n h (ends e z) = absurd (n z)
stop_live T P L s q g n h (at m l z) = subst (λ (x : ℕ). (x < length P) × (L x ≡ true)) (sym z) (h m, l)
stop_live T P L s q g n h (over m l z) = stop_live T P L s (get_or P q 0) g n (g.inside q (h m)) z

-- c, which lives and leads down to w, has got the parent p, and the climb that mends ended at s
pub record Entry (T S P C M D U C' M' D₁ : List ℕ) (c p s w : ℕ) : Type 0 where
  pub kept : Kept T S P C M D U
  pub enters : Enters T P c p
  pub lives : live S C c ≡ true
  pub mended : Mended T S (set P c p) C' M'
  pub gained : Gained S (set P c p) C C' D D₁ p c w s
  pub w_in : w < length P
  pub w_low : Low (par_of P) (stands S C) (live S C) w c

module _ {T S P C M D U C' M' D₁ : List ℕ} {c p s w : ℕ} (en : Entry T S P C M D U C' M' D₁ c p s w) where
  -- where the climb ended at a row, it is a live one, older than c
  module _ (row : s ≡ right.none → ⊥) where
    stopped : (s < length (set P c p)) × (live S C s ≡ true)
    stopped = stop_live T (set P c p) (live S C) s p en.mended.grows row (λ n. omega (arith, en.enters.parent, length-set P c p)) en.gained.stop

    pub s_in : s < length P
    s_in = omega (arith, stopped.0, length-set P c p)

    pub s_lived : live S C s ≡ true
    s_lived = stopped.1

    pub s_older : get_or T c 0 < get_or T s 0
    s_older = omega (arith, en.enters.older, stop_rank T (set P c p) (live S C) s p en.mended.grows row (λ n. omega (arith, en.enters.parent, length-set P c p)) en.gained.stop)

  edge : (q : ℕ) → ((v : ℕ) → (v ≡ q → ⊥) → stands S C' v ≡ stands S C v) → (stands S C q ≡ true → stands S C' q ≡ true) → Edge (par_of P) (par_of (set P c p)) (stands S C) (stands S C') c p q
  edge q same more = record {
    before = no_parent P c en.enters.child en.enters.free;
    after = of_par (set P c p) c (omega (arith, length-set P c p, en.enters.child)) (λ y. omega (arith, y, set_c, en.kept.mended.shape.rows, en.enters.parent)) ∙ ap some set_c;
    off = par_off P c p;
    same = same;
    more = more;
  }
    where
      set_c : get_or (set P c p) c 0 ≡ p
      set_c = get_or-set_same P c p 0 en.enters.child

  lv : Lives (par_of P) (stands S C) (live S C)
  lv = lives T S P C M en.kept.mended.shape en.kept.mended.grows en.kept.mended.right

  -- s stands already, or is none: only w changes
  module _ (calm : (s ≡ right.none → ⊥) → stands S C s ≡ true) where
    pub steady : (v : ℕ) → stands S C' v ≡ stands S C v
    steady v = ⊎_elim (λ z. en.gained.all z v) (λ n. ⊎_elim (λ q. ap (stands S C') q ∙ en.gained.yes n ∙ sym (ap (stands S C) q ∙ calm n)) (λ m. en.gained.same v m) (eq? v s)) (eq? s right.none)

    pub same_up : UpOk S (set P c p) C' (set U w s)
    same_up = record {
      long = length-set U w s ∙ en.kept.up.long ∙ sym (length-set P c p);
      cell = insert_same (edge c (λ v n. steady v) (λ k. steady c ∙ k)) lv (λ (v : ℕ). get_or T v 0) (ranked T P en.kept.mended.grows) en.enters.older (stands_live S C) (λ (v : ℕ). opt (get_or U v 0)) (λ (v : ℕ). opt (get_or (set U w s) v 0)) en.kept.up.cell steady refl en.w_low
          en.gained.over
          (ap opt (get_or-set_same U w s 0 (omega (arith, en.w_in, en.kept.up.long))))
          (λ v a. ap opt (get_or-set_other U w v s 0 a));
      idle = λ v l n. get_or-set_other U w v s 0 (λ e. clash (steady w ∙ low_stands en.w_low) (ap (stands S C') (sym e) ∙ n)) ∙ en.kept.up.idle v (omega (arith, l, length-set P c p)) (sym (steady v) ∙ n);
    }

  -- s comes to stand, above w and z and below o
  module _ {z : ℕ} (o : ℕ) (row : s ≡ right.none → ⊥) (new : stands S C s ≡ false) (z_in : z < length P) (z_low : Low (par_of P) (stands S C) (live S C) z s) (o_over : Over (par_of (set P c p)) (stands S C') (opt o) s) where
    stood : stands S C' s ≡ true
    stood = en.gained.yes row

    other : (v : ℕ) → (v ≡ s → ⊥) → stands S C' v ≡ stands S C v
    other v n = en.gained.same v n

    w_s : w ≡ s → ⊥
    w_s y = clash (low_stands en.w_low) (ap (stands S C) y ∙ new)

    z_s : z ≡ s → ⊥
    z_s y = clash (low_stands z_low) (ap (stands S C) y ∙ new)

    long_2 : length (set (set U w s) z s) ≡ length P
    long_2 = length-set (set U w s) z s ∙ length-set U w s ∙ en.kept.up.long

    z_cell : get_or (set (set U w s) z s) z 0 ≡ s
    z_cell = get_or-set_same (set U w s) z s 0 (omega (arith, z_in, en.kept.up.long, length-set U w s))

    w_cell : (w ≡ z) ⊎ (w ≡ z → ⊥) → get_or (set (set U w s) z s) w 0 ≡ s
    w_cell (inl y) = ap (λ (x : ℕ). get_or (set (set U w s) z s) x 0) y ∙ z_cell
    w_cell (inr y) = get_or-set_other (set U w s) z w s 0 y ∙ get_or-set_same U w s 0 (omega (arith, en.w_in, en.kept.up.long))

    rest : (v : ℕ) → (v ≡ w → ⊥) → (v ≡ z → ⊥) → (v ≡ s → ⊥) → get_or (set (set (set U w s) z s) s o) v 0 ≡ get_or U v 0
    rest v a b d = get_or-set_other (set (set U w s) z s) s v o 0 d ∙ get_or-set_other (set U w s) z v s 0 b ∙ get_or-set_other U w v s 0 a

    pub stand_up : UpOk S (set P c p) C' (set (set (set U w s) z s) s o)
    stand_up = record {
      long = length-set (set (set U w s) z s) s o ∙ long_2 ∙ sym (length-set P c p);
      cell = insert_stand (edge s other (λ k. stood)) lv (λ (v : ℕ). get_or T v 0) (ranked T P en.kept.mended.grows) en.enters.older (stands_live S C) (λ (v : ℕ). opt (get_or U v 0)) (λ (v : ℕ). opt (get_or (set (set (set U w s) z s) s o) v 0)) en.kept.up.cell
          (s_older row) new stood en.w_low z_low
          (subst (λ (o : Option ℕ). Over (par_of (set P c p)) (stands S C') o c) (opt_some s row) en.gained.over)
          (ap opt (get_or-set_other (set (set U w s) z s) s w o 0 w_s ∙ w_cell (eq? w z)) ∙ opt_some s row)
          (ap opt (get_or-set_other (set (set U w s) z s) s z o 0 z_s ∙ z_cell) ∙ opt_some s row)
          (subst (λ (x : ℕ). Over (par_of (set P c p)) (stands S C') (opt x) s) (sym (get_or-set_same (set (set U w s) z s) s o 0 (omega (arith, s_in row, long_2)))) o_over)
          (λ v a b d. ap opt (rest v a b d));
      idle = λ v l n. rest v (not_up v n w (low_stands en.w_low) w_s) (not_up v n z (low_stands z_low) z_s) (off v n) ∙ en.kept.up.idle v (omega (arith, l, length-set P c p)) (sym (other v (off v n)) ∙ n);
    }
      where
        off : (v : ℕ) → stands S C' v ≡ false → v ≡ s → ⊥
        off v n e = clash stood (ap (stands S C') (sym e) ∙ n)

        not_up : (v : ℕ) → stands S C' v ≡ false → (x : ℕ) → stands S C x ≡ true → (x ≡ s → ⊥) → v ≡ x → ⊥
        not_up v n x k m e = clash (other x m ∙ k) (ap (stands S C') (sym e) ∙ n)

-- an edge of a row that does not live
pub dead_up : {T S P C M D U : List ℕ} {c p : ℕ} → Kept T S P C M D U → Enters T P c p → live S C c ≡ false → UpOk S (set P c p) C U
dead_up {T} {S} {P} {C} {M} {D} {U} {c} {p} k en n = record {
  long = k.up.long ∙ sym (length-set P c p);
  cell = λ v j. keep ed lv (λ x. clash (low_live x) n) (λ m x. clash (low_live x) n) (here j) (stands_live S C v j) (k.up.cell v j);
  idle = λ v l j. k.up.idle v (omega (arith, l, length-set P c p)) j;
}
  where
    lv : Lives (par_of P) (stands S C) (live S C)
    lv = lives T S P C M k.mended.shape k.mended.grows k.mended.right

    set_c : get_or (set P c p) c 0 ≡ p
    set_c = get_or-set_same P c p 0 en.child

    ed : Edge (par_of P) (par_of (set P c p)) (stands S C) (stands S C) c p c
    ed = record {
      before = no_parent P c en.child en.free;
      after = of_par (set P c p) c (omega (arith, length-set P c p, en.child)) (λ y. omega (arith, y, set_c, k.mended.shape.rows, en.parent)) ∙ ap some set_c;
      off = par_off P c p;
      same = λ v m. refl;
      more = λ j. j;
    }

    low_live : {x y : ℕ} → Low (par_of P) (stands S C) (live S C) x y → live S C y ≡ true
    low_live {x} (here t) = stands_live S C x t
    low_live (down a b l y) = (lives T S P C M k.mended.shape k.mended.grows k.mended.right).up b l
