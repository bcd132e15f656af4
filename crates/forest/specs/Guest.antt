-- Two forests that agree on what is reached: what stands, the cleaned forest and low are the same.
use Rattle.std.specs.Prelude.{◌≡◌, Bool, false, List, ℕ, ◌≤◌}
use Rattle.std.proofs.Math.Path.{refl, ap, fun_ext}
use Rattle.std.proofs.Common.{sym, ◌∙◌}
use Rattle.std.proofs.Math.Bool.{true}
use Rattle.std.proofs.Math.Option.{none, some}
use Rattle.std.proofs.Math.Logic.{⊎_elim}
use Rattle.meaning.specs.Forest.{Par, Ages, Rules, reached, low, drawn}
use Rattle.laws.specs.Bools.{truth, none_some}
use Rattle.laws.specs.Facts.{In}
use Rattle.forest.specs.Lines.{here, step, trans}
use Rattle.forest.specs.Contract.{found, Contract, near_self}
use Rattle.forest.specs.TreeLaws.{Aged, Nodes, reached_of, of_reached}
use Rattle.forest.specs.Lowest.{Rule}
use Rattle.forest.specs.Redrawn.{contract_aged, redrawn, redrawn_low}
use Rattle.forest.specs.Profile.{Profile}

-- the part that is reached
unfoldable pub cut : Par → (ℕ → Bool) → Par
cut P R v = elim (R v) [ true ↦ P v | false ↦ none ]

module _ (P : Par) (rank : ℕ → ℕ) (ok : Aged P rank) (S : List ℕ) where
  pub cut_contract : Contract P (reached P S) (cut P (reached P S))
  unfolding cut
  cut_contract = record {
    child = λ {b} {w} e. yes b w e;
    into = λ {b} {w} e. let k : reached P S b ≡ true = yes b w e in let f : P b ≡ some w = (rw (k, cut) at e) in (w, f, found (over b w k f));
    onto = λ {b} {w} k u. rw (k, cut) (u.1 ∙ ap some (sym (near_self (over b u.0 k u.1) u.2)));
  }
    where
      yes : (b w : ℕ) → cut P (reached P S) b ≡ some w → reached P S b ≡ true
      yes b w e = ⊎_elim (λ k. k) (λ (k : reached P S b ≡ false). absurd (let h : none ≡ some w = (rw (k, cut) at e) in none_some refl h)) (truth (reached P S b))

      over : (b w : ℕ) → reached P S b ≡ true → P b ≡ some w → reached P S w ≡ true
      over b w k f = let r : _ = reached_of P rank ok S b k in of_reached P rank ok S w (r.0, r.1, trans (step f here) r.2)

-- two forests that agree on what is reached
module _ (rule : Rules) (pr : Profile rule) (P Q : Par) (rp rq : ℕ → ℕ) (ok_p : Aged P rp) (ok_q : Aged Q rq) (N M : List ℕ) (n_p : Nodes P N) (n_q : Nodes Q M) (S : List ℕ)
    (same : (b : ℕ) → reached P S b ≡ reached Q S b) (par : (b : ℕ) → reached P S b ≡ true → P b ≡ Q b) where
  one_cut : cut P (reached P S) ≡ cut Q (reached Q S)
  unfolding cut
  one_cut = fun_ext (λ b. ⊎_elim (λ (k : reached P S b ≡ true). rw (k, cut) (rw (sym (same b) ∙ k, cut) (par b k)))
      (λ (k : reached P S b ≡ false). rw (k, cut) (rw (sym (same b) ∙ k, cut))) (truth (reached P S b)))

  abbrev W : Par
  W = cut Q (reached Q S)

  c_p : Contract P (reached P S) W
  c_p = rw one_cut at (cut_contract P rp ok_p S)

  c_q : Contract Q (reached Q S) W
  c_q = cut_contract Q rq ok_q S

  n_w : Nodes W M
  n_w = record { once = n_q.once; listed = λ {b} {p} e. n_q.listed (c_q.into e).1 }

  sub_p : (v : ℕ) → rule N P S v ≡ true → reached P S v ≡ true
  sub_p v k = of_reached P rp ok_p S v ((pr.is_rule P rp ok_p N n_p S).only k)

  sub_q : (v : ℕ) → rule M Q S v ≡ true → reached Q S v ≡ true
  sub_q v k = of_reached Q rq ok_q S v ((pr.is_rule Q rq ok_q M n_q S).only k)

  stand_p : rule M W S ≡ rule N P S
  stand_p = pr.contracted P W (reached P S) rp c_p ok_p N M n_p n_w S (λ s m. of_reached P rp ok_p S s (s, m, here)) sub_p

  stand_q : rule M W S ≡ rule M Q S
  stand_q = pr.contracted Q W (reached Q S) rq c_q ok_q M M n_q n_w S (λ s m. of_reached Q rq ok_q S s (s, m, here)) sub_q

  pub guest_stands : rule N P S ≡ rule M Q S
  guest_stands = sym stand_p ∙ stand_q

  pub guest_forest : drawn P (rule N P S) ≡ drawn Q (rule M Q S)
  guest_forest = sym (redrawn P W (reached P S) rp c_p ok_p (rule N P S) sub_p) ∙ ap (drawn W) guest_stands ∙ redrawn Q W (reached Q S) rq c_q ok_q (rule M Q S) sub_q

  ru_wp : Rule W (In S) (rule N P S)
  ru_wp = rw stand_p at (pr.is_rule W rp (contract_aged rp c_p ok_p) M n_w S)

  ru_wq : Rule W (In S) (rule M Q S)
  ru_wq = rw stand_q at (pr.is_rule W rq (contract_aged rq c_q ok_q) M n_w S)

  pub guest_low : (u : ℕ) → rp u ≤ Ages → rq u ≤ Ages → reached P S u ≡ true → low N P (reached P S) (rule N P S) Ages u ≡ low M Q (reached Q S) (rule M Q S) Ages u
  guest_low u lp lq k =
      sym (redrawn_low P W (reached P S) rp c_p ok_p (rule N P S) sub_p S N M n_p n_w (pr.is_rule P rp ok_p N n_p S) ru_wp u u lp lp (record { in_set = k; below = here; all = λ m x. x }))
      ∙ ap (λ (F : ℕ → Bool). low M W (reached W S) F Ages u) guest_stands
      ∙ redrawn_low Q W (reached Q S) rq c_q ok_q (rule M Q S) sub_q S M M n_q n_w (pr.is_rule Q rq ok_q M n_q S) ru_wq u u lq lq (record { in_set = sym (same u) ∙ k; below = here; all = λ m x. x })
