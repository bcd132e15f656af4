-- The call after the check of the tables: what it gives and leaves, outcome by outcome.
use Rattle.std.specs.Prelude.{◌≡◌, Bool, ◌⊎◌, ltb, Ok, Err}
use Rattle.std.proofs.Math.Path.{refl, sym, ap}
use Rattle.std.proofs.Common.{◌∙◌, inl, inr, zero-mul, mul-zero, lt-ltb, le-ltb}
use Rattle.std.proofs.Math.Bool.{true, false}
use mathlib.Core.List.{List, [], ◌∷◌}
use Prim.Native.Nat.{ℕ, ◌+◌, ◌*◌, ◌<◌, ◌≤◌, min}
use native.Mathlib.Omega.{arith}
use Rattle.std.proofs.Math.ListN.{length}
use Rattle.std.proofs.lemmas.List.{length-map}
use Rattle.meaning.specs.Words.{at, index_of}
use Rattle.meaning.specs.Rows.{Tables}
use Rattle.meaning.specs.Answer.{Answer, Stated, answer, done, refuse, accepted, room, put, left_by, refusal_of}
use Rattle.meaning.specs.Panel.{PanelOutcome, panel_of, panel_end, bytes_by, first_refused, state_bytes, flag_bytes, flag}
use Rattle.meaning.specs.declared.Refusal.{Refusal}
use Rattle.meaning.specs.declared.Refusal.TheVariants.{NoRoom}
use Rattle.alleles.specs.Reading.{Readable}
use Rattle.alleles.specs.Call.{read_allele}
use Rattle.blocks.specs.Block.{FishWritten, all_written, row_below, length_cells}
use Rattle.blocks.specs.Lists.{readings, AllThere, FirstIs, all_there}
use Rattle.panel.specs.Rows.{state_byte, flag_byte, readings_long, state_there, flag_there}

-- each mutation names a site that is there: part of what 9 finds
pub record SitesNamed (most : ℕ) (site : List ℕ) : Type 0 where
  pub there : (j : ℕ) → j < length site → at site j < most

-- k rows found: those of the fish of a list from base on
pub record RowsFound (birth fish : List ℕ) (base k : ℕ) (rows : List ℕ) : Type 0 where
  pub row : (a : ℕ) → a < k → at rows a ≡ index_of (at fish (base + a)) birth

-- 13 with row 7 where one of the blocks is short of so many cells
abbrev pub room_then : List ℕ → List ℕ → ℕ → Answer
room_then states flags need = refuse (ltb (room (states ∷ flags ∷ [])) need) 13 7 done

-- all that the call gives and leaves where the check refuses nothing
unfoldable pub after_check : ℕ → Tables → List ℕ → List ℕ → List ℕ → List ℕ → PanelOutcome
unfolding panel_end first_refused readings refuse room
after_check L T sites fish states flags = panel_end (first_refused (readings L T sites fish) (room_then states flags (length (readings L T sites fish)))) (readings L T sites fish) states flags

-- ---- by the answer

module _ (cells : List Stated) (states flags : List ℕ) where
  pub end_refused : (a : Answer) → accepted a ≡ false → panel_end a cells states flags ≡ record { answer = a; bytes = 0; states = states; flags = flags }
  unfolding panel_end bytes_by left_by
  end_refused a e = ap (λ (t : Bool). record { answer = a; bytes = elim t [ true ↦ length cells | false ↦ 0 ]; states = elim t [ true ↦ put (state_bytes cells) states | false ↦ states ]; flags = elim t [ true ↦ put (flag_bytes cells) flags | false ↦ flags ] }) e

  pub end_done : panel_end done cells states flags ≡ record { answer = done; bytes = length cells; states = put (state_bytes cells) states; flags = put (flag_bytes cells) flags }
  unfolding panel_end bytes_by left_by accepted
  end_done = refl

  short_room : (need : ℕ) → (length states < need) ⊎ (length flags < need) → room_then states flags need ≡ answer 13 7
  unfolding refuse room
  short_room need (inl h) = let q : min (length states) (length flags) < need = omega arith in rw (lt-ltb (min (length states) (length flags)) need q)
  short_room need (inr h) = let q : min (length states) (length flags) < need = omega arith in rw (lt-ltb (min (length states) (length flags)) need q)

  enough_room : (need : ℕ) → need ≤ length states → need ≤ length flags → room_then states flags need ≡ done
  unfolding refuse room
  enough_room need h k = let q : need ≤ min (length states) (length flags) = omega arith in rw (le-ltb (min (length states) (length flags)) need q)

module _ (L : ℕ) (T : Tables) (sites fish states flags : List ℕ) where
  abbrev cells : List Stated
  cells = readings L T sites fish

  by_answer : (a : Answer) → first_refused cells (room_then states flags (length cells)) ≡ a → after_check L T sites fish states flags ≡ panel_end a cells states flags
  unfolding after_check
  by_answer a e = ap (λ (a : Answer). panel_end a cells states flags) e

  -- one of the lists is empty: no single call
  pub nothing : (length sites ≡ 0) ⊎ (length fish ≡ 0) → panel_of (Ok 0) states flags ≡ after_check L T sites fish states flags
  unfolding readings first_refused put
  nothing h = sym (by_answer done (ap (λ (l : List Stated). first_refused l (room_then states flags (length l))) empty ∙ enough_room cells states flags 0 (omega arith) (omega arith)) ∙ ap (λ (l : List Stated). panel_end done l states flags) empty ∙ end_done [] states flags)
    where
      none_at_all : {A : Type 0} (l : List A) → length l ≡ 0 → l ≡ []
      none_at_all [] e = refl
      none_at_all (a ∷ l) e = absurd (omega arith)

      none : (length sites ≡ 0) ⊎ (length fish ≡ 0) → length fish * length sites ≡ 0
      none (inl e) = ap (λ k. length fish * k) e ∙ mul-zero (length fish)
      none (inr e) = ap (λ k. k * length sites) e ∙ zero-mul (length sites)

      empty : cells ≡ []
      empty = none_at_all cells (length_cells (read_allele L T) sites fish ∙ none h)

  -- a single call that is refused
  pub first_refused-is : (x : Refusal) → accepted (refusal_of x) ≡ false → FirstIs (length T.sites.position) T.nodes.birth sites fish x → panel_of (Err x) states flags ≡ after_check L T sites fish states flags
  first_refused-is x r f = sym (by_answer (refusal_of x) (f.refused L T refl refl (room_then states flags (length cells))) ∙ end_refused cells states flags (refusal_of x) r)

  module _ (by : List ℕ) (ok : Readable L T by) (all : AllThere (length T.sites.position) T.nodes.birth sites fish) where
    need : length cells ≡ length fish * length sites
    need = readings_long L T by ok sites fish all

    -- one of the blocks is short
    pub no_room : (length states < length fish * length sites) ⊎ (length flags < length fish * length sites) → panel_of (Err (NoRoom 7)) states flags ≡ after_check L T sites fish states flags
    unfolding accepted
    no_room h = sym
        (by_answer (answer 13 7) (all_there L T sites fish (room_then states flags (length cells)) all.sites_there all.fish_known ∙ ap (room_then states flags) need ∙ short_room cells states flags (length fish * length sites) h)
        ∙ end_refused cells states flags (answer 13 7) refl)

    -- all is written
    pub all_done : (n : ℕ) (states' flags' : List ℕ) → n ≡ length fish * length sites → n ≤ length states → n ≤ length flags → FishWritten (state_byte T sites fish) (length sites) (length fish) states states' → FishWritten (flag_byte T sites fish) (length sites) (length fish) flags flags' → panel_of (Ok n) states' flags' ≡ after_check L T sites fish states flags
    all_done n states' flags' e h k u v = sym
        (by_answer done (all_there L T sites fish (room_then states flags (length cells)) all.sites_there all.fish_known ∙ enough_room cells states flags (length cells) (omega (arith, need)) (omega (arith, need)))
        ∙ end_done cells states flags
        ∙ same)
      where
        inside : (a c : ℕ) → a < length fish → c < length sites → a * length sites + c < length cells
        inside a c l m = omega (arith, need, row_below (length sites) a (length fish) l)

        states_are : states' ≡ put (state_bytes cells) states
        states_are = all_written (state_byte T sites fish) (length sites) (length fish) (state_bytes cells) states states' (length-map cells (λ (s : Stated). s.state) ∙ need) (omega arith) (λ a c l m. state_there L T by ok sites fish all a c l m (inside a c l m)) u

        flags_are : flags' ≡ put (flag_bytes cells) flags
        flags_are = all_written (flag_byte T sites fish) (length sites) (length fish) (flag_bytes cells) flags flags' (length-map cells (λ (s : Stated). flag s.missing) ∙ need) (omega arith) (λ a c l m. flag_there L T by ok sites fish all a c l m (inside a c l m)) v

        same : ◌≡◌ {A = PanelOutcome} (record { answer = done; bytes = length cells; states = put (state_bytes cells) states; flags = put (flag_bytes cells) flags }) (record { answer = done; bytes = n; states = states'; flags = flags' })
        same = λ i. record { answer = done; bytes = (need ∙ sym e) i; states = sym states_are i; flags = sym flags_are i }
