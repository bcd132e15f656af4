-- The bytes of the single calls by rows: of the fish's row and the site's columns.
use Rattle.std.specs.Prelude.{◌≡◌, Bool, List, ℕ, ◌+◌, ◌*◌, ◌<◌, length, get_or}
use Rattle.std.proofs.Math.Path.{refl, ap}
use Rattle.std.proofs.Common.{sym, ◌∙◌, arith}
use Rattle.std.proofs.Math.Bool.{true, false}
use Rattle.meaning.specs.Words.{at, mem, index_of}
use Rattle.meaning.specs.Rows.{Tables, record_of}
use Rattle.meaning.specs.Answer.{Stated, done, absent}
use Rattle.meaning.specs.Allele.{allele_at, missing_at, stated}
use Rattle.meaning.specs.Panel.{state_bytes, flag_bytes, flag}
use Rattle.laws.specs.Members.{index_at, index_below}
use Rattle.alleles.specs.Reading.{Readable}
use Rattle.alleles.specs.ByRows.{carried_allele, missing_row-is}
use Rattle.alleles.specs.Call.{read_of, read_allele, reads}
use Rattle.carrying.specs.Cells.{missing_cell, carried_cell, state_cell, flag_cell}
use Rattle.blocks.specs.Block.{length_cells, cell_there, get_map}
use Rattle.blocks.specs.Lists.{readings, AllThere}

-- the row of fish a of a list
abbrev pub row_of : Tables → List ℕ → ℕ → ℕ
row_of T fish a = index_of (at fish a) T.nodes.birth

-- the bytes of fish a and site c, by their places in the lists
abbrev pub state_byte : Tables → List ℕ → List ℕ → ℕ → ℕ → ℕ
state_byte T sites fish a c = state_cell T (at sites c) (row_of T fish a)

abbrev pub flag_byte : Tables → List ℕ → List ℕ → ℕ → ℕ → ℕ
flag_byte T sites fish a c = flag_cell T (at sites c) (row_of T fish a)

-- what was read, byte by byte
state_of : (missing : Bool) (s : ℕ) → (stated done missing s).state ≡ elim missing [ true ↦ 0 | false ↦ s ]
unfolding stated
state_of missing s = refl

flag_of : (missing : Bool) (s : ℕ) → flag (stated done missing s).missing ≡ elim missing [ true ↦ 1 | false ↦ 0 ]
unfolding stated flag
flag_of true s = refl
flag_of false s = refl

module _ (L : ℕ) (T : Tables) (by : List ℕ) (ok : Readable L T by) (i u : ℕ) (there : i < length T.sites.position) (row : u < length T.nodes.time) where
  missing_is : missing_cell T i u ≡ missing_at (record_of L T) i (at T.nodes.birth u)
  unfolding missing_cell
  missing_is = missing_row-is L T by ok i (length T.nodes.time) there (omega arith) _ _ refl refl u row

  carried_is : carried_cell T i u ≡ allele_at (record_of L T) i (at T.nodes.birth u)
  unfolding carried_cell
  carried_is = carried_allele L T by ok i (length T.nodes.time) there (omega arith) _ _ refl refl u row

module _ (L : ℕ) (T : Tables) (by : List ℕ) (ok : Readable L T by) (i b : ℕ) (there : i < length T.sites.position) (known : mem b T.nodes.birth ≡ true) where
  abbrev u : ℕ
  u = index_of b T.nodes.birth

  row : u < length T.nodes.time
  row = omega (arith, index_below b T.nodes.birth known, ok.births_long)

  named : at T.nodes.birth u ≡ b
  named = index_at b T.nodes.birth known

  read : read_allele L T i b ≡ read_of L T i b done
  read = reads L T i b there known

  pub state_read : (read_allele L T i b).state ≡ state_cell T i u
  unfolding state_cell
  state_read =
      ap (λ (s : Stated). s.state) read
      ∙ state_of (missing_at (record_of L T) i b) (allele_at (record_of L T) i b)
      ∙ ap (λ (b : ℕ). elim (missing_at (record_of L T) i b) [ true ↦ 0 | false ↦ allele_at (record_of L T) i b ]) (sym named)
      ∙ ap (λ (m : Bool). elim m [ true ↦ 0 | false ↦ allele_at (record_of L T) i (at T.nodes.birth u) ]) (sym (missing_is L T by ok i u there row))
      ∙ ap (λ (s : ℕ). elim (missing_cell T i u) [ true ↦ 0 | false ↦ s ]) (sym (carried_is L T by ok i u there row))

  pub flag_read : flag (read_allele L T i b).missing ≡ flag_cell T i u
  unfolding flag_cell
  flag_read =
      ap (λ (s : Stated). flag s.missing) read
      ∙ flag_of (missing_at (record_of L T) i b) (allele_at (record_of L T) i b)
      ∙ ap (λ (b : ℕ). elim (missing_at (record_of L T) i b) [ true ↦ 1 | false ↦ 0 ]) (sym named)
      ∙ ap (λ (m : Bool). elim m [ true ↦ 1 | false ↦ 0 ]) (sym (missing_is L T by ok i u there row))

-- ---- all cells

module _ (L : ℕ) (T : Tables) (by : List ℕ) (ok : Readable L T by) (sites fish : List ℕ) (all : AllThere (length T.sites.position) T.nodes.birth sites fish) where
  pub readings_long : length (readings L T sites fish) ≡ length fish * length sites
  unfolding readings
  readings_long = length_cells (read_allele L T) sites fish

  reading_there : (a c : ℕ) → a < length fish → c < length sites → get_or (readings L T sites fish) (a * length sites + c) absent ≡ read_allele L T (at sites c) (at fish a)
  unfolding readings
  reading_there a c h k = cell_there (read_allele L T) sites absent fish a c h k

  module _ (a c : ℕ) (h : a < length fish) (k : c < length sites) (inside : a * length sites + c < length (readings L T sites fish)) where
    pub state_there : at (state_bytes (readings L T sites fish)) (a * length sites + c) ≡ state_byte T sites fish a c
    state_there =
        get_map (λ (s : Stated). s.state) 0 absent (readings L T sites fish) (a * length sites + c) inside
        ∙ ap (λ (s : Stated). s.state) (reading_there a c h k)
        ∙ state_read L T by ok (at sites c) (at fish a) (all.sites_there c k) (all.fish_known a h)

    pub flag_there : at (flag_bytes (readings L T sites fish)) (a * length sites + c) ≡ flag_byte T sites fish a c
    flag_there =
        get_map (λ (s : Stated). flag s.missing) 0 absent (readings L T sites fish) (a * length sites + c) inside
        ∙ ap (λ (s : Stated). flag s.missing) (reading_there a c h k)
        ∙ flag_read L T by ok (at sites c) (at fish a) (all.sites_there c k) (all.fish_known a h)
