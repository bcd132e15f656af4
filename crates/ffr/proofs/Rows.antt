-- Every row that an answer names is a number of four bytes: a table, or a row of a table that keeps to its limit.
use mathlib.Core.Path.{◌≡◌, refl}
use mathlib.Core.Bool.{Bool, true, false}
use mathlib.Core.List.{List, [], ◌∷◌}
use Prim.Native.Nat.{ℕ, ◌<◌, ◌≤◌}
use native.Mathlib.Omega.{arith}
use lib.Dec.{ltb}
use lib.ListN.{length}
use borrow.Author.Tests.{ltb-true, ltb-false}
use Rattle.meaning.specs.Words.{lowest}
use Rattle.meaning.specs.Rows.{Tables}
use Rattle.meaning.specs.Forest.{Rules}
use Rattle.meaning.specs.Answer.{Answer, limits, done, refuse, refuse_row, ragged, lacks}
use Rattle.meaning.specs.Lent.{fit_then, block_then}
use Rattle.meaning.specs.Check.{length_broken, shapes, sizes, tree_rules, site_rules, rules, check_then, sample_rules, check_all_then}
use Rattle.meaning.specs.Clean.{cleaned, node_map, clean_answer}
use Rattle.accepted.specs.Refusals.{of_done, pass, passed_even, first_of-is}
use Rattle.accepted.specs.Checked.{Sized}

abbrev pub Low : Answer → Type 0
Low a = a.row < 4294967296

-- ---- one refusal

pub low_if : (t : Bool) (n r : ℕ) (rest : Answer) → r < 4294967296 → (t ≡ false → Low rest) → Low (refuse t n r rest)
unfolding refuse
low_if true n r rest l h = l
low_if false n r rest l h = h refl

pub low_row-is : (n : ℕ) (broken : ℕ → Bool) (m : ℕ) (rest : Answer) → m ≤ 4294967296 → Low rest → Low (refuse_row n broken m rest)
unfolding refuse_row refuse
low_row-is n broken m rest l h = go (ltb (lowest broken m) m) refl
  where
    go : (t : Bool) → ltb (lowest broken m) m ≡ t → Low (refuse t n (lowest broken m) rest)
    go true e = omega (arith, ltb-true (lowest broken m) m e)
    go false e = h

-- columns of one length
pub low_even : (c d : List ℕ) (l : List (List ℕ)) (n r : ℕ) (rest : Answer) → r < 4294967296 → (length d ≡ length c → Low rest) → Low (refuse (ragged (c ∷ d ∷ l)) n r rest)
low_even c d l n r rest k h = low_if (ragged (c ∷ d ∷ l)) n r rest k (λ e. h (first_of-is (passed_even c (d ∷ l) 1 1 done (omega arith) (of_done _ (pass (ragged (c ∷ d ∷ l)) 1 1 done e))).0))

-- rows that keep to a limit
pub low_few : (most rows n r : ℕ) (rest : Answer) → r < 4294967296 → (rows ≤ most → Low rest) → Low (refuse (ltb most rows) n r rest)
low_few most rows n r rest k h = low_if (ltb most rows) n r rest k (λ e. h (ltb-false most rows e))

-- ---- the groups of the check

pub low_shapes : (T : Tables) (rest : Answer) → (length T.nodes.birth ≡ length T.nodes.time → Low rest) → Low (shapes T rest)
unfolding shapes
low_shapes T rest h = low_even T.nodes.time T.nodes.birth (T.nodes.population ∷ []) 1 1 _ (omega arith) (λ b. low_if (ragged (T.edges.left ∷ T.edges.right ∷ T.edges.parent ∷ T.edges.child ∷ [])) 1 2 _ (omega arith) (λ _. low_if (ragged (T.sites.position ∷ T.sites.ancestral ∷ [])) 1 3 _ (omega arith) (λ _. low_if (ragged (T.muts.site ∷ T.muts.node ∷ T.muts.derived ∷ [])) 1 4 rest (omega arith) (λ _. h b))))

pub low_sizes : (T : Tables) (rest : Answer) → (Sized limits T → Low rest) → Low (sizes limits T rest)
unfolding sizes
low_sizes T rest h = low_few limits.nodes (length T.nodes.time) 2 1 _ (omega arith) (λ a. low_few limits.edges (length T.edges.left) 2 2 _ (omega arith) (λ b. low_few limits.sites (length T.sites.position) 2 3 _ (omega arith) (λ c. low_few limits.mutations (length T.muts.site) 2 4 rest (omega arith) (λ d. h (record { nodes = a; edges = b; sites = c; muts = d })))))

pub low_rules : (L : ℕ) (T : Tables) (rest : Answer) → length T.nodes.birth ≡ length T.nodes.time → Sized limits T → Low rest → Low (rules L T rest)
unfolding rules tree_rules site_rules
low_rules L T rest b s h =
    let n : length T.nodes.birth ≤ 4294967296 = omega (arith, s.nodes) in
    let e : length T.edges.left ≤ 4294967296 = omega (arith, s.edges) in
    let p : length T.sites.position ≤ 4294967296 = omega (arith, s.sites) in
    let m : length T.muts.site ≤ 4294967296 = omega (arith, s.muts) in
    low_if (length_broken L) 3 0 _ (omega arith) (λ _. low_row-is 4 _ _ _ n (low_row-is 5 _ _ _ e (low_row-is 6 _ _ _ e (low_row-is 7 _ _ _ e (low_row-is 8 _ _ _ p (low_row-is 9 _ _ _ m (low_row-is 10 _ _ rest m h)))))))

pub low_samples : (birth S : List ℕ) (rest : Answer) → length S ≤ 4294967296 → Low rest → Low (sample_rules birth S rest)
unfolding sample_rules
low_samples birth S rest l h = low_row-is 11 _ _ _ l (low_row-is 12 _ _ rest l h)

-- ---- 13

pub low_fit : (new out : Tables) (rest : Answer) → Low rest → Low (fit_then limits new out rest)
unfolding fit_then
low_fit new out rest h =
    low_if (lacks limits.nodes (out.nodes.time ∷ out.nodes.birth ∷ out.nodes.population ∷ []) (length new.nodes.time)) 13 1 _ (omega arith) (λ _.
    low_if (lacks limits.edges (out.edges.left ∷ out.edges.right ∷ out.edges.parent ∷ out.edges.child ∷ []) (length new.edges.left)) 13 2 _ (omega arith) (λ _.
    low_if (lacks limits.sites (out.sites.position ∷ out.sites.ancestral ∷ []) (length new.sites.position)) 13 3 _ (omega arith) (λ _.
    low_if (lacks limits.mutations (out.muts.site ∷ out.muts.node ∷ out.muts.derived ∷ []) (length new.muts.site)) 13 4 rest (omega arith) (λ _. h))))

pub low_block : (cells : ℕ) → Low (block_then cells done)
unfolding block_then
low_block cells = low_if (ltb cells 4) 13 7 done (omega arith) (λ _. omega arith)

-- ---- the calls

-- 1 to 10 of a base, and then what comes after
pub low_check : (L : ℕ) (T : Tables) (rest : Answer) → (Sized limits T → Low rest) → Low (check_then limits L T rest)
unfolding check_then
low_check L T rest h = low_shapes T _ (λ b. low_sizes T _ (λ s. low_rules L T rest b s (h s)))

pub low_clean : (rule : Rules) (L : ℕ) (T : Tables) (S : List ℕ) (out : Tables) (out_map : List ℕ) (cells : ℕ) → Low (clean_answer rule limits L T S out out_map cells)
unfolding clean_answer check_all_then
low_clean rule L T S out out_map cells = low_shapes T _ (λ b. low_sizes T _ (λ s. low_few limits.samples (length S) 2 5 _ (omega arith) (λ k. low_rules L T _ b s (low_samples T.nodes.birth S _ (omega (arith, k)) (low_fit (cleaned rule L T S) out _ (low_if (lacks limits.nodes (out_map ∷ []) (length (node_map rule L T S))) 13 6 _ (omega arith) (λ _. low_block cells)))))))
