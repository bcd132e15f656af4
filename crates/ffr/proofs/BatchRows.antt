-- As Rows, for a join: every row that its answer names is a number of four bytes.
use mathlib.Core.Path.{◌≡◌}
use mathlib.Core.List.{List, [], ◌∷◌}
use Prim.Native.Nat.{ℕ, ◌+◌, ◌<◌, ◌≤◌}
use native.Mathlib.Omega.{arith}
use lib.ListN.{length}
use Rattle.meaning.specs.Rows.{Tables}
use Rattle.meaning.specs.Answer.{Answer, limits, done, ragged}
use Rattle.meaning.specs.Lent.{fit_then, block_then}
use Rattle.meaning.specs.Join.{BatchTables, joined, batch_shapes, batch_sizes, batch_rules, join_answer}
use Rattle.ffr.proofs.Rows.{Low, low_if, low_row-is, low_even, low_few, low_fit, low_block, low_check}

-- the rows of a batch keep to the limits
record BatchSized (B : BatchTables) : Type 0 where
  nodes : length B.nodes.time ≤ 4294967296
  edges : length B.edges.left ≤ 4294967296
  muts : length B.muts.site ≤ 4294967296

low_batch_shapes : (B : BatchTables) (rest : Answer) → (length B.nodes.birth ≡ length B.nodes.time → Low rest) → Low (batch_shapes B rest)
unfolding batch_shapes
low_batch_shapes B rest h =
    low_even B.nodes.time B.nodes.birth (B.nodes.population ∷ []) 20 1 _ (omega arith) (λ b.
    low_if (ragged (B.edges.left ∷ B.edges.right ∷ B.edges.parent ∷ B.edges.child ∷ [])) 20 2 _ (omega arith) (λ _.
    low_if (ragged (B.muts.site ∷ B.muts.node ∷ B.muts.derived ∷ [])) 20 4 rest (omega arith) (λ _. h b)))

low_batch_sizes : (T : Tables) (B : BatchTables) (rest : Answer) → (BatchSized B → Low rest) → Low (batch_sizes limits T B rest)
unfolding batch_sizes
low_batch_sizes T B rest h =
    low_few limits.nodes (length T.nodes.time + length B.nodes.time) 21 1 _ (omega arith) (λ a.
    low_few limits.edges (length T.edges.left + length B.edges.left) 21 2 _ (omega arith) (λ b.
    low_few limits.mutations (length T.muts.site + length B.muts.site) 21 4 rest (omega arith) (λ c. h (record { nodes = omega (arith, a); edges = omega (arith, b); muts = omega (arith, c) }))))

low_batch_rules : (L : ℕ) (T : Tables) (B : BatchTables) (rest : Answer) → length B.nodes.birth ≡ length B.nodes.time → BatchSized B → Low rest → Low (batch_rules L T B rest)
unfolding batch_rules
low_batch_rules L T B rest b s h =
    let n : length B.nodes.birth ≤ 4294967296 = omega (arith, s.nodes) in
    low_row-is 22 _ _ _ n (low_row-is 23 _ _ _ s.edges (low_row-is 24 _ _ _ s.edges (low_row-is 25 _ _ _ s.muts (low_row-is 26 _ _ rest s.muts h))))

module _ (L : ℕ) (T : Tables) (B : BatchTables) (out : Tables) (cells : ℕ) where
  -- what comes after the batch's rules, after its sizes, and after its shapes
  abbrev fit_next : Answer
  fit_next = fit_then limits (joined L T B) out (block_then cells done)

  abbrev rules_then : Answer
  rules_then = batch_rules L T B fit_next

  abbrev sizes_then : Answer
  sizes_then = batch_sizes limits T B rules_then

  pub low_join : Low (join_answer limits L T B out cells)
  unfolding join_answer
  low_join = low_check L T (batch_shapes B sizes_then) (λ _. low_batch_shapes B sizes_then (λ b. low_batch_sizes T B rules_then (λ s. low_batch_rules L T B fit_next b s (low_fit (joined L T B) out (block_then cells done) (low_block cells)))))
