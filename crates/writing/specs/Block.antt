-- 13 by numbers with the block of a call from C, which comes after every table.
use Rattle.std.specs.Prelude.{◌≡◌, refl, Bool, true, false, List, [], ◌∷◌, ℕ, zero, suc, min, ◌<◌, ◌≤◌, ltb, length}
use Rattle.std.proofs.Common.{ap, arith, lt-ltb, le-ltb}
use Rattle.meaning.specs.Words.{or}
use Rattle.meaning.specs.Rows.{Tables}
use Rattle.meaning.specs.Answer.{Answer, answer, done, limits, refuse, accepted, room, lacks}
use Rattle.laws.specs.Bools.{clash}
use Rattle.meaning.specs.Lent.{fit_then, block_then}
use Rattle.writing.specs.declared.Needs.{Needs}
use Rattle.writing.specs.declared.Lengths.{Lengths}
use Rattle.writing.specs.Room.{needs_of, lent_by, room_answer}

-- an answer 13 is not 0
thirteen : {t : ℕ} → answer 13 t ≡ done → ⊥
thirteen e = let p : ◌≡◌ {A = ℕ} 13 0 = ap (λ (a : Answer). a.number) e in absurd (omega arith)

-- 13 with the lowest table that passes its limit or its room, then with 7
unfoldable pub room_within : Needs → Lengths → ℕ → Answer
unfolding refuse block_then
room_within n l cells =
    refuse (or (ltb limits.nodes n.nodes) (ltb (min l.time (min l.birth l.population)) n.nodes)) 13 1
    (refuse (or (ltb limits.edges n.edges) (ltb (min l.left (min l.right (min l.parent l.child))) n.edges)) 13 2
    (refuse (or (ltb limits.sites n.sites) (ltb (min l.position l.ancestral) n.sites)) 13 3
    (refuse (or (ltb limits.mutations n.mutations) (ltb (min l.site (min l.node l.derived)) n.mutations)) 13 4
    (refuse (or (ltb limits.nodes n.rows) (ltb l.nodemap n.rows)) 13 6 (block_then cells done)))))

-- so the answer of a call after its check
pub room_within-is : (new : Tables) (new_map : List ℕ) (out : Tables) (out_map : List ℕ) (cells : ℕ) → fit_then limits new out (refuse (lacks limits.nodes (out_map ∷ []) (length new_map)) 13 6 (block_then cells done)) ≡ room_within (needs_of new new_map) (lent_by out out_map) cells
unfolding fit_then lacks room room_within
room_within-is new new_map out out_map cells = refl

-- where the tables are refused, so is the call, and where none is, the block decides
after_all : (cells : ℕ) (a b c d f : Bool) → let all : Answer → Answer = λ rest. refuse a 13 1 (refuse b 13 2 (refuse c 13 3 (refuse d 13 4 (refuse f 13 6 rest)))) in
    (accepted (all done) ≡ false → all done ≡ all (block_then cells done)) × (all done ≡ done → all (block_then cells done) ≡ block_then cells done)
unfolding refuse accepted
after_all cells true b c d f = (λ n. refl, λ e. absurd (thirteen e))
after_all cells false true c d f = (λ n. refl, λ e. absurd (thirteen e))
after_all cells false false true d f = (λ n. refl, λ e. absurd (thirteen e))
after_all cells false false false true f = (λ n. refl, λ e. absurd (thirteen e))
after_all cells false false false false true = (λ n. refl, λ e. absurd (thirteen e))
after_all cells false false false false false = (λ n. absurd (clash refl n), λ e. refl)

pub block_after : (n : Needs) (l : Lengths) (cells : ℕ) → (accepted (room_answer n l) ≡ false → room_answer n l ≡ room_within n l cells) × (room_answer n l ≡ done → room_within n l cells ≡ block_then cells done)
unfolding room_answer room_within
block_after n l cells = after_all cells
    (or (ltb limits.nodes n.nodes) (ltb (min l.time (min l.birth l.population)) n.nodes))
    (or (ltb limits.edges n.edges) (ltb (min l.left (min l.right (min l.parent l.child))) n.edges))
    (or (ltb limits.sites n.sites) (ltb (min l.position l.ancestral) n.sites))
    (or (ltb limits.mutations n.mutations) (ltb (min l.site (min l.node l.derived)) n.mutations))
    (or (ltb limits.nodes n.rows) (ltb l.nodemap n.rows))

-- a short block is the last refusal, and a block of four cells is none
pub block_short : (cells : ℕ) → cells < 4 → answer 13 7 ≡ block_then cells done
unfolding block_then refuse
block_short cells h = rw (lt-ltb cells 4 h, block_then)

pub block_long : (cells : ℕ) → 4 ≤ cells → done ≡ block_then cells done
unfolding block_then refuse
block_long cells h = rw (le-ltb cells 4 h, block_then)
