-- `cleaner::trace::swept` meets its contract: the columns of its own are long enough.
use mathlib.Core.Path.{sym}
use Prim.Native.Nat.{ℕ}
use lib.ListN.{length, replicate, length-replicate}
use Rattle.cleaner.specs.Sweeping.{asked}
use Rattle.cleaner.proofs.Ranking.{cut}
use native.Mathlib.Omega.{arith}
use Rattle.cleaner.proofs.trace.swept.Goals as goal

pub sweep-requires : goal.sweep-requires
sweep-requires c = asked c.requires.0 _ c.requires.1 _ c.requires.2 (length (replicate {A = ℕ} 1024 0)) (omega (arith, length-replicate {A = ℕ} 1024 0, c.requires.0.few)) _ _ _ _ _ _ _ _ (sym (cut (length c.args.tables.ages.time.now) (replicate {A = ℕ} 1024 0) (omega (arith, length-replicate {A = ℕ} 1024 0, c.requires.0.few)))) (sym (cut (length c.args.tables.ages.time.now) (replicate {A = ℕ} 1024 0) (omega (arith, length-replicate {A = ℕ} 1024 0, c.requires.0.few)))) (sym (cut (length c.args.tables.ages.time.now) (replicate {A = ℕ} 1024 0) (omega (arith, length-replicate {A = ℕ} 1024 0, c.requires.0.few)))) (sym (cut (length c.args.tables.ages.time.now) (replicate {A = ℕ} 1024 0) (omega (arith, length-replicate {A = ℕ} 1024 0, c.requires.0.few)))) (sym (cut (length c.args.tables.ages.time.now) (replicate {A = ℕ} 1024 0) (omega (arith, length-replicate {A = ℕ} 1024 0, c.requires.0.few)))) (sym (cut (length c.args.tables.ages.time.now) (replicate {A = ℕ} 1024 0) (omega (arith, length-replicate {A = ℕ} 1024 0, c.requires.0.few)))) (sym (cut (length c.args.tables.ages.time.now) (replicate {A = ℕ} 1024 0) (omega (arith, length-replicate {A = ℕ} 1024 0, c.requires.0.few)))) (sym (cut (length c.args.tables.ages.time.now) (replicate {A = ℕ} 1024 0) (omega (arith, length-replicate {A = ℕ} 1024 0, c.requires.0.few))))

pub returns : goal.returns
returns c = c.sweep.ensures
