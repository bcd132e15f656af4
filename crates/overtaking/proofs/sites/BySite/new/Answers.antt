-- `BySite::new` meets its contract: times fit, and the tables are not too large.
use native.Mathlib.Omega.{arith}
use Rattle.overtaking.proofs.sites.BySite.new.Goals as goal

pub invariant_of-result : goal.invariant_of-result
invariant_of-result c = record {
  ordered = record {
    young = λ v. omega (arith, c.type_inv.time v);
    rightwards = c.requires.2;
    lined = c.requires.3;
    few = omega (arith, c.requires.0);
    few_sites = omega (arith, c.requires.1);
  };
}
