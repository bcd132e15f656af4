-- `ffr::alleles::ffr_alleles_v2` meets its contract: a refusal packed, or 0.
use Rattle.ffr.proofs.Panels.{row_small, call_refused, call_done}
use Rattle.ffr.proofs.genotypes.ffr_alleles_v2.Goals as goal

pub pack-requires : goal.pack-requires
pack-requires c = row_small _ _ _ _ _ _ _ _ _ c.alleles.ensures c.in-Err.is

pub returns-in-Err : goal.returns-in-Err
returns-in-Err c = call_refused _ _ _ _ _ _ _ _ _ c.alleles.ensures c.in-Err.is c.pack.ensures

pub returns-in-Ok : goal.returns-in-Ok
returns-in-Ok c = call_done _ _ _ _ _ _ _ _ _ c.alleles.ensures c.in-Ok.is
