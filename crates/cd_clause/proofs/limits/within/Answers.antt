use Rattle.cd_clause.proofs.LimitLemmas.{within_measured}
use Rattle.cd_clause.proofs.limits.within.Goals as goal

pub returns : goal.returns
returns c = within_measured _ _ _ _ _ c.as_slice.ensures c.as_slice-2.ensures c.is_some.ensures c.measure_literals-measured.ensures
