use Rattle.cd_clause.proofs.TidyMeasures.{tidied_measured}
use Rattle.cd_clause.proofs.tidying.measure_tidied.Goals as goal

pub returns : goal.returns
returns c = tidied_measured c.args.c.now c.as_slice.result.now c.measure_kept.result c.as_slice.ensures c.measure_kept.ensures
