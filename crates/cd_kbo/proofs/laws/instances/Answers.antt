use Rattle.cd_kbo.proofs.Stable.{greater_stable, greater_has_variables, never_both}
use Rattle.cd_kbo.proofs.laws.instances.Goals as goal

pub returns-clause-greater : goal.returns-clause-greater
returns-clause-greater c = greater_stable

pub returns-clause-variables : goal.returns-clause-variables
returns-clause-variables c = greater_has_variables

pub returns-clause-one_way : goal.returns-clause-one_way
returns-clause-one_way c = never_both
