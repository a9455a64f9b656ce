use Rattle.cd_infer.proofs.InstanceLemmas.{resolvents_are_most_general, factors_are_most_general, reflexives_are_most_general, equality_factors_are_most_general, paramodulants_are_most_general}
use Rattle.cd_infer.proofs.laws.most_general.Goals as goal

pub returns-clause-resolution : goal.returns-clause-resolution
returns-clause-resolution c = resolvents_are_most_general

pub returns-clause-factoring : goal.returns-clause-factoring
returns-clause-factoring c = factors_are_most_general

pub returns-clause-reflexivity : goal.returns-clause-reflexivity
returns-clause-reflexivity c = reflexives_are_most_general

pub returns-clause-equality_factoring : goal.returns-clause-equality_factoring
returns-clause-equality_factoring c = equality_factors_are_most_general

pub returns-clause-paramodulation : goal.returns-clause-paramodulation
returns-clause-paramodulation c = paramodulants_are_most_general
