use Rattle.cd_term.proofs.Substitutions.{substituted-substituted, substituted-identity}
use Rattle.cd_term.proofs.Occurrence.{substituted-agree, substituted-unbound}
use Rattle.cd_term.proofs.VariableLaws.{applied-applied, agrees-substituted}
use Rattle.cd_term.proofs.laws.substitutions.Goals as goal

pub returns-clause-composed : goal.returns-clause-composed
returns-clause-composed c = (substituted-substituted, applied-applied, substituted-identity)

pub returns-clause-agreeing : goal.returns-clause-agreeing
returns-clause-agreeing c = λ g h t. (substituted-agree g h t, λ same n o. agrees-substituted g h n t same o)

pub returns-clause-absent : goal.returns-clause-absent
returns-clause-absent c = substituted-unbound
