use Rattle.std.proofs.Common.{refl}
use Rattle.cd_kbo.specs.Kbo.{Every}
use Rattle.cd_kbo.proofs.KboLemmas.{above, agree, irreflexive}
use Rattle.cd_kbo.proofs.laws.knuth_bendix_order.Goals as goal

pub returns-clause-above : goal.returns-clause-above
returns-clause-above c = above Every

pub returns-clause-ground : goal.returns-clause-ground
returns-clause-ground c = agree

pub returns-clause-irreflexive : goal.returns-clause-irreflexive
returns-clause-irreflexive c = λ o t g. irreflexive Every o t t g refl
