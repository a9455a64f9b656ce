use Rattle.cd_unify.proofs.MatchLemmas.{nothing_fits}
use Rattle.cd_unify.proofs.bindings.Bindings.new.Goals as goal

pub returns-clause-free : goal.returns-clause-free
returns-clause-free c = nothing_fits _ c.in_ok-values.ensures.none
