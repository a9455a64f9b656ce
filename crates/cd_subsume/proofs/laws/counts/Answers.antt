use Rattle.cd_subsume.proofs.Counts.{no_more}
use Rattle.cd_subsume.proofs.Growing.{signs_count, sizes_grow}
use Rattle.cd_subsume.proofs.laws.counts.Goals as goal

pub returns-clause-subsumers : goal.returns-clause-subsumers
returns-clause-subsumers c = no_more

pub returns-clause-signs : goal.returns-clause-signs
returns-clause-signs c = signs_count

pub returns-clause-sizes : goal.returns-clause-sizes
returns-clause-sizes c = sizes_grow
