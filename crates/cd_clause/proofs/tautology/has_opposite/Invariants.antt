use Rattle.std.proofs.Common.{drop}
use Rattle.cd_clause.specs.Clauses.{AreOpposite}
use Rattle.cd_list.specs.Lists.{Among}
use Rattle.cd_clause.proofs.tautology.has_opposite.Given as goal

abbrev pub invariant-loop-other : goal.invariant-loop-other
invariant-loop-other l = Among (AreOpposite l.l) l.others → Among (AreOpposite l.l) (drop l.other-index l.others)
