use Rattle.std.proofs.Common.{drop}
use Rattle.cd_clause.specs.Clauses.{IsSameLiteral}
use Rattle.cd_list.specs.Lists.{Among}
use Rattle.cd_clause.proofs.tidying.is_among.Given as goal

abbrev pub invariant-loop-other : goal.invariant-loop-other
invariant-loop-other l = Among (IsSameLiteral l.l) l.others → Among (IsSameLiteral l.l) (drop l.other-index l.others)
