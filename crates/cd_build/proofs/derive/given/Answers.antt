use Rattle.std.proofs.Common.{subst}
use Rattle.std.specs.Prelude.{Option}
use Rattle.std.specs.Option.{option_copied}
use Rattle.cd_clause.specs.declared.Clause.{Clause}
use Rattle.cd_fineness.specs.Fine.{IsReplay}
use Rattle.cd_ledger.specs.Records.{recorded}
use Rattle.cd_build.proofs.derive.given.Goals as goal

pub unreachable-requires : goal.unreachable-requires
unreachable-requires c =
    (subst (λ (o : Option Clause). IsReplay c.args.problem.now (λ n. recorded n c.args.known.now) (option_copied c.args.behind) c.args.step.now o) c.in-None.is c.in_ok-clause.ensures) c.requires.given.0 c.requires.given.1

pub returns : goal.returns
returns c =
    (subst (λ (o : Option Clause). IsReplay c.args.problem.now (λ n. recorded n c.args.known.now) (option_copied c.args.behind) c.args.step.now o) c.in-Some.is c.in_ok-clause.ensures).0
