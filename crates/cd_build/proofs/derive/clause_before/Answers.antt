use Rattle.std.proofs.Common.{Option, ap, sym, ◌∙◌}
use Rattle.std.specs.Prelude.{option_map}
use Rattle.cd_acts.proofs.Names.{recorded_at, recorded_others}
use Rattle.cd_ledger.specs.declared.records.Record.{Record}
use Rattle.cd_build.specs.declared.derive.Before.{Before}
use Rattle.cd_build.specs.Building.{clause_before}
use Rattle.cd_build.proofs.derive.clause_before.Goals as goal

pub returns-in-None : goal.returns-in-None
returns-in-None c =
    sym (ap (λ (b : Before). clause_before c.args.known.now c.args.lines.now b) c.in-Copied.is ∙ ap (λ (o : Option Record). option_map (λ r. r.clause) o) (recorded_others c.in-Copied.n c.args.known.now c.in-None.ensures))

pub returns-in-Some : goal.returns-in-Some
returns-in-Some c =
    sym (ap (λ (b : Before). clause_before c.args.known.now c.args.lines.now b) c.in-Copied.is ∙ ap (λ (o : Option Record). option_map (λ r. r.clause) o) (recorded_at c.in-Copied.n c.args.known.now c.in-Some.found.0 c.in-Some.found.1.now c.in-Some.ensures))
