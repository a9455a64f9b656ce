-- The laws over runs, with nothing assumed of the rules.
use Rattle.cd_laws.proofs.Final.{lawful, nothing_rejected, end_declared}
use Rattle.cd_laws.proofs.Measure.{runs_fall}
use Rattle.cd_laws.proofs.Schedule.{runs_schedule, schedules_end}
use Rattle.cd_laws.proofs.Turns.{runs_turn}
use Rattle.cd_effects.proofs.Effects.{effects}
use Rattle.cd_alone.proofs.Runs.{alone_lawful}
use Rattle.cd_alone.proofs.Turning.{alone_turn}
use Rattle.cd_alone.proofs.Refuting.{alone_refutes}
use Rattle.cd_premises.specs.Runs.{RunsAreRight, SchedulesAreFinite, AloneRunsAreRight}
use Rattle.cd_premises.proofs.Whole.{premises_meet}
use Rattle.cd_premises.proofs.Decisions.{decisions_meet, singles_meet}
use Rattle.cd_premises.proofs.Tests.{tests_meet}

pub runs_are_right : RunsAreRight
runs_are_right order p policy limits start w events s r = record {
  laws = lawful order (premises_meet order) p policy limits start w events s r;
  rejects = nothing_rejected order (premises_meet order) p policy limits start w events s r;
  effects = effects order (premises_meet order) (singles_meet order) p policy limits start w events s r;
  turns = λ q l run. runs_turn order (premises_meet order) (decisions_meet order) p policy limits start w events s r q l run;
  falls = λ e v h. runs_fall order (premises_meet order) p policy limits start w v events e s r h;
  declares = λ e v h is. end_declared order (premises_meet order) p policy limits start w v events e s r h is;
  schedule = λ run. runs_schedule order (premises_meet order) p policy limits start w events s r run;
}

pub schedules_are_finite : SchedulesAreFinite
schedules_are_finite order p policy limits start events counters worlds picks s r h =
    schedules_end order (premises_meet order) p policy limits start events counters worlds picks s r h

pub alone_runs_are_right : AloneRunsAreRight
alone_runs_are_right order p start s events r = record {
  lawful = alone_lawful order (premises_meet order) p start s events r;
  turn = λ run. alone_turn order (premises_meet order) (decisions_meet order) tests_meet p start s events r run;
  derives = λ v. (alone_refutes order (premises_meet order) p start s events r v).0;
  refutes = λ v. (alone_refutes order (premises_meet order) p start s events r v).1;
}
