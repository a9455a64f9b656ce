-- What is left of a state where the entry in a place is struck.
-- Beyond the headline: no clause of `prove` reaches this file.
use Rattle.std.specs.Prelude.{ℕ, slice_set}
use Rattle.cd_contract.specs.Held.{without}
use Rattle.cd_ledger.specs.declared.records.Known.{Known}
use Rattle.cd_machine.specs.Contraction.{loss}
use Rattle.cd_names.specs.declared.How.{How}
use Rattle.cd_names.specs.declared.names.Name.{Name}
use Rattle.cd_tasks.specs.Owing.{without as uncovered_by}
use Rattle.cd_acts.specs.declared.state.State.{State}

abbrev pub struck_one : ℕ → Name → How → Known → Known
struck_one me by how e = record e { status = loss me by how e.entry }

abbrev pub struck_at : State → ℕ → Known → How → Name → State
struck_at s place e how by = record s {
  known = slice_set s.known place (struck_one s.me by how e);
  tasks = uncovered_by s.tasks e.entry.name;
  held = without e.entry.name s.held;
}
