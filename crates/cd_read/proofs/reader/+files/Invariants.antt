use Rattle.std.proofs.Common.{Ok, ◌≡◌, ◌≤◌, ◌+◌, ◌-◌, ◌*◌, ℕ, List, length}
use Rattle.cd_parse.specs.declared.statement.Stage.TheVariants as stage
use Rattle.cd_read.specs.Files.{Inside, opens}
use Rattle.cd_read.specs.Labels.{Wants}
use Rattle.cd_read.specs.States.{Spends}
use Rattle.cd_read.proofs.FileLemmas.{Begun}
use Rattle.cd_read.proofs.reader.+files.Given as goal

-- three steps for each file that may still be opened
abbrev pub decreases-read_file : goal.decreases-read_file
decreases-read_file g l = 3 * (16 - length l.opens.now) + 2

abbrev pub decreases-read_statements : goal.decreases-read_statements
decreases-read_statements g l = 3 * (16 - length l.opens.now) + 1

abbrev pub decreases-include : goal.decreases-include
decreases-include g l = 3 * (16 - length l.opens.now)

abbrev pub invariant-read_statements-loop-path : goal.invariant-read_statements-loop-path
invariant-read_statements-loop-path g l = record {
  within : l.progress.at ≤ length l.bytes;
  begin : l.progress.stage ≡ stage.Begin;
  same : l.opens ≡ l.initial.opens;
  used : l.state.used ≤ 4194304;
  later : g.L.Library.faults l.initial.library ≤ g.L.Library.faults l.library;
  stays : (p : List ℕ) → g.L.Library.holds l.library p ≡ g.L.Library.holds l.initial.library p;
  spends : Spends {T = Unit {0}} l.initial.state.used l.state.used (g.L.Library.told l.initial.library) (g.L.Library.told l.library) (Ok tt);
  begun : (i : Inside) → l.initial.opens ≡ opens i → Wants l.wanted i.lists
      → Begun i (g.L.Library.holds l.initial.library) l.bytes l.initial.progress.at l.initial.state (g.L.Library.told l.initial.library) l.progress.at l.state (g.L.Library.told l.library);
}

abbrev pub decreases-read_statements-loop-path : goal.decreases-read_statements-loop-path
decreases-read_statements-loop-path g l = length l.bytes - l.progress.at
