-- A folder: the files of the machine, seen as how often they could not be read.
-- Beyond the headline: no clause of `prove` reaches this file.
use Rattle.std.specs.Prelude.{ℕ, Result, Ok, Err}
use Rattle.cd_outside.specs.Outside.{counted}
use Rattle.cd_outside.specs.declared.library.FetchFault.{FetchFault}
use Rattle.cd_outside.specs.declared.library.FetchFault.TheVariants.{Failed, Memory}

-- the count after a fetch with this answer: want of memory is no fault
abbrev pub faults_after : {T : Type 0} → ℕ → Result T FetchFault → ℕ
faults_after faults (Ok _) = faults
faults_after faults (Err Failed) = counted faults
faults_after faults (Err Memory) = faults
