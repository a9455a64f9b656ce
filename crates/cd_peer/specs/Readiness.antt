-- Whether a peer's turn would do something, and whether that is of the token alone.
use Rattle.std.specs.Prelude.{Bool, cond, Option}
use Rattle.cd_ledger.specs.declared.letters.Letter.{Letter}
use Rattle.cd_ledger.specs.declared.local.Local.{Local}
use Rattle.cd_machine.specs.Schedule.{first_letter, more_by, only_by}
use Rattle.cd_peer.specs.declared.readiness.Ready.{Ready}
use Rattle.cd_peer.specs.declared.readiness.Ready.TheVariants.{More, Nothing, TokenOnly}

abbrev pub ready_as : Bool → Bool → Ready
ready_as more only = cond more More (cond only TokenOnly Nothing)

-- where this letter is the first that is ready, or none is
abbrev pub ready_by : Local → Option Letter → Ready
ready_by s o = ready_as (more_by s o) (only_by s o)

-- More, else TokenOnly, else Nothing
abbrev pub ready_of : Local → Ready
ready_of s = ready_by s (first_letter s)
