use Rattle.std.proofs.Common.{◌≡◌, ◌++◌, length, map}
use Rattle.cd_acts.specs.View.{letter_of}
use Rattle.cd_replay.proofs.owing.letters_of.Given as goal

abbrev pub invariant-loop-letters : goal.invariant-loop-letters
invariant-loop-letters l = l.letters ++ map letter_of l.waiting ≡ map letter_of l.initial.waiting

abbrev pub decreases-loop-letters : goal.decreases-loop-letters
decreases-loop-letters l = length l.waiting
