use Rattle.cd_steps.proofs.Soundness.{rewritings_are_sound}
use Rattle.cd_steps.proofs.Regular.{rewritings_are_regular}
use Rattle.cd_steps.proofs.Reversing.{rewritings_are_reversible, rewritings_are_in_place}
use Rattle.cd_steps.proofs.laws.rewriting.Goals as goal

pub returns-clause-sound : goal.returns-clause-sound
returns-clause-sound c = rewritings_are_sound

pub returns-clause-regular : goal.returns-clause-regular
returns-clause-regular c = rewritings_are_regular

pub returns-clause-reversible : goal.returns-clause-reversible
returns-clause-reversible c = rewritings_are_reversible

pub returns-clause-in_place : goal.returns-clause-in_place
returns-clause-in_place c = rewritings_are_in_place
