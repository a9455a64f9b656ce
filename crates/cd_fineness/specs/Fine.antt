-- The tests of a record that a peer was sent.
-- Beyond the headline: no clause of `prove` reaches this file.
use Rattle.std.specs.Prelude.{◌≡◌, ℕ, ◌%◌, ◌==◌, Bool, true, false, not, ◌&&◌, List, [], ◌∷◌, Option, Some, None}
use Rattle.std.specs.List.{list_all}
use Rattle.cd_clause.specs.declared.Clause.{Clause}
use Rattle.cd_ledger.specs.Records.{Registry, begins, is_copy}
use Rattle.cd_machine.specs.Right.{IsReplayed}
use Rattle.cd_names.specs.declared.names.Name.{Name}
use Rattle.cd_read.specs.declared.problem.Problem.{Problem}
use Rattle.cd_steps.specs.Bounds.{IsStepWithin, subst_of}
use Rattle.cd_steps.specs.Steps.{StepOk}
use Rattle.cd_steps.specs.declared.Premise.{Premise}
use Rattle.cd_steps.specs.declared.Step.{Step}
use Rattle.cd_steps.specs.declared.Step.TheVariants as step

-- a clause is what a step gives of what its premises stand for, the clause before it first where it goes on from that
abbrev pub IsRightOf : Step → Option Clause → Option Clause → Bool → Clause → Type 0
IsRightOf s first second true c = StepOk s first second None c
IsRightOf s first second false c = StepOk s None first second c

-- the clause that a step gives of its premises; or there is none within bounds
abbrev pub IsAnswer : Step → Option Clause → Option Clause → Bool → Option Clause → Type 0
IsAnswer s first second before None = (c : Clause) → IsRightOf s first second before c → IsStepWithin (subst_of s) c → ⊥
IsAnswer s first second before (Some c) = IsRightOf s first second before c

-- what a premise that a step may have stands for
abbrev pub standing_if_any : (Premise → Option Clause) → Option Premise → Option Clause
standing_if_any Q None = None
standing_if_any Q (Some q) = Q q

-- the one clause that the step gives, or that it gives none
abbrev pub IsReplay : Problem → Registry → Option Clause → Step → Option Clause → Type 0
IsReplay p R current s None = (d : Clause) → IsReplayed p R current s d → ⊥
IsReplay p R current s (Some d) = IsReplayed p R current s d × ((x : Clause) → IsReplayed p R current s x → x ≡ d)

-- a step takes no input, or one of a peer's share
abbrev pub shares : ℕ → ℕ → Step → Bool
shares n q (step.Input k) = k % n == q
shares n q (step.Copy m) = true
shares n q (step.Resolve a i b j t) = true
shares n q (step.Factor a i j t) = true
shares n q (step.Refl a i t) = true
shares n q (step.EqFac a i s j z t) = true
shares n q (step.Para a i s b j path t) = true
shares n q (step.Rewrite a s j path t) = true
shares n q step.Tidy = true

abbrev pub shape_test : List Step → Bool
shape_test [] = false
shape_test (s ∷ ss) = begins s && list_all (λ t. not (begins t)) ss

abbrev pub goes_test : List Step → Bool
goes_test [] = true
goes_test (s ∷ []) = not (is_copy s)
goes_test (s ∷ t ∷ ss) = true

abbrev pub named_test : ℕ → Name → ℕ → ℕ → Bool → Bool
named_test sender n owner right known = not known && ((n.peer == sender) && (owner == right))

abbrev pub all_tests : Bool → Bool → Bool → Bool → Bool → Bool → Bool → Bool
all_tests named shaped cited led tidy fit trivial = named && (shaped && (cited && (led && (tidy && (fit && not trivial)))))
