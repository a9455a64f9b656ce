use Rattle.std.proofs.Common.{[], ◌∷◌, ◌++◌, List, ℕ, Option, ap, sym, ◌∙◌}
use Rattle.cd_steps.specs.Premises.{listed}
use Rattle.cd_steps.specs.declared.Premise.{Premise}
use Rattle.cd_build.specs.Building.{number_of, parents_in}
use Rattle.cd_build.proofs.Adding.{parents_are, two_parents}
use Rattle.cd_build.proofs.derive.parents_of.Goals as goal

pub returns-in_ok-push_parent-in-Some : goal.returns-in_ok-push_parent-in-Some
returns-in_ok-push_parent-in-Some c =
    let num = number_of c.args.known.now c.args.numbers.now in
    let last = c.args.last in
    let first = c.premises-first.result.0 in
    c.in_ok-push_parent-in-Some.ensures ∙ ap (λ (ps : List ℕ). ps ++ parents_in num last (c.in-Some.second ∷ [])) (c.in_ok-push_parent.ensures ∙ ap (λ (ps : List ℕ). ps ++ parents_in num last (first ∷ [])) c.new-parents.ensures)
    ∙ two_parents num last first (c.in-Some.second ∷ [])
    ∙ ap (parents_in num last) (ap (λ (o : Option Premise). listed (first, o)) (sym c.in-Some.is) ∙ c.premises-first.ensures)
    ∙ parents_are num last c.args.step.now c.requires.makes

pub returns-in-None : goal.returns-in-None
returns-in-None c =
    let num = number_of c.args.known.now c.args.numbers.now in
    let last = c.args.last in
    let first = c.premises-first.result.0 in
    c.in_ok-push_parent.ensures ∙ ap (λ (ps : List ℕ). ps ++ parents_in num last (first ∷ [])) c.new-parents.ensures
    ∙ ap (parents_in num last) (ap (λ (o : Option Premise). listed (first, o)) (sym c.in-None.is) ∙ c.premises-first.ensures)
    ∙ parents_are num last c.args.step.now c.requires.makes
