use Rattle.std.proofs.Common.{◌≡◌, ◌+◌, ◌∷◌, [], List, drop, subst, arith}
use Rattle.cd_acts.proofs.Lists.{drop_at, drop_end}
use Rattle.cd_steps.specs.declared.Step.{Step}
use Rattle.cd_build.proofs.Adding.{IsJoining, joining_done, joining_given, joining_more, joining_start}
use Rattle.cd_build.proofs.derive.add_lines.Goals as goal

pub loop-step-init : goal.loop-step-init
loop-step-init c = joining_start c.args.problem.now c.args.known.now c.args.numbers.now c.args.steps.now c.args.lines.now c.requires.leads

pub add_step-requires-clause-given : goal.add_step-requires-clause-given
add_step-requires-clause-given c =
    let steps = c.args.steps.now in
    let i = c.loop-step.step-index in
    let s = c.step-item.result in
    let first : drop i steps ≡ s ∷ drop (i + 1) steps = drop_at steps i s c.loop-step-test.true c.step-item.is in
    joining_given c.args.problem.now c.args.known.now c.args.numbers.now steps c.args.lines.now c.loop-step.before s (drop (i + 1) steps) c.loop-step.lines
    (subst (λ (ss : List Step). IsJoining c.args.problem.now c.args.known.now c.args.numbers.now steps c.args.lines.now c.loop-step.before ss c.loop-step.lines) first c.loop-step.invariant)

pub loop-step-preserved : goal.loop-step-preserved
loop-step-preserved c =
    let steps = c.args.steps.now in
    let i = c.loop-step.step-index in
    let s = c.step-item.result in
    let first : drop i steps ≡ s ∷ drop (i + 1) steps = drop_at steps i s c.loop-step-test.true c.step-item.is in
    joining_more c.args.problem.now c.args.known.now c.args.numbers.now steps c.args.lines.now c.loop-step.before s (drop (i + 1) steps) c.loop-step.lines
    (subst (λ (ss : List Step). IsJoining c.args.problem.now c.args.known.now c.args.numbers.now steps c.args.lines.now c.loop-step.before ss c.loop-step.lines) first c.loop-step.invariant)
    c.add_step.new.lines c.in_ok-before.before c.in_ok-before.ensures

pub returns : goal.returns
returns c =
    let steps = c.args.steps.now in
    let none : drop c.loop-step.step-index steps ≡ [] = drop_end steps c.loop-step.step-index (omega arith) in
    joining_done c.args.problem.now c.args.known.now c.args.numbers.now steps c.args.lines.now c.loop-step.before c.loop-step.lines c.number_before.result c.number_before.ensures
    (subst (λ (ss : List Step). IsJoining c.args.problem.now c.args.known.now c.args.numbers.now steps c.args.lines.now c.loop-step.before ss c.loop-step.lines) none c.loop-step.invariant)
