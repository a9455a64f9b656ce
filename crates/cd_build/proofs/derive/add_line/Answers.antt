use Rattle.std.proofs.Common.{◌≡◌, ◌+◌, ℕ, [], ◌∷◌, ◌++◌, List, length, Option, ap, sym, ◌∙◌, subst}
use Rattle.cd_clause.specs.declared.Clause.{Clause}
use Rattle.cd_ledger.specs.Records.{recorded}
use Rattle.cd_machine.specs.Right.{IsReplayed}
use Rattle.cd_text.specs.declared.line.Line.{Line}
use Rattle.cd_text.proofs.Fronts.{on_ok}
use Rattle.cd_alone.specs.Derived.{line_of, parents_of}
use Rattle.cd_build.specs.Derivation.{printed}
use Rattle.cd_build.specs.Building.{number_before, number_of, plain_line}
use Rattle.cd_build.proofs.derive.add_line.Goals as goal

pub given-requires-clause-given : goal.given-requires-clause-given
given-requires-clause-given c =
    (c.requires.given.0, subst (λ (o : Option Clause). IsReplayed c.args.problem.now (λ n. recorded n c.args.known.now) o c.args.step.now c.requires.given.0) (sym c.clause_before-behind.ensures) c.requires.given.1)

pub returns : goal.returns
returns c =
    let p = c.args.problem.now in
    let known = c.args.known.now in
    let numbers = c.args.numbers.now in
    let s = c.args.step.now in
    let lines = c.args.lines.now in
    let d = c.in_ok-clause.clause in
    let gives = subst (λ (o : Option Clause). IsReplayed p (λ n. recorded n known) o s d) c.clause_before-behind.ensures c.in_ok-clause.ensures in
    let parents : c.in_ok-parents.parents ≡ parents_of (number_of known numbers) (number_before known numbers lines c.args.before) s =
    c.in_ok-parents.ensures ∙ ap (λ (m : ℕ). parents_of (number_of known numbers) m s) c.number_before-last.ensures in
    let line : c.in_ok-line_of.field-0 ≡ printed p (line_of (number_of known numbers) (length lines) (number_before known numbers lines c.args.before) s d) =
    c.in_ok-line_of.ensures ∙ ap (λ (m : ℕ). printed p (plain_line (m + 1) s d c.in_ok-parents.parents)) c.len.ensures.value ∙ ap (λ (ps : List ℕ). printed p (plain_line (length lines + 1) s d ps)) parents in
    on_ok c.push.result (λ pushed. (d, gives, pushed ∙ ap (λ (l : Line). lines ++ l ∷ []) line)) c.push.ensures.ok
