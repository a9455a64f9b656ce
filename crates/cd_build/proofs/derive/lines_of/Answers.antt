use Rattle.std.proofs.Common.{◌≡◌, ◌+◌, ◌<◌, [], List, ℕ, Bool, suc, Some, slice_get, get_or, length, ap, sym, ◌∙◌, subst, arith}
use Rattle.std.proofs.lemmas.Option.{slice_get-get_or}
use Rattle.cd_ledger.specs.declared.records.Known.{Known}
use Rattle.cd_steps.specs.declared.Step.{Step}
use Rattle.cd_text.specs.declared.line.Line.{Line}
use Rattle.cd_build.specs.Building.{AreAddedIf}
use Rattle.cd_build.proofs.Building.{IsBuilt, built_all, built_more, built_none, leads_marked, marked_at}
use Rattle.cd_build.proofs.derive.lines_of.Goals as goal

pub loop-i-init : goal.loop-i-init
loop-i-init c =
    let p = c.args.problem.now in
    let known = c.args.known.now in
    let marks = c.args.marks.now in
    subst (λ (ns : List ℕ). IsBuilt p known marks 0 ns c.new-lines.result) (sym c.new-numbers.ensures)
    (subst (λ (ls : List Line). IsBuilt p known marks 0 [] ls) (sym c.new-lines.ensures) (built_none p known marks))

pub add_marked-requires-clause-leads : goal.add_marked-requires-clause-leads
add_marked-requires-clause-leads c is =
    let known = c.args.known.now in
    let entries = c.as_slice-entries.result.now in
    let i = c.loop-i.i in
    let e = get_or entries i c.index-entries-i.result in
    let small : i < length entries = omega arith in
    let there : slice_get known i ≡ Some e =
    ap (λ (es : List Known). slice_get es i) (sym c.as_slice-entries.ensures) ∙ slice_get-get_or entries i c.index-entries-i.result small in
    leads_marked c.args.problem.now known c.args.marks.now i e c.as_slice-steps.result.now c.requires.once c.requires.led there c.as_slice-steps.ensures (sym c.is_marked-marked.ensures ∙ is)

pub loop-i-preserved : goal.loop-i-preserved
loop-i-preserved c =
    let p = c.args.problem.now in
    let known = c.args.known.now in
    let entries = c.as_slice-entries.result.now in
    let marks = c.args.marks.now in
    let numbers = c.loop-i.numbers in
    let new = c.add_marked.new.lines in
    let end = c.in_ok-number.number in
    let i = c.loop-i.i in
    let e = get_or entries i c.index-entries-i.result in
    let small : i < length entries = omega arith in
    let there : slice_get known i ≡ Some e =
    ap (λ (es : List Known). slice_get es i) (sym c.as_slice-entries.ensures) ∙ slice_get-get_or entries i c.index-entries-i.result small in
    let marked = marked_at marks known i e c.requires.marks there in
    let added = subst (λ (ss : List Step). AreAddedIf c.is_marked-marked.result p known numbers ss c.loop-i.lines new end) c.as_slice-steps.ensures
    (subst (λ (ns : List ℕ). AreAddedIf c.is_marked-marked.result p known ns c.as_slice-steps.result.now c.loop-i.lines new end) c.as_slice.ensures c.in_ok-number.ensures) in
    let next : suc i ≡ i + 1 = omega arith in
    let built = built_more p known marks i e numbers c.loop-i.lines new end c.requires.once c.requires.led there c.loop-i.invariant c.is_marked-marked.result
    (marked ∙ ap (λ (b : Bool). Some b) (sym c.is_marked-marked.ensures)) added in
    subst (λ (k : ℕ). IsBuilt p known marks k c.push.new.self new) next (subst (λ (ns : List ℕ). IsBuilt p known marks (suc i) ns new) (sym c.in_ok-push.ensures.ok) built)

pub returns : goal.returns
returns c =
    built_all c.args.problem.now c.args.known.now c.args.marks.now c.loop-i.i c.loop-i.numbers c.loop-i.lines
    (omega (arith, c.requires.marks, ap (λ (es : List Known). length es) c.as_slice-entries.ensures)) c.loop-i.invariant
