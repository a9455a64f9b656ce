use Rattle.std.proofs.Common.{ap, arith, length, refl, ◌∙◌}
use Rattle.cd_subsume.specs.declared.search.Chosen.{Chosen}
use Rattle.cd_subsume.proofs.Items.{read_at, same_item}
use Rattle.cd_subsume.proofs.Goals.{goal_inside}
use Rattle.cd_subsume.proofs.Measures.{left_skip, left_pushed}
use Rattle.cd_subsume.proofs.Searching.{skip_taken, skip_stuck, pushed, code_first}
use Rattle.cd_subsume.proofs.search.Search.forth.Goals as goal

pub returns-then-index-clause-searching : goal.returns-then-index-clause-searching
returns-then-index-clause-searching c =
    let s = c.args.self.now in
    skip_taken c.requires.searching c.next-self.result c.index.result.now c.index-2.result.now
    (read_at s.goals.items c.len.result (length s.chosen.items) c.index.result.now (omega arith) (omega (arith, c.requires.searching.order.as_many)) c.index.ensures)
    c.requires.place c.next-self.ensures
    (read_at s.taken.items s.next.place s.next.place c.index-2.result.now refl (omega (arith, c.requires.searching.taken.covers)) c.index-2.ensures) c.if-index.true

pub returns-then-index-clause-shorter : goal.returns-then-index-clause-shorter
returns-then-index-clause-shorter c =
    left_skip (length c.args.ls.now) (length c.args.ms.now) c.args.self.now.chosen.items c.args.self.now.next _ c.next-self.ensures (omega (arith, c.requires.searching.near))

pub returns-then-not-branch-clause-searching : goal.returns-then-not-branch-clause-searching
returns-then-not-branch-clause-searching c =
    let s = c.args.self.now in
    let g = c.index.result.now in
    let at = read_at s.goals.items c.len.result (length s.chosen.items) g (omega arith) (omega (arith, c.requires.searching.order.as_many)) c.index.ensures in
    let li = read_at c.args.ls.now g.literal g.literal c.index-ls-literal.result refl (goal_inside _ s.goals.items (length s.chosen.items) g c.requires.searching.order.inside at) c.index-ls-literal.is in
    let mi = read_at c.args.ms.now s.next.place s.next.place c.index-ms-next.result refl c.requires.place c.index-ms-next.is in
    let kept = c.in_ok-bind_literal.ensures.kept c.if-not-branch.true in
    skip_stuck c.requires.searching c.next-self-then-not-branch.result g c.index-ls-literal.result c.index-ms-next.result _ _ _ _ _ at li mi
    c.next-self-then-not-branch.ensures (c.in_ok-bind_literal.ensures.fits (c.requires.searching.bounded _ _ li)) c.if-not-branch.true kept.0 kept.1
    c.in_ok-bind_literal.ensures.covers

pub returns-then-not-branch-clause-shorter : goal.returns-then-not-branch-clause-shorter
returns-then-not-branch-clause-shorter c =
    left_skip (length c.args.ls.now) (length c.args.ms.now) c.args.self.now.chosen.items c.args.self.now.next _ c.next-self-then-not-branch.ensures
    (omega (arith, c.requires.searching.near))

pub choose-requires-clause-searching : goal.choose-requires-clause-searching
choose-requires-clause-searching c =
    let s = c.args.self.now in
    let g = c.index.result.now in
    let d : Chosen = record { literal = g.literal; pick = s.next; mark = c.mark-mark.result } in
    let at = read_at s.goals.items c.len.result (length s.chosen.items) g (omega arith) (omega (arith, c.requires.searching.order.as_many)) c.index.ensures in
    let li = read_at c.args.ls.now g.literal g.literal c.index-ls-literal.result refl (goal_inside _ s.goals.items (length s.chosen.items) g c.requires.searching.order.inside at) c.index-ls-literal.is in
    let mi = read_at c.args.ms.now s.next.place s.next.place c.index-ms-next.result refl c.requires.place c.index-ms-next.is in
    let mark = read_at s.taken.items s.next.place s.next.place c.index-2.result.now refl (omega (arith, c.requires.searching.taken.covers)) c.index-2.ensures in
    pushed c.requires.searching c.first-self.result g c.index-ls-literal.result c.index-ms-next.result d _ _ _ _ _ _ at li mi refl refl c.mark-mark.ensures
    (λ b bi. same_item s.taken.items s.next.place s.next.place b c.index-2.result.now refl bi mark ∙ c.if-index.false)
    (code_first _ c.first-self.ensures.place c.first-self.ensures.straight)
    (c.in_ok-bind_literal.ensures.fits (c.requires.searching.bounded _ _ li)) c.if-not-branch.false c.in_ok-bind_literal.ensures.noted
    c.in_ok-push.ensures.items refl c.in_ok-bind_literal.ensures.covers

pub returns-clause-shorter : goal.returns-clause-shorter
returns-clause-shorter c =
    let s = c.args.self.now in
    let d : Chosen = record { literal = c.index.result.now.literal; pick = s.next; mark = c.mark-mark.result } in
    left_pushed (length c.args.ls.now) (length c.args.ms.now) _ s.chosen.items d _ s.next
    (c.choose.ensures.same.0 ∙ c.in_ok-push.ensures.items) refl
    (code_first _ (ap (λ p. p.place) c.choose.ensures.same.1 ∙ c.first-self.ensures.place) (ap (λ p. p.is_exchanged) c.choose.ensures.same.1 ∙ c.first-self.ensures.straight))
    c.requires.literal
