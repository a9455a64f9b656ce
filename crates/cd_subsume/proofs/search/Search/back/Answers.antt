use Rattle.std.proofs.Common.{arith, length, refl}
use Rattle.cd_subsume.proofs.Items.{get_some, empty_is}
use Rattle.cd_subsume.proofs.Measures.{left_popped}
use Rattle.cd_subsume.proofs.Searching.{over, popped, top_of, code_within}
use Rattle.cd_subsume.proofs.search.Search.back.Goals as goal

pub returns-in_default-clause-over : goal.returns-in_default-clause-over
returns-in_default-clause-over c = λ _.
    let s = c.args.self.now in
    let g = get_some s.goals.items (length s.chosen.items) (omega (arith, c.requires.literal, c.requires.searching.order.as_many)) in
    over c.requires.searching g.0 g.1 (empty_is s.chosen.items (omega (arith, c.in_default.ensures.cases.0))) c.requires.place

pub index_mut-requires : goal.index_mut-requires
index_mut-requires c =
    omega (arith, (top_of c.requires.searching _ c.in-Some.last c.in-Some.ensures.items).within, c.requires.searching.taken.covers)

pub next-self-requires : goal.next-self-requires
next-self-requires c =
    omega (arith, (top_of c.requires.searching _ c.in-Some.last c.in-Some.ensures.items).within, c.requires.searching.taken.covers)

pub returns-clause-searching : goal.returns-clause-searching
returns-clause-searching c = λ _.
    let s = c.args.self.now in
    let g = get_some s.goals.items (length s.chosen.items) (omega (arith, c.requires.literal, c.requires.searching.order.as_many)) in
    popped c.requires.searching c.next-self.result _ c.in-Some.last g.0 _ _ _ _ c.in-Some.ensures.items g.1 c.requires.place c.next-self.ensures
    c.undo.ensures.back c.undo.ensures.shorter refl c.undo.ensures.covers

pub returns-clause-shorter : goal.returns-clause-shorter
returns-clause-shorter c = λ _.
    let top = top_of c.requires.searching _ c.in-Some.last c.in-Some.ensures.items in
    left_popped (length c.args.ls.now) (length c.args.ms.now) c.args.self.now.chosen.items _ c.in-Some.last c.args.self.now.next _ c.in-Some.ensures.items c.next-self.ensures
    (omega (arith, code_within c.in-Some.last.pick (length c.args.ms.now) top.within)) (omega (arith, c.requires.literal))
