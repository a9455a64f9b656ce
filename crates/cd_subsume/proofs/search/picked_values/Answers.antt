use Rattle.std.proofs.Common.{arith, length, refl}
use Rattle.cd_subsume.proofs.Searching.{started, taken_none, found, code_first}
use Rattle.cd_subsume.proofs.search.picked_values.Goals as goal

pub choose-requires-clause-searching : goal.choose-requires-clause-searching
choose-requires-clause-searching c =
    started c.args.ls.now c.args.ms.now _ _ _ _ _ _ _ c.requires.bounded c.requires.goals c.requires.free c.requires.trail c.new.ensures.items
    (taken_none c.args.ms.now (length c.args.ms.now) _ c.in_ok-untaken.ensures refl) (code_first _ c.first.ensures.place c.first.ensures.straight)

pub returns-then-not-back : goal.returns-then-not-back
returns-then-not-back c = c.back.ensures.over c.if-not-back.true

pub returns : goal.returns
returns c = (c.loop-search.invariant.covers, found c.loop-search.invariant.searching (omega arith))
