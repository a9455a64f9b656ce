use Rattle.std.proofs.Common.{◌≡◌, ap, arith, length, ◌∙◌}
use Rattle.std.specs.Prelude.{swap}
use Rattle.cd_subsume.proofs.Searching.{swapped}
use Rattle.cd_subsume.proofs.search.Search.choose.Goals as goal

pub returns-clause-searching : goal.returns-clause-searching
returns-clause-searching c =
    let s = c.args.self.now in
    let asked = c.requires.searching.order.as_many in
    swapped c.requires.searching _ _ _ _ c.in_ok-best.best c.requires.start (omega (arith, c.in_ok-best.ensures.range))
    (omega (arith, asked)) (omega (arith, c.in_ok-best.ensures.range, ap length c.as_slice.ensures.value))
    (c.swap.ensures.items ∙ ap (λ i. swap s.goals.items i c.in_ok-best.best) (let e : c.len-from.result ≡ length s.chosen.items = omega arith in e))
    c.in_ok-best.ensures.values c.in_ok-best.ensures.trail c.in_ok-best.ensures.covers
