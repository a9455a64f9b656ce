use Rattle.std.proofs.Common.{◌+◌, ◌-◌, length, take, drop, ap, ◌∙◌}
use Rattle.std.proofs.lemmas.List.{take_rest}
use Rattle.cd_steps.proofs.Bounding.{front_below, back_below}
use Rattle.cd_steps.proofs.Drafting.{no_resolution, is_resolution, args_to, arguments_below, room_first, room_second, nothing_below}
use Rattle.cd_steps.proofs.rules.resolution.Goals as goal

pub returns-in-None : goal.returns-in-None
returns-in-None c =
    no_resolution c.args.a.now c.args.b.now c.args.i c.args.j _ _ c.get.ensures.value c.get-2.ensures.value c.in-None.ensures

pub returns-in-Some : goal.returns-in-Some
returns-in-Some c =
    let a = c.args.a.now in let b = c.args.b.now in
    let front = c.as_slice-front.result.now in let back = c.as_slice-back.result.now in
    let p = args_to _ _ _ _ _ _ _ c.as_slice.ensures c.as_slice-in-Some.ensures c.in-Some.ensures in
    let us = ap (take c.args.i) c.as_slice-front.ensures in
    let vs = take_rest front (c.args.i + 1) ∙ ap (drop (c.args.i + 1)) c.as_slice-front.ensures in
    let ws = ap (take c.args.j) c.as_slice-back.ensures in
    let zs = take_rest back (c.args.j + 1) ∙ ap (drop (c.args.j + 1)) c.as_slice-back.ensures in
    let first = room_first _ _ c.variables-in-Some.result c.variables.ensures in
    let second = room_second _ _ c.variables-in-Some.ensures in
    let low = arguments_below _ _ a b c.args.i c.args.j _ _ _ _ _ c.get.ensures.value c.get-2.ensures.value p first second in (
      is_resolution a b c.args.i c.args.j _ _ _ _ _ _ (take c.args.i front) (take (length front - (c.args.i + 1)) (drop (c.args.i + 1) front))
          (take c.args.j back) (take (length back - (c.args.j + 1)) (drop (c.args.j + 1) back))
          c.variables.ensures c.variables-in-Some.ensures c.get.ensures.value c.get-2.ensures.value p us vs ws zs,
      record {
        left = low.0;
        right = low.1;
        one = front_below _ a.literals _ c.args.i us first;
        two = back_below _ a.literals _ c.args.i vs first;
        three = front_below _ b.literals _ c.args.j ws second;
        four = back_below _ b.literals _ c.args.j zs second;
        five = nothing_below _;
      },
    )
