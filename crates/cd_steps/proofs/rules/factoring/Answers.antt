use Rattle.std.proofs.Common.{◌+◌, ◌-◌, length, take, drop, ap, ◌∙◌}
use Rattle.std.proofs.lemmas.List.{take_rest}
use Rattle.cd_steps.proofs.Bounding.{front_below, back_below}
use Rattle.cd_steps.proofs.Drafting.{no_factoring, is_factoring, args_to, arguments_below, room_alone, room_second, nothing_below}
use Rattle.cd_steps.proofs.rules.factoring.Goals as goal

pub returns-in-None : goal.returns-in-None
returns-in-None c =
    no_factoring c.args.c.now c.args.i c.args.j _ _ c.get.ensures.value c.get-2.ensures.value c.in-None.ensures

pub returns-in-Some : goal.returns-in-Some
returns-in-Some c =
    let a = c.args.c.now in let all = c.as_slice-literals.result.now in
    let p = args_to _ _ _ _ _ _ _ c.as_slice.ensures c.as_slice-in-Some.ensures c.in-Some.ensures in
    let us = ap (take c.args.j) c.as_slice-literals.ensures in
    let vs = take_rest all (c.args.j + 1) ∙ ap (drop (c.args.j + 1)) c.as_slice-literals.ensures in
    let first = room_alone _ _ c.variables.ensures in
    let second = room_second _ _ c.variables.ensures in
    let low = arguments_below _ _ a a c.args.i c.args.j _ _ _ _ _ c.get.ensures.value c.get-2.ensures.value p first second in (
      is_factoring a c.args.i c.args.j _ _ _ _ _ (take c.args.j all) (take (length all - (c.args.j + 1)) (drop (c.args.j + 1) all)) c.if-i-j.false
          c.get.ensures.value c.get-2.ensures.value p c.variables.ensures us vs,
      record {
        left = low.0;
        right = low.1;
        one = front_below _ a.literals _ c.args.j us first;
        two = back_below _ a.literals _ c.args.j vs first;
        three = nothing_below _;
        four = nothing_below _;
        five = nothing_below _;
      },
    )
