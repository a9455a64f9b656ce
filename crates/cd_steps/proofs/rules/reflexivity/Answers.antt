use Rattle.std.proofs.Common.{◌+◌, ◌-◌, length, take, drop, ap, ◌∙◌}
use Rattle.std.specs.Option.{option_copied}
use Rattle.std.proofs.lemmas.List.{take_rest}
use Rattle.cd_steps.proofs.Bounding.{front_below, back_below}
use Rattle.cd_steps.proofs.Drafting.{negative_equation, is_reflexivity, equation_below, one_below, room_alone, room_second, nothing_below}
use Rattle.cd_steps.proofs.rules.reflexivity.Goals as goal

pub returns-in-Equal : goal.returns-in-Equal
returns-in-Equal c =
    let a = c.args.c.now in let all = c.as_slice-literals.result.now in
    let there = negative_equation a c.args.i _ c.in-Some.literal.now _ _ c.get.ensures.value (ap option_copied c.in-Some.is) c.if-literal.false c.in-Equal.is in
    let us = ap (take c.args.i) c.as_slice-literals.ensures in
    let vs = take_rest all (c.args.i + 1) ∙ ap (drop (c.args.i + 1)) c.as_slice-literals.ensures in
    let first = room_alone _ _ c.variables.ensures in
    let second = room_second _ _ c.variables.ensures in (
      is_reflexivity a c.args.i _ c.in-Equal.left c.in-Equal.right _ _ (take c.args.i all) (take (length all - (c.args.i + 1)) (drop (c.args.i + 1) all)) there
          c.variables.ensures c.from_ref.ensures.value c.from_ref-in-Equal.ensures.value us vs,
      record {
        left = one_below _ _ _ c.from_ref.ensures.value (equation_below _ a c.args.i _ _ _ there first).0;
        right = one_below _ _ _ c.from_ref-in-Equal.ensures.value (equation_below _ a c.args.i _ _ _ there second).1;
        one = front_below _ a.literals _ c.args.i us first;
        two = back_below _ a.literals _ c.args.i vs first;
        three = nothing_below _;
        four = nothing_below _;
        five = nothing_below _;
      },
    )
