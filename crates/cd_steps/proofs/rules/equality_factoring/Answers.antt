use Rattle.std.proofs.Common.{◌+◌, ◌-◌, length, take, drop, ap, refl, ◌∙◌}
use Rattle.std.proofs.lemmas.List.{take_rest}
use Rattle.cd_steps.proofs.Bounding.{front_below, back_below}
use Rattle.cd_steps.proofs.Drafting.{no_equality_factoring, is_equality_factoring, sides_below, one_below, room_alone, room_second, nothing_below}
use Rattle.cd_steps.proofs.rules.equality_factoring.Goals as goal

pub returns-in_default : goal.returns-in_default
returns-in_default c =
    no_equality_factoring c.args.c.now c.args.i c.args.s c.args.j c.args.z _ _ c.get.ensures.value refl (λ l o r q a b. c.in_default.ensures l o a)

pub returns-in_default-positive_sides : goal.returns-in_default-positive_sides
returns-in_default-positive_sides c =
    no_equality_factoring c.args.c.now c.args.i c.args.s c.args.j c.args.z _ _ refl c.get-2.ensures.value (λ l o r q a b. c.in_default-positive_sides.ensures r q b)

pub returns : goal.returns
returns c =
    let a = c.args.c.now in let all = c.as_slice-literals.result.now in
    let us = ap (take c.args.i) c.as_slice-literals.ensures in
    let vs = take_rest all (c.args.i + 1) ∙ ap (drop (c.args.i + 1)) c.as_slice-literals.ensures in
    let first = room_alone _ _ c.variables.ensures in
    let second = room_second _ _ c.variables.ensures in
    let low = sides_below _ c.args.s a c.args.i _ _ _ c.get.ensures.value c.in-Some.ensures first in
    let high = sides_below _ c.args.z a c.args.j _ _ _ c.get-2.ensures.value c.in-Some-positive_sides.ensures second in
    let other = sides_below _ c.args.z a c.args.j _ _ _ c.get-2.ensures.value c.in-Some-positive_sides.ensures first in (
      is_equality_factoring a c.args.i c.args.s c.args.j c.args.z _ _ _ _ _ _ _ _ _ (take c.args.i all) (take (length all - (c.args.i + 1)) (drop (c.args.i + 1) all)) c.if-i-j.false
          c.get.ensures.value c.get-2.ensures.value c.in-Some.ensures c.in-Some-positive_sides.ensures c.variables.ensures c.from_ref.ensures.value c.from_ref-2.ensures.value us vs,
      record {
        left = one_below _ _ _ c.from_ref.ensures.value low.0;
        right = one_below _ _ _ c.from_ref-2.ensures.value high.0;
        one = front_below _ a.literals _ c.args.i us first;
        two = (low.1, other.1);
        three = back_below _ a.literals _ c.args.i vs first;
        four = nothing_below _;
        five = nothing_below _;
      },
    )
