use Rattle.std.proofs.Common.{◌+◌, ◌-◌, length, take, drop, ap, ◌∙◌, sym}
use Rattle.std.specs.Option.{option_copied}
use Rattle.std.proofs.lemmas.List.{take_rest}
use Rattle.cd_steps.proofs.Bounding.{front_below, back_below}
use Rattle.cd_steps.proofs.Drafting.{no_giver, no_taker, no_inner, is_paramodulation, literal_below, sides_below, inner_below, one_below, all_room}
use Rattle.cd_steps.proofs.rules.replacement.Goals as goal

pub returns-in_default : goal.returns-in_default
returns-in_default c = no_giver c.args.a.now c.args.b.now c.args.i c.args.s c.args.j c.args.path.now _ c.get.ensures.value c.in_default.ensures

pub returns-in_default-get : goal.returns-in_default-get
returns-in_default-get c =
    no_taker c.args.a.now c.args.b.now c.args.i c.args.s c.args.j c.args.path.now (sym c.get-2.ensures.value ∙ ap option_copied c.in_default-get.is)

pub returns-in_default-at_atom : goal.returns-in_default-at_atom
returns-in_default-at_atom c =
    no_inner c.args.a.now c.args.b.now c.args.i c.args.s c.args.j c.args.path.now c.in-Some-get.taker.now
    (sym c.get-2.ensures.value ∙ ap option_copied c.in-Some-get.is)
    (sym c.at_atom.ensures ∙ ap option_copied c.in_default-at_atom.is)

pub returns : goal.returns
returns c =
    let a = c.args.a.now in let b = c.args.b.now in
    let front = c.as_slice-front.result.now in let back = c.as_slice-back.result.now in
    let us = ap (take c.args.i) c.as_slice-front.ensures in
    let vs = take_rest front (c.args.i + 1) ∙ ap (drop (c.args.i + 1)) c.as_slice-front.ensures in
    let ws = ap (take c.args.j) c.as_slice-back.ensures in
    let zs = take_rest back (c.args.j + 1) ∙ ap (drop (c.args.j + 1)) c.as_slice-back.ensures in
    let taker = sym c.get-2.ensures.value ∙ ap option_copied c.in-Some-get.is in
    let inner = sym c.at_atom.ensures ∙ ap option_copied c.in-Some-at_atom.is in
    let low = sides_below _ c.args.s a c.args.i _ _ _ c.get.ensures.value c.in-Some.ensures (all_room a) in
    record {
      rule = is_paramodulation a b c.args.i c.args.s c.args.j c.args.path.now _ _ _ c.in-Some-get.taker.now c.in-Some.side.now c.in-Some.other.now c.in-Some-at_atom.inner.now _ _
          (take c.args.i front) (take (length front - (c.args.i + 1)) (drop (c.args.i + 1) front)) (take c.args.j back) (take (length back - (c.args.j + 1)) (drop (c.args.j + 1) back))
          c.variables.ensures c.variables-2.ensures c.get.ensures.value taker c.in-Some.ensures inner c.from_ref.ensures.value c.from_ref-2.ensures.value us vs ws zs;
      up = c.variables.ensures;
      more = c.variables-2.ensures;
      below = record {
        left = one_below _ _ _ c.from_ref.ensures.value low.0;
        right = one_below _ _ _ c.from_ref-2.ensures.value (inner_below _ b c.args.j c.args.path.now _ _ taker inner (all_room b));
        one = front_below _ a.literals _ c.args.i us (all_room a);
        two = back_below _ a.literals _ c.args.i vs (all_room a);
        three = front_below _ b.literals _ c.args.j ws (all_room b);
        four = (literal_below _ b c.args.j _ taker (all_room b), low.1);
        five = back_below _ b.literals _ c.args.j zs (all_room b);
      };
    }
