use Rattle.std.proofs.Common.{ap, ◌∙◌, sym}
use Rattle.std.proofs.lemmas.Bool.{false≢true}
use Rattle.std.proofs.lemmas.List.{nil_from_length}
use Rattle.std.specs.Option.{option_copied}
use Rattle.cd_clause.specs.Places.{replaced_at_under}
use Rattle.cd_clause.proofs.PlaceLemmas.{at-nowhere}
use Rattle.cd_steps.proofs.Stripping.{no_literal, replaced_there, none_left, other_sign, other_atom, signs_differ}
use Rattle.cd_steps.proofs.following.strip_replaced.Goals as goal

pub returns-in_default-clause-some : goal.returns-in_default-clause-some
returns-in_default-clause-some c =
    no_literal c.args.literal.now.positive (replaced_at_under c.args.r.now c.args.s.now c.args.path.now c.args.new.now c.args.literal.now.atom) c.args.rest.now
    (at-nowhere c.args.r.now c.args.s.now c.args.path.now c.args.new.now c.args.literal.now.atom (sym c.at_atom.ensures ∙ ap option_copied c.in_default.is))

pub returns-in_default-split_first-clause-none : goal.returns-in_default-split_first-clause-none
returns-in_default-split_first-clause-none c =
    none_left c.args.literal.now.positive (replaced_at_under c.args.r.now c.args.s.now c.args.path.now c.args.new.now c.args.literal.now.atom) c.args.rest.now
    (replaced_there c.args.r.now c.args.s.now c.args.path.now c.args.new.now c.args.literal.now.atom c.in-Some.field-0.now (sym c.at_atom.ensures ∙ ap option_copied c.in-Some.is))
    (nil_from_length _ c.in_default-split_first.ensures.cases)

pub returns-then-other-literal-clause-none : goal.returns-then-other-literal-clause-none
returns-then-other-literal-clause-none c =
    other_sign c.args.literal.now.positive (replaced_at_under c.args.r.now c.args.s.now c.args.path.now c.args.new.now c.args.literal.now.atom) c.args.rest.now
    (replaced_there c.args.r.now c.args.s.now c.args.path.now c.args.new.now c.args.literal.now.atom c.in-Some.field-0.now (sym c.at_atom.ensures ∙ ap option_copied c.in-Some.is))
    c.in-Some-split_first.other.now c.in-Some-split_first.others.now c.in-Some-split_first.ensures.cases.0 (signs_differ _ _ c.if-other-literal.true)

pub returns-then-not-is_atom_replaced-clause-none : goal.returns-then-not-is_atom_replaced-clause-none
returns-then-not-is_atom_replaced-clause-none c =
    other_atom c.args.literal.now.positive (replaced_at_under c.args.r.now c.args.s.now c.args.path.now c.args.new.now c.args.literal.now.atom) c.args.rest.now
    (replaced_there c.args.r.now c.args.s.now c.args.path.now c.args.new.now c.args.literal.now.atom c.in-Some.field-0.now (sym c.at_atom.ensures ∙ ap option_copied c.in-Some.is))
    c.in-Some-split_first.other.now c.in-Some-split_first.others.now c.in-Some-split_first.ensures.cases.0 (λ e. false≢true (c.if-not-is_atom_replaced.ensures.1 e))
