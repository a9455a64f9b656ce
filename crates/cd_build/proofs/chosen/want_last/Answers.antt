use Rattle.std.proofs.Common.{◌≡◌, [], List, ap, refl, sym, ◌∙◌, subst}
use Rattle.std.specs.Option.{option_copied}
use Rattle.cd_ledger.specs.declared.records.Known.{Known}
use Rattle.cd_names.specs.declared.names.Name.{Name}
use Rattle.cd_alone.specs.Derived.{last_names}
use Rattle.cd_build.specs.Marks.{wanted_marks}
use Rattle.cd_build.proofs.Marking.{last_is, last_none, none_wanted}
use Rattle.cd_build.proofs.chosen.want_last.Goals as goal

pub want-requires-clause-marks : goal.want-requires-clause-marks
want-requires-clause-marks c = ([], c.requires.none ∙ none_wanted c.args.known.now)

pub returns-in-Some : goal.returns-in-Some
returns-in-Some c =
    let known = c.args.known.now in
    c.want.ensures [] (c.requires.none ∙ none_wanted known)
    ∙ ap (λ (ns : List Name). wanted_marks ns known) (sym (last_is known c.in-Some.last.now (sym c.last.ensures ∙ ap option_copied c.in-Some.is)))

pub returns-in-None : goal.returns-in-None
returns-in-None c =
    let known = c.args.known.now in
    let none : known ≡ [] = last_none known (sym c.last.ensures ∙ ap option_copied c.in-None.is) in
    c.requires.none ∙ none_wanted known ∙ subst (λ (es : List Known). wanted_marks [] es ≡ wanted_marks (last_names es) es) (sym none) refl
