use Rattle.std.proofs.Common.{◌≡◌, ◌∙◌, Some, inl, inr, slice_get, nat_eq, refl, ap, subst}
use Rattle.std.specs.Cmp.Lexicographic.{pointwise}
use Rattle.cd_read.specs.Meaning.{IsNumbered}
use Rattle.cd_symbols.proofs.TableLemmas.{same_text, at_position, at_no_position, put_last}
use Rattle.cd_read.proofs.numbering.Variables.number.Goals as goal

pub returns-in-Some-clause-ok : goal.returns-in-Some-clause-ok
returns-in-Some-clause-ok c =
    inl (
      subst (λ t. slice_get t c.in-Some.place ≡ Some c.in_ok-text.text) c.self.view_is
          (at_position (pointwise nat_eq) same_text c.self.inside.words.keys c.in_ok-text.text c.in-Some.place c.in-Some.ensures.index)
          ∙ ap Some c.in_ok-text.ensures,
      refl,
    )

pub returns-clause-ok : goal.returns-clause-ok
returns-clause-ok c =
    let lacks = at_no_position (pointwise nat_eq) same_text c.self.inside.words.keys c.in_ok-text.text c.in_default.ensures.found in
    subst (λ t. IsNumbered t c.insert.new.self.keys c.args.word.now c.len-place.result) c.self.view_is
    (subst (λ w. IsNumbered c.self.inside.words.keys c.insert.new.self.keys w c.len-place.result) c.in_ok-text.ensures (inr (
      lacks,
      c.len-place.ensures.len,
      c.in_ok-insert.ensures.keys ∙ put_last (pointwise nat_eq) same_text c.self.inside.words.keys c.in_ok-text.text lacks,
    )))
