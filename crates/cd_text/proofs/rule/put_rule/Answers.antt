use Rattle.std.proofs.Common.{◌∙◌, ◌++◌, ◌∷◌, [], codes, ap, sym, List}
use Rattle.cd_term.specs.declared.Term.{Term}
use Rattle.cd_steps.specs.declared.Step.{Step}
use Rattle.cd_text.specs.Texts.{rule_text, entries_text, numbers_text}
use Rattle.std.proofs.lemmas.Result.{on_ok_weaker}
use Rattle.cd_text.proofs.rule.put_rule.Goals as goal

pub returns-in-Factor-clause-text : goal.returns-in-Factor-clause-text
unfolding rule_text
returns-in-Factor-clause-text c =
    on_ok_weaker c.put_pair-in-Factor.result
    (λ put. put
    ∙ ap (λ (ts : List Term). c.args.into.now ++ entries_text c.args.symbols.now (codes "factor") (numbers_text (c.in-Factor.i ∷ c.in-Factor.j ∷ [])) ts) c.as_slice-in-Factor.ensures
    ∙ ap (λ (s : Step). c.args.into.now ++ rule_text c.args.symbols.now s) (sym c.in-Factor.is))
    c.put_pair-in-Factor.ensures.text

pub returns-in-Tidy-clause-text : goal.returns-in-Tidy-clause-text
unfolding rule_text
returns-in-Tidy-clause-text c =
    on_ok_weaker c.put_bytes.result (λ put. put ∙ ap (λ (s : Step). c.args.into.now ++ rule_text c.args.symbols.now s) (sym c.in-Tidy.is)) c.put_bytes.ensures.text
