use Rattle.std.proofs.Common.{List, map, ap, ◌∙◌, sym, refl}
use Rattle.std.proofs.lemmas.Bool.{false≢true}
use Rattle.cd_term.specs.declared.Term.{Term}
use Rattle.cd_term.specs.Terms.{applied}
use Rattle.cd_steps.specs.Drafts.{concluded_under}
use Rattle.cd_steps.proofs.Stripping.{refused}
use Rattle.cd_steps.proofs.following.follows.Goals as goal

pub returns-then-not-all_same_applied : goal.returns-then-not-all_same_applied
returns-then-not-all_same_applied c = refused (λ g. false≢true (c.if-not-all_same_applied.ensures.1
    (g.equal ∙ ap (λ (u : List Term). map (applied u) c.args.draft.now.right.now) (sym c.in-Some.ensures.some.0))))

pub returns : goal.returns
returns c =
    let r = c.in-Some.ensures.some.0 in (
      (λ e. record {
        covers = c.in-Some.ensures.some.1;
        equal = c.if-not-all_same_applied.ensures.0 refl ∙ ap (λ (u : List Term). map (applied u) c.args.draft.now.right.now) r;
        literals = sym c.as_slice.ensures ∙ c.are_concluded.ensures.0 e ∙ ap (λ (u : List Term). concluded_under c.args.s.now u c.args.draft.now) r;
      }),
      (λ g. c.are_concluded.ensures.1 (c.as_slice.ensures ∙ g.literals ∙ sym (ap (λ (u : List Term). concluded_under c.args.s.now u c.args.draft.now) r))),
    )
