use Rattle.std.proofs.Common.{◌≡◌, ◌++◌, List, IfNone, subst, sym}
use Rattle.cd_clause.specs.declared.Literal.{Literal}
use Rattle.cd_steps.specs.declared.drafts.Part.{Part}
use Rattle.cd_steps.specs.Drafts.{part_under}
use Rattle.cd_steps.proofs.following.strip_part.Goals as goal

pub returns-in-First-clause-none : goal.returns-in-First-clause-none
returns-in-First-clause-none c =
    subst (λ (p : Part). IfNone c.strip_applied.result ((others : List Literal) → c.args.rest.now ≡ part_under c.args.s.now c.args.r.now p ++ others → ⊥))
    (sym c.in-First.is) c.strip_applied.ensures.none

pub returns-in-Second-clause-none : goal.returns-in-Second-clause-none
returns-in-Second-clause-none c =
    subst (λ (p : Part). IfNone c.strip_applied-in-Second.result ((others : List Literal) → c.args.rest.now ≡ part_under c.args.s.now c.args.r.now p ++ others → ⊥))
    (sym c.in-Second.is) c.strip_applied-in-Second.ensures.none
