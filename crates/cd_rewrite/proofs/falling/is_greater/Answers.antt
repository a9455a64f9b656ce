use Rattle.cd_rewrite.proofs.falling.is_greater.Goals as goal

pub returns-then-is_lighter : goal.returns-then-is_lighter
returns-then-is_lighter c = (λ e. absurd (cc), λ _ g falls. c.is_lighter.ensures c.if-is_lighter.true g falls.2)

pub returns-in_default : goal.returns-in_default
returns-in_default c = (λ e. absurd (cc), λ _. (rw c.in_default.is at c.in_ok-_subst.ensures))

pub returns : goal.returns
returns c = (λ _. (_, (rw c.in-Some.is at c.in_ok-_subst.ensures).1), λ e. absurd (cc))
