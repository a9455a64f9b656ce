use Rattle.cd_rewrite.proofs.falling.falls_at.Goals as goal

pub returns-then-not-may_match : goal.returns-then-not-may_match
returns-then-not-may_match c = (λ e. absurd (cc), λ _ g falls. c.may_match.ensures c.if-not-may_match.true g falls.1)
