use Rattle.std.proofs.Common.{sym, ◌∙◌}
use Rattle.std.proofs.lemmas.Bool.{false≢true}
use Rattle.cd_acts.specs.View.{local_of}
use Rattle.cd_peer.proofs.Firsts.{first_there, may_admit, may_reject}
use Rattle.cd_peer.proofs.choosing.choose_letter.Goals as goal

pub letter_at-letter-requires : goal.letter_at-letter-requires
letter_at-letter-requires c = (c.requires.first.letter, first_there (local_of c.args.state.now) c.args.place c.requires.first)

pub returns-then-fine : goal.returns-then-fine
returns-then-fine c = (
  c.requires.first,
  may_admit (local_of c.args.state.now) c.args.place c.requires.first c.letter_at-letter.result.now c.letter_at-letter.ensures c.args.order.now c.args.problem.now (c.in_ok-fine.ensures.0 c.if-fine.true),
)

pub returns : goal.returns
returns c = (
  c.requires.first,
  may_reject (local_of c.args.state.now) c.args.place c.requires.first c.letter_at-letter.result.now c.letter_at-letter.ensures c.args.order.now c.args.problem.now
      (λ h. false≢true (sym c.if-fine.false ∙ c.in_ok-fine.ensures.1 h)),
)
