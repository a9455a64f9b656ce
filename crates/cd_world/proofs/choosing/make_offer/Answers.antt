use Rattle.cd_world.proofs.Picks.{others_offered}
use Rattle.cd_world.proofs.choosing.make_offer.Goals as goal

pub returns-then-others-gt0 : goal.returns-then-others-gt0
returns-then-others-gt0 c =
    others_offered c.args.counter c.args.peers.now c.args.letters.now c.offer_others-others.result c.if-counter-peers.true c.offer_others-others.ensures.tokens c.offer_others-others.ensures.turns
    c.offer_others-others.ensures.deliveries c.offer_others-others.ensures.few_turns c.offer_others-others.ensures.few_deliveries c.then-others-gt0.either
