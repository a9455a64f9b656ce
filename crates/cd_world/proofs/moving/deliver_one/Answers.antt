use Rattle.cd_world.proofs.moving.deliver_one.Goals as goal

pub give_peer-requires : goal.give_peer-requires
give_peer-requires c = c.requires.may c.remove-letter.result c.remove-letter.ensures.item
