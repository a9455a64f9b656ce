use Rattle.cd_infer.proofs.pair_marked.Goals as goal

pub conclude_both-requires-clause-pairable : goal.conclude_both-requires-clause-pairable
conclude_both-requires-clause-pairable c = record { first = c.requires.first; second = c.requires.second }

pub conclude_both-requires-clause-marks : goal.conclude_both-requires-clause-marks
conclude_both-requires-clause-marks c = record { first = c.requires.first_marks; second = c.requires.second_marks }
