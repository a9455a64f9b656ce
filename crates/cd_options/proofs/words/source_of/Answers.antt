use Rattle.cd_options.proofs.words.source_of.Goals as goal

pub returns-in-None-Some-clause-usage : goal.returns-in-None-Some-clause-usage
returns-in-None-Some-clause-usage c = rw (c.in-None-Some.is-0, c.in-None-Some.is-1) c.grid_of.ensures.usage
