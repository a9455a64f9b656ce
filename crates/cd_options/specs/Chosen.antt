-- The values as the code holds them.
-- Beyond the headline: no clause of `prove` reaches this file.
use Rattle.std.specs.Prelude.{option_map}
use Rattle.cd_options.specs.declared.words.Chosen.{Chosen}
use Rattle.cd_options.specs.Options.{Values}

abbrev pub values_in : Chosen → Values
values_in c = record {
  peers = option_map (λ t. t.now) c.peers;
  steps = option_map (λ t. t.now) c.steps;
  allocate = option_map (λ t. t.now) c.allocate;
  schedule = option_map (λ t. t.now) c.schedule;
  grid = option_map (λ t. t.now) c.grid;
  file = option_map (λ t. t.now) c.file;
}
