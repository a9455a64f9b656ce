-- The rules meet the premises.
use Rattle.cd_premises.specs.Meets.{PremisesMeet}
use Rattle.cd_premises.proofs.Keys as keys
use Rattle.cd_premises.proofs.Steps as steps
use Rattle.cd_premises.proofs.Rewrites as rewrites
use Rattle.cd_premises.proofs.Conclusions as conclusions

pub premises_meet : PremisesMeet
premises_meet order = record {
  key_trans = keys.key_trans order;
  key_irrefl = keys.key_irrefl order;
  key_decides = keys.key_decides order;
  key_unnamed = keys.key_unnamed order;
  subsumer_below = keys.subsumer_below order;
  reduct_falls = keys.reduct_falls order;
  subsumed_holds = keys.subsumed_holds;
  tautology_holds = keys.tautology_holds;
  replay_grows = steps.replay_grows;
  replay_names = steps.replay_names;
  replay_sound = steps.replay_sound;
  replay_back = steps.replay_back;
  replay_input = steps.replay_input;
  input_is = steps.input_is;
  replay_copy = steps.replay_copy;
  copy_is = steps.copy_is;
  replay_tidy = steps.replay_tidy;
  tidy_fit = steps.tidy_fit;
  tidied_tidy = steps.tidied_tidy;
  replay_rewrite = rewrites.replay_rewrite order;
  solo_right = conclusions.solo_right order;
  pair_right = conclusions.pair_right order;
  solo_once = conclusions.solo_once order;
  pair_once = conclusions.pair_once order;
}
