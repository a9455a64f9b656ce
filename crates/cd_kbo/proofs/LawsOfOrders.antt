-- The laws of the ground order, together.
use Rattle.cd_kbo.specs.Laws.{GroundOrderHasLaws}
use Rattle.std.specs.Cmp.Lexicographic.{slice_cmp}
use Rattle.std.specs.Ordering.{nat_cmp}
use Rattle.cd_kbo.proofs.GroundLemmas.{ground_total, ground_irreflexive, ground_same, ground_monotone, ground_first, ground-App-App}
use Rattle.cd_kbo.proofs.KboLemmas.{ground_equal, bot_least, key_grounded}
use Rattle.cd_kbo.proofs.Contexts.{ground_contexts}

pub ground_laws : GroundOrderHasLaws
ground_laws o = record {
  total = ground_total o;
  irreflexive = ground_irreflexive o;
  same = ground_same o;
  same_ground = ground_equal o;
  as_bot = λ s t i. slice_cmp nat_cmp (key_grounded o s i) (key_grounded o t i);
  least = bot_least o;
  monotone = ground_monotone o;
  contexts = ground_contexts o;
  weights_first = ground_first o;
  symbols = ground-App-App o;
}
