use Rattle.std.proofs.Common.{map, rules, subst}
use Rattle.std.proofs.lemmas.List.Sorted.{IsPermutation-map, answers_always}
use Rattle.std.specs.Prelude.{IsPermutation}
use Rattle.cd_recorded.specs.Live.{name_of}
use Rattle.cd_top.proofs.Sorting.{sorted_through}
use Rattle.cd_top.proofs.finding.sorted_live.Goals as goal

pub returns-clause-live : goal.returns-clause-live
returns-clause-live c =
    subst (λ rs. IsPermutation rs (map (λ r. r.now) c.sort_unstable_by_key.new.self.items)) (c.in_ok-live.ensures {u = tt})
    (IsPermutation-map (λ r. r.now) c.in_ok-live.live.items c.sort_unstable_by_key.new.self.items c.sort_unstable_by_key.ensures.permutation)

pub returns-clause-sorted : goal.returns-clause-sorted
returns-clause-sorted c =
    sorted_through c.sort_unstable_by_key.new.self.items (c.sort_unstable_by_key.ensures.sorted (λ r. name_of r.now) (answers_always _ _ _ (λ f a r g h. search rules)))
