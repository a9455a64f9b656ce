use Rattle.std.proofs.Common.{◌≡◌, subst, List, MatchOption, slice_get, Some}
use Rattle.cd_tasks.specs.declared.tasks.Key.{Key}
use Rattle.cd_tasks.specs.Owing.{Owing, IsNew, IsPlaceOf}
use Rattle.cd_tasks.specs.Tracking.{key_of, Lacks}
use Rattle.cd_tasks.proofs.Tracked.{named_place}
use Rattle.cd_tasks.proofs.tasks.Tasks.place.Goals as goal

pub returns : goal.returns
returns c =
    let old = c.self.inside in
    subst (λ (t : Owing). MatchOption c.place_of.result (IsNew c.args.n t.arrivals) (IsPlaceOf c.args.n t.arrivals)) c.self.view_is
    (named_place c.args.n old.arrivals.items c.place_of.result
    (subst (λ (ks : List Key). MatchOption c.place_of.result (Lacks ks (key_of c.args.n)) (λ k. slice_get ks k ≡ Some (key_of c.args.n))) c.self.invariant.0.keyed c.place_of.ensures.place))
