use Rattle.std.proofs.Common.{◌≡◌, ◌∙◌, ap, sym, subst, map, List, ℕ}
use Rattle.cd_check.specs.Bodies.{IsAdded}
use Rattle.cd_check.proofs.BodyLemmas.{inserted}
use Rattle.cd_check.proofs.bodies.Bodies.add.Goals as goal

pub returns : goal.returns
returns c =
    let old = c.self.inside.bodies.keys in
    let new = c.insert_full.new.self.keys in
    subst (λ (bs : List (List ℕ)). IsAdded bs (map (λ v. v.items) new) c.args.body) c.self.view_is
    (subst (λ (b : List ℕ). IsAdded (map (λ v. v.items) old) (map (λ v. v.items) new) b) c.into_vec.ensures.value
    (inserted (λ v. v.items) old new c.into_vec.result c.in_ok-insert_full.ensures.keys))
