use Rattle.std.proofs.Common.{◌≡◌, ◌∙◌, ◌++◌, ◌∷◌, [], ℕ, List, Some, sym, ap, subst}
use Rattle.std.specs.Prelude.{cond}
use Rattle.indexmap.specs.IndexMap.{get}
use Rattle.cd_parse.specs.declared.label.Label.{Label}
use Rattle.cd_parse.specs.contracts.label.LabelPartialEq.TheImpl.{eq-value}
use Rattle.cd_read.specs.Labels.{KnowsPlaces}
use Rattle.cd_read.proofs.LabelLemmas.{known_more}
use Rattle.cd_read.proofs.labels.Seen.add.Goals as goal

pub invariant_of-self-in-Ok : goal.invariant_of-self-in-Ok
invariant_of-self-in-Ok c =
    let same : c.self.inside.labels ++ c.in_ok-copy.copy ∷ [] ≡ c.push.new.self = ap (λ (x : Label). c.self.inside.labels ++ x ∷ []) c.in_ok-copy.ensures ∙ sym c.in_ok-push.ensures.ok in
    subst (λ (ls : List Label). KnowsPlaces ls c.insert.new.self) same
    (known_more c.self.inside.labels c.self.inside.places c.insert.new.self c.in_ok-copy.copy c.self.invariant
    (λ m. c.in-Ok.ensures.updates.0 m ∙ ap (λ (n : ℕ). cond (eq-value.it c.in_ok-copy.copy m) (Some n) (get eq-value.it c.self.inside.places m)) c.len-place.ensures.value))
