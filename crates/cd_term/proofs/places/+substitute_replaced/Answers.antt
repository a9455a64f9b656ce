use Rattle.std.proofs.Common.{ℕ, ap, ap₂, ◌∙◌, sym, Some, List, map, slice_get, slice_set, option_map}
use Rattle.cd_term.specs.declared.Term.{Term}
use Rattle.cd_term.specs.declared.Term.TheVariants.{App}
use Rattle.cd_term.specs.Terms.{applied}
use Rattle.cd_term.proofs.Replacing.{under-Var, under-out, under-in}
use Rattle.cd_term.proofs.places.+substitute_replaced.Goals as goal

pub returns-in-Var : goal.returns-in-Var
returns-in-Var t c = sym (under-Var _ _ _ _ _ _ _ _ c.in-Some.ensures.cases.0 c.in-Var.is)

pub returns-in_default-get : goal.returns-in_default-get
returns-in_default-get t c =
    let out = ap (slice_get c.in-App.args) (sym c.from-place.ensures) ∙ sym c.in_default-get.ensures.value in
    sym (under-out _ _ _ _ _ _ _ _ _ c.in-Some.ensures.cases.0 c.in-App.is out)

pub returns-in_default-2 : goal.returns-in_default-2
returns-in_default-2 t c =
    let here = ap (slice_get c.in-App.args) (sym c.from-place.ensures) ∙ sym c.in-Some-get.ensures.value in
    let inner = sym c.in_ok-inner-in-App.ensures ∙ c.in_default-2.is in
    sym (under-in _ _ _ _ _ c.args.new.now _ _ _ _ c.in-Some.ensures.cases.0 c.in-App.is here
    ∙ ap (option_map (λ v. App c.in-App.f (slice_set (map (applied c.args.r.now) c.in-App.args) c.in-Some.first.now v))) inner)

pub returns-in_ok-apply_around-in-App : goal.returns-in_ok-apply_around-in-App
returns-in_ok-apply_around-in-App t c =
    let h = applied c.args.r.now in
    let here = ap (slice_get c.in-App.args) (sym c.from-place.ensures) ∙ sym c.in-Some-get.ensures.value in
    let inner = sym c.in_ok-inner-in-App.ensures ∙ c.in-Some-2.is in
    let all = under-in _ _ _ _ _ c.args.new.now _ _ _ _ c.in-Some.ensures.cases.0 c.in-App.is here
    ∙ ap (option_map (λ v. App c.in-App.f (slice_set (map h c.in-App.args) c.in-Some.first.now v))) inner in
    ap (λ vs. Some (App c.in-App.f vs)) (c.in_ok-apply_around-in-App.ensures
    ∙ ap₂ (λ (ts : List Term) (k : ℕ). slice_set (map h ts) k c.in-Some-2.inner) c.as_slice.ensures c.from-place.ensures) ∙ sym all
