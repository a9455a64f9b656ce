use Rattle.std.proofs.Common.{rules, ◌≡◌, ◌∙◌, ℕ, List, Ok, sym, ap, subst, refl, arith}
use Rattle.cd_parse.specs.declared.part.Found.{Found}
use Rattle.cd_parse.specs.declared.part.Found.TheVariants.{More}
use Rattle.cd_parse.specs.declared.statement.Stage as declared
use Rattle.cd_parse.specs.Stages.{Begin}
use Rattle.cd_parse.specs.Code.{stage_of, StageFits}
use Rattle.cd_parse.specs.Reading.{IsRead, Begun, IsOpen}
use Rattle.cd_parse.proofs.PartLemmas.{goes_more, goes_read, begun_none, ok_same, ok_apart}
use Rattle.cd_parse.proofs.part.read_part.Goals as goal

pub loop-found-init : goal.loop-found-init
loop-found-init c = record {
  within = c.requires.within;
  open_ = subst (λ (s : declared.Stage). IsOpen (stage_of s)) (sym c.requires.begin) tt;
  fits = subst StageFits (sym c.requires.begin) tt;
  later = omega arith;
  same = refl;
  begun = subst (λ (s : declared.Stage). Begun c.args.opens.now c.args.bytes.now c.args.progress.now.at c.clear.new.self (stage_of s) 0 c.args.progress.now.at) (sym c.requires.begin)
      (subst (λ (l : List ℕ). Begun c.args.opens.now c.args.bytes.now c.args.progress.now.at l Begin 0 c.args.progress.now.at) (sym c.clear.ensures)
      (begun_none c.args.opens.now c.args.bytes.now c.args.progress.now.at));
}

pub returns-in_err-found : goal.returns-in_err-found
returns-in_err-found c =
    let e : c.read_token.result ≡ c.from_residual.result = search rules in
    subst (IsRead c.args.opens.now c.args.bytes.now c.args.progress.now.at c.read_token.new.progress) e
    (goes_read _ _ c.loop-found.progress _ c.read_token.result _ c.loop-found.invariant.same c.loop-found.invariant.later (λ h. ok_apart c.read_token.result More _ c.in_err-found.was h) c.read_token.ensures)

pub loop-found-preserved : goal.loop-found-preserved
loop-found-preserved c =
    let m = goes_more _ _ c.loop-found.progress c.read_token.new.progress c.read_token.result (c.in_ok-found.was ∙ ap (λ (f : Found). Ok f) c.in-More.is) c.read_token.ensures in
    record { within = m.1; open_ = m.2; fits = m.3; later = omega (arith, m.0, m.4, c.loop-found.invariant.later); same = m.4 ∙ c.loop-found.invariant.same; begun = m.5 }

pub loop-found-smaller : goal.loop-found-smaller
loop-found-smaller c =
    let m = goes_more _ _ c.loop-found.progress c.read_token.new.progress c.read_token.result (c.in_ok-found.was ∙ ap (λ (f : Found). Ok f) c.in-More.is) c.read_token.ensures in
    omega (arith, m.0, m.1)

pub returns-in_default : goal.returns-in_default
returns-in_default c =
    subst (IsRead c.args.opens.now c.args.bytes.now c.args.progress.now.at c.read_token.new.progress) c.in_ok-found.was
    (goes_read _ _ c.loop-found.progress _ c.read_token.result _ c.loop-found.invariant.same c.loop-found.invariant.later (λ h. c.in_default.not-More (ok_same c.read_token.result _ More c.in_ok-found.was h)) c.read_token.ensures)
