use Rattle.std.proofs.Common.{arith, ◌∙◌}
use Rattle.cd_rewrite.proofs.Turns.{no_match, matched}
use Rattle.cd_rewrite.proofs.lowering.match_term.Goals as goal

pub returns-then-not-branch : goal.returns-then-not-branch
returns-then-not-branch c =
    no_match _ _ c.args.general.now c.args.special.now _ c.in_ok-bindings.ensures.free
    (c.in_ok-bind.ensures.fits (omega (arith, c.in_ok-bindings.ensures.covers, c.requires))) c.if-not-branch.true

pub returns : goal.returns
returns c = (
  c.in_ok-subst.ensures.covers ∙ c.in_ok-bind.ensures.covers ∙ c.in_ok-bindings.ensures.covers,
  matched _ _ c.args.general.now c.args.special.now _ _
      (c.in_ok-bind.ensures.fits (omega (arith, c.in_ok-bindings.ensures.covers, c.requires))) c.if-not-branch.false c.in_ok-subst.ensures.fits,
)
