use Rattle.std.proofs.Common.{inl, inr, refl}
use Rattle.cd_build.proofs.derive.add_step.Goals as goal

pub returns-in-Some : goal.returns-in-Some
returns-in-Some c = inl (c.in-Some.n, c.in-Some.ensures, refl, refl)

pub returns-in_ok-add_line-in-None : goal.returns-in_ok-add_line-in-None
returns-in_ok-add_line-in-None c = inr (c.in-None.ensures, c.in_ok-add_line-in-None.ensures, refl)
