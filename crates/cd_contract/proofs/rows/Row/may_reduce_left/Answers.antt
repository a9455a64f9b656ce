use Rattle.cd_contract.proofs.Refusing.{not_reduced}
use Rattle.cd_contract.proofs.rows.Row.may_reduce_left.Goals as goal

pub returns : goal.returns
returns c = λ out o d e mine its at here.
    not_reduced d e _ c.args.self.now.left c.args.other.now.terms _ c.fits.ensures out mine.sides.left its.terms o at here
