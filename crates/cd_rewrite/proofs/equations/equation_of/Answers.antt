use Rattle.cd_rewrite.proofs.Sides.{equation_bounds}
use Rattle.cd_rewrite.proofs.equations.equation_of.Goals as goal

pub returns-clause-ready : goal.returns-clause-ready
returns-clause-ready c = λ o.
    let below = equation_bounds c.args.e.now c.args.left.now c.args.right.now c.args.variables c.requires.sides c.requires.count in record {
      left_below = below.0;
      right_below = below.1;
      left = λ out. c.may_lower-from_left.ensures out o;
      right = λ out. c.may_lower-from_right.ensures out o;
    }
