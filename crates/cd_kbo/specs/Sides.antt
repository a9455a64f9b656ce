-- Terms and atoms as they are compared.
-- Beyond the headline: no clause of `prove` reaches this file.
use Rattle.cd_term.specs.declared.Term.{Term}
use Rattle.cd_term.specs.declared.Term.TheVariants.{Var, App}
use Rattle.cd_kbo.specs.declared.sides.Side.{Side}
use Rattle.cd_kbo.specs.declared.sides.Side.TheVariants.{Variable, Symbol}

-- the term that is looked at
abbrev pub term_of : Side → Term
term_of (Variable n) = Var n
term_of (Symbol f args) = App f args.now
