use Rattle.std.proofs.Common.{◌++◌, ◌∷◌, [], List, ℕ, sym, subst}
use Rattle.cd_clause.specs.Codes.{AreMet}
use Rattle.cd_clause.proofs.CodeLemmas.{met_more, superfluous_as}
use Rattle.cd_clause.proofs.codes.is_superfluous_behind.Goals as goal

pub returns : goal.returns
returns c = λ earlier met. (
  superfluous_as c.args.met.now.keys earlier c.args.literal.now c.in_ok-code.code c.in_ok-other.other c.is_left_out-out.result met
      c.in_ok-code.ensures c.in_ok-other.ensures c.is_left_out-out.ensures,
  subst (λ (codes : List (List ℕ)). AreMet codes (earlier ++ c.args.literal.now ∷ [])) (sym c.in_ok-insert.ensures.keys)
      (met_more c.args.met.now.keys earlier c.args.literal.now c.in_ok-code.code met c.in_ok-code.ensures),
)
