use Rattle.std.proofs.Common.{◌+◌, List, sum_by, sym, ap, ◌∙◌, arith, subst}
use Rattle.cd_term.specs.declared.Term.{Term}
use Rattle.cd_term.specs.declared.Term.TheVariants.{App}
use Rattle.cd_clause.specs.declared.Atom.{Atom}
use Rattle.cd_kbo.specs.Kbo.{occurrences}
use Rattle.cd_kbo.specs.Sides.{term_of}
use Rattle.cd_kbo.specs.Blocks.{IsNext, least_of}
use Rattle.cd_kbo.proofs.BlockLemmas.{next_same, next_least}
use Rattle.cd_key.specs.Literals.{sides}
use Rattle.cd_key.proofs.RepeatLemmas.{one_side, two_sides}
use Rattle.cd_key.proofs.repeats.next_in_atom.Goals as goal

pub returns-in-Pred : goal.returns-in-Pred
returns-in-Pred c = next_same c.args.from (λ k. occurrences k (App c.in-Pred.p c.as_slice.result.now)) (λ k. sum_by (occurrences k) (sides c.args.a.now)) c.next_variable.result
    (λ k. ap (λ (ts : List Term). occurrences k (App c.in-Pred.p ts)) c.as_slice.ensures
    ∙ sym (one_side (occurrences k) (App c.in-Pred.p c.in-Pred.args)) ∙ sym (ap (λ (a : Atom). sum_by (occurrences k) (sides a)) c.in-Pred.is))
    c.next_variable.ensures

pub returns-in-Equal : goal.returns-in-Equal
returns-in-Equal c = subst (IsNext c.args.from (λ k. sum_by (occurrences k) (sides c.args.a.now))) (sym c.least_variable.ensures)
    (next_same c.args.from (λ k. occurrences k (term_of c.of.result) + occurrences k (term_of c.of-in-Equal.result)) (λ k. sum_by (occurrences k) (sides c.args.a.now))
    (least_of c.next_variable-in-Equal.result c.next_variable-in-Equal-2.result)
    (λ k. omega (
      arith,
      ap (occurrences k) c.of.ensures,
      ap (occurrences k) c.of-in-Equal.ensures,
      two_sides (occurrences k) c.in-Equal.s c.in-Equal.t,
      ap (λ (a : Atom). sum_by (occurrences k) (sides a)) c.in-Equal.is,
    ))
    (next_least c.args.from (λ k. occurrences k (term_of c.of.result)) (λ k. occurrences k (term_of c.of-in-Equal.result))
    c.next_variable-in-Equal.result c.next_variable-in-Equal-2.result c.next_variable-in-Equal.ensures c.next_variable-in-Equal-2.ensures))
