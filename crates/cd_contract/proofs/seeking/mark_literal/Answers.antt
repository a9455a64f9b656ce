use Rattle.std.proofs.Common.{subst}
use Rattle.cd_contract.specs.Marks.{Marked}
use Rattle.cd_contract.proofs.Meeting.{parts_stay, term_stays, whole_truth, whole_predicate, whole_equation}
use Rattle.cd_contract.proofs.seeking.mark_literal.Goals as goal

pub returns-in-Truth-clause-met : goal.returns-in-Truth-clause-met
returns-in-Truth-clause-met c =
    whole_truth c.mark.new.self c.args.l.now c.head-symbol.result c.in-Truth.is c.head-symbol.ensures
    (subst (Marked c.mark.new.self) c.mixed.ensures.value c.mark.ensures.marked)

pub returns-in-Pred-clause-met : goal.returns-in-Pred-clause-met
returns-in-Pred-clause-met c =
    whole_predicate c.mark_terms.new.marks c.args.l.now c.head-symbol.result c.in-Pred.field-0 _ c.as_slice-args.result.now c.in-Pred.is c.as_slice-args.ensures c.head-symbol.ensures
    (parts_stay c.mark_parts.new.marks c.mark_terms.new.marks _ _ _ c.mark_terms.ensures.kept c.mark_parts.ensures.parts) c.mark_terms.ensures.met

pub returns-in-Equal-clause-met : goal.returns-in-Equal-clause-met
returns-in-Equal-clause-met c =
    whole_equation c.mark_term-in-Equal.new.marks c.args.l.now c.head-symbol.result c.in-Equal.s c.in-Equal.t c.in-Equal.is c.head-symbol.ensures
    (parts_stay c.mark_sides.new.marks c.mark_term-in-Equal.new.marks _ _ _ (λ k on. c.mark_term-in-Equal.ensures.kept k (c.mark_term.ensures.kept k on)) c.mark_sides.ensures.straight)
    (parts_stay c.mark_sides.new.marks c.mark_term-in-Equal.new.marks _ _ _ (λ k on. c.mark_term-in-Equal.ensures.kept k (c.mark_term.ensures.kept k on)) c.mark_sides.ensures.exchanged)
    (term_stays (Marked c.mark_term.new.marks) (Marked c.mark_term-in-Equal.new.marks) c.in-Equal.s c.mark_term-in-Equal.ensures.kept c.mark_term.ensures.met)
    c.mark_term-in-Equal.ensures.met
