use Rattle.std.proofs.Common.{◌≡◌, Err, arith, rules}
use Rattle.cd_read.specs.Overflow.{WhyAtom}
use Rattle.cd_read.proofs.WhyLemmas.{err_is, few_in_atom, pred_full_why, pred_why, left_why, right_why, equal_given, right_room}
use Rattle.cd_read.proofs.numbering.atom_of.Goals as goal

pub interned-requires : goal.interned-requires
interned-requires c = record { few = omega (arith, (few_in_atom _ _ _ c.in-Pred.is).1, c.len.ensures.value, c.requires.few) }

pub returns-in_err-number-in-Pred-clause-why : goal.returns-in_err-number-in-Pred-clause-why
returns-in_err-number-in-Pred-clause-why c =
    let e : c.from_residual.result ≡ Err c.in_err-number-in-Pred.field-0.0 = search rules in
    err_is c.from_residual.result c.in_err-number-in-Pred.field-0.0 (WhyAtom c.args.symbols.now c.args.variables.now c.args.atom.now) e
    (pred_full_why _ c.args.variables.now _ c.in-Pred.word _ c.len.result c.in_err-number-in-Pred.field-0.0 c.in-Pred.is c.len.ensures.value c.in_err-number-in-Pred.ensures.err)

pub returns-in_err-terms-in-Pred-clause-why : goal.returns-in_err-terms-in-Pred-clause-why
returns-in_err-terms-in-Pred-clause-why c =
    let e : c.from_residual-in_err-terms-in-Pred.result ≡ Err c.in_err-terms-in-Pred.field-0.0 = search rules in
    err_is c.from_residual-in_err-terms-in-Pred.result c.in_err-terms-in-Pred.field-0.0
    (WhyAtom c.args.symbols.now c.args.variables.now c.args.atom.now) e
    (pred_why _ c.interned.new.symbols c.args.variables.now _ c.in-Pred.word _ c.as_slice.result.now c.len.result c.in_ok-number-in-Pred.number c.in_err-terms-in-Pred.field-0.0
    c.in-Pred.is c.as_slice.ensures c.len.ensures.value c.in_ok-number-in-Pred.ensures.ok c.in_err-terms-in-Pred.ensures.why)

pub returns-in_err-left-in-Equal-clause-why : goal.returns-in_err-left-in-Equal-clause-why
returns-in_err-left-in-Equal-clause-why c =
    let e : c.from_residual-in_err-left-in-Equal.result ≡ Err c.in_err-left-in-Equal.field-0.0 = search rules in
    err_is c.from_residual-in_err-left-in-Equal.result c.in_err-left-in-Equal.field-0.0
    (WhyAtom c.args.symbols.now c.args.variables.now c.args.atom.now) e
    (left_why _ _ _ c.in-Equal.l c.in-Equal.r c.in_err-left-in-Equal.field-0.0 c.in-Equal.is c.in_err-left-in-Equal.ensures.why)

pub numbered_side-requires : goal.numbered_side-requires
numbered_side-requires c =
    record { few = right_room _ _ c.args.variables.now _ _ c.in-Equal.l c.in-Equal.r _ c.in-Equal.is c.in_ok-left-in-Equal.ensures.gives c.requires.few }

pub returns-in_err-right-in-Equal-clause-why : goal.returns-in_err-right-in-Equal-clause-why
returns-in_err-right-in-Equal-clause-why c =
    let e : c.from_residual-in_err-right-in-Equal.result ≡ Err c.in_err-right-in-Equal.field-0.0 = search rules in
    err_is c.from_residual-in_err-right-in-Equal.result c.in_err-right-in-Equal.field-0.0
    (WhyAtom c.args.symbols.now c.args.variables.now c.args.atom.now) e
    (right_why _ _ _ _ _ c.in-Equal.l c.in-Equal.r _ c.in_err-right-in-Equal.field-0.0 c.in-Equal.is c.in_ok-left-in-Equal.ensures.gives c.in_err-right-in-Equal.ensures.why)

pub returns-in_ok-right-in-Equal-clause-gives : goal.returns-in_ok-right-in-Equal-clause-gives
returns-in_ok-right-in-Equal-clause-gives c =
    equal_given _ _ _ _ _ _ _ c.in-Equal.l c.in-Equal.r _ _ c.in-Equal.is c.in_ok-left-in-Equal.ensures.gives c.in_ok-right-in-Equal.ensures.gives
