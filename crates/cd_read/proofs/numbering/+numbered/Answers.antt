use Rattle.std.proofs.Common.{◌≡◌, ◌∷◌, ◌+◌, [], List, Err, take, sym, subst, arith, rules}
use Rattle.cd_term.specs.declared.Term.{Term}
use Rattle.cd_read.specs.Meaning.{GivesTerms, none}
use Rattle.cd_read.specs.Overflow.{WhyTerms}
use Rattle.cd_read.proofs.Gives.{few_arguments, variable_given, room_for, next_given}
use Rattle.cd_read.proofs.WhyLemmas.{err_is, next_why, word_why, word_full_why, word_all, arguments_room, argument_smaller}
use Rattle.cd_read.proofs.numbering.+numbered.Goals as goal

pub interned-requires : goal.interned-requires
interned-requires t c = record { few = omega (arith, (few_arguments _ _ _ c.in-App.is).1, c.len.ensures.value, c.requires.few) }

pub returns-in_err-number-in-App-clause-why : goal.returns-in_err-number-in-App-clause-why
returns-in_err-number-in-App-clause-why t c =
    let e : c.from_residual-in_err-number-in-App.result ≡ Err c.in_err-number-in-App.field-0.0 = search rules in
    err_is c.from_residual-in_err-number-in-App.result c.in_err-number-in-App.field-0.0
    (WhyTerms c.args.symbols.now c.args.variables.now (c.args.tree.now ∷ [])) e
    (word_full_why _ c.args.variables.now _ c.in-App.word _ c.len.result c.in_err-number-in-App.field-0.0 c.in-App.is c.len.ensures.value c.in_err-number-in-App.ensures.err)

pub loop-arg-init : goal.loop-arg-init
loop-arg-init t c = record {
  gives = subst (λ (us : List Term). GivesTerms c.interned.new.symbols c.args.variables.now [] us c.interned.new.symbols c.args.variables.now) (sym c.in_ok-terms-in-App.ensures)
      (none c.interned.new.symbols c.args.variables.now);
}

pub numbered-requires : goal.numbered-requires
numbered-requires t c = (
  omega (
    arith,
    c.decreases,
    argument_smaller _ c.in-App.word _ c.as_slice-arg-items.result.now c.loop-arg.arg-index _ c.in-App.is c.as_slice-arg-items.ensures c.loop-arg-test.true c.arg-item.is,
  ),
  room_for c.interned.new.symbols _ c.args.variables.now c.loop-arg.variables c.as_slice-arg-items.result.now _ c.loop-arg.arg-index _ c.loop-arg-test.true c.arg-item.is c.loop-arg.invariant.gives
      (arguments_room c.args.variables.now _ c.in-App.word _ _ c.in-App.is c.as_slice-arg-items.ensures c.requires.few),
)

pub returns-in_err-term-in-App-clause-why : goal.returns-in_err-term-in-App-clause-why
returns-in_err-term-in-App-clause-why t c =
    let e : c.from_residual-in_err-term-in-App.result ≡ Err c.in_err-term-in-App.field-0.0 = search rules in
    err_is c.from_residual-in_err-term-in-App.result c.in_err-term-in-App.field-0.0
    (WhyTerms c.args.symbols.now c.args.variables.now (c.args.tree.now ∷ [])) e
    (word_why _ c.interned.new.symbols c.args.variables.now _ c.in-App.word _ c.as_slice-arg-items.result.now c.len.result c.in_ok-number-in-App.number c.in_err-term-in-App.field-0.0
    c.in-App.is c.as_slice-arg-items.ensures c.len.ensures.value c.in_ok-number-in-App.ensures.ok
    (next_why _ _ c.args.variables.now _ c.as_slice-arg-items.result.now _ c.loop-arg.arg-index _ c.in_err-term-in-App.field-0.0 c.loop-arg-test.true c.arg-item.is c.loop-arg.invariant.gives
    c.in_err-term-in-App.ensures.why))

pub loop-arg-preserved : goal.loop-arg-preserved
loop-arg-preserved t c = record {
  gives = subst (λ (us : List Term). GivesTerms c.interned.new.symbols c.args.variables.now (take (c.loop-arg.arg-index + 1) c.as_slice-arg-items.result.now) us c.numbered.new.symbols c.numbered.new.variables)
      (sym c.in_ok-push-in-App.ensures.ok)
      (next_given _ _ _ _ _ _ c.as_slice-arg-items.result.now c.loop-arg.terms c.loop-arg.arg-index _ c.in_ok-term-in-App.term c.loop-arg-test.true c.arg-item.is c.loop-arg.invariant.gives c.in_ok-term-in-App.ensures.gives);
}

pub returns-in_ok-number-in-Var-clause-gives : goal.returns-in_ok-number-in-Var-clause-gives
returns-in_ok-number-in-Var-clause-gives t c = variable_given _ _ _ _ c.in-Var.word _ c.in-Var.is c.in_ok-number-in-Var.ensures.ok

pub returns-after-loop-arg-clause-gives : goal.returns-after-loop-arg-clause-gives
returns-after-loop-arg-clause-gives t c =
    word_all _ c.interned.new.symbols _ c.args.variables.now _ _ c.in-App.word _ c.as_slice-arg-items.result.now _ c.len.result _ c.loop-arg.arg-index
    c.in-App.is c.as_slice-arg-items.ensures c.len.ensures.value c.in_ok-number-in-App.ensures.ok c.loop-arg-test.false c.loop-arg.invariant.gives
