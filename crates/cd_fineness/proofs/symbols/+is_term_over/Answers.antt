use Rattle.std.proofs.Common.{◌≡◌, true, List, ap, slice_get, sym, ◌∙◌, subst}
use Rattle.std.proofs.lemmas.Bool.{false≢true}
use Rattle.cd_read.specs.Formed.{is_function}
use Rattle.cd_term.specs.declared.Term.{Term}
use Rattle.cd_term.specs.Symbols.{AreOver, is_over}
use Rattle.cd_fineness.specs.Over.{symbols_in}
use Rattle.cd_acts.proofs.Lists.{each_end, each_stop}
use Rattle.cd_fineness.proofs.Symbolic.{all_over, some_not_over}
use Rattle.cd_fineness.proofs.symbols.+is_term_over.Goals as goal

pub returns-then-not-is_term_over : goal.returns-then-not-is_term_over
returns-then-not-is_term_over t c =
    some_not_over (symbols_in c.args.symbols.now) c.args.t.now _ _ c.in-App.is
    (λ all. each_stop (λ (u : Term). is_over (symbols_in c.args.symbols.now) u ≡ true) c.as_slice-arg-items.result.now c.loop-arg.arg-index c.arg-item.result c.loop-arg-test.true c.arg-item.is c.loop-arg.invariant
    (λ h. false≢true (sym c.if-not-is_term_over.true ∙ c.is_term_over.ensures.1 h))
    (subst (λ (us : List Term). AreOver (symbols_in c.args.symbols.now) us) (sym c.as_slice-arg-items.ensures) all))

pub returns-after-loop-arg : goal.returns-after-loop-arg
returns-after-loop-arg t c =
    all_over (symbols_in c.args.symbols.now) c.args.t.now _ _ c.in-App.is (sym (c.is_function.ensures ∙ ap (λ n. is_function n (slice_get c.args.symbols.now c.in-App.f)) c.len.ensures.value) ∙ c.if-not-is_function.false)
    (subst (λ (us : List Term). AreOver (symbols_in c.args.symbols.now) us) c.as_slice-arg-items.ensures
    (each_end (λ (u : Term). is_over (symbols_in c.args.symbols.now) u ≡ true) c.as_slice-arg-items.result.now c.loop-arg.arg-index c.loop-arg-test.false c.loop-arg.invariant))
