use Rattle.std.proofs.Common.{◌≡◌, Some, slice_get, nat_eq, subst}
use Rattle.std.specs.Cmp.Lexicographic.{pointwise}
use Rattle.cd_symbols.specs.Symbol.{Lacks, symbol_of}
use Rattle.cd_symbols.specs.contracts.KeyPartialEq.TheImpl.{eq-value}
use Rattle.cd_symbols.proofs.KeyLemmas.{same_key}
use Rattle.cd_symbols.proofs.TableLemmas.{same_text, at_position, at_no_position, no_text, no_key, there}
use Rattle.cd_symbols.proofs.Symbols.find.Goals as goal

pub returns-in_err-place : goal.returns-in_err-place
returns-in_err-place c =
    let s = c.self.inside in
    rw c.from_residual.ensures
    (subst (λ t. Lacks t (symbol_of c.args.text.now c.args.arity c.args.kind)) c.self.view_is
    (no_text s.texts.keys s.keys.keys c.self.invariant.1 c.args.text.now c.args.arity c.args.kind
    (at_no_position (pointwise nat_eq) same_text s.texts.keys c.args.text.now c.in_err-place.ensures.found)))

pub returns-in_err-number : goal.returns-in_err-number
returns-in_err-number c =
    let s = c.self.inside in
    rw c.from_residual-in_err-number.ensures
    (subst (λ t. Lacks t (symbol_of c.args.text.now c.args.arity c.args.kind)) c.self.view_is
    (no_key s.texts.keys c.len-count.ensures.unique s.keys.keys c.self.invariant.1 c.in_ok-place.place c.args.text.now c.args.arity c.args.kind
    (at_position (pointwise nat_eq) same_text s.texts.keys c.args.text.now c.in_ok-place.place c.in_ok-place.ensures.index)
    (at_no_position eq-value.it same_key s.keys.keys _ c.in_err-number.ensures.found)))

pub returns : goal.returns
returns c =
    let s = c.self.inside in
    subst (λ t. slice_get t c.in_ok-number.number ≡ Some (symbol_of c.args.text.now c.args.arity c.args.kind)) c.self.view_is
    (there s.texts.keys s.keys.keys c.in_ok-place.place c.in_ok-number.number c.args.text.now c.args.arity c.args.kind
    (at_position (pointwise nat_eq) same_text s.texts.keys c.args.text.now c.in_ok-place.place c.in_ok-place.ensures.index)
    (at_position eq-value.it same_key s.keys.keys _ c.in_ok-number.number c.in_ok-number.ensures.index))
