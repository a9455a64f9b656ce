use Rattle.std.proofs.Common.{◌≡◌, ◌<◌, ◌≤◌, ◌+◌, ◌++◌, ◌∷◌, [], List, Some, Result, Ok, Err, OnErr, length, map, slice_get, sym, ap, subst, ◌∙◌, arith, length-append}
use Rattle.std.proofs.lemmas.List.{length-map}
use Rattle.cd_symbols.specs.declared.Key.{Key}
use Rattle.cd_symbols.specs.Symbol.{Symbol, symbol_of, Lacks}
use Rattle.cd_symbols.specs.Table.{shown, AreWithin}
use Rattle.cd_symbols.specs.contracts.KeyPartialEq.TheImpl.{eq-value}
use Rattle.cd_symbols.proofs.KeyLemmas.{same_key}
use Rattle.cd_symbols.proofs.TableLemmas.{same_text, same_places, put_last, more_texts, longer_table, lacks_key, within_longer}
use Rattle.cd_symbols.proofs.Symbols.append.Goals as goal

on_err : {X E : Type 0} {P : Type 0} (r : Result X E) → P → OnErr r P
on_err (Ok x) p = tt
on_err (Err e) p = p

-- the new symbol's text stands at its place
text_there : (c : goal.In_ok-insert) → slice_get c.insert_full.new.self.keys c.in_ok-place.place ≡ Some c.args.text.now
text_there c =
    let (k, at, equal) = c.in_ok-place.ensures.stored in
    at ∙ ap Some (sym ((same_text c.in_ok-copy.copy k).0 equal) ∙ c.in_ok-copy.ensures)

abbrev new_key : (c : goal.In_ok-insert) → Key
new_key c = record { text = c.in_ok-place.place; arity = c.args.arity; kind = c.args.kind }

pub returns-in_err-insert-clause-err : goal.returns-in_err-insert-clause-err
returns-in_err-insert-clause-err c = on_err _
    (ap (map (shown c.insert_full.new.self.keys)) c.in_err-insert.ensures.err
    ∙ more_texts c.self.inside.texts.keys c.insert_full.new.self.keys (same_places c.self.inside.texts.keys c.insert_full.new.self.keys c.in_ok-copy.copy c.in_ok-place.ensures.keys) c.self.inside.keys.keys c.self.invariant.1
    ∙ c.self.view_is)

-- and its key at the end
key_last : (c : goal.In_ok-insert) → c.insert.new.self.keys ≡ c.self.inside.keys.keys ++ new_key c ∷ []
key_last c =
    let old = c.self.inside in
    c.in_ok-insert.ensures.keys
    ∙ put_last eq-value.it same_key old.keys.keys (new_key c)
    (lacks_key old.texts.keys c.insert_full.new.self.keys old.keys.keys c.in_ok-place.place c.args.text.now c.args.arity c.args.kind
    (same_places old.texts.keys c.insert_full.new.self.keys c.in_ok-copy.copy c.in_ok-place.ensures.keys) c.self.invariant.1 (text_there c)
    (subst (λ t. Lacks t (symbol_of c.args.text.now c.args.arity c.args.kind)) (sym c.self.view_is) c.requires.new))

pub invariant_of-self-2 : goal.invariant_of-self-2
invariant_of-self-2 c =
    let old = c.self.inside in
    let few : length (map (shown old.texts.keys) old.keys.keys) < 65535
    = subst (λ (t : List Symbol). length t < 65535) (sym c.self.view_is) c.requires.room in
    let same : length (map (shown old.texts.keys) old.keys.keys) ≡ length old.keys.keys = length-map old.keys.keys (shown old.texts.keys) in
    let longer : length c.insert.new.self.keys ≡ length old.keys.keys + 1 = ap length (key_last c) ∙ length-append old.keys.keys (new_key c ∷ []) in
    let grown : length old.texts.keys ≤ length c.insert_full.new.self.keys = omega (arith, c.in_ok-place.ensures.len) in (
      omega arith,
      subst (AreWithin (length c.insert_full.new.self.keys)) (sym (key_last c))
          (within_longer (length old.texts.keys) (length c.insert_full.new.self.keys) old.keys.keys (new_key c) c.self.invariant.1 grown c.in_ok-place.ensures.within),
    )

pub returns-clause-ok : goal.returns-clause-ok
returns-clause-ok c =
    let old = c.self.inside in
    let more = c.insert_full.new.self.keys in
    ap (map (shown more)) (key_last c)
    ∙ longer_table old.texts.keys more old.keys.keys c.in_ok-place.place c.args.text.now c.args.arity c.args.kind
    (same_places old.texts.keys more c.in_ok-copy.copy c.in_ok-place.ensures.keys) c.self.invariant.1 (text_there c)
    ∙ ap (λ t. t ++ symbol_of c.args.text.now c.args.arity c.args.kind ∷ []) c.self.view_is
