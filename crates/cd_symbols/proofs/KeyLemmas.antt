-- Equality of keys.
use Rattle.std.proofs.Common.{◌≡◌, ℕ, true, false, ◌&&◌, ◌==◌, ◌∙◌, refl, sym, ap, true≢false, eqb-true, eq-eqb}
use Rattle.std.specs.Bool.{Decides}
use Rattle.std.proofs.lemmas.Bool.{and_parts}
use Rattle.cd_symbols.specs.declared.Kind.{Kind}
use Rattle.cd_symbols.specs.declared.Kind.TheVariants.{Function, Predicate}
use Rattle.cd_symbols.specs.declared.Key.{Key}
use Rattle.cd_symbols.specs.contracts.KeyPartialEq.TheImpl.{eq-value}

abbrev made : ℕ → ℕ → Kind → Key
made text arity kind = record { text = text; arity = arity; kind = kind }

-- keys of which the test says that they are equal, by their kinds
parts : (t n u m : ℕ) (j k : Kind) → eq-value.it (made t n j) (made u m k) ≡ true → made t n j ≡ made u m k
parts t n u m Function Function e =
    let p = and_parts (t == u) _ e in
    let q = and_parts (n == m) _ p.1 in
    let x : t ≡ u = eqb-true t u p.0 in
    let y : n ≡ m = eqb-true n m q.0 in
    λ i. made (x i) (y i) Function
parts t n u m Predicate Predicate e =
    let p = and_parts (t == u) _ e in
    let q = and_parts (n == m) _ p.1 in
    let x : t ≡ u = eqb-true t u p.0 in
    let y : n ≡ m = eqb-true n m q.0 in
    λ i. made (x i) (y i) Predicate
parts t n u m Function Predicate e = absurd (true≢false (sym (and_parts (n == m) false (and_parts (t == u) _ e).1).1))
parts t n u m Predicate Function e = absurd (true≢false (sym (and_parts (n == m) false (and_parts (t == u) _ e).1).1))

itself : (t n : ℕ) (k : Kind) → eq-value.it (made t n k) (made t n k) ≡ true
itself t n Function = λ i. eq-eqb t t refl i && (eq-eqb n n refl i && true)
itself t n Predicate = λ i. eq-eqb t t refl i && (eq-eqb n n refl i && true)

pub same_key : (a b : Key) → Decides (eq-value.it a b) (a ≡ b)
same_key a b = (parts a.text a.arity b.text b.arity a.kind b.kind, λ e. ap (λ (k : Key). eq-value.it a k) (sym e) ∙ itself a.text a.arity a.kind)
