-- What is wrong with a token has one name.
use Rattle.std.proofs.Common.{◌≡◌, ◌⊎◌, inl, inr, ◌∙◌, ◌∷◌, [], ℕ, Bool, false, List, codes, refl, sym, ap}
use Rattle.cd_parse.specs.declared.terminal.Terminal.{Terminal}
use Rattle.cd_parse.specs.declared.terminal.Terminal.TheVariants.{Word, Upper, Truth, Digits, Foreign, Sign, Other}
use Rattle.cd_parse.specs.declared.terminal.Foreign.TheVariants as foreign
use Rattle.cd_parse.specs.declared.label.What.{What}
use Rattle.cd_parse.specs.declared.label.What.TheVariants as what
use Rattle.cd_parse.specs.declared.statement.Statement.{Statement}
use Rattle.cd_parse.specs.Grammar.{Terminals}
use Rattle.cd_parse.specs.Statements.{IsStatementIn, clause, whole, listed, keyword, Could, Names, IsOfLanguage, IsWrongRole, IsObject, IsNumber, IsDollar, IsDeep}

-- the first token of a statement
data First : Terminals → Type 0 where
  of_clause : (ts : Terminals) → First (keyword (codes "cnf") ∷ ts)
  of_include : (ts : Terminals) → First (keyword (codes "include") ∷ ts)

first_of : (n : ℕ) (ts : Terminals) (s : Statement) → IsStatementIn n ts s → First ts
first_of n _ _ (clause t l r ts ns ls is f others) = of_clause _
first_of n _ _ (whole p) = of_include _
first_of n _ _ (listed p ts ls are) = of_include _

no_axiom : (ts : Terminals) (us : Terminals) → ts ≡ keyword (codes "axiom") ∷ us → First ts → ⊥
no_axiom _ us e (of_clause ts) =
    let same : keyword (codes "cnf") ≡ keyword (codes "axiom") = cc in let words : codes "cnf" ≡ codes "axiom" = cc in cc
no_axiom _ us e (of_include ts) =
    let same : keyword (codes "include") ≡ keyword (codes "axiom") = cc in let words : codes "include" ≡ codes "axiom" = cc in cc

-- the name that a token's form tells, where it has one
abbrev told : Terminals → Terminal → What
told [] (Word q w) = what.Language
told (x ∷ front) (Word q w) = what.Role
told front (Upper x) = what.Syntax
told front (Truth b) = what.Dollar
told front (Digits d) = what.Number
told front (Foreign foreign.Object) = what.Object
told front (Foreign foreign.Number) = what.Number
told front (Foreign foreign.Dollar) = what.Dollar
told front (Sign s) = what.Deep
told front Other = what.Syntax

told_word : (front : Terminals) (q : Bool) (w : List ℕ) → Could front (keyword (codes "axiom")) → told front (Word q w) ≡ what.Role
told_word [] q w c = absurd (no_axiom _ c.behind refl (first_of 1000 _ c.statement c.is))
told_word (x ∷ front) q w c = refl

abbrev Some : Terminals → Terminal → Type 0
Some front t = IsOfLanguage front t ⊎ (IsWrongRole front t ⊎ (IsObject front t ⊎ (IsNumber front t ⊎ (IsDollar front t ⊎ IsDeep front t))))

abbrev Nothing : Terminals → Terminal → Type 0
Nothing front t =
    ¬ IsOfLanguage front t × ¬ IsWrongRole front t × ¬ IsObject front t × ¬ IsNumber front t × ¬ IsDollar front t × ¬ IsDeep front t

refutes : (front : Terminals) (t : Terminal) → Nothing front t → Some front t → ⊥
refutes front t n (inl x) = n.0 x
refutes front t n (inr (inl x)) = n.1 x
refutes front t n (inr (inr (inl x))) = n.2 x
refutes front t n (inr (inr (inr (inl x)))) = n.3 x
refutes front t n (inr (inr (inr (inr (inl x))))) = n.4 x
refutes front t n (inr (inr (inr (inr (inr x))))) = n.5 x

named : (w : What) (front : Terminals) (t : Terminal) → Names w front t
    → ((w ≡ what.Syntax) × Nothing front t) ⊎ ((w ≡ told front t) × Some front t)
named what.Language front t h = inr (ap (λ (f : Terminals). told f (Word false h.1.0)) (sym h.0) ∙ ap (told front) (sym h.1.2), inl h)
named what.Role front t h = inr (sym (told_word front false h.0.0 h.1) ∙ ap (told front) (sym h.0.1), inr (inl h))
named what.Object front t h = inr (ap (told front) (sym h.0), inr (inr (inl h)))
named what.Number front t h = inr (by h.0, inr (inr (inr (inl h))))
  where
    by : ((t ≡ Foreign foreign.Number) ⊎ ((d : List ℕ) × (t ≡ Digits d))) → what.Number ≡ told front t
    by (inl e) = ap (told front) (sym e)
    by (inr (d, e)) = ap (told front) (sym e)
named what.Dollar front t h = inr (by h.0, inr (inr (inr (inr (inl h)))))
  where
    by : ((t ≡ Foreign foreign.Dollar) ⊎ ((b : Bool) × (t ≡ Truth b))) → what.Dollar ≡ told front t
    by (inl e) = ap (told front) (sym e)
    by (inr (b, e)) = ap (told front) (sym e)
named what.Deep front t h = inr (ap (told front) (sym h.0), inr (inr (inr (inr (inr h)))))
named what.Syntax front t h = inl (refl, h)
named x front t h = absurd h

-- the law of names
pub name_single : (v w : What) (front : Terminals) (t : Terminal) → Names v front t → Names w front t → v ≡ w
name_single v w front t x y = by (named v front t x) (named w front t y)
  where
    by : ((v ≡ what.Syntax) × Nothing front t) ⊎ ((v ≡ told front t) × Some front t)
        → ((w ≡ what.Syntax) × Nothing front t) ⊎ ((w ≡ told front t) × Some front t) → v ≡ w
    by (inl a) (inl b) = a.0 ∙ sym b.0
    by (inl a) (inr b) = absurd (refutes front t a.1 b.1)
    by (inr a) (inl b) = absurd (refutes front t b.1 a.1)
    by (inr a) (inr b) = a.0 ∙ sym b.0
