-- The two tests of a tautology.
use Rattle.std.proofs.Common.{◌≡◌, Bool, true, false, ◌⊎◌, inl, inr, List, [], ◌∷◌, sym, subst, ◌∙◌}
use Rattle.std.proofs.lemmas.Bool.{false≢true}
use Rattle.cd_clause.specs.declared.Literal.{Literal}
use Rattle.cd_list.specs.Lists.{Among}
use Rattle.cd_clause.specs.Clauses.{IsTrivial, AreOpposite}

-- the second test of a tautology, where the first fails
pub tautology_else : (ls xs ys : List Literal) (r : Bool) → (false ≡ true → Among IsTrivial xs) × (Among IsTrivial xs → false ≡ true) → xs ≡ ls → ys ≡ ls →
    (r ≡ true → Among (λ l. Among (AreOpposite l) ys) ys) × (Among (λ l. Among (AreOpposite l) ys) ys → r ≡ true) →
    (r ≡ true → Among IsTrivial ls ⊎ Among (λ l. Among (AreOpposite l) ls) ls)
    × (Among IsTrivial ls ⊎ Among (λ l. Among (AreOpposite l) ls) ls → r ≡ true)
tautology_else ls xs ys r first is are second =
    let both : List Literal → Type 0 = λ ks. Among (λ l. Among (AreOpposite l) ks) ks in (
      (λ e. inr (subst both are (second.0 e))),
      (λ some. elim some [
        | inl t ↦ absurd (false≢true (first.1 (subst (Among IsTrivial) (sym is) t)))
        | inr o ↦ second.1 (subst both (sym are) o)
      ]),
    )

-- a negative literal is opposite to none
pub negative_none : (l : Literal) (ms : List Literal) → l.positive ≡ false → Among (AreOpposite l) ms → ⊥
negative_none l [] e some = some
negative_none l (m ∷ ms) e (inl p) = false≢true (sym e ∙ p.0)
negative_none l (m ∷ ms) e (inr rest) = negative_none l ms e rest
