-- Codes of literals: lists of numbers, by which a literal is looked up among others.
-- Beyond the headline: no clause of `prove` reaches this file.
use Rattle.std.specs.Prelude.{◌≡◌, ◌↔◌, ◌++◌, ◌∷◌, [], ℕ, Bool, true, false, List, IsTrue, nat_eq}
use Rattle.std.specs.List.{flat_map, concat, list_any}
use Rattle.std.specs.Cmp.Lexicographic.{pointwise}
use Rattle.cd_list.specs.Lists.{Among}
use Rattle.cd_term.specs.declared.Term.{Term, fold-Term}
use Rattle.cd_term.specs.declared.Term.TheOpen.{Term-F}
use Rattle.cd_term.specs.declared.Term.TheOpen as layer
use Rattle.cd_clause.specs.declared.Atom.{Atom}
use Rattle.cd_clause.specs.declared.Atom.TheVariants.{Truth, Pred, Equal}
use Rattle.cd_clause.specs.declared.Literal.{Literal}

-- 0 and a variable; or 1, a symbol, the codes of its arguments, and 2
abbrev pub code_step : Term-F (List ℕ) → List ℕ
code_step (layer.Var n) = 0 ∷ n ∷ []
code_step (layer.App f codes) = 1 ∷ f ∷ (concat codes ++ 2 ∷ [])

abbrev pub term_code : Term → List ℕ
term_code = fold-Term (List ℕ) code_step

abbrev pub atom_code : Atom → List ℕ
atom_code Truth = 0 ∷ []
atom_code (Pred p args) = 1 ∷ p ∷ (flat_map term_code args ++ 2 ∷ [])
atom_code (Equal s t) = 2 ∷ (term_code s ++ term_code t)

abbrev pub sign_code : Bool → ℕ
sign_code true = 1
sign_code false = 0

abbrev pub literal_code : Bool → Atom → List ℕ
literal_code positive a = sign_code positive ∷ atom_code a

-- whether the code is one of these
abbrev pub is_met : List (List ℕ) → List ℕ → Bool
is_met codes code = list_any (pointwise nat_eq code) codes

-- the codes are those of the literals
abbrev pub AreMet : List (List ℕ) → List Literal → Type 0
AreMet codes ls = (code : List ℕ) → IsTrue (is_met codes code) ↔ Among (λ l. code ≡ literal_code l.positive l.atom) ls
