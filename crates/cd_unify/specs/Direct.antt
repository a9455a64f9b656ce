-- Unification of terms where they stand. A variable is bound to a borrowed term, whose variables are moved up.
-- Beyond the headline: no clause of `prove` reaches this file.
use Rattle.std.specs.Prelude.{ℕ, zero, suc, ◌≡◌, ◌<◌, ◌≤◌, ◌↔◌, List, length, map, sum_by, Option, None, option_map, unwrap_or, slice_index_or}
use Rattle.std.specs.List.{flat_map}
use Rattle.cd_term.specs.declared.Term.{Term}
use Rattle.cd_term.specs.declared.Term.TheVariants.{Var}
use Rattle.cd_term.specs.Terms.{substituted, size_of, variables_of, firsts_after, AreWithin, IsWithin, value_of, renumbered}
use Rattle.cd_unify.specs.declared.direct.Standing.{Standing}
use Rattle.cd_unify.specs.declared.direct.Outcome.{Outcome}
use Rattle.cd_unify.specs.declared.direct.Outcome.TheVariants.{Equal, Apart, Open}
use Rattle.cd_unify.specs.declared.direct.Direct.{Direct}
use Rattle.cd_unify.specs.declared.direct.Direct.TheVariants.{Refuted, Unified, Undecided}
use Rattle.cd_unify.specs.Unifiers.{raised, Fits, IsMgu, HaveNoUnifier}

-- the term that stands at a place
abbrev pub standing : Standing → Term
standing p = raised p.up p.term.now

-- the terms that variables are bound to
abbrev pub bound_to : List (Option Standing) → List (Option Term)
bound_to values = map (option_map standing) values

-- a substitution makes each bound variable equal to what it is bound to
abbrev pub Solves : (ℕ → Term) → List (Option Term) → Type 0
Solves g values = Fits g (map (option_map (substituted g)) values)

-- what has to be so is so exactly for the substitutions that solve the new values, or for none
abbrev pub Settles : ((ℕ → Term) → Type 0) → List (Option Term) → List (Option Term) → Outcome → Type 0
Settles P old new Equal = (g : ℕ → Term) → ((Solves g old × P g) ↔ Solves g new)
Settles P old new Apart = (g : ℕ → Term) → Solves g old → P g → ⊥
Settles P old new Open = Unit {0}

-- a substitution makes two terms equal
abbrev pub Joins : Term → Term → (ℕ → Term) → Type 0
Joins t u g = substituted g t ≡ substituted g u

-- and the terms of two lists
abbrev pub JoinsAll : List Term → List Term → (ℕ → Term) → Type 0
JoinsAll ts us g = map (substituted g) ts ≡ map (substituted g) us

-- what a variable stands for, once bound variables are replaced so many times
unfoldable pub resolved : List (Option Term) → ℕ → ℕ → Term
resolved values zero k = Var k
resolved values (suc n) k = unwrap_or (option_map (substituted (resolved values n)) (slice_index_or values k None)) (Var k)

-- the term that a place stands for then, however often they are replaced beyond a number
abbrev pub Resolves : List (Option Term) → ℕ → Term → (Term → Type 0) → Type 0
Resolves values levels t P = (n : ℕ) → levels ≤ n → P (substituted (resolved values n) t)

-- the size of a term within bounds, whose variables were noted
pub record IsSurveyed (symbols levels : ℕ) (old new : List ℕ) (size : ℕ) (t : Term) : Type 0 where
  pub size_is : size ≡ size_of t
  pub within : IsWithin symbols levels t
  pub noted : new ≡ firsts_after old (variables_of t)

-- the same of several terms
pub record AreSurveyed (symbols levels : ℕ) (old new : List ℕ) (size : ℕ) (ts : List Term) : Type 0 where
  pub size_is : size ≡ sum_by size_of ts
  pub within : AreWithin symbols levels ts
  pub noted : new ≡ firsts_after old (flat_map variables_of ts)

-- what bound variables stand for in the end, in normal form: a substitution that solves them, and that each other one
-- absorbs
pub record IsFinished (vars : ℕ) (values : List (Option Term)) (s : List Term) : Type 0 where
  pub ends : List Term
  pub covers : length ends ≡ vars
  pub solves : Solves (value_of ends) values
  pub absorbed : (g : ℕ → Term) → Solves g values → (k : ℕ) → k < vars → substituted g (value_of ends k) ≡ g k
  pub within : AreWithin 65535 1000 ends
  pub normal : s ≡ renumbered ends

-- what direct unification answers
abbrev pub IsDirect : ℕ → List Term → List Term → Direct → Type 0
IsDirect vars left right Refuted = HaveNoUnifier left right
IsDirect vars left right (Unified s) = IsMgu vars left right s × AreWithin 65535 1000 s
IsDirect vars left right Undecided = Unit {0}
