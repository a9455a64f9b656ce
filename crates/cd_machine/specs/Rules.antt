-- What the machine takes from terms, clauses and the rules of inference: relations that stay closed here, so that no law
-- over runs looks into them. What depends on the order of terms takes it first.
-- Beyond the headline: no clause of `prove` reaches Falls.
use Rattle.std.specs.Prelude.{ℕ, Bool, true, false, List, [], ◌∷◌, map, Option, slice_get}
use Rattle.cd_clause.specs.Clauses as clauses
use Rattle.cd_clause.specs.Clauses.{IsWithinBounds}
use Rattle.cd_clause.specs.Over.{LiteralsOver}
use Rattle.cd_clause.specs.declared.Clause.{Clause}
use Rattle.cd_clause.specs.declared.Literal.{Literal}
use Rattle.cd_contract.specs.Hits.{KeyBelow}
use Rattle.cd_infer.specs.Conclusions as conclusions
use Rattle.cd_infer.specs.declared.Conclusion.{Conclusion}
use Rattle.cd_kbo.specs.declared.order.Order.{Order}
use Rattle.cd_names.specs.declared.names.Name.{Name}
use Rattle.cd_read.specs.Formed as formed
use Rattle.cd_read.specs.declared.problem.Problem.{Problem}
use Rattle.cd_rewrite.specs.Reduction as reduction
use Rattle.cd_steps.specs.Bounds.{IsSubstWithin}
use Rattle.cd_subsume.specs.Subsumption as subsumption
use Rattle.cd_term.specs.Symbols.{Symbols, AreOver}
use Rattle.cd_term.specs.declared.Term.{Term}

-- ---- problems

-- the clauses of the inputs, in their order
abbrev pub clauses_of : Problem → List Clause
clauses_of p = map (λ i. i.clause) p.inputs

-- which numbers are symbols of the problem, with how many arguments
abbrev pub symbols_of : Problem → Symbols
symbols_of p = record { is_function = λ f n. formed.is_function n (slice_get p.symbols f); is_predicate = λ f n. formed.is_predicate n (slice_get p.symbols f) }

-- within bounds, and over the symbols of the problem
pub record IsFit (p : Problem) (c : Clause) : Type 0 where
  pub within : IsWithinBounds c
  pub over : LiteralsOver (symbols_of p) c.literals

-- the same of a substitution, whose variables are below 65,536
pub record IsSubstFit (p : Problem) (s : List Term) : Type 0 where
  pub within : IsSubstWithin s
  pub over : AreOver (symbols_of p) s

-- ---- clauses

-- there is no literal
abbrev pub no_literals : List Literal → Bool
no_literals [] = true
no_literals (l ∷ ls) = false

-- the empty clause
unfoldable pub is_empty : Clause → Bool
is_empty c = no_literals c.literals

-- a clause that is true everywhere by a trivial literal, or by two opposite ones
unfoldable pub IsTautology : Clause → Type 0
IsTautology c = clauses.IsTautology c

-- the second is the tidy form of the first
unfoldable pub IsTidied : Clause → Clause → Type 0
IsTidied c d = clauses.IsTidied c d

-- a clause within bounds
unfoldable pub IsWithin : Clause → Type 0
IsWithin c = IsWithinBounds c

-- ---- contraction

-- the first clause subsumes the second
unfoldable pub Subsumes : Clause → Clause → Type 0
Subsumes d c = subsumption.Subsumes d c

-- the first clause is an equation that rewrites a term of the second to a smaller one
unfoldable pub Reduces : Order → Clause → Clause → Type 0
Reduces order e c = reduction.Reduces order e c

-- the reduct of the second clause by the first, at the first place: side, literal, path, substitution, and the clause before tidying
unfoldable pub ReductAt : Order → Clause → Clause → ℕ → ℕ → List ℕ → List Term → Clause → Type 0
ReductAt order e c s j path subst d = reduction.IsReduct order e c (record { literal = j; path = path; side = s }) subst d

-- the deletion key of the first clause under its name is smaller than that of the second
unfoldable pub KeyLess : Order → Clause → Option Name → Clause → Option Name → Type 0
KeyLess order d n c m = KeyBelow order d n c m

-- the key of the first clause is smaller, whatever the names
abbrev pub Falls : Order → Clause → Clause → Type 0
Falls order d c = (m n : Option Name) → KeyLess order d m c n

-- ---- conclusions

-- a conclusion's substitution and clause are within bounds
unfoldable pub IsConclusionWithin : Conclusion → Type 0
IsConclusionWithin c = conclusions.IsWithin c

-- all conclusions of one clause alone, in their order
unfoldable pub SoloConcludes : Order → Name → Clause → List Conclusion → Type 0
SoloConcludes order a c found = conclusions.SoloConcludes order a c found

-- all conclusions of two clauses, in their order
unfoldable pub PairConcludes : Order → Name → Clause → Name → Clause → List Conclusion → Type 0
PairConcludes order a c b d found = conclusions.PairConcludes order a c b d found
