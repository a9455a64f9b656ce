-- When a step of a derivation is right.
use Rattle.std.specs.Prelude.{◌≡◌, List, ◌++◌, map, Option, None, Some}
use Rattle.std.specs.List.{range_with_len}
use Rattle.cd_term.specs.declared.Term.{Term}
use Rattle.cd_term.specs.declared.Term.TheVariants.{Var}
use Rattle.cd_clause.specs.declared.Clause.{Clause}
use Rattle.cd_clause.specs.Clauses.{variable_bound_of, IsTidied}
use Rattle.cd_steps.specs.declared.Step.{Step}
use Rattle.cd_steps.specs.declared.Step.TheVariants.{Input, Copy, Resolve, Factor, Refl, EqFac, Para, Rewrite, Tidy}
use Rattle.cd_steps.specs.Rules.{FollowsBy, IsResolution, IsFactoring, IsReflexivity, IsEqualityFactoring, IsParamodulation, IsRewriting}

-- a premise is there, and has a property
abbrev pub OfOne : Option Clause → (Clause → Type 0) → Type 0
OfOne None P = ⊥
OfOne (Some c) P = P c

-- two premises are there, and have a property
abbrev pub OfTwo : Option Clause → Option Clause → (Clause → Clause → Type 0) → Type 0
OfTwo None second P = ⊥
OfTwo (Some a) None P = ⊥
OfTwo (Some a) (Some b) P = P a b

-- each variable of a clause as its own value
abbrev pub themselves : Clause → List Term
themselves c = map Var (range_with_len 0 (variable_bound_of c))

-- the result is what the step gives of its premises: the clause before it, and the clauses that it names, or its
-- input's. Rewriting leaves the variables of the clause before it as they are
abbrev pub StepOk : Step → Option Clause → Option Clause → Option Clause → Clause → Type 0
StepOk (Input index) current first second result = first ≡ Some result
StepOk (Copy of) current first second result = first ≡ Some result
StepOk (Resolve pos i neg j subst) current first second result = OfTwo first second (λ a b. FollowsBy (IsResolution a i b j) subst result)
StepOk (Factor of i j subst) current first second result = OfOne first (λ c. FollowsBy (IsFactoring c i j) subst result)
StepOk (Refl of i subst) current first second result = OfOne first (λ c. FollowsBy (IsReflexivity c i) subst result)
StepOk (EqFac of i s j z subst) current first second result = OfOne first (λ c. FollowsBy (IsEqualityFactoring c i s j z) subst result)
StepOk (Para giver i s taker j at subst) current first second result = OfTwo first second (λ a b. FollowsBy (IsParamodulation a i s b j at) subst result)
StepOk (Rewrite by s j at subst) current first second result = OfTwo first current (λ e c. FollowsBy (IsRewriting e s c j at) (subst ++ themselves c) result)
StepOk Tidy current first second result = OfOne current (λ c. IsTidied c result)
