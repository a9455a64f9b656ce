-- Inferences as the code has them, borrowed from the premises, and what their parts stand for.
-- Beyond the headline: no clause of `prove` reaches this file.
use Rattle.std.specs.Prelude.{◌≡◌, ◌↔◌, ◌≤◌, ◌+◌, ℕ, Bool, true, false, List, [], ◌∷◌, ◌++◌, length, map, drop, Option, Some, None}
use Rattle.std.specs.Borrow.{Bor}
use Rattle.cd_term.specs.declared.Term.{Term}
use Rattle.cd_term.specs.Terms.{substituted, applied, bound_of, greatest}
use Rattle.cd_clause.specs.declared.Atom.{Atom}
use Rattle.cd_clause.specs.declared.Atom.TheVariants.{Pred, Equal}
use Rattle.cd_clause.specs.declared.Literal.{Literal}
use Rattle.cd_clause.specs.declared.Clause.{Clause}
use Rattle.cd_clause.specs.Clauses.{terms_of, clause_terms, atom_changed, literals_changed, variable_bound_of, IsTidied}
use Rattle.cd_clause.specs.Places.{signed, HasSides, replaced_at, replaced_at_under}
use Rattle.cd_steps.specs.declared.drafts.Part.{Part}
use Rattle.cd_steps.specs.declared.drafts.Part.TheVariants.{First, Second, Unequal, Replaced}
use Rattle.cd_steps.specs.declared.drafts.Draft.{Draft}
use Rattle.cd_steps.specs.declared.drafts.Plan.{Plan}
use Rattle.cd_steps.specs.declared.drafts.Plan.TheVariants.{Nothing, Follows, Tidies}
use Rattle.cd_steps.specs.Rules.{Inference, higher, both_bounds, IsParamodulation, IsRewriting}

-- a term with its variables moved up
abbrev pub raised : ℕ → Term → Term
raised n = substituted (higher n)

-- a literal with this sign, if there is an atom
abbrev pub literal_of : Bool → Option Atom → List Literal
literal_of sign None = []
literal_of sign (Some a) = signed sign a ∷ []

-- the literals of a part, those of the second premise with their variables moved up
abbrev pub part_literals : ℕ → Part → List Literal
part_literals n (First ls) = ls.now
part_literals n (Second ls) = literals_changed (raised n) ls.now
part_literals n (Unequal s t) = signed false (Equal s.now t.now) ∷ []
part_literals n (Replaced l path new) = literal_of l.now.positive (replaced_at path.now new.now (atom_changed (raised n) l.now.atom))

-- the inference that a draft stands for
abbrev pub inference_of : Draft → Inference
inference_of d = record {
  variables = d.up + d.more;
  left = d.left.now;
  right = map (raised d.up) d.right.now;
  conclusion = part_literals d.up d.one ++ part_literals d.up d.two ++ part_literals d.up d.three ++ part_literals d.up d.four ++ part_literals d.up d.five;
}

-- the literals of a part with substitution s applied to the terms of the first premise, and r to those of the
-- second
abbrev pub part_under : List Term → List Term → Part → List Literal
part_under s r (First ls) = literals_changed (applied s) ls.now
part_under s r (Second ls) = literals_changed (applied r) ls.now
part_under s r (Unequal t u) = signed false (Equal (applied s t.now) (applied s u.now)) ∷ []
part_under s r (Replaced l path new) = literal_of l.now.positive (replaced_at_under r s path.now new.now l.now.atom)

abbrev pub concluded_under : List Term → List Term → Draft → List Literal
concluded_under s r d = part_under s r d.one ++ part_under s r d.two ++ part_under s r d.three ++ part_under s r d.four ++ part_under s r d.five

-- a clause is what a draft gives with a substitution, whose first terms are for the variables of the first premise
pub record GivenBy (d : Draft) (s : List Term) (c : Clause) : Type 0 where
  pub covers : length s ≡ d.up + d.more
  pub equal : map (applied s) d.left.now ≡ map (applied (drop d.up s)) d.right.now
  pub literals : c.literals ≡ concluded_under s (drop d.up s) d

-- the variables of a draft: those of the first premise are below one number, those of the second below another
abbrev pub AreBelow : ℕ → List Literal → Type 0
AreBelow n ls = greatest (map bound_of (clause_terms ls)) ≤ n

abbrev pub IsPartBelow : ℕ → ℕ → Part → Type 0
IsPartBelow n m (First ls) = AreBelow n ls.now
IsPartBelow n m (Second ls) = AreBelow m ls.now
IsPartBelow n m (Unequal s t) = (bound_of s.now ≤ n) × (bound_of t.now ≤ n)
IsPartBelow n m (Replaced l path new) = (greatest (map bound_of (terms_of l.now.atom)) ≤ m) × (bound_of new.now ≤ n)

pub record IsBelow (n m : ℕ) (d : Draft) : Type 0 where
  pub left : greatest (map bound_of d.left.now) ≤ n
  pub right : greatest (map bound_of d.right.now) ≤ m
  pub one : IsPartBelow n m d.one
  pub two : IsPartBelow n m d.two
  pub three : IsPartBelow n m d.three
  pub four : IsPartBelow n m d.four
  pub five : IsPartBelow n m d.five

-- a search for the inference of a rule answers it, or that there is none
abbrev pub IsDraft : (Inference → Type 0) → Option Draft → Type 0
IsDraft Rule None = (inference : Inference) → Rule inference → ⊥
IsDraft Rule (Some d) = Rule (inference_of d) × IsBelow (d.up + d.more) d.more d

-- the same of paramodulation, with how many variables each premise has
pub record IsReplacementOf (a : Clause) (i s : ℕ) (b : Clause) (j : ℕ) (path : List ℕ) (d : Draft) : Type 0 where
  pub rule : IsParamodulation a i s b j path (inference_of d)
  pub up : d.up ≡ variable_bound_of a
  pub more : d.more ≡ variable_bound_of b
  pub below : IsBelow (variable_bound_of a) (variable_bound_of b) d

abbrev pub IsReplacementDraft : Clause → ℕ → ℕ → Clause → ℕ → List ℕ → Option Draft → Type 0
IsReplacementDraft a i s b j path None = (inference : Inference) → IsParamodulation a i s b j path inference → ⊥
IsReplacementDraft a i s b j path (Some d) = IsReplacementOf a i s b j path d

-- the same of rewriting, where the draft has values for the variables of the equation alone
pub record IsRewritingOf (e : Clause) (s : ℕ) (c : Clause) (j : ℕ) (path : List ℕ) (d : Draft) : Type 0 where
  pub rule : IsRewriting e s c j path (record (inference_of d) { variables = both_bounds e c })
  pub up : d.up ≡ variable_bound_of e
  pub alone : d.more ≡ 0
  pub below : IsBelow (variable_bound_of e) (variable_bound_of c) d

abbrev pub IsRewritingDraft : Clause → ℕ → Clause → ℕ → List ℕ → Option Draft → Type 0
IsRewritingDraft e s c j path None = (inference : Inference) → IsRewriting e s c j path inference → ⊥
IsRewritingDraft e s c j path (Some d) = IsRewritingOf e s c j path d

-- what is made of a step's premises tells which clauses are right
abbrev pub IsPlan : (Clause → Type 0) → List Term → Plan → Type 0
IsPlan IsRight s Nothing = (c : Clause) → IsRight c → ⊥
IsPlan IsRight s (Follows d) = (c : Clause) → IsRight c ↔ GivenBy d s c
IsPlan IsRight s (Tidies b) = (c : Clause) → IsRight c ↔ IsTidied b.now c

-- the arguments of a positive literal and of another one of this sign, of one predicate
pub record ArePredicateArguments (first second : Option Literal) (sign : Bool) (left right : List Term) : Type 0 where
  pub predicate : ℕ
  pub at_first : first ≡ Some (signed true (Pred predicate left))
  pub at_second : second ≡ Some (signed sign (Pred predicate right))

abbrev pub ArePredicates : Option Literal → Option Literal → Bool → Option (Bor (List Term) × Bor (List Term)) → Type 0
ArePredicates first second sign None = (left right : List Term) → ArePredicateArguments first second sign left right → ⊥
ArePredicates first second sign (Some p) = ArePredicateArguments first second sign p.0.now p.1.now

-- a side of a positive equation, and the other side
pub record ArePositive (s : ℕ) (literal : Option Literal) (side other : Term) : Type 0 where
  pub equation : Atom
  pub there : literal ≡ Some (signed true equation)
  pub sides : HasSides s equation side other

abbrev pub ArePositiveSides : ℕ → Option Literal → Option (Bor Term × Bor Term) → Type 0
ArePositiveSides s literal None = (side other : Term) → ArePositive s literal side other → ⊥
ArePositiveSides s literal (Some p) = ArePositive s literal p.0.now p.1.now
