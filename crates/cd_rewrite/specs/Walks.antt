-- The search for the first place.
-- Beyond the headline: no clause of `prove` reaches this file.
use Rattle.std.specs.Prelude.{ℕ, ◌≡◌, ◌≢◌, ◌≤◌, ◌<◌, Bool, true, false, List, [], ◌∷◌, ◌++◌, reverse, length, Option, Some, None, slice_get, option_and_then}
use Rattle.std.specs.Ordering.{nat_cmp}
use Rattle.std.specs.Cmp.Lexicographic.{slice_cmp}
use Rattle.std.specs.declared.cmp.Ordering.TheVariants.{Less}
use Rattle.cd_term.specs.declared.Term.{Term}
use Rattle.cd_term.specs.declared.Term.TheVariants.{Var}
use Rattle.cd_term.specs.Terms.{value_of, subterm}
use Rattle.cd_clause.specs.declared.Literal.{Literal}
use Rattle.cd_clause.specs.declared.Clause.{Clause}
use Rattle.cd_clause.specs.Clauses.{terms_of}
use Rattle.cd_kbo.specs.declared.order.Order.{Order}
use Rattle.cd_rewrite.specs.Reduction.{Lowers}
use Rattle.cd_rewrite.specs.Equations.{Falls, LowersTerm}

-- the least side of the equation that lowers a term, by a substitution with a term for each variable
pub record IsLowering (o : Order) (e : Clause) (vars : ℕ) (t : Term) (side : ℕ) (s : List Term) : Type 0 where
  pub new : Term
  pub covers : length s ≡ vars
  pub lowers : Lowers o e side (value_of s) t new
  pub least : (other : ℕ) (g : ℕ → Term) (u : Term) → Lowers o e other g t u → side ≤ other

-- the subterm of several terms at a path, which begins with the place of one of them
abbrev pub subterm_among : List ℕ → List Term → Option Term
subterm_among [] ts = None
subterm_among (k ∷ path) ts = option_and_then (subterm path) (slice_get ts k)

-- a test says which of two things holds
abbrev pub Tells : Bool → Type 0 → Type 0 → Type 0
Tells b A B = (b ≡ true → A) × (b ≡ false → B)

-- a term that isn't a variable is an instance of a side, and greater than the same instance of the other side
abbrev pub FallsFrom : Order → Term → Term → Term → Type 0
FallsFrom o from to t = ((n : ℕ) → t ≢ Var n) × ((g : ℕ → Term) × Falls o from to g t)

-- a subterm of a term passes
abbrev pub SomeIn : (Term → Type 0) → Term → Type 0
SomeIn P t = (path : List ℕ) × (u : Term) × (subterm path t ≡ Some u) × P u

-- no subterm of a term passes
abbrev pub NoneIn : (Term → Type 0) → Term → Type 0
NoneIn P t = (path : List ℕ) (u : Term) → subterm path t ≡ Some u → ¬ P u

-- the subterm at a path passes, and none at an earlier one
pub record IsFirstPath (P : Term → Type 0) (t : Term) (path : List ℕ) (found : Term) : Type 0 where
  pub there : subterm path t ≡ Some found
  pub earlier : (other : List ℕ) (u : Term) → subterm other t ≡ Some u → slice_cmp nat_cmp other path ≡ Less → ¬ P u

-- a search found the first subterm that the equation lowers, and put the way to it on a list, the last argument first
pub record FoundIn (o : Order) (e : Clause) (vars : ℕ) (t : Term) (before after : List ℕ) (side : ℕ) (s : List Term) : Type 0 where
  pub path : List ℕ
  pub way : after ≡ before ++ reverse path
  pub found : Term
  pub first : IsFirstPath (LowersTerm o e) t path found
  pub lowering : IsLowering o e vars found side s

-- the same of several terms, of which a path names one first
abbrev pub NoneAmong : (Term → Type 0) → List Term → Type 0
NoneAmong P ts = (path : List ℕ) (u : Term) → subterm_among path ts ≡ Some u → ¬ P u

abbrev pub SomeAmong : (Term → Type 0) → List Term → Type 0
SomeAmong P ts = (path : List ℕ) × (u : Term) × (subterm_among path ts ≡ Some u) × P u

pub record IsFirstAmong (P : Term → Type 0) (ts : List Term) (path : List ℕ) (found : Term) : Type 0 where
  pub there : subterm_among path ts ≡ Some found
  pub earlier : (other : List ℕ) (u : Term) → subterm_among other ts ≡ Some u → slice_cmp nat_cmp other path ≡ Less → ¬ P u

pub record FoundAmong (o : Order) (e : Clause) (vars : ℕ) (ts : List Term) (before after : List ℕ) (side : ℕ) (s : List Term) : Type 0 where
  pub path : List ℕ
  pub way : after ≡ before ++ reverse path
  pub found : Term
  pub first : IsFirstAmong (LowersTerm o e) ts path found
  pub lowering : IsLowering o e vars found side s

-- no literal before place j has a subterm that passes
abbrev pub NoLiteralBefore : (Term → Type 0) → List Literal → ℕ → Type 0
NoLiteralBefore P ls j = (k : ℕ) (l : Literal) → k < j → slice_get ls k ≡ Some l → NoneAmong P (terms_of l.atom)

-- a literal has a subterm that passes
abbrev pub SomeLiteral : (Term → Type 0) → List Literal → Type 0
SomeLiteral P ls = (j : ℕ) × (l : Literal) × (slice_get ls j ≡ Some l) × SomeAmong P (terms_of l.atom)

-- the first place of a clause
pub record FoundAt (o : Order) (e : Clause) (vars : ℕ) (ls : List Literal) (j : ℕ) (way : List ℕ) (side : ℕ) (s : List Term) : Type 0 where
  pub literal : Literal
  pub here : slice_get ls j ≡ Some literal
  pub earlier : NoLiteralBefore (LowersTerm o e) ls j
  pub found : FoundAmong o e vars (terms_of literal.atom) [] way side s
