-- The rules of inference. A rule says, of its premises and the places that it is made on, which terms have to
-- become equal, and which literals then follow.
use Rattle.std.specs.Prelude.{◌≡◌, ◌≢◌, ℕ, ◌+◌, ◌<◌, true, false, List, [], ◌∷◌, ◌++◌, length, map, remove, Some, slice_get, slice_set}
use Rattle.cd_term.specs.declared.Term.{Term}
use Rattle.cd_term.specs.declared.Term.TheVariants.{Var}
use Rattle.cd_term.specs.Terms.{applied}
use Rattle.cd_clause.specs.declared.Atom.{Atom}
use Rattle.cd_clause.specs.declared.Atom.TheVariants.{Pred, Equal}
use Rattle.cd_clause.specs.declared.Literal.{Literal}
use Rattle.cd_clause.specs.declared.Clause.{Clause}
use Rattle.cd_clause.specs.Clauses.{variable_bound_of, literals_changed, instance}
use Rattle.cd_clause.specs.Places.{signed, HasSides, subterm_at, replaced_at}

-- so many variables, two lists of terms that have to become equal, and the literals that follow once they are
pub record Inference : Type 0 where
  pub variables : ℕ
  pub left : List Term
  pub right : List Term
  pub conclusion : List Literal

-- the variable that stands n places higher
abbrev pub higher : ℕ → ℕ → Term
higher n k = Var (n + k)

-- the second of two premises, with its variables moved up past those of the first
abbrev pub apart : Clause → Clause → Clause
apart a b = instance (higher (variable_bound_of a)) b

-- as many variables as two premises have
abbrev pub both_bounds : Clause → Clause → ℕ
both_bounds a b = variable_bound_of a + variable_bound_of b

-- binary resolution: literal i of a is a positive predicate, literal j of b a negative one, and what is left
-- follows
pub record IsResolution (a : Clause) (i : ℕ) (b : Clause) (j : ℕ) (inference : Inference) : Type 0 where
  pub predicate : ℕ
  pub left : List Term
  pub right : List Term
  pub positive : slice_get a.literals i ≡ Some (signed true (Pred predicate left))
  pub negative : slice_get (apart a b).literals j ≡ Some (signed false (Pred predicate right))
  pub is : inference ≡ record {
    variables = both_bounds a b;
    left = left;
    right = right;
    conclusion = remove a.literals i ++ remove (apart a b).literals j;
  }

-- factoring: two positive predicates, of which the first stays
pub record IsFactoring (c : Clause) (i j : ℕ) (inference : Inference) : Type 0 where
  pub predicate : ℕ
  pub left : List Term
  pub right : List Term
  pub ordered : i < j
  pub first : slice_get c.literals i ≡ Some (signed true (Pred predicate left))
  pub second : slice_get c.literals j ≡ Some (signed true (Pred predicate right))
  pub is : inference ≡ record {
    variables = variable_bound_of c;
    left = left;
    right = right;
    conclusion = remove c.literals j;
  }

-- reflexivity resolution: a negative equation, whose sides become equal
pub record IsReflexivity (c : Clause) (i : ℕ) (inference : Inference) : Type 0 where
  pub left : Term
  pub right : Term
  pub equation : slice_get c.literals i ≡ Some (signed false (Equal left right))
  pub is : inference ≡ record {
    variables = variable_bound_of c;
    left = left ∷ [];
    right = right ∷ [];
    conclusion = remove c.literals i;
  }

-- equality factoring: two positive equations, of each of which one side becomes equal; the first gives way to
-- the negative equation of the other sides
pub record IsEqualityFactoring (c : Clause) (i s j z : ℕ) (inference : Inference) : Type 0 where
  pub first : Atom
  pub left : Term
  pub left_other : Term
  pub second : Atom
  pub right : Term
  pub right_other : Term
  pub distinct : i ≢ j
  pub at_first : slice_get c.literals i ≡ Some (signed true first)
  pub at_second : slice_get c.literals j ≡ Some (signed true second)
  pub first_sides : HasSides s first left left_other
  pub second_sides : HasSides z second right right_other
  pub is : inference ≡ record {
    variables = variable_bound_of c;
    left = left ∷ [];
    right = right ∷ [];
    conclusion = slice_set c.literals i (signed false (Equal left_other right_other));
  }

-- paramodulation: a positive equation of a, and a subterm of a literal of b, which becomes equal to one side and
-- gives way to the other
pub record IsParamodulation (a : Clause) (i s : ℕ) (b : Clause) (j : ℕ) (path : List ℕ) (inference : Inference) : Type 0 where
  pub equation : Atom
  pub side : Term
  pub other : Term
  pub taker : Literal
  pub inner : Term
  pub changed : Atom
  pub giver : slice_get a.literals i ≡ Some (signed true equation)
  pub sides : HasSides s equation side other
  pub literal : slice_get (apart a b).literals j ≡ Some taker
  pub there : subterm_at path taker.atom ≡ Some inner
  pub becomes : replaced_at path other taker.atom ≡ Some changed
  pub is : inference ≡ record {
    variables = both_bounds a b;
    left = side ∷ [];
    right = inner ∷ [];
    conclusion = remove a.literals i ++ slice_set (apart a b).literals j (signed taker.positive changed);
  }

-- rewriting: paramodulation from a clause that is one equation
pub record IsRewriting (e : Clause) (s : ℕ) (c : Clause) (j : ℕ) (path : List ℕ) (inference : Inference) : Type 0 where
  pub one : length e.literals ≡ 1
  pub into : IsParamodulation e 0 s c j path inference

-- what an inference gives with a substitution that has a term for each variable and makes the terms equal
pub record Follows (inference : Inference) (subst : List Term) (result : Clause) : Type 0 where
  pub covers : length subst ≡ inference.variables
  pub equal : map (applied subst) inference.left ≡ map (applied subst) inference.right
  pub literals : result.literals ≡ literals_changed (applied subst) inference.conclusion

-- a clause follows by a rule
abbrev pub FollowsBy : (Inference → Type 0) → List Term → Clause → Type 0
FollowsBy Rule subst result = (inference : Inference) × Rule inference × Follows inference subst result
