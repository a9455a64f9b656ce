-- The paths of a literal that lead to subterms other than variables.
-- Beyond the headline: no clause of `prove` reaches walked, paths_from.
use Rattle.std.specs.Prelude.{ℕ, suc, List, [], ◌∷◌, ◌++◌, map}
use Rattle.cd_term.specs.declared.Term.{Term, fold-Term}
use Rattle.cd_term.specs.declared.Term.TheOpen.{Term-F}
use Rattle.cd_term.specs.declared.Term.TheOpen as layer
use Rattle.cd_clause.specs.declared.Atom.{Atom}
use Rattle.cd_clause.specs.Clauses.{terms_of}

-- the lists of paths of several terms, each path behind the place of its term, the first of which is k
abbrev pub below : ℕ → List (List (List ℕ)) → List (List ℕ)
below k [] = []
below k (ps ∷ rest) = map (λ p. k ∷ p) ps ++ below (suc k) rest

-- of a variable none; of a symbol the empty one, and those of the arguments
abbrev pub paths_step : Term-F (List (List ℕ)) → List (List ℕ)
paths_step (layer.Var n) = []
paths_step (layer.App f lists) = [] ∷ below 0 lists

-- in the order of lists, a proper beginning first
abbrev pub term_paths : Term → List (List ℕ)
term_paths = fold-Term (List (List ℕ)) paths_step

abbrev pub atom_paths : Atom → List (List ℕ)
atom_paths a = below 0 (map term_paths (terms_of a))

-- what is made of each path behind another one
abbrev pub walked : {K : Type 0} → (List ℕ → K) → List ℕ → List (List ℕ) → List K
walked g path ps = map (λ p. g (path ++ p)) ps

-- the paths of several terms that stand one behind another, from a place on
abbrev pub paths_from : ℕ → List Term → List (List ℕ)
paths_from k ts = below k (map term_paths ts)
