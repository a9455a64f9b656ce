-- Shapes of terms and literals: numbers below 4,096 of their first levels, by which most clauses are passed over.
-- Beyond the headline: no clause of `prove` reaches this file.
use Rattle.std.specs.Prelude.{ℕ, zero, suc, ◌≡◌, ◌+◌, ◌*◌, ◌/◌, ◌%◌, ◌⊎◌, Bool, List, [], ◌∷◌, Option, Some, None, slice_get, option_map, if◌then◌else◌}
use Rattle.cd_term.specs.declared.Term.{Term, out-Term}
use Rattle.cd_term.specs.declared.Term.TheOpen.{Term-F}
use Rattle.cd_term.specs.declared.Term.TheOpen as layer
use Rattle.cd_term.specs.Terms.{substituted}
use Rattle.cd_clause.specs.declared.Atom.{Atom}
use Rattle.cd_clause.specs.declared.Atom.TheVariants.{Truth, Pred, Equal}
use Rattle.cd_clause.specs.declared.Literal.{Literal}
use Rattle.cd_clause.specs.Clauses.{terms_of}

-- a number below 4,096 of a symbol and the numbers of its first two arguments
unfoldable pub mix : ℕ → ℕ → ℕ → ℕ
mix f a b = (f * 2654435 + a * 40503 + b * 60013) / 256 % 4096

-- the number of an argument that there may be
abbrev pub part : (Term → ℕ) → Option Term → ℕ
part h None = 1
part h (Some t) = h t

abbrev pub layer_shape : (Term → ℕ) → Term-F Term → ℕ
layer_shape h (layer.Var n) = 0
layer_shape h (layer.App f ts) = mix f (part h (slice_get ts 0)) (part h (slice_get ts 1))

-- the shape of the first levels of a term: 0 for a variable, and for all that is below these levels
unfoldable pub shape : ℕ → Term → ℕ
shape zero t = 0
shape (suc n) t = layer_shape (shape n) (out-Term t)

-- a number that stands for a sign and a predicate, `=` or truth, and for no symbol
abbrev pub head_of : Bool → Atom → ℕ
head_of sign Truth = (if sign then 65536 else 65537)
head_of sign (Pred p args) = (if sign then 131072 else 196608) + p
head_of sign (Equal s t) = (if sign then 65538 else 65539)

-- the shape of a literal, of which three levels count
abbrev pub literal_shape : Literal → ℕ
literal_shape l =
    mix (head_of l.positive l.atom) (part (shape 2) (slice_get (terms_of l.atom) 0)) (part (shape 2) (slice_get (terms_of l.atom) 1))

-- a number is one of several
abbrev pub Among : ℕ → List ℕ → Type 0
Among n [] = ⊥
Among n (m ∷ ms) = (n ≡ m) ⊎ Among n ms

-- whatever a term is an instance of has one of several shapes
abbrev pub HasShapes : ℕ → Term → List ℕ → Type 0
HasShapes n t ms = (g : ℕ → Term) (p : Term) → substituted g p ≡ t → Among (shape n p) ms

-- the same of an argument that there may be
abbrev pub PartHasShapes : ℕ → Option Term → List ℕ → Type 0
PartHasShapes n o ms = (g : ℕ → Term) (q : Option Term) → option_map (substituted g) q ≡ o → Among (part (shape n) q) ms
