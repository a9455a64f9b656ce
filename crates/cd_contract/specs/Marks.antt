-- Tables of the shapes of a clause: of all that its literals and subterms are instances of.
-- Beyond the headline: no clause of `prove` reaches this file.
use Rattle.std.specs.Prelude.{ℕ, ◌≡◌, ◌<◌, ◌/◌, ◌%◌, Bool, List, Option, Some, slice_get, slice_index, option_map}
use Rattle.std.specs.Int.{bit_at}
use Rattle.cd_term.specs.declared.Term.{Term}
use Rattle.cd_term.specs.Terms.{substituted, subterm}
use Rattle.cd_clause.specs.declared.Literal.{Literal}
use Rattle.cd_clause.specs.Clauses.{terms_of, atom_changed}
use Rattle.cd_subsume.specs.Subsumption.{IsTurned}
use Rattle.cd_contract.specs.declared.marks.Marks.{Marks}
use Rattle.cd_contract.specs.declared.marks.Brief.{Brief}
use Rattle.cd_contract.specs.Shapes.{mix, part, shape, literal_shape, Among}

-- a number below 4,096 is marked
abbrev pub Marked : Marks → ℕ → Type 0
Marked m k = (k < 4096) × (bit_at (slice_index m.words (k / 64)) (k % 64) ≡ 1)

-- the same in a table of 512 marks, of which numbers that leave the same when divided by 512 share one
abbrev pub BrieflyMarked : Brief → ℕ → Type 0
BrieflyMarked m k = (k < 4096) × (bit_at (slice_index m.words (k / 64 % 8)) (k % 64) ≡ 1)

-- what is marked stays so
abbrev pub Keeps : Marks → Marks → Type 0
Keeps old new = (k : ℕ) → Marked old k → Marked new k

-- whatever a term is an instance of has a marked shape
pub record Meets (P : ℕ → Type 0) (t : Term) : Type 0 where
  pub shapes : (g : ℕ → Term) (p : Term) → substituted g p ≡ t → P (shape 3 p)

-- the same of a literal, whose sides may be exchanged
pub record MeetsLiteral (P : ℕ → Type 0) (m : Literal) : Type 0 where
  pub shapes : (g : ℕ → Term) (l : Literal) (is_exchanged : Bool) → l.positive ≡ m.positive →
      IsTurned is_exchanged (atom_changed (substituted g) l.atom) m.atom → P (literal_shape l)

-- the same of every subterm of a term, and of several terms
abbrev pub MeetsIn : (ℕ → Type 0) → Term → Type 0
MeetsIn P t = (path : List ℕ) (u : Term) → subterm path t ≡ Some u → Meets P u

abbrev pub MeetsAmong : (ℕ → Type 0) → List Term → Type 0
MeetsAmong P ts = (i : ℕ) (t : Term) → slice_get ts i ≡ Some t → MeetsIn P t

-- of a literal and all its subterms
pub record MeetsWhole (P : ℕ → Type 0) (l : Literal) : Type 0 where
  pub literal : MeetsLiteral P l
  pub terms : MeetsAmong P (terms_of l.atom)

-- of all literals; and the shape of a variable is marked in any case
pub record IsSought (ls : List Literal) (P : ℕ → Type 0) : Type 0 where
  pub star : P 0
  pub each : (j : ℕ) (l : Literal) → slice_get ls j ≡ Some l → MeetsWhole P l

-- each mixture of one of some numbers and one of others is marked
abbrev pub MarksRow : Marks → (ℕ → ℕ) → List ℕ → Type 0
MarksRow m h ys = (y : ℕ) → Among y ys → Marked m (h y)

abbrev pub MarksGrid : Marks → (ℕ → ℕ → ℕ) → List ℕ → List ℕ → Type 0
MarksGrid m h xs ys = (x : ℕ) → Among x xs → MarksRow m (h x) ys

-- what a symbol makes of all that two arguments, if there are such, are instances of
abbrev pub MarksParts : Marks → ℕ → Option Term → Option Term → Type 0
MarksParts m f a b = (g : ℕ → Term) (q r : Option Term) → option_map (substituted g) q ≡ a → option_map (substituted g) r ≡ b →
    Marked m (mix f (part (shape 2) q) (part (shape 2) r))
