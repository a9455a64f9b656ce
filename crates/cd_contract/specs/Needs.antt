-- The shapes that a clause needs in another one to make it superfluous.
-- Beyond the headline: no clause of `prove` reaches this file.
use Rattle.std.specs.Prelude.{ℕ, ◌≡◌, ◌≤◌, ◌<◌, true, List, [], ◌∷◌, Some, slice_get}
use Rattle.cd_term.specs.declared.Term.{Term}
use Rattle.cd_clause.specs.declared.Atom.TheVariants.{Equal}
use Rattle.cd_clause.specs.declared.Literal.{Literal}
use Rattle.cd_clause.specs.declared.Clause.{Clause}
use Rattle.cd_clause.specs.Places.{signed}
use Rattle.cd_kbo.specs.declared.order.Order.{Order}
use Rattle.cd_rewrite.specs.Equations.{Falls}
use Rattle.cd_contract.specs.declared.needs.Needs.{Needs}
use Rattle.cd_contract.specs.declared.marks.Brief.{Brief}
use Rattle.cd_contract.specs.declared.marks.Marks.{Marks}
use Rattle.cd_names.specs.declared.How.{How}
use Rattle.cd_contract.specs.declared.held.Entry.{Entry}
use Rattle.cd_contract.specs.declared.held.Kept.{Kept}
use Rattle.cd_contract.specs.Rows.{AreKept, entries_of}
use Rattle.cd_contract.specs.Shapes.{shape, literal_shape}
use Rattle.cd_contract.specs.Hits.{Contracts}
use Rattle.cd_contract.specs.Marks.{Marked, BrieflyMarked, IsSought}

-- the shape of the first literal, and of no literal that of a variable
abbrev pub IsFirstShape : List Literal → ℕ → Type 0
IsFirstShape [] k = k ≡ 0
IsFirstShape (l ∷ ls) k = k ≡ literal_shape l

-- the shape of a side, if it lowers any term
abbrev pub IsSideShape : Order → Term → Term → ℕ → Type 0
IsSideShape o from to k = (g : ℕ → Term) (u : Term) → Falls o from to g u → k ≡ shape 3 from

pub record IsNeeds (o : Order) (d : Clause) (n : Needs) : Type 0 where
  pub literal : IsFirstShape d.literals n.literal
  pub left : (s t : Term) → d.literals ≡ signed true (Equal s t) ∷ [] → IsSideShape o s t n.left
  pub right : (s t : Term) → d.literals ≡ signed true (Equal s t) ∷ [] → IsSideShape o t s n.right

-- the needs and the marks of held clauses stand in columns beside them
abbrev pub AreInStep : {A B : Type 0} → (A → B → Type 0) → List A → List B → Type 0
AreInStep R [] [] = Unit {0}
AreInStep R [] (y ∷ ys) = ⊥
AreInStep R (x ∷ xs) [] = ⊥
AreInStep R (x ∷ xs) (y ∷ ys) = R x y × AreInStep R xs ys

abbrev pub HasNeeds : Order → Entry → Needs → Type 0
HasNeeds o e n = IsNeeds o e.clause n

abbrev pub HasMarks : Entry → Brief → Type 0
HasMarks e m = IsSought e.clause.literals (BrieflyMarked m)

-- no clause of these needs makes one of the marks superfluous in a way
abbrev pub IsPassed : How → Marks → Needs → Type 0
IsPassed how m n = (o : Order) (d c : Clause) → IsNeeds o d n → IsSought c.literals (Marked m) → Contracts o how d c → ⊥

-- the same of those in the places from one up to another
abbrev pub ArePassed : How → Marks → List Needs → ℕ → ℕ → Type 0
ArePassed how m ns from to = (i : ℕ) (n : Needs) → from ≤ i → i < to → slice_get ns i ≡ Some n → IsPassed how m n

-- the columns of held clauses, for one order of terms
pub record AreColumns (o : Order) (ks : List Kept) (ns : List Needs) (ms : List Brief) : Type 0 where
  pub kept : AreKept ks
  pub needs : AreInStep (HasNeeds o) (entries_of ks) ns
  pub marks : AreInStep HasMarks (entries_of ks) ms
