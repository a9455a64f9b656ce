-- The laws of literals and keys that other crates build on. Each is the contract of a function of the module
-- `laws`.
-- Beyond the headline: no clause of `prove` reaches this file.
use Rattle.std.specs.Prelude.{ℕ, ◌≡◌, ◌≢◌, Bool, List, ◌∷◌, ◌++◌, Option}
use Rattle.std.specs.Cmp.{IsTotalOrder}
use Rattle.std.specs.declared.cmp.Ordering.TheVariants.{Less}
use Rattle.std.specs.declared.cmp.Ordering.TheVariants as answer
use Rattle.cd_term.specs.declared.Term.{Term}
use Rattle.cd_term.specs.declared.Term.TheVariants.{App}
use Rattle.cd_clause.specs.declared.Atom.TheVariants.{Pred, Equal}
use Rattle.cd_clause.specs.declared.Literal.{Literal}
use Rattle.cd_clause.specs.declared.Clause.{Clause}
use Rattle.cd_clause.specs.Clauses.{IsWithinBounds}
use Rattle.cd_kbo.specs.declared.order.Order.{Order}
use Rattle.cd_kbo.specs.Kbo.{ground_compare}
use Rattle.cd_names.specs.declared.names.Name.{Name}
use Rattle.cd_key.specs.Literals.{AreComparable}
use Rattle.cd_key.specs.Forms.{literal_compare}
use Rattle.cd_key.specs.Keys.{Key, key_of, key_compare}

-- a clause within bounds can be compared
abbrev pub BoundedClausesCompare : Type 0
BoundedClausesCompare = (c : Clause) → IsWithinBounds c → AreComparable c.literals

-- ground forms of literals compare antisymmetrically and transitively, and what compares as equal compares alike
abbrev pub LiteralFormsAreOrdered : Type 0
LiteralFormsAreOrdered = (o : Order) → IsTotalOrder (literal_compare o)

-- the order of keys is antisymmetric and transitive, and no key is below itself
pub record IsKeyOrder (o : Order) : Type 0 where
  pub total : IsTotalOrder (key_compare o)
  pub irreflexive : (key : Key) → key_compare o key key ≢ Less
  pub transitive : (a b c : Key) → key_compare o a b ≡ Less → key_compare o b c ≡ Less → key_compare o a c ≡ Less

abbrev pub KeysAreOrdered : Type 0
KeysAreOrdered = (o : Order) → IsKeyOrder o

-- keys with different names are never equal
abbrev pub NamesDecide : Type 0
NamesDecide = (o : Order) (a b : Key) → key_compare o a b ≡ answer.Equal → a.name ≡ b.name

-- a literal of a predicate whose atom gets smaller in the ground order gets smaller, whatever the signs, and so
-- does an equation of which one side gets smaller
abbrev pub LiteralsFall : Type 0
LiteralsFall = (o : Order) →
    ((b d : Bool) (p q : ℕ) (args others : List Term) → ground_compare o (App p args) (App q others) ≡ Less →
    literal_compare o (record { positive = b; atom = Pred p args }) (record { positive = d; atom = Pred q others }) ≡ Less)
    × ((b : Bool) (s' s t : Term) → ground_compare o s' s ≡ Less →
    literal_compare o (record { positive = b; atom = Equal s' t }) (record { positive = b; atom = Equal s t }) ≡ Less)
    × ((b : Bool) (s' s t : Term) → ground_compare o s' s ≡ Less →
    literal_compare o (record { positive = b; atom = Equal t s' }) (record { positive = b; atom = Equal t s }) ≡ Less)

-- a clause in which one literal gets smaller has a smaller key, whatever the names
abbrev pub KeysFall : Type 0
KeysFall = (o : Order) (front back : List Literal) (l m : Literal) (n n' : Option Name) → literal_compare o m l ≡ Less →
    key_compare o (key_of (record { literals = front ++ m ∷ back }) n') (key_of (record { literals = front ++ l ∷ back }) n) ≡ Less
