-- The first part of the key: the ground forms of the literals, sorted downwards.
-- Beyond the headline: no clause of `prove` reaches this file.
use Rattle.std.specs.Prelude.{ℕ, ◌≡◌, ◌≢◌, List, ◌∷◌, ◌++◌, Option}
use Rattle.std.specs.Cmp.{IsTotalOrder}
use Rattle.std.specs.declared.cmp.Ordering.TheVariants.{Less, Equal, Greater}
use Rattle.cd_term.specs.Terms.{renamed_by}
use Rattle.cd_clause.specs.declared.Literal.{Literal}
use Rattle.cd_clause.specs.declared.Clause.{Clause}
use Rattle.cd_clause.specs.Clauses.{literals_changed}
use Rattle.cd_kbo.specs.declared.order.Order.{Order}
use Rattle.cd_names.specs.declared.names.Name.{Name}
use Rattle.cd_key.specs.Forms.{literal_compare}
use Rattle.cd_key.specs.Keys.{key_of, key_compare, forms_compare}

-- the first part is smaller than that of another clause, or isn't greater
abbrev pub FormsBelow : Order → Clause → Clause → Type 0
FormsBelow o d c = forms_compare o d c ≡ Less

abbrev pub FormsNotAbove : Order → Clause → Clause → Type 0
FormsNotAbove o d c = forms_compare o d c ≢ Greater

-- the laws of the first part that other crates build on. Each is the contract of a function of the module `laws`

-- first parts compare antisymmetrically and transitively, also where one of two isn't greater
pub record AreFormsOrdered (o : Order) : Type 0 where
  pub total : IsTotalOrder (forms_compare o)
  pub irreflexive : (c : Clause) → FormsBelow o c c → ⊥
  pub transitive : (a b c : Clause) → FormsNotAbove o a b → FormsNotAbove o b c → FormsNotAbove o a c
  pub below_then : (a b c : Clause) → FormsBelow o a b → FormsNotAbove o b c → FormsBelow o a c
  pub then_below : (a b c : Clause) → FormsNotAbove o a b → FormsBelow o b c → FormsBelow o a c

abbrev pub FormsAreOrdered : Type 0
FormsAreOrdered = (o : Order) → AreFormsOrdered o

-- a clause of smaller first part has a smaller key, whatever the names
abbrev pub FormsDecideKeys : Type 0
FormsDecideKeys = (o : Order) (d c : Clause) (n m : Option Name) → FormsBelow o d c → key_compare o (key_of d n) (key_of c m) ≡ Less

-- a clause in which one literal gets smaller has a smaller first part
abbrev pub FormsFall : Type 0
FormsFall = (o : Order) (front back : List Literal) (l m : Literal) → literal_compare o m l ≡ Less →
    FormsBelow o (record { literals = front ++ m ∷ back }) (record { literals = front ++ l ∷ back })

-- a clause without one of its literals has a smaller first part
abbrev pub FewerFormsFall : Type 0
FewerFormsFall = (o : Order) (front back : List Literal) (l : Literal) →
    FormsBelow o (record { literals = front ++ back }) (record { literals = front ++ l ∷ back })

-- a clause with its variables renamed, as it is renumbered, has the same first part
abbrev pub RenamedFormsTie : Type 0
RenamedFormsTie = (o : Order) (p : ℕ → ℕ) (c : Clause) → forms_compare o (record { literals = literals_changed (renamed_by p) c.literals }) c ≡ Equal
