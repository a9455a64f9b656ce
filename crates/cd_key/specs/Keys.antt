-- The deletion key.
use Rattle.std.specs.Prelude.{Option, Some, None}
use Rattle.std.specs.Cmp.Lexicographic.{slice_cmp}
use Rattle.std.specs.Ordering.{nat_cmp, on, then_cmp}
use Rattle.std.specs.declared.cmp.Ordering.{Ordering}
use Rattle.std.specs.declared.cmp.Ordering.TheVariants.{Less, Equal, Greater}
use Rattle.cd_clause.specs.declared.Clause.{Clause}
use Rattle.cd_kbo.specs.declared.order.Order.{Order}
use Rattle.cd_names.specs.declared.names.Name.{Name}
use Rattle.cd_names.specs.Orders.{name_cmp}
use Rattle.cd_key.specs.Forms.{literal_compare}
use Rattle.cd_key.specs.Multisets.{sorted_down}
use Rattle.cd_key.specs.Repeats.{repeats_of}

-- a clause with the name under which it is recorded, if it is
pub record Key : Type 0 where
  pub clause : Clause
  pub name : Option Name

abbrev pub key_of : Clause → Option Name → Key
key_of c n = record { clause = c; name = n }

-- names in their order; no name is greater than every name
abbrev pub name_key_cmp : Option Name → Option Name → Ordering
name_key_cmp None None = Equal
name_key_cmp None (Some m) = Greater
name_key_cmp (Some n) None = Less
name_key_cmp (Some n) (Some m) = name_cmp n m

-- the ground forms of the literals, sorted downwards, as lists
abbrev pub forms_compare : Order → Clause → Clause → Ordering
forms_compare o = on (λ c. sorted_down (literal_compare o) c.literals) (slice_cmp (literal_compare o))

-- by the ground forms of the literals, then by the repeated occurrences of variables, then by the name
abbrev pub key_compare : Order → Key → Key → Ordering
key_compare o = then_cmp (on (λ key. key.clause) (forms_compare o))
    (then_cmp (on (λ key. repeats_of key.clause.literals) nat_cmp)
    (on (λ key. key.name) name_key_cmp))
