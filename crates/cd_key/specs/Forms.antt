-- Ground forms of literals.
use Rattle.std.specs.Prelude.{Option, Some, None, if◌then◌else◌}
use Rattle.std.specs.Option.{option_cmp}
use Rattle.std.specs.Ordering.{is_lt, on, flip_args, then_cmp, bool_cmp}
use Rattle.std.specs.declared.cmp.Ordering.{Ordering}
use Rattle.cd_term.specs.declared.Term.{Term}
use Rattle.cd_term.specs.declared.Term.TheVariants.{App}
use Rattle.cd_clause.specs.declared.Atom.{Atom}
use Rattle.cd_clause.specs.declared.Atom.TheVariants.{Truth, Pred, Equal}
use Rattle.cd_clause.specs.declared.Literal.{Literal}
use Rattle.cd_kbo.specs.declared.order.Order.{Order}
use Rattle.cd_kbo.specs.Kbo.{ground_compare}

-- the greater and the lesser of two terms in the ground order
abbrev pub greater_term : Order → Term → Term → Term
greater_term o s t = if is_lt (ground_compare o s t) then t else s

abbrev pub lesser_term : Order → Term → Term → Term
lesser_term o s t = if is_lt (ground_compare o s t) then s else t

-- the greater side of an atom: a predicate atom itself; none for `$true`, which is smaller than every term
abbrev pub greater_side : Order → Atom → Option Term
greater_side o Truth = None
greater_side o (Pred p args) = Some (App p args)
greater_side o (Equal s t) = Some (greater_term o s t)

-- the lesser side of an atom: none for a predicate atom and for `$true`, which is smaller than every term
abbrev pub lesser_side : Order → Atom → Option Term
lesser_side o Truth = None
lesser_side o (Pred p args) = None
lesser_side o (Equal s t) = Some (lesser_term o s t)

-- by the greater side, then by the sign with negative greater, then by the lesser side
abbrev pub literal_compare : Order → Literal → Literal → Ordering
literal_compare o = then_cmp (on (λ l. greater_side o l.atom) (option_cmp (ground_compare o)))
    (then_cmp (on (λ l. l.positive) (flip_args bool_cmp))
    (on (λ l. lesser_side o l.atom) (option_cmp (ground_compare o))))
