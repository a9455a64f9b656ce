-- The orders of ground forms and of keys.
use Rattle.std.proofs.Common.{◌≡◌, ◌≢◌, Option, Some, None, sym, ap, ◌∙◌, refl, subst}
use Rattle.std.specs.Option.{option_cmp}
use Rattle.std.specs.Cmp.{IsTotalOrder, bool_cmp_total}
use Rattle.std.specs.Cmp.Lexicographic.{options_total, lists_total}
use Rattle.std.specs.Ordering.{nat_cmp, flip_args}
use Rattle.std.specs.declared.cmp.Ordering.TheVariants.{Less, Equal}
use Rattle.std.proofs.lemmas.Cmp.{nat_cmp_total, on_total, then_total, back_total, tied_itself}
use Rattle.cd_clause.specs.declared.Literal.{Literal}
use Rattle.cd_clause.specs.declared.Clause.{Clause}
use Rattle.cd_kbo.specs.declared.order.Order.{Order}
use Rattle.cd_kbo.proofs.GroundLemmas.{ground_total}
use Rattle.cd_kbo.proofs.Orderings.{both_equal, nat_cmp-Equal}
use Rattle.cd_names.specs.declared.names.Name.{Name}
use Rattle.cd_names.specs.Orders.{name_cmp}
use Rattle.cd_key.specs.Forms.{greater_side, lesser_side, literal_compare}
use Rattle.cd_key.specs.Multisets.{sorted_down}
use Rattle.cd_key.specs.Repeats.{repeats_of}
use Rattle.cd_key.specs.Keys.{Key, name_key_cmp, forms_compare, key_compare}
use Rattle.cd_key.specs.Laws.{IsKeyOrder}

pub forms_total : (o : Order) → IsTotalOrder (literal_compare o)
forms_total o =
    then_total (on_total (λ (l : Literal). greater_side o l.atom) (options_total (ground_total o)))
    (then_total (on_total (λ (l : Literal). l.positive) (back_total bool_cmp_total))
    (on_total (λ (l : Literal). lesser_side o l.atom) (options_total (ground_total o))))

name_total : IsTotalOrder name_cmp
name_total = then_total (on_total (λ (n : Name). n.seq) nat_cmp_total) (on_total (λ (n : Name). n.peer) nat_cmp_total)

turned_names : (n m : Option Name) → flip_args (option_cmp (flip_args name_cmp)) n m ≡ name_key_cmp n m
turned_names None None = refl
turned_names None (Some m) = refl
turned_names (Some n) None = refl
turned_names (Some n) (Some m) = refl

name_key_total : IsTotalOrder name_key_cmp
name_key_total = subst IsTotalOrder (λ i n m. turned_names n m i) (back_total (options_total (back_total name_total)))

pub clause_total : (o : Order) → IsTotalOrder (forms_compare o)
clause_total o = on_total (λ (c : Clause). sorted_down (literal_compare o) c.literals) (lists_total (forms_total o))

key_total : (o : Order) → IsTotalOrder (key_compare o)
key_total o =
    then_total (on_total (λ (k : Key). k.clause) (clause_total o))
    (then_total (on_total (λ (k : Key). repeats_of k.clause.literals) nat_cmp_total)
    (on_total (λ (k : Key). k.name) name_key_total))

not_Less : Equal ≢ Less
not_Less e = cc

pub key_order : (o : Order) → IsKeyOrder o
key_order o = record {
  total = key_total o;
  irreflexive = λ key e. not_Less (sym (tied_itself (key_total o) key) ∙ e);
  transitive = (key_total o).trans;
}

same_name : (n m : Name) → name_cmp n m ≡ Equal → n ≡ m
same_name n m e =
    let both = both_equal (nat_cmp n.seq m.seq) (nat_cmp n.peer m.peer) e in
    λ i. record { peer = nat_cmp-Equal n.peer m.peer both.1 i; seq = nat_cmp-Equal n.seq m.seq both.0 i }

same_names : (n m : Option Name) → name_key_cmp n m ≡ Equal → n ≡ m
same_names None None e = refl
same_names None (Some m) e = cc
same_names (Some n) None e = cc
same_names (Some n) (Some m) e = ap Some (same_name n m e)

pub names_decide : (o : Order) (a b : Key) → key_compare o a b ≡ Equal → a.name ≡ b.name
names_decide o a b e =
    let first = both_equal (forms_compare o a.clause b.clause) _ e in
    let second = both_equal (nat_cmp (repeats_of a.clause.literals) (repeats_of b.clause.literals)) (name_key_cmp a.name b.name) first.1 in
    same_names a.name b.name second.1
