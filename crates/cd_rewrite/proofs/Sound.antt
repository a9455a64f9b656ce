-- What a reduction keeps: with the equation, a clause and its reduct imply each other.
use Rattle.std.proofs.Common.{◌≡◌, ℕ, zero, suc, Bool, true, false, not, ◌||◌, List, [], ◌∷◌, map, ap, refl, sym, ◌∙◌, Some, slice_get, slice_set, slice_index, nat_eq, if◌then◌else◌}
use Rattle.std.specs.List.{list_any}
use Rattle.std.proofs.lemmas.Option.{same_Some}
use Rattle.std.proofs.lemmas.Bool.{eqb-true}
use Rattle.cd_term.specs.declared.Term.{Term}
use Rattle.cd_term.specs.Terms.{substituted, value_of, subterm, replaced}
use Rattle.cd_term.proofs.PathLaws.{steps_to, puts_in}
use Rattle.cd_term.proofs.VariableLaws.{App-injective}
use Rattle.cd_clause.specs.declared.Atom.{Atom}
use Rattle.cd_clause.specs.declared.Atom.TheVariants.{Truth, Pred, Equal}
use Rattle.cd_clause.specs.declared.Literal.{Literal}
use Rattle.cd_clause.specs.declared.Clause.{Clause}
use Rattle.cd_clause.specs.Clauses.{terms_of, atom_changed, literal_changed}
use Rattle.cd_clause.specs.Places.{signed, HasSides, subterm_at, with_term, replaced_at}
use Rattle.cd_clause.specs.Truth.{Interp, IsInterp, Point, IsPoint, value, atom_true, literal_true, Holds, place, function_values, predicate_values}
use Rattle.cd_clause.proofs.SoundnessLemmas.{value-App, instance_holds}
use Rattle.cd_clause.proofs.PlaceLemmas.{stands_in, replaces_in}
use Rattle.cd_kbo.specs.declared.order.Order.{Order}
use Rattle.cd_rewrite.specs.Reduction.{IsRule, Lowers, Spot, IsReduct}
use Rattle.cd_rewrite.specs.Laws.{ReductsImply}

module _ (i : Interp) (point : Point) where
  -- a list with a term of the same value in a place
  values_put : (ts : List Term) (k : ℕ) (a b : Term) → slice_get ts k ≡ Some a → value i point b ≡ value i point a →
      map (value i point) (slice_set ts k b) ≡ map (value i point) ts
  values_put [] k a b at same = refl
  values_put (t ∷ ts) zero a b at same =
      ap (λ v. v ∷ map (value i point) ts) (same ∙ ap (value i point) (sym (same_Some t a at)))
  values_put (t ∷ ts) (suc k) a b at same = ap (λ vs. value i point t ∷ vs) (values_put ts k a b at same)

  -- a term with a subterm of the same value in a place
  value_replaced : (path : List ℕ) (new t v old : Term) → subterm path t ≡ Some old → replaced path new t ≡ Some v →
      value i point new ≡ value i point old → value i point v ≡ value i point t
  value_replaced [] new t v old at put same =
      ap (value i point) (sym (same_Some new v put)) ∙ same ∙ ap (value i point) (sym (same_Some t old at))
  value_replaced (k ∷ path) new t v old at put same =
      (let s = steps_to k path old t at in let c = puts_in k path new v t put in
      let args : s.args ≡ c.args = (App-injective s.symbol c.symbol s.args c.args (sym s.is ∙ c.is)).1 in
      let arg : s.arg ≡ c.arg = same_Some s.arg c.arg (sym s.here ∙ ap (λ ts. slice_get ts k) args ∙ c.here) in
      let inner = value_replaced path new c.arg c.changed old (ap (subterm path) (sym arg) ∙ s.rest) c.rest same in
      ap (value i point) c.result ∙ value-App i point c.symbol (slice_set c.args k c.changed)
      ∙ ap (λ vs. slice_index (function_values (slice_get i.tables c.symbol)) (place i.size vs)) (values_put c.args k c.arg c.changed c.here inner)
      ∙ sym (value-App i point c.symbol c.args) ∙ ap (value i point) (sym c.is))

  -- an atom with a term of the same value in a place
  term_true : (k : ℕ) (a : Atom) (x y : Term) → slice_get (terms_of a) k ≡ Some x → value i point y ≡ value i point x →
      atom_true i point (with_term k y a) ≡ atom_true i point a
  term_true k Truth x y at same = refl
  term_true k (Pred p args) x y at same =
      ap (λ vs. nat_eq (slice_index (predicate_values (slice_get i.tables p)) (place i.size vs)) 1) (values_put args k x y at same)
  term_true zero (Equal s t) x y at same =
      ap (λ v. nat_eq v (value i point t)) (same ∙ ap (value i point) (sym (same_Some s x at)))
  term_true (suc zero) (Equal s t) x y at same =
      ap (nat_eq (value i point s)) (same ∙ ap (value i point) (sym (same_Some t x at)))
  term_true (suc (suc k)) (Equal s t) x y at same = absurd (cc)

  -- an atom with a subterm of the same value in a place
  atom_replaced_true : (path : List ℕ) (new : Term) (a b : Atom) (old : Term) → subterm_at path a ≡ Some old → replaced_at path new a ≡ Some b →
      value i point new ≡ value i point old → atom_true i point b ≡ atom_true i point a
  atom_replaced_true [] new a b old at put same = absurd (cc)
  atom_replaced_true (k ∷ path) new a b old at put same =
      (let s = stands_in k path a old at in let r = replaces_in k path new a b put in
      let term : s.term ≡ r.term = same_Some s.term r.term (sym s.here ∙ r.here) in
      ap (atom_true i point) r.result
      ∙ term_true k a r.term r.changed r.here (value_replaced path new r.term r.changed old (ap (subterm path) (sym term) ∙ s.rest) r.rest same))

  -- a clause with a literal in a place that is as true
  any_put : (ls : List Literal) (j : ℕ) (l m : Literal) → slice_get ls j ≡ Some l → literal_true i point m ≡ literal_true i point l →
      list_any (literal_true i point) (slice_set ls j m) ≡ list_any (literal_true i point) ls
  any_put [] j l m at same = refl
  any_put (k ∷ ls) zero l m at same =
      ap (λ b. b || list_any (literal_true i point) ls) (same ∙ ap (literal_true i point) (sym (same_Some k l at)))
  any_put (k ∷ ls) (suc j) l m at same = ap (λ b. literal_true i point k || b) (any_put ls j l m at same)

  signed_true : (l : Literal) (b : Atom) → atom_true i point b ≡ atom_true i point l.atom →
      literal_true i point (signed l.positive b) ≡ literal_true i point l
  signed_true l b same = ap (λ t. if l.positive then t else not t) same

  -- the sides of an equation that is true have one value
  sides_same : (side : ℕ) (a : Atom) (from to : Term) (g : ℕ → Term) → HasSides side a from to → atom_true i point (atom_changed (substituted g) a) ≡ true →
      value i point (substituted g to) ≡ value i point (substituted g from)
  sides_same zero a from to g is yes_ =
      sym (eqb-true (value i point (substituted g from)) (value i point (substituted g to))
      (ap (λ b. atom_true i point (atom_changed (substituted g) b)) (sym is) ∙ yes_))
  sides_same (suc zero) a from to g is yes_ =
      eqb-true (value i point (substituted g to)) (value i point (substituted g from))
      (ap (λ b. atom_true i point (atom_changed (substituted g) b)) (sym is) ∙ yes_)
  sides_same (suc (suc n)) a from to g is yes_ = absurd is

one_true : (b : Bool) → (b || false) ≡ true → b ≡ true
one_true true e = refl
one_true false e = absurd (cc)

rule_same : (i : Interp) (point : Point) (e : Clause) (side : ℕ) (from to : Term) (g : ℕ → Term) → IsInterp i → IsPoint i point → Holds i e → IsRule e side from to →
    value i point (substituted g to) ≡ value i point (substituted g from)
rule_same i point e side from to g ok is holds rule =
    let there = (instance_holds i g e ok holds).at_each point is in
    let one : list_any (literal_true i point) (map (literal_changed (substituted g)) (signed true rule.equation ∷ [])) ≡ true
    = ap (λ ls. list_any (literal_true i point) (map (literal_changed (substituted g)) ls)) (sym rule.one) ∙ there in
    sides_same i point side rule.equation from to g rule.sides (one_true (atom_true i point (atom_changed (substituted g) rule.equation)) one)

lowers_same : (o : Order) (i : Interp) (point : Point) (e : Clause) (side : ℕ) (g : ℕ → Term) (old new : Term) → IsInterp i → IsPoint i point → Holds i e →
    Lowers o e side g old new → value i point new ≡ value i point old
lowers_same o i point e side g old new ok is holds l =
    ap (value i point) (sym l.result) ∙ rule_same i point e side l.from l.to g ok is holds l.rule ∙ ap (value i point) l.matched

-- at each point the reduct is as true as the clause
as_true : (o : Order) (i : Interp) (point : Point) (e c d : Clause) (at : Spot) (s : List Term) → IsInterp i → IsPoint i point → Holds i e → IsReduct o e c at s d →
    list_any (literal_true i point) d.literals ≡ list_any (literal_true i point) c.literals
as_true o i point e c d at s ok is holds r =
    ap (list_any (literal_true i point)) r.rest
    ∙ any_put i point c.literals at.literal r.by.taker (signed r.by.taker.positive r.changed) r.by.literal
    (signed_true i point r.by.taker r.changed (atom_replaced_true i point at.path r.by.new r.by.taker.atom r.changed r.by.old r.by.there r.becomes
    (lowers_same o i point e at.side (value_of s) r.by.old r.by.new ok is holds r.by.lowers)))

pub reducts_imply : ReductsImply
reducts_imply i o e c d at s ok r holds = (
  λ h. record { at_each = λ point is. as_true o i point e c d at s ok is holds r ∙ h.at_each point is },
  λ h. record { at_each = λ point is. sym (as_true o i point e c d at s ok is holds r) ∙ h.at_each point is },
)
