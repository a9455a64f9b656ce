-- Truth under substitutions and replacements.
use Rattle.std.proofs.Common.{◌≡◌, ℕ, zero, suc, Bool, true, false, not, nat_eq, List, [], ◌∷◌, map, Some, slice_get, slice_set, slice_index, ap, ◌∙◌, subst, refl, sym}
use Rattle.std.specs.List.{list_any}
use Rattle.std.proofs.lemmas.List.{map-set, set-get_or}
use Rattle.std.proofs.lemmas.Option.{get_or_from_slice_get, same_Some}
use Rattle.std.proofs.lemmas.Bool.{eqb-true}
use Rattle.cd_list.proofs.Numbers.{equal_itself}
use Rattle.cd_term.specs.declared.Term.{Term}
use Rattle.cd_term.specs.declared.Term.TheVariants.{App}
use Rattle.cd_term.specs.Terms.{value_of, subterm, replaced, argument}
use Rattle.cd_term.proofs.Paths.{argument-App}
use Rattle.cd_term.proofs.PathLaws.{steps_to, puts_in}
use Rattle.cd_clause.specs.declared.Atom.{Atom}
use Rattle.cd_clause.specs.declared.Atom.TheVariants.{Truth, Pred, Equal}
use Rattle.cd_clause.specs.declared.Clause.{Clause}
use Rattle.cd_clause.specs.Clauses.{terms_of}
use Rattle.cd_clause.specs.Truth.{Interp, IsInterp, Point, IsPoint, place, function_values, predicate_values, value, atom_true, literal_true, Holds}
use Rattle.cd_clause.proofs.SoundnessLemmas.{value-App, values-substituted, any-substituted, value_below, moved}
use Rattle.cd_clause.specs.Places.{signed, HasSides, subterm_at, with_term, replaced_at}
use Rattle.cd_clause.proofs.PlaceLemmas.{stands_in, replaces_in}
use Rattle.cd_steps.specs.Rules.{Inference, Follows}

-- what follows by an inference holds where, at each point at which the terms have equal values, some literal of what is concluded is true
pub follows_holds : (i : Interp) (inference : Inference) (s : List Term) (result : Clause) → IsInterp i → Follows inference s result
    → ((point : Point) → IsPoint i point → map (value i point) inference.left ≡ map (value i point) inference.right
    → list_any (literal_true i point) inference.conclusion ≡ true)
    → Holds i result
follows_holds i inference s result is f sound = record {
  at_each = λ point within.
      let g : ℕ → Term = value_of s in
      let equal : map (value i (moved i g point)) inference.left ≡ map (value i (moved i g point)) inference.right =
      sym (values-substituted i g point inference.left) ∙ ap (map (value i point)) f.equal ∙ values-substituted i g point inference.right in
      ap (list_any (literal_true i point)) f.literals ∙ any-substituted i g point inference.conclusion
      ∙ sound (moved i g point) (λ k. value_below i point is within (g k)) equal;
}

-- the same terms but for one of equal value
same_args : (ts : List Term) (k : ℕ) (x : Term) → slice_get ts k ≡ Some x → slice_set ts k x ≡ ts
same_args ts k x e = subst (λ w. slice_set ts k w ≡ ts) (get_or_from_slice_get ts k x x e) (set-get_or ts k x)

pub values_set : (i : Interp) (point : Point) (ts : List Term) (k : ℕ) (x w : Term) → slice_get ts k ≡ Some x
    → value i point w ≡ value i point x → map (value i point) (slice_set ts k w) ≡ map (value i point) ts
values_set i point ts k x w there same =
    map-set (value i point) ts k w ∙ ap (λ (v : ℕ). slice_set (map (value i point) ts) k v) same
    ∙ sym (map-set (value i point) ts k x) ∙ ap (map (value i point)) (same_args ts k x there)

same_arg : (f g : ℕ) (ts us : List Term) (k : ℕ) (x y t : Term) → t ≡ App f ts → t ≡ App g us → slice_get ts k ≡ Some x → slice_get us k ≡ Some y → x ≡ y
same_arg f g ts us k x y t a b here there =
    same_Some x y (sym here ∙ sym (argument-App k f ts) ∙ sym (ap (argument k) a) ∙ ap (argument k) b ∙ argument-App k g us ∙ there)

-- a subterm of equal value put at a path
pub value_replaced : (i : Interp) (point : Point) (path : List ℕ) (new t u v : Term) → subterm path t ≡ Some u → replaced path new t ≡ Some v
    → value i point new ≡ value i point u → value i point v ≡ value i point t
value_replaced i point [] new t u v e p same =
    ap (value i point) (sym (same_Some new v p)) ∙ same ∙ ap (value i point) (sym (same_Some t u e))
value_replaced i point (k ∷ path) new t u v e p same =
    let s = steps_to k path u t e in let c = puts_in k path new v t p in
    let arg : s.arg ≡ c.arg = same_arg s.symbol c.symbol s.args c.args k s.arg c.arg t s.is c.is s.here c.here in
    let below = value_replaced i point path new c.arg u c.changed (sym (ap (subterm path) arg) ∙ s.rest) c.rest same in
    ap (value i point) c.result ∙ value-App i point c.symbol (slice_set c.args k c.changed)
    ∙ ap (λ (vs : List ℕ). slice_index (function_values (slice_get i.tables c.symbol)) (place i.size vs)) (values_set i point c.args k c.arg c.changed c.here below)
    ∙ sym (value-App i point c.symbol c.args) ∙ sym (ap (value i point) c.is)

-- an atom with one of its terms changed to one of equal value is as true as before
with_term_true : (i : Interp) (point : Point) (k : ℕ) (a : Atom) (t u : Term) → slice_get (terms_of a) k ≡ Some t → value i point u ≡ value i point t
    → atom_true i point (with_term k u a) ≡ atom_true i point a
with_term_true i point k Truth t u here same = refl
with_term_true i point k (Pred p args) t u here same =
    ap (λ (vs : List ℕ). nat_eq (slice_index (predicate_values (slice_get i.tables p)) (place i.size vs)) 1) (values_set i point args k t u here same)
with_term_true i point zero (Equal x y) t u here same =
    let e : x ≡ t = cc in ap (λ (n : ℕ). nat_eq n (value i point y)) (same ∙ ap (value i point) (sym e))
with_term_true i point (suc zero) (Equal x y) t u here same =
    let e : y ≡ t = cc in ap (λ (n : ℕ). nat_eq (value i point x) n) (same ∙ ap (value i point) (sym e))
with_term_true i point (suc (suc k)) (Equal x y) t u here same = absurd cc

pub replaced_true : (i : Interp) (point : Point) (path : List ℕ) (new u : Term) (a b : Atom) → subterm_at path a ≡ Some u → replaced_at path new a ≡ Some b
    → value i point new ≡ value i point u → atom_true i point b ≡ atom_true i point a
replaced_true i point [] new u a b e p same = absurd cc
replaced_true i point (k ∷ path) new u a b e p same =
    let s = stands_in k path a u e in let c = replaces_in k path new a b p in
    let one : s.term ≡ c.term = same_Some s.term c.term (sym s.here ∙ c.here) in
    let below = value_replaced i point path new c.term u c.changed (sym (ap (subterm path) one) ∙ s.rest) c.rest same in
    ap (atom_true i point) c.result ∙ with_term_true i point k a c.term c.changed c.here below

-- the literals of equal atoms and one sign
pub signed_true : (i : Interp) (point : Point) (sign : Bool) (a b : Atom) → atom_true i point b ≡ atom_true i point a
    → literal_true i point (signed sign b) ≡ literal_true i point (signed sign a)
signed_true i point true a b same = same
signed_true i point false a b same = ap not same

-- a true equation has sides of one value
pub sides_true : (i : Interp) (point : Point) (s : ℕ) (a : Atom) (side other : Term) → HasSides s a side other → atom_true i point a ≡ true
    → value i point other ≡ value i point side
sides_true i point zero a side other is t = sym (eqb-true (value i point side) (value i point other) (sym (ap (atom_true i point) is) ∙ t))
sides_true i point (suc zero) a side other is t = eqb-true (value i point other) (value i point side) (sym (ap (atom_true i point) is) ∙ t)
sides_true i point (suc (suc s)) a side other is t = absurd is

-- and an equation whose sides have one value is true
pub true_sides : (i : Interp) (point : Point) (s : ℕ) (a : Atom) (side other : Term) → HasSides s a side other → value i point side ≡ value i point other
    → atom_true i point a ≡ true
true_sides i point zero a side other is e =
    ap (atom_true i point) is ∙ ap (λ (n : ℕ). nat_eq n (value i point other)) e ∙ equal_itself (value i point other)
true_sides i point (suc zero) a side other is e =
    ap (atom_true i point) is ∙ ap (λ (n : ℕ). nat_eq (value i point other) n) e ∙ equal_itself (value i point other)
true_sides i point (suc (suc s)) a side other is e = absurd is

-- predicate literals whose arguments have the same values
pub arguments_true : (i : Interp) (point : Point) (p : ℕ) (ts us : List Term) → map (value i point) ts ≡ map (value i point) us
    → atom_true i point (Pred p ts) ≡ atom_true i point (Pred p us)
arguments_true i point p ts us same =
    ap (λ (vs : List ℕ). nat_eq (slice_index (predicate_values (slice_get i.tables p)) (place i.size vs)) 1) same
