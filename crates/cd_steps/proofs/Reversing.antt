-- Rewriting changes the clause before it in place, and can be taken back.
use Rattle.std.proofs.Common.{◌≡◌, ℕ, zero, suc, ◌+◌, ◌<◌, ◌≤◌, Bool, true, false, List, [], ◌∷◌, ◌++◌, length, map, remove, Option, None, Some, slice_get, slice_set, option_map, unwrap_or, length-append, ap, ap₂, ◌∙◌, refl, sym, arith}
use Rattle.std.specs.List.{list_any, range_with_len}
use Rattle.std.proofs.lemmas.List.{map-set}
use Rattle.std.proofs.lemmas.List.FromFn.{length-map-range_with_len, get_or-map-range_with_len}
use Rattle.std.proofs.lemmas.Option.{same_Some, slice_get-get_or}
use Rattle.cd_term.specs.declared.Term.{Term}
use Rattle.cd_term.specs.declared.Term.TheVariants.{Var}
use Rattle.cd_term.specs.Terms.{bound_of, greatest, applied, substituted, value_of}
use Rattle.cd_term.proofs.Equations.{substituted-Var}
use Rattle.cd_term.proofs.Occurrence.{substituted-agree, occurs_below}
use Rattle.cd_term.proofs.Substitutions.{substituted-substituted, substituted-identity}
use Rattle.cd_clause.specs.declared.Atom.{Atom}
use Rattle.cd_clause.specs.declared.Atom.TheVariants.{Truth, Pred, Equal}
use Rattle.cd_clause.specs.declared.Literal.{Literal}
use Rattle.cd_clause.specs.declared.Clause.{Clause}
use Rattle.cd_clause.specs.Clauses.{atom_changed, literal_changed, literals_changed, variable_bound_of, IsTidied}
use Rattle.cd_clause.specs.Places.{signed, subterm_at, replaced_at}
use Rattle.cd_clause.specs.Truth.{Interp, IsInterp, Point, IsPoint, value, atom_true, literal_true, Holds}
use Rattle.cd_clause.proofs.PlaceLemmas.{replaced_applied}
use Rattle.cd_clause.proofs.SoundnessLemmas.{moved, value-substituted, value_below}
use Rattle.cd_clause.proofs.TidyLemmas.{tidy_holds}
use Rattle.cd_steps.specs.declared.Step.TheVariants.{Input, Copy, Resolve, Factor, Refl, EqFac, Para, Rewrite, Tidy}
use Rattle.cd_steps.specs.Rules.{Inference, Follows, FollowsBy, higher, apart, both_bounds, IsRewriting}
use Rattle.cd_steps.specs.Steps.{OfOne, OfTwo, themselves}
use Rattle.cd_steps.specs.Drafts.{raised}
use Rattle.cd_steps.specs.Laws.{HoldsIfAny, Rewrites, RewritingsAreInPlace, RewritingsAreReversible, StepsAreReversible}
use Rattle.cd_steps.proofs.Bounding.{atom_bound, literals_bound, bound_cons, literal_bound, side_bounds, place_bound}
use Rattle.cd_steps.proofs.ListLemmas.{any_set}
use Rattle.cd_steps.proofs.Raising.{raised_atom, apart_get, place_raised, was_there, can_replace}
use Rattle.cd_steps.proofs.TruthLemmas.{replaced_true, signed_true, sides_true}

-- ---- a substitution for the equation, and each variable of the clause before it as its own value

value_in_front : (s r : List Term) (k n : ℕ) → k < length s → unwrap_or (slice_get (s ++ r) k) (Var n) ≡ unwrap_or (slice_get s k) (Var n)
value_in_front [] r k n lt = absurd (omega arith)
value_in_front (t ∷ s) r zero n lt = refl
value_in_front (t ∷ s) r (suc k) n lt = value_in_front s r k n (omega arith)

get_behind : (s r : List Term) (k : ℕ) → slice_get (s ++ r) (length s + k) ≡ slice_get r k
get_behind [] r k = let none : 0 + k ≡ k = omega arith in ap (slice_get r) none
get_behind (t ∷ s) r k = let more : suc (length s) + k ≡ suc (length s + k) = omega arith in ap (slice_get (t ∷ (s ++ r))) more ∙ get_behind s r k

own_value : (n k : ℕ) → k < n → slice_get (map Var (range_with_len 0 n)) k ≡ Some (Var k)
own_value n k lt =
    slice_get-get_or (map Var (range_with_len 0 n)) k (Var k) (omega (arith, length-map-range_with_len Var 0 n))
    ∙ ap Some (get_or-map-range_with_len Var 0 n k k (Var k) lt (omega arith))

-- both, one after the other
abbrev with_own : List Term → Clause → List Term
with_own s c = s ++ themselves c

module _ (e c : Clause) (s : List Term) (covers : length s ≡ variable_bound_of e) where
  on_equation : (t : Term) → bound_of t ≤ variable_bound_of e → applied (with_own s c) t ≡ applied s t
  on_equation t le =
      substituted-agree (value_of (with_own s c)) (value_of s) t (λ k o. value_in_front s (themselves c) k k (omega (arith, occurs_below k t o, covers, le)))

  raised_value : (k : ℕ) → k < variable_bound_of c → value_of (with_own s c) (variable_bound_of e + k) ≡ Var k
  raised_value k lt =
      ap (λ (o : Option Term). unwrap_or o (Var (variable_bound_of e + k)))
      (ap (λ (n : ℕ). slice_get (s ++ themselves c) (n + k)) (sym covers) ∙ get_behind s (themselves c) k ∙ own_value (variable_bound_of c) k lt)

  on_raised : (t : Term) → bound_of t ≤ variable_bound_of c → applied (with_own s c) (raised (variable_bound_of e) t) ≡ t
  on_raised t le =
      substituted-substituted (value_of (with_own s c)) (higher (variable_bound_of e)) t
      ∙ substituted-agree (λ k. substituted (value_of (with_own s c)) (higher (variable_bound_of e) k)) Var t
      (λ k o. substituted-Var (value_of (with_own s c)) (variable_bound_of e + k) ∙ raised_value k (omega (arith, occurs_below k t o, le)))
      ∙ substituted-identity t

  on_all_raised : (ts : List Term) → greatest (map bound_of ts) ≤ variable_bound_of c → map (applied (with_own s c)) (map (raised (variable_bound_of e)) ts) ≡ ts
  on_all_raised [] le = refl
  on_all_raised (t ∷ ts) le = ap₂ (λ (x : Term) (xs : List Term). x ∷ xs) (on_raised t (omega (arith, le))) (on_all_raised ts (omega (arith, le)))

  on_raised_atom : (a : Atom) → atom_bound a ≤ variable_bound_of c → atom_changed (applied (with_own s c)) (atom_changed (raised (variable_bound_of e)) a) ≡ a
  on_raised_atom Truth le = refl
  on_raised_atom (Pred p args) le = ap (Pred p) (on_all_raised args le)
  on_raised_atom (Equal t u) le = ap₂ Equal (on_raised t (omega (arith, le))) (on_raised u (omega (arith, le)))

  on_raised_literals : (ls : List Literal) → literals_bound ls ≤ variable_bound_of c → literals_changed (applied (with_own s c)) (literals_changed (raised (variable_bound_of e)) ls) ≡ ls
  on_raised_literals [] le = refl
  on_raised_literals (l ∷ ls) le =
      ap₂ (λ (k : Literal) (ks : List Literal). k ∷ ks) (ap (signed l.positive) (on_raised_atom l.atom (omega (arith, bound_cons l ls, le))))
      (on_raised_literals ls (omega (arith, bound_cons l ls, le)))

  covers_both : length (with_own s c) ≡ both_bounds e c
  covers_both = length-append s (themselves c) ∙ ap₂ (λ (m n : ℕ). m + n) covers (length-map-range_with_len Var 0 (variable_bound_of c))

  -- the other side put in place of the matched one, before and after the substitution
  replaced_in_place : (path : List ℕ) (other : Term) (a b : Atom) → bound_of other ≤ variable_bound_of e → atom_bound a ≤ variable_bound_of c →
      replaced_at path other (atom_changed (raised (variable_bound_of e)) a) ≡ Some b → replaced_at path (applied s other) a ≡ Some (atom_changed (applied (with_own s c)) b)
  replaced_in_place path other a b low below becomes =
      sym (ap₂ (λ (t : Term) (x : Atom). replaced_at path t x) (on_equation other low) (on_raised_atom a below))
      ∙ replaced_applied (with_own s c) path other (atom_changed (raised (variable_bound_of e)) a) b becomes

  -- and the literals that follow
  rewritten_in_place : (j : ℕ) (sign : Bool) (changed : Atom) → length e.literals ≡ 1 →
      literals_changed (applied (with_own s c)) (remove e.literals 0 ++ slice_set (apart e c).literals j (signed sign changed))
      ≡ slice_set c.literals j (signed sign (atom_changed (applied (with_own s c)) changed))
  rewritten_in_place j sign changed one =
      ap (λ (ls : List Literal). literals_changed (applied (with_own s c)) (ls ++ slice_set (apart e c).literals j (signed sign changed))) (alone e.literals one)
      ∙ map-set (literal_changed (applied (with_own s c))) (apart e c).literals j (signed sign changed)
      ∙ ap (λ (ls : List Literal). slice_set ls j (signed sign (atom_changed (applied (with_own s c)) changed))) (on_raised_literals c.literals (omega arith))
    where
      alone : (ls : List Literal) → length ls ≡ 1 → remove ls 0 ≡ []
      alone [] h = absurd (omega (arith, h))
      alone (l ∷ []) h = refl
      alone (l ∷ m ∷ ls) h = absurd (omega (arith, h))

-- ---- in place

only_literal : (ls : List Literal) (l : Literal) → length ls ≡ 1 → slice_get ls 0 ≡ Some l → ls ≡ l ∷ []
only_literal [] l one there = absurd cc
only_literal (m ∷ []) l one there = let same : m ≡ l = cc in ap (λ (k : Literal). k ∷ []) same
only_literal (m ∷ n ∷ ls) l one there = absurd (omega (arith, one))

covers_equation : (e c : Clause) (s : List Term) → length (s ++ themselves c) ≡ both_bounds e c → length s ≡ variable_bound_of e
covers_equation e c s all = omega (arith, all, length-append s (themselves c), length-map-range_with_len Var 0 (variable_bound_of c))

only_term : (t u : Term) → t ∷ [] ≡ u ∷ [] → t ≡ u
only_term t u e = cc

to_rewrites : (e : Clause) (z : ℕ) (c : Clause) (j : ℕ) (path : List ℕ) (s : List Term) (result : Clause) (x : Inference) → IsRewriting e z c j path x →
    Follows x (s ++ themselves c) result → Rewrites e z c j path s result
to_rewrites e z c j path s result x w f =
    let p = w.into in
    let n = variable_bound_of e in
    let both = with_own s c in
    let covers : length s ≡ n = covers_equation e c s (f.covers ∙ ap (λ (i : Inference). i.variables) p.is) in
    let inside = literal_bound e.literals 0 (signed true p.equation) p.giver in
    let low = side_bounds z p.equation p.side p.other p.sides in
    let before = raised_atom n (slice_get c.literals j) p.taker.positive p.taker.atom (sym (apart_get e c j) ∙ p.literal) in
    let below : atom_bound before.0 ≤ variable_bound_of c = literal_bound c.literals j (signed p.taker.positive before.0) before.1 in
    let inner = was_there n (subterm_at path before.0) p.inner (sym (place_raised n path before.0) ∙ ap (subterm_at path) (sym before.2) ∙ p.there) in
    let equal : applied both p.side ≡ applied both p.inner = only_term (applied both p.side) (applied both p.inner)
    (sym (ap (λ (i : Inference). map (applied both) i.left) p.is) ∙ f.equal ∙ ap (λ (i : Inference). map (applied both) i.right) p.is) in
    let matched : applied s p.side ≡ inner.0 =
    sym (on_equation e c s covers p.side (omega (arith, low.0, inside))) ∙ equal ∙ ap (applied both) inner.2
    ∙ on_raised e c s covers inner.0 (omega (arith, place_bound path before.0 inner.0 inner.1, below)) in
    record {
      equation = p.equation;
      side = p.side;
      other = p.other;
      taker = signed p.taker.positive before.0;
      changed = atom_changed (applied both) p.changed;
      one = only_literal e.literals (signed true p.equation) w.one p.giver;
      sides = p.sides;
      covers = covers;
      literal = before.1;
      there = inner.1 ∙ ap Some (sym matched);
      becomes = replaced_in_place e c s covers path p.other before.0 p.changed (omega (arith, low.1, inside)) below (ap (replaced_at path p.other) (sym before.2) ∙ p.becomes);
      rest = f.literals ∙ ap (λ (i : Inference). literals_changed (applied both) i.conclusion) p.is ∙ rewritten_in_place e c s covers j p.taker.positive p.changed w.one;
    }

from_rewrites : (e : Clause) (z : ℕ) (c : Clause) (j : ℕ) (path : List ℕ) (s : List Term) (result : Clause) → Rewrites e z c j path s result →
    FollowsBy (IsRewriting e z c j path) (s ++ themselves c) result
from_rewrites e z c j path s result w =
    let n = variable_bound_of e in
    let both = with_own s c in
    let giver : slice_get e.literals 0 ≡ Some (signed true w.equation) = ap (λ (ls : List Literal). slice_get ls 0) w.one in
    let one : length e.literals ≡ 1 = ap length w.one in
    let inside = literal_bound e.literals 0 (signed true w.equation) giver in
    let low = side_bounds z w.equation w.side w.other w.sides in
    let below : atom_bound w.taker.atom ≤ variable_bound_of c = literal_bound c.literals j w.taker w.literal in
    let there : subterm_at path (atom_changed (raised n) w.taker.atom) ≡ Some (raised n (applied s w.side)) =
    place_raised n path w.taker.atom ∙ ap (option_map (raised n)) w.there in
    let new = can_replace path w.other (raised n (applied s w.side)) (atom_changed (raised n) w.taker.atom) there in
    let after : atom_changed (applied both) new.0 ≡ w.changed = same_Some (atom_changed (applied both) new.0) w.changed
    (sym (replaced_in_place e c s w.covers path w.other w.taker.atom new.0 (omega (arith, low.1, inside)) below new.1) ∙ w.becomes) in (
      record {
        variables = both_bounds e c;
        left = w.side ∷ [];
        right = raised n (applied s w.side) ∷ [];
        conclusion = remove e.literals 0 ++ slice_set (apart e c).literals j (signed w.taker.positive new.0);
      },
      record {
        one = one;
        into = record {
          equation = w.equation;
          side = w.side;
          other = w.other;
          taker = literal_changed (raised n) w.taker;
          inner = raised n (applied s w.side);
          changed = new.0;
          giver = giver;
          sides = w.sides;
          literal = apart_get e c j ∙ ap (option_map (literal_changed (raised n))) w.literal;
          there = there;
          becomes = new.1;
          is = refl;
        };
      },
      record {
        covers = covers_both e c s w.covers;
        equal = ap (λ (t : Term). t ∷ []) (on_equation e c s w.covers w.side (omega (arith, low.0, inside))
            ∙ sym (on_raised e c s w.covers (applied s w.side) (omega (arith, place_bound path w.taker.atom (applied s w.side) w.there, below))));
        literals = w.rest ∙ ap (λ (a : Atom). slice_set c.literals j (signed w.taker.positive a)) (sym after)
            ∙ sym (rewritten_in_place e c s w.covers j w.taker.positive new.0 one);
      },
    )

pub rewritings_are_in_place : RewritingsAreInPlace
rewritings_are_in_place e z c j path s result = (
  (λ f. to_rewrites e z c j path s result f.0 f.1 f.2),
  (λ w. from_rewrites e z c j path s result w),
)

-- ---- taken back

only_true : (b : Bool) → list_any (λ (t : Bool). t) (b ∷ []) ≡ true → b ≡ true
only_true true h = refl
only_true false h = absurd cc

-- at each point a rewritten clause is as true as before
rewriting_agrees : (i : Interp) (e : Clause) (z : ℕ) (c : Clause) (j : ℕ) (path : List ℕ) (s : List Term) (result : Clause) → IsInterp i → Holds i e →
    Rewrites e z c j path s result → (point : Point) → IsPoint i point →
    list_any (literal_true i point) result.literals ≡ list_any (literal_true i point) c.literals
rewriting_agrees i e z c j path s result is at_e r point within =
    let g : ℕ → Term = value_of s in
    let test = literal_true i point in
    let new = signed r.taker.positive r.changed in
    let holds : list_any (literal_true i (moved i g point)) e.literals ≡ true = at_e.at_each (moved i g point) (λ k. value_below i point is within (g k)) in
    let here : atom_true i (moved i g point) r.equation ≡ true =
    only_true (atom_true i (moved i g point) r.equation) (sym (ap (list_any (literal_true i (moved i g point))) r.one) ∙ holds) in
    let one : value i point (applied s r.other) ≡ value i point (applied s r.side) =
    value-substituted i g point r.other ∙ sides_true i (moved i g point) z r.equation r.side r.other r.sides here ∙ sym (value-substituted i g point r.side) in
    let as_true = replaced_true i point path (applied s r.other) (applied s r.side) r.taker.atom r.changed r.there r.becomes one in
    ap (list_any test) r.rest ∙ any_set test c.literals j r.taker new r.literal (signed_true i point r.taker.positive r.taker.atom r.changed as_true)

pub rewritings_are_reversible : RewritingsAreReversible
rewritings_are_reversible i e z c j path s result is f at_e at_result =
    let w = to_rewrites e z c j path s result f.0 f.1 f.2 in
    record { at_each = λ point within. sym (rewriting_agrees i e z c j path s result is at_e w point within) ∙ at_result.at_each point within }

-- the clause before a step, where the step changes it
back_one : (i : Interp) (o : Option Clause) (P : Clause → Type 0) → OfOne o P → ((c : Clause) → P c → Holds i c) → HoldsIfAny i o
back_one i None P ok then = absurd ok
back_one i (Some c) P ok then = then c ok

back_two : (i : Interp) (o u : Option Clause) (P : Clause → Clause → Type 0) → OfTwo o u P → HoldsIfAny i o → ((e c : Clause) → P e c → Holds i e → Holds i c) → HoldsIfAny i u
back_two i None u P ok h then = absurd ok
back_two i (Some e) None P ok h then = absurd ok
back_two i (Some e) (Some c) P ok h then = then e c ok h

pub steps_are_reversible : StepsAreReversible
steps_are_reversible i (Input index) current first second result is on at_first at_second ok h = absurd (let no : false ≡ true = on in cc)
steps_are_reversible i (Copy of) current first second result is on at_first at_second ok h = absurd (let no : false ≡ true = on in cc)
steps_are_reversible i (Resolve pos m neg n s) current first second result is on at_first at_second ok h = absurd (let no : false ≡ true = on in cc)
steps_are_reversible i (Factor of m n s) current first second result is on at_first at_second ok h = absurd (let no : false ≡ true = on in cc)
steps_are_reversible i (Refl of m s) current first second result is on at_first at_second ok h = absurd (let no : false ≡ true = on in cc)
steps_are_reversible i (EqFac of m x n y s) current first second result is on at_first at_second ok h = absurd (let no : false ≡ true = on in cc)
steps_are_reversible i (Para giver m x taker n path s) current first second result is on at_first at_second ok h = absurd (let no : false ≡ true = on in cc)
steps_are_reversible i (Rewrite by z j path s) current first second result is on at_first at_second ok h =
    back_two i first current (λ e c. FollowsBy (IsRewriting e z c j path) (s ++ themselves c) result) ok at_first
    (λ e c f at_e. rewritings_are_reversible i e z c j path s result is f at_e h)
steps_are_reversible i Tidy current first second result is on at_first at_second ok h =
    back_one i current (λ c. IsTidied c result) ok (λ c t. (tidy_holds i c result is t).1 h)
