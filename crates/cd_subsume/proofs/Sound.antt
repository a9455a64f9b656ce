-- What a subsumer implies.
use Rattle.std.proofs.Common.{◌≡◌, ℕ, zero, suc, Bool, true, false, not, inl, inr, List, [], ◌∷◌, map, ap, refl, sym, ◌∙◌, arith, Some, slice_get, nat_eq, if◌then◌else◌}
use Rattle.std.specs.List.{list_any}
use Rattle.std.proofs.lemmas.Bool.{or_cases, or_left, or_right, eqb-true}
use Rattle.cd_list.proofs.Numbers.{equal_itself}
use Rattle.cd_term.specs.declared.Term.{Term}
use Rattle.cd_term.specs.Terms.{substituted}
use Rattle.cd_clause.specs.declared.Atom.{Atom}
use Rattle.cd_clause.specs.declared.Atom.TheVariants.{Truth, Pred, Equal}
use Rattle.cd_clause.specs.declared.Literal.{Literal}
use Rattle.cd_clause.specs.declared.Clause.{Clause}
use Rattle.cd_clause.specs.Clauses.{atom_changed, literal_changed}
use Rattle.cd_clause.specs.Truth.{Interp, IsInterp, Point, value, atom_true, literal_true, Holds}
use Rattle.cd_clause.proofs.SoundnessLemmas.{instance_holds}
use Rattle.cd_subsume.proofs.Items.{get_within, get_some}
use Rattle.cd_subsume.specs.declared.picks.Pick.{Pick}
use Rattle.cd_subsume.specs.Subsumption.{IsTurned, IsPicked, ArePicked, Subsumes}

any_some : (p : Literal → Bool) (f : Literal → Literal) (ls : List Literal) → list_any p (map f ls) ≡ true →
    (k : ℕ) × (l : Literal) × (slice_get ls k ≡ Some l) × (p (f l) ≡ true)
any_some p f [] e = absurd (cc)
any_some p f (l ∷ ls) e = elim (or_cases (p (f l)) (list_any p (map f ls)) e) [
  | inl here ↦ (0, l, refl, here)
  | inr there ↦ let r = any_some p f ls there in (suc r.0, r.1, r.2, r.3)
]

any_here : (p : Literal → Bool) (ls : List Literal) (k : ℕ) (l : Literal) → slice_get ls k ≡ Some l → p l ≡ true → list_any p ls ≡ true
any_here p [] k l at yes_ = absurd (cc)
any_here p (m ∷ ls) zero l at yes_ =
    let same : m ≡ l = cc in or_left (p m) (list_any p ls) (ap p same ∙ yes_)
any_here p (m ∷ ls) (suc k) l at yes_ = or_right (p m) (list_any p ls) (any_here p ls k l at yes_)

turned_cases : (m n : ℕ) (b c : Bool) → nat_eq m n ≡ b → nat_eq n m ≡ c → b ≡ c
turned_cases m n true true e f = refl
turned_cases m n false false e f = refl
turned_cases m n true false e f =
    let same : m ≡ n = eqb-true m n e in
    let both : true ≡ false = sym (equal_itself n) ∙ ap (nat_eq n) (sym same) ∙ f in absurd (cc)
turned_cases m n false true e f =
    let same : n ≡ m = eqb-true n m f in
    let both : true ≡ false = sym (equal_itself m) ∙ ap (nat_eq m) (sym same) ∙ e in absurd (cc)

equal_turned : (m n : ℕ) → nat_eq m n ≡ nat_eq n m
equal_turned m n = turned_cases m n (nat_eq m n) (nat_eq n m) refl refl

turned_true : (i : Interp) (point : Point) (e : Bool) (a b : Atom) → IsTurned e a b → atom_true i point a ≡ atom_true i point b
turned_true i point false a b is = ap (atom_true i point) is
turned_true i point true Truth b is = absurd is
turned_true i point true (Pred p args) b is = absurd is
turned_true i point true (Equal s t) b is = equal_turned (value i point s) (value i point t) ∙ ap (atom_true i point) is

picked_true : (i : Interp) (point : Point) (g : ℕ → Term) (l : Literal) (ms : List Literal) (p : Pick) (picked : IsPicked g l ms p) →
    literal_true i point (literal_changed (substituted g) l) ≡ literal_true i point picked.literal
picked_true i point g l ms p picked =
    ap (λ b. if b then atom_true i point (atom_changed (substituted g) l.atom) else not (atom_true i point (atom_changed (substituted g) l.atom))) picked.sign
    ∙ ap (λ t. if picked.literal.positive then t else not t)
    (turned_true i point p.is_exchanged (atom_changed (substituted g) l.atom) picked.literal.atom picked.atom)

subsumed_true : (i : Interp) (point : Point) (g : ℕ → Term) (ls ms : List Literal) (picks : List Pick) → ArePicked g ls ms picks →
    list_any (literal_true i point) (map (literal_changed (substituted g)) ls) ≡ true → list_any (literal_true i point) ms ≡ true
subsumed_true i point g ls ms picks are e =
    let some = any_some (literal_true i point) (literal_changed (substituted g)) ls e in
    let pick = get_some picks some.0 (omega (arith, are.as_many, get_within ls some.0 some.1 some.2)) in
    let picked = are.each some.0 some.1 pick.0 some.2 pick.1 in
    any_here (literal_true i point) ms pick.0.place picked.literal picked.place (sym (picked_true i point g some.1 ms pick.0 picked) ∙ some.3)

-- what subsumes a clause implies it
pub subsumes_holds : (i : Interp) (d c : Clause) → IsInterp i → Subsumes d c → Holds i d → Holds i c
subsumes_holds i d c ok by h = record {
  at_each = λ point p. subsumed_true i point by.0 d.literals c.literals by.1.0 by.1.1
      ((instance_holds i by.0 d ok h).at_each point p);
}
