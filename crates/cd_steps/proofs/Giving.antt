-- What a draft gives with a substitution, measured and within bounds.
use Rattle.std.specs.Borrow.{Bor}
use Rattle.std.proofs.Common.{◌≡◌, ◌↔◌, ℕ, ◌+◌, ◌-◌, ◌≤◌, Bool, List, [], ◌∷◌, ◌++◌, length, map, drop, sum_by, Option, Some, None, Result, Ok, Err, ap, ◌∙◌, sym, subst, refl, arith}
use Rattle.std.proofs.lemmas.List.Sums.{sum_by-cons}
use Rattle.cd_term.specs.declared.Term.{Term}
use Rattle.cd_term.specs.declared.TermFault.{TermFault}
use Rattle.cd_term.specs.declared.TermFault.TheVariants.{OutOfBounds, Memory}
use Rattle.cd_term.specs.Terms.{applied}
use Rattle.cd_clause.specs.declared.Atom.{Atom}
use Rattle.cd_clause.specs.declared.Literal.{Literal}
use Rattle.cd_clause.specs.declared.Clause.{Clause}
use Rattle.cd_clause.specs.Clauses.{literal_size, IsAtomMeasure, AreLiteralsWithin, AreLiteralsMeasured, IsTidied}
use Rattle.cd_clause.specs.Places.{signed, IsAtomMeasureOf}
use Rattle.cd_clause.proofs.JoinLemmas.{first_outside, second_outside, both_measured}
use Rattle.cd_clause.proofs.TidyForms.{tidy_forms_exist}
use Rattle.cd_steps.specs.declared.drafts.Draft.{Draft}
use Rattle.cd_steps.specs.declared.drafts.Plan.{Plan}
use Rattle.cd_steps.specs.declared.drafts.Plan.TheVariants as plan
use Rattle.cd_steps.specs.Bounds.{AnswersGiven, IsSubstWithin, IsStepWithin}
use Rattle.cd_steps.specs.Drafts.{literal_of, concluded_under, GivenBy, IsPlan}

-- ---- measures

one_size : (l : Literal) → sum_by literal_size (l ∷ []) ≡ literal_size l
one_size l = omega (arith, sum_by-cons literal_size l [])

-- one literal measures what its atom does
literal_measured : (symbols levels : ℕ) (sign : Bool) (a : Atom) (o : Option ℕ) → IsAtomMeasure symbols levels a o → AreLiteralsMeasured symbols levels (signed sign a ∷ []) o
literal_measured symbols levels sign a None m = λ w. m (omega (arith, one_size (signed sign a), w.0), omega (arith, w.1))
literal_measured symbols levels sign a (Some n) m = (
  omega (arith, one_size (signed sign a), m.0),
  (omega (arith, one_size (signed sign a), m.1.0), omega (arith, m.1.1)),
)

none_measured : (symbols levels : ℕ) → AreLiteralsMeasured symbols levels [] (Some 0)
none_measured symbols levels = (refl, (omega arith, omega arith))

pub measured_as : (symbols levels : ℕ) (ls ks : List Literal) (o : Option ℕ) → ks ≡ ls → AreLiteralsMeasured symbols levels ls o → AreLiteralsMeasured symbols levels ks o
measured_as symbols levels ls ks o is m = subst (λ (x : List Literal). AreLiteralsMeasured symbols levels x o) (sym is) m

-- a part with a replacement
pub replaced_measured : (symbols levels : ℕ) (sign : Bool) (a : Option Atom) (o : Option ℕ) → (a ≡ None → ⊥) → IsAtomMeasureOf symbols levels a o → AreLiteralsMeasured symbols levels (literal_of sign a) o
replaced_measured symbols levels sign None o there m = absurd (there refl)
replaced_measured symbols levels sign (Some a) o there m = literal_measured symbols levels sign a o m

pub absent_measured : (symbols levels : ℕ) (sign : Bool) (a : Option Atom) → a ≡ None → AreLiteralsMeasured symbols levels (literal_of sign a) (Some 0)
absent_measured symbols levels sign a out = measured_as symbols levels [] (literal_of sign a) (Some 0) (ap (literal_of sign) out) (none_measured symbols levels)

-- one part more
pub more_before : (ls ms : List Literal) (o : Option ℕ) → o ≡ None → AreLiteralsMeasured 65535 1000 ls o → AreLiteralsMeasured 65535 1000 (ls ++ ms) None
more_before ls ms o is m = first_outside 65535 1000 ls ms (ls ++ ms) (subst (λ (p : Option ℕ). AreLiteralsMeasured 65535 1000 ls p) is m) refl

pub more_outside : (ls ms : List Literal) (o : Option ℕ) (total room : ℕ) → o ≡ Some total → room ≡ 65535 - total → ¬ AreLiteralsWithin room 1000 ms →
    AreLiteralsMeasured 65535 1000 ls o → AreLiteralsMeasured 65535 1000 (ls ++ ms) None
more_outside ls ms o total room is left out m =
    second_outside 65535 1000 total ls ms (ls ++ ms) (subst (λ (p : Option ℕ). AreLiteralsMeasured 65535 1000 ls p) is m)
    (subst (λ (n : ℕ). ¬ AreLiteralsWithin n 1000 ms) left out) refl

pub more_measured : (ls ms : List Literal) (o : Option ℕ) (total room more sum : ℕ) → o ≡ Some total → room ≡ 65535 - total → AreLiteralsMeasured room 1000 ms (Some more) →
    (total + more ≤ 65535 → sum ≡ total + more) → AreLiteralsMeasured 65535 1000 ls o → AreLiteralsMeasured 65535 1000 (ls ++ ms) (Some sum)
more_measured ls ms o total room more sum is left w added m =
    let n = subst (λ (p : Option ℕ). AreLiteralsMeasured 65535 1000 ls p) is m in
    let k = subst (λ (q : ℕ). AreLiteralsMeasured q 1000 ms (Some more)) left w in
    let small : total + more ≤ 65535 = omega (arith, n.0, n.1.0, k.0, k.1.0) in
    subst (λ (q : ℕ). AreLiteralsMeasured 65535 1000 (ls ++ ms) (Some q)) (sym (added small)) (both_measured 65535 1000 total more ls ms (ls ++ ms) n k refl)

-- all parts
abbrev pub Measures : List Literal → Option ℕ → Option ℕ → Type 0
Measures part before after = (ls : List Literal) → AreLiteralsMeasured 65535 1000 ls before → AreLiteralsMeasured 65535 1000 (ls ++ part) after

pub five_measured : (a b c d e : List Literal) (p q r t u : Option ℕ) → Measures a (Some 0) p → Measures b p q → Measures c q r → Measures d r t → Measures e t u →
    AreLiteralsMeasured 65535 1000 (a ++ b ++ c ++ d ++ e) u
five_measured a b c d e p q r t u one two three four five =
    five (a ++ b ++ c ++ d) (four (a ++ b ++ c) (three (a ++ b) (two a (one [] (none_measured 65535 1000)))))

-- ---- what is given

-- the clause that a draft gives
pub clause_given : (d : Draft) (s r : List Term) (ls : List Literal) → r ≡ drop d.up s → length s ≡ d.up + d.more →
    map (applied s) d.left.now ≡ map (applied r) d.right.now → ls ≡ concluded_under s r d → GivenBy d s (record { literals = ls })
clause_given d s r ls is covers equal concluded = record {
  covers = covers;
  equal = equal ∙ ap (λ (u : List Term). map (applied u) d.right.now) is;
  literals = concluded ∙ ap (λ (u : List Term). concluded_under s u d) is;
}

-- a clause that is right, out of bounds itself or by its substitution
pub subst_outside : (P : Clause → Type 0) (s : List Term) (c : Clause) → P c → (IsSubstWithin s → ⊥) → (d : Clause) × P d × (IsStepWithin s d → ⊥)
subst_outside P s c right out = (c, right, (λ fine. out fine.0))

pub clause_outside : (P : Clause → Type 0) (s : List Term) (c : Clause) → P c → ¬ AreLiteralsWithin 65535 1000 c.literals → (d : Clause) × P d × (IsStepWithin s d → ⊥)
clause_outside P s c right out = (c, right, (λ fine. out fine.1))

-- ---- tidy forms

no_terms : IsSubstWithin []
no_terms = ((omega arith, omega arith), omega arith)

pub tidied_outside : (c : Clause) → ((d : Clause) → IsTidied c d → AreLiteralsMeasured 65535 1000 d.literals None) → (d : Clause) × IsTidied c d × (IsStepWithin [] d → ⊥)
tidied_outside c out = let t = tidy_forms_exist c in (t.0, t.1, (λ fine. out t.0 t.1 fine.1))

-- ---- plans

-- the same clauses are right
answers_as : (P Q F : Clause → Type 0) (r : Result (Option Clause) TermFault) → ((c : Clause) → P c ↔ Q c) → AnswersGiven Q F r → AnswersGiven P F r
answers_as P Q F (Ok None) same given = λ c p. given c ((same c).0 p)
answers_as P Q F (Ok (Some c)) same given = ((same c).1 given.0, given.1)
answers_as P Q F (Err OutOfBounds) same given = (given.0, (same given.0).1 given.1, given.2)
answers_as P Q F (Err Memory) same given = tt

pub plan_followed : (P : Clause → Type 0) (s u : List Term) (p : Plan) (d : Draft) (r : Result (Option Clause) TermFault) → p ≡ plan.Follows d → u ≡ s → IsPlan P s p →
    AnswersGiven (GivenBy d u) (IsStepWithin u) r → AnswersGiven P (IsStepWithin s) r
plan_followed P s u p d r is same made given =
    answers_as P (GivenBy d s) (IsStepWithin s) r (subst (IsPlan P s) is made)
    (subst (λ (v : List Term). AnswersGiven (GivenBy d v) (IsStepWithin v) r) same given)

pub plan_tidied : (P : Clause → Type 0) (s : List Term) (p : Plan) (b : Bor Clause) (r : Result (Option Clause) TermFault) → p ≡ plan.Tidies b → s ≡ [] → IsPlan P s p →
    AnswersGiven (IsTidied b.now) (IsStepWithin []) r → AnswersGiven P (IsStepWithin s) r
plan_tidied P s p b r is none made given =
    answers_as P (IsTidied b.now) (IsStepWithin s) r (subst (IsPlan P s) is made)
    (subst (λ (v : List Term). AnswersGiven (IsTidied b.now) (IsStepWithin v) r) (sym none) given)
