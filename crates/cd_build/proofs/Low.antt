-- What a right step gives of clauses with few variables has few.
use Rattle.std.proofs.Common.{◌≡◌, ℕ, zero, suc, ◌+◌, ◌<◌, ◌≤◌, max, List, [], ◌∷◌, ◌++◌, length, map, ap, ◌∙◌, arith}
use Rattle.std.specs.Prelude.{slice_get, unwrap_or}
use Rattle.std.specs.List.{range_with_len}
use Rattle.std.proofs.lemmas.List.{map-append}
use Rattle.cd_term.specs.declared.Term.{Term}
use Rattle.cd_term.specs.declared.Term.TheVariants.{Var}
use Rattle.cd_term.specs.Terms.{applied, bound_of, greatest}
use Rattle.cd_term.proofs.TermInduction.{ind}
use Rattle.cd_term.proofs.TermInduction as induction
use Rattle.cd_term.proofs.Equations.{applied-Var, applied-App, bound_of-Var, bound_of-App}
use Rattle.cd_term.proofs.Measures.{greatest-append}
use Rattle.cd_clause.specs.declared.Clause.{Clause}
use Rattle.cd_clause.specs.Clauses.{clause_terms, variable_bound_of, IsTidied, IsWithinBounds}
use Rattle.cd_clause.proofs.TidiedLemmas.{changed_terms}
use Rattle.cd_clause.proofs.TidyForms.{tidy_forms_are_tidy}
use Rattle.cd_infer.proofs.Usable.{tidy_clauses_are_usable}
use Rattle.cd_steps.specs.Laws.{AreBounded}
use Rattle.cd_steps.specs.Rules.{Inference, FollowsBy}
use Rattle.cd_steps.specs.Steps.{themselves}

-- ---- substitutions

value_low : (s : List Term) (k : ℕ) (d : Term) → k < length s → bound_of (unwrap_or (slice_get s k) d) ≤ greatest (map bound_of s)
value_low [] k d small = absurd (omega arith)
value_low (t ∷ s) zero d small = omega arith
value_low (t ∷ s) (suc k) d small = let rest = value_low s k d (omega arith) in omega (arith, rest)

module _ (s : List Term) (n : ℕ) (low : greatest (map bound_of s) ≤ n) where
  abbrev IsChangedLow : Term → Type 0
  IsChangedLow t = bound_of t ≤ length s → bound_of (applied s t) ≤ n

  all_changed : (ts : List Term) → induction.Each IsChangedLow ts → greatest (map bound_of ts) ≤ length s → greatest (map bound_of (map (applied s) ts)) ≤ n
  all_changed [] each covered = omega arith
  all_changed (t ∷ ts) each covered = omega (arith, each.0 (omega (arith, covered)), all_changed ts each.1 (omega (arith, covered)))

  term_changed : (t : Term) → IsChangedLow t
  term_changed = ind IsChangedLow
      (λ k covered. omega (arith, ap bound_of (applied-Var s k), value_low s k (Var k) (omega (arith, covered, bound_of-Var k)), low))
      (λ f ts each covered. omega (arith, ap bound_of (applied-App s f ts), bound_of-App f (map (applied s) ts), all_changed ts each (omega (arith, covered, bound_of-App f ts))))

  terms_changed : (ts : List Term) → greatest (map bound_of ts) ≤ length s → greatest (map bound_of (map (applied s) ts)) ≤ n
  terms_changed [] covered = omega arith
  terms_changed (t ∷ ts) covered = omega (arith, term_changed t (omega (arith, covered)), terms_changed ts (omega (arith, covered)))

-- ---- rules

pub follows_low : (Rule : Inference → Type 0) (s : List Term) (n : ℕ) (c : Clause) → AreBounded Rule → FollowsBy Rule s c → greatest (map bound_of s) ≤ n → variable_bound_of c ≤ n
follows_low Rule s n c bounded f low =
    let covered : greatest (map bound_of (clause_terms f.0.conclusion)) ≤ length s = omega (arith, (bounded f.0 f.1).conclusion, f.2.covers) in
    let terms : clause_terms c.literals ≡ map (applied s) (clause_terms f.0.conclusion) = ap clause_terms f.2.literals ∙ changed_terms (applied s) f.0.conclusion in
    omega (arith, ap (λ (ts : List Term). greatest (map bound_of ts)) terms, terms_changed s n low (clause_terms f.0.conclusion) covered)

own_low : (a n : ℕ) → greatest (map bound_of (map Var (range_with_len a n))) ≤ a + n
own_low a zero = omega arith
own_low a (suc n) = omega (arith, bound_of-Var a, own_low (a + 1) n)

-- a substitution with the variables of a clause as their own values
pub beside_low : (s : List Term) (c : Clause) (n : ℕ) → greatest (map bound_of s) ≤ n → variable_bound_of c ≤ n → greatest (map bound_of (s ++ themselves c)) ≤ n
beside_low s c n low few =
    let split : greatest (map bound_of (s ++ themselves c)) ≡ max (greatest (map bound_of s)) (greatest (map bound_of (themselves c))) =
    ap greatest (map-append bound_of s (themselves c)) ∙ greatest-append (map bound_of s) (map bound_of (themselves c)) in
    omega (arith, split, low, few, own_low 0 (variable_bound_of c))

-- ---- tidying

pub tidied_low : (c d : Clause) → IsTidied c d → IsWithinBounds d → variable_bound_of d ≤ 65536
tidied_low c d t within = omega (arith, (tidy_clauses_are_usable d (tidy_forms_are_tidy c d t) within).few)
