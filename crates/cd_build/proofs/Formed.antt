-- What is fit and has few variables is formed, and what is formed has few variables.
use Rattle.std.proofs.Common.{◌≡◌, ℕ, ◌≤◌, Bool, true, List, [], ◌∷◌, length, map, refl, sym, ◌∙◌, arith}
use Rattle.std.specs.Prelude.{nat_lt, slice_get}
use Rattle.std.specs.List.{AllByRecursion as Each, list_all}
use Rattle.std.proofs.lemmas.Bool.{and_from, and_parts, lt-ltb, ltb-true}
use Rattle.cd_term.specs.declared.Term.{Term}
use Rattle.cd_term.specs.declared.Term.TheVariants.{Var}
use Rattle.cd_term.specs.Symbols.{AreOver, is_over}
use Rattle.cd_term.specs.Terms.{bound_of, greatest}
use Rattle.cd_term.proofs.TermInduction.{ind}
use Rattle.cd_term.proofs.TermInduction as induction
use Rattle.cd_term.proofs.Equations.{fold-Var, bound_of-Var, bound_of-App}
use Rattle.cd_term.proofs.OverLemmas.{parts_over}
use Rattle.cd_clause.specs.declared.Atom.{Atom}
use Rattle.cd_clause.specs.declared.Atom.TheVariants.{Truth, Pred, Equal}
use Rattle.cd_clause.specs.declared.Clause.{Clause}
use Rattle.cd_clause.specs.declared.Literal.{Literal}
use Rattle.cd_clause.specs.Clauses.{variable_bound_of}
use Rattle.cd_clause.specs.Over.{AtomOver, LiteralsOver}
use Rattle.cd_machine.specs.Rules.{symbols_of, IsFit, IsSubstFit}
use Rattle.cd_premises.proofs.Formed.{formed-App}
use Rattle.cd_read.specs.declared.problem.Problem.{Problem}
use Rattle.cd_read.specs.Formed.{formed_step, is_term_formed, is_function, AreTermsFormed, IsAtomFormed, IsClauseFormed}
use Rattle.cd_steps.proofs.Bounding.{atom_bound, literals_bound, bound_cons}
use Rattle.cd_text.specs.Formed.{IsSubstFormed}

module _ (p : Problem) where
  formed-Var : (n : ℕ) → is_term_formed p.symbols (Var n) ≡ nat_lt n 65536
  formed-Var n = fold-Var Bool (formed_step p.symbols) n

  -- ---- fit, with few variables

  abbrev BeFormed : Term → Type 0
  BeFormed t = is_over (symbols_of p) t ≡ true → bound_of t ≤ 65536 → is_term_formed p.symbols t ≡ true

  all_formed : (ts : List Term) → induction.Each BeFormed ts → AreOver (symbols_of p) ts → greatest (map bound_of ts) ≤ 65536 → list_all (λ (b : Bool). b) (map (is_term_formed p.symbols) ts) ≡ true
  all_formed [] each over low = refl
  all_formed (t ∷ ts) each over low =
      and_from (is_term_formed p.symbols t) (list_all (λ (b : Bool). b) (map (is_term_formed p.symbols) ts)) (each.0 over.0 (omega (arith, low))) (all_formed ts each.1 over.1 (omega (arith, low)))

  term_formed : (t : Term) → BeFormed t
  term_formed = ind BeFormed
      (λ n over low. formed-Var n ∙ lt-ltb n 65536 (omega (arith, low, bound_of-Var n)))
      (λ f ts each over low. (let parts = parts_over (symbols_of p) f ts over in
      formed-App p f ts
      ∙ and_from (is_function (length ts) (slice_get p.symbols f)) (list_all (λ (b : Bool). b) (map (is_term_formed p.symbols) ts)) parts.0 (all_formed ts each parts.1 (omega (arith, low, bound_of-App f ts)))))

  terms_formed : (ts : List Term) → AreOver (symbols_of p) ts → greatest (map bound_of ts) ≤ 65536 → AreTermsFormed p.symbols ts
  terms_formed [] over low = tt
  terms_formed (t ∷ ts) over low = (term_formed t over.0 (omega (arith, low)), terms_formed ts over.1 (omega (arith, low)))

  atom_formed : (a : Atom) → AtomOver (symbols_of p) a → atom_bound a ≤ 65536 → IsAtomFormed p.symbols a
  atom_formed Truth over low = tt
  atom_formed (Pred n args) over low = (over.0, terms_formed args over.1 low)
  atom_formed (Equal s t) over low = terms_formed (s ∷ t ∷ []) over low

  literals_formed : (ls : List Literal) → LiteralsOver (symbols_of p) ls → literals_bound ls ≤ 65536 → Each (λ l. IsAtomFormed p.symbols l.atom) ls
  literals_formed [] over low = tt
  literals_formed (l ∷ ls) over low =
      let split = bound_cons l ls in
      (atom_formed l.atom over.0 (omega (arith, low, split)), literals_formed ls over.1 (omega (arith, low, split)))

  pub clause_formed : (c : Clause) → IsFit p c → variable_bound_of c ≤ 65536 → IsClauseFormed p.symbols c
  clause_formed c fit low = literals_formed c.literals fit.over low

  pub subst_formed : (s : List Term) → IsSubstFit p s → IsSubstFormed p.symbols s
  subst_formed s fit = record { terms = terms_formed s fit.over fit.within.1; bounds = fit.within.0 }

  -- ---- formed

  abbrev HasFew : Term → Type 0
  HasFew t = is_term_formed p.symbols t ≡ true → bound_of t ≤ 65536

  all_few : (ts : List Term) → induction.Each HasFew ts → list_all (λ (b : Bool). b) (map (is_term_formed p.symbols) ts) ≡ true → greatest (map bound_of ts) ≤ 65536
  all_few [] each formed = omega arith
  all_few (t ∷ ts) each formed =
      let parts = and_parts (is_term_formed p.symbols t) (list_all (λ (b : Bool). b) (map (is_term_formed p.symbols) ts)) formed in
      omega (arith, each.0 parts.0, all_few ts each.1 parts.1)

  term_few : (t : Term) → HasFew t
  term_few = ind HasFew
      (λ n formed. omega (arith, bound_of-Var n, ltb-true n 65536 (sym (formed-Var n) ∙ formed)))
      (λ f ts each formed. (let parts = and_parts (is_function (length ts) (slice_get p.symbols f)) (list_all (λ (b : Bool). b) (map (is_term_formed p.symbols) ts)) (sym (formed-App p f ts) ∙ formed) in
      omega (arith, bound_of-App f ts, all_few ts each parts.1)))

  terms_few : (ts : List Term) → AreTermsFormed p.symbols ts → greatest (map bound_of ts) ≤ 65536
  terms_few [] formed = omega arith
  terms_few (t ∷ ts) formed = omega (arith, term_few t formed.0, terms_few ts formed.1)

  atom_few : (a : Atom) → IsAtomFormed p.symbols a → atom_bound a ≤ 65536
  atom_few Truth formed = omega arith
  atom_few (Pred n args) formed = terms_few args formed.1
  atom_few (Equal s t) formed = terms_few (s ∷ t ∷ []) formed

  literals_few : (ls : List Literal) → Each (λ l. IsAtomFormed p.symbols l.atom) ls → literals_bound ls ≤ 65536
  literals_few [] formed = omega arith
  literals_few (l ∷ ls) formed = omega (arith, bound_cons l ls, atom_few l.atom formed.0, literals_few ls formed.1)

  pub clause_few : (c : Clause) → IsClauseFormed p.symbols c → variable_bound_of c ≤ 65536
  clause_few c formed = literals_few c.literals formed
