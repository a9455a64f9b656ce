-- The inputs of a problem that is formed and within bounds are fit.
use Rattle.std.proofs.Common.{◌≡◌, ℕ, Bool, true, ◌&&◌, List, [], ◌∷◌, length, map, ap, sym, ◌∙◌}
use Rattle.std.specs.Prelude.{slice_get}
use Rattle.std.specs.List.{list_all}
use Rattle.std.specs.List.{AllByRecursion as Each}
use Rattle.std.proofs.lemmas.Bool.{and_parts}
use Rattle.std.proofs.lemmas.List.{length-map}
use Rattle.cd_term.specs.declared.Term.{Term}
use Rattle.cd_term.specs.declared.Term.TheVariants.{App}
use Rattle.cd_term.specs.Symbols.{AreOver, is_over}
use Rattle.cd_term.proofs.TermInduction.{ind}
use Rattle.cd_term.proofs.TermInduction as induction
use Rattle.cd_term.proofs.Equations.{fold-App}
use Rattle.cd_term.proofs.OverLemmas.{over-Var, whole_over}
use Rattle.cd_clause.specs.declared.Atom.{Atom}
use Rattle.cd_clause.specs.declared.Atom.TheVariants.{Truth, Pred, Equal}
use Rattle.cd_clause.specs.declared.Literal.{Literal}
use Rattle.cd_clause.specs.Over.{AtomOver, LiteralsOver}
use Rattle.cd_clause.specs.Clauses.{IsWithinBounds}
use Rattle.cd_read.specs.declared.problem.Problem.{Problem}
use Rattle.cd_read.specs.declared.problem.Input.{Input}
use Rattle.cd_read.specs.Formed.{formed_step, is_term_formed, is_function, AreTermsFormed, IsAtomFormed, IsInputFormed}
use Rattle.cd_machine.specs.Rules.{symbols_of, IsFit}
use Rattle.cd_premises.specs.Meets.{FormedInputsFit}

module _ (p : Problem) where
  pub formed-App : (f : ℕ) (ts : List Term) → is_term_formed p.symbols (App f ts) ≡ (is_function (length ts) (slice_get p.symbols f) && list_all (λ b. b) (map (is_term_formed p.symbols) ts))
  formed-App f ts = fold-App Bool (formed_step p.symbols) f ts
      ∙ ap (λ n. is_function n (slice_get p.symbols f) && list_all (λ (b : Bool). b) (map (is_term_formed p.symbols) ts)) (length-map ts (is_term_formed p.symbols))

  abbrev Both : Term → Type 0
  Both t = is_term_formed p.symbols t ≡ true → is_over (symbols_of p) t ≡ true

  all_over : (ts : List Term) → induction.Each Both ts → list_all (λ (b : Bool). b) (map (is_term_formed p.symbols) ts) ≡ true → AreOver (symbols_of p) ts
  all_over [] each e = tt
  all_over (t ∷ ts) each e =
      (let both = and_parts (is_term_formed p.symbols t) (list_all (λ (b : Bool). b) (map (is_term_formed p.symbols) ts)) e in (each.0 both.0, all_over ts each.1 both.1))

  term_over : (t : Term) → Both t
  term_over = ind Both
      (λ n e. over-Var (symbols_of p) n)
      (λ f ts each e. (let both = and_parts (is_function (length ts) (slice_get p.symbols f)) (list_all (λ (b : Bool). b) (map (is_term_formed p.symbols) ts)) (sym (formed-App f ts) ∙ e) in
      whole_over (symbols_of p) f ts both.0 (all_over ts each both.1)))

  terms_over : (ts : List Term) → AreTermsFormed p.symbols ts → AreOver (symbols_of p) ts
  terms_over [] h = tt
  terms_over (t ∷ ts) h = (term_over t h.0, terms_over ts h.1)

  atom_over : (a : Atom) → IsAtomFormed p.symbols a → AtomOver (symbols_of p) a
  atom_over Truth h = tt
  atom_over (Pred n args) h = (h.0, terms_over args h.1)
  atom_over (Equal s t) h = terms_over (s ∷ t ∷ []) h

  literals_over : (ls : List Literal) → Each (λ l. IsAtomFormed p.symbols l.atom) ls → LiteralsOver (symbols_of p) ls
  literals_over [] h = tt
  literals_over (l ∷ ls) h = (atom_over l.atom h.0, literals_over ls h.1)

  inputs_fit : (is : List Input) → Each (IsInputFormed p.symbols) is → Each (λ i. IsWithinBounds i.clause) is → Each (IsFit p) (map (λ i. i.clause) is)
  inputs_fit [] h g = tt
  inputs_fit (i ∷ is) h g = (record { within = g.0; over = literals_over i.clause.literals h.0.1 }, inputs_fit is h.1 g.1)

pub formed_inputs_fit : FormedInputsFit
formed_inputs_fit p formed bounded = inputs_fit p p.inputs formed.inputs bounded.within
