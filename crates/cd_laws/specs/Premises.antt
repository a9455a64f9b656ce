-- What the laws over runs take from the rules: keys are in an order and fall, contraction is implied, steps are sound and can
-- be taken back, conclusions are right. Nothing else of the rules is used.
-- Beyond the headline: no clause of `prove` reaches this file.
use Rattle.std.specs.Prelude.{◌⊎◌, ◌≡◌, ℕ, true, false, List, Option, Some, None, slice_get}
use Rattle.std.specs.List.{AllByRecursion as Each}
use Rattle.cd_clause.specs.Truth.{Interp, IsInterp, Holds}
use Rattle.cd_clause.specs.declared.Clause.{Clause}
use Rattle.cd_infer.specs.declared.Conclusion.{Conclusion}
use Rattle.cd_kbo.specs.declared.order.Order.{Order}
use Rattle.cd_ledger.specs.declared.records.Record.{Record}
use Rattle.cd_ledger.specs.Records.{Registry, begins, is_copy, is_input}
use Rattle.cd_names.specs.declared.names.Name.{Name}
use Rattle.cd_read.specs.declared.problem.Problem.{Problem}
use Rattle.cd_steps.specs.Laws.{HoldsIfAny}
use Rattle.cd_steps.specs.Premises.{names_in}
use Rattle.cd_steps.specs.declared.Step.{Step}
use Rattle.cd_steps.specs.declared.Step.TheVariants as step
use Rattle.cd_term.specs.declared.Term.{Term}
use Rattle.cd_machine.specs.Rules.{clauses_of, IsTautology, IsTidied, Subsumes, ReductAt, KeyLess, IsWithin, IsConclusionWithin, IsFit, SoloConcludes, PairConcludes}
use Rattle.cd_machine.specs.Right.{IsReplayed}

-- the records of some names hold
abbrev pub NamesHold : Interp → Registry → Step → Type 0
NamesHold interp R s = Each (λ n. (r : Record) → R n ≡ Some r → Holds interp r.clause) (names_in s)

-- a conclusion's step begins a record, copies nothing, takes no input, and is right and fit
abbrev pub IsRightConclusion : Problem → Registry → Conclusion → Type 0
IsRightConclusion p R c = (begins c.step ≡ true) × (is_copy c.step ≡ false) × IsReplayed p R None c.step c.clause × IsFit p c.clause × (is_input c.step ≡ false)

-- all that the laws take
pub record Premises (order : Order) : Type 0 where
  -- keys: an order, which is decided; a clause is smaller under a name than without one
  pub key_trans : (a b c : Clause) (l m n : Option Name) → KeyLess order a l b m → KeyLess order b m c n → KeyLess order a l c n
  pub key_irrefl : (c : Clause) (n : Option Name) → KeyLess order c n c n → ⊥
  pub key_decides : (d c : Clause) (m n : Option Name) → KeyLess order d m c n ⊎ (KeyLess order d m c n → ⊥)
  pub key_unnamed : (c : Clause) (n : Name) → KeyLess order c (Some n) c None
  -- contraction: what is reduced falls, whatever the names; a subsumer with a name is below what it subsumes without one
  pub subsumer_below : (d c : Clause) (n : Name) → Subsumes d c → KeyLess order d (Some n) c None
  pub reduct_falls : (e c : Clause) (s j : ℕ) (path : List ℕ) (t : List Term) (d x : Clause) → ReductAt order e c s j path t d → IsTidied d x → (m n : Option Name) → KeyLess order x m c n
  pub subsumed_holds : (interp : Interp) → IsInterp interp → (d c : Clause) → Subsumes d c → Holds interp d → Holds interp c
  pub tautology_holds : (interp : Interp) (c : Clause) → IsTautology c → Holds interp c
  -- steps: right wherever the records of its names are the same, sound, and reversible where it changes a clause
  pub replay_grows : (p : Problem) (R S : Registry) (current : Option Clause) (s : Step) (c : Clause)
      → Each (λ n. (r : Record) → R n ≡ Some r → S n ≡ Some r) (names_in s) → IsReplayed p R current s c → IsReplayed p S current s c
  pub replay_names : (p : Problem) (R : Registry) (current : Option Clause) (s : Step) (c : Clause) → IsReplayed p R current s c → Each (λ n. (r : Record) × (R n ≡ Some r)) (names_in s)
  pub replay_sound : (interp : Interp) → IsInterp interp → (p : Problem) (R : Registry) (current : Option Clause) (s : Step) (c : Clause)
      → Each (Holds interp) (clauses_of p) → HoldsIfAny interp current → NamesHold interp R s → IsReplayed p R current s c → Holds interp c
  pub replay_back : (interp : Interp) → IsInterp interp → (p : Problem) (R : Registry) (d : Clause) (s : Step) (c : Clause)
      → begins s ≡ false → NamesHold interp R s → IsReplayed p R (Some d) s c → Holds interp c → Holds interp d
  pub replay_input : (p : Problem) (R : Registry) (k : ℕ) (c : Clause) → slice_get (clauses_of p) k ≡ Some c → IsFit p c → IsReplayed p R None (step.Input k) c
  pub input_is : (p : Problem) (R : Registry) (k : ℕ) (c : Clause) → IsReplayed p R None (step.Input k) c → slice_get (clauses_of p) k ≡ Some c
  pub replay_copy : (p : Problem) (R : Registry) (n : Name) (r : Record) → R n ≡ Some r → IsFit p r.clause → IsReplayed p R None (step.Copy n) r.clause
  pub copy_is : (p : Problem) (R : Registry) (n : Name) (c : Clause) → IsReplayed p R None (step.Copy n) c → (r : Record) × (R n ≡ Some r) × (c ≡ r.clause)
  pub replay_tidy : (p : Problem) (R : Registry) (c d : Clause) → IsFit p c → IsTidied c d → IsReplayed p R (Some c) step.Tidy d
  pub tidy_fit : (p : Problem) (c d : Clause) → IsFit p c → IsTidied c d → IsFit p d
  pub tidied_tidy : (c d : Clause) → IsTidied c d → IsTidied d d
  -- the equation and the clause are tidy: without this a variable that the matched side hasn't may have any value
  pub replay_rewrite : (p : Problem) (R : Registry) (n : Name) (e : Record) (c : Clause) (s j : ℕ) (path : List ℕ) (t : List Term) (d : Clause)
      → R n ≡ Some e → IsFit p e.clause → IsTidied e.clause e.clause → IsFit p c → IsTidied c c → ReductAt order e.clause c s j path t d → IsWithin d
      → IsReplayed p R (Some c) (step.Rewrite n s j path t) d × IsFit p d
  -- conclusions: each is right, and their list is one
  pub solo_right : (p : Problem) (R : Registry) (a : Name) (r : Record) (found : List Conclusion) → R a ≡ Some r → IsFit p r.clause
      → SoloConcludes order a r.clause found → Each IsConclusionWithin found → Each (IsRightConclusion p R) found
  pub pair_right : (p : Problem) (R : Registry) (a b : Name) (r s : Record) (found : List Conclusion) → R a ≡ Some r → R b ≡ Some s → IsFit p r.clause → IsFit p s.clause
      → PairConcludes order a r.clause b s.clause found → Each IsConclusionWithin found → Each (IsRightConclusion p R) found
  pub solo_once : (a : Name) (c : Clause) (f g : List Conclusion) → SoloConcludes order a c f → SoloConcludes order a c g → f ≡ g
  pub pair_once : (a b : Name) (c d : Clause) (f g : List Conclusion) → PairConcludes order a c b d f → PairConcludes order a c b d g → f ≡ g
