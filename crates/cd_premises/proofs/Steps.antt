-- Steps over the records of peers.
use Rattle.std.proofs.Common.{◌≡◌, ℕ, zero, suc, true, false, List, [], ◌∷◌, map, refl, ap, sym, ◌∙◌, subst, arith}
use Rattle.std.specs.Prelude.{slice_get, Option, Some, None}
use Rattle.std.specs.List.{flat_map}
use Rattle.std.specs.List.{AllByRecursion as Each}
use Rattle.std.specs.Option.{option_map}
use Rattle.std.proofs.lemmas.Option.{same_Some}
use Rattle.cd_term.specs.declared.Term.{Term}
use Rattle.cd_clause.specs.declared.Clause.{Clause}
use Rattle.cd_clause.specs.Truth.{Interp, IsInterp, Holds}
use Rattle.cd_clause.proofs.TidyForms.{tidy_forms_are_tidy, tidy_forms_are_small, tidy_forms_are_over}
use Rattle.cd_names.specs.declared.names.Name.{Name}
use Rattle.cd_read.specs.declared.problem.Problem.{Problem}
use Rattle.cd_steps.specs.declared.Premise.{Premise}
use Rattle.cd_steps.specs.declared.Premise.TheVariants.{Before, Given, Named}
use Rattle.cd_steps.specs.declared.Step.{Step}
use Rattle.cd_steps.specs.declared.Step.TheVariants as step
use Rattle.cd_steps.specs.Premises.{premises, names_of, names_in, IsRightFrom}
use Rattle.cd_steps.specs.Laws.{HoldsIfAny, AgreeOn, HoldAt}
use Rattle.cd_steps.proofs.Registries.{right_steps_stay_right, right_steps_are_sound, each_there}
use Rattle.cd_steps.proofs.Reversing.{steps_are_reversible}
use Rattle.cd_ledger.specs.declared.records.Record.{Record}
use Rattle.cd_ledger.specs.Records.{Registry, begins}
use Rattle.cd_machine.specs.Rules.{clauses_of, symbols_of, IsTidied, IsFit, IsSubstFit}
use Rattle.cd_machine.specs.Right.{standing, IsReplayed}
use Rattle.cd_laws.specs.Premises.{NamesHold}

-- the clause of a record
clause : Record → Clause
clause r = r.clause

abbrev pub clause_at : Registry → Name → Option Clause
clause_at R n = option_map (λ r. r.clause) (R n)

pub at_record : (R : Registry) (n : Name) (r : Record) → R n ≡ Some r → clause_at R n ≡ Some r.clause
at_record R n r e = ap (λ (o : Option Record). option_map (λ x. x.clause) o) e

pub record_at : (R : Registry) (n : Name) (c : Clause) → clause_at R n ≡ Some c → (r : Record) × (R n ≡ Some r) × (r.clause ≡ c)
record_at R n c e = go (R n) refl e
  where
    go : (o : Option Record) → R n ≡ o → option_map (λ (r : Record). r.clause) o ≡ Some c → (r : Record) × (R n ≡ Some r) × (r.clause ≡ c)
    go None is f = absurd cc
    go (Some r) is f = (r, is, same_Some r.clause c f)

-- ---- growing registries

module _ (p : Problem) (R S : Registry) (current : Option Clause) where
  agreeing : (ps : List Premise) → Each (λ n. (r : Record) → R n ≡ Some r → S n ≡ Some r) (flat_map names_of ps) → AgreeOn (standing p R current) (standing p S current) ps
  agreeing [] h = tt
  agreeing (Before ∷ ps) h = ((λ c e. e), agreeing ps h)
  agreeing (Given k ∷ ps) h = ((λ c e. e), agreeing ps h)
  agreeing (Named n ∷ ps) h =
      ((λ c e. (let x = record_at R n c e in at_record S n x.0 (h.0 x.0 x.1) ∙ ap Some x.2)), agreeing ps h.1)

pub replay_grows : (p : Problem) (R S : Registry) (current : Option Clause) (s : Step) (c : Clause)
    → Each (λ n. (r : Record) → R n ≡ Some r → S n ≡ Some r) (names_in s) → IsReplayed p R current s c → IsReplayed p S current s c
replay_grows p R S current s c h x = record {
  right = right_steps_stay_right (standing p R current) (standing p S current) s c (agreeing p R S current (premises s) h) x.right;
  fit = x.fit;
  subst = x.subst;
}

pub replay_names : (p : Problem) (R : Registry) (current : Option Clause) (s : Step) (c : Clause) → IsReplayed p R current s c → Each (λ n. (r : Record) × (R n ≡ Some r)) (names_in s)
replay_names p R current s c x = go (premises s) (each_there (standing p R current) (premises s) x.right.clauses x.right.are)
  where
    go : (ps : List Premise) → Each (λ q. (d : Clause) × (standing p R current q ≡ Some d)) ps → Each (λ n. (r : Record) × (R n ≡ Some r)) (flat_map names_of ps)
    go [] h = tt
    go (Before ∷ ps) h = go ps h.1
    go (Given k ∷ ps) h = go ps h.1
    go (Named n ∷ ps) h = (let y = record_at R n h.0.0 h.0.1 in ((y.0, y.1), go ps h.1))

-- ---- truth

each_at : (P : Clause → Type 0) (cs : List Clause) (k : ℕ) (c : Clause) → slice_get cs k ≡ Some c → Each P cs → P c
each_at P [] k c e h = absurd cc
each_at P (d ∷ cs) zero c e h = subst P (same_Some d c e) h.0
each_at P (d ∷ cs) (suc k) c e h = each_at P cs k c e h.1

module _ (interp : Interp) (p : Problem) (R : Registry) (current : Option Clause) (inputs : Each (Holds interp) (clauses_of p)) (before : HoldsIfAny interp current) where
  holding : (ps : List Premise) → Each (λ n. (r : Record) → R n ≡ Some r → Holds interp r.clause) (flat_map names_of ps) → HoldAt interp (standing p R current) ps
  holding [] h = tt
  holding (Before ∷ ps) h = ((λ c e. subst (λ (o : Option Clause). HoldsIfAny interp o) e before), holding ps h)
  holding (Given k ∷ ps) h = ((λ c e. each_at (Holds interp) (clauses_of p) k c e inputs), holding ps h)
  holding (Named n ∷ ps) h = ((λ c e. (let x = record_at R n c e in subst (Holds interp) x.2 (h.0 x.0 x.1))), holding ps h.1)

pub replay_sound : (interp : Interp) → IsInterp interp → (p : Problem) (R : Registry) (current : Option Clause) (s : Step) (c : Clause)
    → Each (Holds interp) (clauses_of p) → HoldsIfAny interp current → NamesHold interp R s → IsReplayed p R current s c → Holds interp c
replay_sound interp is p R current s c inputs before names x =
    right_steps_are_sound interp (standing p R current) s c is (holding interp p R current inputs before (premises s) names) x.right

module _ (interp : Interp) (is : IsInterp interp) (p : Problem) (R : Registry) (d c : Clause) where
  back_rewrite : (a : Name) (s j : ℕ) (path : List ℕ) (t : List Term) (cs : List Clause) → Some d ∷ clause_at R a ∷ [] ≡ map Some cs → IsRightFrom (step.Rewrite a s j path t) cs c
      → ((r : Record) → R a ≡ Some r → Holds interp r.clause) → Holds interp c → Holds interp d
  back_rewrite a s j path t [] are right h hc = absurd cc
  back_rewrite a s j path t (x ∷ []) are right h hc = absurd cc
  back_rewrite a s j path t (x ∷ e ∷ []) are right h hc =
      let same : Some d ≡ Some x = cc in
      let there : clause_at R a ≡ Some e = cc in
      let y = record_at R a e there in
      let he : Holds interp e = subst (Holds interp) y.2 (h y.0 y.1) in
      subst (Holds interp) (sym (same_Some d x same)) (steps_are_reversible interp (step.Rewrite a s j path t) (Some x) (Some e) None c is refl he tt right.1 hc)
  back_rewrite a s j path t (x ∷ e ∷ f ∷ cs) are right h hc = absurd cc

  back_tidy : (cs : List Clause) → Some d ∷ [] ≡ map Some cs → IsRightFrom step.Tidy cs c → Holds interp c → Holds interp d
  back_tidy [] are right hc = absurd cc
  back_tidy (x ∷ []) are right hc =
      let same : Some d ≡ Some x = cc in
      subst (Holds interp) (sym (same_Some d x same)) (steps_are_reversible interp step.Tidy (Some x) None None c is refl tt tt right.1 hc)
  back_tidy (x ∷ e ∷ cs) are right hc = absurd cc

pub replay_back : (interp : Interp) → IsInterp interp → (p : Problem) (R : Registry) (d : Clause) (s : Step) (c : Clause)
    → begins s ≡ false → NamesHold interp R s → IsReplayed p R (Some d) s c → Holds interp c → Holds interp d
replay_back interp is p R d (step.Input k) c b h x hc = absurd (let f : true ≡ false = b in cc)
replay_back interp is p R d (step.Copy n) c b h x hc = absurd (let f : true ≡ false = b in cc)
replay_back interp is p R d (step.Resolve a i e j t) c b h x hc = absurd (let f : true ≡ false = b in cc)
replay_back interp is p R d (step.Factor a i j t) c b h x hc = absurd (let f : true ≡ false = b in cc)
replay_back interp is p R d (step.Refl a i t) c b h x hc = absurd (let f : true ≡ false = b in cc)
replay_back interp is p R d (step.EqFac a i s j z t) c b h x hc = absurd (let f : true ≡ false = b in cc)
replay_back interp is p R d (step.Para a i s e j path t) c b h x hc = absurd (let f : true ≡ false = b in cc)
replay_back interp is p R d (step.Rewrite a s j path t) c b h x hc = back_rewrite interp is p R d c a s j path t x.right.clauses x.right.are x.right.right h.0 hc
replay_back interp is p R d step.Tidy c b h x hc = back_tidy interp is p R d c x.right.clauses x.right.are x.right.right hc

-- ---- inputs and copies

pub empty_fit : (p : Problem) → IsSubstFit p []
empty_fit p = record { within = ((omega arith, omega arith), omega arith); over = tt }

pub replay_input : (p : Problem) (R : Registry) (k : ℕ) (c : Clause) → slice_get (clauses_of p) k ≡ Some c → IsFit p c → IsReplayed p R None (step.Input k) c
replay_input p R k c there fit = record {
  right = record { clauses = c ∷ []; are = ap (λ (o : Option Clause). o ∷ []) there; right = (refl, refl) };
  fit = fit;
  subst = empty_fit p;
}

pub input_is : (p : Problem) (R : Registry) (k : ℕ) (c : Clause) → IsReplayed p R None (step.Input k) c → slice_get (clauses_of p) k ≡ Some c
input_is p R k c x = go x.right.clauses x.right.are x.right.right
  where
    go : (cs : List Clause) → slice_get (clauses_of p) k ∷ [] ≡ map Some cs → IsRightFrom (step.Input k) cs c → slice_get (clauses_of p) k ≡ Some c
    go [] are right = absurd cc
    go (d ∷ []) are right = (let there : slice_get (clauses_of p) k ≡ Some d = cc in there ∙ right.1)
    go (d ∷ e ∷ cs) are right = absurd cc

pub replay_copy : (p : Problem) (R : Registry) (n : Name) (r : Record) → R n ≡ Some r → IsFit p r.clause → IsReplayed p R None (step.Copy n) r.clause
replay_copy p R n r g fit = record {
  right = record { clauses = r.clause ∷ []; are = ap (λ (o : Option Clause). o ∷ []) (at_record R n r g); right = (refl, refl) };
  fit = fit;
  subst = empty_fit p;
}

pub copy_is : (p : Problem) (R : Registry) (n : Name) (c : Clause) → IsReplayed p R None (step.Copy n) c → (r : Record) × (R n ≡ Some r) × (c ≡ r.clause)
copy_is p R n c x = go x.right.clauses x.right.are x.right.right
  where
    go : (cs : List Clause) → clause_at R n ∷ [] ≡ map Some cs → IsRightFrom (step.Copy n) cs c → (r : Record) × (R n ≡ Some r) × (c ≡ r.clause)
    go [] are right = absurd cc
    go (d ∷ []) are right = (let there : clause_at R n ≡ Some d = cc in let y = record_at R n d there in (y.0, y.1, sym (same_Some d c right.1) ∙ sym y.2))
    go (d ∷ e ∷ cs) are right = absurd cc

-- ---- tidying

pub tidy_fit : (p : Problem) (c d : Clause) → IsFit p c → IsTidied c d → IsFit p d
unfolding IsTidied
tidy_fit p c d fit t = record { within = tidy_forms_are_small c d t fit.within; over = tidy_forms_are_over (symbols_of p) c d t fit.over }

pub tidied_tidy : (c d : Clause) → IsTidied c d → IsTidied d d
unfolding IsTidied
tidied_tidy c d t = tidy_forms_are_tidy c d t

pub replay_tidy : (p : Problem) (R : Registry) (c d : Clause) → IsFit p c → IsTidied c d → IsReplayed p R (Some c) step.Tidy d
unfolding IsTidied
replay_tidy p R c d fit t = record {
  right = record { clauses = c ∷ []; are = refl; right = (refl, t) };
  fit = tidy_fit p c d fit t;
  subst = empty_fit p;
}
