-- What a step gives over the records of a peer.
use Rattle.std.proofs.Common.{◌≡◌, ℕ, Bool, true, false, List, [], ◌∷◌, map, refl, ap, sym, ◌∙◌, subst}
use Rattle.std.specs.Prelude.{slice_get, Option, Some, None, Result, Err}
use Rattle.cd_clause.specs.declared.Clause.{Clause}
use Rattle.cd_ledger.specs.Records.{Registry}
use Rattle.cd_machine.specs.Right.{IsReplayed, standing}
use Rattle.cd_machine.specs.Rules.{IsFit, IsSubstFit}
use Rattle.cd_read.specs.declared.problem.Problem.{Problem}
use Rattle.cd_steps.specs.Bounds.{AnswersGiven, IsStepWithin, subst_of}
use Rattle.cd_steps.specs.Laws.{RightStepsGiveOne, StepsGiveOne}
use Rattle.cd_steps.specs.Premises.{IsRightOver, is_before, listed, premises, Registry as Clauses}
use Rattle.cd_steps.specs.Steps.{OfOne, OfTwo, StepOk}
use Rattle.cd_steps.specs.declared.Premise.{Premise}
use Rattle.cd_steps.specs.declared.Premise.TheVariants.{Before, Given, Named}
use Rattle.cd_steps.specs.declared.Step.{Step}
use Rattle.cd_steps.specs.declared.Step.TheVariants as step
use Rattle.cd_term.specs.declared.TermFault.{TermFault}
use Rattle.cd_term.specs.declared.TermFault.TheVariants.{OutOfBounds}
use Rattle.std.specs.Option.{option_map}
use Rattle.cd_ledger.specs.declared.records.Known.{Known}
use Rattle.cd_ledger.specs.declared.records.Record.{Record}
use Rattle.cd_ledger.specs.Records.{recorded}
use Rattle.cd_names.specs.declared.names.Name.{Name}
use Rattle.cd_acts.specs.Indexed.{AreOthers, IsOnlyAt}
use Rattle.cd_acts.proofs.Names.{recorded_at, recorded_others}
use Rattle.cd_fineness.specs.Fine.{IsAnswer, IsReplay, IsRightOf, standing_if_any}

-- what the first premise and the second stand for, and whether the first is the clause before the step
abbrev pub first_of : Clauses → List Premise → Option Clause
first_of Q [] = None
first_of Q (p ∷ ps) = Q p

abbrev pub second_of : Clauses → List Premise → Option Clause
second_of Q [] = None
second_of Q (p ∷ []) = None
second_of Q (p ∷ q ∷ ps) = Q q

abbrev pub begins_before : List Premise → Bool
begins_before [] = false
begins_before (p ∷ ps) = is_before p

same_clauses : (s : Step) (a b d x y z : Option Clause) (c : Clause) → a ≡ x → b ≡ y → d ≡ z → StepOk s a b d c → StepOk s x y z c
same_clauses s a b d x y z c e f g ok =
    subst (λ (o : Option Clause). StepOk s x y o c) g (subst (λ (o : Option Clause). StepOk s x o d c) f (subst (λ (o : Option Clause). StepOk s o b d c) e ok))

one_there : (o : Option Clause) (cs : List Clause) → o ∷ [] ≡ map Some cs → (slice_get cs 0 ≡ o) × ((slice_get cs 1 ≡ None) × (slice_get cs 2 ≡ None))
one_there o [] are = absurd cc
one_there o (c ∷ []) are = (cc, (refl, refl))
one_there o (c ∷ d ∷ cs) are = absurd cc

two_there : (o u : Option Clause) (cs : List Clause) → o ∷ u ∷ [] ≡ map Some cs → (slice_get cs 0 ≡ o) × ((slice_get cs 1 ≡ u) × (slice_get cs 2 ≡ None))
two_there o u [] are = absurd cc
two_there o u (c ∷ []) are = absurd cc
two_there o u (c ∷ d ∷ []) are = (cc, (cc, refl))
two_there o u (c ∷ d ∷ e ∷ cs) are = absurd cc

module _ (Q : Clauses) where
  -- the steps with one premise and with two
  one_to : (s : Step) (p : Premise) (c : Clause) (cs : List Clause) → Q p ∷ [] ≡ map Some cs → StepOk s None (slice_get cs 0) (slice_get cs 1) c → StepOk s None (Q p) None c
  one_to s p c cs are ok = let t = one_there (Q p) cs are in same_clauses s None _ _ None (Q p) None c refl t.0 t.1.0 ok

  two_to : (s : Step) (p q : Premise) (c : Clause) (cs : List Clause) → Q p ∷ Q q ∷ [] ≡ map Some cs → StepOk s None (slice_get cs 0) (slice_get cs 1) c → StepOk s None (Q p) (Q q) c
  two_to s p q c cs are ok = let t = two_there (Q p) (Q q) cs are in same_clauses s None _ _ None (Q p) (Q q) c refl t.0 t.1.0 ok

  pub right_to : (s : Step) (c : Clause) → IsRightOver Q s c → IsRightOf s (first_of Q (premises s)) (second_of Q (premises s)) (begins_before (premises s)) c
  right_to (step.Input k) c r = one_to (step.Input k) (Given k) c r.clauses r.are r.right.1
  right_to (step.Copy n) c r = one_to (step.Copy n) (Named n) c r.clauses r.are r.right.1
  right_to (step.Resolve a i b j t) c r = two_to (step.Resolve a i b j t) (Named a) (Named b) c r.clauses r.are r.right.1
  right_to (step.Factor a i j t) c r = one_to (step.Factor a i j t) (Named a) c r.clauses r.are r.right.1
  right_to (step.Refl a i t) c r = one_to (step.Refl a i t) (Named a) c r.clauses r.are r.right.1
  right_to (step.EqFac a i s j z t) c r = one_to (step.EqFac a i s j z t) (Named a) c r.clauses r.are r.right.1
  right_to (step.Para a i s b j path t) c r = two_to (step.Para a i s b j path t) (Named a) (Named b) c r.clauses r.are r.right.1
  right_to (step.Rewrite a s j path t) c r =
      let there = two_there (Q Before) (Q (Named a)) r.clauses r.are in
      same_clauses (step.Rewrite a s j path t) _ _ _ (Q Before) (Q (Named a)) None c there.0 there.1.0 there.1.1 r.right.1
  right_to step.Tidy c r =
      let there = one_there (Q Before) r.clauses r.are in
      same_clauses step.Tidy _ _ _ (Q Before) None None c there.0 there.1.0 there.1.1 r.right.1

  from_one : (p : Premise) (P : Clause → Type 0) → OfOne (Q p) P → (d : Clause) × (Q p ≡ Some d) × P d
  from_one p P h = go (Q p) refl h
    where
      go : (o : Option Clause) → Q p ≡ o → OfOne o P → (d : Clause) × (Q p ≡ Some d) × P d
      go None is k = absurd k
      go (Some d) is k = (d, is, k)

  from_two : (p q : Premise) (P : Clause → Clause → Type 0) → OfTwo (Q p) (Q q) P → (d : Clause) × (e : Clause) × (Q p ≡ Some d) × (Q q ≡ Some e) × P d e
  from_two p q P h = go (Q p) (Q q) refl refl h
    where
      go : (o u : Option Clause) → Q p ≡ o → Q q ≡ u → OfTwo o u P → (d : Clause) × (e : Clause) × (Q p ≡ Some d) × (Q q ≡ Some e) × P d e
      go None u is also k = absurd k
      go (Some d) None is also k = absurd k
      go (Some d) (Some e) is also k = (d, e, is, also, k)

  one_list : (o : Option Clause) (d : Clause) → o ≡ Some d → o ∷ [] ≡ Some d ∷ []
  one_list o d e = ap (λ (x : Option Clause). x ∷ []) e

  two_list : (o u : Option Clause) (d e : Clause) → o ≡ Some d → u ≡ Some e → o ∷ u ∷ [] ≡ Some d ∷ Some e ∷ []
  two_list o u d e x y = ap (λ (z : Option Clause). z ∷ u ∷ []) x ∙ ap (λ (z : Option Clause). Some d ∷ z ∷ []) y

  pub right_from : (s : Step) (c : Clause) → IsRightOf s (first_of Q (premises s)) (second_of Q (premises s)) (begins_before (premises s)) c → IsRightOver Q s c
  right_from (step.Input k) c h = record { clauses = c ∷ []; are = one_list (Q (Given k)) c h; right = (refl, refl) }
  right_from (step.Copy n) c h = record { clauses = c ∷ []; are = one_list (Q (Named n)) c h; right = (refl, refl) }
  right_from (step.Resolve a i b j t) c h = (let x = from_two (Named a) (Named b) _ h in record { clauses = x.0 ∷ x.1 ∷ []; are = two_list (Q (Named a)) (Q (Named b)) x.0 x.1 x.2 x.3; right = (refl, x.4) })
  right_from (step.Factor a i j t) c h = (let x = from_one (Named a) _ h in record { clauses = x.0 ∷ []; are = one_list (Q (Named a)) x.0 x.1; right = (refl, x.2) })
  right_from (step.Refl a i t) c h = (let x = from_one (Named a) _ h in record { clauses = x.0 ∷ []; are = one_list (Q (Named a)) x.0 x.1; right = (refl, x.2) })
  right_from (step.EqFac a i s j z t) c h = (let x = from_one (Named a) _ h in record { clauses = x.0 ∷ []; are = one_list (Q (Named a)) x.0 x.1; right = (refl, x.2) })
  right_from (step.Para a i s b j path t) c h = (let x = from_two (Named a) (Named b) _ h in record { clauses = x.0 ∷ x.1 ∷ []; are = two_list (Q (Named a)) (Q (Named b)) x.0 x.1 x.2 x.3; right = (refl, x.4) })
  right_from (step.Rewrite a s j path t) c h = (let x = from_two (Named a) Before _ h in record { clauses = x.1 ∷ x.0 ∷ []; are = two_list (Q Before) (Q (Named a)) x.1 x.0 x.3 x.2; right = (refl, x.4) })
  right_from step.Tidy c h = (let x = from_one Before _ h in record { clauses = x.0 ∷ []; are = one_list (Q Before) x.0 x.1; right = (refl, x.2) })

-- ---- a step gives one clause

right_one : StepsGiveOne → (s : Step) (f g : Option Clause) (before : Bool) (c d : Clause) → IsRightOf s f g before c → IsRightOf s f g before d → c ≡ d
right_one one s f g true c d x y = one s f g None c d x y
right_one one s f g false c d x y = one s None f g c d x y

pub outside_none : StepsGiveOne → (s : Step) (f g : Option Clause) (before : Bool) (answer : Result (Option Clause) TermFault) → AnswersGiven (IsRightOf s f g before) (IsStepWithin (subst_of s)) answer → answer ≡ Err OutOfBounds → IsAnswer s f g before None
outside_none one s f g before answer a is = λ c right within.
    (let x = subst (λ r. AnswersGiven (IsRightOf s f g before) (IsStepWithin (subst_of s)) r) is a in
    x.2 (subst (λ (d : Clause). IsStepWithin (subst_of s) d) (right_one one s f g before c x.0 right x.1) within))

-- ---- replay

listed_first : (Q : Clauses) (r : Premise × Option Premise) (ps : List Premise) → listed r ≡ ps → Q r.0 ≡ first_of Q ps
listed_first Q (p, None) ps h = ap (λ qs. first_of Q qs) h
listed_first Q (p, Some q) ps h = ap (λ qs. first_of Q qs) h

listed_second : (Q : Clauses) (r : Premise × Option Premise) (ps : List Premise) → listed r ≡ ps → standing_if_any Q r.1 ≡ second_of Q ps
listed_second Q (p, None) ps h = ap (λ qs. second_of Q qs) h
listed_second Q (p, Some q) ps h = ap (λ qs. second_of Q qs) h

listed_before : (r : Premise × Option Premise) (ps : List Premise) → listed r ≡ ps → is_before r.0 ≡ begins_before ps
listed_before (p, None) ps h = ap (λ qs. begins_before qs) h
listed_before (p, Some q) ps h = ap (λ qs. begins_before qs) h

module _ (p : Problem) (R : Registry) (current : Option Clause) (s : Step) (r : Premise × Option Premise) (f g : Option Clause) (before : Bool)
    (is_listed : listed r ≡ premises s) (stands_first : f ≡ standing p R current r.0) (stands_second : g ≡ standing_if_any (standing p R current) r.1) (goes_on : before ≡ is_before r.0) where
  is_first : f ≡ first_of (standing p R current) (premises s)
  is_first = stands_first ∙ listed_first (standing p R current) r (premises s) is_listed

  is_second : g ≡ second_of (standing p R current) (premises s)
  is_second = stands_second ∙ listed_second (standing p R current) r (premises s) is_listed

  is_begun : before ≡ begins_before (premises s)
  is_begun = goes_on ∙ listed_before r (premises s) is_listed

  to : (d : Clause) → IsReplayed p R current s d → IsRightOf s f g before d
  to d r = rw (is_first, is_second, is_begun) (right_to (standing p R current) s d r.right)

  from : (d : Clause) → IsRightOf s f g before d → IsRightOver (standing p R current) s d
  from d r = right_from (standing p R current) s d
      (subst (λ (b : Bool). IsRightOf s (first_of (standing p R current) (premises s)) (second_of (standing p R current) (premises s)) b d) is_begun
      (subst (λ (o : Option Clause). IsRightOf s (first_of (standing p R current) (premises s)) o before d) is_second
      (subst (λ (o : Option Clause). IsRightOf s o g before d) is_first r)))

  pub replay_none : IsAnswer s f g before None → IsReplay p R current s None
  replay_none a = λ d r. a d (to d r) (r.subst.within, r.fit.within)

  pub replay_some : RightStepsGiveOne → (c : Clause) → IsAnswer s f g before (Some c) → IsFit p c → IsSubstFit p (subst_of s) → IsReplay p R current s (Some c)
  replay_some one c a fit sub = (record { right = from c a; fit = fit; subst = sub }, λ x r. one (standing p R current) s x c r.right (from c a))

  pub replay_unfit : RightStepsGiveOne → (c : Clause) → IsAnswer s f g before (Some c) → (IsFit p c × IsSubstFit p (subst_of s) → ⊥) → IsReplay p R current s None
  replay_unfit one c a unfit = λ d r. unfit (subst (λ (x : Clause). IsFit p x) (one (standing p R current) s d c r.right (from c a)) r.fit, r.subst)

-- ---- what a premise stands for

pub standing_none : (p : Problem) (es : List Known) (current : Option Clause) (q : Premise) (n : Name) → q ≡ Named n → AreOthers n es → None ≡ standing p (λ m. recorded m es) current q
standing_none p es current q n is others =
    sym (ap (λ (x : Premise). standing p (λ m. recorded m es) current x) is ∙ ap (λ (o : Option Record). option_map (λ r. r.clause) o) (recorded_others n es others))

pub standing_some : (p : Problem) (es : List Known) (current : Option Clause) (q : Premise) (n : Name) (k : ℕ) (e : Known) → q ≡ Named n → IsOnlyAt n es k e → Some e.entry.clause ≡ standing p (λ m. recorded m es) current q
standing_some p es current q n k e is at =
    sym (ap (λ (x : Premise). standing p (λ m. recorded m es) current x) is ∙ ap (λ (o : Option Record). option_map (λ r. r.clause) o) (recorded_at n es k e at))
