-- What one place gives, by the conclusion of its inference.
use Rattle.std.proofs.Common.{◌≡◌, ℕ, List, [], ◌∷◌, ◌+◌, map, length, Option, Some, None, Ok, Err, inl, ap, ◌≤◌, sum_by, arith, ◌∙◌, sym, refl, subst}
use Rattle.std.proofs.lemmas.List.{length-map}
use Rattle.std.proofs.lemmas.List.Sums.{sum_by-cons}
use Rattle.cd_term.specs.declared.Term.{Term}
use Rattle.cd_term.specs.declared.TermFault.{TermFault}
use Rattle.cd_term.specs.declared.TermFault.TheVariants.{OutOfBounds, Memory}
use Rattle.cd_term.specs.Terms.{applied, substituted, AreWithin}
use Rattle.cd_term.proofs.Substitutions.{substituted-substituted}
use Rattle.cd_term.proofs.MarkLemmas.{maps_length}
use Rattle.cd_clause.specs.declared.Clause.{Clause}
use Rattle.cd_clause.specs.declared.Literal.{Literal}
use Rattle.cd_clause.specs.Clauses.{literal_size, literals_changed}
use Rattle.cd_unify.specs.Unifiers.{IsMgu, HaveNoUnifier}
use Rattle.cd_steps.specs.declared.Step.{Step}
use Rattle.cd_steps.specs.declared.drafts.Draft.{Draft}
use Rattle.cd_steps.specs.Rules.{Inference, Follows, higher}
use Rattle.cd_steps.specs.Bounds.{subst_of, IsStepWithin, AnswersGiven}
use Rattle.cd_steps.specs.Drafts.{raised, inference_of, GivenBy, IsBelow}
use Rattle.cd_steps.proofs.Bridging.{given_follows}
use Rattle.cd_infer.specs.declared.Conclusion.{Conclusion}
use Rattle.cd_infer.specs.declared.concluding.Concluded.{Concluded}
use Rattle.cd_infer.specs.Listed.{Gathers}
use Rattle.cd_infer.specs.Concluding.{IsUnifier, HasNone, AreAllApart, HasConcluded, IsOutside, IsConcluded}
use Rattle.cd_infer.specs.Conclusions.{Concludes, CanConclude, IsWithin, IsUsable}

-- ---- unifiers

pub no_lengths : (d : Draft) → (length d.left.now ≡ length d.right.now → ⊥) → HasNone (inference_of d)
no_lengths d differ tau e =
    differ (maps_length (substituted tau) (substituted tau) d.left.now (map (raised d.up) d.right.now) e ∙ length-map d.right.now (raised d.up))

-- terms that are apart have no unifier
raised_and : (n : ℕ) (tau : ℕ → Term) (ts : List Term) → map (substituted tau) (map (raised n) ts) ≡ map (substituted (λ k. substituted tau (higher n k))) ts
raised_and n tau [] = refl
raised_and n tau (t ∷ ts) = let here = substituted-substituted tau (higher n) t in let rest = raised_and n tau ts in cc

pub no_clash : (d : Draft) → AreAllApart d.left.now d.right.now → HasNone (inference_of d)
no_clash d apart tau e = apart tau (λ k. substituted tau (higher d.up k)) (e ∙ raised_and d.up tau d.right.now)

pub unifier_to : (inference : Inference) (v : ℕ) (l r s : List Term) → v ≡ inference.variables → l ≡ inference.left → r ≡ inference.right → IsMgu v l r s → IsUnifier inference s
unifier_to inference v l r s count left right u =
    subst (λ (n : ℕ). IsMgu n inference.left inference.right s) count
    (subst (λ (ts : List Term). IsMgu v ts inference.right s) left (subst (λ (ts : List Term). IsMgu v l ts s) right u))

pub unifier_from : (inference : Inference) (l r : List Term) → l ≡ inference.left → r ≡ inference.right → HaveNoUnifier l r → HasNone inference
unifier_from inference l r left right none tau e =
    none.none tau (ap (map (substituted tau)) left ∙ e ∙ sym (ap (map (substituted tau)) right))

pub not_unified : (inference : Inference) (v : ℕ) (l r : List Term) (fault : TermFault) → v ≡ inference.variables → l ≡ inference.left → r ≡ inference.right
    → (fault ≡ OutOfBounds → (s : List Term) × IsMgu v l r s × ¬ AreWithin 65535 1000 s) → IsConcluded inference (Err fault)
not_unified inference v l r OutOfBounds count left right out =
    let o = out refl in
    record {
      subst = o.0;
      clause = record { literals = literals_changed (applied o.0) inference.conclusion };
      unifier = unifier_to inference v l r o.0 count left right o.1;
      clause_is = refl;
      outside = λ w. o.2 w.0.0;
    }
not_unified inference v l r Memory count left right out = tt

-- ---- what is given with a unifier

follows_with : (d : Draft) (s : List Term) → IsUnifier (inference_of d) s →
    Follows (inference_of d) s (record { literals = literals_changed (applied s) (inference_of d).conclusion })
follows_with d s u = record { covers = u.covers; equal = u.unifies; literals = refl }

pub given_fault : (d : Draft) (s t : List Term) (fault : TermFault) → t ≡ s → IsBelow (d.up + d.more) d.more d → IsUnifier (inference_of d) s →
    AnswersGiven (GivenBy d t) (IsStepWithin t) (Err fault) → IsConcluded (inference_of d) (Err fault)
given_fault d s t OutOfBounds is low u given =
    let g = subst (λ (r : List Term). (c : Clause) × GivenBy d r c × (IsStepWithin r c → ⊥)) is given in
    let f = (given_follows d s g.0 low).0 g.1 in
    record { subst = s; clause = g.0; unifier = u; clause_is = f.literals; outside = g.2 }
given_fault d s t Memory is low u given = tt

pub given_none : (d : Draft) (s t : List Term) (o : Option Clause) → o ≡ None → t ≡ s → IsBelow (d.up + d.more) d.more d → IsUnifier (inference_of d) s →
    AnswersGiven (GivenBy d t) (IsStepWithin t) (Ok o) → HasNone (inference_of d)
given_none d s t o none is low u given tau e =
    let c : Clause = record { literals = literals_changed (applied s) (inference_of d).conclusion } in
    let g = (given_follows d s c low).1 (follows_with d s u) in
    subst (λ (p : Option Clause). AnswersGiven (GivenBy d t) (IsStepWithin t) (Ok p)) none given c (subst (λ (r : List Term). GivenBy d r c) (sym is) g)

pub given_some : (d : Draft) (s t : List Term) (o : Option Clause) (c : Clause) → o ≡ Some c → t ≡ s → IsBelow (d.up + d.more) d.more d → IsUnifier (inference_of d) s →
    AnswersGiven (GivenBy d t) (IsStepWithin t) (Ok o) → HasConcluded (inference_of d) (record { subst = s; clause = c })
given_some d s t o c some is low u given =
    let g = subst (λ (p : Option Clause). AnswersGiven (GivenBy d t) (IsStepWithin t) (Ok p)) some given in
    let h = subst (λ (r : List Term). GivenBy d r c × IsStepWithin r c) is g in
    let f = (given_follows d s c low).0 h.0 in
    record { unifier = u; clause_is = f.literals; within = h.1 }

-- ---- what a place gives

module _ (Rule : Inference → Type 0) (one : (x y : Inference) → Rule x → Rule y → x ≡ y) (step : List Term → Step) where
  pub concludes_none : (inference : Inference) → Rule inference → HasNone inference → CanConclude Rule → ⊥
  concludes_none inference r none c = none c.tau (subst (λ (i : Inference). map (substituted c.tau) i.left ≡ map (substituted c.tau) i.right) (one c.inference inference c.rule r) c.equal)

  pub concludes_some : (inference : Inference) (c : Concluded) → Rule inference → HasConcluded inference c
      → Concludes Rule step (record { step = step c.subst; clause = c.clause })
  concludes_some inference c r h = record { inference = inference; subst = c.subst; rule = r; unifier = h.unifier; step_is = refl; clause_is = h.clause_is }

  pub within_some : (inference : Inference) (c : Concluded) → subst_of (step c.subst) ≡ c.subst → HasConcluded inference c
      → IsWithin (record { step = step c.subst; clause = c.clause })
  within_some inference c is h = subst (λ (s : List Term). IsStepWithin s c.clause) (sym is) h.within

  pub concludes_outside : (inference : Inference) → ((s : List Term) → subst_of (step s) ≡ s) → Rule inference → IsOutside inference
      → (x : Conclusion) × Concludes Rule step x × (IsWithin x → ⊥)
  concludes_outside inference is r o = (
    record { step = step o.subst; clause = o.clause },
    record { inference = inference; subst = o.subst; rule = r; unifier = o.unifier; step_is = refl; clause_is = o.clause_is },
    λ w. o.outside (subst (λ (s : List Term). IsStepWithin s o.clause) (is o.subst) w),
  )

-- an error of the conclusion is one of the place
pub fault_gathers : {K : Type 0} (U : Type 0) (Gives : K → Conclusion → Type 0) (Can : K → Type 0) (k : K) (a b : List Conclusion) (inference : Inference) (fault : TermFault) → IsConcluded inference (Err fault)
    → (IsOutside inference → (x : Conclusion) × Gives k x × (IsWithin x → ⊥)) → Gathers {U = U} Gives Can IsWithin (k ∷ []) a b (Err fault)
fault_gathers U Gives Can k a b inference OutOfBounds out then = inl (then out)
fault_gathers U Gives Can k a b inference Memory out then = tt

-- what an answer says
pub concluded_none : (inference : Inference) (o : Option Concluded) → o ≡ None → IsConcluded inference (Ok o) → HasNone inference
concluded_none inference o is c = subst (λ (p : Option Concluded). IsConcluded inference (Ok p)) is c

pub concluded_some : (inference : Inference) (o : Option Concluded) (c : Concluded) → o ≡ Some c → IsConcluded inference (Ok o) → HasConcluded inference c
concluded_some inference o c is h = subst (λ (p : Option Concluded). IsConcluded inference (Ok p)) is h

-- a usable clause has few literals
short_of : (ls : List Literal) → length ls ≤ sum_by literal_size ls
short_of [] = omega arith
short_of (l ∷ ls) = omega (arith, short_of ls, sum_by-cons literal_size l ls)

pub usable_short : (c : Clause) → IsUsable c → length c.literals ≤ 65535
usable_short c u = omega (arith, short_of c.literals, u.within.0)
