-- What is made of a step's premises.
use Rattle.std.proofs.Common.{◌≡◌, ◌↔◌, ℕ, Bool, IsTrue, List, [], ◌++◌, Option, Some, None, MatchOption, map, drop, ap, ◌∙◌, sym, subst, arith, append-nil}
use Rattle.std.proofs.lemmas.Option.{same_Some}
use Rattle.cd_term.specs.declared.Term.{Term}
use Rattle.cd_term.specs.Terms.{applied}
use Rattle.cd_clause.specs.declared.Literal.{Literal}
use Rattle.cd_clause.specs.declared.Clause.{Clause}
use Rattle.cd_clause.specs.Clauses.{literals_changed}
use Rattle.cd_clause.proofs.LimitLemmas.{literals-nothing}
use Rattle.cd_steps.specs.declared.Step.{Step}
use Rattle.cd_steps.specs.declared.drafts.Draft.{Draft}
use Rattle.cd_steps.specs.declared.drafts.Plan.{Plan}
use Rattle.cd_steps.specs.declared.drafts.Plan.TheVariants as plan
use Rattle.cd_steps.specs.Rules.{Inference, FollowsBy, IsRewriting, both_bounds}
use Rattle.cd_steps.specs.Steps.{StepOk, themselves}
use Rattle.cd_steps.specs.Bounds.{subst_of}
use Rattle.cd_steps.specs.Laws.{GivesOne}
use Rattle.cd_steps.specs.Drafts.{inference_of, concluded_under, GivenBy, IsDraft, IsRewritingDraft, IsPlan}
use Rattle.cd_steps.proofs.Unique.{rewriting_one}
use Rattle.cd_steps.proofs.Bridging.{given_follows, rewriting_follows, by_the_one}

both_ways : {P Q R : Type 0} → P ↔ Q → Q ↔ R → P ↔ R
both_ways f g = ((λ p. g.0 (f.0 p)), (λ r. f.1 (g.1 r)))

turned : {P Q : Type 0} → P ↔ Q → Q ↔ P
turned f = (f.1, f.0)

-- ---- plans of rules

plan_is : (IsRight : Clause → Type 0) (s : List Term) (p q : Plan) → p ≡ q → IsPlan IsRight s q → IsPlan IsRight s p
plan_is IsRight s p q is made = subst (IsPlan IsRight s) (sym is) made

pub rule_planned : (Rule : Inference → Type 0) → GivesOne Rule → (s : List Term) (o : Option Draft) (p : Plan) → IsDraft Rule o →
    MatchOption o (p ≡ plan.Nothing) (λ d. p ≡ plan.Follows d) → IsPlan (FollowsBy Rule s) s p
rule_planned Rule one s None p none is = plan_is (FollowsBy Rule s) s p plan.Nothing is (λ c f. none f.0 f.1)
rule_planned Rule one s (Some d) p found is =
    plan_is (FollowsBy Rule s) s p (plan.Follows d) is (λ c.
    both_ways (by_the_one Rule one (inference_of d) found.0 s c) (turned (given_follows d s c found.1)))

pub rewriting_planned : (e : Clause) (x : ℕ) (c : Clause) (j : ℕ) (path : List ℕ) (s : List Term) (o : Option Draft) (p : Plan) → IsRewritingDraft e x c j path o →
    MatchOption o (p ≡ plan.Nothing) (λ d. p ≡ plan.Follows d) → IsPlan (FollowsBy (IsRewriting e x c j path) (s ++ themselves c)) s p
rewriting_planned e x c j path s None p none is =
    plan_is (FollowsBy (IsRewriting e x c j path) (s ++ themselves c)) s p plan.Nothing is (λ k f. none f.0 f.1)
rewriting_planned e x c j path s (Some d) p found is =
    plan_is (FollowsBy (IsRewriting e x c j path) (s ++ themselves c)) s p (plan.Follows d) is (λ k.
    both_ways (by_the_one (IsRewriting e x c j path) (rewriting_one e x c j path) (record (inference_of d) { variables = both_bounds e c }) found.rule (s ++ themselves c) k)
    (turned (rewriting_follows e x c j path d found s k)))

-- ---- steps

-- the plan of a step of which the kind and the premises are known
pub plan_of_known : (step known : Step) (current first second cu fi se : Option Clause) (p : Plan) → step ≡ known → current ≡ cu → first ≡ fi → second ≡ se →
    IsPlan (StepOk known cu fi se) (subst_of known) p → IsPlan (StepOk step current first second) (subst_of step) p
plan_of_known step known current first second cu fi se p a b c d made =
    subst (λ (k : Step). IsPlan (StepOk k current first second) (subst_of k) p) (sym a)
    (subst (λ (k : Option Clause). IsPlan (StepOk known k first second) (subst_of known) p) (sym b)
    (subst (λ (k : Option Clause). IsPlan (StepOk known cu k second) (subst_of known) p) (sym c)
    (subst (λ (k : Option Clause). IsPlan (StepOk known cu fi k) (subst_of known) p) (sym d) made)))

-- the clause as it stands
same_clause : (c d : Clause) → c.literals ≡ d.literals → c ≡ d
same_clause c d same = ap (λ (ls : List Literal). let x : Clause = record { literals = ls } in x) same

pub unchanged : (c : Clause) (ls : List Literal) → ls ≡ c.literals → literals_changed (applied []) ls ++ [] ++ [] ++ [] ++ [] ≡ c.literals
unchanged c ls is =
    let ms = literals_changed (applied []) ls in
    append-nil (ms ++ [] ++ [] ++ []) ∙ append-nil (ms ++ [] ++ []) ∙ append-nil (ms ++ []) ∙ append-nil ms ∙ literals-nothing ls ∙ is

module _ (draft : Draft) (c : Clause) (up : draft.up ≡ 0) (more : draft.more ≡ 0) (left : draft.left.now ≡ []) (right : draft.right.now ≡ []) (literals : concluded_under [] [] draft ≡ c.literals) where
  whole : concluded_under [] (drop draft.up []) draft ≡ c.literals
  whole = ap (λ (n : ℕ). concluded_under [] (drop n []) draft) up ∙ literals

  pub standing_gives : (d : Clause) → (c ≡ d) ↔ GivenBy draft [] d
  standing_gives d = (
    (λ e. record {
      covers = omega (arith, up, more);
      equal = ap (map (applied [])) left ∙ sym (ap (map (applied (drop draft.up []))) right);
      literals = sym (ap (λ (k : Clause). k.literals) e) ∙ sym whole;
    }),
    (λ g. same_clause c d (sym whole ∙ sym g.literals)),
  )

pub standing_planned : (c : Clause) (d : Draft) → ((k : Clause) → (c ≡ k) ↔ GivenBy d [] k) → (k : Clause) → (Some c ≡ Some k) ↔ GivenBy d [] k
standing_planned c d is k = ((λ e. (is k).0 (same_Some c k e)), (λ g. ap Some ((is k).1 g)))

-- ---- what a plan decides

right_given : (IsRight : Clause → Type 0) (s : List Term) (p : Plan) (d : Draft) → p ≡ plan.Follows d → IsPlan IsRight s p → (c : Clause) → IsRight c ↔ GivenBy d s c
right_given IsRight s p d is made = subst (IsPlan IsRight s) is made

pub step_decided : (IsRight : Clause → Type 0) (s u : List Term) (p : Plan) (d : Draft) (c : Clause) (b : Bool) → p ≡ plan.Follows d → u ≡ s → IsPlan IsRight s p →
    IsTrue b ↔ GivenBy d u c → IsTrue b ↔ IsRight c
step_decided IsRight s u p d c b is same made test =
    both_ways (subst (λ (v : List Term). IsTrue b ↔ GivenBy d v c) same test) (turned (right_given IsRight s p d is made c))
