-- Lines of steps that are added one after another.
use Rattle.std.proofs.Common.{◌≡◌, ℕ, ◌+◌, ◌-◌, false, inl, inr, List, [], ◌∷◌, ◌++◌, length, map, refl, ap, sym, ◌∙◌, subst, arith, append_assoc, append-nil}
use Rattle.std.specs.Prelude.{slice_get, option_map, Option, Some, None}
use Rattle.std.proofs.lemmas.List.{length-append, map-append}
use Rattle.cd_alone.specs.Derived as derived
use Rattle.cd_alone.specs.Derived.{AreStepLines, line_of}
use Rattle.cd_clause.specs.declared.Clause.{Clause}
use Rattle.cd_ledger.specs.Records.{Registry, is_copy, recorded}
use Rattle.cd_ledger.specs.declared.records.Known.{Known}
use Rattle.cd_list.proofs.Lists.{get_at}
use Rattle.cd_machine.specs.Right.{IsReplayed, Lead, standing}
use Rattle.cd_names.specs.declared.names.Name.{Name}
use Rattle.cd_read.specs.declared.problem.Problem.{Problem}
use Rattle.cd_steps.proofs.Registries.{right_steps_give_one}
use Rattle.cd_steps.specs.Premises.{IsRightFrom, premises}
use Rattle.cd_steps.specs.declared.Premise.{Premise}
use Rattle.cd_steps.specs.declared.Premise.TheVariants as premise
use Rattle.cd_steps.specs.declared.Step.{Step}
use Rattle.cd_steps.specs.declared.Step.TheVariants as step
use Rattle.cd_text.specs.declared.line.Line.{Line}
use Rattle.cd_build.specs.Derivation.{printed}
use Rattle.cd_build.specs.declared.derive.Before.{Before}
use Rattle.cd_build.specs.declared.derive.Before.TheVariants.{Nothing, Copied, Printed}
use Rattle.cd_build.specs.Building.{AreAdded, IsAdded, IsPassed, clause_before, last_clause, line_clause, number_before, number_of, parents_in}

-- ---- parents

pub parents_are : (num : Name → ℕ) (cur : ℕ) (s : Step) → is_copy s ≡ false → parents_in num cur (premises s) ≡ derived.parents_of num cur s
parents_are num cur (step.Input k) makes = refl
parents_are num cur (step.Copy n) makes = absurd cc
parents_are num cur (step.Resolve a i b j t) makes = refl
parents_are num cur (step.Factor a i j t) makes = refl
parents_are num cur (step.Refl a i t) makes = refl
parents_are num cur (step.EqFac a i s j z t) makes = refl
parents_are num cur (step.Para a i s b j path t) makes = refl
parents_are num cur (step.Rewrite a s j path t) makes = refl
parents_are num cur step.Tidy makes = refl

pub two_parents : (num : Name → ℕ) (cur : ℕ) (p : Premise) (qs : List Premise) → parents_in num cur (p ∷ []) ++ parents_in num cur qs ≡ parents_in num cur (p ∷ qs)
two_parents num cur premise.Before qs = refl
two_parents num cur (premise.Given k) qs = refl
two_parents num cur (premise.Named n) qs = refl

-- ---- what is added

-- the lines of the steps before the rest, and what follows of the lines of the rest
pub record IsJoining (p : Problem) (es : List Known) (numbers : List ℕ) (steps : List Step) (start : List Line) (before : Before) (rest : List Step) (lines : List Line) : Type 0 where
  pub clause : Clause
  pub here : List derived.Line
  pub lines_are : lines ≡ start ++ map (printed p) here
  pub leads : Lead p (λ n. recorded n es) (clause_before es lines before) rest clause
  pub joins : (more : List derived.Line) (end : ℕ) → AreStepLines p (λ n. recorded n es) (number_of es numbers) (length lines) (number_before es numbers lines before) (clause_before es lines before) rest clause more end
      → AreStepLines p (λ n. recorded n es) (number_of es numbers) (length start) 0 None steps clause (here ++ more) end

copied_clause : (p : Problem) (R : Registry) (current : Option Clause) (n : Name) (c : Clause) → IsReplayed p R current (step.Copy n) c → option_map (λ r. r.clause) (R n) ≡ Some c
copied_clause p R current n c r = go r.right.clauses r.right.are r.right.right
  where
    go : (cs : List Clause) → option_map (λ r. r.clause) (R n) ∷ [] ≡ map Some cs → IsRightFrom (step.Copy n) cs c → option_map (λ r. r.clause) (R n) ≡ Some c
    go [] are right = absurd cc
    go (d ∷ []) are right = (let there : option_map (λ r. r.clause) (R n) ≡ Some d = cc in there ∙ right.1)
    go (d ∷ e ∷ cs) are right = absurd cc

last_pushed : (lines : List Line) (l : Line) → last_clause (lines ++ l ∷ []) ≡ Some l.clause
last_pushed lines l =
    let place : length (lines ++ l ∷ []) - 1 ≡ length lines = omega (arith, length-append lines (l ∷ [])) in
    ap (λ (k : ℕ). line_clause (slice_get (lines ++ l ∷ []) k)) place ∙ ap line_clause (get_at lines [] l)

pub joining_start : (p : Problem) (es : List Known) (numbers : List ℕ) (steps : List Step) (lines : List Line) → (c : Clause) × Lead p (λ n. recorded n es) None steps c → IsJoining p es numbers steps lines Nothing steps lines
joining_start p es numbers steps lines led = record {
  clause = led.0;
  here = [];
  lines_are = sym (append-nil lines);
  leads = led.1;
  joins = λ more end h. h;
}

module _ (p : Problem) (es : List Known) (numbers : List ℕ) (steps : List Step) (start : List Line) (before : Before) (s : Step) (rest : List Step) (lines : List Line) (j : IsJoining p es numbers steps start before (s ∷ rest) lines) where
  pub joining_given : (c : Clause) × IsReplayed p (λ n. recorded n es) (clause_before es lines before) s c
  joining_given = (j.leads.0, j.leads.1)

  joining_copy : (n : Name) → s ≡ step.Copy n → IsJoining p es numbers steps start (Copied n) rest lines
  joining_copy n is =
      let d = j.leads.0 in
      let same = copied_clause p (λ m. recorded m es) (clause_before es lines before) n d (subst (λ (t : Step). IsReplayed p (λ m. recorded m es) (clause_before es lines before) t d) is j.leads.1) in
      record {
        clause = j.clause;
        here = j.here;
        lines_are = j.lines_are;
        leads = subst (λ (o : Option Clause). Lead p (λ m. recorded m es) o rest j.clause) (sym same) j.leads.2;
        joins = λ more end h.
            j.joins more end (d, j.leads.1, inl (n, is, subst (λ (o : Option Clause). AreStepLines p (λ m. recorded m es) (number_of es numbers) (length lines) (number_of es numbers n) o rest j.clause more end) same h));
      }

  joining_line : (new : List Line) → is_copy s ≡ false → IsAdded p es numbers before s lines new → IsJoining p es numbers steps start Printed rest new
  joining_line new makes added =
      let num = number_of es numbers in
      let k = length lines in
      let cur = number_before es numbers lines before in
      let d = j.leads.0 in
      let same : added.0 ≡ d = right_steps_give_one (standing p (λ m. recorded m es) (clause_before es lines before)) s added.0 d added.1.right j.leads.1.right in
      let l : derived.Line = line_of num k cur s d in
      let is : new ≡ lines ++ printed p l ∷ [] = added.2 ∙ ap (λ (c : Clause). lines ++ printed p (line_of num k cur s c) ∷ []) same in
      let count : length new ≡ k + 1 = omega (arith, ap (λ (ls : List Line). length ls) is, length-append lines (printed p l ∷ [])) in
      let last : last_clause new ≡ Some d = ap last_clause is ∙ last_pushed lines (printed p l) in
      record {
        clause = j.clause;
        here = j.here ++ l ∷ [];
        lines_are = is ∙ ap (λ (ls : List Line). ls ++ printed p l ∷ []) j.lines_are ∙ append_assoc start (map (printed p) j.here) (printed p l ∷ [])
            ∙ ap (λ (ls : List Line). start ++ ls) (sym (map-append (printed p) j.here (l ∷ [])));
        leads = subst (λ (o : Option Clause). Lead p (λ m. recorded m es) o rest j.clause) (sym last) j.leads.2;
        joins = λ more end h.
            let behind = subst (λ (n : ℕ). AreStepLines p (λ m. recorded m es) num n n (Some d) rest j.clause more end) count
            (subst (λ (o : Option Clause). AreStepLines p (λ m. recorded m es) num (length new) (length new) o rest j.clause more end) last h) in
            subst (λ (ls : List derived.Line). AreStepLines p (λ m. recorded m es) num (length start) 0 None steps j.clause ls end) (sym (append_assoc j.here (l ∷ []) more))
            (j.joins (l ∷ more) end (d, j.leads.1, inr (makes, (more, refl, behind))));
      }

  pub joining_more : (new : List Line) (after : Before) → IsPassed p es numbers before s lines new after → IsJoining p es numbers steps start after rest new
  joining_more new after (inl x) =
      subst (λ (a : Before). IsJoining p es numbers steps start a rest new) (sym x.3) (subst (λ (ls : List Line). IsJoining p es numbers steps start (Copied x.0) rest ls) (sym x.2) (joining_copy x.0 x.1))
  joining_more new after (inr x) = subst (λ (a : Before). IsJoining p es numbers steps start a rest new) (sym x.2) (joining_line new x.0 x.1)

pub joining_done : (p : Problem) (es : List Known) (numbers : List ℕ) (steps : List Step) (start : List Line) (before : Before) (lines : List Line) (end : ℕ) → end ≡ number_before es numbers lines before
    → IsJoining p es numbers steps start before [] lines → AreAdded p es numbers steps start lines end
joining_done p es numbers steps start before lines end is j = (
  j.clause,
  j.here,
  subst (λ (ls : List derived.Line). AreStepLines p (λ m. recorded m es) (number_of es numbers) (length start) 0 None steps j.clause ls end) (append-nil j.here) (j.joins [] end (refl, is, j.leads)),
  j.lines_are,
)
