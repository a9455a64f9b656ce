-- Lines of a derivation that are right are right as they are printed, and formed.
use Rattle.std.proofs.Common.{◌≡◌, ℕ, suc, ◌+◌, ◌<◌, ◌≤◌, ◌==◌, ◌&&◌, Bool, true, false, cond, is_some, List, [], ◌∷◌, ◌++◌, length, map, Option, Some, slice_get, refl, sym, ap, ap₂, ◌∙◌, subst, arith}
use Rattle.std.specs.List.{AllByRecursion as Each}
use Rattle.std.proofs.lemmas.Bool.Decides.{nat_tests}
use Rattle.std.proofs.lemmas.List.{length-map}
use Rattle.cd_acts.proofs.Lists.{get_map}
use Rattle.cd_alone.specs.Derived as derived
use Rattle.cd_alone.specs.Derived.{EndsWith, clause_at}
use Rattle.cd_check.specs.Accepted as accepted
use Rattle.cd_check.specs.Accepted.{AreEarlier, IsFromInput, are_earlier, clause_of, clause_of_line}
use Rattle.cd_clause.specs.declared.Clause.{Clause}
use Rattle.cd_clause.specs.declared.Literal.{Literal}
use Rattle.cd_clause.specs.Clauses.{variable_bound_of}
use Rattle.cd_list.proofs.Lists.{all_append, all_get}
use Rattle.cd_machine.specs.Rules.{IsFit, IsSubstFit, clauses_of, is_empty, no_literals}
use Rattle.cd_names.specs.declared.names.Name.{Name}
use Rattle.cd_read.specs.Formed.{IsFormed, IsInputFormed}
use Rattle.cd_read.specs.declared.problem.Input.{Input}
use Rattle.cd_read.specs.declared.problem.Problem.{Problem}
use Rattle.cd_steps.proofs.Bounding.{equality_factoring_bounded, factoring_bounded, paramodulation_bounded, reflexivity_bounded, resolution_bounded, rewriting_bounded}
use Rattle.cd_steps.specs.Bounds.{subst_of}
use Rattle.cd_steps.specs.Premises.{IsRightFrom, IsRightWith}
use Rattle.cd_steps.specs.Rules.{IsEqualityFactoring, IsFactoring, IsParamodulation, IsReflexivity, IsResolution, IsRewriting}
use Rattle.cd_steps.specs.Steps.{themselves}
use Rattle.cd_steps.specs.declared.Step.{Step}
use Rattle.cd_steps.specs.declared.Step.TheVariants as step
use Rattle.cd_term.specs.declared.Term.{Term}
use Rattle.cd_text.specs.declared.line.Line.{Line}
use Rattle.cd_text.specs.declared.line.LineRole.{LineRole}
use Rattle.cd_text.specs.declared.line.LineRole.TheVariants.{Plain}
use Rattle.cd_text.specs.declared.line.LineSource.{LineSource}
use Rattle.cd_text.specs.declared.line.LineSource.TheVariants.{Inference}
use Rattle.cd_text.specs.Formed.{IsLineFormed, IsSourceFormed, IsStepFormed}
use Rattle.cd_build.specs.Derivation.{input_role, input_source, printed, role_of, source_of}
use Rattle.cd_build.proofs.Formed.{clause_few, clause_formed, subst_formed}
use Rattle.cd_build.proofs.Low.{beside_low, follows_low, tidied_low}
use Rattle.cd_build.proofs.Placed.{literal_place, paramodulation_placed, second_place, side_is}

-- ---- clauses of lines

-- a clause that a line may have
pub record IsGood (p : Problem) (c : Clause) : Type 0 where
  pub fit : IsFit p c
  pub few : variable_bound_of c ≤ 65536

abbrev clauses_in : List derived.Line → List Clause
clauses_in ls = map (λ l. l.clause) ls

abbrev AreGood : Problem → List derived.Line → Type 0
AreGood p ls = Each (λ l. IsGood p l.clause) ls

good_at : (p : Problem) (ls : List derived.Line) (n : ℕ) (c : Clause) → AreGood p ls → clause_at ls n ≡ Some c → IsGood p c
good_at p [] n c good is = absurd cc
good_at p (l ∷ ls) n c good is = by (l.number == n) is (good_at p ls n c good.1)
  where
    by : (b : Bool) → cond b (Some l.clause) (clause_at ls n) ≡ Some c → (clause_at ls n ≡ Some c → IsGood p c) → IsGood p c
    by true here later = let same : l.clause ≡ c = cc in subst (IsGood p) same good.0
    by false here later = later here

good_all : (p : Problem) (ls : List derived.Line) (parents : List ℕ) (cs : List Clause) → AreGood p ls → map (clause_at ls) parents ≡ map Some cs → Each (IsGood p) cs
good_all p ls [] [] good are = tt
good_all p ls [] (c ∷ cs) good are = absurd cc
good_all p ls (n ∷ ns) [] good are = absurd cc
good_all p ls (n ∷ ns) (c ∷ cs) good are =
    let first : clause_at ls n ≡ Some c = cc in
    let others : map (clause_at ls) ns ≡ map Some cs = cc in
    (good_at p ls n c good first, good_all p ls ns cs good others)

-- ---- by places

-- the numbers go on from k
abbrev AreNumbered : ℕ → List derived.Line → Type 0
AreNumbered k [] = Unit {0}
AreNumbered k (l ∷ ls) = (l.number ≡ k + 1) × AreNumbered (k + 1) ls

numbered_more : (k : ℕ) (xs : List derived.Line) (l : derived.Line) → AreNumbered k xs → l.number ≡ k + length xs + 1 → AreNumbered k (xs ++ l ∷ [])
numbered_more k [] l all is = (omega (arith, is), tt)
numbered_more k (x ∷ xs) l all is = (all.0, numbered_more (k + 1) xs l all.1 (omega (arith, is)))

-- what is found by its number stands there
record StandsAt (k : ℕ) (xs : List derived.Line) (n : ℕ) (c : Clause) : Type 0 where
  place : ℕ
  number : n ≡ k + place + 1
  there : slice_get (clauses_in xs) place ≡ Some c

at_place : (k : ℕ) (xs : List derived.Line) (n : ℕ) (c : Clause) → AreNumbered k xs → clause_at xs n ≡ Some c → StandsAt k xs n c
at_place k [] n c all is = absurd cc
at_place k (x ∷ xs) n c all is = by (x.number == n) refl is (at_place (k + 1) xs n c all.1)
  where
    by : (b : Bool) → (x.number == n) ≡ b → cond b (Some x.clause) (clause_at xs n) ≡ Some c → (clause_at xs n ≡ Some c → StandsAt (k + 1) xs n c)
        → StandsAt k (x ∷ xs) n c
    by true same here later =
        let e : x.number ≡ n = grind (arith, nat_tests, same) in record { place = 0; number = omega (arith, e, all.0); there = here }
    by false other here later = let h = later here in record { place = suc h.place; number = omega (arith, h.number); there = h.there }

at_line : (xs : List derived.Line) (n : ℕ) (c : Clause) → AreNumbered 0 xs → clause_at xs n ≡ Some c → (0 < n) × (clause_of_line (clauses_in xs) n ≡ Some c)
at_line xs n c all is =
    let h = at_place 0 xs n c all is in
    let e : suc h.place ≡ n = omega (arith, h.number) in
    (omega (arith, h.number), subst (λ (m : ℕ). clause_of_line (clauses_in xs) m ≡ Some c) e h.there)

-- the parents are lines by their places too
record AreFound (ys : List Clause) (parents : List ℕ) (cs : List Clause) : Type 0 where
  are : map (clause_of_line ys) parents ≡ map Some cs
  earlier : are_earlier ys parents ≡ true
  some : Each (λ n. 0 < n) parents
  count : length parents ≡ length cs

are_found : (xs : List derived.Line) (parents : List ℕ) (cs : List Clause) → AreNumbered 0 xs → map (clause_at xs) parents ≡ map Some cs → AreFound (clauses_in xs) parents cs
are_found xs [] [] all are = record { are = refl; earlier = refl; some = tt; count = refl }
are_found xs [] (c ∷ cs) all are = absurd cc
are_found xs (n ∷ ns) [] all are = absurd cc
are_found xs (n ∷ ns) (c ∷ cs) all are =
    let first : clause_at xs n ≡ Some c = cc in
    let others : map (clause_at xs) ns ≡ map Some cs = cc in
    let h = at_line xs n c all first in
    let r = are_found xs ns cs all others in
    record {
      are = ap₂ (λ (o : Option Clause) (os : List (Option Clause)). o ∷ os) h.1 r.are;
      earlier = ap (λ (o : Option Clause). is_some o && are_earlier (clauses_in xs) ns) h.1 ∙ r.earlier;
      some = (h.0, r.some);
      count = ap suc r.count;
    }

-- ---- rules

-- what a rule is printed with is formed, and what it gives has few variables
record IsRuled (p : Problem) (count : ℕ) (s : Step) (c : Clause) : Type 0 where
  step_is : IsStepFormed p.symbols count s
  few : variable_bound_of c ≤ 65536

module _ (p : Problem) (c : Clause) (fit : IsFit p c) where
  resolve_ruled : (a b : Name) (i j : ℕ) (t : List Term) (cs : List Clause) → Each (IsGood p) cs → IsSubstFit p t → IsRightFrom (step.Resolve a i b j t) cs c → IsRuled p (length cs) (step.Resolve a i b j t) c
  resolve_ruled a b i j t [] good sub right = absurd right.1
  resolve_ruled a b i j t (x ∷ []) good sub right = absurd right.1
  resolve_ruled a b i j t (x ∷ y ∷ cs) good sub right =
      let f = right.1 in
      record {
        step_is = (right.0, literal_place x i _ good.0.fit.within f.1.positive, second_place x y j _ good.1.0.fit.within f.1.negative, subst_formed p t sub);
        few = follows_low (IsResolution x i y j) t 65536 c (resolution_bounded x i y j) f sub.within.1;
      }

  factor_ruled : (a : Name) (i j : ℕ) (t : List Term) (cs : List Clause) → Each (IsGood p) cs → IsSubstFit p t → IsRightFrom (step.Factor a i j t) cs c → IsRuled p (length cs) (step.Factor a i j t) c
  factor_ruled a i j t [] good sub right = absurd right.1
  factor_ruled a i j t (x ∷ cs) good sub right =
      let f = right.1 in
      record {
        step_is = (right.0, literal_place x i _ good.0.fit.within f.1.first, literal_place x j _ good.0.fit.within f.1.second, subst_formed p t sub);
        few = follows_low (IsFactoring x i j) t 65536 c (factoring_bounded x i j) f sub.within.1;
      }

  refl_ruled : (a : Name) (i : ℕ) (t : List Term) (cs : List Clause) → Each (IsGood p) cs → IsSubstFit p t → IsRightFrom (step.Refl a i t) cs c → IsRuled p (length cs) (step.Refl a i t) c
  refl_ruled a i t [] good sub right = absurd right.1
  refl_ruled a i t (x ∷ cs) good sub right =
      let f = right.1 in
      record {
        step_is = (right.0, literal_place x i _ good.0.fit.within f.1.equation, subst_formed p t sub);
        few = follows_low (IsReflexivity x i) t 65536 c (reflexivity_bounded x i) f sub.within.1;
      }

  eqfac_ruled : (a : Name) (i s j z : ℕ) (t : List Term) (cs : List Clause) → Each (IsGood p) cs → IsSubstFit p t → IsRightFrom (step.EqFac a i s j z t) cs c → IsRuled p (length cs) (step.EqFac a i s j z t) c
  eqfac_ruled a i s j z t [] good sub right = absurd right.1
  eqfac_ruled a i s j z t (x ∷ cs) good sub right =
      let f = right.1 in
      record {
        step_is = (
          right.0,
          literal_place x i _ good.0.fit.within f.1.at_first,
          side_is s f.1.first f.1.left f.1.left_other f.1.first_sides,
          literal_place x j _ good.0.fit.within f.1.at_second,
          side_is z f.1.second f.1.right f.1.right_other f.1.second_sides,
          subst_formed p t sub,
        );
        few = follows_low (IsEqualityFactoring x i s j z) t 65536 c (equality_factoring_bounded x i s j z) f sub.within.1;
      }

  para_ruled : (a b : Name) (i s j : ℕ) (path : List ℕ) (t : List Term) (cs : List Clause) → Each (IsGood p) cs → IsSubstFit p t → IsRightFrom (step.Para a i s b j path t) cs c
      → IsRuled p (length cs) (step.Para a i s b j path t) c
  para_ruled a b i s j path t [] good sub right = absurd right.1
  para_ruled a b i s j path t (x ∷ []) good sub right = absurd right.1
  para_ruled a b i s j path t (x ∷ y ∷ cs) good sub right =
      let f = right.1 in
      let at = paramodulation_placed x y i s j path f.0 good.0.fit.within good.1.0.fit.within f.1 in
      record {
        step_is = (right.0, at.giver, at.side, at.taker, at.path_is, subst_formed p t sub);
        few = follows_low (IsParamodulation x i s y j path) t 65536 c (paramodulation_bounded x i s y j path) f sub.within.1;
      }

  rewrite_ruled : (a : Name) (s j : ℕ) (path : List ℕ) (t : List Term) (cs : List Clause) → Each (IsGood p) cs → IsSubstFit p t → IsRightFrom (step.Rewrite a s j path t) cs c
      → IsRuled p (length cs) (step.Rewrite a s j path t) c
  rewrite_ruled a s j path t [] good sub right = absurd right.1
  rewrite_ruled a s j path t (x ∷ []) good sub right = absurd right.1
  rewrite_ruled a s j path t (x ∷ e ∷ cs) good sub right =
      let f = right.1 in
      let at = paramodulation_placed e x 0 s j path f.0 good.1.0.fit.within good.0.fit.within f.1.into in
      record {
        step_is = (right.0, at.side, at.taker, at.path_is, subst_formed p t sub);
        few = follows_low (IsRewriting e s x j path) (t ++ themselves x) 65536 c (rewriting_bounded e s x j path) f (beside_low t x 65536 sub.within.1 good.0.few);
      }

  tidy_ruled : (cs : List Clause) → IsRightFrom step.Tidy cs c → IsRuled p (length cs) step.Tidy c
  tidy_ruled [] right = absurd right.1
  tidy_ruled (x ∷ cs) right = record { step_is = right.0; few = tidied_low x c right.1 fit.within }

-- ---- sources

-- a printed line is right behind the earlier ones, and formed
record IsFine (p : Problem) (before : List Clause) (l : Line) (role : LineRole) (c : Clause) (source : LineSource) : Type 0 where
  parents : AreEarlier before source
  input : IsFromInput p l source
  step_is : accepted.IsInferred before c source
  form : IsSourceFormed p.symbols role source
  few : variable_bound_of c ≤ 65536

module _ (p : Problem) (formed : IsFormed p) (before : List derived.Line) (numbered : AreNumbered 0 before) (good : AreGood p before) (l : Line) (c : Clause) (is : c ≡ l.clause) (fit : IsFit p c) (parents : List ℕ) where
  ruled : (s : Step) → ((cs : List Clause) → Each (IsGood p) cs → IsRightFrom s cs c → IsRuled p (length cs) s c) → IsRightWith (map (clause_at before) parents) s c
      → IsFine p (clauses_in before) l Plain c (Inference s parents)
  ruled s rule r =
      let found = are_found before parents r.clauses numbered r.are in
      let x = rule r.clauses (good_all p before parents r.clauses good r.are) r.right in
      record {
        parents = found.earlier;
        input = tt;
        step_is = record { clauses = r.clauses; are = found.are; right = r.right };
        form = (subst (λ (n : ℕ). IsStepFormed p.symbols n s) (sym found.count) x.step_is, found.some);
        few = x.few;
      }

  given : (k : ℕ) (cs : List Clause) → l.role ≡ input_role (slice_get p.inputs k) → slice_get (clauses_of p) k ∷ map (clause_at before) parents ≡ map Some cs → IsRightFrom (step.Input k) cs c
      → IsFine p (clauses_in before) l (input_role (slice_get p.inputs k)) c (input_source (slice_get p.inputs k))
  given k [] role are right = absurd cc
  given k (d ∷ ds) role are right =
      let there : slice_get (clauses_of p) k ≡ Some d = cc in
      let same : d ≡ c = cc right.1 in
      let i = get_map (λ (x : Input). x.clause) p.inputs k d there in
      let input = all_get (IsInputFormed p.symbols) p.inputs k i.0 formed.inputs i.1 in
      let own : i.0.clause ≡ c = i.2 ∙ same in
      subst (λ (o : Option Input). IsFine p (clauses_in before) l (input_role o) c (input_source o)) (sym i.1) (record {
        parents = tt;
        input = record { place = k; input = i.0; there = i.1; role = role ∙ ap input_role i.1; path_is = refl; label_is = refl; clause_is = own ∙ is };
        step_is = tt;
        form = input.0;
        few = subst (λ (d : Clause). variable_bound_of d ≤ 65536) own (clause_few p i.0.clause input.1);
      })

  source_fine : (s : Step) → l.role ≡ role_of p s → derived.IsInferred p before s parents c → IsSubstFit p (subst_of s) → IsFine p (clauses_in before) l (role_of p s) c (source_of p s parents)
  source_fine (step.Input k) role inferred sub = given k inferred.1.clauses role inferred.1.are inferred.1.right
  source_fine (step.Copy n) role inferred sub = absurd (let z : true ≡ false = inferred.0 in cc)
  source_fine (step.Resolve a i b j t) role inferred sub = ruled (step.Resolve a i b j t) (λ cs g r. resolve_ruled p c fit a b i j t cs g sub r) inferred.1
  source_fine (step.Factor a i j t) role inferred sub = ruled (step.Factor a i j t) (λ cs g r. factor_ruled p c fit a i j t cs g sub r) inferred.1
  source_fine (step.Refl a i t) role inferred sub = ruled (step.Refl a i t) (λ cs g r. refl_ruled p c fit a i t cs g sub r) inferred.1
  source_fine (step.EqFac a i s j z t) role inferred sub = ruled (step.EqFac a i s j z t) (λ cs g r. eqfac_ruled p c fit a i s j z t cs g sub r) inferred.1
  source_fine (step.Para a i s b j path t) role inferred sub = ruled (step.Para a i s b j path t) (λ cs g r. para_ruled p c fit a b i s j path t cs g sub r) inferred.1
  source_fine (step.Rewrite a s j path t) role inferred sub = ruled (step.Rewrite a s j path t) (λ cs g r. rewrite_ruled p c fit a s j path t cs g sub r) inferred.1
  source_fine step.Tidy role inferred sub = ruled step.Tidy (λ cs g r. tidy_ruled p c fit cs r) inferred.1

-- ---- lines

clauses_more : (xs : List derived.Line) (l : derived.Line) → clauses_in (xs ++ l ∷ []) ≡ clauses_in xs ++ l.clause ∷ []
clauses_more [] l = refl
clauses_more (x ∷ xs) l = ap (λ (cs : List Clause). x.clause ∷ cs) (clauses_more xs l)

-- right lines are right by their places, as they are printed, and formed
abbrev pub ArePrinted : Problem → List Clause → List derived.Line → Type 0
ArePrinted p before ls = accepted.AreLinesOk p before (map (printed p) ls) × Each (IsLineFormed p.symbols) (map (printed p) ls)

module _ (p : Problem) (formed : IsFormed p) where
  lines_printed : (before ls : List derived.Line) → AreNumbered 0 before → AreGood p before → derived.AreLinesOk p before ls → ArePrinted p (clauses_in before) ls
  lines_printed before [] numbered good ok = (tt, tt)
  lines_printed before (l ∷ ls) numbered good ok =
      let h = source_fine p formed before numbered good (printed p l) l.clause refl ok.0.fit l.parents l.step refl ok.0.inferred ok.0.subst in
      let own : IsGood p l.clause = record { fit = ok.0.fit; few = h.few } in
      let more = lines_printed (before ++ l ∷ []) ls (numbered_more 0 before l numbered (omega (arith, ok.0.number))) (all_append (λ x. IsGood p x.clause) before (l ∷ []) good (own, tt)) ok.1 in
      let here : accepted.IsLineOk p (clauses_in before) (printed p l) = record {
        number = ok.0.number ∙ ap (λ (n : ℕ). n + 1) (sym (length-map before (λ (x : derived.Line). x.clause)));
        parents = h.parents;
        input = h.input;
        step = h.step_is;
      } in
      let form : IsLineFormed p.symbols (printed p l) = record {
        number = omega (arith, ok.0.number);
        clause = clause_formed p l.clause ok.0.fit h.few;
        bounds = ok.0.fit.within;
        source = h.form;
      } in
      ((here, subst (λ (cs : List Clause). accepted.AreLinesOk p cs (map (printed p) ls)) (clauses_more before l) more.0), (form, more.1))

  pub all_printed : (ls : List derived.Line) → derived.AreLinesOk p [] ls → ArePrinted p [] ls
  all_printed ls ok = lines_printed [] ls tt tt ok

none_left : (c : Clause) → is_empty c ≡ true → c.literals ≡ []
unfolding is_empty
none_left c h = by c.literals h
  where
    by : (ls : List Literal) → no_literals ls ≡ true → ls ≡ []
    by [] g = refl
    by (l ∷ ls) g = absurd cc

pub ends_printed : (p : Problem) (ls : List derived.Line) → EndsWith (λ c. is_empty c ≡ true) ls → accepted.EndsEmpty (map clause_of (map (printed p) ls))
ends_printed p [] h = absurd h
ends_printed p (l ∷ []) h = none_left l.clause h
ends_printed p (l ∷ m ∷ ls) h = ends_printed p (m ∷ ls) h
