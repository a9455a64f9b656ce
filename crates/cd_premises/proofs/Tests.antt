-- Whether a step can be replayed is decided, and so is whether a clause is fit.
use Rattle.std.proofs.Common.{◌≡◌, ◌⊎◌, inl, inr, ℕ, Bool, true, false, MatchBool, List, [], ◌∷◌, ◌++◌, length, map, sum_by, refl, ap, ap₂, sym, ◌∙◌, subst, arith}
use Rattle.std.specs.Prelude.{slice_get, Option, Some, None}
use Rattle.std.proofs.lemmas.List.{length-map}
use Rattle.std.proofs.lemmas.Option.{same_Some}
use Rattle.cd_list.specs.Decisions.{Decided}
use Rattle.cd_list.proofs.Decisions.{both, given, number, truth, at_most}
use Rattle.cd_term.specs.declared.Term.{Term}
use Rattle.cd_term.specs.Terms.{applied, greatest, size_of, depth_of, bound_of}
use Rattle.cd_term.specs.Symbols.{Symbols, is_over, AreOver}
use Rattle.cd_term.proofs.Deciding.{all_terms_decide}
use Rattle.cd_clause.specs.declared.Atom.{Atom}
use Rattle.cd_clause.specs.declared.Atom.TheVariants.{Truth, Pred, Equal}
use Rattle.cd_clause.specs.declared.Literal.{Literal}
use Rattle.cd_clause.specs.declared.Clause.{Clause}
use Rattle.cd_clause.specs.Clauses.{literals_changed, IsTidied}
use Rattle.cd_clause.specs.Over.{AtomOver, LiteralsOver}
use Rattle.cd_clause.proofs.Deciding as clauses
use Rattle.cd_clause.proofs.TidyForms.{tidy_forms_exist}
use Rattle.cd_read.specs.declared.problem.Problem.{Problem}
use Rattle.cd_steps.specs.declared.Premise.{Premise}
use Rattle.cd_steps.specs.declared.Step.{Step}
use Rattle.cd_steps.specs.declared.Step.TheVariants as step
use Rattle.cd_steps.specs.Rules.{Inference, FollowsBy, IsResolution, IsFactoring, IsReflexivity, IsEqualityFactoring, IsParamodulation, IsRewriting}
use Rattle.cd_steps.specs.Steps.{OfOne, OfTwo, StepOk, themselves}
use Rattle.cd_steps.specs.Premises.{premises, goes_on, IsRightOver}
use Rattle.cd_steps.specs.Bounds.{subst_of}
use Rattle.cd_steps.proofs.Regular.{resolutions_are_regular, factorings_are_regular, reflexivities_are_regular, equality_factorings_are_regular, paramodulations_are_regular, rewritings_are_regular}
use Rattle.cd_steps.proofs.Registries.{right_steps_give_one}
use Rattle.cd_infer.proofs.Choosing.{SomeOf, resolutions, factorings, reflexivities, equality_factorings, paramodulations}
use Rattle.cd_ledger.specs.Records.{Registry}
use Rattle.cd_machine.specs.Rules.{symbols_of, IsFit, IsSubstFit}
use Rattle.cd_machine.specs.Right.{standing, IsReplayed}
use Rattle.cd_alone.specs.Alone.{Tests}

-- something has a property, or nothing has
abbrev pub Found : {A : Type 0} → (A → Type 0) → Type 0
Found {A} P = ((x : A) × P x) ⊎ ((x : A) → P x → ⊥)

-- ---- what a step gives

follows : (Rule : Inference → Type 0) → ((x y : Inference) → Rule x → Rule y → x ≡ y) → Decided (SomeOf Rule) → (s : List Term) → Found (λ c. FollowsBy Rule s c)
follows Rule one (inr none) s = inr (λ c f. none (f.0, f.1))
follows Rule one (inl i) s = go (both (number (length s) i.0.variables) (all_terms_decide (map (applied s) i.0.left) (map (applied s) i.0.right)))
  where
    go : Decided ((length s ≡ i.0.variables) × (map (applied s) i.0.left ≡ map (applied s) i.0.right)) → Found (λ c. FollowsBy Rule s c)
    go (inl e) = inl (record { literals = literals_changed (applied s) i.0.conclusion }, (i.0, i.1, record { covers = e.0; equal = e.1; literals = refl }))
    go (inr fails) = inr (λ c f. fails (subst (λ (x : Inference). (length s ≡ x.variables) × (map (applied s) x.left ≡ map (applied s) x.right)) (one f.0 i.0 f.1 i.1) (f.2.covers, f.2.equal)))

rewritings : (e : Clause) (s : ℕ) (c : Clause) (j : ℕ) (path : List ℕ) → Decided (SomeOf (IsRewriting e s c j path))
rewritings e s c j path = given (λ x. (x.1.0, record { one = x.0; into = x.1.1 })) (λ x. (x.1.one, (x.0, x.1.into))) (both (number (length e.literals) 1) (paramodulations e 0 s c j path))

of_one : (o : Option Clause) (P : Clause → Clause → Type 0) → ((a : Clause) → Found (P a)) → Found (λ c. OfOne o (λ a. P a c))
of_one None P f = inr (λ c x. x)
of_one (Some a) P f = f a

of_two : (o u : Option Clause) (P : Clause → Clause → Clause → Type 0) → ((a b : Clause) → Found (P a b)) → Found (λ c. OfTwo o u (λ a b. P a b c))
of_two None u P f = inr (λ c x. x)
of_two (Some a) None P f = inr (λ c x. x)
of_two (Some a) (Some b) P f = f a b

the_same : (o : Option Clause) → Found (λ c. o ≡ Some c)
the_same None = inr (λ c e. cc)
the_same (Some a) = inl (a, refl)

steps_found : (s : Step) (current first second : Option Clause) → Found (λ c. StepOk s current first second c)
steps_found (step.Input k) current first second = the_same first
steps_found (step.Copy n) current first second = the_same first
steps_found (step.Resolve m i n j t) current first second =
    of_two first second (λ a b c. FollowsBy (IsResolution a i b j) t c) (λ a b. follows (IsResolution a i b j) (resolutions_are_regular a i b j).one (resolutions a i b j) t)
steps_found (step.Factor n i j t) current first second =
    of_one first (λ a c. FollowsBy (IsFactoring a i j) t c) (λ a. follows (IsFactoring a i j) (factorings_are_regular a i j).one (factorings a i j) t)
steps_found (step.Refl n i t) current first second =
    of_one first (λ a c. FollowsBy (IsReflexivity a i) t c) (λ a. follows (IsReflexivity a i) (reflexivities_are_regular a i).one (reflexivities a i) t)
steps_found (step.EqFac n i s j z t) current first second =
    of_one first (λ a c. FollowsBy (IsEqualityFactoring a i s j z) t c) (λ a. follows (IsEqualityFactoring a i s j z) (equality_factorings_are_regular a i s j z).one (equality_factorings a i s j z) t)
steps_found (step.Para m i s n j path t) current first second =
    of_two first second (λ a b c. FollowsBy (IsParamodulation a i s b j path) t c) (λ a b. follows (IsParamodulation a i s b j path) (paramodulations_are_regular a i s b j path).one (paramodulations a i s b j path) t)
steps_found (step.Rewrite n s j path t) current first second =
    of_two first current (λ e b c. FollowsBy (IsRewriting e s b j path) (t ++ themselves b) c)
    (λ e b. follows (IsRewriting e s b j path) (rewritings_are_regular e s b j path).one (rewritings e s b j path) (t ++ themselves b))
steps_found step.Tidy current first second = of_one current IsTidied (λ a. inl (tidy_forms_exist a))

-- ---- what a step gives over what its premises stand for

all_there : (os : List (Option Clause)) → Found (λ (cs : List Clause). os ≡ map Some cs)
all_there [] = inl ([], refl)
all_there (None ∷ os) = inr never
  where
    never : (cs : List Clause) → None ∷ os ≡ map Some cs → ⊥
    never [] e = cc
    never (c ∷ cs) e = cc
all_there (Some a ∷ os) = go (all_there os)
  where
    none_behind : ((cs : List Clause) → os ≡ map Some cs → ⊥) → (cs : List Clause) → Some a ∷ os ≡ map Some cs → ⊥
    none_behind fails [] e = cc
    none_behind fails (c ∷ cs) e = fails cs (let f : os ≡ map Some cs = cc in f)

    go : Found (λ (cs : List Clause). os ≡ map Some cs) → Found (λ (cs : List Clause). Some a ∷ os ≡ map Some cs)
    go (inl x) = inl (a ∷ x.0, ap (λ (us : List (Option Clause)). Some a ∷ us) x.1)
    go (inr fails) = inr (none_behind fails)

same_clauses : (cs ds : List Clause) → map Some cs ≡ map Some ds → cs ≡ ds
same_clauses [] [] e = refl
same_clauses [] (d ∷ ds) e = absurd cc
same_clauses (c ∷ cs) [] e = absurd cc
same_clauses (c ∷ cs) (d ∷ ds) e =
    let here : Some c ≡ Some d = cc in
    let there : map Some cs ≡ map Some ds = cc in
    ap₂ (λ (x : Clause) (xs : List Clause). x ∷ xs) (same_Some c d here) (same_clauses cs ds there)

abbrev At : Bool → Step → List Clause → Clause → Type 0
At b s cs c = MatchBool b (StepOk s (slice_get cs 0) (slice_get cs 1) (slice_get cs 2) c) (StepOk s None (slice_get cs 0) (slice_get cs 1) c)

at_found : (b : Bool) (s : Step) (cs : List Clause) → Found (At b s cs)
at_found true s cs = steps_found s (slice_get cs 0) (slice_get cs 1) (slice_get cs 2)
at_found false s cs = steps_found s None (slice_get cs 0) (slice_get cs 1)

right_found : (R : Premise → Option Clause) (s : Step) → Found (λ c. IsRightOver R s c)
right_found R s = go (all_there (map R (premises s)))
  where
    there : (x : (cs : List Clause) × (map R (premises s) ≡ map Some cs)) → Found (At (goes_on s) s x.0) → Found (λ c. IsRightOver R s c)
    there x (inl y) = inl (
      y.0,
      record {
        clauses = x.0;
        are = x.1;
        right = ((let e : length (map R (premises s)) ≡ length (map Some x.0) = ap length x.1 in omega (arith, e, length-map (premises s) R, length-map x.0 Some)), y.1);
      },
    )
    there x (inr fails) = inr (λ c y. fails c (subst (λ (cs : List Clause). At (goes_on s) s cs c) (same_clauses y.clauses x.0 (sym y.are ∙ x.1)) y.right.1))

    go : Found (λ (cs : List Clause). map R (premises s) ≡ map Some cs) → Found (λ c. IsRightOver R s c)
    go (inl x) = there x (at_found (goes_on s) s x.0)
    go (inr fails) = inr (λ c y. fails y.clauses y.are)

-- ---- fitness

terms_over : (y : Symbols) (ts : List Term) → Decided (AreOver y ts)
terms_over y [] = inl tt
terms_over y (t ∷ ts) = both (truth (is_over y t) true) (terms_over y ts)

atom_over : (y : Symbols) (a : Atom) → Decided (AtomOver y a)
atom_over y Truth = inl tt
atom_over y (Pred n args) = both (truth (y.is_predicate n (length args)) true) (terms_over y args)
atom_over y (Equal s t) = terms_over y (s ∷ t ∷ [])

literals_over : (y : Symbols) (ls : List Literal) → Decided (LiteralsOver y ls)
literals_over y [] = inl tt
literals_over y (l ∷ ls) = both (atom_over y l.atom) (literals_over y ls)

pub fit_decides : (p : Problem) (c : Clause) → Decided (IsFit p c)
fit_decides p c = given (λ x. record { within = x.0; over = x.1 }) (λ x. (x.within, x.over)) (both (clauses.bounds_decide c) (literals_over (symbols_of p) c.literals))

subst_decides : (p : Problem) (s : List Term) → Decided (IsSubstFit p s)
subst_decides p s = given (λ x. record { within = x.0; over = x.1 }) (λ x. (x.within, x.over))
    (both (both (both (at_most (sum_by size_of s) 65535) (at_most (greatest (map depth_of s)) 1000)) (at_most (greatest (map bound_of s)) 65536)) (terms_over (symbols_of p) s))

-- ---- all of it

pub replay_found : (p : Problem) (R : Registry) (current : Option Clause) (s : Step) → Found (λ c. IsReplayed p R current s c)
replay_found p R current s = go (right_found (standing p R current) s)
  where
    fits : (x : (c : Clause) × IsRightOver (standing p R current) s c) → Decided (IsFit p x.0) → Decided (IsSubstFit p (subst_of s)) → Found (λ c. IsReplayed p R current s c)
    fits x (inl f) (inl g) = inl (x.0, record { right = x.1; fit = f; subst = g })
    fits x (inl f) (inr fails) = inr (λ c y. fails y.subst)
    fits x (inr fails) g = inr (λ c y. fails (subst (IsFit p) (right_steps_give_one (standing p R current) s c x.0 y.right x.1) y.fit))

    go : Found (λ c. IsRightOver (standing p R current) s c) → Found (λ c. IsReplayed p R current s c)
    go (inl x) = fits x (fit_decides p x.0) (subst_decides p (subst_of s))
    go (inr fails) = inr (λ c y. fails c y.right)

pub tests_meet : Tests
tests_meet = record {
  fit = fit_decides;
  replay = replay_found;
  replay_once = λ p R current s c d x y. right_steps_give_one (standing p R current) s c d x.right y.right;
  same = λ c d. clauses.clauses_decide c d;
}
