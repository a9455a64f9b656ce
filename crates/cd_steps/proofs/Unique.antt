-- Each rule gives one inference, and a step one clause.
use Rattle.std.proofs.Common.{◌≡◌, ℕ, zero, suc, Bool, true, false, List, [], ◌∷◌, ◌++◌, remove, slice_get, slice_set, Option, None, Some, sym, ap, ap₂, ◌∙◌, refl}
use Rattle.std.proofs.lemmas.Option.{same_Some}
use Rattle.cd_term.specs.declared.Term.{Term}
use Rattle.cd_term.specs.Terms.{applied}
use Rattle.cd_clause.specs.declared.Atom.{Atom}
use Rattle.cd_clause.specs.declared.Atom.TheVariants.{Pred, Equal}
use Rattle.cd_clause.specs.declared.Literal.{Literal}
use Rattle.cd_clause.specs.declared.Clause.{Clause}
use Rattle.cd_clause.specs.Clauses.{literals_changed, variable_bound_of}
use Rattle.cd_clause.proofs.TidiedLemmas.{tidy_forms_agree}
use Rattle.cd_steps.specs.declared.Step.TheVariants.{Input, Copy, Resolve, Factor, Refl, EqFac, Para, Rewrite, Tidy}
use Rattle.cd_clause.specs.Places.{signed, HasSides, subterm_at, replaced_at}
use Rattle.cd_steps.specs.Rules.{Inference, Follows, FollowsBy, both_bounds, apart, IsResolution, IsFactoring, IsReflexivity, IsEqualityFactoring, IsParamodulation, IsRewriting}
use Rattle.cd_steps.specs.Steps.{OfOne, OfTwo, themselves}
use Rattle.cd_steps.specs.Laws.{StepsGiveOne}

clause_of : List Literal → Clause
clause_of ls = record { literals = ls }

inference_of : ℕ → List Term → List Term → List Literal → Inference
inference_of vars left right ls = record { variables = vars; left = left; right = right; conclusion = ls }

same_inference : (vars : ℕ) (l m r q : List Term) (ls ms : List Literal) → l ≡ m → r ≡ q → ls ≡ ms → inference_of vars l r ls ≡ inference_of vars m q ms
same_inference vars l m r q ls ms a b c = cc

-- one literal has one atom, and that one list of arguments or two sides
same_atom : (o : Option Literal) (sign : Bool) (a b : Atom) → o ≡ Some (signed sign a) → o ≡ Some (signed sign b) → a ≡ b
same_atom o sign a b e f = ap (λ (l : Literal). l.atom) (same_Some (signed sign a) (signed sign b) (sym e ∙ f))

same_arguments : (o : Option Literal) (sign : Bool) (p q : ℕ) (ts us : List Term) → o ≡ Some (signed sign (Pred p ts)) → o ≡ Some (signed sign (Pred q us)) → ts ≡ us
same_arguments o sign p q ts us e f = let both : Pred p ts ≡ Pred q us = same_atom o sign (Pred p ts) (Pred q us) e f in cc

same_sides : (o : Option Literal) (sign : Bool) (s t u v : Term) → o ≡ Some (signed sign (Equal s t)) → o ≡ Some (signed sign (Equal u v)) → (s ≡ u) × (t ≡ v)
same_sides o sign s t u v e f = let both : Equal s t ≡ Equal u v = same_atom o sign (Equal s t) (Equal u v) e f in (cc, cc)

sides_agree : (s : ℕ) (a b : Atom) (l o m p : Term) → a ≡ b → HasSides s a l o → HasSides s b m p → (l ≡ m) × (o ≡ p)
sides_agree zero a b l o m p same h k = let e : Equal l o ≡ Equal m p = sym h ∙ same ∙ k in (cc, cc)
sides_agree (suc zero) a b l o m p same h k = let e : Equal o l ≡ Equal p m = sym h ∙ same ∙ k in (cc, cc)
sides_agree (suc (suc s)) a b l o m p same h k = absurd h

pub resolution_one : (a : Clause) (i : ℕ) (b : Clause) (j : ℕ) (x y : Inference) → IsResolution a i b j x → IsResolution a i b j y → x ≡ y
unfolding inference_of
resolution_one a i b j x y r q =
    r.is ∙ same_inference (both_bounds a b) r.left q.left r.right q.right _ _
    (same_arguments (slice_get a.literals i) true r.predicate q.predicate r.left q.left r.positive q.positive)
    (same_arguments (slice_get (apart a b).literals j) false r.predicate q.predicate r.right q.right r.negative q.negative) refl ∙ sym q.is

pub factoring_one : (c : Clause) (i j : ℕ) (x y : Inference) → IsFactoring c i j x → IsFactoring c i j y → x ≡ y
unfolding inference_of
factoring_one c i j x y r q =
    r.is ∙ same_inference (variable_bound_of c) r.left q.left r.right q.right _ _
    (same_arguments (slice_get c.literals i) true r.predicate q.predicate r.left q.left r.first q.first)
    (same_arguments (slice_get c.literals j) true r.predicate q.predicate r.right q.right r.second q.second) refl ∙ sym q.is

pub reflexivity_one : (c : Clause) (i : ℕ) (x y : Inference) → IsReflexivity c i x → IsReflexivity c i y → x ≡ y
unfolding inference_of
reflexivity_one c i x y r q =
    let both = same_sides (slice_get c.literals i) false r.left r.right q.left q.right r.equation q.equation in
    r.is ∙ same_inference (variable_bound_of c) _ _ _ _ _ _ (ap (λ (t : Term). t ∷ []) both.0) (ap (λ (t : Term). t ∷ []) both.1) refl ∙ sym q.is

pub equality_factoring_one : (c : Clause) (i s j z : ℕ) (x y : Inference) → IsEqualityFactoring c i s j z x → IsEqualityFactoring c i s j z y → x ≡ y
unfolding inference_of
equality_factoring_one c i s j z x y r q =
    let first = sides_agree s r.first q.first r.left r.left_other q.left q.left_other
    (same_atom (slice_get c.literals i) true r.first q.first r.at_first q.at_first) r.first_sides q.first_sides in
    let second = sides_agree z r.second q.second r.right r.right_other q.right q.right_other
    (same_atom (slice_get c.literals j) true r.second q.second r.at_second q.at_second) r.second_sides q.second_sides in
    r.is ∙ same_inference (variable_bound_of c) _ _ _ _ _ _ (ap (λ (t : Term). t ∷ []) first.0) (ap (λ (t : Term). t ∷ []) second.0)
    (ap₂ (λ (t u : Term). slice_set c.literals i (signed false (Equal t u))) first.1 second.1) ∙ sym q.is

pub paramodulation_one : (a : Clause) (i s : ℕ) (b : Clause) (j : ℕ) (path : List ℕ) (x y : Inference) → IsParamodulation a i s b j path x → IsParamodulation a i s b j path y → x ≡ y
unfolding inference_of
paramodulation_one a i s b j path x y r q =
    let sides = sides_agree s r.equation q.equation r.side r.other q.side q.other
    (same_atom (slice_get a.literals i) true r.equation q.equation r.giver q.giver) r.sides q.sides in
    let taker : r.taker ≡ q.taker = same_Some r.taker q.taker (sym r.literal ∙ q.literal) in
    let inner : r.inner ≡ q.inner = same_Some r.inner q.inner (sym r.there ∙ ap (λ (l : Literal). subterm_at path l.atom) taker ∙ q.there) in
    let changed : r.changed ≡ q.changed = same_Some r.changed q.changed
    (sym r.becomes ∙ ap₂ (λ (t : Term) (l : Literal). replaced_at path t l.atom) sides.1 taker ∙ q.becomes) in
    r.is ∙ same_inference (both_bounds a b) _ _ _ _ _ _ (ap (λ (t : Term). t ∷ []) sides.0) (ap (λ (t : Term). t ∷ []) inner)
    (ap₂ (λ (l : Literal) (b' : Atom). remove a.literals i ++ slice_set (apart a b).literals j (signed l.positive b')) taker changed) ∙ sym q.is

pub rewriting_one : (e : Clause) (s : ℕ) (c : Clause) (j : ℕ) (path : List ℕ) (x y : Inference) → IsRewriting e s c j path x → IsRewriting e s c j path y → x ≡ y
rewriting_one e s c j path x y r q = paramodulation_one e 0 s c j path x y r.into q.into

follows_one : (x y : Inference) (s : List Term) (c d : Clause) → x ≡ y → Follows x s c → Follows y s d → c ≡ d
unfolding clause_of
follows_one x y s c d same f g = ap clause_of (f.literals ∙ ap (λ (z : Inference). literals_changed (applied s) z.conclusion) same ∙ sym g.literals)

by_rule : (Rule : Inference → Type 0) → ((x y : Inference) → Rule x → Rule y → x ≡ y) → (s : List Term) (c d : Clause)
    → FollowsBy Rule s c → FollowsBy Rule s d → c ≡ d
by_rule Rule one s c d f g = follows_one f.0 g.0 s c d (one f.0 g.0 f.1 g.1) f.2 g.2

one_of : (o : Option Clause) (P Q : Clause → Type 0) (c d : Clause) → OfOne o P → OfOne o Q → ((b : Clause) → P b → Q b → c ≡ d) → c ≡ d
one_of None P Q c d p q then = absurd p
one_of (Some b) P Q c d p q then = then b p q

two_of : (o u : Option Clause) (P Q : Clause → Clause → Type 0) (c d : Clause) → OfTwo o u P → OfTwo o u Q → ((a b : Clause) → P a b → Q a b → c ≡ d) → c ≡ d
two_of None u P Q c d p q then = absurd p
two_of (Some a) None P Q c d p q then = absurd p
two_of (Some a) (Some b) P Q c d p q then = then a b p q

pub steps_give_one : StepsGiveOne
steps_give_one (Input index) current first second c d ok too = cc (ok, too)
steps_give_one (Copy of) current first second c d ok too = cc (ok, too)
steps_give_one (Resolve pos i neg j s) current first second c d ok too =
    two_of first second _ _ c d ok too (λ a b f g. by_rule (IsResolution a i b j) (resolution_one a i b j) s c d f g)
steps_give_one (Factor of i j s) current first second c d ok too =
    one_of first _ _ c d ok too (λ b f g. by_rule (IsFactoring b i j) (factoring_one b i j) s c d f g)
steps_give_one (Refl of i s) current first second c d ok too =
    one_of first _ _ c d ok too (λ b f g. by_rule (IsReflexivity b i) (reflexivity_one b i) s c d f g)
steps_give_one (EqFac of i x j z s) current first second c d ok too =
    one_of first _ _ c d ok too (λ b f g. by_rule (IsEqualityFactoring b i x j z) (equality_factoring_one b i x j z) s c d f g)
steps_give_one (Para giver i x taker j path s) current first second c d ok too =
    two_of first second _ _ c d ok too (λ a b f g. by_rule (IsParamodulation a i x b j path) (paramodulation_one a i x b j path) s c d f g)
steps_give_one (Rewrite by x j path s) current first second c d ok too =
    two_of first current _ _ c d ok too (λ e b f g. by_rule (IsRewriting e x b j path) (rewriting_one e x b j path) (s ++ themselves b) c d f g)
steps_give_one Tidy current first second c d ok too = one_of current _ _ c d ok too (λ b t u. tidy_forms_agree b c d t u)
