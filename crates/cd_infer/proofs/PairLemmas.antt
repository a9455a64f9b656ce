-- The levels of paramodulation: literals, sides, and what gives nothing.
use Rattle.std.proofs.Common.{◌≡◌, ◌↔◌, ℕ, zero, suc, ◌+◌, ◌<◌, ◌≤◌, ◌^◌, Bool, true, false, not, IsTrue, List, [], ◌∷◌, ◌++◌, map, sum_by, Option, Some, None, slice_get, Result, Ok, Err, ap, ◌∙◌, sym, subst, refl, arith, append-nil}
use Rattle.std.specs.List.{flat_map, AllByRecursion}
use Rattle.std.proofs.lemmas.List.{map-append}
use Rattle.std.proofs.lemmas.List.Sums.{sum_by-cons}
use Rattle.std.proofs.lemmas.Bool.{false≢true}
use Rattle.std.proofs.lemmas.Option.{same_Some, slice_get_within, get_or_from_slice_get}
use Rattle.cd_list.proofs.Lists.{all_append}
use Rattle.cd_term.specs.declared.Term.{Term}
use Rattle.cd_term.specs.declared.TermFault.{TermFault}
use Rattle.cd_term.specs.declared.TermFault.TheVariants.{OutOfBounds, Memory}
use Rattle.cd_term.specs.Terms.{size_of}
use Rattle.cd_clause.specs.declared.Atom.{Atom}
use Rattle.cd_clause.specs.declared.Atom.TheVariants.{Truth, Pred, Equal}
use Rattle.cd_clause.specs.declared.Literal.{Literal}
use Rattle.cd_clause.specs.declared.Clause.{Clause}
use Rattle.cd_list.specs.Lists.{Among}
use Rattle.cd_clause.specs.Clauses.{terms_of, literal_size}
use Rattle.cd_kbo.specs.declared.order.Order.{Order}
use Rattle.cd_kbo.specs.Kbo.{Greater}
use Rattle.cd_key.specs.Literals.{HasSmallSides, AreComparable}
use Rattle.cd_clause.specs.Places.{HasSides, HasNoSides}
use Rattle.cd_infer.specs.Listed.{Listed, Adds, Overflows, Gathers}
use Rattle.cd_infer.specs.Paths.{term_paths, atom_paths, walked, paths_from}
use Rattle.cd_infer.specs.Conclusions.{IsUsable, IsNotLesser, EntersAtom, Enters, HasSideAt, SoloPlace, SoloGives, SoloCan, SoloConcludes, SoloAnswers, factor_places, refl_places, eqfac_places, solo_places, PairPlace, PairGives, PairCan, PairConcludes, PairAnswers, IsWithin, literal_paths, paths_in, resolve_places, para_places, pair_places}
use Rattle.cd_infer.specs.declared.Conclusion.{Conclusion}
use Rattle.cd_names.specs.declared.names.Name.{Name}
use Rattle.cd_infer.proofs.Listing.{adds_append, among_left, among_right}

module _ {K X : Type 0} (Gives : K → X → Type 0) (Can : K → Type 0) (IsFine : X → Type 0) where
  pub gathers_to : (U : Type 0) (ks ls : List K) (a b : List X) (r : Result U TermFault) → ks ≡ ls → Gathers Gives Can IsFine ks a b r → Gathers Gives Can IsFine ls a b r
  gathers_to U ks ls a b r is g = subst (λ (ms : List K). Gathers Gives Can IsFine ms a b r) is g

  -- one search after another
  pub gathers_both : (U : Type 0) (ks ls : List K) (a b c : List X) (r : Result U TermFault) → Adds Gives Can IsFine ks a b → Gathers Gives Can IsFine ls b c r → Gathers Gives Can IsFine (ks ++ ls) a c r
  gathers_both U ks ls a b c (Ok u) p q = adds_append Gives Can IsFine ks ls a b c p q
  gathers_both U ks ls a b c (Err OutOfBounds) p q = among_right Gives Can IsFine (λ k. (x : X) × Gives k x × (IsFine x → ⊥)) ks ls q
  gathers_both U ks ls a b c (Err Memory) p q = tt

pub all_of_map : {A K : Type 0} (P : K → Type 0) (f : A → K) (xs : List A) → ((x : A) → P (f x)) → AllByRecursion P (map f xs)
all_of_map P f [] all = tt
all_of_map P f (x ∷ xs) all = (all x, all_of_map P f xs all)

pub all_of_flat : {A K : Type 0} (P : K → Type 0) (f : A → List K) (xs : List A) → ((x : A) → AllByRecursion P (f x)) → AllByRecursion P (flat_map f xs)
all_of_flat P f [] all = tt
all_of_flat P f (x ∷ xs) all = all_append P (f x) (flat_map f xs) (all x) (all_of_flat P f xs all)

-- ---- the paths of a literal

pub no_paths : {K : Type 0} (g : List ℕ → K) (c : Clause) (j : ℕ) → slice_get c.literals j ≡ None → [] ≡ map g (paths_in c j)
no_paths g c j out = sym (ap (λ (o : Option Literal). map g (literal_paths o)) out)

pub truth_paths : {K : Type 0} (g : List ℕ → K) (c : Clause) (j : ℕ) (l : Literal) → slice_get c.literals j ≡ Some l → l.atom ≡ Truth → [] ≡ map g (paths_in c j)
truth_paths g c j l there is = sym (ap (λ (o : Option Literal). map g (literal_paths o)) there ∙ ap (λ (a : Atom). map g (atom_paths a)) is)

pub predicate_paths : {K : Type 0} (g : List ℕ → K) (c : Clause) (j : ℕ) (l : Literal) (p : ℕ) (args ts : List Term) → slice_get c.literals j ≡ Some l → l.atom ≡ Pred p args → ts ≡ args
    → walked g [] (paths_from 0 ts) ≡ map g (paths_in c j)
predicate_paths g c j l p args ts there is same =
    ap (λ (us : List Term). walked g [] (paths_from 0 us)) same
    ∙ sym (ap (λ (o : Option Literal). map g (literal_paths o)) there ∙ ap (λ (a : Atom). map g (atom_paths a)) is)

pub equation_paths : {K : Type 0} (g : List ℕ → K) (c : Clause) (j : ℕ) (l : Literal) (s t : Term) → slice_get c.literals j ≡ Some l → l.atom ≡ Equal s t
    → walked g [] (paths_from 0 (s ∷ [])) ++ walked g [] (paths_from 1 (t ∷ [])) ≡ map g (paths_in c j)
equation_paths {K} g c j l s t there is =
    let xs : List (List ℕ) = map (λ p. 0 ∷ p) (term_paths s) in
    let ys : List (List ℕ) = map (λ p. 1 ∷ p) (term_paths t) ++ [] in
    ap (λ (z : List K). z ++ map g ys) (ap (map g) (append-nil xs)) ∙ sym (map-append g xs ys)
    ∙ sym (ap (λ (o : Option Literal). map g (literal_paths o)) there ∙ ap (λ (a : Atom). map g (atom_paths a)) is)

-- ---- sizes

literal_has : (ls : List Literal) (j : ℕ) (l : Literal) → slice_get ls j ≡ Some l → literal_size l ≤ sum_by literal_size ls
literal_has [] j l there = absurd cc
literal_has (m ∷ ls) zero l there = let same : m ≡ l = cc in omega (arith, ap literal_size same, sum_by-cons literal_size m ls)
literal_has (m ∷ ls) (suc j) l there = omega (arith, literal_has ls j l there, sum_by-cons literal_size m ls)

pub terms_small : (c : Clause) (j : ℕ) (l : Literal) → IsUsable c → slice_get c.literals j ≡ Some l → sum_by size_of (terms_of l.atom) ≤ 65534
terms_small c j l u there = omega (arith, literal_has c.literals j l there, u.within.0)

pub sides_size : (z : ℕ) (a : Atom) (side other : Term) → HasSides z a side other → size_of side + size_of other ≡ sum_by size_of (terms_of a)
sides_size zero a side other h = omega (arith, ap (λ (b : Atom). sum_by size_of (terms_of b)) h, sum_by-cons size_of side (other ∷ []), sum_by-cons size_of other [])
sides_size (suc zero) a side other h = omega (arith, ap (λ (b : Atom). sum_by size_of (terms_of b)) h, sum_by-cons size_of other (side ∷ []), sum_by-cons size_of side [])
sides_size (suc (suc z)) a side other h = absurd h

pub side_small : (c : Clause) (j z : ℕ) (side other : Term) → IsUsable c → HasSideAt c j z side other → size_of side + size_of other ≤ 65534
side_small c j z side other u h = omega (arith, sides_size z h.literal.atom side other h.sides, terms_small c j h.literal u h.there)

pub one_size : (t : Term) → sum_by size_of (t ∷ []) ≡ size_of t
one_size t = omega (arith, sum_by-cons size_of t [])

pub side_place : (z : ℕ) (a : Atom) (side other : Term) → HasSides z a side other → z < 2
side_place zero a side other h = omega arith
side_place (suc zero) a side other h = omega arith
side_place (suc (suc z)) a side other h = absurd h

-- sides of a literal that can be compared
pub comparable_sides : (s : ℕ) (a : Atom) (side other : Term) → HasSmallSides a → HasSides s a side other → (size_of side < 2 ^ 32) × (size_of other < 2 ^ 32)
comparable_sides zero a side other small h = let both = subst HasSmallSides h small in (both.0, both.1.0)
comparable_sides (suc zero) a side other small h = let both = subst HasSmallSides h small in (both.1.0, both.0)
comparable_sides (suc (suc s)) a side other small h = absurd h

pub literal_small : (ls : List Literal) (i : ℕ) (l : Literal) → AreComparable ls → slice_get ls i ≡ Some l → HasSmallSides l.atom
literal_small ls i l all there =
    subst (λ (k : Literal). HasSmallSides k.atom) (get_or_from_slice_get ls i l l there) (all i l (slice_get_within ls i l there))

-- ---- which sides are entered

other_way : (o : Order) (a b side other : Term) → side ≡ a → other ≡ b → Greater o other side → Greater o b a
other_way o a b side other p q gr = subst (λ (t : Term). Greater o t a) q (subst (λ (t : Term). Greater o other t) p gr)

pub same_pair : (a b c d : Term) → Equal a b ≡ Equal c d → (a ≡ c) × (b ≡ d)
same_pair a b c d e = (cc, cc)

enters_side : (o : Order) (a : Atom) (z : ℕ) (side other : Term) (path : List ℕ) → HasSides z a side other → (Greater o other side → ⊥) → EntersAtom o a (z ∷ path)
enters_side o a zero side other path is ng = subst (λ (b : Atom). EntersAtom o b (zero ∷ path)) (sym is) (side, other, refl, ng)
enters_side o a (suc zero) side other path is ng = subst (λ (b : Atom). EntersAtom o b (suc zero ∷ path)) (sym is) (side, other, refl, ng)
enters_side o a (suc (suc z)) side other path is ng = absurd is

pub side_entered : (o : Order) (c : Clause) (j z k : ℕ) (side other : Term) (path : List ℕ) → HasSideAt c j z side other → (Greater o other side → ⊥) → k < 1 → Enters o c j ((z + k) ∷ path)
side_entered o c j z k side other path h ng lt = record {
  literal = h.literal;
  there = h.there;
  enters = subst (λ (n : ℕ). EntersAtom o h.literal.atom (n ∷ path)) (omega arith) (enters_side o h.literal.atom z side other path h.sides ng);
}

pub predicate_entered : (o : Order) (c : Clause) (j : ℕ) (l : Literal) (p : ℕ) (args : List Term) (path : List ℕ) → slice_get c.literals j ≡ Some l → l.atom ≡ Pred p args → Enters o c j path
predicate_entered o c j l p args path there is =
    record { literal = l; there = there; enters = subst (λ (a : Atom). EntersAtom o a path) (sym is) tt }

lesser_of_side : (o : Order) (a : Atom) (z : ℕ) (side other : Term) (path : List ℕ) → HasSides z a side other → EntersAtom o a (z ∷ path) →
    (t : Term) × (u : Term) × HasSides z a t u × (Greater o u t → ⊥)
lesser_of_side o a zero side other path is e =
    let f = subst (λ (b : Atom). EntersAtom o b (zero ∷ path)) is e in (f.0, f.1, is ∙ f.2, f.3)
lesser_of_side o a (suc zero) side other path is e =
    let f = subst (λ (b : Atom). EntersAtom o b (suc zero ∷ path)) is e in (f.0, f.1, is ∙ f.2, f.3)
lesser_of_side o a (suc (suc z)) side other path is e = absurd is

-- a side that is entered isn't the lesser one
pub entered_not_lesser : (o : Order) (c : Clause) (j z : ℕ) (side other : Term) (path : List ℕ) → HasSideAt c j z side other → Enters o c j (z ∷ path) → IsNotLesser o c j z
entered_not_lesser o c j z side other path h e =
    let same : e.literal ≡ h.literal = same_Some e.literal h.literal (sym e.there ∙ h.there) in
    let f = lesser_of_side o h.literal.atom z side other path h.sides (subst (λ (l : Literal). EntersAtom o l.atom (z ∷ path)) same e.enters) in
    record { literal = h.literal; side = f.0; other = f.1; there = h.there; sides = f.2; order = f.3 }

-- ---- the test of a side

sides_apart : (o : Order) (s : ℕ) (a : Atom) (side other t u : Term) → HasSides s a side other → HasSides s a t u → Greater o other side → (Greater o u t → ⊥) → ⊥
sides_apart o zero a side other t u h k gr ng = let both = same_pair side other t u (sym h ∙ k) in ng (other_way o t u side other both.0 both.1 gr)
sides_apart o (suc zero) a side other t u h k gr ng = let both = same_pair other side u t (sym h ∙ k) in ng (other_way o t u side other both.1 both.0 gr)
sides_apart o (suc (suc s)) a side other t u h k gr ng = absurd h

pub no_lesser : (o : Order) (c : Clause) (i s : ℕ) (l : Literal) (side other : Term) → slice_get c.literals i ≡ Some l → HasSides s l.atom side other → Greater o other side → IsNotLesser o c i s → ⊥
no_lesser o c i s l side other there sides gr n =
    let same : n.literal ≡ l = same_Some n.literal l (sym n.there ∙ there) in
    sides_apart o s l.atom side other n.side n.other sides (subst (λ (k : Literal). HasSides s k.atom n.side n.other) same n.sides) gr n.order

pub lesser_decides : (o : Order) (c : Clause) (i s : ℕ) (l : Literal) (side other : Term) (g r : Bool) → slice_get c.literals i ≡ Some l → HasSides s l.atom side other
    → (IsTrue g ↔ Greater o other side) → r ≡ not g → IsTrue r ↔ IsNotLesser o c i s
lesser_decides o c i s l side other true r there sides d is = (
  (λ e. absurd (false≢true (sym is ∙ e))),
  (λ n. absurd (no_lesser o c i s l side other there sides (d.0 refl) n)),
)
lesser_decides o c i s l side other false r there sides d is = (
  (λ e. record { literal = l; side = side; other = other; there = there; sides = sides; order = λ gr. false≢true (d.1 gr) }),
  (λ n. is),
)

pub no_literal : (o : Order) (c : Clause) (i s : ℕ) → slice_get c.literals i ≡ None → IsNotLesser o c i s → ⊥
no_literal o c i s out n = let none = out in let some = n.there in absurd cc

pub no_sides : (o : Order) (c : Clause) (i s : ℕ) (l : Literal) → slice_get c.literals i ≡ Some l → HasNoSides s l.atom → IsNotLesser o c i s → ⊥
no_sides o c i s l there none n =
    let same : n.literal ≡ l = same_Some n.literal l (sym n.there ∙ there) in
    none.none n.side n.other (subst (λ (k : Literal). HasSides s k.atom n.side n.other) same n.sides)

-- what holds of each path behind a place holds of each path of one term in that place
all_behind : {K : Type 0} (P : K → Type 0) (g : List ℕ → K) (z : ℕ) (ps : List (List ℕ)) → ((p : List ℕ) → P (g (z ∷ p))) → AllByRecursion P (walked g [] (map (λ p. z ∷ p) ps))
all_behind P g z [] all = tt
all_behind P g z (p ∷ ps) all = (all p, all_behind P g z ps all)

pub all_of_side : {K : Type 0} (P : K → Type 0) (g : List ℕ → K) (z : ℕ) (t : Term) → ((p : List ℕ) → P (g (z ∷ p))) → AllByRecursion P (walked g [] (paths_from z (t ∷ [])))
all_of_side P g z t all =
    subst (λ (ps : List (List ℕ)). AllByRecursion P (walked g [] ps)) (sym (append-nil (map (λ p. z ∷ p) (term_paths t)))) (all_behind P g z (term_paths t) all)

pub overflow_equation : {K X : Type 0} (Gives : K → X → Type 0) (Can : K → Type 0) (IsFine : X → Type 0) (g : List ℕ → K) (c : Clause) (j : ℕ) (l : Literal) (s t : Term) → slice_get c.literals j ≡ Some l → l.atom ≡ Equal s t
    → Overflows Gives IsFine (walked g [] (paths_from 0 (s ∷ []))) → Overflows Gives IsFine (map g (paths_in c j))
overflow_equation {K} {X} Gives Can IsFine g c j l s t there is some =
    let P : K → Type 0 = λ k. (x : X) × Gives k x × (IsFine x → ⊥) in
    subst (λ (ks : List K). Among P ks) (equation_paths g c j l s t there is)
    (among_left Gives Can IsFine P (walked g [] (paths_from 0 (s ∷ []))) (walked g [] (paths_from 1 (t ∷ []))) some)

-- ---- all conclusions

pub answers_err : (U : Type 0) (o : Order) (m : Name) (a : Clause) (n : Name) (b : Clause) (ks : List PairPlace) (old new : List Conclusion) (fault : TermFault)
    → (Overflows (PairGives o m a n b) IsWithin ks → Overflows (PairGives o m a n b) IsWithin (pair_places a b))
    → Gathers {U = U} (PairGives o m a n b) (PairCan o a b) IsWithin ks old new (Err fault) → PairAnswers o m a n b (Err fault)
answers_err U o m a n b ks old new OutOfBounds more g = more g
answers_err U o m a n b ks old new Memory more g = tt

pub answers_ok : (o : Order) (m : Name) (a : Clause) (n : Name) (b : Clause) (start mid found : List Conclusion) → start ≡ []
    → Adds (PairGives o m a n b) (PairCan o a b) IsWithin (resolve_places a b) start mid → Adds (PairGives o m a n b) (PairCan o a b) IsWithin (para_places a b) mid found
    → PairConcludes o m a n b found × AllByRecursion IsWithin found
answers_ok o m a n b start mid found empty p q =
    let all = adds_append (PairGives o m a n b) (PairCan o a b) IsWithin (resolve_places a b) (para_places a b) start mid found p q in
    let is : all.part ≡ found = sym (all.appended ∙ ap (λ (xs : List Conclusion). xs ++ all.part) empty) in
    (subst (λ (xs : List Conclusion). Listed (PairGives o m a n b) (PairCan o a b) (pair_places a b) xs) is all.listed, subst (AllByRecursion IsWithin) is all.fine)

pub solo_err : (U : Type 0) (o : Order) (n : Name) (c : Clause) (ks : List SoloPlace) (old new : List Conclusion) (fault : TermFault)
    → (Overflows (SoloGives o n c) IsWithin ks → Overflows (SoloGives o n c) IsWithin (solo_places c))
    → Gathers {U = U} (SoloGives o n c) (SoloCan o c) IsWithin ks old new (Err fault) → SoloAnswers o n c (Err fault)
solo_err U o n c ks old new OutOfBounds more g = more g
solo_err U o n c ks old new Memory more g = tt

pub solo_ok : (o : Order) (n : Name) (c : Clause) (start one two found : List Conclusion) → start ≡ []
    → Adds (SoloGives o n c) (SoloCan o c) IsWithin (factor_places c) start one → Adds (SoloGives o n c) (SoloCan o c) IsWithin (refl_places c) one two
    → Adds (SoloGives o n c) (SoloCan o c) IsWithin (eqfac_places c) two found → SoloConcludes o n c found × AllByRecursion IsWithin found
solo_ok o n c start one two found empty p q r =
    let rest = adds_append (SoloGives o n c) (SoloCan o c) IsWithin (refl_places c) (eqfac_places c) one two found q r in
    let all = adds_append (SoloGives o n c) (SoloCan o c) IsWithin (factor_places c) (refl_places c ++ eqfac_places c) start one found p rest in
    let is : all.part ≡ found = sym (all.appended ∙ ap (λ (xs : List Conclusion). xs ++ all.part) empty) in
    (subst (λ (xs : List Conclusion). Listed (SoloGives o n c) (SoloCan o c) (solo_places c) xs) is all.listed, subst (AllByRecursion IsWithin) is all.fine)

-- ---- places without a literal

pub nothing_entered : (o : Order) (c : Clause) (j : ℕ) (path : List ℕ) → slice_get c.literals j ≡ None → Enters o c j path → ⊥
nothing_entered o c j path out e = let none = out in let some = e.there in absurd cc
