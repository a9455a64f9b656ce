-- The draft of each rule stands for the rule's inference, and where there is no draft there is no inference.
use Rattle.std.proofs.Common.{◌≡◌, ◌≢◌, ℕ, zero, suc, ◌+◌, ◌<◌, ◌≤◌, Bool, true, false, List, [], ◌∷◌, ◌++◌, map, take, drop, remove, length, Option, Some, None, slice_get, slice_set, option_map, ap, ap₂, ◌∙◌, sym, refl, subst, arith, append-nil, append_assoc, add-one}
use Rattle.std.proofs.lemmas.List.{take-map, set_split, length-map}
use Rattle.std.proofs.lemmas.Option.{slice_get_within, same_Some}
use Rattle.cd_term.specs.declared.Term.{Term}
use Rattle.cd_term.specs.Terms.{bound_of, greatest}
use Rattle.cd_clause.specs.declared.Atom.{Atom}
use Rattle.cd_clause.specs.declared.Atom.TheVariants.{Pred, Equal}
use Rattle.cd_clause.specs.declared.Literal.{Literal}
use Rattle.cd_clause.specs.declared.Clause.{Clause}
use Rattle.cd_clause.specs.Clauses.{atom_changed, literal_changed, literals_changed, variable_bound_of}
use Rattle.cd_clause.specs.Places.{signed, subterm_at, replaced_at}
use Rattle.cd_steps.specs.declared.drafts.Part.{Part}
use Rattle.cd_steps.specs.declared.drafts.Part.TheVariants.{First, Second, Unequal, Replaced}
use Rattle.cd_steps.specs.declared.drafts.Draft.{Draft}
use Rattle.cd_steps.specs.Rules.{Inference, both_bounds, apart, IsResolution, IsFactoring, IsReflexivity, IsEqualityFactoring, IsParamodulation, IsRewriting}
use Rattle.cd_steps.specs.Drafts.{raised, literal_of, AreBelow, IsPartBelow, IsBelow, IsDraft, IsReplacementDraft, ArePredicateArguments, ArePositive}
use Rattle.cd_steps.proofs.Bounding.{atom_bound, literal_bound, side_bounds, place_bound}
use Rattle.cd_steps.proofs.Raising.{all_raised_none, raised_atom, raised_arguments, apart_get, place_raised, can_replace}

inference_of_parts : ℕ → List Term → List Term → List Literal → Inference
inference_of_parts v l r ls = record { variables = v; left = l; right = r; conclusion = ls }

same_parts : (v w : ℕ) (l m r q : List Term) (ls ms : List Literal) → v ≡ w → l ≡ m → r ≡ q → ls ≡ ms → inference_of_parts v l r ls ≡ inference_of_parts w m q ms
same_parts v w l m r q ls ms a b c d = cc

-- ---- lists without one item, or with another one in its place

drop-map : {A B : Type 0} (g : A → B) (n : ℕ) (xs : List A) → drop n (map g xs) ≡ map g (drop n xs)
drop-map g zero [] = refl
drop-map g (suc n) [] = refl
drop-map g zero (x ∷ xs) = refl
drop-map g (suc n) (x ∷ xs) = drop-map g n xs

without : {A : Type 0} (xs us vs : List A) (i : ℕ) → us ≡ take i xs → vs ≡ drop (i + 1) xs → us ++ vs ≡ remove xs i
without {A} xs us vs i is are = ap₂ (λ (p q : List A). p ++ q) is (are ∙ ap (λ (n : ℕ). drop n xs) (add-one i))

without_map : {A B : Type 0} (g : A → B) (xs us vs : List A) (i : ℕ) → us ≡ take i xs → vs ≡ drop (i + 1) xs → map g us ++ map g vs ≡ remove (map g xs) i
without_map {A} {B} g xs us vs i is are =
    ap₂ (λ (p q : List B). p ++ q) (ap (map g) is ∙ sym (take-map g i xs)) (ap (map g) are ∙ ap (λ (n : ℕ). map g (drop n xs)) (add-one i) ∙ sym (drop-map g (suc i) xs))

with_other : {A : Type 0} (xs us vs : List A) (i : ℕ) (x : A) → i < length xs → us ≡ take i xs → vs ≡ drop (i + 1) xs → us ++ x ∷ vs ≡ slice_set xs i x
with_other {A} xs us vs i x lt is are =
    ap₂ (λ (p q : List A). p ++ x ∷ q) is (are ∙ ap (λ (n : ℕ). drop n xs) (add-one i)) ∙ sym (set_split xs i x lt)

with_other_map : {A B : Type 0} (g : A → B) (xs us vs : List A) (i : ℕ) (x : B) → i < length xs → us ≡ take i xs → vs ≡ drop (i + 1) xs →
    map g us ++ x ∷ map g vs ≡ slice_set (map g xs) i x
with_other_map {A} {B} g xs us vs i x lt is are =
    ap₂ (λ (p q : List B). p ++ x ∷ q) (ap (map g) is ∙ sym (take-map g i xs)) (ap (map g) are ∙ ap (λ (n : ℕ). map g (drop n xs)) (add-one i) ∙ sym (drop-map g (suc i) xs))
    ∙ sym (set_split (map g xs) i x (omega (arith, length-map xs g, lt)))

-- parts, and nothing behind them
two_and_two : {A : Type 0} (a b c d : List A) → a ++ b ++ c ++ d ++ [] ≡ (a ++ b) ++ (c ++ d)
two_and_two a b c d = append-nil (a ++ b ++ c ++ d) ∙ append_assoc (a ++ b) c d

two_alone : {A : Type 0} (a b : List A) → a ++ b ++ [] ++ [] ++ [] ≡ a ++ b
two_alone a b = append-nil (a ++ b ++ [] ++ []) ∙ append-nil (a ++ b ++ []) ∙ append-nil (a ++ b)

three_alone : {A : Type 0} (a : List A) (x : A) (b : List A) → a ++ (x ∷ []) ++ b ++ [] ++ [] ≡ a ++ x ∷ b
three_alone a x b = append-nil (a ++ (x ∷ []) ++ b ++ []) ∙ append-nil (a ++ (x ∷ []) ++ b) ∙ append_assoc a (x ∷ []) b

two_and_three : {A : Type 0} (a b c : List A) (x : A) (d : List A) → a ++ b ++ c ++ (x ∷ []) ++ d ≡ (a ++ b) ++ (c ++ x ∷ d)
two_and_three a b c x d = append_assoc (a ++ b ++ c) (x ∷ []) d ∙ append_assoc (a ++ b) c (x ∷ d)

-- the same arguments, read again
pub args_to : (x y : Option Literal) (sign : Bool) (l r m q : List Term) → l ≡ m → r ≡ q → ArePredicateArguments x y sign m q → ArePredicateArguments x y sign l r
args_to x y sign l r m q left right a =
    subst (λ (t : List Term). ArePredicateArguments x y sign t r) (sym left) (subst (λ (t : List Term). ArePredicateArguments x y sign m t) (sym right) a)

-- ---- resolution

pub no_resolution : (a b : Clause) (i j : ℕ) (x y : Option Literal) → x ≡ slice_get a.literals i → y ≡ slice_get b.literals j →
    ((left right : List Term) → ArePredicateArguments x y false left right → ⊥) → (inference : Inference) → IsResolution a i b j inference → ⊥
no_resolution a b i j x y at_x at_y none inference r =
    let n = variable_bound_of a in
    let m = raised_atom n (slice_get b.literals j) false (Pred r.predicate r.right) (sym (apart_get a b j) ∙ r.negative) in
    let u = raised_arguments n m.0 r.predicate r.right m.2 in
    none r.left u.0 (record {
      predicate = r.predicate;
      at_first = at_x ∙ r.positive;
      at_second = at_y ∙ m.1 ∙ ap (λ (c : Atom). Some (signed false c)) u.1;
    })

resolution_at : (a b : Clause) (i j v : ℕ) (x y : Option Literal) (l r : List Term) (us vs ws zs : List Literal) → x ≡ slice_get a.literals i → y ≡ slice_get b.literals j →
    ArePredicateArguments x y false l r → v ≡ both_bounds a b → us ≡ take i a.literals → vs ≡ drop (i + 1) a.literals → ws ≡ take j b.literals → zs ≡ drop (j + 1) b.literals →
    IsResolution a i b j (record {
      variables = v;
      left = l;
      right = map (raised (variable_bound_of a)) r;
      conclusion = us ++ vs ++ literals_changed (raised (variable_bound_of a)) ws ++ literals_changed (raised (variable_bound_of a)) zs ++ [];
    })
unfolding inference_of_parts
resolution_at a b i j v x y l r us vs ws zs at_x at_y p count is are these those =
    let n = variable_bound_of a in
    record {
      predicate = p.predicate;
      left = l;
      right = map (raised n) r;
      positive = sym at_x ∙ p.at_first;
      negative = apart_get a b j ∙ ap (option_map (literal_changed (raised n))) (sym at_y ∙ p.at_second);
      is = same_parts _ _ _ _ _ _ _ _ count refl refl
          (two_and_two us vs (literals_changed (raised n) ws) (literals_changed (raised n) zs)
          ∙ ap₂ (λ (p q : List Literal). p ++ q) (without a.literals us vs i is are) (without_map (literal_changed (raised n)) b.literals ws zs j these those));
    }

pub is_resolution : (a b : Clause) (i j up more : ℕ) (x y : Option Literal) (l r : List Term) (us vs ws zs : List Literal) → up ≡ variable_bound_of a → more ≡ variable_bound_of b →
    x ≡ slice_get a.literals i → y ≡ slice_get b.literals j → ArePredicateArguments x y false l r →
    us ≡ take i a.literals → vs ≡ drop (i + 1) a.literals → ws ≡ take j b.literals → zs ≡ drop (j + 1) b.literals →
    IsResolution a i b j (record {
      variables = up + more;
      left = l;
      right = map (raised up) r;
      conclusion = us ++ vs ++ literals_changed (raised up) ws ++ literals_changed (raised up) zs ++ [];
    })
is_resolution a b i j up more x y l r us vs ws zs first second at_x at_y p is are these those =
    subst (λ (m : ℕ). IsResolution a i b j (record {
      variables = up + more;
      left = l;
      right = map (raised m) r;
      conclusion = us ++ vs ++ literals_changed (raised m) ws ++ literals_changed (raised m) zs ++ [];
    })) (sym first) (resolution_at a b i j (up + more) x y l r us vs ws zs at_x at_y p (ap₂ (λ (m n : ℕ). m + n) first second) is are these those)

-- ---- factoring

pub no_factoring : (c : Clause) (i j : ℕ) (x y : Option Literal) → x ≡ slice_get c.literals i → y ≡ slice_get c.literals j →
    ((left right : List Term) → ArePredicateArguments x y true left right → ⊥) → (inference : Inference) → IsFactoring c i j inference → ⊥
no_factoring c i j x y at_x at_y none inference r =
    none r.left r.right (record { predicate = r.predicate; at_first = at_x ∙ r.first; at_second = at_y ∙ r.second })

pub is_factoring : (c : Clause) (i j v : ℕ) (x y : Option Literal) (l r : List Term) (us vs : List Literal) → i < j → x ≡ slice_get c.literals i → y ≡ slice_get c.literals j →
    ArePredicateArguments x y true l r → v ≡ variable_bound_of c → us ≡ take j c.literals → vs ≡ drop (j + 1) c.literals →
    IsFactoring c i j (record { variables = 0 + v; left = l; right = map (raised 0) r; conclusion = us ++ vs ++ [] ++ [] ++ [] })
unfolding inference_of_parts
is_factoring c i j v x y l r us vs lt at_x at_y p same is are = let count : 0 + v ≡ variable_bound_of c = omega (arith, same) in record {
  predicate = p.predicate;
  left = l;
  right = r;
  ordered = lt;
  first = sym at_x ∙ p.at_first;
  second = sym at_y ∙ p.at_second;
  is = same_parts _ _ _ _ _ _ _ _ count refl (all_raised_none r) (two_alone us vs ∙ without c.literals us vs j is are);
}

-- ---- reflexivity resolution

pub negative_equation : (c : Clause) (i : ℕ) (o : Option Literal) (l : Literal) (s t : Term) → o ≡ slice_get c.literals i → o ≡ Some l → l.positive ≡ false → l.atom ≡ Equal s t →
    slice_get c.literals i ≡ Some (signed false (Equal s t))
negative_equation c i o l s t at is sign atom =
    sym at ∙ is ∙ ap (λ (b : Bool). Some (signed b l.atom)) sign ∙ ap (λ (a : Atom). Some (signed false a)) atom

pub is_reflexivity : (c : Clause) (i v : ℕ) (s t : Term) (l r : List Term) (us vs : List Literal) → slice_get c.literals i ≡ Some (signed false (Equal s t)) → v ≡ variable_bound_of c →
    l ≡ s ∷ [] → r ≡ t ∷ [] → us ≡ take i c.literals → vs ≡ drop (i + 1) c.literals →
    IsReflexivity c i (record { variables = 0 + v; left = l; right = map (raised 0) r; conclusion = us ++ vs ++ [] ++ [] ++ [] })
unfolding inference_of_parts
is_reflexivity c i v s t l r us vs there same left right is are = let count : 0 + v ≡ variable_bound_of c = omega (arith, same) in record {
  left = s;
  right = t;
  equation = there;
  is = same_parts _ _ _ _ _ _ _ _ count left (all_raised_none r ∙ right) (two_alone us vs ∙ without c.literals us vs i is are);
}

-- ---- equality factoring

pub no_equality_factoring : (c : Clause) (i s j z : ℕ) (x y : Option Literal) → x ≡ slice_get c.literals i → y ≡ slice_get c.literals j →
    ((l o r q : Term) → ArePositive s x l o → ArePositive z y r q → ⊥) → (inference : Inference) → IsEqualityFactoring c i s j z inference → ⊥
no_equality_factoring c i s j z x y at_x at_y none inference e =
    none e.left e.left_other e.right e.right_other
    (record { equation = e.first; there = at_x ∙ e.at_first; sides = e.first_sides })
    (record { equation = e.second; there = at_y ∙ e.at_second; sides = e.second_sides })

pub is_equality_factoring : (c : Clause) (i s j z v : ℕ) (x y : Option Literal) (l o r q : Term) (ls rs : List Term) (us vs : List Literal) → i ≢ j →
    x ≡ slice_get c.literals i → y ≡ slice_get c.literals j → ArePositive s x l o → ArePositive z y r q → v ≡ variable_bound_of c →
    ls ≡ l ∷ [] → rs ≡ r ∷ [] → us ≡ take i c.literals → vs ≡ drop (i + 1) c.literals →
    IsEqualityFactoring c i s j z (record { variables = 0 + v; left = ls; right = map (raised 0) rs; conclusion = us ++ (signed false (Equal o q) ∷ []) ++ vs ++ [] ++ [] })
unfolding inference_of_parts
is_equality_factoring c i s j z v x y l o r q ls rs us vs apart at_x at_y a b same left right is are = let count : 0 + v ≡ variable_bound_of c = omega (arith, same) in record {
  first = a.equation;
  left = l;
  left_other = o;
  second = b.equation;
  right = r;
  right_other = q;
  distinct = apart;
  at_first = sym at_x ∙ a.there;
  at_second = sym at_y ∙ b.there;
  first_sides = a.sides;
  second_sides = b.sides;
  is = same_parts _ _ _ _ _ _ _ _ count left (all_raised_none rs ∙ right)
      (three_alone us (signed false (Equal o q)) vs
      ∙ with_other c.literals us vs i (signed false (Equal o q)) (slice_get_within c.literals i _ (sym at_x ∙ a.there)) is are);
}

-- ---- paramodulation

pub no_giver : (a b : Clause) (i s j : ℕ) (path : List ℕ) (x : Option Literal) → x ≡ slice_get a.literals i → ((side other : Term) → ArePositive s x side other → ⊥) →
    (inference : Inference) → IsParamodulation a i s b j path inference → ⊥
no_giver a b i s j path x at_x none inference r = none r.side r.other (record { equation = r.equation; there = at_x ∙ r.giver; sides = r.sides })

pub no_taker : (a b : Clause) (i s j : ℕ) (path : List ℕ) → slice_get b.literals j ≡ None → (inference : Inference) → IsParamodulation a i s b j path inference → ⊥
no_taker a b i s j path out inference r =
    let none = apart_get a b j ∙ ap (option_map (literal_changed (raised (variable_bound_of a)))) out in let some = r.literal in absurd cc

pub no_inner : (a b : Clause) (i s j : ℕ) (path : List ℕ) (l : Literal) → slice_get b.literals j ≡ Some l → subterm_at path l.atom ≡ None →
    (inference : Inference) → IsParamodulation a i s b j path inference → ⊥
no_inner a b i s j path l there out inference r =
    let n = variable_bound_of a in
    let taker : literal_changed (raised n) l ≡ r.taker = same_Some (literal_changed (raised n) l) r.taker
    (sym (apart_get a b j ∙ ap (option_map (literal_changed (raised n))) there) ∙ r.literal) in
    let none : subterm_at path r.taker.atom ≡ None =
    sym (ap (λ (k : Literal). subterm_at path k.atom) taker) ∙ place_raised n path l.atom ∙ ap (option_map (raised n)) out in
    let some = r.there in absurd cc

paramodulation_at : (a b : Clause) (i s j : ℕ) (path : List ℕ) (v : ℕ) (x : Option Literal) (l : Literal) (side other inner : Term) (ls rs : List Term) (us vs ws zs : List Literal) →
    x ≡ slice_get a.literals i → slice_get b.literals j ≡ Some l → ArePositive s x side other → subterm_at path l.atom ≡ Some inner →
    v ≡ both_bounds a b → ls ≡ side ∷ [] → rs ≡ inner ∷ [] → us ≡ take i a.literals → vs ≡ drop (i + 1) a.literals → ws ≡ take j b.literals → zs ≡ drop (j + 1) b.literals →
    IsParamodulation a i s b j path (record {
      variables = v;
      left = ls;
      right = map (raised (variable_bound_of a)) rs;
      conclusion = us ++ vs ++ literals_changed (raised (variable_bound_of a)) ws
          ++ literal_of l.positive (replaced_at path other (atom_changed (raised (variable_bound_of a)) l.atom))
          ++ literals_changed (raised (variable_bound_of a)) zs;
    })
unfolding inference_of_parts
paramodulation_at a b i s j path v x l side other inner ls rs us vs ws zs at_x there p below count left right is are these those =
    let n = variable_bound_of a in
    let g = literal_changed (raised n) in
    let inside : subterm_at path (atom_changed (raised n) l.atom) ≡ Some (raised n inner) = place_raised n path l.atom ∙ ap (option_map (raised n)) below in
    let b' = can_replace path other (raised n inner) (atom_changed (raised n) l.atom) inside in
    let new = signed l.positive b'.0 in
    record {
      equation = p.equation;
      side = side;
      other = other;
      taker = g l;
      inner = raised n inner;
      changed = b'.0;
      giver = sym at_x ∙ p.there;
      sides = p.sides;
      literal = apart_get a b j ∙ ap (option_map g) there;
      there = inside;
      becomes = b'.1;
      is = same_parts _ _ _ _ _ _ _ _ count left (ap (map (raised n)) right)
          (ap (λ (o : Option Atom). us ++ vs ++ map g ws ++ literal_of l.positive o ++ map g zs) b'.1
          ∙ two_and_three us vs (map g ws) new (map g zs)
          ∙ ap₂ (λ (p q : List Literal). p ++ q) (without a.literals us vs i is are)
          (with_other_map g b.literals ws zs j new (slice_get_within b.literals j l there) these those));
    }

pub is_paramodulation : (a b : Clause) (i s j : ℕ) (path : List ℕ) (up more : ℕ) (x : Option Literal) (l : Literal) (side other inner : Term) (ls rs : List Term) (us vs ws zs : List Literal) →
    up ≡ variable_bound_of a → more ≡ variable_bound_of b →
    x ≡ slice_get a.literals i → slice_get b.literals j ≡ Some l → ArePositive s x side other → subterm_at path l.atom ≡ Some inner →
    ls ≡ side ∷ [] → rs ≡ inner ∷ [] → us ≡ take i a.literals → vs ≡ drop (i + 1) a.literals → ws ≡ take j b.literals → zs ≡ drop (j + 1) b.literals →
    IsParamodulation a i s b j path (record {
      variables = up + more;
      left = ls;
      right = map (raised up) rs;
      conclusion = us ++ vs ++ literals_changed (raised up) ws ++ literal_of l.positive (replaced_at path other (atom_changed (raised up) l.atom)) ++ literals_changed (raised up) zs;
    })
is_paramodulation a b i s j path up more x l side other inner ls rs us vs ws zs first second at_x there p below left right is are these those =
    subst (λ (m : ℕ). IsParamodulation a i s b j path (record {
      variables = up + more;
      left = ls;
      right = map (raised m) rs;
      conclusion = us ++ vs ++ literals_changed (raised m) ws ++ literal_of l.positive (replaced_at path other (atom_changed (raised m) l.atom)) ++ literals_changed (raised m) zs;
    })) (sym first) (paramodulation_at a b i s j path (up + more) x l side other inner ls rs us vs ws zs at_x there p below (ap₂ (λ (m n : ℕ). m + n) first second) left right is are these those)

-- ---- the variables of its terms

pub room_first : (n up more : ℕ) → up ≡ n → n ≤ up + more
room_first n up more is = omega (arith, is)

pub room_second : (n more : ℕ) → more ≡ n → n ≤ more
room_second n more is = omega (arith, is)

pub room_alone : (n more : ℕ) → more ≡ n → n ≤ 0 + more
room_alone n more is = omega (arith, is)

pub all_room : (c : Clause) → variable_bound_of c ≤ variable_bound_of c
all_room c = omega arith

pub nothing_below : (n : ℕ) → AreBelow n []
nothing_below n = omega arith

pub one_below : (n : ℕ) (ts : List Term) (t : Term) → ts ≡ t ∷ [] → bound_of t ≤ n → greatest (map bound_of ts) ≤ n
one_below n ts t is le = omega (arith, ap (λ (us : List Term). greatest (map bound_of us)) is, le)

pub literal_below : (n : ℕ) (c : Clause) (i : ℕ) (l : Literal) → slice_get c.literals i ≡ Some l → variable_bound_of c ≤ n → atom_bound l.atom ≤ n
literal_below n c i l there le = omega (arith, literal_bound c.literals i l there, le)

pub arguments_below : (n m : ℕ) (a b : Clause) (i j : ℕ) (x y : Option Literal) (sign : Bool) (l r : List Term) → x ≡ slice_get a.literals i → y ≡ slice_get b.literals j →
    ArePredicateArguments x y sign l r → variable_bound_of a ≤ n → variable_bound_of b ≤ m → (greatest (map bound_of l) ≤ n) × (greatest (map bound_of r) ≤ m)
arguments_below n m a b i j x y sign l r at_x at_y p first second =
    (literal_below n a i (signed true (Pred p.predicate l)) (sym at_x ∙ p.at_first) first, literal_below m b j (signed sign (Pred p.predicate r)) (sym at_y ∙ p.at_second) second)

pub equation_below : (n : ℕ) (c : Clause) (i : ℕ) (sign : Bool) (s t : Term) → slice_get c.literals i ≡ Some (signed sign (Equal s t)) → variable_bound_of c ≤ n →
    (bound_of s ≤ n) × (bound_of t ≤ n)
equation_below n c i sign s t there le = let both = literal_below n c i (signed sign (Equal s t)) there le in (omega (arith, both), omega (arith, both))

pub sides_below : (n s : ℕ) (c : Clause) (i : ℕ) (x : Option Literal) (side other : Term) → x ≡ slice_get c.literals i → ArePositive s x side other → variable_bound_of c ≤ n →
    (bound_of side ≤ n) × (bound_of other ≤ n)
sides_below n s c i x side other at_x p le =
    let both = side_bounds s p.equation side other p.sides in
    let whole = literal_below n c i (signed true p.equation) (sym at_x ∙ p.there) le in
    (omega (arith, both.0, whole), omega (arith, both.1, whole))

pub inner_below : (n : ℕ) (c : Clause) (j : ℕ) (path : List ℕ) (l : Literal) (u : Term) → slice_get c.literals j ≡ Some l → subterm_at path l.atom ≡ Some u → variable_bound_of c ≤ n → bound_of u ≤ n
inner_below n c j path l u there at le = omega (arith, place_bound path l.atom u at, literal_below n c j l there le)

-- ---- more variables

part_more : (n m k : ℕ) → n ≤ k → (p : Part) → IsPartBelow n m p → IsPartBelow k m p
part_more n m k le (First ls) below = omega (arith, le, below)
part_more n m k le (Second ls) below = below
part_more n m k le (Unequal s t) below = (omega (arith, le, below.0), omega (arith, le, below.1))
part_more n m k le (Replaced l path new) below = (below.0, omega (arith, le, below.1))

below_more : (n m k : ℕ) (d : Draft) → n ≤ k → IsBelow n m d → IsBelow k m d
below_more n m k d le b = record {
  left = omega (arith, le, b.left);
  right = b.right;
  one = part_more n m k le d.one b.one;
  two = part_more n m k le d.two b.two;
  three = part_more n m k le d.three b.three;
  four = part_more n m k le d.four b.four;
  five = part_more n m k le d.five b.five;
}

pub paramodulation_from : (a : Clause) (i s : ℕ) (b : Clause) (j : ℕ) (path : List ℕ) (o : Option Draft) → IsReplacementDraft a i s b j path o → IsDraft (IsParamodulation a i s b j path) o
paramodulation_from a i s b j path None r = r
paramodulation_from a i s b j path (Some d) r = (
  r.rule,
  subst (λ (m : ℕ). IsBelow (d.up + d.more) m d) (sym r.more)
      (below_more (variable_bound_of a) (variable_bound_of b) (d.up + d.more) d (omega (arith, r.up)) r.below),
)

-- ---- rewriting

pub no_rewriting : (e : Clause) (s : ℕ) (c : Clause) (j : ℕ) (path : List ℕ) → ((inference : Inference) → IsParamodulation e 0 s c j path inference → ⊥) →
    (inference : Inference) → IsRewriting e s c j path inference → ⊥
no_rewriting e s c j path none inference r = none inference r.into
