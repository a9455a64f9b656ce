-- Tidy forms told by the places of single variables.
use Rattle.std.proofs.Common.{◌≡◌, ℕ, ◌+◌, ◌<◌, ◌≤◌, max, Bool, true, false, Option, None, Some, option_map, ◌⊎◌, inl, inr, List, [], ◌∷◌, ◌++◌, length, map, get_or, ap, subst, refl, sym, ◌∙◌, arith}
use Rattle.std.specs.List.{flat_map}
use Rattle.std.proofs.lemmas.List.{map-append}
use Rattle.std.proofs.lemmas.Bool.{false≢true, cases_lt}
use Rattle.cd_list.proofs.Numbers.{below_next}
use Rattle.cd_term.specs.declared.Term.{Term}
use Rattle.cd_term.specs.Terms.{greatest, bound_of, variables_of, substituted, IsNumberedFrom, firsts_after, order_of, ranked, renumbered, renamed_by, marked, first_from}
use Rattle.cd_term.proofs.VariableLaws.{variables_renamed, renumbered-numbered, renumbered-bound, renumbered-places}
use Rattle.cd_term.proofs.NumberingLemmas.{image_of, images_of, IsApart, places_apart, AreFirst, firsts_found, first_numbered, numbered_first, renamed_back, marks_same, marks_nowhere, variables_bound}
use Rattle.cd_clause.specs.declared.Atom.{Atom}
use Rattle.cd_clause.specs.declared.Atom.TheVariants.{Truth, Pred, Equal}
use Rattle.cd_clause.specs.declared.Literal.{Literal}
use Rattle.cd_clause.specs.declared.Clause.{Clause}
use Rattle.cd_clause.specs.Tidiness.{AreMarkedAlike, variables_in, IsBeside}
use Rattle.cd_clause.specs.Clauses.{terms_of, clause_terms, variable_bound_of, atom_changed, literal_changed, literals_changed, renumbered_literals, IsTidied}
use Rattle.cd_clause.proofs.TidyLemmas.{fixed_literals, twice_literals, renumbered_literals-back}
use Rattle.cd_clause.proofs.AlikeLemmas.{kept_agree, Both}

-- the terms of changed literals
atom_terms : (h : Term → Term) (a : Atom) → terms_of (atom_changed h a) ≡ map h (terms_of a)
atom_terms h Truth = refl
atom_terms h (Pred p args) = refl
atom_terms h (Equal s t) = refl

pub changed_terms : (h : Term → Term) (ls : List Literal) → clause_terms (literals_changed h ls) ≡ map h (clause_terms ls)
changed_terms h [] = refl
changed_terms h (l ∷ ls) =
    ap (λ xs. xs ++ clause_terms (literals_changed h ls)) (atom_terms h l.atom)
    ∙ ap (λ ys. map h (terms_of l.atom) ++ ys) (changed_terms h ls)
    ∙ sym (map-append h (terms_of l.atom) (clause_terms ls))

-- two changes that agree on the terms of a clause
split_maps : (g h : Term → Term) (a b : List Term) → map g a ++ map g b ≡ map h a ++ map h b → (map g a ≡ map h a) × (map g b ≡ map h b)
split_maps g h [] b e = (refl, e)
split_maps g h (x ∷ a) b e =
    let here : g x ≡ h x = cc in
    let later : map g a ++ map g b ≡ map h a ++ map h b = cc in
    let rest = split_maps g h a b later in
    (ap (λ y. y ∷ map g a) here ∙ ap (λ ys. h x ∷ ys) rest.0, rest.1)

agreeing_atom : (g h : Term → Term) (a : Atom) → map g (terms_of a) ≡ map h (terms_of a) → atom_changed g a ≡ atom_changed h a
agreeing_atom g h Truth e = refl
agreeing_atom g h (Pred p args) e = ap (Pred p) e
agreeing_atom g h (Equal s t) e =
    let left : g s ≡ h s = cc in let right : g t ≡ h t = cc in
    ap (λ u. Equal u (g t)) left ∙ ap (Equal (h s)) right

pub agreeing_literals : (g h : Term → Term) (ls : List Literal) → map g (clause_terms ls) ≡ map h (clause_terms ls) → literals_changed g ls ≡ literals_changed h ls
agreeing_literals g h [] e = refl
agreeing_literals g h (l ∷ ls) e =
    let parts = split_maps g h (terms_of l.atom) (clause_terms ls)
    (sym (map-append g (terms_of l.atom) (clause_terms ls)) ∙ e ∙ map-append h (terms_of l.atom) (clause_terms ls)) in
    let here : literal_changed g l ≡ literal_changed h l = ap (λ a. record { positive = l.positive; atom = a }) (agreeing_atom g h l.atom parts.0) in
    ap (λ m. m ∷ literals_changed g ls) here ∙ ap (λ ms. literal_changed h l ∷ ms) (agreeing_literals g h ls parts.1)

-- literals in which the images stand as the variables in others are those renamed
pred_parts : (g h : Term → Term) (p q : ℕ) (ts us : List Term) → atom_changed g (Pred p ts) ≡ atom_changed h (Pred q us) → (p ≡ q) × (map g ts ≡ map h us)
pred_parts g h p q ts us e = (cc, cc)

equal_parts : (g h : Term → Term) (s t u v : Term) → atom_changed g (Equal s t) ≡ atom_changed h (Equal u v) → (g s ≡ h u) × (g t ≡ h v)
equal_parts g h s t u v e = (cc, cc)

abbrev pub AtomsHavePlaces : (ℕ → ℕ) → ℕ → Atom → Atom → Type 0
AtomsHavePlaces p bound a b = (n : ℕ) → n < bound → atom_changed (marked (p n)) a ≡ atom_changed (marked n) b

image_atom : (p : ℕ → ℕ) (bound : ℕ) → 0 < bound → (a b : Atom) → AtomsHavePlaces p bound a b → greatest (map bound_of (terms_of b)) ≤ bound →
    a ≡ atom_changed (renamed_by p) b
image_atom p bound some Truth Truth places le = refl
image_atom p bound some (Pred f ts) (Pred g us) places le =
    ap (λ x. Pred x ts) (pred_parts (marked (p 0)) (marked 0) f g ts us (places 0 some)).0
    ∙ ap (Pred g) (images_of p bound some ts us (λ n lt. (pred_parts (marked (p n)) (marked n) f g ts us (places n lt)).1) le)
image_atom p bound some (Equal s t) (Equal u v) places le =
    ap (λ x. Equal x t) (image_of p bound some u s (λ n lt. (equal_parts (marked (p n)) (marked n) s t u v (places n lt)).0) (omega (arith, le)))
    ∙ ap (Equal (renamed_by p u)) (image_of p bound some v t (λ n lt. (equal_parts (marked (p n)) (marked n) s t u v (places n lt)).1) (omega (arith, le)))
image_atom p bound some Truth (Pred g us) places le = absurd (let e = places 0 some in cc)
image_atom p bound some Truth (Equal u v) places le = absurd (let e = places 0 some in cc)
image_atom p bound some (Pred f ts) Truth places le = absurd (let e = places 0 some in cc)
image_atom p bound some (Pred f ts) (Equal u v) places le = absurd (let e = places 0 some in cc)
image_atom p bound some (Equal s t) Truth places le = absurd (let e = places 0 some in cc)
image_atom p bound some (Equal s t) (Pred g us) places le = absurd (let e = places 0 some in cc)

abbrev pub LiteralsHavePlaces : (ℕ → ℕ) → ℕ → List Literal → List Literal → Type 0
LiteralsHavePlaces p bound ls ms = (n : ℕ) → n < bound → literals_changed (marked (p n)) ls ≡ literals_changed (marked n) ms

literal_parts : (g h : Term → Term) (l m : Literal) (ls ms : List Literal) → literals_changed g (l ∷ ls) ≡ literals_changed h (m ∷ ms) →
    (l.positive ≡ m.positive) × (atom_changed g l.atom ≡ atom_changed h m.atom) × (literals_changed g ls ≡ literals_changed h ms)
literal_parts g h l m ls ms e =
    let here : literal_changed g l ≡ literal_changed h m = cc in
    (ap (λ x. x.positive) here, ap (λ x. x.atom) here, cc)

greatest_parts : (xs ys : List Term) → greatest (map bound_of (xs ++ ys)) ≡ max (greatest (map bound_of xs)) (greatest (map bound_of ys))
greatest_parts [] ys = omega arith
greatest_parts (x ∷ xs) ys = let rest = greatest_parts xs ys in omega (arith, rest)

image_literals : (p : ℕ → ℕ) (bound : ℕ) → 0 < bound → (ls ms : List Literal) → LiteralsHavePlaces p bound ls ms →
    greatest (map bound_of (clause_terms ms)) ≤ bound → ls ≡ literals_changed (renamed_by p) ms
image_literals p bound some [] [] places le = refl
image_literals p bound some [] (m ∷ ms) places le = absurd (let e = places 0 some in cc)
image_literals p bound some (l ∷ ls) [] places le = absurd (let e = places 0 some in cc)
image_literals p bound some (l ∷ ls) (m ∷ ms) places le =
    let bounds = greatest_parts (terms_of m.atom) (clause_terms ms) in
    let atom : l.atom ≡ atom_changed (renamed_by p) m.atom = image_atom p bound some l.atom m.atom
    (λ n lt. (literal_parts (marked (p n)) (marked n) l m ls ms (places n lt)).1) (omega (arith, le, bounds)) in
    let rest : ls ≡ literals_changed (renamed_by p) ms = image_literals p bound some ls ms
    (λ n lt. (literal_parts (marked (p n)) (marked n) l m ls ms (places n lt)).2) (omega (arith, le, bounds)) in
    let sign : l.positive ≡ m.positive = (literal_parts (marked (p 0)) (marked 0) l m ls ms (places 0 some)).0 in
    let here : l ≡ literal_changed (renamed_by p) m = same_literal l m sign atom in
    ap (λ x. x ∷ ls) here ∙ ap (λ xs. literal_changed (renamed_by p) m ∷ xs) rest
  where
    same_literal : (l m : Literal) → l.positive ≡ m.positive → l.atom ≡ atom_changed (renamed_by p) m.atom → l ≡ literal_changed (renamed_by p) m
    same_literal l m sign atom = ap (λ s. let x : Literal = record { positive = s; atom = l.atom } in x) sign
        ∙ ap (λ a. let x : Literal = record { positive = m.positive; atom = a } in x) atom

terms_have_places : (p : ℕ → ℕ) (bound : ℕ) (ls ms : List Literal) → LiteralsHavePlaces p bound ls ms → (n : ℕ) → n < bound →
    map (marked (p n)) (clause_terms ls) ≡ map (marked n) (clause_terms ms)
terms_have_places p bound ls ms places = λ n lt.
    sym (changed_terms (marked (p n)) ls) ∙ ap clause_terms (places n lt) ∙ changed_terms (marked n) ms

-- what is left of a clause is renumbered to another one, where it is that one renamed, the images are apart
-- and each number is the first that isn't below it
renumbered_to : (p : ℕ → ℕ) (bound : ℕ) (kept ms : List Literal) → kept ≡ literals_changed (renamed_by p) ms → IsApart p bound (variables_in ms) →
    AreFirst 0 bound (variables_in ms) → greatest (map bound_of (clause_terms ms)) ≤ bound → ms ≡ renumbered_literals kept
renumbered_to p bound kept ms is apart first le =
    let us : List Term = clause_terms ms in
    let order : List ℕ = firsts_after [] (map p (flat_map variables_of us)) in
    let numbered : IsNumberedFrom 0 (flat_map variables_of us)
    = first_numbered 0 bound (flat_map variables_of us) first (omega (arith, le, variables_bound us)) in
    let same : order_of (clause_terms kept) ≡ order
    = ap (λ xs. order_of (clause_terms xs)) is ∙ ap order_of (changed_terms (renamed_by p) ms) ∙ ap (firsts_after []) (variables_renamed p us) in
    sym (ap (λ o. literals_changed (substituted (ranked o)) kept) same
    ∙ ap (literals_changed (substituted (ranked order))) is
    ∙ twice_literals (substituted (ranked order)) (renamed_by p) ms
    ∙ fixed_literals (λ t. substituted (ranked order) (renamed_by p t)) ms (renamed_back p bound us numbered le apart))

-- without variables one comparison decides
pub tidied_ground : (c d : Clause) → variable_bound_of d ≡ 0 → AreMarkedAlike 0 0 [] c.literals d.literals → IsTidied c d
tidied_ground c d none a =
    let p : ℕ → ℕ = λ n. 0 in (
      a.0,
      a.1,
      renumbered_to p 0 a.0 d.literals
          (image_literals p 1 (omega arith) a.0 d.literals (λ n lt. ap (λ x. literals_changed (marked 0) x) refl ∙ a.2 ∙ ap (λ x. literals_changed (marked x) d.literals) (let e : 0 ≡ n = omega (arith, lt) in e))
          (omega (arith, none)))
          (λ b k x lt. absurd (omega (arith, lt))) (λ n le lt. absurd (omega (arith, lt))) (omega (arith, none)),
    )

-- what the comparisons for the first numbers have found
abbrev pub IsPassed : List Literal → List Literal → ℕ → ℕ → Type 0
IsPassed ls ms n k = IsBeside n ls ms (Some k) × AreMarkedAlike k n [] ls ms

abbrev pub ArePassed : List Literal → List Literal → ℕ → Type 0
ArePassed ls ms count = (n : ℕ) → n < count → (k : ℕ) × IsPassed ls ms n k

pick : (ls ms : List Literal) (count : ℕ) → ArePassed ls ms count → (n : ℕ) → (n < count) ⊎ (count ≤ n) → ℕ
pick ls ms count passed n (inl lt) = (passed n lt).0
pick ls ms count passed n (inr le) = 0

picked : (ls ms : List Literal) (count : ℕ) (passed : ArePassed ls ms count) (n : ℕ) (s : (n < count) ⊎ (count ≤ n)) → n < count →
    IsPassed ls ms n (pick ls ms count passed n s)
unfolding pick
picked ls ms count passed n (inl lt) below = (passed n lt).1
picked ls ms count passed n (inr le) below = absurd (omega (arith, le, below))

tidied_by : (c d : Clause) (count : ℕ) (p : ℕ → ℕ) → count ≡ variable_bound_of d → 0 < count →
    ((n : ℕ) → n < count → IsPassed c.literals d.literals n (p n)) → IsTidied c d
tidied_by c d count p is some passed =
    let first = (passed 0 some).1 in
    let places : LiteralsHavePlaces p count first.0 d.literals = (λ n lt. let a = (passed n lt).1 in
    ap (literals_changed (marked (p n))) (kept_agree [] c.literals first.0 a.0 first.1 a.1) ∙ a.2) in
    let renamed : first.0 ≡ literals_changed (renamed_by p) d.literals
    = image_literals p count some first.0 d.literals places (omega (arith, is)) in
    let apart : IsApart p count (variables_in d.literals)
    = places_apart p count (clause_terms first.0) (clause_terms d.literals) (terms_have_places p count first.0 d.literals places) (omega (arith, is)) in (
      first.0,
      first.1,
      renumbered_to p count first.0 d.literals renamed apart
          (firsts_found p count (variables_in d.literals) apart (λ n lt. (passed n lt).0 p first.0 first.1 renamed)) (omega (arith, is)),
    )

pub tidied_passed : (c d : Clause) (count : ℕ) → count ≡ variable_bound_of d → 0 < count → ArePassed c.literals d.literals count → IsTidied c d
tidied_passed c d count is some passed = tidied_by c d count
    (λ n. pick c.literals d.literals count passed n (cases_lt n count)) is some
    (λ n lt. picked c.literals d.literals count passed n (cases_lt n count) lt)

-- a tidy form passes each comparison
abbrev pub back : List Literal → ℕ → ℕ
back kept n = get_or (order_of (clause_terms kept)) n 0

came_back : (c d : Clause) (t : IsTidied c d) → t.0 ≡ literals_changed (renamed_by (back t.0)) d.literals
came_back c d t = sym (ap (literals_changed (renamed_by (back t.0))) t.2 ∙ renumbered_literals-back t.0)

tidied_terms : (c d : Clause) (t : IsTidied c d) → clause_terms d.literals ≡ renumbered (clause_terms t.0)
tidied_terms c d t = ap clause_terms t.2 ∙ changed_terms (substituted (ranked (order_of (clause_terms t.0)))) t.0

tidied_bound : (c d : Clause) (t : IsTidied c d) → variable_bound_of d ≤ length (order_of (clause_terms t.0))
tidied_bound c d t = omega (arith, ap (λ us. greatest (map bound_of us)) (tidied_terms c d t), renumbered-bound (clause_terms t.0))

pub alike_ground : (c d : Clause) → variable_bound_of d ≡ 0 → IsTidied c d → AreMarkedAlike 0 0 [] c.literals d.literals
alike_ground c d none t = (
  t.0,
  t.1,
  ap (literals_changed (marked 0)) (came_back c d t) ∙ twice_literals (marked 0) (renamed_by (back t.0)) d.literals
      ∙ agreeing_literals (λ u. marked 0 (renamed_by (back t.0) u)) (marked 0) d.literals (marks_nowhere (back t.0) (clause_terms d.literals) 0 0 none),
)

first_there : (c d : Clause) (n : ℕ) → n < variable_bound_of d → IsTidied c d → first_from n (variables_in d.literals) ≡ Some n
first_there c d n lt t =
    let numbered : IsNumberedFrom 0 (variables_in d.literals)
    = subst (λ us. IsNumberedFrom 0 (flat_map variables_of us)) (sym (tidied_terms c d t)) (renumbered-numbered (clause_terms t.0)) in
    numbered_first 0 (variables_in d.literals) numbered n (omega arith) (omega (arith, lt, variables_bound (clause_terms d.literals)))

beside_there : (c d : Clause) (n : ℕ) (r : Option ℕ) → n < variable_bound_of d → (t : IsTidied c d) → IsBeside n c.literals d.literals r → r ≡ Some (back t.0 n)
beside_there c d n r lt t found = found (back t.0) t.0 t.1 (came_back c d t) ∙ ap (option_map (back t.0)) (first_there c d n lt t)

pub tidied_found : (c d : Clause) (n : ℕ) → n < variable_bound_of d → IsBeside n c.literals d.literals None → IsTidied c d → ⊥
tidied_found c d n lt found t = apart (beside_there c d n None lt t found)
  where
    apart : None ≡ Some (back t.0 n) → ⊥
    apart e = cc

back_alike : (c d : Clause) (n : ℕ) → n < variable_bound_of d → (t : IsTidied c d) → AreMarkedAlike (back t.0 n) n [] c.literals d.literals
back_alike c d n lt t =
    let order : List ℕ = order_of (clause_terms t.0) in (
      t.0,
      t.1,
      ap (literals_changed (marked (back t.0 n))) (came_back c d t) ∙ twice_literals (marked (back t.0 n)) (renamed_by (back t.0)) d.literals
          ∙ agreeing_literals (λ u. marked (back t.0 n) (renamed_by (back t.0) u)) (marked n) d.literals
          (marks_same order (clause_terms d.literals) n (renumbered-places (clause_terms t.0)) (tidied_bound c d t) (omega (arith, lt, tidied_bound c d t))),
    )

pub tidied_alike : (c d : Clause) (n k : ℕ) → n < variable_bound_of d → IsBeside n c.literals d.literals (Some k) → IsTidied c d →
    AreMarkedAlike k n [] c.literals d.literals
tidied_alike c d n k lt found t =
    let e = beside_there c d n (Some k) lt t found in
    let same : k ≡ back t.0 n = cc in
    subst (λ x. AreMarkedAlike x n [] c.literals d.literals) (sym same) (back_alike c d n lt t)

-- a clause has one tidy form
pub tidy_forms_agree : (c d e : Clause) → IsTidied c d → IsTidied c e → d ≡ e
tidy_forms_agree c d e a b =
    ap (λ ls. let x : Clause = record { literals = ls } in x)
    (a.2 ∙ ap renumbered_literals (kept_agree [] c.literals a.0 b.0 a.1 b.1) ∙ sym b.2)

-- what the test answers
pub answer_ground : (c d : Clause) (ls ms : List Literal) (count : ℕ) (b : Bool) → ls ≡ c.literals → ms ≡ d.literals → count ≡ variable_bound_of d → count ≡ 0 →
    Both (b ≡ true) (AreMarkedAlike 0 0 [] ls ms) → Both (b ≡ true) (IsTidied c d)
answer_ground c d ls ms count b left right is none both = (
  (λ e. tidied_ground c d (sym is ∙ none) (subst (AreMarkedAlike 0 0 [] c.literals) right (subst (λ xs. AreMarkedAlike 0 0 [] xs ms) left (both.0 e)))),
  (λ t. both.1 (subst (λ xs. AreMarkedAlike 0 0 [] xs ms) (sym left) (subst (AreMarkedAlike 0 0 [] c.literals) (sym right) (alike_ground c d (sym is ∙ none) t)))),
)

beside_as : (n : ℕ) (r : Option ℕ) (ls ms xs ys : List Literal) → ls ≡ xs → ms ≡ ys → IsBeside n ls ms r → IsBeside n xs ys r
beside_as n r ls ms xs ys left right found = subst (λ zs. IsBeside n xs zs r) right (subst (λ zs. IsBeside n zs ms r) left found)

pub answer_none : (c d : Clause) (ls ms : List Literal) (count n : ℕ) → ls ≡ c.literals → ms ≡ d.literals → count ≡ variable_bound_of d → n < count →
    IsBeside n ls ms None → Both (false ≡ true) (IsTidied c d)
answer_none c d ls ms count n left right is lt found = (
  (λ e. absurd (false≢true e)),
  (λ t. absurd (tidied_found c d n (omega (arith, lt, is)) (beside_as n None ls ms c.literals d.literals left right found) t)),
)

pub answer_differs : (c d : Clause) (ls ms : List Literal) (count n k : ℕ) → ls ≡ c.literals → ms ≡ d.literals → count ≡ variable_bound_of d → n < count →
    IsBeside n ls ms (Some k) → Both (false ≡ true) (AreMarkedAlike k n [] ls ms) → Both (false ≡ true) (IsTidied c d)
answer_differs c d ls ms count n k left right is lt found both = (
  (λ e. absurd (false≢true e)),
  (λ t. both.1 (subst (λ xs. AreMarkedAlike k n [] xs ms) (sym left) (subst (AreMarkedAlike k n [] c.literals) (sym right)
      (tidied_alike c d n k (omega (arith, lt, is)) (beside_as n (Some k) ls ms c.literals d.literals left right found) t)))),
)

pub passed_none : (ls ms : List Literal) → ArePassed ls ms 0
passed_none ls ms = λ n lt. absurd (omega (arith, lt))

pub passed_more : (ls ms : List Literal) (n k : ℕ) → ArePassed ls ms n → IsBeside n ls ms (Some k) → AreMarkedAlike k n [] ls ms → ArePassed ls ms (n + 1)
passed_more ls ms n k passed found alike = λ m lt. elim (below_next m n lt) [
  | inl old ↦ passed m old
  | inr last ↦ (k, subst (λ x. IsPassed ls ms x k) (sym last) (found, alike))
]

pub answer_passed : (c d : Clause) (ls ms : List Literal) (count n : ℕ) → ls ≡ c.literals → ms ≡ d.literals → count ≡ variable_bound_of d → (count ≡ 0 → ⊥) →
    count ≤ n → ArePassed ls ms n → Both (true ≡ true) (IsTidied c d)
answer_passed c d ls ms count n left right is some le passed = (
  (λ _. tidied_passed c d count is (positive some)
      (λ m lt. subst (λ xs. (k : ℕ) × IsPassed c.literals xs m k) right (subst (λ xs. (k : ℕ) × IsPassed xs ms m k) left (passed m (omega (arith, lt, le)))))),
  (λ _. refl),
)
  where
    positive : (count ≡ 0 → ⊥) → 0 < count
    positive some = grind (arith, some)
