-- What is left of a list of literals beside another list, one literal at a time.
use Rattle.std.proofs.Common.{◌≡◌, ℕ, ◌+◌, ◌<◌, ◌≤◌, Bool, true, Option, None, Some, option_map, inl, inr, List, [], ◌∷◌, ◌++◌, length, map, get_or, take, drop, nat_eq, nat_lt, ap, subst, refl, sym, ◌∙◌, arith}
use Rattle.std.specs.List.{flat_map}
use Rattle.std.proofs.lemmas.List.{drop_all, length-drop, append-nil}
use Rattle.std.proofs.lemmas.Option.{slice_get-get_or, slice_get_within}
use Rattle.std.proofs.lemmas.List.Concat.{flat_map-append}
use Rattle.cd_list.proofs.Numbers.{below_next}
use Rattle.cd_term.specs.declared.Term.{Term}
use Rattle.cd_term.specs.Terms.{variables_of, renamed_by, marked, first_from}
use Rattle.cd_term.proofs.MarkLemmas.{none_beside, found_beside}
use Rattle.cd_clause.specs.declared.Atom.{Atom}
use Rattle.cd_clause.specs.declared.Atom.TheVariants.{Equal}
use Rattle.cd_clause.specs.declared.Literal.{Literal}
use Rattle.cd_clause.specs.Tidiness.{IsLeftOut, IsClearFrom, AreMarkedAlike, variables_in, IsBeside}
use Rattle.cd_clause.specs.Clauses.{terms_of, clause_terms, atom_changed, literal_changed, literals_changed, IsSuperfluous, AreKept}
use Rattle.cd_clause.proofs.KeptLemmas.{next_list, next_earlier}

-- what is left of a list is one list
pub kept_agree : (earlier ls kept rest : List Literal) → AreKept earlier ls kept → AreKept earlier ls rest → kept ≡ rest
kept_agree earlier [] kept rest a b = a ∙ sym b
kept_agree earlier (l ∷ ls) kept rest (inl a) (inl b) = kept_agree (earlier ++ l ∷ []) ls kept rest a.1 b.1
kept_agree earlier (l ∷ ls) kept rest (inl a) (inr b) = absurd (b.0 a.0)
kept_agree earlier (l ∷ ls) kept rest (inr a) (inl b) = absurd (a.0 b.0)
kept_agree earlier (l ∷ ls) kept rest (inr a) (inr b) =
    a.1.1 ∙ ap (λ ks. l ∷ ks) (kept_agree (earlier ++ l ∷ []) ls a.1.0 b.1.0 a.1.2 b.1.2) ∙ sym b.1.1

-- the first literal is superfluous
kept_past : (earlier ls kept : List Literal) (l : Literal) → IsSuperfluous earlier l → AreKept earlier (l ∷ ls) kept → AreKept (earlier ++ l ∷ []) ls kept
kept_past earlier ls kept l out (inl a) = a.1
kept_past earlier ls kept l out (inr a) = absurd (a.0 out)

-- the first literal is not superfluous
kept_first : (earlier ls kept : List Literal) (l : Literal) → ¬ IsSuperfluous earlier l → AreKept earlier (l ∷ ls) kept →
    (rest : List Literal) × (kept ≡ l ∷ rest) × AreKept (earlier ++ l ∷ []) ls rest
kept_first earlier ls kept l new (inl a) = absurd (new a.0)
kept_first earlier ls kept l new (inr a) = a.1

-- both directions
abbrev pub Both : Type 0 → Type 0 → Type 0
Both A B = (A → B) × (B → A)

alike_skip : (k n : ℕ) (earlier ls ms : List Literal) (l : Literal) → IsSuperfluous earlier l →
    Both (AreMarkedAlike k n earlier (l ∷ ls) ms) (AreMarkedAlike k n (earlier ++ l ∷ []) ls ms)
alike_skip k n earlier ls ms l out = (
  (λ a. (a.0, kept_past earlier ls a.0 l out a.1, a.2)),
  (λ a. (a.0, inl (out, a.1), a.2)),
)

head_same : (g h : Literal → Literal) (l m : Literal) (ls ms : List Literal) → map g (l ∷ ls) ≡ map h (m ∷ ms) → (g l ≡ h m) × (map g ls ≡ map h ms)
head_same g h l m ls ms e = (cc, cc)

alike_first : (k n : ℕ) (earlier ls ms : List Literal) (l m : Literal) → ¬ IsSuperfluous earlier l → AreMarkedAlike k n earlier (l ∷ ls) (m ∷ ms) →
    (literal_changed (marked k) l ≡ literal_changed (marked n) m) × AreMarkedAlike k n (earlier ++ l ∷ []) ls ms
alike_first k n earlier ls ms l m new a =
    let some = kept_first earlier ls a.0 l new a.1 in
    let both = head_same (literal_changed (marked k)) (literal_changed (marked n)) l m some.0 ms
    (sym (ap (literals_changed (marked k)) some.1) ∙ a.2) in
    (both.0, (some.0, some.2, both.1))

alike_next : (k n : ℕ) (earlier ls ms : List Literal) (l m : Literal) → ¬ IsSuperfluous earlier l →
    literal_changed (marked k) l ≡ literal_changed (marked n) m →
    Both (AreMarkedAlike k n earlier (l ∷ ls) (m ∷ ms)) (AreMarkedAlike k n (earlier ++ l ∷ []) ls ms)
alike_next k n earlier ls ms l m new same = (
  (λ a. (alike_first k n earlier ls ms l m new a).1),
  (λ a. (
    l ∷ a.0,
    inr (new, (a.0, refl, a.1)),
    ap (λ x. x ∷ literals_changed (marked k) a.0) same ∙ ap (λ xs. literal_changed (marked n) m ∷ xs) a.2,
  )),
)

alike_over : (k n : ℕ) (earlier ls : List Literal) (l : Literal) → ¬ IsSuperfluous earlier l → AreMarkedAlike k n earlier (l ∷ ls) [] → ⊥
alike_over k n earlier ls l new a =
    let some = kept_first earlier ls a.0 l new a.1 in nothing some.0 (sym (ap (literals_changed (marked k)) some.1) ∙ a.2)
  where
    nothing : (rest : List Literal) → literals_changed (marked k) (l ∷ rest) ≡ [] → ⊥
    nothing rest e = cc

-- what was passed answers for the whole
abbrev pub IsRest : ℕ → ℕ → List Literal → List Literal → ℕ → ℕ → Type 0
IsRest k n ls ms i j = (j ≤ length ms) × Both (AreMarkedAlike k n [] ls ms) (AreMarkedAlike k n (take i ls) (drop i ls) (drop j ms))

-- the rest with its first literal in sight
opened : (k n : ℕ) (ls ms : List Literal) (i j : ℕ) (l : Literal) → i < length ls → l ≡ get_or ls i l → IsRest k n ls ms i j →
    Both (AreMarkedAlike k n [] ls ms) (AreMarkedAlike k n (take i ls) (l ∷ drop (i + 1) ls) (drop j ms))
opened k n ls ms i j l lt at rest =
    subst (λ xs. Both (AreMarkedAlike k n [] ls ms) (AreMarkedAlike k n (take i ls) xs (drop j ms))) (next_list ls i l lt at) rest.1

closed : (k n : ℕ) (ls ms xs : List Literal) (i : ℕ) (l : Literal) → i < length ls → l ≡ get_or ls i l →
    Both (AreMarkedAlike k n [] ls ms) (AreMarkedAlike k n (take i ls ++ l ∷ []) (drop (i + 1) ls) xs) →
    Both (AreMarkedAlike k n [] ls ms) (AreMarkedAlike k n (take (i + 1) ls) (drop (i + 1) ls) xs)
closed k n ls ms xs i l lt at both =
    subst (λ es. Both (AreMarkedAlike k n [] ls ms) (AreMarkedAlike k n es (drop (i + 1) ls) xs)) (sym (next_earlier ls i l lt at)) both

through : (A B C : Type 0) → Both A B → Both B C → Both A C
through A B C ab bc = ((λ a. bc.0 (ab.0 a)), (λ c. ab.1 (bc.1 c)))

superfluous_as : (us vs : List Literal) (l : Literal) → us ≡ vs → IsSuperfluous us l → IsSuperfluous vs l
superfluous_as us vs l is out = subst (λ es. IsSuperfluous es l) is out

new_as : (us vs : List Literal) (l : Literal) → us ≡ vs → ¬ IsSuperfluous us l → ¬ IsSuperfluous vs l
new_as us vs l is new = λ out. new (subst (λ es. IsSuperfluous es l) (sym is) out)

pub rest_skip : (k n : ℕ) (ls ms us : List Literal) (i j : ℕ) (l : Literal) → i < length ls → l ≡ get_or ls i l → us ≡ take i ls →
    IsSuperfluous us l → IsRest k n ls ms i j → IsRest k n ls ms (i + 1) j
rest_skip k n ls ms us i j l lt at is out rest = (
  rest.0,
  closed k n ls ms (drop j ms) i l lt at
      (through (AreMarkedAlike k n [] ls ms) (AreMarkedAlike k n (take i ls) (l ∷ drop (i + 1) ls) (drop j ms))
      (AreMarkedAlike k n (take i ls ++ l ∷ []) (drop (i + 1) ls) (drop j ms))
      (opened k n ls ms i j l lt at rest)
      (alike_skip k n (take i ls) (drop (i + 1) ls) (drop j ms) l (superfluous_as us (take i ls) l is out))),
)

-- the other list with its first literal in sight too
opened_both : (k n : ℕ) (ls ms : List Literal) (i j : ℕ) (l m : Literal) → i < length ls → l ≡ get_or ls i l → j < length ms → m ≡ get_or ms j m →
    IsRest k n ls ms i j → Both (AreMarkedAlike k n [] ls ms) (AreMarkedAlike k n (take i ls) (l ∷ drop (i + 1) ls) (m ∷ drop (j + 1) ms))
opened_both k n ls ms i j l m lt at below beside rest =
    subst (λ xs. Both (AreMarkedAlike k n [] ls ms) (AreMarkedAlike k n (take i ls) (l ∷ drop (i + 1) ls) xs)) (next_list ms j m below beside)
    (opened k n ls ms i j l lt at rest)

pub rest_next : (k n : ℕ) (ls ms us : List Literal) (i j : ℕ) (l m : Literal) → i < length ls → l ≡ get_or ls i l → us ≡ take i ls →
    ¬ IsSuperfluous us l → j < length ms → m ≡ get_or ms j m → literal_changed (marked k) l ≡ literal_changed (marked n) m →
    IsRest k n ls ms i j → IsRest k n ls ms (i + 1) (j + 1)
rest_next k n ls ms us i j l m lt at is new below beside same rest = (
  omega (arith, below),
  closed k n ls ms (drop (j + 1) ms) i l lt at
      (through (AreMarkedAlike k n [] ls ms) (AreMarkedAlike k n (take i ls) (l ∷ drop (i + 1) ls) (m ∷ drop (j + 1) ms))
      (AreMarkedAlike k n (take i ls ++ l ∷ []) (drop (i + 1) ls) (drop (j + 1) ms))
      (opened_both k n ls ms i j l m lt at below beside rest)
      (alike_next k n (take i ls) (drop (i + 1) ls) (drop (j + 1) ms) l m (new_as us (take i ls) l is new) same)),
)

pub rest_differs : (k n : ℕ) (ls ms us : List Literal) (i j : ℕ) (l m : Literal) → i < length ls → l ≡ get_or ls i l → us ≡ take i ls →
    ¬ IsSuperfluous us l → j < length ms → m ≡ get_or ms j m → (literal_changed (marked k) l ≡ literal_changed (marked n) m → ⊥) →
    IsRest k n ls ms i j → AreMarkedAlike k n [] ls ms → ⊥
rest_differs k n ls ms us i j l m lt at is new below beside differ rest a =
    differ (alike_first k n (take i ls) (drop (i + 1) ls) (drop (j + 1) ms) l m (new_as us (take i ls) l is new)
    ((opened_both k n ls ms i j l m lt at below beside rest).0 a)).0

pub rest_over : (k n : ℕ) (ls ms us : List Literal) (i j : ℕ) (l : Literal) → i < length ls → l ≡ get_or ls i l → us ≡ take i ls →
    ¬ IsSuperfluous us l → j ≡ length ms → IsRest k n ls ms i j → AreMarkedAlike k n [] ls ms → ⊥
rest_over k n ls ms us i j l lt at is new end rest a =
    alike_over k n (take i ls) (drop (i + 1) ls) l (new_as us (take i ls) l is new)
    (subst (λ xs. AreMarkedAlike k n (take i ls) (l ∷ drop (i + 1) ls) xs) (drop_all j ms (omega (arith, end)))
    ((opened k n ls ms i j l lt at rest).0 a))

pub rest_start : (k n : ℕ) (ls ms : List Literal) → IsRest k n ls ms 0 0
rest_start k n ls ms = (omega arith, ((λ a. a), (λ a. a)))

alike_none : (k n : ℕ) (earlier : List Literal) (m : Literal) (ms : List Literal) → AreMarkedAlike k n earlier [] (m ∷ ms) → ⊥
alike_none k n earlier m ms a = nothing (sym (ap (literals_changed (marked k)) a.1) ∙ a.2)
  where
    nothing : [] ≡ literals_changed (marked n) (m ∷ ms) → ⊥
    nothing e = cc

-- a list is used up
used_up : (ms : List Literal) (j : ℕ) → j ≤ length ms → drop j ms ≡ [] → j ≡ length ms
used_up ms j le is = omega (arith, le, length-drop j ms, ap length is)

alike_end : (k n : ℕ) (earlier ms xs : List Literal) (j : ℕ) → j ≤ length ms → drop j ms ≡ xs → AreMarkedAlike k n earlier [] xs → j ≡ length ms
alike_end k n earlier ms [] j le is a = used_up ms j le is
alike_end k n earlier ms (m ∷ xs) j le is a = absurd (alike_none k n earlier m xs a)

pub rest_end : (k n : ℕ) (ls ms : List Literal) (i j : ℕ) → length ls ≤ i → IsRest k n ls ms i j → Both (j ≡ length ms) (AreMarkedAlike k n [] ls ms)
rest_end k n ls ms i j le rest = (
  (λ end. rest.1.1 (subst (λ xs. AreMarkedAlike k n (take i ls) (drop i ls) xs) (sym (drop_all j ms (omega (arith, end))))
      (subst (λ xs. AreMarkedAlike k n (take i ls) xs []) (sym (drop_all i ls le)) ([], refl, refl)))),
  (λ a. alike_end k n (take i ls) ms (drop j ms) j rest.0 refl
      (subst (λ xs. AreMarkedAlike k n (take i ls) xs (drop j ms)) (drop_all i ls le) (rest.1.0 a))),
)

-- what is still to be searched
abbrev pub RemainsFor : ℕ → List Literal → List Literal → ℕ → ℕ → (ℕ → ℕ) → Type 0
RemainsFor n ls ms i j q = (rest : List Literal) × AreKept (take i ls) (drop i ls) rest × (rest ≡ literals_changed (renamed_by q) (drop j ms))
    × (first_from n (variables_in ms) ≡ first_from n (variables_in (drop j ms)))

abbrev pub Remains : ℕ → List Literal → List Literal → ℕ → ℕ → Type 0
Remains n ls ms i j = (j ≤ length ms) × ((q : ℕ → ℕ) (kept : List Literal) → AreKept [] ls kept → kept ≡ literals_changed (renamed_by q) ms → RemainsFor n ls ms i j q)

variables_cons : (m : Literal) (ms : List Literal) → variables_in (m ∷ ms) ≡ flat_map variables_of (terms_of m.atom) ++ variables_in ms
variables_cons m ms = flat_map-append variables_of (terms_of m.atom) (clause_terms ms)

pub remains_start : (n : ℕ) (ls ms : List Literal) → Remains n ls ms 0 0
remains_start n ls ms = (omega arith, (λ q kept k e. (kept, k, e, refl)))

pub remains_skip : (n : ℕ) (ls ms us : List Literal) (i j : ℕ) (l : Literal) → i < length ls → l ≡ get_or ls i l → us ≡ take i ls →
    IsSuperfluous us l → Remains n ls ms i j → Remains n ls ms (i + 1) j
remains_skip n ls ms us i j l lt at is out left = (
  left.0,
  λ q kept k e.
      let r : RemainsFor n ls ms i j q = left.1 q kept k e in (
        r.0,
        subst (λ es. AreKept es (drop (i + 1) ls) r.0) (sym (next_earlier ls i l lt at))
            (kept_past (take i ls) (drop (i + 1) ls) r.0 l (superfluous_as us (take i ls) l is out)
            (subst (λ xs. AreKept (take i ls) xs r.0) (next_list ls i l lt at) r.1)),
        r.2,
        r.3,
      ),
)

-- the first literal that is kept, and the one beside it
abbrev pub StandsBeside : ℕ → List Literal → List Literal → ℕ → ℕ → Literal → Literal → (ℕ → ℕ) → Type 0
StandsBeside n ls ms i j l m q = (rest : List Literal) × AreKept (take (i + 1) ls) (drop (i + 1) ls) rest
    × (rest ≡ literals_changed (renamed_by q) (drop (j + 1) ms)) × (l ≡ literal_changed (renamed_by q) m)
    × (first_from n (variables_in ms) ≡ first_from n (flat_map variables_of (terms_of m.atom) ++ variables_in (drop (j + 1) ms)))

cons_same : (l m : Literal) (xs ys : List Literal) → l ∷ xs ≡ m ∷ ys → (l ≡ m) × (xs ≡ ys)
cons_same l m xs ys e = (cc, cc)

stands_beside : (n : ℕ) (ls ms us : List Literal) (i j : ℕ) (l m : Literal) (q : ℕ → ℕ) → i < length ls → l ≡ get_or ls i l → us ≡ take i ls →
    ¬ IsSuperfluous us l → j < length ms → m ≡ get_or ms j m → RemainsFor n ls ms i j q → StandsBeside n ls ms i j l m q
stands_beside n ls ms us i j l m q lt at is new below beside r =
    let some = kept_first (take i ls) (drop (i + 1) ls) r.0 l (new_as us (take i ls) l is new)
    (subst (λ xs. AreKept (take i ls) xs r.0) (next_list ls i l lt at) r.1) in
    let parts = cons_same l (literal_changed (renamed_by q) m) some.0 (literals_changed (renamed_by q) (drop (j + 1) ms))
    (sym some.1 ∙ r.2 ∙ ap (literals_changed (renamed_by q)) (next_list ms j m below beside)) in (
      some.0,
      subst (λ es. AreKept es (drop (i + 1) ls) some.0) (sym (next_earlier ls i l lt at)) some.2,
      parts.1,
      parts.0,
      r.3 ∙ ap (λ xs. first_from n (variables_in xs)) (next_list ms j m below beside)
          ∙ ap (first_from n) (variables_cons m (drop (j + 1) ms)),
    )

-- what a search beside one atom answers
abbrev pub IsBesideAtom : ℕ → Literal → Literal → Option ℕ → Type 0
IsBesideAtom n l m r = (q : ℕ → ℕ) → l.atom ≡ atom_changed (renamed_by q) m.atom → r ≡ option_map q (first_from n (flat_map variables_of (terms_of m.atom)))

pub remains_next : (n : ℕ) (ls ms us : List Literal) (i j : ℕ) (l m : Literal) → i < length ls → l ≡ get_or ls i l → us ≡ take i ls →
    ¬ IsSuperfluous us l → j < length ms → m ≡ get_or ms j m → IsBesideAtom n l m None → Remains n ls ms i j → Remains n ls ms (i + 1) (j + 1)
remains_next n ls ms us i j l m lt at is new below beside here left = (
  omega (arith, below),
  λ q kept k e.
      let s = stands_beside n ls ms us i j l m q lt at is new below beside (left.1 q kept k e) in (
        s.0,
        s.1,
        s.2,
        s.4 ∙ none_beside n q (flat_map variables_of (terms_of m.atom)) (variables_in (drop (j + 1) ms)) (here q (ap (λ x. x.atom) s.3)),
      ),
)

pub remains_found : (n k : ℕ) (ls ms us : List Literal) (i j : ℕ) (l m : Literal) → i < length ls → l ≡ get_or ls i l → us ≡ take i ls →
    ¬ IsSuperfluous us l → j < length ms → m ≡ get_or ms j m → IsBesideAtom n l m (Some k) → Remains n ls ms i j → IsBeside n ls ms (Some k)
remains_found n k ls ms us i j l m lt at is new below beside here left = λ q kept ks e.
    let s = stands_beside n ls ms us i j l m q lt at is new below beside (left.1 q kept ks e) in
    found_beside n q k (flat_map variables_of (terms_of m.atom)) (variables_in (drop (j + 1) ms)) (here q (ap (λ x. x.atom) s.3))
    ∙ sym (ap (option_map q) s.4)

nothing_kept : (q : ℕ → ℕ) (l : Literal) (rest xs : List Literal) → xs ≡ [] → l ∷ rest ≡ literals_changed (renamed_by q) xs → ⊥
nothing_kept q l rest xs is e = cc

pub remains_over : (n : ℕ) (ls ms us : List Literal) (i j : ℕ) (l : Literal) → i < length ls → l ≡ get_or ls i l → us ≡ take i ls →
    ¬ IsSuperfluous us l → j ≡ length ms → Remains n ls ms i j → IsBeside n ls ms None
remains_over n ls ms us i j l lt at is new end left = λ q kept k e.
    let r : RemainsFor n ls ms i j q = left.1 q kept k e in
    let some = kept_first (take i ls) (drop (i + 1) ls) r.0 l (new_as us (take i ls) l is new)
    (subst (λ xs. AreKept (take i ls) xs r.0) (next_list ls i l lt at) r.1) in
    absurd (nothing_kept q l some.0 (drop j ms) (drop_all j ms (omega (arith, end))) (sym some.1 ∙ r.2))

nothing_left : (n : ℕ) (q : ℕ → ℕ) (rest xs : List Literal) → rest ≡ [] → rest ≡ literals_changed (renamed_by q) xs →
    None ≡ option_map q (first_from n (variables_in xs))
nothing_left n q rest [] is e = refl
nothing_left n q rest (x ∷ xs) is e = absurd (apart (sym is ∙ e))
  where
    apart : [] ≡ literals_changed (renamed_by q) (x ∷ xs) → ⊥
    apart e = cc

pub remains_end : (n : ℕ) (ls ms : List Literal) (i j : ℕ) → length ls ≤ i → Remains n ls ms i j → IsBeside n ls ms None
remains_end n ls ms i j le left = λ q kept k e.
    let r : RemainsFor n ls ms i j q = left.1 q kept k e in
    nothing_left n q r.0 (drop j ms) (subst (λ xs. AreKept (take i ls) xs r.0) (drop_all i ls le) r.1) r.2
    ∙ sym (ap (option_map q) r.3)

-- of an equation, the left side first
sides_same : (q : ℕ → ℕ) (s t u v : Term) → Equal s t ≡ atom_changed (renamed_by q) (Equal u v) → (s ≡ renamed_by q u) × (t ≡ renamed_by q v)
sides_same q s t u v e = (cc, cc)

pub left_side_found : (n k : ℕ) (a b : Atom) (s t u v : Term) → a ≡ Equal s t → b ≡ Equal u v →
    ((q : ℕ → ℕ) → s ≡ renamed_by q u → Some k ≡ option_map q (first_from n (variables_of u))) →
    (q : ℕ → ℕ) → a ≡ atom_changed (renamed_by q) b → Some k ≡ option_map q (first_from n (flat_map variables_of (terms_of b)))
left_side_found n k a b s t u v is at here = λ q e.
    found_beside n q k (variables_of u) (variables_of v ++ []) (here q (sides_same q s t u v (sym is ∙ e ∙ ap (atom_changed (renamed_by q)) at)).0)
    ∙ sym (ap (λ x. option_map q (first_from n (flat_map variables_of (terms_of x)))) at)

pub right_side_found : (n : ℕ) (r : Option ℕ) (a b : Atom) (s t u v : Term) → a ≡ Equal s t → b ≡ Equal u v →
    ((q : ℕ → ℕ) → s ≡ renamed_by q u → None ≡ option_map q (first_from n (variables_of u))) →
    ((q : ℕ → ℕ) → t ≡ renamed_by q v → r ≡ option_map q (first_from n (variables_of v))) →
    (q : ℕ → ℕ) → a ≡ atom_changed (renamed_by q) b → r ≡ option_map q (first_from n (flat_map variables_of (terms_of b)))
right_side_found n r a b s t u v is at first second = λ q e.
    let sides = sides_same q s t u v (sym is ∙ e ∙ ap (atom_changed (renamed_by q)) at) in
    second q sides.1
    ∙ ap (λ xs. option_map q (first_from n xs)) (sym (append-nil (variables_of v)))
    ∙ sym (ap (option_map q) (none_beside n q (variables_of u) (variables_of v ++ []) (first q sides.0)))
    ∙ sym (ap (λ x. option_map q (first_from n (flat_map variables_of (terms_of x)))) at)

pub eq_tells : (A : Type 0) (m n : ℕ) → Both (m ≡ n) A → Both (nat_eq m n ≡ true) A
eq_tells A m n both = ((λ e. both.0 (grind (arith, e))), (λ a. same m n (both.1 a)))
  where
    same : (m n : ℕ) → m ≡ n → nat_eq m n ≡ true
    same m n e = grind (arith, e)

-- the literal in a place, by itself
pub left_out : (ls : List Literal) (i : ℕ) (l : Literal) → i < length ls → l ≡ get_or ls i l → IsSuperfluous (take i ls) l → IsLeftOut ls i
left_out ls i l lt at out = (l, slice_get-get_or ls i l lt ∙ ap Some (sym at), out)

pub left_out_is : (ls : List Literal) (i : ℕ) (l : Literal) → i < length ls → l ≡ get_or ls i l → IsLeftOut ls i → IsSuperfluous (take i ls) l
left_out_is ls i l lt at out =
    let same : Some out.0 ≡ Some l = sym out.1 ∙ slice_get-get_or ls i l lt ∙ ap Some (sym at) in
    let one : out.0 ≡ l = cc in
    subst (IsSuperfluous (take i ls)) one out.2

-- the places behind those that a loop has passed
abbrev pub IsClearBetween : ℕ → ℕ → List Literal → Type 0
IsClearBetween clear i ls = (k : ℕ) → clear ≤ k → k < i → ¬ IsLeftOut ls k

pub clear_more : (clear i : ℕ) (ls us : List Literal) (l : Literal) → i < length ls → l ≡ get_or ls i l → us ≡ take i ls → ¬ IsSuperfluous us l →
    IsClearBetween clear i ls → IsClearBetween clear (i + 1) ls
clear_more clear i ls us l lt at is new clears = λ k le below. elim (below_next k i below) [
  | inl old ↦ clears k le old
  | inr here ↦ (λ out. new_as us (take i ls) l is new (left_out_is ls i l lt at (subst (IsLeftOut ls) here out)))
]

pub clear_all : (clear i : ℕ) (ls : List Literal) → length ls ≤ i → IsClearBetween clear i ls → IsClearFrom clear ls
clear_all clear i ls le clears = λ k from out. clears k from (omega (arith, le, slice_get_within ls k out.0 out.1)) out

-- what the test of one literal answers
pub past_clear : (clear i : ℕ) (ls : List Literal) → clear ≤ i → IsClearFrom clear ls → Both (nat_lt i clear ≡ true) (IsLeftOut ls i)
past_clear clear i ls le clears = ((λ e. absurd (apart i clear e le)), (λ out. absurd (clears i le out)))
  where
    apart : (i clear : ℕ) → nat_lt i clear ≡ true → clear ≤ i → ⊥
    apart i clear e le = grind (arith, e, le)

pub clear_here : (clear i : ℕ) (ls : List Literal) → clear ≡ i → IsClearBetween clear i ls
clear_here clear i ls is = λ k le below. absurd (omega (arith, is, le, below))

pub out_tells : (i : ℕ) (ls us : List Literal) (l : Literal) (b : Bool) → i < length ls → l ≡ get_or ls i l → us ≡ take i ls →
    Both (b ≡ true) (IsSuperfluous us l) → Both (b ≡ true) (IsLeftOut ls i)
out_tells i ls us l b lt at is both = (
  (λ e. left_out ls i l lt at (superfluous_as us (take i ls) l is (both.0 e))),
  (λ out. both.1 (superfluous_as (take i ls) us l (sym is) (left_out_is ls i l lt at out))),
)
