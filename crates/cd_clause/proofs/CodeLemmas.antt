-- Codes tell literals apart.
use Rattle.std.proofs.Common.{◌≡◌, ◌⊎◌, inl, inr, ◌∙◌, ◌++◌, ◌∷◌, [], ℕ, Bool, true, false, List, IsTrue, ◌↔◌, ◌||◌, if◌then◌else◌, map, nat_eq, refl, sym, ap, ap₂, subst, append_assoc, Result, Ok, Err, OnOk, ◌+◌, ◌<◌, ◌≤◌, length, get_or, take, drop}
use Rattle.std.specs.List.{flat_map, concat}
use Rattle.std.specs.Cmp.Lexicographic.{pointwise, bytes_decides}
use Rattle.std.proofs.lemmas.Bool.{false≢true}
use Rattle.std.proofs.lemmas.List.{drop_more, drop_all}
use Rattle.std.proofs.lemmas.List.Folds.{list_any-append}
use Rattle.indexmap.specs.IndexSet.{insert_key}
use Rattle.cd_list.specs.Lists.{Among}
use Rattle.cd_list.proofs.Among.{among_append}
use Rattle.cd_term.specs.declared.Term.{Term}
use Rattle.cd_term.specs.declared.Term.TheVariants.{Var, App}
use Rattle.cd_term.proofs.Equations.{fold-Var, fold-App}
use Rattle.cd_term.proofs.TermInduction.{ind, Each}
use Rattle.cd_clause.specs.declared.Atom.{Atom}
use Rattle.cd_clause.specs.declared.Atom.TheVariants.{Truth, Pred, Equal}
use Rattle.cd_clause.specs.declared.Literal.{Literal}
use Rattle.cd_clause.specs.Clauses.{exchanged, IsAbsurd, IsSameLiteral, IsSuperfluous}
use Rattle.cd_clause.proofs.KeptLemmas.{next_earlier}
use Rattle.cd_clause.specs.Codes.{code_step, term_code, atom_code, sign_code, literal_code, is_met, AreMet}

pub code_Var : (n : ℕ) → term_code (Var n) ≡ 0 ∷ n ∷ []
code_Var = fold-Var (List ℕ) code_step

map_concat : (ts : List Term) → concat (map term_code ts) ≡ flat_map term_code ts
map_concat [] = refl
map_concat (t ∷ ts) = ap (λ (xs : List ℕ). term_code t ++ xs) (map_concat ts)

pub code_App : (f : ℕ) (ts : List Term) → term_code (App f ts) ≡ 1 ∷ f ∷ (flat_map term_code ts ++ 2 ∷ [])
code_App f ts = fold-App (List ℕ) code_step f ts ∙ ap (λ (xs : List ℕ). 1 ∷ f ∷ (xs ++ 2 ∷ [])) (map_concat ts)

-- ---- a code that is put

pub on_ok : {T E P Q : Type 0} (r : Result T E) → (P → Q) → OnOk r P → OnOk r Q
on_ok (Ok x) f p = f p
on_ok (Err e) f p = tt

pub variable_put : (t : Term) (n : ℕ) (start first second : List ℕ) → t ≡ Var n → first ≡ start ++ 0 ∷ [] → second ≡ first ++ n ∷ [] → second ≡ start ++ term_code t
variable_put t n start first second is one two =
    two ∙ ap (λ (l : List ℕ). l ++ n ∷ []) one ∙ append_assoc start (0 ∷ []) (n ∷ []) ∙ ap (λ (l : List ℕ). start ++ l) (sym (ap term_code is ∙ code_Var n))

pub application_begun : (t : Term) (f : ℕ) (ts items : List Term) (start first second : List ℕ) → t ≡ App f ts → items ≡ ts → first ≡ start ++ 1 ∷ [] → second ≡ first ++ f ∷ []
    → second ++ (flat_map term_code items ++ 2 ∷ []) ≡ start ++ term_code t
application_begun t f ts items start first second is same one two =
    let end : List ℕ = flat_map term_code items ++ 2 ∷ [] in
    ap (λ (l : List ℕ). l ++ end) (two ∙ ap (λ (l : List ℕ). l ++ f ∷ []) one ∙ append_assoc start (1 ∷ []) (f ∷ []))
    ∙ append_assoc start (1 ∷ f ∷ []) end
    ∙ ap (λ (us : List Term). start ++ 1 ∷ f ∷ (flat_map term_code us ++ 2 ∷ [])) same
    ∙ ap (λ (l : List ℕ). start ++ l) (sym (ap term_code is ∙ code_App f ts))

pub argument_put : (items : List Term) (i : ℕ) (arg : Term) (into next goal : List ℕ) → i < length items → arg ≡ get_or items i arg
    → into ++ (flat_map term_code (drop i items) ++ 2 ∷ []) ≡ goal → next ≡ into ++ term_code arg → next ++ (flat_map term_code (drop (i + 1) items) ++ 2 ∷ []) ≡ goal
argument_put items i arg into next goal lt at so_far put =
    let rest : List ℕ = flat_map term_code (drop (i + 1) items) ++ 2 ∷ [] in
    let more : drop i items ≡ arg ∷ drop (i + 1) items = drop_more items i arg lt ∙ ap (λ (x : Term). x ∷ drop (i + 1) items) (sym at) in
    ap (λ (l : List ℕ). l ++ rest) put ∙ append_assoc into (term_code arg) rest
    ∙ ap (λ (l : List ℕ). into ++ l) (sym (append_assoc (term_code arg) (flat_map term_code (drop (i + 1) items)) (2 ∷ [])))
    ∙ ap (λ (us : List Term). into ++ (flat_map term_code us ++ 2 ∷ [])) (sym more) ∙ so_far

pub application_end : (items : List Term) (i : ℕ) (into new goal : List ℕ) → length items ≤ i → into ++ (flat_map term_code (drop i items) ++ 2 ∷ []) ≡ goal → new ≡ into ++ 2 ∷ []
    → new ≡ goal
application_end items i into new goal le so_far put =
    put ∙ ap (λ (us : List Term). into ++ (flat_map term_code us ++ 2 ∷ [])) (sym (drop_all i items le)) ∙ so_far

-- ---- what stands behind a code is told

abbrev Splits : Term → Type 0
Splits t = (u : Term) (xs ys : List ℕ) → term_code t ++ xs ≡ term_code u ++ ys → (t ≡ u) × (xs ≡ ys)

-- a code begins with 0 or 1
not_end : (t : Term) (xs ys : List ℕ) → term_code t ++ xs ≡ 2 ∷ ys → ⊥
not_end = ind (λ t. (xs ys : List ℕ) → term_code t ++ xs ≡ 2 ∷ ys → ⊥)
    (λ n xs ys e. let f : 0 ∷ n ∷ xs ≡ 2 ∷ ys = ap (λ (c : List ℕ). c ++ xs) (sym (code_Var n)) ∙ e in absurd (cc f))
    (λ f ts each xs ys e. let g : (1 ∷ f ∷ (flat_map term_code ts ++ 2 ∷ [])) ++ xs ≡ 2 ∷ ys = ap (λ (c : List ℕ). c ++ xs) (sym (code_App f ts)) ∙ e in absurd (cc g))

-- codes up to an end
ends_split : (ts us : List Term) (xs ys : List ℕ) → Each Splits ts → flat_map term_code ts ++ 2 ∷ xs ≡ flat_map term_code us ++ 2 ∷ ys → (ts ≡ us) × (xs ≡ ys)
ends_split [] [] xs ys each e = (refl, cc e)
ends_split [] (u ∷ us) xs ys each e =
    absurd (not_end u (flat_map term_code us ++ 2 ∷ ys) xs (sym (append_assoc (term_code u) (flat_map term_code us) (2 ∷ ys)) ∙ sym e))
ends_split (t ∷ ts) [] xs ys each e =
    absurd (not_end t (flat_map term_code ts ++ 2 ∷ xs) ys (sym (append_assoc (term_code t) (flat_map term_code ts) (2 ∷ xs)) ∙ e))
ends_split (t ∷ ts) (u ∷ us) xs ys each e =
    let first = each.0 u (flat_map term_code ts ++ 2 ∷ xs) (flat_map term_code us ++ 2 ∷ ys)
    (sym (append_assoc (term_code t) (flat_map term_code ts) (2 ∷ xs)) ∙ e ∙ append_assoc (term_code u) (flat_map term_code us) (2 ∷ ys)) in
    let more = ends_split ts us xs ys each.1 first.1 in
    (ap₂ (λ (x : Term) (l : List Term). x ∷ l) first.0 more.0, more.1)

behind : (cs xs : List ℕ) → (cs ++ 2 ∷ []) ++ xs ≡ cs ++ 2 ∷ xs
behind cs xs = append_assoc cs (2 ∷ []) xs

variable_splits : (n : ℕ) → Splits (Var n)
variable_splits n u xs ys e = ind (λ v. 0 ∷ n ∷ xs ≡ term_code v ++ ys → (Var n ≡ v) × (xs ≡ ys))
    (λ m h. let g : 0 ∷ n ∷ xs ≡ 0 ∷ m ∷ ys = h ∙ ap (λ (c : List ℕ). c ++ ys) (code_Var m) in let same : n ≡ m = cc g in (ap Var same, cc g))
    (λ f ts each h. let g : 0 ∷ n ∷ xs ≡ (1 ∷ f ∷ (flat_map term_code ts ++ 2 ∷ [])) ++ ys = h ∙ ap (λ (c : List ℕ). c ++ ys) (code_App f ts) in absurd (cc g))
    u (ap (λ (c : List ℕ). c ++ xs) (sym (code_Var n)) ∙ e)

application_splits : (f : ℕ) (ts : List Term) → Each Splits ts → Splits (App f ts)
application_splits f ts each u xs ys e = ind (λ v. (1 ∷ f ∷ (flat_map term_code ts ++ 2 ∷ [])) ++ xs ≡ term_code v ++ ys → (App f ts ≡ v) × (xs ≡ ys))
    (λ m h. let g : (1 ∷ f ∷ (flat_map term_code ts ++ 2 ∷ [])) ++ xs ≡ 0 ∷ m ∷ ys = h ∙ ap (λ (c : List ℕ). c ++ ys) (code_Var m) in absurd (cc g))
    (λ k us others h.
    let g : 1 ∷ f ∷ ((flat_map term_code ts ++ 2 ∷ []) ++ xs) ≡ 1 ∷ k ∷ ((flat_map term_code us ++ 2 ∷ []) ++ ys) = h ∙ ap (λ (c : List ℕ). c ++ ys) (code_App k us) in
    let same : f ≡ k = cc g in
    let rest : (flat_map term_code ts ++ 2 ∷ []) ++ xs ≡ (flat_map term_code us ++ 2 ∷ []) ++ ys = cc g in
    let more = ends_split ts us xs ys each (sym (behind (flat_map term_code ts) xs) ∙ rest ∙ behind (flat_map term_code us) ys) in
    (ap₂ App same more.0, more.1))
    u (ap (λ (c : List ℕ). c ++ xs) (sym (code_App f ts)) ∙ e)

splits : (t : Term) → Splits t
splits = ind Splits variable_splits application_splits

each_splits : (ts : List Term) → Each Splits ts
each_splits [] = tt
each_splits (t ∷ ts) = (splits t, each_splits ts)

atom_told : (a b : Atom) → atom_code a ≡ atom_code b → a ≡ b
atom_told Truth Truth e = refl
atom_told Truth (Pred q us) e = absurd (cc e)
atom_told Truth (Equal u v) e = absurd (cc e)
atom_told (Pred p ts) Truth e = absurd (cc e)
atom_told (Pred p ts) (Pred q us) e =
    let same : p ≡ q = cc e in
    let rest : flat_map term_code ts ++ 2 ∷ [] ≡ flat_map term_code us ++ 2 ∷ [] = cc e in
    ap₂ Pred same (ends_split ts us [] [] (each_splits ts) rest).0
atom_told (Pred p ts) (Equal u v) e = absurd (cc e)
atom_told (Equal s t) Truth e = absurd (cc e)
atom_told (Equal s t) (Pred q us) e = absurd (cc e)
atom_told (Equal s t) (Equal u v) e =
    let whole : term_code s ++ term_code t ≡ term_code u ++ term_code v = cc e in
    let first = splits s u (term_code t) (term_code v) whole in
    let second = splits t v [] [] (ap (λ (c : List ℕ). c ++ []) first.1) in
    ap₂ Equal first.0 second.0

sign_told : (b c : Bool) → sign_code b ≡ sign_code c → b ≡ c
sign_told true true e = refl
sign_told true false e = absurd (cc e)
sign_told false true e = absurd (cc e)
sign_told false false e = refl

-- a literal is told by its code
pub literal_told : (b c : Bool) (a d : Atom) → literal_code b a ≡ literal_code c d → (b ≡ c) × (a ≡ d)
literal_told b c a d e =
    let sign : sign_code b ≡ sign_code c = cc e in
    let rest : atom_code a ≡ atom_code d = cc e in
    (sign_told b c sign, atom_told a d rest)

-- ---- codes that were met

abbrev HasCode : List ℕ → Literal → Type 0
HasCode code l = code ≡ literal_code l.positive l.atom

among_left : {A : Type 0} (P : A → Type 0) (xs ys : List A) → Among P xs → Among P (xs ++ ys)
among_left P [] ys some = absurd some
among_left P (x ∷ xs) ys (inl p) = inl p
among_left P (x ∷ xs) ys (inr rest) = inr (among_left P xs ys rest)

among_right : {A : Type 0} (P : A → Type 0) (xs ys : List A) → Among P ys → Among P (xs ++ ys)
among_right P [] ys some = some
among_right P (x ∷ xs) ys some = inr (among_right P xs ys some)

among_weaker : {A : Type 0} (P Q : A → Type 0) (xs : List A) → ((x : A) → P x → Q x) → Among P xs → Among Q xs
among_weaker P Q [] f some = some
among_weaker P Q (x ∷ xs) f (inl p) = inl (f x p)
among_weaker P Q (x ∷ xs) f (inr rest) = inr (among_weaker P Q xs f rest)

or_true : (a b : Bool) → (a || b) ≡ true → (a ≡ true) ⊎ (b ≡ true)
or_true true b e = inl refl
or_true false b e = inr e

left_true : (a b : Bool) → a ≡ true → (a || b) ≡ true
left_true true b e = refl
left_true false b e = absurd (false≢true e)

right_true : (a b : Bool) → b ≡ true → (a || b) ≡ true
right_true true b e = refl
right_true false b e = e

pub none_met : AreMet [] []
none_met code = (λ e. absurd (false≢true e), λ some. absurd some)

met_last : (codes : List (List ℕ)) (code c : List ℕ) → is_met (codes ++ code ∷ []) c ≡ (is_met codes c || (pointwise nat_eq c code || false))
met_last codes code c = list_any-append (pointwise nat_eq c) codes (code ∷ [])

pub met_more : (codes : List (List ℕ)) (ls : List Literal) (l : Literal) (code : List ℕ) → AreMet codes ls → HasCode code l
    → AreMet (insert_key (pointwise nat_eq) codes code) (ls ++ l ∷ [])
met_more codes ls l code met is = by (is_met codes code) refl
  where
    old : (c : List ℕ) → is_met codes c ≡ true → Among (HasCode c) (ls ++ l ∷ [])
    old c e = among_left (HasCode c) ls (l ∷ []) ((met c).0 e)

    new : (c : List ℕ) → c ≡ code → Among (HasCode c) (ls ++ l ∷ [])
    new c e = among_right (HasCode c) ls (l ∷ []) (inl (e ∙ is))

    there : (c : List ℕ) → is_met codes code ≡ true → Among (HasCode c) ls ⊎ Among (HasCode c) (l ∷ []) → is_met codes c ≡ true
    there c e (inl some) = (met c).1 some
    there c e (inr (inl same)) = subst (λ (d : List ℕ). is_met codes d ≡ true) (is ∙ sym same) e
    there c e (inr (inr none)) = absurd none

    first : (c : List ℕ) → (is_met codes c || (pointwise nat_eq c code || false)) ≡ true → Among (HasCode c) (ls ++ l ∷ [])
    first c e = elim (or_true (is_met codes c) (pointwise nat_eq c code || false) e) [
      | inl h ↦ old c h
      | inr h ↦ elim (or_true (pointwise nat_eq c code) false h) [ inl g ↦ new c ((bytes_decides c code).0 g) | inr g ↦ absurd (false≢true g) ]
    ]

    second : (c : List ℕ) → Among (HasCode c) ls ⊎ Among (HasCode c) (l ∷ []) → (is_met codes c || (pointwise nat_eq c code || false)) ≡ true
    second c (inl some) = left_true (is_met codes c) (pointwise nat_eq c code || false) ((met c).1 some)
    second c (inr (inl same)) =
        right_true (is_met codes c) (pointwise nat_eq c code || false) (left_true (pointwise nat_eq c code) false ((bytes_decides c code).1 (same ∙ sym is)))
    second c (inr (inr none)) = absurd none

    by : (b : Bool) → is_met codes code ≡ b → AreMet (if b then codes else codes ++ code ∷ []) (ls ++ l ∷ [])
    by true e = λ c. (old c, λ some. there c e (among_append (HasCode c) ls (l ∷ []) some))
    by false e = λ c. (
      λ h. first c (sym (met_last codes code c) ∙ h),
      λ some. met_last codes code c ∙ second c (among_append (HasCode c) ls (l ∷ []) some),
    )

-- ---- literals that are superfluous

same_by : (l : Literal) (ms : List Literal) → Among (IsSameLiteral l) ms
    → Among (HasCode (literal_code l.positive l.atom)) ms ⊎ Among (HasCode (literal_code l.positive (exchanged l.atom))) ms
same_by l [] some = absurd some
same_by l (m ∷ ms) (inl (sign, inl e)) = inl (inl (ap₂ literal_code sign e))
same_by l (m ∷ ms) (inl (sign, inr e)) = inr (inl (ap₂ literal_code sign e))
same_by l (m ∷ ms) (inr rest) = elim (same_by l ms rest) [ inl h ↦ inl (inr h) | inr h ↦ inr (inr h) ]

abbrev IsOut : List (List ℕ) → Literal → Type 0
IsOut codes l = IsAbsurd l ⊎ (IsTrue (is_met codes (literal_code l.positive l.atom)) ⊎ IsTrue (is_met codes (literal_code l.positive (exchanged l.atom))))

pub out_superfluous : (codes : List (List ℕ)) (earlier : List Literal) (l : Literal) → AreMet codes earlier → IsOut codes l → IsSuperfluous earlier l
out_superfluous codes earlier l met (inl absurd_) = inl absurd_
out_superfluous codes earlier l met (inr (inl h)) =
    inr (among_weaker (HasCode (literal_code l.positive l.atom)) (IsSameLiteral l) earlier
    (λ m e. let t = literal_told l.positive m.positive l.atom m.atom e in (t.0, inl t.1)) ((met (literal_code l.positive l.atom)).0 h))
out_superfluous codes earlier l met (inr (inr h)) =
    inr (among_weaker (HasCode (literal_code l.positive (exchanged l.atom))) (IsSameLiteral l) earlier
    (λ m e. let t = literal_told l.positive m.positive (exchanged l.atom) m.atom e in (t.0, inr t.1)) ((met (literal_code l.positive (exchanged l.atom))).0 h))

pub superfluous_out : (codes : List (List ℕ)) (earlier : List Literal) (l : Literal) → AreMet codes earlier → IsSuperfluous earlier l → IsOut codes l
superfluous_out codes earlier l met (inl absurd_) = inl absurd_
superfluous_out codes earlier l met (inr some) = elim (same_by l earlier some) [
  | inl h ↦ inr (inl ((met (literal_code l.positive l.atom)).1 h))
  | inr h ↦ inr (inr ((met (literal_code l.positive (exchanged l.atom))).1 h))
]

pub superfluous_as : (codes : List (List ℕ)) (earlier : List Literal) (l : Literal) (code other : List ℕ) (out : Bool) → AreMet codes earlier
    → code ≡ literal_code l.positive l.atom → other ≡ literal_code l.positive (exchanged l.atom)
    → (IsTrue out ↔ (IsAbsurd l ⊎ (IsTrue (is_met codes code) ⊎ IsTrue (is_met codes other)))) → IsTrue out ↔ IsSuperfluous earlier l
superfluous_as codes earlier l code other out met one two test = (
  λ e. out_superfluous codes earlier l met (subst (λ (d : List ℕ). IsAbsurd l ⊎ (IsTrue (is_met codes (literal_code l.positive l.atom)) ⊎ IsTrue (is_met codes d))) two
      (subst (λ (d : List ℕ). IsAbsurd l ⊎ (IsTrue (is_met codes d) ⊎ IsTrue (is_met codes other))) one (test.0 e))),
  λ s. test.1 (subst (λ (d : List ℕ). IsAbsurd l ⊎ (IsTrue (is_met codes d) ⊎ IsTrue (is_met codes other))) (sym one)
      (subst (λ (d : List ℕ). IsAbsurd l ⊎ (IsTrue (is_met codes (literal_code l.positive l.atom)) ⊎ IsTrue (is_met codes d))) (sym two) (superfluous_out codes earlier l met s))),
)

-- one literal more of a list
pub met_next : (codes : List (List ℕ)) (ls : List Literal) (i : ℕ) (l : Literal) → i < length ls → l ≡ get_or ls i l → AreMet codes (take i ls ++ l ∷ []) → AreMet codes (take (i + 1) ls)
met_next codes ls i l lt at met = subst (AreMet codes) (sym (next_earlier ls i l lt at)) met
