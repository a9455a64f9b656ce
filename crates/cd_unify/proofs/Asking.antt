-- What is asked of substitutions: each of some variables has a value, or nothing meets it. So matching is decided.
use Rattle.std.proofs.Common.{◌≡◌, ◌⊎◌, inl, inr, ℕ, Bool, if◌then◌else◌, nat_eq, List, [], ◌∷◌, ◌++◌, map, refl, ap, sym, ◌∙◌}
use Rattle.std.proofs.lemmas.Bool.{ne_eqb}
use Rattle.cd_list.specs.Lists.{Among}
use Rattle.cd_list.proofs.Numbers.{equal_itself}
use Rattle.cd_term.specs.declared.Term.{Term}
use Rattle.cd_term.specs.declared.Term.TheVariants.{Var, App}
use Rattle.cd_term.specs.Terms.{substituted}
use Rattle.cd_list.specs.Decisions.{Decided}
use Rattle.cd_term.proofs.TermInduction.{ind, Each}
use Rattle.cd_term.proofs.Equations.{substituted-Var, substituted-App}
use Rattle.cd_term.proofs.VariableLaws.{App-injective}
use Rattle.cd_list.proofs.Decisions.{both, number}
use Rattle.cd_term.proofs.Deciding.{terms_decide}
use Rattle.cd_term.proofs.MarkLemmas.{Var-App-apart}

-- a variable and the value that it must have
pub record Bound : Type 0 where
  pub variable : ℕ
  pub value : Term

abbrev pub Meets : (ℕ → Term) → List Bound → Type 0
Meets g [] = Unit {0}
Meets g (b ∷ bs) = (g b.variable ≡ b.value) × Meets g bs

-- something of substitutions is that they meet some bindings, or holds of none
pub record Asks (P : (ℕ → Term) → Type 0) : Type 0 where
  pub bounds : List Bound
  pub there : (g : ℕ → Term) → P g → Meets g bounds
  pub back : (g : ℕ → Term) → Meets g bounds → P g

abbrev pub Asked : ((ℕ → Term) → Type 0) → Type 0
Asked P = Asks P ⊎ ((g : ℕ → Term) → P g → ⊥)

meets_front : (g : ℕ → Term) (xs bs : List Bound) → Meets g (xs ++ bs) → Meets g xs × Meets g bs
meets_front g [] bs m = (tt, m)
meets_front g (a ∷ xs) bs m = (let r = meets_front g xs bs m.1 in ((m.0, r.0), r.1))

meets_all : (g : ℕ → Term) (xs bs : List Bound) → Meets g xs → Meets g bs → Meets g (xs ++ bs)
meets_all g [] bs m n = n
meets_all g (a ∷ xs) bs m n = (m.0, meets_all g xs bs m.1 n)

pub ask_both : {P Q : (ℕ → Term) → Type 0} → Asked P → Asked Q → Asked (λ g. P g × Q g)
ask_both (inl a) (inl b) = inl (record {
  bounds = a.bounds ++ b.bounds;
  there = λ g p. meets_all g a.bounds b.bounds (a.there g p.0) (b.there g p.1);
  back = λ g m. (let r = meets_front g a.bounds b.bounds m in (a.back g r.0, b.back g r.1));
})
ask_both (inl a) (inr none) = inr (λ g p. none g p.1)
ask_both (inr none) b = inr (λ g p. none g p.0)

pub ask_as : {P Q : (ℕ → Term) → Type 0} → ((g : ℕ → Term) → P g → Q g) → ((g : ℕ → Term) → Q g → P g) → Asked P → Asked Q
ask_as f h (inl a) = inl (record { bounds = a.bounds; there = λ g q. a.there g (h g q); back = λ g m. f g (a.back g m) })
ask_as f h (inr none) = inr (λ g q. none g (h g q))

pub ask_nothing : {P : Type 0} → Decided P → Asked (λ g. P)
ask_nothing (inl p) = inl (record { bounds = []; there = λ g q. tt; back = λ g m. p })
ask_nothing (inr none) = inr (λ g p. none p)

ask_lists : (ts us : List Term) → Each (λ t. (u : Term) → Asked (λ g. substituted g t ≡ u)) ts → Asked (λ g. map (substituted g) ts ≡ us)
ask_lists [] [] each = inl (record { bounds = []; there = λ g e. tt; back = λ g m. refl })
ask_lists [] (u ∷ us) each = inr (λ g e. cc)
ask_lists (t ∷ ts) [] each = inr (λ g e. cc)
ask_lists (t ∷ ts) (u ∷ us) each = ask_as (λ g p. ap (λ x. x ∷ map (substituted g) ts) p.0 ∙ ap (λ xs. u ∷ xs) p.1) (λ g e. (cc, cc)) (ask_both (each.0 u) (ask_lists ts us each.1))

pub ask_term : (t u : Term) → Asked (λ g. substituted g t ≡ u)
ask_term = ind (λ t. (u : Term) → Asked (λ g. substituted g t ≡ u))
    (λ n u. inl (record { bounds = record { variable = n; value = u } ∷ []; there = λ g e. (sym (substituted-Var g n) ∙ e, tt); back = λ g m. substituted-Var g n ∙ m.0 }))
    (λ f ts each. ind (λ u. Asked (λ g. substituted g (App f ts) ≡ u))
    (λ m. inr (λ g e. Var-App-apart m f (map (substituted g) ts) (sym e ∙ substituted-App g f ts)))
    (λ k us others. ask_as
    (λ g p. substituted-App g f ts ∙ ap (λ n. App n (map (substituted g) ts)) p.0 ∙ ap (App k) p.1)
    (λ g e. App-injective f k (map (substituted g) ts) us (sym (substituted-App g f ts) ∙ e))
    (ask_both (ask_nothing (number f k)) (ask_lists ts us each))))

every : (ts : List Term) → Each (λ t. (u : Term) → Asked (λ g. substituted g t ≡ u)) ts
every [] = tt
every (t ∷ ts) = (ask_term t, every ts)

pub ask_terms : (ts us : List Term) → Asked (λ g. map (substituted g) ts ≡ us)
ask_terms ts us = ask_lists ts us (every ts)

-- the first value of each variable
look : List Bound → ℕ → Term
look [] k = Var k
look (b ∷ bs) k = if nat_eq b.variable k then b.value else look bs k

looked : (g : ℕ → Term) (bs : List Bound) (b : Bound) → Meets g bs → Among (λ c. c.variable ≡ b.variable) bs → look bs b.variable ≡ g b.variable
unfolding look
looked g [] b m a = absurd a
looked g (c ∷ bs) b m a = at (number c.variable b.variable) (looked g bs b m.1)
  where
    at : Decided (c.variable ≡ b.variable) → (Among (λ c. c.variable ≡ b.variable) bs → look bs b.variable ≡ g b.variable) → look (c ∷ bs) b.variable ≡ g b.variable
    at (inl same) rest = ap (λ (x : Bool). if x then c.value else look bs b.variable) (ap (λ n. nat_eq n b.variable) same ∙ equal_itself b.variable) ∙ sym m.0 ∙ ap g same
    at (inr apart) rest = ap (λ (x : Bool). if x then c.value else look bs b.variable) (ne_eqb c.variable b.variable apart) ∙ rest (elim a [ inl same ↦ absurd (apart same) | inr there ↦ there ])

-- what some substitution meets, the lookup meets
met_by_look : (g : ℕ → Term) (all bs : List Bound) → Meets g all → Meets g bs → ((b : Bound) → Among (λ c. c ≡ b) bs → Among (λ c. c.variable ≡ b.variable) all) → Meets (look all) bs
met_by_look g all [] m n f = tt
met_by_look g all (b ∷ bs) m n f = (looked g all b m (f b (inl refl)) ∙ n.0, met_by_look g all bs m n.1 (λ c a. f c (inr a)))

own : (bs : List Bound) (b : Bound) → Among (λ c. c ≡ b) bs → Among (λ c. c.variable ≡ b.variable) bs
own [] b a = absurd a
own (c ∷ bs) b (inl e) = inl (ap (λ (x : Bound). x.variable) e)
own (c ∷ bs) b (inr a) = inr (own bs b a)

meets : (g : ℕ → Term) (bs : List Bound) → Decided (Meets g bs)
meets g [] = inl tt
meets g (b ∷ bs) = both (terms_decide (g b.variable) b.value) (meets g bs)

-- what is asked of a substitution is met by one, or by none
pub answered : {P : (ℕ → Term) → Type 0} → Asked P → Decided ((g : ℕ → Term) × P g)
answered (inr none) = inr (λ x. none x.0 x.1)
answered (inl a) = elim (meets (look a.bounds) a.bounds) [
  | inl m ↦ inl (look a.bounds, a.back (look a.bounds) m)
  | inr none ↦ inr (λ x. let m = a.there x.0 x.1 in none (met_by_look x.0 a.bounds a.bounds m m (own a.bounds)))
]
