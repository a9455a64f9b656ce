-- What is made of decisions, and decisions of numbers and truth values.
use Rattle.std.proofs.Common.{◌≡◌, ◌⊎◌, inl, inr, ℕ, ◌≤◌, Bool, true, false, nat_eq, List, [], ◌∷◌, refl, ap, sym, ◌∙◌, arith}
use Rattle.std.proofs.lemmas.Bool.{cases_lt, eqb-true, false≢true}
use Rattle.cd_list.specs.Lists.{Among}
use Rattle.cd_list.specs.Decisions.{Decided}
use Rattle.cd_list.proofs.Numbers.{equal_itself}

pub both : {A B : Type 0} → Decided A → Decided B → Decided (A × B)
both (inl a) (inl b) = inl (a, b)
both (inl a) (inr b) = inr (λ e. b e.1)
both (inr a) b = inr (λ e. a e.0)

pub given : {A B : Type 0} → (A → B) → (B → A) → Decided A → Decided B
given f g (inl a) = inl (f a)
given f g (inr a) = inr (λ b. a (g b))

pub three : {A B C : Type 0} → Decided A → Decided B → Decided C → Decided (A × B × C)
three a b c = given (λ x. (x.0.0, x.0.1, x.1)) (λ x. ((x.0, x.1), x.2)) (both (both a b) c)

pub either : {A B : Type 0} → Decided A → Decided B → Decided (A ⊎ B)
either (inl a) b = inl (inl a)
either (inr a) (inl b) = inl (inr b)
either (inr a) (inr b) = inr (λ e. elim e [ inl x ↦ a x | inr y ↦ b y ])

pub never : {A : Type 0} → Decided A → Decided (A → ⊥)
never (inl a) = inr (λ f. f a)
never (inr a) = inl a

pub number : (m n : ℕ) → Decided (m ≡ n)
number m n = at (nat_eq m n) refl
  where
    at : (b : Bool) → nat_eq m n ≡ b → Decided (m ≡ n)
    at true is = inl (eqb-true m n is)
    at false is = inr (λ e. false≢true (sym is ∙ ap (λ x. nat_eq x n) e ∙ equal_itself n))

pub truth : (a b : Bool) → Decided (a ≡ b)
truth true true = inl refl
truth true false = inr (λ e. false≢true (sym e))
truth false true = inr false≢true
truth false false = inl refl

pub at_most : (m n : ℕ) → Decided (m ≤ n)
at_most m n = elim (cases_lt n m) [ inl lt ↦ inr (λ le. omega (arith, lt, le)) | inr le ↦ inl le ]

pub among : {A : Type 0} (P : A → Type 0) → ((x : A) → Decided (P x)) → (xs : List A) → Decided (Among P xs)
among P f [] = inr (λ e. e)
among P f (x ∷ xs) = either (f x) (among P f xs)
