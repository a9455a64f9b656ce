-- A top item of a list, one item more at a time.
use Rattle.std.proofs.Common.{◌≡◌, ◌≢◌, ℕ, ◌+◌, ◌<◌, ◌≤◌, Bool, true, false, List, [], ◌∷◌, ◌++◌, length, get_or, take, Option, Some, None, sym, ap, ◌∙◌, subst}
use Rattle.std.specs.Prelude.{MatchOption, ⊤}
use Rattle.std.specs.Cmp.{IsTotalOrder}
use Rattle.std.specs.declared.cmp.Ordering.{Ordering}
use Rattle.std.specs.declared.cmp.Ordering.TheVariants.{Less}
use Rattle.std.proofs.lemmas.List.{take_all, take_more}
use Rattle.std.proofs.lemmas.Bool.{true≢false}
use Rattle.cd_list.proofs.Lists.{all_append, all_weaker}
use Rattle.cd_key.specs.Multisets.{IsTop}
use Rattle.cd_key.proofs.MultisetLemmas.{never_less}

less_not_less : (r : Ordering) → r ≡ Less → r ≢ Less → ⊥
less_not_less r e n = n e

-- an item that does not pass
pub top_skip : {X : Type 0} (R : X → X → Ordering) (p : X → Bool) (ys : List X) (x : X) (best : Option X) → p x ≡ false →
    IsTop R p ys best → IsTop R p (ys ++ x ∷ []) best
top_skip R p ys x None no_pass top = all_append (λ y. p y ≡ false) ys (x ∷ []) top (no_pass, tt)
top_skip R p ys x (Some b) no_pass top =
    (top.0, all_append (λ y. p y ≡ true → R b y ≢ Less) ys (x ∷ []) top.1 (λ h. absurd (true≢false (sym h ∙ no_pass)), tt))

-- an item that passes and is higher
pub top_new : {X : Type 0} (R : X → X → Ordering) → IsTotalOrder R → (p : X → Bool) (ys : List X) (x : X) (best : Option X) → p x ≡ true →
    MatchOption best ⊤ (λ b. R b x ≡ Less) → IsTop R p ys best → IsTop R p (ys ++ x ∷ []) (Some x)
top_new R T p ys x None pass higher top = (
  pass,
  all_append (λ y. p y ≡ true → R x y ≢ Less) ys (x ∷ [])
      (all_weaker (λ y. p y ≡ false) (λ y. p y ≡ true → R x y ≢ Less) ys (λ y no_pass h. absurd (true≢false (sym h ∙ no_pass))) top)
      (λ h. never_less R T x, tt),
)
top_new R T p ys x (Some b) pass higher top = (
  pass,
  all_append (λ y. p y ≡ true → R x y ≢ Less) ys (x ∷ [])
      (all_weaker (λ y. p y ≡ true → R b y ≢ Less) (λ y. p y ≡ true → R x y ≢ Less) ys (λ y below h l. below h (T.trans b x y higher l)) top.1)
      (λ h. never_less R T x, tt),
)

-- an item that passes and is no higher
pub top_keep : {X : Type 0} (R : X → X → Ordering) (p : X → Bool) (ys : List X) (x : X) (best : Option X) →
    (MatchOption best ⊤ (λ b. R b x ≡ Less) → ⊥) → IsTop R p ys best → IsTop R p (ys ++ x ∷ []) best
top_keep R p ys x None lower top = absurd (lower tt)
top_keep R p ys x (Some b) lower top = (top.0, all_append (λ y. p y ≡ true → R b y ≢ Less) ys (x ∷ []) top.1 (λ h. lower, tt))

pub top_grown : {X : Type 0} (R : X → X → Ordering) (p : X → Bool) (xs : List X) (i : ℕ) (x : X) (best : Option X) → i < length xs →
    x ≡ get_or xs i x → IsTop R p (take i xs ++ x ∷ []) best → IsTop R p (take (i + 1) xs) best
top_grown {X} R p xs i x best lt at top =
    subst (λ (zs : List X). IsTop R p zs best) (sym (take_more xs i x lt ∙ ap (λ z. take i xs ++ z ∷ []) (sym at))) top

pub top_all : {X : Type 0} (R : X → X → Ordering) (p : X → Bool) (xs : List X) (i : ℕ) (best : Option X) → length xs ≤ i →
    IsTop R p (take i xs) best → IsTop R p xs best
top_all {X} R p xs i best past top = subst (λ (zs : List X). IsTop R p zs best) (take_all i xs past) top
