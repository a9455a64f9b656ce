-- The ground order in contexts.
use Rattle.std.proofs.Common.{◌≡◌, ℕ, suc, List, [], ◌∷◌, ◌++◌, take, drop, Option, None, Some, slice_set, option_map, sym, ap, ◌∙◌, refl, inl, inr}
use Rattle.std.specs.declared.cmp.Ordering.TheVariants.{Less}
use Rattle.std.proofs.lemmas.List.{set_split}
use Rattle.std.proofs.lemmas.Option.{slice_get_cases}
use Rattle.cd_term.specs.declared.Term.{Term}
use Rattle.cd_term.specs.declared.Term.TheVariants.{Var, App}
use Rattle.cd_term.specs.Terms.{replaced}
use Rattle.cd_term.proofs.Replaced.{replaced-Var, replaced-out, replaced-in}
use Rattle.cd_kbo.specs.declared.order.Order.{Order}
use Rattle.cd_kbo.specs.Kbo.{ground_compare}
use Rattle.cd_kbo.proofs.GroundLemmas.{cases_of, ground_monotone}

-- a replacement at a path keeps the ground order
abbrev Keeps : Order → List ℕ → Type 0
Keeps o path = (c a b u v : Term) → replaced path a c ≡ Some u → replaced path b c ≡ Some v → ground_compare o a b ≡ Less → ground_compare o u v ≡ Less

mapped : (F : Term → Term) (m : Option Term) (u : Term) → option_map F m ≡ Some u → (w : Term) × (m ≡ Some w) × (F w ≡ u)
mapped F None u e = cc
mapped F (Some w) u e = (w, refl, cc)

nothing : (u : Term) (m : Option Term) → m ≡ None → m ≡ Some u → ⊥
nothing u m p q = cc

in_application : (o : Order) (i : ℕ) (path : List ℕ) → Keeps o path → (f : ℕ) (ts : List Term) (a b u v : Term) →
    replaced (i ∷ path) a (App f ts) ≡ Some u → replaced (i ∷ path) b (App f ts) ≡ Some v → ground_compare o a b ≡ Less → ground_compare o u v ≡ Less
in_application o i path keeps f ts a b u v p q e =
    elim (slice_get_cases ts i).1 as (λ _. ground_compare o u v ≡ Less) [
      | inl here ↦
          let l = mapped (λ z. App f (slice_set ts i z)) (replaced path a here.0) u
          (sym (replaced-in (i ∷ path) i path a (App f ts) f ts here.0 refl refl here.2) ∙ p) in
          let r = mapped (λ z. App f (slice_set ts i z)) (replaced path b here.0) v
          (sym (replaced-in (i ∷ path) i path b (App f ts) f ts here.0 refl refl here.2) ∙ q) in
          let less : ground_compare o l.0 r.0 ≡ Less = keeps here.0 a b l.0 r.0 l.1 r.1 e in
          let is_u : u ≡ App f (take i ts ++ l.0 ∷ drop (suc i) ts) = sym l.2 ∙ ap (App f) (set_split ts i l.0 here.1) in
          let is_v : v ≡ App f (take i ts ++ r.0 ∷ drop (suc i) ts) = sym r.2 ∙ ap (App f) (set_split ts i r.0 here.1) in
          (λ j. ground_compare o (is_u j) (is_v j)) ∙ ground_monotone o f (take i ts) (drop (suc i) ts) l.0 r.0 less
      | inr past ↦ absurd (nothing u (replaced (i ∷ path) a (App f ts)) (replaced-out (i ∷ path) i path a (App f ts) f ts refl refl past.1) p)
    ]

in_layer : (o : Order) (i : ℕ) (path : List ℕ) → Keeps o path → Keeps o (i ∷ path)
in_layer o i path keeps = cases_of
    (λ c. (a b u v : Term) → replaced (i ∷ path) a c ≡ Some u → replaced (i ∷ path) b c ≡ Some v → ground_compare o a b ≡ Less → ground_compare o u v ≡ Less)
    (λ n a b u v p q e. absurd (nothing u (replaced (i ∷ path) a (Var n)) (replaced-Var (i ∷ path) i path a (Var n) n refl refl) p))
    (λ f ts a b u v p q e. in_application o i path keeps f ts a b u v p q e)

-- monotone in contexts, at any path
pub ground_contexts : (o : Order) (path : List ℕ) → Keeps o path
ground_contexts o [] = λ c a b u v p q e.
    let x : a ≡ u = cc in
    let y : b ≡ v = cc in
    (λ i. ground_compare o (sym x i) (sym y i)) ∙ e
ground_contexts o (i ∷ path) = in_layer o i path (ground_contexts o path)
