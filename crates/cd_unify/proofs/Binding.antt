-- Terms and lists of terms bound to others.
use Rattle.std.proofs.Common.{◌≡◌, ℕ, ◌<◌, ◌≤◌, Bool, true, false, List, [], ◌∷◌, ◌++◌, length, map, get_or, set, ap, sym, ◌∙◌, refl, subst, unwrap_or, take, Option, None, Some, Bor}
use Rattle.std.specs.Option.{option_copied}
use Rattle.std.proofs.lemmas.List.{take_all, get_or-map, map-set, length-map}
use Rattle.cd_term.specs.declared.Term.{Term}
use Rattle.cd_term.specs.declared.Term.TheVariants.{Var}
use Rattle.cd_term.specs.Terms.{substituted, value_of}
use Rattle.cd_unify.specs.Unifiers.{Fits, ItemFits, PrefixFits}
use Rattle.cd_unify.proofs.MatchLemmas.{match_stuck, values_fit}
use Rattle.cd_unify.specs.Bindings.{Binds, ListBinds, IsTrail}
use Rattle.cd_unify.proofs.Trails.{trail_one}

-- a variable got its value
pub one_noted : (items : List (Option (Bor Term))) (before after : List ℕ) (k : ℕ) (x : Option (Bor Term)) (r : Bor Term) → k < length items →
    x ≡ get_or items k x → x ≡ None → after ≡ before ++ k ∷ [] →
    IsTrail (map option_copied items) before (map option_copied (set items k (Some r))) after
one_noted items before after k x r lt at none longer =
    trail_one (map option_copied items) (map option_copied (set items k (Some r))) before after k (Some r.now)
    (get_or-map (option_copied {T = Term}) items k x None lt ∙ ap option_copied (sym at) ∙ ap option_copied none)
    (map-set option_copied items k (Some r)) longer

pub list_stuck : (old ws new : List (Option Term)) (xs ys : List Term) (i : ℕ) (a b : Term) (r : Bool) → i < length xs → i < length ys →
    a ≡ get_or xs i a → b ≡ get_or ys i b → PrefixFits old ws xs ys i → ItemFits ws new a b r → r ≡ false → Binds (ListBinds xs ys) old new false
list_stuck old ws new xs ys i a b r lx ly ax by so_far here stuck g = (
  λ p. absurd (match_stuck old ws new xs ys i a b r lx ly ax by so_far here stuck g p.0 p.1),
  λ q. absurd (let both : false ≡ true = q.0 in (cc)),
)

pub list_bound : (old ws : List (Option Term)) (xs ys : List Term) (i : ℕ) → length xs ≤ i → length ys ≤ i → PrefixFits old ws xs ys i →
    Binds (ListBinds xs ys) old ws true
list_bound old ws xs ys i lx ly so_far g = (
  λ p. (refl, (so_far g).0 (p.0, ap (map (substituted g)) (take_all i xs lx) ∙ p.1 ∙ sym (take_all i ys ly))),
  λ q. let before = (so_far g).1 q.1 in (before.0, sym (ap (map (substituted g)) (take_all i xs lx)) ∙ before.1 ∙ take_all i ys ly),
)

-- where a list becomes another one, each item becomes the one beside it
pub item_becomes : (h : Term → Term) (xs ys : List Term) (i : ℕ) (a b : Term) → i < length xs → i < length ys →
    a ≡ get_or xs i a → b ≡ get_or ys i b → map h xs ≡ ys → h a ≡ b
item_becomes h xs ys i a b lx ly ax by e =
    ap h ax ∙ sym (get_or-map h xs i a b lx) ∙ ap (λ zs. get_or zs i b) e ∙ sym by

-- the terms that are given for values fit them
pub given_terms : (items : List (Option (Bor Term))) (i : ℕ) (s : List Term) → length items ≤ i →
    s ≡ map (λ o. unwrap_or o (Var 0)) (map option_copied (take i items)) → (length s ≡ length items) × Fits (value_of s) (map option_copied items)
given_terms items i s past is =
    let whole : s ≡ map (λ o. unwrap_or o (Var 0)) (map option_copied items)
    = is ∙ ap (λ xs. map (λ o. unwrap_or o (Var 0)) (map option_copied xs)) (take_all i items past) in (
      ap length whole ∙ length-map (map option_copied items) (λ (o : Option Term). unwrap_or o (Var 0)) ∙ length-map items (option_copied {T = Term}),
      subst (λ ts. Fits (value_of ts) (map option_copied items)) (sym whole) (values_fit (map option_copied items)),
    )
