-- Substitutions that agree, lists of them, and the renaming in the order of first occurrence.
use Rattle.std.proofs.Common.{◌≡◌, ℕ, ◌+◌, ◌<◌, ◌≤◌, Bool, true, false, ◌||◌, inl, inr, List, [], ◌∷◌, ◌++◌, length, map, get_or, nat_eq, unwrap_or, option_map, ap, subst, refl, sym, ◌∙◌, arith, if◌then◌else◌, length-append}
use Rattle.std.specs.List.{list_any, flat_map}
use Rattle.std.proofs.lemmas.List.{map-append, get_or_append_left, get_or_push}
use Rattle.std.proofs.lemmas.List.Folds.{list_any-append, list_any_at}
use Rattle.std.proofs.lemmas.Option.{slice_get-map, slice_get_cases}
use Rattle.std.proofs.lemmas.Bool.{or_left, or_right, or_cases, eqb-true, cases_lt}
use Rattle.std.proofs.Math.Bool.{or-false}
use Rattle.cd_list.proofs.Numbers.{equal_itself}
use Rattle.cd_term.specs.declared.Term.{Term, out-Term}
use Rattle.cd_term.specs.declared.Term.TheVariants.{Var, App, outs-App}
use Rattle.cd_term.specs.declared.Term.TheOpen as layer
use Rattle.cd_term.specs.Terms.{greatest, bound_of, variables_of, occurs, substituted, applied, value_of, IsNumberedFrom, firsts_after, order_of, rank, ranked, unranked, renumbered}
use Rattle.cd_term.proofs.TermInduction.{ind, Each}
use Rattle.cd_term.proofs.Equations.{substituted-Var, substituted-App, occurs-Var, occurs-App, variables_of-Var, variables_of-App}
use Rattle.cd_term.proofs.Substitutions.{substituted-substituted, substituted-identity}
use Rattle.cd_term.proofs.Occurrence.{substituted-agree, occurs_among, occurs_below}
use Rattle.cd_term.proofs.SizeLaws.{each, bounds_are, bound_of-variables}
use Rattle.cd_term.proofs.Firsts.{noted, firsts_extend, rank_known, rank_new, ranks_numbered}

-- a number is in a list
abbrev pub known : ℕ → List ℕ → Bool
known k ns = list_any (λ y. nat_eq y k) ns

among_variables : (k : ℕ) (ts : List Term) → Each (λ t. occurs k t ≡ known k (variables_of t)) ts →
    occurs_among k ts ≡ known k (flat_map variables_of ts)
among_variables k [] e = refl
among_variables k (t ∷ ts) e =
    ap (λ b. b || occurs_among k ts) e.0
    ∙ ap (λ b. known k (variables_of t) || b) (among_variables k ts e.1)
    ∙ sym (list_any-append (λ y. nat_eq y k) (variables_of t) (flat_map variables_of ts))

pub occurs-variables : (t : Term) (k : ℕ) → occurs k t ≡ known k (variables_of t)
occurs-variables t k = ind (λ t. occurs k t ≡ known k (variables_of t))
    (λ n. occurs-Var k n ∙ sym (or-false (nat_eq n k)) ∙ sym (ap (known k) (variables_of-Var n)))
    (λ f ts e. occurs-App k f ts ∙ among_variables k ts e ∙ sym (ap (known k) (variables_of-App f ts))) t

-- an application determines its symbol and its arguments
pub App-injective : (f g : ℕ) (ts us : List Term) → App f ts ≡ App g us → (f ≡ g) × (ts ≡ us)
App-injective f g ts us e =
    let layers : layer.App f ts ≡ layer.App g us = sym (outs-App f ts) ∙ ap out-Term e ∙ outs-App g us in
    (cc, cc)

-- equal values of a term are equal values of its variables
abbrev pub Agrees : (ℕ → Term) → (ℕ → Term) → ℕ → Term → Type 0
Agrees g h n t = substituted g t ≡ substituted h t → occurs n t ≡ true → g n ≡ h n

among_agrees : (g h : ℕ → Term) (n : ℕ) (ts : List Term) → Each (Agrees g h n) ts →
    map (substituted g) ts ≡ map (substituted h) ts → occurs_among n ts ≡ true → g n ≡ h n
among_agrees g h n [] e same o = absurd (cc)
among_agrees g h n (t ∷ ts) e same o =
    let here : substituted g t ≡ substituted h t = cc in
    let rest : map (substituted g) ts ≡ map (substituted h) ts = cc in
    elim (or_cases (occurs n t) (occurs_among n ts) o) [
      | inl first ↦ e.0 here first
      | inr later ↦ among_agrees g h n ts e.1 rest later
    ]

pub agrees-substituted : (g h : ℕ → Term) (n : ℕ) (t : Term) → Agrees g h n t
agrees-substituted g h n = ind (Agrees g h n)
    (λ k same o. let is : k ≡ n = eqb-true k n (sym (occurs-Var n k) ∙ o) in
    subst (λ m. g m ≡ h m) is (sym (substituted-Var g k) ∙ same ∙ substituted-Var h k))
    (λ f ts e same o. among_agrees g h n ts e
    (App-injective f f (map (substituted g) ts) (map (substituted h) ts) (sym (substituted-App g f ts) ∙ same ∙ substituted-App h f ts)).1
    (sym (occurs-App n f ts) ∙ o))

-- one list after another
pub value_of-map : (h : Term → Term) (s : List Term) (k : ℕ) → k < length s → value_of (map h s) k ≡ h (value_of s k)
value_of-map h s k lt = elim (slice_get_cases s k).1 [
  | inl p ↦ ap (λ o. unwrap_or o (Var k)) (slice_get-map h s k ∙ ap (option_map h) p.2) ∙ sym (ap (λ o. h (unwrap_or o (Var k))) p.2)
  | inr q ↦ absurd (omega (arith, q.0))
]

pub applied-applied : (s r : List Term) (t : Term) → bound_of t ≤ length r → applied s (applied r t) ≡ applied (map (applied s) r) t
applied-applied s r t le = substituted-substituted (value_of s) (value_of r) t
    ∙ substituted-agree (λ k. substituted (value_of s) (value_of r k)) (value_of (map (applied s) r)) t
    (λ k o. sym (value_of-map (applied s) r k (omega (arith, occurs_below k t o))))

-- variables after a renaming
pieces_renamed : (p : ℕ → ℕ) (ts : List Term) →
    Each (λ t. variables_of (substituted (λ k. Var (p k)) t) ≡ map p (variables_of t)) ts →
    flat_map variables_of (map (substituted (λ k. Var (p k))) ts) ≡ map p (flat_map variables_of ts)
pieces_renamed p [] e = refl
pieces_renamed p (t ∷ ts) e =
    ap (λ xs. xs ++ flat_map variables_of (map (substituted (λ k. Var (p k))) ts)) e.0
    ∙ ap (λ ys. map p (variables_of t) ++ ys) (pieces_renamed p ts e.1)
    ∙ sym (map-append p (variables_of t) (flat_map variables_of ts))

pub variables_of-renamed : (p : ℕ → ℕ) (t : Term) → variables_of (substituted (λ k. Var (p k)) t) ≡ map p (variables_of t)
variables_of-renamed p = ind (λ t. variables_of (substituted (λ k. Var (p k)) t) ≡ map p (variables_of t))
    (λ n. ap variables_of (substituted-Var (λ k. Var (p k)) n) ∙ variables_of-Var (p n) ∙ sym (ap (map p) (variables_of-Var n)))
    (λ f ts e. ap variables_of (substituted-App (λ k. Var (p k)) f ts) ∙ variables_of-App f (map (substituted (λ k. Var (p k))) ts)
    ∙ pieces_renamed p ts e ∙ sym (ap (map p) (variables_of-App f ts)))

pub variables_renamed : (p : ℕ → ℕ) (ts : List Term) →
    flat_map variables_of (map (substituted (λ k. Var (p k))) ts) ≡ map p (flat_map variables_of ts)
variables_renamed p ts = pieces_renamed p ts (each (λ t. variables_of (substituted (λ k. Var (p k)) t) ≡ map p (variables_of t)) (variables_of-renamed p) ts)

-- what was seen stays known, and what is noted becomes known
seen_known : (k : ℕ) (seen ks : List ℕ) → known k seen ≡ true → known k (firsts_after seen ks) ≡ true
seen_known k seen ks e = let r = firsts_extend seen ks in
    ap (known k) r.1 ∙ list_any-append (λ y. nat_eq y k) seen r.0 ∙ or_left (known k seen) (known k r.0) e

noted_known_at : (k : ℕ) (seen : List ℕ) (j : ℕ) (b : Bool) → known j seen ≡ b → nat_eq j k ≡ true →
    known k (if b then seen else seen ++ j ∷ []) ≡ true
noted_known_at k seen j true e same = let eq : j ≡ k = eqb-true j k same in ap (λ i. known i seen) (sym eq) ∙ e
noted_known_at k seen j false e same = list_any-append (λ y. nat_eq y k) seen (j ∷ [])
    ∙ or_right (known k seen) (nat_eq j k || false) (or_left (nat_eq j k) false same)

pub firsts_known : (k : ℕ) (seen ks : List ℕ) → known k ks ≡ true → known k (firsts_after seen ks) ≡ true
firsts_known k seen [] e = absurd (cc)
firsts_known k seen (j ∷ ks) e = elim (or_cases (nat_eq j k) (known k ks) e) [
  | inl here ↦ seen_known k (noted seen j) ks (noted_known_at k seen j (known j seen) refl here)
  | inr there ↦ firsts_known k (noted seen j) ks there
]

-- each place of an order is the rank of what stands there
abbrev pub ArePlaces : List ℕ → Type 0
ArePlaces order = (n : ℕ) → n < length order → rank order (get_or order n 0) ≡ n

places_more : (seen : List ℕ) (k : ℕ) → known k seen ≡ false → ArePlaces seen → ArePlaces (seen ++ k ∷ [])
places_more seen k new places n lt = elim (cases_lt n (length seen)) [ inl old ↦ front old | inr last ↦ back last ]
  where
    front : n < length seen → rank (seen ++ k ∷ []) (get_or (seen ++ k ∷ []) n 0) ≡ n
    front old = ap (rank (seen ++ k ∷ [])) (get_or_append_left seen (k ∷ []) 0 n old)
        ∙ (rank_known seen (k ∷ []) (get_or seen n 0) (list_any_at (λ y. nat_eq y (get_or seen n 0)) seen n 0 old (equal_itself (get_or seen n 0)))).0
        ∙ places n old

    back : length seen ≤ n → rank (seen ++ k ∷ []) (get_or (seen ++ k ∷ []) n 0) ≡ n
    back last = let is : length seen ≡ n = omega (arith, length-append seen (k ∷ [])) in
        ap (rank (seen ++ k ∷ [])) (get_or_push seen k 0 n is) ∙ rank_new seen [] k new ∙ is

places_at : (seen ks : List ℕ) (k : ℕ) (b : Bool) → known k seen ≡ b → ArePlaces seen →
    (ArePlaces seen → ArePlaces (firsts_after seen ks)) → (ArePlaces (seen ++ k ∷ []) → ArePlaces (firsts_after (seen ++ k ∷ []) ks)) →
    ArePlaces (firsts_after (if b then seen else seen ++ k ∷ []) ks)
places_at seen ks k true e places old new = old places
places_at seen ks k false e places old new = new (places_more seen k e places)

pub firsts_places : (seen ks : List ℕ) → ArePlaces seen → ArePlaces (firsts_after seen ks)
firsts_places seen [] places = places
firsts_places seen (k ∷ ks) places = places_at seen ks k (known k seen) refl places (firsts_places seen ks) (firsts_places (seen ++ k ∷ []) ks)

-- ranks are below the length
ranks_below : (order ks : List ℕ) → ((k : ℕ) → known k ks ≡ true → known k order ≡ true) →
    greatest (map (λ n. n + 1) (map (rank order) ks)) ≤ length order
ranks_below order [] all = omega arith
ranks_below order (k ∷ ks) all =
    let here = (rank_known order [] k (all k (or_left (nat_eq k k) (known k ks) (equal_itself k)))).1 in
    let rest = ranks_below order ks (λ j e. all j (or_right (nat_eq k j) (known j ks) e)) in
    omega (arith, here, rest)

-- the way back
back_one : (order : List ℕ) (t : Term) → ((k : ℕ) → known k (variables_of t) ≡ true → known k order ≡ true) →
    substituted (unranked order) (substituted (ranked order) t) ≡ t
back_one order t all = substituted-substituted (unranked order) (ranked order) t
    ∙ substituted-agree (λ k. substituted (unranked order) (ranked order k)) Var t
    (λ k o. substituted-Var (unranked order) (rank order k)
    ∙ ap Var (rank_known order [] k (all k (sym (occurs-variables t k) ∙ o))).2)
    ∙ substituted-identity t

back_all : (order : List ℕ) (ts : List Term) → ((k : ℕ) → known k (flat_map variables_of ts) ≡ true → known k order ≡ true) →
    map (substituted (unranked order)) (map (substituted (ranked order)) ts) ≡ ts
back_all order [] all = refl
back_all order (t ∷ ts) all =
    let here = back_one order t (λ k e. all k (list_any-append (λ y. nat_eq y k) (variables_of t) (flat_map variables_of ts)
    ∙ or_left (known k (variables_of t)) (known k (flat_map variables_of ts)) e)) in
    let rest = back_all order ts (λ k e. all k (list_any-append (λ y. nat_eq y k) (variables_of t) (flat_map variables_of ts)
    ∙ or_right (known k (variables_of t)) (known k (flat_map variables_of ts)) e)) in
    ap (λ u. u ∷ map (substituted (unranked order)) (map (substituted (ranked order)) ts)) here ∙ ap (λ us. t ∷ us) rest

pub renumbered-numbered : (ts : List Term) → IsNumberedFrom 0 (flat_map variables_of (renumbered ts))
renumbered-numbered ts = subst (IsNumberedFrom 0) (sym (variables_renamed (rank (order_of ts)) ts)) (ranks_numbered [] (flat_map variables_of ts))

pub renumbered-bound : (ts : List Term) → greatest (map bound_of (renumbered ts)) ≤ length (order_of ts)
renumbered-bound ts = omega (
  arith,
  bounds_are (renumbered ts) (each (λ t. bound_of t ≡ greatest (map (λ n. n + 1) (variables_of t))) bound_of-variables (renumbered ts)),
  ap (λ ns. greatest (map (λ n. n + 1) ns)) (variables_renamed (rank (order_of ts)) ts),
  ranks_below (order_of ts) (flat_map variables_of ts) (λ k e. firsts_known k [] (flat_map variables_of ts) e),
)

pub renumbered-back : (ts : List Term) → map (substituted (unranked (order_of ts))) (renumbered ts) ≡ ts
renumbered-back ts = back_all (order_of ts) ts (λ k e. firsts_known k [] (flat_map variables_of ts) e)

pub renumbered-places : (ts : List Term) → ArePlaces (order_of ts)
renumbered-places ts = firsts_places [] (flat_map variables_of ts) (λ n lt. absurd (omega arith))
