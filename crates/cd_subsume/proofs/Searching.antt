-- The steps of the search for picks.
use Rattle.std.proofs.Common.{◌≡◌, ◌≢◌, ℕ, zero, suc, ◌+◌, ◌*◌, ◌<◌, ◌≤◌, ◌⊎◌, inl, inr, Bool, true, false, IsTrue, ◌↔◌, List, [], ◌∷◌, ◌++◌, length, map, take, drop, set, ap, subst, refl, sym, ◌∙◌, arith, Option, Some, slice_get, if◌then◌else◌, max, get_or}
use Rattle.std.specs.Prelude.{swap, replicate}
use Rattle.std.proofs.lemmas.List.{map-append}
use Rattle.std.proofs.lemmas.Bool.{cases_lt}
use Rattle.std.proofs.lemmas.Option.{same_Some, slice_get-get_or, get_or_from_slice_get}
use Rattle.std.proofs.lemmas.List.Edits.{length-swap, swapped_from_swap}
use Rattle.std.proofs.Math.Seq.{drop-append_seam, take-append_seam}
use Rattle.cd_term.specs.declared.Term.{Term}
use Rattle.cd_term.specs.Terms.{value_of, bound_of, greatest}
use Rattle.cd_term.proofs.Measures.{greatest-append}
use Rattle.cd_clause.specs.declared.Clause.{Clause}
use Rattle.cd_clause.specs.declared.Literal.{Literal}
use Rattle.cd_clause.specs.Clauses.{terms_of, clause_terms, variable_bound_of}
use Rattle.cd_unify.specs.Unifiers.{Fits}
use Rattle.cd_unify.specs.Bindings.{IsTrail, Binds, unbound}
use Rattle.cd_subsume.specs.declared.picks.Pick.{Pick}
use Rattle.cd_subsume.specs.declared.partners.Goal.{Goal}
use Rattle.cd_subsume.specs.declared.search.Chosen.{Chosen}
use Rattle.cd_subsume.specs.Picks.{code_of}
use Rattle.cd_subsume.specs.Literals.{LiteralBinds}
use Rattle.cd_subsume.specs.Subsumption.{IsPicked, ArePicked, Subsumes, SubsumesBy}
use Rattle.cd_subsume.specs.Search.{AreGoals, Agrees, Tried, Stack, bottom, push, HasPlace, AreTaken, AreBounded, IsSearch}
use Rattle.cd_subsume.proofs.Items.{IsLast, last_cases, get_within, get_some, get_front, get_middle, same_item, last_split, none_last, Listed, listed}
use Rattle.cd_subsume.proofs.Goals.{goal_inside, goals_apart, goal_of, goals_swapped}

-- picks are told apart by their numbers
codes_apart : (a c : ℕ) (b d : Bool) → 2 * a + (if b then 1 else 0) ≡ 2 * c + (if d then 1 else 0) → (a ≡ c) × (b ≡ d)
codes_apart a c true true e = (omega (arith, e), refl)
codes_apart a c false false e = (omega (arith, e), refl)
codes_apart a c true false e = absurd (omega (arith, e))
codes_apart a c false true e = absurd (omega (arith, e))

code-injective : (p q : Pick) → code_of p ≡ code_of q → p ≡ q
code-injective p q e = let both = codes_apart p.place q.place p.is_exchanged q.is_exchanged e in
    λ i. record { place = both.0 i; is_exchanged = both.1 i }

pub code_first : (p : Pick) → p.place ≡ 0 → p.is_exchanged ≡ false → code_of p ≡ 0
code_first p e f = omega (arith, e, ap {B = ℕ} (λ b. if b then 1 else 0) f)

pub code_within : (p : Pick) (n : ℕ) → p.place < n → code_of p + 1 ≤ 2 * n
code_within p n lt = within p.place p.is_exchanged lt
  where
    within : (k : ℕ) (b : Bool) → k < n → 2 * k + (if b then 1 else 0) + 1 ≤ 2 * n
    within k true lt = omega (arith, lt)
    within k false lt = omega (arith, lt)

code_past : (p : Pick) (n : ℕ) → n ≤ p.place → 2 * n ≤ code_of p
code_past p n le = past p.place p.is_exchanged le
  where
    past : (k : ℕ) (b : Bool) → n ≤ k → 2 * n ≤ 2 * k + (if b then 1 else 0)
    past k true le = omega (arith, le)
    past k false le = omega (arith, le)

-- ---- what is on the stack

-- each literal that has a pick is an instance of it
abbrev EachPicked : (ℕ → Term) → List Literal → List Literal → List Chosen → Type 0
EachPicked g ls ms cs = (i : ℕ) (l : Literal) (c : Chosen) → slice_get cs i ≡ Some c → slice_get ls c.literal ≡ Some l → IsPicked g l ms c.pick

picked_last : (g : ℕ → Term) (ls ms : List Literal) (cs : List Chosen) (l : Literal) (c : Chosen) → slice_get ls c.literal ≡ Some l →
    EachPicked g ls ms cs → IsPicked g l ms c.pick → EachPicked g ls ms (cs ++ c ∷ [])
picked_last g ls ms cs l c at old new i k b bi ki = elim (last_cases cs c i b bi) [
  | inl before ↦ old i k b before ki
  | inr last ↦ let here : l ≡ k = same_item ls c.literal b.literal l k (ap (λ (d : Chosen). d.literal) last.1) at ki in
      subst (λ (d : Chosen). IsPicked g k ms d.pick) last.1 (subst (λ (m : Literal). IsPicked g m ms c.pick) here new)
]

picked_front : (g : ℕ → Term) (ls ms : List Literal) (cs ds : List Chosen) → EachPicked g ls ms (cs ++ ds) → EachPicked g ls ms cs
picked_front g ls ms cs ds all i l c ci li = all i l c (get_front cs ds i c ci) li

stack_picked : (ls ms : List Literal) (vs : List (Option Term)) (trail : List ℕ) (cs : List Chosen) → Stack ls ms vs trail cs →
    (g : ℕ → Term) → Fits g vs → EachPicked g ls ms cs
stack_picked ls ms vs trail cs (bottom _ all) g fits = λ i l c ci li. absurd (cc)
stack_picked ls ms vs trail cs (push us _ before _ chosen l c under at binds new tried within mark noted) g fits =
    let step = (binds g).1 (refl, fits) in
    picked_last g ls ms chosen l c at (stack_picked ls ms us before chosen under g step.0) step.1

stack_fits : (ls ms : List Literal) (vs : List (Option Term)) (trail : List ℕ) (cs : List Chosen) → Stack ls ms vs trail cs →
    (g : ℕ → Term) → EachPicked g ls ms cs → Fits g vs
stack_fits ls ms vs trail cs (bottom _ all) g each = all g
stack_fits ls ms vs trail cs (push us _ before _ chosen l c under at binds new tried within mark noted) g each =
    ((binds g).0 (
      stack_fits ls ms us before chosen under g (picked_front g ls ms chosen (c ∷ []) each),
      each (length chosen) l c (get_middle chosen c []) at,
    )).1

-- no two picks have one place
abbrev AllApart : List Chosen → Type 0
AllApart cs = (i j : ℕ) (b c : Chosen) → i < j → slice_get cs i ≡ Some b → slice_get cs j ≡ Some c → b.pick.place ≢ c.pick.place

apart_last : (cs : List Chosen) (c : Chosen) → AllApart cs → ((i : ℕ) (b : Chosen) → slice_get cs i ≡ Some b → b.pick.place ≢ c.pick.place) →
    AllApart (cs ++ c ∷ [])
apart_last cs c old new i j a b lt ai bj = elim (last_cases cs c j b bj) [
  | inl before ↦ elim (last_cases cs c i a ai) [
    | inl front ↦ old i j a b lt front before
    | inr last ↦ absurd (omega (arith, lt, last.0, get_within cs j b before))
  ]
  | inr last ↦ elim (last_cases cs c i a ai) [
    | inl front ↦ subst (λ (d : Chosen). a.pick.place ≢ d.pick.place) last.1 (new i a front)
    | inr also ↦ absurd (omega (arith, lt, last.0, also.0))
  ]
]

stack_apart : (ls ms : List Literal) (vs : List (Option Term)) (trail : List ℕ) (cs : List Chosen) → Stack ls ms vs trail cs → AllApart cs
stack_apart ls ms vs trail cs (bottom _ all) = λ i j b c lt bi cj. absurd (cc)
stack_apart ls ms vs trail cs (push us _ before _ chosen l c under at binds new tried within mark noted) =
    apart_last chosen c (stack_apart ls ms us before chosen under) new

-- the stack without its last pick
pub record IsTop (ls ms : List Literal) (ws : List (Option Term)) (after : List ℕ) (ps : List Chosen) (d : Chosen) : Type 0 where
  pub under : Stack ls ms (unbound (drop d.mark after) ws) (take d.mark after) ps
  pub within : d.pick.place < length ms
  pub new : (i : ℕ) (b : Chosen) → slice_get ps i ≡ Some b → b.pick.place ≢ d.pick.place
  pub tried : Tried ls ms ps d.literal d.pick

trail_split : (before after more : List ℕ) (mark : ℕ) → mark ≡ length before → after ≡ before ++ more →
    (drop mark after ≡ more) × (take mark after ≡ before)
trail_split before after more mark is longer = (
  ap (λ n. drop n after) is ∙ ap (drop (length before)) longer ∙ drop-append_seam before more,
  ap (λ n. take n after) is ∙ ap (take (length before)) longer ∙ take-append_seam before more,
)

stack_top : (ls ms : List Literal) (ws : List (Option Term)) (after : List ℕ) (cs : List Chosen) → Stack ls ms ws after cs →
    (ps : List Chosen) (d : Chosen) → cs ≡ ps ++ d ∷ [] → IsTop ls ms ws after ps d
stack_top ls ms ws after cs (bottom _ all) ps d is = absurd (none_last ps d is)
stack_top ls ms ws after cs (push us _ before _ chosen l c under at binds new tried within mark noted) ps d is =
    let both = last_split chosen ps c d is in
    let ends : d.mark ≡ length before = ap (λ (e : Chosen). e.mark) (sym both.1) ∙ mark in
    let parts = trail_split before after noted.more d.mark ends noted.longer in
    let gone : unbound (drop d.mark after) ws ≡ us = ap (λ ks. unbound ks ws) parts.0 ∙ noted.back in record {
      under = subst (λ vs. Stack ls ms vs (take d.mark after) ps) (sym gone)
          (subst (λ ks. Stack ls ms us ks ps) (sym parts.1) (subst (Stack ls ms us before) both.0 under));
      within = subst (λ (e : Chosen). e.pick.place < length ms) both.1 within;
      new = subst (λ (e : Chosen). (i : ℕ) (b : Chosen) → slice_get ps i ≡ Some b → b.pick.place ≢ e.pick.place) both.1
          (subst (λ (es : List Chosen). (i : ℕ) (b : Chosen) → slice_get es i ≡ Some b → b.pick.place ≢ c.pick.place) both.0 new);
      tried = subst (λ (e : Chosen). Tried ls ms ps e.literal e.pick) both.1
          (subst (λ (es : List Chosen). Tried ls ms es c.literal c.pick) both.0 tried);
    }

-- ---- what was tried

-- no picks that have those that are chosen have this one for a literal
abbrev IsNoWay : List Literal → List Literal → List Chosen → ℕ → Pick → Type 0
IsNoWay ls ms chosen literal p = (g : ℕ → Term) (picks : List Pick) → ArePicked g ls ms picks → Agrees picks chosen → slice_get picks literal ≡ Some p → ⊥

tried_first : (ls ms : List Literal) (chosen : List Chosen) (literal : ℕ) (p : Pick) → code_of p ≡ 0 → Tried ls ms chosen literal p
tried_first ls ms chosen literal p is g picks q are agree at = omega (arith, is)

tried_skip : (ls ms : List Literal) (chosen : List Chosen) (literal : ℕ) (p next : Pick) → code_of next ≡ code_of p + 1 →
    Tried ls ms chosen literal p → IsNoWay ls ms chosen literal p → Tried ls ms chosen literal next
tried_skip ls ms chosen literal p next is tried none g picks q are agree at =
    at_or_past (code_of p) (code_of q) (code_of next) is (tried g picks q are agree at)
    (λ same. none g picks are agree (at ∙ ap Some (sym (code-injective p q same))))
  where
    at_or_past : (m n k : ℕ) → k ≡ m + 1 → m ≤ n → (m ≡ n → ⊥) → k ≤ n
    at_or_past m n k is le other = grind (arith, is, le, other)

-- the place is taken by the pick of another literal
no_way_taken : (ls ms : List Literal) (chosen : List Chosen) (literal : ℕ) (p : Pick) → ((i : ℕ) (b : Chosen) → slice_get chosen i ≡ Some b → b.literal ≢ literal) →
    HasPlace chosen p.place → IsNoWay ls ms chosen literal p
no_way_taken ls ms chosen literal p other has g picks are agree at =
    let b = has.1 in
    elim (cases_lt b.literal literal) [
      | inl lt ↦ are.distinct b.literal literal b.pick p lt (agree has.0 b has.2) at has.3
      | inr le ↦ are.distinct literal b.literal p b.pick (past b.literal literal le (other has.0 b has.2)) at (agree has.0 b has.2) (sym has.3)
    ]
  where
    past : (m n : ℕ) → n ≤ m → m ≢ n → n < m
    past m n le apart = grind (arith, le, apart)

-- a literal that is picked binds, and the other way round
pub picked_binds : (g : ℕ → Term) (l m : Literal) (ms : List Literal) (p : Pick) → slice_get ms p.place ≡ Some m → IsPicked g l ms p →
    LiteralBinds p.is_exchanged l m g
picked_binds g l m ms p at picked =
    let same : picked.literal ≡ m = same_item ms p.place p.place picked.literal m refl picked.place at in
    subst (λ (k : Literal). LiteralBinds p.is_exchanged l k g) same (picked.sign, picked.atom)

binds_picked : (g : ℕ → Term) (l m : Literal) (ms : List Literal) (p : Pick) → slice_get ms p.place ≡ Some m →
    LiteralBinds p.is_exchanged l m g → IsPicked g l ms p
binds_picked g l m ms p at binds = record { literal = m; place = at; sign = binds.0; atom = binds.1 }

-- the literal can't be bound
no_way_bound : (ls ms : List Literal) (vs ws : List (Option Term)) (trail : List ℕ) (chosen : List Chosen) (literal : ℕ) (p : Pick) (l m : Literal) (r : Bool) →
    Stack ls ms vs trail chosen → slice_get ls literal ≡ Some l → slice_get ms p.place ≡ Some m →
    Binds (LiteralBinds p.is_exchanged l m) vs ws r → r ≡ false → IsNoWay ls ms chosen literal p
no_way_bound ls ms vs ws trail chosen literal p l m r stack at place binds out g picks are agree here =
    let fits = stack_fits ls ms vs trail chosen stack g (λ i k c ci ki. are.each c.literal k c.pick ki (agree i c ci)) in
    let was : r ≡ true = ((binds g).0 (fits, picked_binds g l m ms p place (are.each literal l p at here))).0 in
    let both : true ≡ false = sym was ∙ out in absurd (cc)

-- ---- which places are taken

has_more : (chosen : List Chosen) (c : Chosen) (place : ℕ) → HasPlace chosen place → HasPlace (chosen ++ c ∷ []) place
has_more chosen c place has = (has.0, has.1, get_front chosen (c ∷ []) has.0 has.1 has.2, has.3)

has_fewer : (chosen : List Chosen) (c : Chosen) (place : ℕ) → c.pick.place ≢ place → HasPlace (chosen ++ c ∷ []) place → HasPlace chosen place
has_fewer chosen c place other has = elim (last_cases chosen c has.0 has.1 has.2) [
  | inl old ↦ (has.0, has.1, old, has.3)
  | inr new ↦ absurd (other (ap (λ (d : Chosen). d.pick.place) new.1 ∙ has.3))
]

set_there : (xs : List Bool) (k : ℕ) (v b : Bool) → slice_get (set xs k v) k ≡ Some b → v ≡ b
set_there [] k v b e = absurd (cc)
set_there (x ∷ xs) zero v b e = same_Some v b e
set_there (x ∷ xs) (suc k) v b e = set_there xs k v b e

set_elsewhere : (xs : List Bool) (k j : ℕ) (v b : Bool) → k ≢ j → slice_get (set xs k v) j ≡ Some b → slice_get xs j ≡ Some b
set_elsewhere [] k j v b apart e = e
set_elsewhere (x ∷ xs) zero zero v b apart e = absurd (apart refl)
set_elsewhere (x ∷ xs) zero (suc j) v b apart e = e
set_elsewhere (x ∷ xs) (suc k) zero v b apart e = e
set_elsewhere (x ∷ xs) (suc k) (suc j) v b apart e = set_elsewhere xs k j v b (λ same. apart (ap suc same)) e

set_length : (xs : List Bool) (k : ℕ) (v : Bool) → length (set xs k v) ≡ length xs
set_length [] k v = refl
set_length (x ∷ xs) zero v = refl
set_length (x ∷ xs) (suc k) v = omega (arith, set_length xs k v)

number_cases : (m n : ℕ) → (m ≡ n) ⊎ (m ≢ n)
number_cases m n = elim (cases_lt m n) [
  | inl lt ↦ inr (λ e. omega (arith, lt, e))
  | inr le ↦ elim (cases_lt n m) [
    | inl gt ↦ inr (λ e. omega (arith, gt, e))
    | inr ge ↦ inl (omega (arith, le, ge))
  ]
]

taken_push : (ms : List Literal) (chosen : List Chosen) (marks : List Bool) (c : Chosen) → AreTaken ms chosen marks →
    AreTaken ms (chosen ++ c ∷ []) (set marks c.pick.place true)
taken_push ms chosen marks c are = record {
  covers = set_length marks c.pick.place true ∙ are.covers;
  each = λ place b at. each place b (number_cases c.pick.place place) at;
}
  where
    each : (place : ℕ) (b : Bool) → (c.pick.place ≡ place) ⊎ (c.pick.place ≢ place) → slice_get (set marks c.pick.place true) place ≡ Some b →
        (IsTrue b ↔ HasPlace (chosen ++ c ∷ []) place)
    each place b (inl same) at =
        let here : true ≡ b = set_there marks c.pick.place true b (ap (slice_get (set marks c.pick.place true)) same ∙ at) in (
          (λ _. (length chosen, c, get_middle chosen c [], same)),
          (λ _. sym here),
        )
    each place b (inr other) at =
        let old = are.each place b (set_elsewhere marks c.pick.place place true b other at) in (
          (λ yes_. has_more chosen c place (old.0 yes_)),
          (λ has. old.1 (has_fewer chosen c place other has)),
        )

taken_pop : (ms : List Literal) (ps : List Chosen) (d : Chosen) (marks : List Bool) → AreTaken ms (ps ++ d ∷ []) marks →
    ((i : ℕ) (b : Chosen) → slice_get ps i ≡ Some b → b.pick.place ≢ d.pick.place) → AreTaken ms ps (set marks d.pick.place false)
taken_pop ms ps d marks are new = record {
  covers = set_length marks d.pick.place false ∙ are.covers;
  each = λ place b at. each place b (number_cases d.pick.place place) at;
}
  where
    each : (place : ℕ) (b : Bool) → (d.pick.place ≡ place) ⊎ (d.pick.place ≢ place) → slice_get (set marks d.pick.place false) place ≡ Some b →
        (IsTrue b ↔ HasPlace ps place)
    each place b (inl same) at =
        let here : false ≡ b = set_there marks d.pick.place false b (ap (slice_get (set marks d.pick.place false)) same ∙ at) in (
          (λ yes_. absurd (let both : false ≡ true = here ∙ yes_ in (cc))),
          (λ has. absurd (new has.0 has.1 has.2 (has.3 ∙ sym same))),
        )
    each place b (inr other) at =
        let old = are.each place b (set_elsewhere marks d.pick.place place false b other at) in (
          (λ yes_. has_fewer ps d place other (old.0 yes_)),
          (λ has. old.1 (has_more ps d place has)),
        )

pub taken_none : (ms : List Literal) (n : ℕ) (marks : List Bool) → marks ≡ replicate n false → n ≡ length ms → AreTaken ms [] marks
taken_none ms n marks is covers = subst (AreTaken ms []) (sym is) (record {
  covers = as_many n ∙ covers;
  each = λ place b at. (λ yes_. absurd (let both : false ≡ true = none n place b at ∙ yes_ in (cc)), λ has. absurd (nothing has.0 has.1 has.2));
})
  where
    as_many : (n : ℕ) → length (replicate n false) ≡ n
    as_many zero = refl
    as_many (suc n) = omega (arith, as_many n)

    none : (n place : ℕ) (b : Bool) → slice_get (replicate n false) place ≡ Some b → false ≡ b
    none zero place b at = absurd (cc)
    none (suc n) zero b at = same_Some false b at
    none (suc n) (suc place) b at = none n place b at

    nothing : (i : ℕ) (c : Chosen) → slice_get [] i ≡ Some c → ⊥
    nothing i c e = cc

-- ---- the steps of the search

-- the goals before two that change their places stay
kept : (goals more : List Goal) (i j k : ℕ) (goal : Goal) → i < length goals → j < length goals → more ≡ swap goals i j → k < i → k < j →
    slice_get goals k ≡ Some goal → slice_get more k ≡ Some goal
kept goals more i j k goal li lj is ki kj at =
    let all = swapped_from_swap goals more i j goal li lj is in
    let same : get_or more k goal ≡ get_or goals k goal = all.2 k (λ e. omega (arith, ki, e)) (λ e. omega (arith, kj, e)) in
    let inside : k < length more = omega (arith, ap length is, length-swap goals i j, li, ki) in
    slice_get-get_or more k goal inside ∙ ap Some (same ∙ get_or_from_slice_get goals k goal goal at)

module _ {ls ms : List Literal} {room : ℕ} {vs : List (Option Term)} {trail : List ℕ} {goals : List Goal} {chosen : List Chosen} {marks : List Bool} {p : Pick}
    (s : IsSearch ls ms room vs trail goals chosen marks p) where
  -- the literals that have picks aren't the next one
  others : (goal : Goal) → slice_get goals (length chosen) ≡ Some goal → (i : ℕ) (b : Chosen) → slice_get chosen i ≡ Some b → b.literal ≢ goal.literal
  others goal at i b bi same =
      let g = s.begun i b bi in
      goals_apart (length ls) goals i (length chosen) g.0 goal s.order (get_within chosen i b bi) g.1 at (g.2 ∙ same)

  skip : (next : Pick) (ws : List (Option Term)) (after : List ℕ) (wide : ℕ) (goal : Goal) → slice_get goals (length chosen) ≡ Some goal → p.place < length ms →
      code_of next ≡ code_of p + 1 → IsNoWay ls ms chosen goal.literal p → ws ≡ vs → after ≡ trail → wide ≡ room →
      IsSearch ls ms wide ws after goals chosen marks next
  skip next ws after wide goal at lt is none same alike room_same = record {
    bounded = subst (AreBounded ls) (sym room_same) s.bounded;
    order = s.order;
    stack = subst (λ us. Stack ls ms us after chosen) (sym same) (subst (λ ks. Stack ls ms vs ks chosen) (sym alike) s.stack);
    begun = s.begun;
    taken = s.taken;
    tried = λ other here. subst (λ (x : Goal). Tried ls ms chosen x.literal next) (same_item goals (length chosen) (length chosen) goal other refl at here)
        (tried_skip ls ms chosen goal.literal p next is (s.tried goal at) none);
    near = omega (arith, is, code_within p (length ms) lt);
  }

  -- the place is taken
  pub skip_taken : (next : Pick) (goal : Goal) (b : Bool) → slice_get goals (length chosen) ≡ Some goal → p.place < length ms →
      code_of next ≡ code_of p + 1 → slice_get marks p.place ≡ Some b → b ≡ true → IsSearch ls ms room vs trail goals chosen marks next
  skip_taken next goal b at lt is mark yes_ =
      skip next vs trail room goal at lt is
      (no_way_taken ls ms chosen goal.literal p (others goal at) ((s.taken.each p.place b mark).0 yes_)) refl refl refl

  -- the literal can't be bound
  pub skip_stuck : (next : Pick) (goal : Goal) (l m : Literal) (ws us : List (Option Term)) (after : List ℕ) (wide : ℕ) (r : Bool) →
      slice_get goals (length chosen) ≡ Some goal → slice_get ls goal.literal ≡ Some l → slice_get ms p.place ≡ Some m →
      code_of next ≡ code_of p + 1 → Binds (LiteralBinds p.is_exchanged l m) vs us r → r ≡ false → ws ≡ vs → after ≡ trail → wide ≡ room →
      IsSearch ls ms wide ws after goals chosen marks next
  skip_stuck next goal l m ws us after wide r at li mi is binds out same alike room_same =
      skip next ws after wide goal at (get_within ms p.place m mi) is
      (no_way_bound ls ms vs us trail chosen goal.literal p l m r s.stack li mi binds out) same alike room_same

  -- the literal is bound
  pub pushed : (first : Pick) (goal : Goal) (l m : Literal) (c : Chosen) (all : List Chosen) (ws : List (Option Term)) (after : List ℕ) (wide : ℕ) (now : List Bool) (r : Bool) →
      slice_get goals (length chosen) ≡ Some goal → slice_get ls goal.literal ≡ Some l → slice_get ms p.place ≡ Some m →
      c.literal ≡ goal.literal → c.pick ≡ p → c.mark ≡ length trail → ((b : Bool) → slice_get marks p.place ≡ Some b → b ≡ false) → code_of first ≡ 0 →
      Binds (LiteralBinds p.is_exchanged l m) vs ws r → r ≡ true → IsTrail vs trail ws after → all ≡ chosen ++ c ∷ [] → now ≡ set marks p.place true → wide ≡ room →
      IsSearch ls ms wide ws after goals all now first
  pushed first goal l m c all ws after wide now r at li mi literal pick mark free is binds ok noted longer marked room_same =
      subst (λ cs. IsSearch ls ms wide ws after goals cs now first) (sym longer) (record {
        bounded = subst (AreBounded ls) (sym room_same) s.bounded;
        order = s.order;
        stack = push vs ws trail after chosen l c s.stack (ap (slice_get ls) literal ∙ li) (subst (λ (q : Pick). Binds (λ g. IsPicked g l ms q) vs ws true) (sym pick) bound)
            (λ i b bi same. apart i b bi (same ∙ ap (λ (q : Pick). q.place) pick))
            (subst (λ (k : ℕ). Tried ls ms chosen k c.pick) (sym literal) (subst (Tried ls ms chosen goal.literal) (sym pick) (s.tried goal at)))
            (subst (λ (q : Pick). q.place < length ms) (sym pick) (get_within ms p.place m mi)) mark noted;
        begun = λ i b bi. begun i b (last_cases chosen c i b bi);
        taken = subst (AreTaken ms (chosen ++ c ∷ [])) (ap (λ (q : Pick). set marks q.place true) pick ∙ sym marked) (taken_push ms chosen marks c s.taken);
        tried = λ other here. tried_first ls ms (chosen ++ c ∷ []) other.literal first is;
        near = omega (arith, is);
      })
    where
      bound : Binds (λ g. IsPicked g l ms p) vs ws true
      bound g = (
        (λ q. (refl, ((binds g).0 (q.0, picked_binds g l m ms p mi q.1)).1)),
        (λ q. let old = (binds g).1 (ok, q.1) in (old.0, binds_picked g l m ms p mi old.1)),
      )

      mark_there : (b : Bool) × (slice_get marks p.place ≡ Some b)
      mark_there = get_some marks p.place (omega (arith, s.taken.covers, get_within ms p.place m mi))

      apart : (i : ℕ) (b : Chosen) → slice_get chosen i ≡ Some b → b.pick.place ≢ p.place
      apart i b bi same =
          let was : mark_there.0 ≡ true = (s.taken.each p.place mark_there.0 mark_there.1).1 (i, b, bi, same) in
          let both : true ≡ false = sym was ∙ free mark_there.0 mark_there.1 in absurd (cc)

      begun : (i : ℕ) (b : Chosen) → IsLast chosen c i b → (x : Goal) × (slice_get goals i ≡ Some x) × (x.literal ≡ b.literal)
      begun i b (inl old) = s.begun i b old
      begun i b (inr new) = (goal, ap (slice_get goals) new.0 ∙ at, sym literal ∙ ap (λ (d : Chosen). d.literal) new.1)

  -- the last pick is taken back
  pub top_of : (ps : List Chosen) (d : Chosen) → chosen ≡ ps ++ d ∷ [] → IsTop ls ms vs trail ps d
  top_of ps d split = stack_top ls ms vs trail chosen s.stack ps d split

  pub popped : (next : Pick) (ps : List Chosen) (d : Chosen) (goal : Goal) (ws : List (Option Term)) (after : List ℕ) (wide : ℕ) (now : List Bool) →
      chosen ≡ ps ++ d ∷ [] → slice_get goals (length chosen) ≡ Some goal → length ms ≤ p.place → code_of next ≡ code_of d.pick + 1 →
      ws ≡ unbound (drop d.mark trail) vs → after ≡ take d.mark trail → now ≡ set marks d.pick.place false → wide ≡ room →
      IsSearch ls ms wide ws after goals ps now next
  popped next ps d goal ws after wide now split at past is back short marked room_same = record {
    bounded = subst (AreBounded ls) (sym room_same) s.bounded;
    order = s.order;
    stack = subst (λ us. Stack ls ms us after ps) (sym back) (subst (λ ks. Stack ls ms (unbound (drop d.mark trail) vs) ks ps) (sym short) (top_of ps d split).under);
    begun = λ i b bi. s.begun i b (ap (λ cs. slice_get cs i) split ∙ get_front ps (d ∷ []) i b bi);
    taken = subst (AreTaken ms ps) (sym marked)
        (taken_pop ms ps d marks (subst (λ cs. AreTaken ms cs marks) split s.taken) (top_of ps d split).new);
    tried = λ other here. let here_d = s.begun (length ps) d (ap (λ cs. slice_get cs (length ps)) split ∙ get_middle ps d []) in
        subst (λ (k : ℕ). Tried ls ms ps k next)
        (sym here_d.2 ∙ ap (λ (x : Goal). x.literal) (same_item goals (length ps) (length ps) here_d.0 other refl here_d.1 here))
        (tried_skip ls ms ps d.literal d.pick next is (top_of ps d split).tried none);
    near = omega (arith, is, code_within d.pick (length ms) (top_of ps d split).within);
  }
    where
      none : IsNoWay ls ms ps d.literal d.pick
      none g picks are agree here =
          let lt = goal_inside (length ls) goals (length chosen) goal s.order.inside at in
          let q = get_some picks goal.literal (omega (arith, are.as_many, lt)) in
          let l = get_some ls goal.literal lt in
          let picked = are.each goal.literal l.0 q.0 l.1 q.1 in
          omega (
            arith,
            s.tried goal at g picks q.0 are (λ i b bi. agrees i b bi) q.1,
            code_past p (length ms) past,
            code_within q.0 (length ms) (get_within ms q.0.place picked.literal picked.place),
          )
        where
          agrees : (i : ℕ) (b : Chosen) → slice_get chosen i ≡ Some b → slice_get picks b.literal ≡ Some b.pick
          agrees i b bi = elim (last_cases ps d i b (ap (λ cs. slice_get cs i) (sym split) ∙ bi)) [
            | inl old ↦ agree i b old
            | inr new ↦ ap (λ (c : Chosen). slice_get picks c.literal) (sym new.1) ∙ here ∙ ap (λ (c : Chosen). Some c.pick) new.1
          ]

  -- no pick is left
  pub over : (goal : Goal) → slice_get goals (length chosen) ≡ Some goal → chosen ≡ [] → length ms ≤ p.place → (g : ℕ → Term) (picks : List Pick) → ArePicked g ls ms picks → ⊥
  over goal at none past g picks are =
      let lt = goal_inside (length ls) goals (length chosen) goal s.order.inside at in
      let q = get_some picks goal.literal (omega (arith, are.as_many, lt)) in
      let l = get_some ls goal.literal lt in
      let picked = are.each goal.literal l.0 q.0 l.1 q.1 in
      omega (
        arith,
        s.tried goal at g picks q.0 are (λ i b bi. absurd (empty i b (ap (λ cs. slice_get cs i) (sym none) ∙ bi))) q.1,
        code_past p (length ms) past,
        code_within q.0 (length ms) (get_within ms q.0.place picked.literal picked.place),
      )
    where
      empty : (i : ℕ) (b : Chosen) → slice_get [] i ≡ Some b → ⊥
      empty i b e = cc

  -- another goal is the next one
  pub swapped : (more : List Goal) (ws : List (Option Term)) (after : List ℕ) (wide j : ℕ) → code_of p ≡ 0 → length chosen ≤ j → length chosen < length goals → j < length goals →
      more ≡ swap goals (length chosen) j → ws ≡ vs → after ≡ trail → wide ≡ room → IsSearch ls ms wide ws after more chosen marks p
  swapped more ws after wide j is le lt inside same alike again room_same = record {
    bounded = subst (AreBounded ls) (sym room_same) s.bounded;
    order = goals_swapped (length ls) goals more (length chosen) j s.order lt inside same;
    stack = subst (λ us. Stack ls ms us after chosen) (sym alike) (subst (λ ks. Stack ls ms vs ks chosen) (sym again) s.stack);
    begun = λ i b bi. let old = s.begun i b bi in
        (old.0, kept goals more (length chosen) j i old.0 lt inside same (get_within chosen i b bi) (omega (arith, le, get_within chosen i b bi)) old.1, old.2);
    taken = s.taken;
    tried = λ other here. tried_first ls ms chosen other.literal p is;
    near = s.near;
  }

  -- each literal has its pick
  pub found : length ls ≤ length chosen → (picks : List Pick) × ((g : ℕ → Term) → Fits g vs → ArePicked g ls ms picks)
  found all = (
    picks.items,
    λ g fits. record {
      as_many = picks.as_many;
      each = λ i l q li qi. let c = picks.each i q qi in
          subst (IsPicked g l ms) c.4 (stack_picked ls ms vs trail chosen s.stack g fits c.0 l c.1 c.2 (ap (slice_get ls) c.3 ∙ li));
      distinct = λ i j q r lt qi rj. let b = picks.each i q qi in let c = picks.each j r rj in
          apart b.0 c.0 b.1 c.1 q r b.2 c.2 b.4 c.4 (λ same. omega (arith, lt, sym b.3 ∙ ap (λ (d : Chosen). d.literal) (same_item chosen b.0 c.0 b.1 c.1 same b.2 c.2) ∙ c.3));
    },
  )
    where
      HasPick : ℕ → Pick → Type 0
      HasPick k q = (i : ℕ) × (c : Chosen) × (slice_get chosen i ≡ Some c) × (c.literal ≡ k) × (c.pick ≡ q)

      pick_of : (k : ℕ) → k < length ls → (q : Pick) × HasPick k q
      pick_of k lt =
          let goal = goal_of (length ls) goals k s.order lt in
          let c = get_some chosen goal.0 (omega (arith, all, get_within goals goal.0 goal.1 goal.2, s.order.as_many)) in
          let begun = s.begun goal.0 c.0 c.1 in
          (c.0.pick, (goal.0, c.0, c.1, sym begun.2 ∙ ap (λ (x : Goal). x.literal) (same_item goals goal.0 goal.0 begun.0 goal.1 refl begun.1 goal.2) ∙ goal.3, refl))

      picks : Listed HasPick (length ls)
      picks = listed HasPick (length ls) pick_of

      past : (m n : ℕ) → n ≤ m → (m ≡ n → ⊥) → n < m
      past m n le apart_ = grind (arith, le, apart_)

      apart : (i j : ℕ) (b c : Chosen) (q r : Pick) → slice_get chosen i ≡ Some b → slice_get chosen j ≡ Some c → b.pick ≡ q → c.pick ≡ r → (i ≡ j → ⊥) → q.place ≢ r.place
      apart i j b c q r bi cj bq cr other same =
          let places : b.pick.place ≡ c.pick.place = ap (λ (x : Pick). x.place) bq ∙ same ∙ sym (ap (λ (x : Pick). x.place) cr) in
          elim (cases_lt i j) [
            | inl lt ↦ stack_apart ls ms vs trail chosen s.stack i j b c lt bi cj places
            | inr le ↦ stack_apart ls ms vs trail chosen s.stack j i c b (past i j le other) cj bi (sym places)
          ]

-- a search begins
pub started : (ls ms : List Literal) (room : ℕ) (vs : List (Option Term)) (trail : List ℕ) (goals : List Goal) (chosen : List Chosen) (marks : List Bool) (first : Pick) →
    AreBounded ls room → AreGoals (length ls) goals → ((g : ℕ → Term) → Fits g vs) → trail ≡ [] → chosen ≡ [] → AreTaken ms [] marks → code_of first ≡ 0 →
    IsSearch ls ms room vs trail goals chosen marks first
started ls ms room vs trail goals chosen marks first bounded order free none also taken is =
    subst (λ ks. IsSearch ls ms room vs ks goals chosen marks first) (sym none)
    (subst (λ cs. IsSearch ls ms room vs [] goals cs marks first) (sym also) (record {
      bounded = bounded;
      order = order;
      stack = bottom vs free;
      begun = λ i c ci. absurd (empty i c ci);
      taken = taken;
      tried = λ goal at. tried_first ls ms [] goal.literal first is;
      near = omega (arith, is);
    }))
  where
    empty : (i : ℕ) (c : Chosen) → slice_get [] i ≡ Some c → ⊥
    empty i c e = cc

-- ---- the whole

-- the terms of a literal are terms of its clause
pub bounds_within : (ls : List Literal) (n : ℕ) → greatest (map bound_of (clause_terms ls)) ≤ n → AreBounded ls n
bounds_within [] n le i l at = absurd (cc)
bounds_within (k ∷ ls) n le i l at = each (bounds_within ls n (omega (arith, le, parts))) i at
  where
    parts : greatest (map bound_of (terms_of k.atom ++ clause_terms ls)) ≡ max (greatest (map bound_of (terms_of k.atom))) (greatest (map bound_of (clause_terms ls)))
    parts = ap greatest (map-append bound_of (terms_of k.atom) (clause_terms ls)) ∙ greatest-append (map bound_of (terms_of k.atom)) (map bound_of (clause_terms ls))

    each : AreBounded ls n → (j : ℕ) → slice_get (k ∷ ls) j ≡ Some l → greatest (map bound_of (terms_of l.atom)) ≤ n
    each rest zero here = omega (arith, le, parts, ap (λ (m : Literal). greatest (map bound_of (terms_of m.atom))) (same_Some k l here))
    each rest (suc j) there = rest j l there

pub nothing_subsumes : (d c : Clause) (ls ms : List Literal) → ls ≡ d.literals → ms ≡ c.literals →
    ((g : ℕ → Term) (picks : List Pick) → ArePicked g ls ms picks → ⊥) → Subsumes d c → ⊥
nothing_subsumes d c ls ms il im none by =
    none by.0 by.1.0 (subst (λ ks. ArePicked by.0 ks ms by.1.0) (sym il) (subst (λ ks. ArePicked by.0 d.literals ks by.1.0) (sym im) by.1.1))

pub subsumes_by : (d c : Clause) (ls ms : List Literal) (ws : List (Option Term)) (s : List Term) (n : ℕ) → ls ≡ d.literals → ms ≡ c.literals →
    length s ≡ n → n ≡ variable_bound_of d → ((picks : List Pick) × ((g : ℕ → Term) → Fits g ws → ArePicked g ls ms picks)) →
    Fits (value_of s) ws → (length s ≡ variable_bound_of d) × SubsumesBy (value_of s) d c
subsumes_by d c ls ms ws s n il im covers bound found fits = (
  covers ∙ bound,
  (
    found.0,
    subst (λ ks. ArePicked (value_of s) ks c.literals found.0) il
        (subst (λ ks. ArePicked (value_of s) ls ks found.0) im (found.1 (value_of s) fits)),
  ),
)
