-- Unification of terms where they stand.
use Rattle.std.proofs.Common.{◌≡◌, ◌≢◌, ◌↔◌, ℕ, zero, suc, ◌+◌, ◌<◌, ◌≤◌, List, [], ◌∷◌, length, map, take, get_or, set, sum_by, ap, subst, sym, refl, ◌∙◌, arith, Option, Some, None, option_map}
use Rattle.std.proofs.lemmas.List.{get_or-map, map-set, length-map, take_all, take-map}
use Rattle.std.proofs.lemmas.List.Sums.{sum_by-cons}
use Rattle.cd_term.specs.declared.Term.{Term}
use Rattle.cd_term.specs.declared.Term.TheVariants.{Var, App}
use Rattle.cd_term.specs.Terms.{substituted, size_of}
use Rattle.cd_term.proofs.Equations.{substituted-Var, substituted-App, size_of-App}
use Rattle.cd_term.proofs.Measures.{at_map, below_map, past_map}
use Rattle.cd_term.proofs.VariableLaws.{App-injective}
use Rattle.cd_unify.specs.declared.direct.Standing.{Standing}
use Rattle.cd_unify.specs.declared.direct.Outcome.{Outcome}
use Rattle.cd_unify.specs.declared.direct.Outcome.TheVariants.{Equal, Apart, Open}
use Rattle.cd_unify.specs.Unifiers.{raised, Fits}
use Rattle.cd_unify.specs.Direct.{standing, bound_to, Solves, Settles, Joins, JoinsAll}
use Rattle.cd_unify.proofs.MatchLemmas.{Gives, fits_new, fits_old, fits_value, prefix_split, prefix_join}

-- ---- what stands at a place

pub standing_variable : (p : Standing) (k : ℕ) → p.term.now ≡ Var k → standing p ≡ Var (p.up + k)
standing_variable p k is = ap (raised p.up) is ∙ substituted-Var (λ j. Var (p.up + j)) k

pub standing_symbol : (p : Standing) (f : ℕ) (ts : List Term) → p.term.now ≡ App f ts → standing p ≡ App f (map (raised p.up) ts)
standing_symbol p f ts is = ap (raised p.up) is ∙ substituted-App (λ j. Var (p.up + j)) f ts

pub value_variable : (g : ℕ → Term) (p : Standing) (k : ℕ) → p.term.now ≡ Var k → substituted g (standing p) ≡ g (p.up + k)
value_variable g p k is = ap (substituted g) (standing_variable p k is) ∙ substituted-Var g (p.up + k)

pub value_symbol : (g : ℕ → Term) (p : Standing) (f : ℕ) (ts : List Term) → p.term.now ≡ App f ts →
    substituted g (standing p) ≡ App f (map (substituted g) (map (raised p.up) ts))
value_symbol g p f ts is = ap (substituted g) (standing_symbol p f ts is) ∙ substituted-App g f (map (raised p.up) ts)

-- ---- what a variable is bound to

pub bound_read : (values : List (Option Standing)) (k : ℕ) (d o : Option Standing) → k < length values → get_or values k d ≡ o →
    get_or (bound_to values) k None ≡ option_map standing o
bound_read values k d o lt is = get_or-map (option_map standing) values k d None lt ∙ ap (option_map standing) is

substituted_read : (g : ℕ → Term) (values : List (Option Standing)) (k : ℕ) (d o : Option Standing) → k < length values → get_or values k d ≡ o →
    get_or (map (option_map (substituted g)) (bound_to values)) k None ≡ option_map (substituted g) (option_map standing o)
substituted_read g values k d o lt is =
    get_or-map (option_map (substituted g)) (bound_to values) k None None (omega (arith, lt, length-map values (option_map standing)))
    ∙ ap (option_map (substituted g)) (bound_read values k d o lt is)

pub solved_value : (g : ℕ → Term) (values : List (Option Standing)) (k : ℕ) (d : Option Standing) (next : Standing) → k < length values →
    get_or values k d ≡ Some next → Solves g (bound_to values) → g k ≡ substituted g (standing next)
solved_value g values k d next lt is solves =
    subst (Gives g k) (substituted_read g values k d (Some next) lt is) (solves k)

pub followed_on : (values : List (Option Standing)) (p next r : Standing) (k : ℕ) (d : Option Standing) → p.term.now ≡ Var k → p.up + k < length values →
    get_or values (p.up + k) d ≡ Some next → ((g : ℕ → Term) → Solves g (bound_to values) → Joins (standing next) (standing r) g) →
    (g : ℕ → Term) → Solves g (bound_to values) → Joins (standing p) (standing r) g
followed_on values p next r k d var lt is rest g solves =
    value_variable g p k var ∙ solved_value g values (p.up + k) d next lt is solves ∙ rest g solves

pub bound_new : (values : List (Option Standing)) (k : ℕ) (d : Option Standing) (p : Standing) → k < length values → get_or values k d ≡ None →
    Settles (λ g. g k ≡ substituted g (standing p)) (bound_to values) (bound_to (set values k (Some p))) Equal
bound_new values k d p lt is g = (
  λ q. subst (Fits g) (sym put) (fits_new g ws k (substituted g (standing p)) below q.0 q.1),
  λ q. let fits = subst (Fits g) put q in (
    fits_old g ws k (substituted g (standing p)) (substituted_read g values k d None lt is) fits,
    fits_value g ws k (substituted g (standing p)) below fits,
  ),
)
  where
    ws : List (Option Term)
    ws = map (option_map (substituted g)) (bound_to values)

    below : k < length ws
    below = omega (arith, lt, length-map (bound_to values) (option_map (substituted g)), length-map values (option_map standing))

    put : map (option_map (substituted g)) (bound_to (set values k (Some p))) ≡ set ws k (Some (substituted g (standing p)))
    put = ap (map (option_map (substituted g))) (map-set (option_map standing) values k (Some p))
        ∙ map-set (option_map (substituted g)) (bound_to values) k (Some (standing p))

-- ---- a variable within what it would be bound to

item_size : (xs : List Term) (i : ℕ) (x : Term) → i < length xs → x ≡ get_or xs i x → size_of x ≤ sum_by size_of xs
item_size [] i x lt at = absurd (omega arith)
item_size (t ∷ ts) zero x lt at = omega (arith, sum_by-cons size_of t ts, ap size_of at)
item_size (t ∷ ts) (suc i) x lt at = omega (arith, sum_by-cons size_of t ts, item_size ts i x (omega (arith, lt)) at)

abbrev pub IsAmong : List (Option Standing) → ℕ → List Term → Type 0
IsAmong values x ts = (g : ℕ → Term) → Solves g (bound_to values) → size_of (g x) ≤ sum_by size_of (map (substituted g) ts)

abbrev pub IsInside : List (Option Standing) → ℕ → Standing → Type 0
IsInside values x p = (g : ℕ → Term) → Solves g (bound_to values) → size_of (g x) ≤ size_of (substituted g (standing p))

pub inside_item : (values : List (Option Standing)) (x up : ℕ) (ts : List Term) (i : ℕ) (t : Term) → i < length ts → t ≡ get_or ts i t →
    ((g : ℕ → Term) → Solves g (bound_to values) → size_of (g x) ≤ size_of (substituted g (raised up t))) → IsAmong values x (map (raised up) ts)
inside_item values x up ts i t lt at inside g solves =
    let h = raised up in
    let here = inside g solves in
    let most = item_size (map (substituted g) (map h ts)) i (substituted g (h t))
    (below_map (substituted g) (map h ts) i (below_map h ts i lt))
    (at_map (substituted g) (map h ts) i (h t) (below_map h ts i lt) (at_map h ts i t lt at)) in
    omega (arith, here, most)

pub among_in : (xs values : List (Option Standing)) (x : ℕ) (ts : List Term) → xs ≡ values → IsAmong xs x ts → IsAmong values x ts
among_in xs values x ts e is = subst (λ vs. IsAmong vs x ts) e is

pub inside_symbol : (values : List (Option Standing)) (x : ℕ) (p : Standing) (f : ℕ) (ts us : List Term) → p.term.now ≡ App f ts → us ≡ ts →
    IsAmong values x (map (raised p.up) us) → (g : ℕ → Term) → Solves g (bound_to values) → size_of (g x) < size_of (substituted g (standing p))
inside_symbol values x p f ts us is same among g solves =
    omega (
      arith,
      among g solves,
      ap (λ vs. sum_by size_of (map (substituted g) (map (raised p.up) vs))) same,
      ap size_of (value_symbol g p f ts is),
      size_of-App f (map (substituted g) (map (raised p.up) ts)),
    )

pub inside_followed : (values : List (Option Standing)) (x : ℕ) (p q : Standing) → ((g : ℕ → Term) → Solves g (bound_to values) → Joins (standing p) (standing q) g) →
    ((g : ℕ → Term) → Solves g (bound_to values) → size_of (g x) ≤ size_of (substituted g (standing q))) → IsInside values x p
inside_followed values x p q same inside g solves = omega (arith, inside g solves, ap size_of (same g solves))

pub inside_variable : (values : List (Option Standing)) (x : ℕ) (p q : Standing) (k : ℕ) → ((g : ℕ → Term) → Solves g (bound_to values) → Joins (standing p) (standing q) g) →
    q.term.now ≡ Var k → q.up + k ≡ x → IsInside values x p
inside_variable values x p q k same is at g solves =
    omega (arith, ap size_of (same g solves ∙ value_variable g q k is ∙ ap g at))

pub circular_apart : (values : List (Option Standing)) (new : List (Option Term)) (x : ℕ) (p : Standing) (f : ℕ) (ts us : List Term) → p.term.now ≡ App f ts → us ≡ ts →
    IsAmong values x (map (raised p.up) us) → Settles (λ g. g x ≡ substituted g (standing p)) (bound_to values) new Apart
circular_apart values new x p f ts us is same among g solves e =
    absurd (omega (arith, inside_symbol values x p f ts us is same among g solves, ap size_of e))

-- ---- equations

-- what has to be so may be said in another way where the values so far are solved
pub settles_as : (P Q : (ℕ → Term) → Type 0) (old new : List (Option Term)) → ((g : ℕ → Term) → Solves g old → (P g ↔ Q g)) → (o : Outcome) →
    Settles P old new o → Settles Q old new o
settles_as P Q old new same Equal is = λ g. (
  λ p. (is g).0 (p.0, (same g p.0).1 p.1),
  λ q. let before = (is g).1 q in (before.0, (same g before.0).0 before.1),
)
settles_as P Q old new same Apart is = λ g solves q. is g solves ((same g solves).1 q)
settles_as P Q old new same Open is = tt

pub settles_nothing : (P : (ℕ → Term) → Type 0) (old : List (Option Term)) → ((g : ℕ → Term) → Solves g old → P g) → Settles P old old Equal
settles_nothing P old holds g = (λ p. p.0, λ q. (q, holds g q))

abbrev pub Followed : List (Option Standing) → Standing → Standing → Type 0
Followed values p q = (g : ℕ → Term) → Solves g (bound_to values) → Joins (standing p) (standing q) g

pub followed_in : (xs values : List (Option Standing)) (p q : Standing) → xs ≡ values → Followed xs p q → Followed values p q
followed_in xs values p q e is = subst (λ vs. Followed vs p q) e is

-- the first of two places is a variable
pub settles_left : (values : List (Option Standing)) (new : List (Option Term)) (p q l r : Standing) (k x : ℕ) → Followed values p l → Followed values q r →
    l.term.now ≡ Var k → l.up + k ≡ x → (o : Outcome) → Settles (λ g. g x ≡ substituted g (standing r)) (bound_to values) new o →
    Settles (Joins (standing p) (standing q)) (bound_to values) new o
settles_left values new p q l r k x pl qr is at =
    settles_as (λ g. g x ≡ substituted g (standing r)) (Joins (standing p) (standing q)) (bound_to values) new
    (λ g solves. (
      λ e. pl g solves ∙ value_variable g l k is ∙ ap g at ∙ e ∙ sym (qr g solves),
      λ e. sym (pl g solves ∙ value_variable g l k is ∙ ap g at) ∙ e ∙ qr g solves,
    ))

-- the second is
pub settles_right : (values : List (Option Standing)) (new : List (Option Term)) (p q l r : Standing) (k x : ℕ) → Followed values p l → Followed values q r →
    r.term.now ≡ Var k → r.up + k ≡ x → (o : Outcome) → Settles (λ g. g x ≡ substituted g (standing l)) (bound_to values) new o →
    Settles (Joins (standing p) (standing q)) (bound_to values) new o
settles_right values new p q l r k x pl qr is at =
    settles_as (λ g. g x ≡ substituted g (standing l)) (Joins (standing p) (standing q)) (bound_to values) new
    (λ g solves. (
      λ e. pl g solves ∙ sym e ∙ sym (qr g solves ∙ value_variable g r k is ∙ ap g at),
      λ e. sym (qr g solves ∙ value_variable g r k is ∙ ap g at) ∙ sym e ∙ pl g solves,
    ))

-- both are one variable
pub settles_same : (values : List (Option Standing)) (p q l r : Standing) (j k : ℕ) → Followed values p l → Followed values q r →
    l.term.now ≡ Var j → r.term.now ≡ Var k → l.up + j ≡ r.up + k → Settles (Joins (standing p) (standing q)) (bound_to values) (bound_to values) Equal
settles_same values p q l r j k pl qr il ir same =
    settles_nothing (Joins (standing p) (standing q)) (bound_to values)
    (λ g solves. pl g solves ∙ value_variable g l j il ∙ ap g same ∙ sym (qr g solves ∙ value_variable g r k ir))

-- both are symbols
pub symbols_join : (values : List (Option Standing)) (p q l r : Standing) (f h : ℕ) (ts us : List Term) → Followed values p l → Followed values q r →
    l.term.now ≡ App f ts → r.term.now ≡ App h us → (g : ℕ → Term) → Solves g (bound_to values) → Joins (standing p) (standing q) g →
    (f ≡ h) × (map (substituted g) (map (raised l.up) ts) ≡ map (substituted g) (map (raised r.up) us))
symbols_join values p q l r f h ts us pl qr il ir g solves e =
    App-injective f h (map (substituted g) (map (raised l.up) ts)) (map (substituted g) (map (raised r.up) us))
    (sym (pl g solves ∙ value_symbol g l f ts il) ∙ e ∙ qr g solves ∙ value_symbol g r h us ir)

same_lengths : (g : ℕ → Term) (m n : ℕ) (ts us : List Term) → map (substituted g) (map (raised m) ts) ≡ map (substituted g) (map (raised n) us) →
    length ts ≡ length us
same_lengths g m n ts us e =
    omega (
      arith,
      ap length e,
      length-map (map (raised m) ts) (substituted g),
      length-map (map (raised n) us) (substituted g),
      length-map ts (raised m),
      length-map us (raised n),
    )

pub heads_apart : (values : List (Option Standing)) (new : List (Option Term)) (p q l r : Standing) (f h : ℕ) (ts us : List Term) → Followed values p l → Followed values q r →
    l.term.now ≡ App f ts → r.term.now ≡ App h us → f ≢ h → Settles (Joins (standing p) (standing q)) (bound_to values) new Apart
heads_apart values new p q l r f h ts us pl qr il ir other g solves e =
    other (symbols_join values p q l r f h ts us pl qr il ir g solves e).0

pub lengths_apart : (values : List (Option Standing)) (new : List (Option Term)) (p q l r : Standing) (f h : ℕ) (ts us : List Term) → Followed values p l → Followed values q r →
    l.term.now ≡ App f ts → r.term.now ≡ App h us → length ts ≢ length us → Settles (Joins (standing p) (standing q)) (bound_to values) new Apart
lengths_apart values new p q l r f h ts us pl qr il ir other g solves e =
    other (same_lengths g l.up r.up ts us (symbols_join values p q l r f h ts us pl qr il ir g solves e).1)

-- the first items of two lists
abbrev pub HeadsJoin : List Term → List Term → ℕ → (ℕ → Term) → Type 0
HeadsJoin ts us i g = map (substituted g) (take i ts) ≡ take i (map (substituted g) us)

pub heads_none : (ts us : List Term) (old : List (Option Term)) → Settles (HeadsJoin ts us 0) old old Equal
heads_none ts us old = settles_nothing (HeadsJoin ts us 0) old (λ g solves. refl)

pub heads_more : (old now new : List (Option Term)) (ts us : List Term) (i : ℕ) (a b : Term) → i < length ts → i < length us →
    a ≡ get_or ts i a → b ≡ get_or us i b → Settles (HeadsJoin ts us i) old now Equal → (o : Outcome) → Settles (Joins a b) now new o → o ≡ Equal →
    Settles (HeadsJoin ts us (i + 1)) old new Equal
heads_more old now new ts us i a b lt lu at bt so_far o here is g = (
  λ p. let parts = prefix_split (substituted g) ts (map (substituted g) us) i a (substituted g b) lt (below_map (substituted g) us i lu) at
      (at_map (substituted g) us i b lu bt) p.1 in
      (step g).0 ((so_far g).0 (p.0, parts.0), parts.1),
  λ q. let one = (step g).1 q in let before = (so_far g).1 one.0 in (
    before.0,
    prefix_join (substituted g) ts (map (substituted g) us) i a (substituted g b) lt (below_map (substituted g) us i lu) at
        (at_map (substituted g) us i b lu bt) before.1 one.1,
  ),
)
  where
    step : Settles (Joins a b) now new Equal
    step = subst (Settles (Joins a b) now new) is here

pub heads_stuck : (old now new any : List (Option Term)) (ts us : List Term) (i : ℕ) (a b : Term) → i < length ts → i < length us →
    a ≡ get_or ts i a → b ≡ get_or us i b → Settles (HeadsJoin ts us i) old now Equal → (o : Outcome) → Settles (Joins a b) now new o → o ≡ Apart →
    Settles (JoinsAll ts us) old any Apart
heads_stuck old now new any ts us i a b lt lu at bt so_far o here is g solves e =
    let parts = prefix_split (substituted g) ts (map (substituted g) us) i a (substituted g b) lt (below_map (substituted g) us i lu) at
    (at_map (substituted g) us i b lu bt)
    (sym (take-map (substituted g) (i + 1) ts) ∙ ap (take (i + 1)) e) in
    step g ((so_far g).0 (solves, parts.0)) parts.1
  where
    step : Settles (Joins a b) now new Apart
    step = subst (Settles (Joins a b) now new) is here

pub heads_all : (old now : List (Option Term)) (ts us : List Term) (i : ℕ) → length ts ≤ i → length us ≤ i → Settles (HeadsJoin ts us i) old now Equal →
    Settles (JoinsAll ts us) old now Equal
heads_all old now ts us i lt lu is = settles_as (HeadsJoin ts us i) (JoinsAll ts us) old now
    (λ g solves. (
      λ e. sym (all g) ∙ e ∙ past g,
      λ e. all g ∙ e ∙ sym (past g),
    )) Equal is
  where
    all : (g : ℕ → Term) → map (substituted g) (take i ts) ≡ map (substituted g) ts
    all g = ap (map (substituted g)) (take_all i ts lt)

    past : (g : ℕ → Term) → take i (map (substituted g) us) ≡ map (substituted g) us
    past g = take_all i (map (substituted g) us) (past_map (substituted g) us i lu)

-- the arguments of two symbols
pub symbols_settled : (values : List (Option Standing)) (new : List (Option Term)) (p q l r : Standing) (f h : ℕ) (ts us xs ys : List Term) →
    Followed values p l → Followed values q r → l.term.now ≡ App f ts → r.term.now ≡ App h us → f ≡ h → xs ≡ ts → ys ≡ us → (o : Outcome) →
    Settles (JoinsAll (map (raised l.up) xs) (map (raised r.up) ys)) (bound_to values) new o →
    Settles (Joins (standing p) (standing q)) (bound_to values) new o
symbols_settled values new p q l r f h ts us xs ys pl qr il ir same xt yu =
    settles_as (JoinsAll (map (raised l.up) xs) (map (raised r.up) ys)) (Joins (standing p) (standing q)) (bound_to values) new
    (λ g solves. (
      λ e. pl g solves ∙ value_symbol g l f ts il ∙ ap (App f) (sym (lefts g) ∙ e ∙ rights g) ∙ ap (λ s. App s (map (substituted g) (map (raised r.up) us))) same
          ∙ sym (qr g solves ∙ value_symbol g r h us ir),
      λ e. lefts g ∙ (symbols_join values p q l r f h ts us pl qr il ir g solves e).1 ∙ sym (rights g),
    ))
  where
    lefts : (g : ℕ → Term) → map (substituted g) (map (raised l.up) xs) ≡ map (substituted g) (map (raised l.up) ts)
    lefts g = ap (λ vs. map (substituted g) (map (raised l.up) vs)) xt

    rights : (g : ℕ → Term) → map (substituted g) (map (raised r.up) ys) ≡ map (substituted g) (map (raised r.up) us)
    rights g = ap (λ vs. map (substituted g) (map (raised r.up) vs)) yu
