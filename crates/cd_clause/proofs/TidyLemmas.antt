-- Truth of tautologies, and of clauses with their superfluous literals taken out.
use Rattle.std.proofs.Common.{◌≡◌, ℕ, Bool, true, false, not, ◌||◌, ◌⊎◌, inl, inr, List, [], ◌∷◌, ◌++◌, map, nat_eq, ap, refl, sym, ◌∙◌, arith, if◌then◌else◌}
use Rattle.std.specs.List.{list_any}
use Rattle.std.proofs.lemmas.List.{map-append}
use Rattle.std.proofs.lemmas.List.Folds.{list_any-append}
use Rattle.std.proofs.lemmas.Bool.{or_left, or_right}
use Rattle.std.proofs.Math.Bool.{or-false}
use Rattle.cd_list.proofs.Numbers.{equal_itself}
use Rattle.cd_term.specs.declared.Term.{Term}
use Rattle.cd_term.specs.Terms.{substituted, order_of, ranked, unranked}
use Rattle.cd_term.proofs.VariableLaws.{renumbered-back}
use Rattle.cd_clause.specs.declared.Atom.{Atom}
use Rattle.cd_clause.specs.declared.Atom.TheVariants.{Truth, Pred, Equal}
use Rattle.cd_clause.specs.declared.Literal.{Literal}
use Rattle.cd_clause.specs.declared.Clause.{Clause}
use Rattle.cd_clause.specs.Clauses.{terms_of, clause_terms, atom_changed, literal_changed, literals_changed, instance, renumbered_literals, exchanged, IsSameAtom, IsSameLiteral, IsTrivialAtom, IsTrivial, IsAbsurd, IsSuperfluous, AreKept, IsTidied, AreOpposite, IsTautology}
use Rattle.cd_list.specs.Lists.{Among}
use Rattle.cd_clause.specs.Truth.{Interp, IsInterp, Point, value, atom_true, literal_true, Holds}
use Rattle.cd_clause.proofs.SoundnessLemmas.{instance_holds}

nat_eq_swap : (m n : ℕ) → nat_eq m n ≡ nat_eq n m
nat_eq_swap m n = grind arith

trivial_atom : (i : Interp) (point : Point) (a : Atom) → IsTrivialAtom a → atom_true i point a ≡ true
trivial_atom i point Truth t = refl
trivial_atom i point (Pred p args) t = absurd t
trivial_atom i point (Equal s u) t = ap (λ w. nat_eq (value i point s) (value i point w)) (sym t) ∙ equal_itself (value i point s)

exchanged_atom : (i : Interp) (point : Point) (a : Atom) → atom_true i point (exchanged a) ≡ atom_true i point a
exchanged_atom i point Truth = refl
exchanged_atom i point (Pred p args) = refl
exchanged_atom i point (Equal s t) = nat_eq_swap (value i point t) (value i point s)

same_atom : (i : Interp) (point : Point) (a b : Atom) → IsSameAtom a b → atom_true i point a ≡ atom_true i point b
same_atom i point a b (inl e) = ap (atom_true i point) e
same_atom i point a b (inr e) = sym (exchanged_atom i point a) ∙ ap (atom_true i point) e

-- a literal by its sign
abbrev pub signed : Bool → Bool → Bool
signed positive a = if positive then a else not a

same_literal : (i : Interp) (point : Point) (l m : Literal) → IsSameLiteral l m → literal_true i point l ≡ literal_true i point m
same_literal i point l m same =
    ap (λ b. signed b (atom_true i point l.atom)) same.0 ∙ ap (signed m.positive) (same_atom i point l.atom m.atom same.1)

trivial_literal : (i : Interp) (point : Point) (l : Literal) → IsTrivial l → literal_true i point l ≡ true
trivial_literal i point l t = ap (λ b. signed b (atom_true i point l.atom)) t.0 ∙ trivial_atom i point l.atom t.1

absurd_literal : (i : Interp) (point : Point) (l : Literal) → IsAbsurd l → literal_true i point l ≡ false
absurd_literal i point l t = ap (λ b. signed b (atom_true i point l.atom)) t.0 ∙ ap not (trivial_atom i point l.atom t.1)

or_assoc : (a b c : Bool) → (a || (b || c)) ≡ ((a || b) || c)
or_assoc true b c = refl
or_assoc false b c = refl

-- tautologies
any_trivial : (i : Interp) (point : Point) (ls : List Literal) → Among IsTrivial ls → list_any (literal_true i point) ls ≡ true
any_trivial i point [] some = absurd some
any_trivial i point (l ∷ ls) (inl t) = or_left (literal_true i point l) (list_any (literal_true i point) ls) (trivial_literal i point l t)
any_trivial i point (l ∷ ls) (inr rest) = or_right (literal_true i point l) (list_any (literal_true i point) ls) (any_trivial i point ls rest)

one_opposite_at : (i : Interp) (point : Point) (l m : Literal) (b : Bool) → atom_true i point l.atom ≡ b → AreOpposite l m →
    (literal_true i point l ≡ true) ⊎ (literal_true i point m ≡ true)
one_opposite_at i point l m true e o = inl (ap (λ b. signed b (atom_true i point l.atom)) o.0 ∙ e)
one_opposite_at i point l m false e o =
    inr (ap (λ b. signed b (atom_true i point m.atom)) o.1 ∙ ap not (sym (same_atom i point l.atom m.atom o.2) ∙ e))

any_opposite : (i : Interp) (point : Point) (l : Literal) (ms : List Literal) → Among (AreOpposite l) ms →
    (literal_true i point l ≡ true) ⊎ (list_any (literal_true i point) ms ≡ true)
any_opposite i point l [] some = absurd some
any_opposite i point l (m ∷ ms) (inl o) = elim (one_opposite_at i point l m (atom_true i point l.atom) refl o) [
  | inl here ↦ inl here
  | inr there ↦ inr (or_left (literal_true i point m) (list_any (literal_true i point) ms) there)
]
any_opposite i point l (m ∷ ms) (inr rest) = elim (any_opposite i point l ms rest) [
  | inl here ↦ inl here
  | inr there ↦ inr (or_right (literal_true i point m) (list_any (literal_true i point) ms) there)
]

any_opposites : (i : Interp) (point : Point) (ls ms : List Literal) → Among (λ l. Among (AreOpposite l) ms) ls →
    (list_any (literal_true i point) ls ≡ true) ⊎ (list_any (literal_true i point) ms ≡ true)
any_opposites i point [] ms some = absurd some
any_opposites i point (l ∷ ls) ms (inl some) = elim (any_opposite i point l ms some) [
  | inl here ↦ inl (or_left (literal_true i point l) (list_any (literal_true i point) ls) here)
  | inr there ↦ inr there
]
any_opposites i point (l ∷ ls) ms (inr rest) = elim (any_opposites i point ls ms rest) [
  | inl here ↦ inl (or_right (literal_true i point l) (list_any (literal_true i point) ls) here)
  | inr there ↦ inr there
]

tautology_true : (i : Interp) (point : Point) (c : Clause) → IsTautology c → list_any (literal_true i point) c.literals ≡ true
tautology_true i point c (inl some) = any_trivial i point c.literals some
tautology_true i point c (inr some) = elim (any_opposites i point c.literals c.literals some) [ inl e ↦ e | inr e ↦ e ]

pub tautology_holds : (i : Interp) (c : Clause) → IsTautology c → Holds i c
tautology_holds i c t = record { at_each = λ point p. tautology_true i point c t }

-- superfluous literals
any_same : (i : Interp) (point : Point) (l : Literal) (ms : List Literal) → Among (IsSameLiteral l) ms → literal_true i point l ≡ true →
    list_any (literal_true i point) ms ≡ true
any_same i point l [] some e = absurd some
any_same i point l (m ∷ ms) (inl same) e = or_left (literal_true i point m) (list_any (literal_true i point) ms) (sym (same_literal i point l m same) ∙ e)
any_same i point l (m ∷ ms) (inr rest) e = or_right (literal_true i point m) (list_any (literal_true i point) ms) (any_same i point l ms rest e)

adds_nothing : (e t : Bool) → (t ≡ true → e ≡ true) → (e || t) ≡ e
adds_nothing true t h = refl
adds_nothing false true h = sym (h refl)
adds_nothing false false h = refl

superfluous_adds_nothing : (i : Interp) (point : Point) (earlier : List Literal) (l : Literal) → IsSuperfluous earlier l →
    (list_any (literal_true i point) earlier || literal_true i point l) ≡ list_any (literal_true i point) earlier
superfluous_adds_nothing i point earlier l (inl never) =
    ap (λ b. list_any (literal_true i point) earlier || b) (absurd_literal i point l never) ∙ or-false (list_any (literal_true i point) earlier)
superfluous_adds_nothing i point earlier l (inr same) =
    adds_nothing (list_any (literal_true i point) earlier) (literal_true i point l) (any_same i point l earlier same)

one_more : (i : Interp) (point : Point) (earlier : List Literal) (l : Literal) →
    list_any (literal_true i point) (earlier ++ l ∷ []) ≡ (list_any (literal_true i point) earlier || literal_true i point l)
one_more i point earlier l = list_any-append (literal_true i point) earlier (l ∷ [])
    ∙ ap (λ b. list_any (literal_true i point) earlier || b) (or-false (literal_true i point l))

abbrev pub SameTruth : Interp → Point → List Literal → List Literal → List Literal → Type 0
SameTruth i point earlier ls kept =
    (list_any (literal_true i point) earlier || list_any (literal_true i point) ls)
    ≡ (list_any (literal_true i point) earlier || list_any (literal_true i point) kept)

-- with one literal more before the rest
step_earlier : (i : Interp) (point : Point) (earlier : List Literal) (l : Literal) (ls kept : List Literal) (e : Bool) →
    (list_any (literal_true i point) earlier || literal_true i point l) ≡ e → SameTruth i point (earlier ++ l ∷ []) ls kept →
    (e || list_any (literal_true i point) ls) ≡ (e || list_any (literal_true i point) kept)
step_earlier i point earlier l ls kept e is same =
    sym (ap (λ b. b || list_any (literal_true i point) ls) (one_more i point earlier l ∙ is)) ∙ same
    ∙ ap (λ b. b || list_any (literal_true i point) kept) (one_more i point earlier l ∙ is)

pub kept_same : (i : Interp) (point : Point) (earlier ls kept : List Literal) → AreKept earlier ls kept → SameTruth i point earlier ls kept
kept_same i point earlier [] kept e = ap (λ ks. list_any (literal_true i point) earlier || list_any (literal_true i point) ks) (sym e)
kept_same i point earlier (l ∷ ls) kept (inl out) =
    or_assoc (list_any (literal_true i point) earlier) (literal_true i point l) (list_any (literal_true i point) ls)
    ∙ ap (λ b. b || list_any (literal_true i point) ls) (superfluous_adds_nothing i point earlier l out.0)
    ∙ step_earlier i point earlier l ls kept (list_any (literal_true i point) earlier) (superfluous_adds_nothing i point earlier l out.0)
    (kept_same i point (earlier ++ l ∷ []) ls kept out.1)
kept_same i point earlier (l ∷ ls) kept (inr some) =
    or_assoc (list_any (literal_true i point) earlier) (literal_true i point l) (list_any (literal_true i point) ls)
    ∙ step_earlier i point earlier l ls some.1.0 (list_any (literal_true i point) earlier || literal_true i point l) refl
    (kept_same i point (earlier ++ l ∷ []) ls some.1.0 some.1.2)
    ∙ sym (or_assoc (list_any (literal_true i point) earlier) (literal_true i point l) (list_any (literal_true i point) some.1.0))
    ∙ ap (λ ks. list_any (literal_true i point) earlier || list_any (literal_true i point) ks) (sym some.1.1)

-- a change that leaves each term of a clause alone
split_map : (k : Term → Term) (a b : List Term) → map k a ++ map k b ≡ a ++ b → (map k a ≡ a) × (map k b ≡ b)
split_map k [] b e = (refl, e)
split_map k (x ∷ a) b e =
    let here : k x ≡ x = cc in
    let later : map k a ++ map k b ≡ a ++ b = cc in
    let rest = split_map k a b later in
    (ap (λ y. y ∷ map k a) here ∙ ap (λ ys. x ∷ ys) rest.0, rest.1)

fixed_atom : (k : Term → Term) (a : Atom) → map k (terms_of a) ≡ terms_of a → atom_changed k a ≡ a
fixed_atom k Truth e = refl
fixed_atom k (Pred p args) e = ap (Pred p) e
fixed_atom k (Equal s t) e =
    let left : k s ≡ s = cc in let right : k t ≡ t = cc in
    ap (λ u. Equal u (k t)) left ∙ ap (Equal s) right

pub fixed_literals : (k : Term → Term) (ls : List Literal) → map k (clause_terms ls) ≡ clause_terms ls → literals_changed k ls ≡ ls
fixed_literals k [] e = refl
fixed_literals k (l ∷ ls) e =
    let parts = split_map k (terms_of l.atom) (clause_terms ls) (sym (map-append k (terms_of l.atom) (clause_terms ls)) ∙ e) in
    let here : literal_changed k l ≡ l = ap (λ a. record { positive = l.positive; atom = a }) (fixed_atom k l.atom parts.0) in
    ap (λ m. m ∷ literals_changed k ls) here ∙ ap (λ ms. l ∷ ms) (fixed_literals k ls parts.1)

pub twice_map : (g h : Term → Term) (ts : List Term) → map g (map h ts) ≡ map (λ t. g (h t)) ts
twice_map g h [] = refl
twice_map g h (t ∷ ts) = ap (λ us. g (h t) ∷ us) (twice_map g h ts)

twice_atom : (g h : Term → Term) (a : Atom) → atom_changed g (atom_changed h a) ≡ atom_changed (λ t. g (h t)) a
twice_atom g h Truth = refl
twice_atom g h (Pred p args) = ap (Pred p) (twice_map g h args)
twice_atom g h (Equal s t) = refl

pub twice_literals : (g h : Term → Term) (ls : List Literal) → literals_changed g (literals_changed h ls) ≡ literals_changed (λ t. g (h t)) ls
twice_literals g h [] = refl
twice_literals g h (l ∷ ls) =
    let here : literal_changed g (literal_changed h l) ≡ literal_changed (λ t. g (h t)) l
    = ap (λ a. record { positive = l.positive; atom = a }) (twice_atom g h l.atom) in
    ap (λ m. m ∷ literals_changed g (literals_changed h ls)) here ∙ ap (λ ms. literal_changed (λ t. g (h t)) l ∷ ms) (twice_literals g h ls)

pub renumbered_literals-back : (ls : List Literal) →
    literals_changed (substituted (unranked (order_of (clause_terms ls)))) (renumbered_literals ls) ≡ ls
renumbered_literals-back ls =
    let order : List ℕ = order_of (clause_terms ls) in
    twice_literals (substituted (unranked order)) (substituted (ranked order)) ls
    ∙ fixed_literals (λ t. substituted (unranked order) (substituted (ranked order) t)) ls
    (sym (twice_map (substituted (unranked order)) (substituted (ranked order)) (clause_terms ls)) ∙ renumbered-back (clause_terms ls))

-- truth depends on the literals alone
holds_as : (i : Interp) (c d : Clause) → c.literals ≡ d.literals → Holds i c → Holds i d
holds_as i c d same h = record { at_each = λ point p. ap (list_any (literal_true i point)) (sym same) ∙ h.at_each point p }

abbrev pub clause_of : List Literal → Clause
clause_of ls = record { literals = ls }

kept_holds : (i : Interp) (c : Clause) (kept : List Literal) → AreKept [] c.literals kept →
    (Holds i c → Holds i (clause_of kept)) × (Holds i (clause_of kept) → Holds i c)
kept_holds i c kept k = (
  (λ h. record { at_each = λ point p. sym (kept_same i point [] c.literals kept k) ∙ h.at_each point p }),
  (λ h. record { at_each = λ point p. kept_same i point [] c.literals kept k ∙ h.at_each point p }),
)

pub tidy_holds : (i : Interp) (c d : Clause) → IsInterp i → IsTidied c d → (Holds i c → Holds i d) × (Holds i d → Holds i c)
tidy_holds i c d ok t =
    let kept : List Literal = t.0 in
    let order : List ℕ = order_of (clause_terms kept) in (
      (λ h. holds_as i (instance (ranked order) (clause_of kept)) d (sym t.2)
          (instance_holds i (ranked order) (clause_of kept) ok ((kept_holds i c kept t.1).0 h))),
      (λ h. (kept_holds i c kept t.1).1
          (holds_as i (instance (unranked order) d) (clause_of kept)
          (ap (literals_changed (substituted (unranked order))) t.2 ∙ renumbered_literals-back kept)
          (instance_holds i (unranked order) d ok h))),
    )
