-- Literals bound to others.
use Rattle.std.proofs.Common.{◌≡◌, ℕ, ◌≤◌, Bool, true, false, not, List, map, ap, subst, sym, refl, ◌∙◌, arith, Option}
use Rattle.std.proofs.Math.Bool.{beq}
use Rattle.cd_term.specs.declared.Term.{Term}
use Rattle.cd_term.specs.Terms.{substituted, bound_of, greatest}
use Rattle.cd_clause.specs.declared.Atom.{Atom}
use Rattle.cd_clause.specs.declared.Atom.TheVariants.{Pred, Equal}
use Rattle.cd_clause.specs.declared.Literal.{Literal}
use Rattle.cd_clause.specs.Clauses.{terms_of, atom_changed}
use Rattle.cd_unify.specs.Bindings.{Binds, TermBinds, ListBinds}
use Rattle.cd_subsume.specs.Literals.{PairBinds, AtomBinds, LiteralBinds}

pub pair_stuck : (old new : List (Option Term)) (s t u v : Term) (r : Bool) → Binds (TermBinds s u) old new r → r ≡ false →
    Binds (PairBinds s t u v) old new false
pair_stuck old new s t u v r first out g = (
  λ p. let was : r ≡ true = ((first g).0 (p.0, p.1.0)).0 in let both : true ≡ false = sym was ∙ out in absurd (cc),
  λ q. absurd (let both : false ≡ true = q.0 in (cc)),
)

pub pair_bound : (old mid new : List (Option Term)) (s t u v : Term) (r answer : Bool) → Binds (TermBinds s u) old mid r → r ≡ true →
    Binds (TermBinds t v) mid new answer → Binds (PairBinds s t u v) old new answer
pair_bound old mid new s t u v r answer first ok second g = (
  λ p. (second g).0 (((first g).0 (p.0, p.1.0)).1, p.1.1),
  λ q. let back = (second g).1 q in let front = (first g).1 (ok, back.0) in (front.0, (front.1, back.1)),
)

-- one condition in place of another one
pub binds_as : (P Q : (ℕ → Term) → Type 0) (old new : List (Option Term)) (r : Bool) → ((g : ℕ → Term) → P g → Q g) → ((g : ℕ → Term) → Q g → P g) →
    Binds P old new r → Binds Q old new r
binds_as P Q old new r there back binds g = (
  λ p. (binds g).0 (p.0, back g p.1),
  λ q. let old_ones = (binds g).1 q in (old_ones.0, there g old_ones.1),
)

-- nothing passes
pub binds_none : (P : (ℕ → Term) → Type 0) (old new : List (Option Term)) → ((g : ℕ → Term) → P g → ⊥) → Binds P old new false
binds_none P old new none g = (λ p. absurd (none g p.1), λ q. absurd (let both : false ≡ true = q.0 in (cc)))

pred_parts : (p q : ℕ) (ts us : List Term) → Pred p ts ≡ Pred q us → (p ≡ q) × (ts ≡ us)
pred_parts p q ts us e = (cc, cc)

equal_parts : (s t u v : Term) → Equal s t ≡ Equal u v → (s ≡ u) × (t ≡ v)
equal_parts s t u v e = (cc, cc)

pub predicate_bound : (old new : List (Option Term)) (a b : Atom) (p q : ℕ) (ts us xs ys : List Term) (e r : Bool) → a ≡ Pred p ts → b ≡ Pred q us → p ≡ q →
    xs ≡ ts → ys ≡ us → e ≡ false → Binds (ListBinds xs ys) old new r → Binds (AtomBinds e a b) old new r
predicate_bound old new a b p q ts us xs ys e r ia ib same xt yu straight =
    subst (λ (c : Bool). Binds (ListBinds xs ys) old new r → Binds (AtomBinds c a b) old new r) (sym straight)
    (binds_as (ListBinds xs ys) (AtomBinds false a b) old new r
    (λ g h. ap (atom_changed (substituted g)) ia ∙ ap (λ n. Pred n (map (substituted g) ts)) same
    ∙ ap (Pred q) (sym (ap (map (substituted g)) xt) ∙ h ∙ yu) ∙ sym ib)
    (λ g h. ap (map (substituted g)) xt
    ∙ (pred_parts p q (map (substituted g) ts) us (sym (ap (atom_changed (substituted g)) ia) ∙ h ∙ ib)).1 ∙ sym yu))

pub straight_bound : (old new : List (Option Term)) (a b : Atom) (s t u v : Term) (e r : Bool) → a ≡ Equal s t → b ≡ Equal u v → e ≡ false →
    Binds (PairBinds s t u v) old new r → Binds (AtomBinds e a b) old new r
straight_bound old new a b s t u v e r ia ib straight =
    subst (λ (c : Bool). Binds (PairBinds s t u v) old new r → Binds (AtomBinds c a b) old new r) (sym straight)
    (binds_as (PairBinds s t u v) (AtomBinds false a b) old new r
    (λ g h. let first = h.0 in let second = h.1 in ap (atom_changed (substituted g)) ia ∙ ap (λ x. Equal x (substituted g t)) first ∙ ap (Equal u) second ∙ sym ib)
    (λ g h. equal_parts (substituted g s) (substituted g t) u v (sym (ap (atom_changed (substituted g)) ia) ∙ h ∙ ib)))

pub turned_bound : (old new : List (Option Term)) (a b : Atom) (s t u v : Term) (e r : Bool) → a ≡ Equal s t → b ≡ Equal u v → e ≡ true →
    Binds (PairBinds t s u v) old new r → Binds (AtomBinds e a b) old new r
turned_bound old new a b s t u v e r ia ib turned =
    subst (λ (c : Bool). Binds (PairBinds t s u v) old new r → Binds (AtomBinds c a b) old new r) (sym turned)
    (subst (λ (x : Atom). Binds (PairBinds t s u v) old new r → Binds (AtomBinds true x b) old new r) (sym ia)
    (binds_as (PairBinds t s u v) (AtomBinds true (Equal s t) b) old new r
    (λ g h. let first = h.0 in let second = h.1 in ap (λ x. Equal x (substituted g s)) first ∙ ap (Equal u) second ∙ sym ib)
    (λ g h. equal_parts (substituted g t) (substituted g s) u v (h ∙ ib))))

-- the bounds of the sides
pub side_bounds : (a : Atom) (s t : Term) (n : ℕ) → a ≡ Equal s t → greatest (map bound_of (terms_of a)) ≤ n → (bound_of s ≤ n) × (bound_of t ≤ n)
side_bounds a s t n is le = (omega (arith, le, ap (λ b. greatest (map bound_of (terms_of b))) is), omega (arith, le, ap (λ b. greatest (map bound_of (terms_of b))) is))

pub argument_bounds : (a : Atom) (p : ℕ) (ts xs : List Term) (n : ℕ) → a ≡ Pred p ts → xs ≡ ts → greatest (map bound_of (terms_of a)) ≤ n → greatest (map bound_of xs) ≤ n
argument_bounds a p ts xs n is same le = omega (arith, le, ap (λ b. greatest (map bound_of (terms_of b))) is, ap (λ ys. greatest (map bound_of ys)) same)

-- literals
pub signs_differ : (old : List (Option Term)) (e : Bool) (l m : Literal) → (l.positive ≡ m.positive → ⊥) → Binds (LiteralBinds e l m) old old false
signs_differ old e l m differ = binds_none (LiteralBinds e l m) old old (λ g h. differ h.0)

pub literal_bound : (old new : List (Option Term)) (e r : Bool) (l m : Literal) → l.positive ≡ m.positive → Binds (AtomBinds e l.atom m.atom) old new r →
    Binds (LiteralBinds e l m) old new r
literal_bound old new e r l m same =
    binds_as (AtomBinds e l.atom m.atom) (LiteralBinds e l m) old new r (λ g h. (same, h)) (λ g h. h.1)

pub literal_stuck : (old mid new : List (Option Term)) (e r : Bool) (l m : Literal) → r ≡ false → Binds (AtomBinds e l.atom m.atom) old mid r →
    Binds (LiteralBinds e l m) old new false
literal_stuck old mid new e r l m out binds g = (
  λ p. let was : r ≡ true = ((binds g).0 (p.0, p.1.1)).0 in let both : true ≡ false = sym was ∙ out in absurd (cc),
  λ q. absurd (let both : false ≡ true = q.0 in (cc)),
)

pub literal_ok : (old new : List (Option Term)) (e r : Bool) (l m : Literal) → r ≡ true → l.positive ≡ m.positive → Binds (AtomBinds e l.atom m.atom) old new r →
    Binds (LiteralBinds e l m) old new true
literal_ok old new e r l m ok same binds = subst (Binds (LiteralBinds e l m) old new) ok (literal_bound old new e r l m same binds)

pub signs_same : (a b : Bool) → not (beq a b) ≡ false → a ≡ b
signs_same true true e = refl
signs_same false false e = refl
signs_same true false e = absurd (cc)
signs_same false true e = absurd (cc)

-- what a literal that becomes another one says of their terms
pub arguments_become : (l m : Literal) (p q : ℕ) (ts us xs ys : List Term) (e : Bool) (g : ℕ → Term) → l.atom ≡ Pred p ts → m.atom ≡ Pred q us →
    xs ≡ ts → ys ≡ us → e ≡ false → LiteralBinds e l m g → map (substituted g) xs ≡ ys
arguments_become l m p q ts us xs ys e g ia ib xt yu straight h =
    let here : AtomBinds false l.atom m.atom g = subst (λ (c : Bool). AtomBinds c l.atom m.atom g) straight h.1 in
    ap (map (substituted g)) xt
    ∙ (pred_parts p q (map (substituted g) ts) us (sym (ap (atom_changed (substituted g)) ia) ∙ here ∙ ib)).1 ∙ sym yu

pub sides_become : (l m : Literal) (s t u v : Term) (e : Bool) (g : ℕ → Term) → l.atom ≡ Equal s t → m.atom ≡ Equal u v → e ≡ false →
    LiteralBinds e l m g → PairBinds s t u v g
sides_become l m s t u v e g ia ib straight h =
    let here : AtomBinds false l.atom m.atom g = subst (λ (c : Bool). AtomBinds c l.atom m.atom g) straight h.1 in
    equal_parts (substituted g s) (substituted g t) u v (sym (ap (atom_changed (substituted g)) ia) ∙ here ∙ ib)

pub sides_turn : (l m : Literal) (s t u v : Term) (e : Bool) (g : ℕ → Term) → l.atom ≡ Equal s t → m.atom ≡ Equal u v → e ≡ true →
    LiteralBinds e l m g → PairBinds t s u v g
sides_turn l m s t u v e g ia ib turned h =
    let here : AtomBinds true (Equal s t) m.atom g
    = subst (λ (x : Atom). AtomBinds true x m.atom g) ia (subst (λ (c : Bool). AtomBinds c l.atom m.atom g) turned h.1) in
    equal_parts (substituted g t) (substituted g s) u v (here ∙ ib)
