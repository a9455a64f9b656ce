-- The law of the second pass: a clause has one meaning at most.
use Rattle.std.proofs.Common.{◌≡◌, ◌≢◌, ◌⊎◌, inl, inr, ◌∙◌, ◌++◌, ◌∷◌, [], ℕ, zero, suc, List, Some, length, slice_get, refl, sym, ap, subst}
use Rattle.cd_term.specs.declared.Term.{Term}
use Rattle.cd_term.specs.declared.Term.TheVariants as term
use Rattle.cd_clause.specs.declared.Atom.{Atom}
use Rattle.cd_clause.specs.declared.Atom.TheVariants as atom
use Rattle.cd_clause.specs.declared.Literal.{Literal}
use Rattle.cd_clause.specs.declared.Clause.{Clause}
use Rattle.cd_symbols.specs.Symbol.{Symbol, symbol_of, AreDistinct, Interns}
use Rattle.cd_symbols.specs.declared.Kind.TheVariants.{Function, Predicate}
use Rattle.cd_parse.specs.declared.tree.Tree.{Tree, out-Tree}
use Rattle.cd_parse.specs.declared.tree.Tree.TheVariants.{Var, App, outs-Var, outs-App}
use Rattle.cd_parse.specs.declared.tree.Tree.TheOpen as layer
use Rattle.cd_parse.specs.declared.tree.TreeAtom.{TreeAtom}
use Rattle.cd_parse.specs.declared.tree.TreeAtom.TheVariants as written
use Rattle.cd_parse.specs.declared.tree.TreeLiteral.{TreeLiteral}
use Rattle.cd_read.specs.Meaning.{Variables, IsNumbered, GivesTerms, GivesAtom, GivesLiterals, GivesClause, none, variable, applied}

-- ---- trees

Var-injective : (x y : List ℕ) → Var x ≡ Var y → x ≡ y
Var-injective x y e = let layers : layer.Var x ≡ layer.Var y = sym (outs-Var x) ∙ ap out-Tree e ∙ outs-Var y in cc

pub App-injective : (v w : List ℕ) (ts us : List Tree) → App v ts ≡ App w us → (v ≡ w) × (ts ≡ us)
App-injective v w ts us e =
    let layers : layer.App v ts ≡ layer.App w us = sym (outs-App v ts) ∙ ap out-Tree e ∙ outs-App w us in (cc, cc)

pub apart : (x w : List ℕ) (ts : List Tree) → Var x ≡ App w ts → ⊥
apart x w ts e = let layers : layer.Var x ≡ layer.App w ts = sym (outs-Var x) ∙ ap out-Tree e ∙ outs-App w ts in cc

-- ---- lists in which an item has one place

abbrev pub Places : {A : Type 0} → List A → Type 0
Places {A} xs = (m n : ℕ) (a : A) → slice_get xs m ≡ Some a → slice_get xs n ≡ Some a → m ≡ n

-- an item has the number n afterwards
abbrev pub Numbers : {A : Type 0} → List A → List A → A → ℕ → Type 0
Numbers old new a n =
    ((slice_get old n ≡ Some a) × (new ≡ old)) ⊎ (((k : ℕ) → slice_get old k ≢ Some a) × (n ≡ length old) × (new ≡ old ++ a ∷ []))

at_cases : {A : Type 0} (xs : List A) (a x : A) (m : ℕ) → slice_get (xs ++ a ∷ []) m ≡ Some x
    → (slice_get xs m ≡ Some x) ⊎ ((m ≡ length xs) × (a ≡ x))
at_cases [] a x zero e = inr (refl, cc)
at_cases [] a x (suc m) e = absurd (cc)
at_cases (y ∷ ys) a x zero e = inl e
at_cases (y ∷ ys) a x (suc m) e = elim (at_cases ys a x m e) [
  | inl old ↦ inl old
  | inr new ↦ inr (ap suc new.0, new.1)
]

places_more : {A : Type 0} (xs : List A) (a : A) → Places xs → ((k : ℕ) → slice_get xs k ≢ Some a) → Places (xs ++ a ∷ [])
places_more xs a one lacks m n x p q = by (at_cases xs a x m p) (at_cases xs a x n q)
  where
    by : (slice_get xs m ≡ Some x) ⊎ ((m ≡ length xs) × (a ≡ x)) → (slice_get xs n ≡ Some x) ⊎ ((n ≡ length xs) × (a ≡ x)) → m ≡ n
    by (inl old) (inl also) = one m n x old also
    by (inl old) (inr new) = absurd (lacks m (old ∙ ap Some (sym new.1)))
    by (inr new) (inl old) = absurd (lacks n (old ∙ ap Some (sym new.1)))
    by (inr new) (inr also) = new.0 ∙ sym also.0

numbers_single : {A : Type 0} (old new new' : List A) (a : A) (n n' : ℕ) → Places old → Numbers old new a n → Numbers old new' a n'
    → (n ≡ n') × (new ≡ new')
numbers_single old new new' a n n' one (inl p) (inl q) = (one n n' a p.0 q.0, p.1 ∙ sym q.1)
numbers_single old new new' a n n' one (inl p) (inr q) = absurd (q.0 n p.0)
numbers_single old new new' a n n' one (inr p) (inl q) = absurd (p.0 n' q.0)
numbers_single old new new' a n n' one (inr p) (inr q) = (p.1 ∙ sym q.1, p.2 ∙ sym q.2)

numbers_places : {A : Type 0} (old new : List A) (a : A) (n : ℕ) → Places old → Numbers old new a n → Places new
numbers_places old new a n one (inl p) = subst (λ xs. Places xs) (sym p.1) one
numbers_places old new a n one (inr p) = subst (λ xs. Places xs) (sym p.2) (places_more old a one p.0)

-- ---- terms

pub record Same (us us' : List Term) (ss ss' : List Symbol) (vs vs' : Variables) : Type 0 where
  pub terms : us ≡ us'
  pub symbols : ss ≡ ss'
  pub names : vs ≡ vs'
  pub places : Places ss
  pub name_places : Places vs

pub single : (ss ss' : List Symbol) (vs vs' : Variables) (ts : List Tree) (us : List Term) → GivesTerms ss vs ts us ss' vs' → Places ss
    → Places vs →
    (qs qs' : List Symbol) (ws ws' : Variables) (xs : List Tree) (ys : List Term) → GivesTerms qs ws xs ys qs' ws' → qs ≡ ss → ws ≡ vs → xs ≡ ts → Same us ys ss' qs' vs' ws'
single _ _ _ _ _ _ (none ss vs) one names _ _ _ _ _ _ (none qs ws) e f g =
    record { terms = refl; symbols = sym e; names = sym f; places = one; name_places = names }
single _ _ _ _ _ _ (none ss vs) one names _ _ _ _ _ _ (variable qs qs' ws between ws' x n rest terms is h) e f g = absurd (cc)
single _ _ _ _ _ _ (none ss vs) one names _ _ _ _ _ _ (applied qs inner behind qs' ws between ws' w n args rest inside terms is deep h) e f g =
    absurd (cc)
single _ _ _ _ _ _ (variable ss ss' vs mid vs' y k others outs at d) one names _ _ _ _ _ _ (none qs ws) e f g = absurd (cc)
single _ _ _ _ _ _ (applied ss deeper later ss' vs mid vs' v k items others news outs at below d) one names _ _ _ _ _ _ (none qs ws) e f g =
    absurd (cc)
single _ _ _ _ _ _ (variable ss ss' vs mid vs' y k others outs at d) one names _ _ _ _ _ _
    (applied qs inner behind qs' ws between ws' w n args rest inside terms is deep h) e f g =
    let heads : App w args ≡ Var y = cc in absurd (apart y w args (sym heads))
single _ _ _ _ _ _ (applied ss deeper later ss' vs mid vs' v k items others news outs at below d) one names _ _ _ _ _ _
    (variable qs qs' ws between ws' x n rest terms is h) e f g =
    let heads : Var x ≡ App v items = cc in absurd (apart x v items heads)
single _ _ _ _ _ _ (variable ss ss' vs mid vs' y k others outs at d) one names _ _ _ _ _ _
    (variable qs qs' ws between ws' x n rest terms is h) e f g =
    let heads : Var x ≡ Var y = cc in
    let tails : rest ≡ others = cc in
    let is' : IsNumbered vs between y n = subst (λ (z : List ℕ). IsNumbered vs between z n) (Var-injective x y heads) (subst (λ (z : Variables). IsNumbered z between x n) f is) in
    let number = numbers_single vs mid between y k n names at is' in
    let below = single ss ss' mid vs' others outs d one (numbers_places vs mid y k names at) qs qs' between ws' rest terms h e (sym number.1) tails in
    record {
      terms = λ i. term.Var (number.0 i) ∷ below.terms i;
      symbols = below.symbols;
      names = below.names;
      places = below.places;
      name_places = below.name_places;
    }
single _ _ _ _ _ _ (applied ss deeper later ss' vs mid vs' v k items others news outs at below d) one names _ _ _ _ _ _
    (applied qs inner behind qs' ws between ws' w n args rest inside terms is deep h) e f g =
    let heads : App w args ≡ App v items = cc in
    let tails : rest ≡ others = cc in
    let parts = App-injective w v args items heads in
    let named : symbol_of w (length args) Function ≡ symbol_of v (length items) Function = λ i. symbol_of (parts.0 i) (length (parts.1 i)) Function in
    let is' : Interns ss inner (symbol_of v (length items) Function) n =
    subst (λ (z : Symbol). Interns ss inner z n) named
    (subst (λ (z : List Symbol). Interns z inner (symbol_of w (length args) Function) n) e is) in
    let number = numbers_single ss deeper inner (symbol_of v (length items) Function) k n one at is' in
    let arguments = single deeper later vs mid items news below (numbers_places ss deeper (symbol_of v (length items) Function) k one at) names
    inner behind ws between args inside deep (sym number.1) f parts.1 in
    let behind_them = single later ss' mid vs' others outs d arguments.places arguments.name_places behind qs' between ws' rest terms h (sym arguments.symbols) (sym arguments.names) tails in
    record {
      terms = λ i. term.App (number.0 i) (arguments.terms i) ∷ behind_them.terms i;
      symbols = behind_them.symbols;
      names = behind_them.names;
      places = behind_them.places;
      name_places = behind_them.name_places;
    }

-- ---- atoms, literals and clauses

pub record SameAtom (a b : Atom) (ss ss' : List Symbol) (vs vs' : Variables) : Type 0 where
  pub atoms : a ≡ b
  pub symbols : ss ≡ ss'
  pub names : vs ≡ vs'
  pub places : Places ss
  pub name_places : Places vs

atom_single : (t : TreeAtom) (ss ss' ss'' : List Symbol) (vs vs' vs'' : Variables) (a b : Atom) → Places ss → Places vs
    → GivesAtom ss vs t a ss' vs' → GivesAtom ss vs t b ss'' vs'' → SameAtom a b ss' ss'' vs' vs''
atom_single written.Truth ss ss' ss'' vs vs' vs'' a b one names (e, f, g) (e', f', g') = record {
  atoms = e ∙ sym e';
  symbols = f ∙ sym f';
  names = g ∙ sym g';
  places = subst (λ (x : List Symbol). Places x) (sym f) one;
  name_places = subst (λ (x : Variables). Places x) (sym g) names;
}
atom_single (written.Pred w args) ss ss' ss'' vs vs' vs'' a b one names (n, mid, us, is, g, e) (m, also, us', is', g', e') =
    let number = numbers_single ss mid also (symbol_of w (length args) Predicate) n m one is is' in
    let r = single mid ss' vs vs' args us g (numbers_places ss mid (symbol_of w (length args) Predicate) n one is) names also ss'' vs vs'' args us' g' (sym number.1) refl refl in
    record { atoms = e ∙ (λ i. atom.Pred (number.0 i) (r.terms i)) ∙ sym e'; symbols = r.symbols; names = r.names; places = r.places; name_places = r.name_places }
atom_single (written.Equal l r) ss ss' ss'' vs vs' vs'' a b one names (s, t, g, e) (s', t', g', e') =
    let q = single ss ss' vs vs' (l ∷ r ∷ []) (s ∷ t ∷ []) g one names ss ss'' vs vs'' (l ∷ r ∷ []) (s' ∷ t' ∷ []) g' refl refl refl in
    let both = q.terms in
    let left : s ≡ s' = cc in
    let right : t ≡ t' = cc in
    record { atoms = e ∙ (λ i. atom.Equal (left i) (right i)) ∙ sym e'; symbols = q.symbols; names = q.names; places = q.places; name_places = q.name_places }

literals_single : (ls : List TreeLiteral) (ss ss' ss'' : List Symbol) (vs vs' vs'' : Variables) (here those : List Literal) → Places ss
    → Places vs →
    GivesLiterals ss vs ls here ss' vs' → GivesLiterals ss vs ls those ss'' vs'' → (here ≡ those) × (ss' ≡ ss'') × Places ss'
literals_single [] ss ss' ss'' vs vs' vs'' here those one names (e, f, g) (e', f', g') =
    (e ∙ sym e', f ∙ sym f', subst (λ (x : List Symbol). Places x) (sym f) one)
literals_single (l ∷ ls) ss ss' ss'' vs vs' vs'' here those one names (a, mid, known, others, ga, gl, e)
    (b, also, known', others', gb, gm, e') =
    let first = atom_single l.atom ss mid also vs known known' a b one names ga gb in
    let gm' : GivesLiterals mid known ls others' ss'' vs'' =
    subst (λ (x : Variables). GivesLiterals mid x ls others' ss'' vs'') (sym first.names)
    (subst (λ (x : List Symbol). GivesLiterals x known' ls others' ss'' vs'') (sym first.symbols) gm) in
    let rest = literals_single ls mid ss' ss'' known vs' vs'' others others' first.places first.name_places gl gm' in
    (e ∙ (λ i. record { positive = l.positive; atom = first.atoms i } ∷ rest.0 i) ∙ sym e', rest.1, rest.2)

-- a clause has one meaning at most, over a table without repetition
pub clause_single : (ss ss' ss'' : List Symbol) (ls : List TreeLiteral) (c d : Clause) → AreDistinct ss → GivesClause ss ls c ss'
    → GivesClause ss ls d ss'' → (c ≡ d) × (ss' ≡ ss'')
clause_single ss ss' ss'' ls c d distinct (names, g) (others, h) =
    let r = literals_single ls ss ss' ss'' [] names others c.literals d.literals distinct (λ m n a p q. absurd (cc)) g h in
    (λ i. record { literals = r.0 i }, r.1)

-- and leaves the table without repetition
pub clause_distinct : (ss ss' : List Symbol) (ls : List TreeLiteral) (c : Clause) → AreDistinct ss → GivesClause ss ls c ss'
    → AreDistinct ss'
clause_distinct ss ss' ls c distinct (names, g) =
    (literals_single ls ss ss' ss' [] names names c.literals c.literals distinct (λ m n a p q. absurd (cc)) g g).2
