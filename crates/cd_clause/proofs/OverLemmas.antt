-- Literals over symbols: under substitutions, and their subterms and replacements.
use Rattle.std.proofs.Common.{◌≡◌, ℕ, zero, suc, true, List, [], ◌∷◌, Some, ap, sym, ◌∙◌, subst}
use Rattle.std.proofs.lemmas.List.{length-map, length-set}
use Rattle.cd_list.proofs.Lists.{all_get, all_set}
use Rattle.cd_term.specs.declared.Term.{Term}
use Rattle.cd_term.specs.Terms.{substituted}
use Rattle.cd_term.specs.Symbols.{Symbols, is_over, AreOver}
use Rattle.cd_term.proofs.OverLemmas.{instances_over, subterm_over, replaced_over}
use Rattle.cd_clause.specs.declared.Atom.{Atom}
use Rattle.cd_clause.specs.declared.Atom.TheVariants.{Truth, Pred, Equal}
use Rattle.cd_clause.specs.declared.Literal.{Literal}
use Rattle.cd_clause.specs.Clauses.{terms_of, atom_changed, literals_changed}
use Rattle.cd_clause.specs.Over.{AtomOver, LiteralsOver}
use Rattle.cd_clause.specs.Places.{HasSides, subterm_at, with_term, replaced_at}
use Rattle.cd_clause.proofs.PlaceLemmas.{stands_in, replaces_in}

module _ (y : Symbols) where
  pub atom_over : (g : ℕ → Term) → ((k : ℕ) → is_over y (g k) ≡ true) → (a : Atom) → AtomOver y a → AtomOver y (atom_changed (substituted g) a)
  atom_over g values Truth e = tt
  atom_over g values (Pred p args) e = (ap (λ n. y.is_predicate p n) (length-map args (substituted g)) ∙ e.0, instances_over y g values args e.1)
  atom_over g values (Equal s t) e = instances_over y g values (s ∷ t ∷ []) e

  pub literals_over : (g : ℕ → Term) → ((k : ℕ) → is_over y (g k) ≡ true) → (ls : List Literal) → LiteralsOver y ls → LiteralsOver y (literals_changed (substituted g) ls)
  literals_over g values [] e = tt
  literals_over g values (l ∷ ls) e = (atom_over g values l.atom e.0, literals_over g values ls e.1)

  pub terms_over : (a : Atom) → AtomOver y a → AreOver y (terms_of a)
  terms_over Truth e = tt
  terms_over (Pred p args) e = e.1
  terms_over (Equal s t) e = e

  pub place_over : (path : List ℕ) (a : Atom) (u : Term) → subterm_at path a ≡ Some u → AtomOver y a → is_over y u ≡ true
  place_over [] a u e all = absurd (cc)
  place_over (k ∷ path) a u e all =
      (let s = stands_in k path a u e in subterm_over y path s.term u s.rest (all_get (λ t. is_over y t ≡ true) (terms_of a) k s.term (terms_over a all) s.here))

  with_over : (k : ℕ) (u : Term) (a : Atom) → is_over y u ≡ true → AtomOver y a → AtomOver y (with_term k u a)
  with_over k u Truth e all = tt
  with_over k u (Pred p args) e all = (ap (λ n. y.is_predicate p n) (length-set args k u) ∙ all.0, all_set (λ t. is_over y t ≡ true) args k u all.1 e)
  with_over zero u (Equal s t) e all = (e, all.1)
  with_over (suc k) u (Equal s t) e all = (all.0, (e, tt))

  pub atom_replaced_over : (path : List ℕ) (new : Term) (a b : Atom) → replaced_at path new a ≡ Some b → is_over y new ≡ true → AtomOver y a → AtomOver y b
  atom_replaced_over [] new a b e some all = absurd (cc)
  atom_replaced_over (k ∷ path) new a b e some all =
      (let r = replaces_in k path new a b e in
      let inside = replaced_over y path new r.term r.changed r.rest some (all_get (λ t. is_over y t ≡ true) (terms_of a) k r.term (terms_over a all) r.here) in
      subst (AtomOver y) (sym r.result) (with_over k r.changed a inside all))

  pub sides_over : (s : ℕ) (a : Atom) (side other : Term) → HasSides s a side other → AtomOver y a → (is_over y side ≡ true) × (is_over y other ≡ true)
  sides_over zero a side other e all = (let b : AtomOver y (Equal side other) = subst (AtomOver y) e all in (b.0, b.1.0))
  sides_over (suc zero) a side other e all = (let b : AtomOver y (Equal other side) = subst (AtomOver y) e all in (b.1.0, b.0))
  sides_over (suc (suc n)) a side other e all = absurd e
