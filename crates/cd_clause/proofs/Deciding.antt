-- Atoms, literals and clauses are equal or not, and so what tidying and tautologies look for is there or isn't.
use Rattle.std.proofs.Common.{◌≡◌, inl, inr, true, false, List, [], ◌∷◌, map, refl, ap, ap₂}
use Rattle.cd_list.specs.Lists.{Among}
use Rattle.cd_list.specs.Decisions.{Decided}
use Rattle.cd_list.proofs.Decisions.{both, given, three, either, number, truth, at_most, among}
use Rattle.cd_term.specs.Terms.{greatest}
use Rattle.cd_term.proofs.Deciding.{terms_decide, all_terms_decide}
use Rattle.cd_clause.specs.declared.Atom.{Atom}
use Rattle.cd_clause.specs.declared.Atom.TheVariants.{Truth, Pred, Equal}
use Rattle.cd_clause.specs.declared.Literal.{Literal}
use Rattle.cd_clause.specs.declared.Clause.{Clause}
use Rattle.cd_clause.specs.Clauses.{clause_size, literal_depth, exchanged, IsSameLiteral, IsTrivialAtom, IsTrivial, IsSuperfluous, AreOpposite}
use Rattle.cd_clause.specs.Laws.{AtomsDecide, TautologiesDecide, BoundsDecide}

atom : (a b : Atom) → Decided (a ≡ b)
atom Truth Truth = inl refl
atom Truth (Pred q us) = inr (λ e. cc)
atom Truth (Equal u v) = inr (λ e. cc)
atom (Pred p ts) Truth = inr (λ e. cc)
atom (Pred p ts) (Pred q us) = given (λ x. ap₂ Pred x.0 x.1) (λ e. (cc, cc)) (both (number p q) (all_terms_decide ts us))
atom (Pred p ts) (Equal u v) = inr (λ e. cc)
atom (Equal s t) Truth = inr (λ e. cc)
atom (Equal s t) (Pred q us) = inr (λ e. cc)
atom (Equal s t) (Equal u v) = given (λ x. ap₂ Equal x.0 x.1) (λ e. (cc, cc)) (both (terms_decide s u) (terms_decide t v))

pub same_atoms_decide : AtomsDecide
same_atoms_decide a b = either (atom a b) (atom (exchanged a) b)

trivial : (a : Atom) → Decided (IsTrivialAtom a)
trivial Truth = inl tt
trivial (Pred p args) = inr (λ e. e)
trivial (Equal s t) = terms_decide s t

pub superfluous_decides : (earlier : List Literal) (l : Literal) → Decided (IsSuperfluous earlier l)
superfluous_decides earlier l = either (both (truth l.positive false) (trivial l.atom))
    (among (IsSameLiteral l) (λ m. both (truth l.positive m.positive) (same_atoms_decide l.atom m.atom)) earlier)

pub tautologies_decide : TautologiesDecide
tautologies_decide c = either (among IsTrivial (λ l. both (truth l.positive true) (trivial l.atom)) c.literals)
    (among (λ l. Among (AreOpposite l) c.literals)
    (λ l. among (AreOpposite l) (λ m. three (truth l.positive true) (truth m.positive false) (same_atoms_decide l.atom m.atom)) c.literals) c.literals)

pub bounds_decide : BoundsDecide
bounds_decide c = both (at_most (clause_size c) 65535) (at_most (greatest (map literal_depth c.literals)) 1000)

literal : (l m : Literal) → Decided (l ≡ m)
literal l m = given (λ e i. record { positive = e.0 i; atom = e.1 i }) (λ e. (ap (λ (k : Literal). k.positive) e, ap (λ (k : Literal). k.atom) e))
    (both (truth l.positive m.positive) (atom l.atom m.atom))

literals : (ls ms : List Literal) → Decided (ls ≡ ms)
literals [] [] = inl refl
literals [] (m ∷ ms) = inr (λ e. cc)
literals (l ∷ ls) [] = inr (λ e. cc)
literals (l ∷ ls) (m ∷ ms) =
    given (λ e. ap₂ (λ (k : Literal) (ks : List Literal). k ∷ ks) e.0 e.1) (λ e. (let a : l ≡ m = cc in let b : ls ≡ ms = cc in (a, b))) (both (literal l m) (literals ls ms))

pub clauses_decide : (c d : Clause) → Decided (c ≡ d)
clauses_decide c d = given (λ e i. record { literals = e i }) (ap (λ (b : Clause). b.literals)) (literals c.literals d.literals)
