-- Tidy forms exist, are tidy, and are no larger than their clause and over the same symbols.
use Rattle.std.proofs.Common.{◌≡◌, ◌⊎◌, inl, inr, ℕ, ◌+◌, ◌≤◌, Option, None, Some, List, [], ◌∷◌, ◌++◌, map, sum_by, refl, ap, sym, ◌∙◌, subst, arith}
use Rattle.std.specs.List.{flat_map}
use Rattle.std.proofs.lemmas.List.{map-id}
use Rattle.std.proofs.lemmas.List.Sums.{sum_by-cons}
use Rattle.cd_list.specs.Lists.{Among}
use Rattle.cd_list.proofs.Decisions.{given}
use Rattle.cd_list.proofs.Among.{among_append}
use Rattle.cd_term.specs.declared.Term.{Term}
use Rattle.cd_term.specs.Terms.{greatest, size_of, depth_of, bound_of, variables_of, substituted, order_of, rank, ranked, unranked, renumbered, renamed_by, firsts_after, IsNumberedFrom}
use Rattle.cd_term.specs.Symbols.{Symbols}
use Rattle.cd_term.proofs.SizeLaws.{renamed_sizes}
use Rattle.cd_term.proofs.VariableLaws.{renumbered-numbered}
use Rattle.cd_term.proofs.NumberingLemmas.{renamed_back}
use Rattle.cd_term.proofs.Substitutions.{substituted-identity}
use Rattle.cd_term.proofs.OverLemmas.{over-Var}
use Rattle.cd_clause.specs.declared.Atom.{Atom}
use Rattle.cd_clause.specs.declared.Atom.TheVariants.{Truth, Pred, Equal}
use Rattle.cd_clause.specs.declared.Literal.{Literal}
use Rattle.cd_clause.specs.Clauses.{terms_of, clause_terms, literal_size, literal_depth, atom_depth, atom_changed, literal_changed, literals_changed, renumbered_literals, exchanged, IsSameAtom, IsSameLiteral, IsTrivialAtom, IsSuperfluous, AreKept, IsTidied, AreLiteralsMeasured}
use Rattle.cd_clause.specs.Over.{LiteralsOver}
use Rattle.cd_clause.specs.TidyLaws.{TidyFormsExist, TidyFormsDecide, TidyFormsAreTidy, TidyFormsAreSmall, TidyFormsAreOver}
use Rattle.cd_clause.proofs.TidiedLemmas.{changed_terms, tidy_forms_agree}
use Rattle.cd_clause.proofs.TidyLemmas.{fixed_literals, renumbered_literals-back}
use Rattle.cd_clause.proofs.OverLemmas.{literals_over}
use Rattle.cd_clause.proofs.Deciding.{superfluous_decides, clauses_decide}

-- ---- a tidy form is there

some_kept : (earlier ls : List Literal) → (kept : List Literal) × AreKept earlier ls kept
some_kept earlier [] = ([], refl)
some_kept earlier (l ∷ ls) = (let rest = some_kept (earlier ++ l ∷ []) ls in elim (superfluous_decides earlier l) [
  | inl out ↦ (rest.0, inl (out, rest.1))
  | inr new ↦ (l ∷ rest.0, inr (new, (rest.0, refl, rest.1)))
])

pub tidy_forms_exist : TidyFormsExist
tidy_forms_exist c = (let k = some_kept [] c.literals in (record { literals = renumbered_literals k.0 }, (k.0, k.1, refl)))

pub tidy_forms_decide : TidyFormsDecide
tidy_forms_decide c d =
    let there = tidy_forms_exist c in
    given (λ same. subst (IsTidied c) (sym same) there.1) (λ tidied. tidy_forms_agree c d there.0 tidied there.1) (clauses_decide d there.0)

-- ---- what is kept isn't superfluous, and stays so under a renaming that can be taken back

AreLean : List Literal → List Literal → Type 0
AreLean earlier [] = Unit {0}
AreLean earlier (l ∷ ls) = (IsSuperfluous earlier l → ⊥) × AreLean (earlier ++ l ∷ []) ls

among_left : {A : Type 0} (P : A → Type 0) (xs ys : List A) → Among P xs → Among P (xs ++ ys)
among_left P [] ys a = absurd a
among_left P (x ∷ xs) ys (inl p) = inl p
among_left P (x ∷ xs) ys (inr a) = inr (among_left P xs ys a)

among_right : {A : Type 0} (P : A → Type 0) (xs ys : List A) → Among P ys → Among P (xs ++ ys)
among_right P [] ys a = a
among_right P (x ∷ xs) ys a = inr (among_right P xs ys a)

-- each literal that is the same as one of the first list is the same as one of the second
Covers : List Literal → List Literal → Type 0
Covers front earlier = (l : Literal) → Among (IsSameLiteral l) front → Among (IsSameLiteral l) earlier

superfluous_more : (front earlier : List Literal) (l : Literal) → Covers front earlier → IsSuperfluous front l → IsSuperfluous earlier l
unfolding Covers
superfluous_more front earlier l more (inl a) = inl a
superfluous_more front earlier l more (inr a) = inr (more l a)

covers_skip : (front earlier : List Literal) (l : Literal) → Covers front earlier → Covers front (earlier ++ l ∷ [])
unfolding Covers
covers_skip front earlier l more m a = among_left (IsSameLiteral m) earlier (l ∷ []) (more m a)

covers_both : (front earlier : List Literal) (l : Literal) → Covers front earlier → Covers (front ++ l ∷ []) (earlier ++ l ∷ [])
unfolding Covers
covers_both front earlier l more m a = go (among_append (IsSameLiteral m) front (l ∷ []) a)
  where
    go : Among (IsSameLiteral m) front ⊎ Among (IsSameLiteral m) (l ∷ []) → Among (IsSameLiteral m) (earlier ++ l ∷ [])
    go (inl b) = among_left (IsSameLiteral m) earlier (l ∷ []) (more m b)
    go (inr b) = among_right (IsSameLiteral m) earlier (l ∷ []) b

kept_lean : (front earlier ls kept : List Literal) → Covers front earlier → AreKept earlier ls kept → AreLean front kept
unfolding AreLean
kept_lean front earlier [] kept more k = subst (AreLean front) (sym k) tt
kept_lean front earlier (l ∷ ls) kept more (inl k) = kept_lean front (earlier ++ l ∷ []) ls kept (covers_skip front earlier l more) k.1
kept_lean front earlier (l ∷ ls) kept more (inr k) =
    let rest = k.1.0 in
    let here : AreLean front (l ∷ rest) = ((λ sup. k.0 (superfluous_more front earlier l more sup)), kept_lean (front ++ l ∷ []) (earlier ++ l ∷ []) ls rest (covers_both front earlier l more) k.1.2) in
    subst (AreLean front) (sym k.1.1) here

lean_kept : (front ls : List Literal) → AreLean front ls → AreKept front ls ls
unfolding AreLean
lean_kept front [] lean = refl
lean_kept front (l ∷ ls) lean = inr (lean.0, (ls, refl, lean_kept (front ++ l ∷ []) ls lean.1))

trivial_changed : (h : Term → Term) (a : Atom) → IsTrivialAtom a → IsTrivialAtom (atom_changed h a)
trivial_changed h Truth e = tt
trivial_changed h (Pred p args) e = absurd e
trivial_changed h (Equal s t) e = ap h e

exchanged_changed : (h : Term → Term) (a : Atom) → exchanged (atom_changed h a) ≡ atom_changed h (exchanged a)
exchanged_changed h Truth = refl
exchanged_changed h (Pred p args) = refl
exchanged_changed h (Equal s t) = refl

same_changed : (h : Term → Term) (a b : Atom) → IsSameAtom a b → IsSameAtom (atom_changed h a) (atom_changed h b)
same_changed h a b (inl e) = inl (ap (atom_changed h) e)
same_changed h a b (inr e) = inr (exchanged_changed h a ∙ ap (atom_changed h) e)

among_changed : (h : Term → Term) (l : Literal) (ms : List Literal) → Among (IsSameLiteral l) ms → Among (IsSameLiteral (literal_changed h l)) (literals_changed h ms)
among_changed h l [] a = absurd a
among_changed h l (m ∷ ms) (inl s) = inl (s.0, same_changed h l.atom m.atom s.1)
among_changed h l (m ∷ ms) (inr a) = inr (among_changed h l ms a)

superfluous_changed : (h : Term → Term) (earlier : List Literal) (l : Literal) → IsSuperfluous earlier l → IsSuperfluous (literals_changed h earlier) (literal_changed h l)
superfluous_changed h earlier l (inl a) = inl (a.0, trivial_changed h l.atom a.1)
superfluous_changed h earlier l (inr a) = inr (among_changed h l earlier a)

changed_append : (h : Term → Term) (ls : List Literal) (l : Literal) → literals_changed h (ls ++ l ∷ []) ≡ literals_changed h ls ++ literal_changed h l ∷ []
changed_append h [] l = refl
changed_append h (m ∷ ls) l = ap (λ xs. literal_changed h m ∷ xs) (changed_append h ls l)

lean_back : (h : Term → Term) (front ms : List Literal) → AreLean (literals_changed h front) (literals_changed h ms) → AreLean front ms
unfolding AreLean
lean_back h front [] lean = tt
lean_back h front (m ∷ ms) lean = (
  (λ sup. lean.0 (superfluous_changed h front m sup)),
  lean_back h (front ++ m ∷ []) ms (subst (λ xs. AreLean xs (literals_changed h ms)) (sym (changed_append h front m)) lean.1),
)

none_covered : Covers [] []
unfolding Covers
none_covered l a = a

-- ---- numbered variables are renumbered to themselves

-- what a renaming to themselves makes of variables
renumbered_again : (us : List Term) → IsNumberedFrom 0 (flat_map variables_of us) → map (substituted (ranked (order_of us))) us ≡ us
renumbered_again us numbered =
    let vs : List ℕ = flat_map variables_of us in
    let same : map (λ n. n) vs ≡ vs = map-id vs in
    let back : map (λ t. substituted (ranked (firsts_after [] (map (λ n. n) vs))) (renamed_by (λ n. n) t)) us ≡ us
    = renamed_back (λ n. n) (greatest (map bound_of us)) us numbered (omega arith) (λ b k a lt e. e) in
    sym (each_same us)
    ∙ ap (λ xs. map (λ t. substituted (ranked (firsts_after [] xs)) (renamed_by (λ n. n) t)) us) (sym same) ∙ back
  where
    each_same : (ts : List Term) → map (λ t. substituted (ranked (order_of us)) (renamed_by (λ n. n) t)) ts ≡ map (substituted (ranked (order_of us))) ts
    each_same [] = refl
    each_same (t ∷ ts) = ap (λ x. substituted (ranked (order_of us)) x ∷ map (λ t. substituted (ranked (order_of us)) (renamed_by (λ n. n) t)) ts) (substituted-identity t)
        ∙ ap (λ xs. substituted (ranked (order_of us)) t ∷ xs) (each_same ts)

pub tidy_forms_are_tidy : TidyFormsAreTidy
tidy_forms_are_tidy c d t =
    let kept = t.0 in
    let lean : AreLean [] kept = kept_lean [] [] c.literals kept none_covered t.1 in
    let order = order_of (clause_terms kept) in
    let back : literals_changed (substituted (unranked order)) d.literals ≡ kept = ap (literals_changed (substituted (unranked order))) t.2 ∙ renumbered_literals-back kept in
    let terms : clause_terms d.literals ≡ renumbered (clause_terms kept) = ap clause_terms t.2 ∙ changed_terms (substituted (ranked order)) kept in
    let numbered : IsNumberedFrom 0 (flat_map variables_of (clause_terms d.literals))
    = subst (λ us. IsNumberedFrom 0 (flat_map variables_of us)) (sym terms) (renumbered-numbered (clause_terms kept)) in (
      d.literals,
      lean_kept [] d.literals (lean_back (substituted (unranked order)) [] d.literals (subst (AreLean []) (sym back) lean)),
      sym (fixed_literals (substituted (ranked (order_of (clause_terms d.literals)))) d.literals (renumbered_again (clause_terms d.literals) numbered)),
    )

-- ---- bounds

terms_sizes : (p : ℕ → ℕ) (ts : List Term) → (sum_by size_of (map (renamed_by p) ts) ≡ sum_by size_of ts) × (greatest (map depth_of (map (renamed_by p) ts)) ≡ greatest (map depth_of ts))
terms_sizes p [] = (refl, refl)
terms_sizes p (t ∷ ts) =
    let here = renamed_sizes p t in let rest = terms_sizes p ts in
    (omega (arith, here.0, rest.0, sum_by-cons size_of t ts, sum_by-cons size_of (renamed_by p t) (map (renamed_by p) ts)), omega (arith, here.1, rest.1))

atom_sizes : (p : ℕ → ℕ) (a : Atom) → (sum_by size_of (terms_of (atom_changed (renamed_by p) a)) ≡ sum_by size_of (terms_of a)) × (atom_depth (atom_changed (renamed_by p) a) ≡ atom_depth a)
atom_sizes p Truth = (refl, refl)
atom_sizes p (Pred q args) = (let s = terms_sizes p args in (s.0, ap (λ n. 1 + n) s.1))
atom_sizes p (Equal s t) = (let a = terms_sizes p (s ∷ t ∷ []) in (a.0, omega (arith, renamed_sizes p s, renamed_sizes p t)))

literals_sizes : (p : ℕ → ℕ) (ls : List Literal) → (sum_by literal_size (literals_changed (renamed_by p) ls) ≡ sum_by literal_size ls)
    × (greatest (map literal_depth (literals_changed (renamed_by p) ls)) ≡ greatest (map literal_depth ls))
literals_sizes p [] = (refl, refl)
literals_sizes p (l ∷ ls) =
    let here = atom_sizes p l.atom in let rest = literals_sizes p ls in
    (omega (arith, here.0, rest.0, sum_by-cons literal_size l ls, sum_by-cons literal_size (literal_changed (renamed_by p) l) (literals_changed (renamed_by p) ls)), omega (arith, here.1, rest.1))

kept_sizes : (earlier ls kept : List Literal) → AreKept earlier ls kept → (sum_by literal_size kept ≤ sum_by literal_size ls) × (greatest (map literal_depth kept) ≤ greatest (map literal_depth ls))
kept_sizes earlier [] kept k = subst (λ xs. (sum_by literal_size xs ≤ sum_by literal_size []) × (greatest (map literal_depth xs) ≤ greatest (map literal_depth []))) (sym k) (omega arith, omega arith)
kept_sizes earlier (l ∷ ls) kept (inl k) =
    let rest = kept_sizes (earlier ++ l ∷ []) ls kept k.1 in (omega (arith, rest.0, sum_by-cons literal_size l ls), omega (arith, rest.1))
kept_sizes earlier (l ∷ ls) kept (inr k) =
    let xs = k.1.0 in
    let rest = kept_sizes (earlier ++ l ∷ []) ls xs k.1.2 in
    subst (λ ys. (sum_by literal_size ys ≤ sum_by literal_size (l ∷ ls)) × (greatest (map literal_depth ys) ≤ greatest (map literal_depth (l ∷ ls)))) (sym k.1.1)
    (omega (arith, rest.0, sum_by-cons literal_size l ls, sum_by-cons literal_size l xs), omega (arith, rest.1))

kept_over : (y : Symbols) (earlier ls kept : List Literal) → AreKept earlier ls kept → LiteralsOver y ls → LiteralsOver y kept
kept_over y earlier [] kept k all = subst (LiteralsOver y) (sym k) tt
kept_over y earlier (l ∷ ls) kept (inl k) all = kept_over y (earlier ++ l ∷ []) ls kept k.1 all.1
kept_over y earlier (l ∷ ls) kept (inr k) all = subst (LiteralsOver y) (sym k.1.1) (all.0, kept_over y (earlier ++ l ∷ []) ls k.1.0 k.1.2 all.1)

-- what is kept has the size and the depth of the tidy form
pub measured_renumbered : (symbols levels : ℕ) (kept : List Literal) (answer : Option ℕ) → AreLiteralsMeasured symbols levels kept answer → AreLiteralsMeasured symbols levels (renumbered_literals kept) answer
measured_renumbered symbols levels kept None m = λ within.
    let same = literals_sizes (rank (order_of (clause_terms kept))) kept in m (omega (arith, same.0, within.0), omega (arith, same.1, within.1))
measured_renumbered symbols levels kept (Some n) m =
    let same = literals_sizes (rank (order_of (clause_terms kept))) kept in
    (omega (arith, same.0, m.0), (omega (arith, same.0, m.1.0), omega (arith, same.1, m.1.1)))

pub tidy_forms_are_small : TidyFormsAreSmall
tidy_forms_are_small c d t within =
    let kept = t.0 in
    let small = kept_sizes [] c.literals kept t.1 in
    let same = literals_sizes (rank (order_of (clause_terms kept))) kept in
    (omega (arith, within.0, small.0, same.0, ap (sum_by literal_size) t.2), omega (arith, within.1, small.1, same.1, ap (λ ls. greatest (map literal_depth ls)) t.2))

pub tidy_forms_are_over : TidyFormsAreOver
tidy_forms_are_over y c d t over =
    let order = order_of (clause_terms t.0) in
    subst (LiteralsOver y) (sym t.2) (literals_over y (ranked order) (λ k. over-Var y (rank order k)) t.0 (kept_over y [] c.literals t.0 t.1 over))
