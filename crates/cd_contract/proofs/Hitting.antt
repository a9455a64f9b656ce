-- The first hit, and all hits, one held clause after another.
use Rattle.std.proofs.Common.{◌≡◌, ℕ, zero, suc, ◌+◌, ◌<◌, ◌≤◌, inl, inr, Bool, true, false, IsTrue, ◌↔◌, List, [], ◌∷◌, ◌++◌, length, drop, get_or, ap, subst, refl, sym, ◌∙◌, arith, append_assoc, Option, Some, None}
use Rattle.std.specs.List.{AllByRecursion}
use Rattle.std.proofs.lemmas.List.{drop_more, drop_all, append-nil}
use Rattle.cd_clause.specs.declared.Clause.{Clause}
use Rattle.cd_kbo.specs.declared.order.Order.{Order}
use Rattle.cd_names.specs.declared.names.Name.{Name}
use Rattle.cd_names.specs.declared.How.{How}
use Rattle.cd_term.specs.declared.Term.{Term}
use Rattle.cd_term.specs.Terms.{value_of}
use Rattle.cd_subsume.specs.Subsumption.{Subsumes, SubsumesBy}
use Rattle.cd_contract.specs.declared.held.Entry.{Entry}
use Rattle.cd_contract.specs.declared.held.Kept.{Kept}
use Rattle.cd_contract.specs.declared.held.Struck.{Struck}
use Rattle.cd_contract.specs.Rows.{entries_of}
use Rattle.cd_contract.specs.Hits.{Contracts, IsFirstOf, IsStruckBy, AreStruck, hits_with}

next_list : {A : Type 0} (xs : List A) (i : ℕ) (x : A) → i < length xs → x ≡ get_or xs i x → drop i xs ≡ x ∷ drop (i + 1) xs
next_list xs i x lt at = drop_more xs i x lt ∙ ap (λ y. y ∷ drop (i + 1) xs) (sym at)

-- what is first among the rest is first among all
abbrev pub Answers : (Entry → Type 0) → List Kept → ℕ → Type 0
Answers P ks i = (o : Option Entry) → IsFirstOf P (entries_of (drop i ks)) o → IsFirstOf P (entries_of ks) o

pub answers_start : (P : Entry → Type 0) (ks : List Kept) → Answers P ks 0
answers_start P ks o first = first

pub answers_next : (P : Entry → Type 0) (ks : List Kept) (i : ℕ) (k : Kept) (r : Bool) → i < length ks → k ≡ get_or ks i k → (IsTrue r ↔ P k.entry) → r ≡ false →
    Answers P ks i → Answers P ks (i + 1)
answers_next P ks i k r lt at test out so_far o first =
    so_far o (subst (λ ys. IsFirstOf P (entries_of ys) o) (sym (next_list ks i k lt at)) (inr (none, first)))
  where
    none : P k.entry → ⊥
    none p = let was : r ≡ true = test.1 p in let both : true ≡ false = sym was ∙ out in absurd (cc)

pub answers_here : (P : Entry → Type 0) (ks : List Kept) (i : ℕ) (k : Kept) (r : Bool) → i < length ks → k ≡ get_or ks i k → (IsTrue r ↔ P k.entry) → r ≡ true →
    Answers P ks i → IsFirstOf P (entries_of ks) (Some k.entry)
answers_here P ks i k r lt at test yes_ so_far =
    so_far (Some k.entry) (subst (λ ys. IsFirstOf P (entries_of ys) (Some k.entry)) (sym (next_list ks i k lt at)) (inl (test.0 yes_, refl)))

pub answers_end : (P : Entry → Type 0) (ks : List Kept) (i : ℕ) → length ks ≤ i → Answers P ks i → IsFirstOf P (entries_of ks) None
answers_end P ks i le so_far =
    so_far None (subst (λ ys. IsFirstOf P (entries_of ys) None) (sym (drop_all i ks le)) refl)

pub all_read : {A : Type 0} (P : A → Type 0) (xs : List A) (i : ℕ) (x : A) → AllByRecursion P xs → i < length xs → x ≡ get_or xs i x → P x
all_read {A} P xs i x all lt at = let Q : A → Type 0 = P in subst Q (sym at) (at_place xs i all lt)
  where
    at_place : (ys : List A) (j : ℕ) → AllByRecursion P ys → j < length ys → P (get_or ys j x)
    at_place [] j all lt = absurd (omega (arith, lt))
    at_place (y ∷ ys) zero all lt = all.0
    at_place (y ∷ ys) (suc j) all lt = at_place ys j all.1 (omega (arith, lt))

-- the hits so far, with those of the rest, are all hits
abbrev pub Collects : Order → Clause → Name → List Kept → ℕ → List Struck → Type 0
Collects o d n ks i hits = (rest : List Struck) → AreStruck o d n (entries_of (drop i ks)) rest → AreStruck o d n (entries_of ks) (hits ++ rest)

pub collects_start : (o : Order) (d : Clause) (n : Name) (ks : List Kept) (hits : List Struck) → hits ≡ [] → Collects o d n ks 0 hits
collects_start o d n ks hits none rest are = subst (λ hs. AreStruck o d n (entries_of ks) (hs ++ rest)) (sym none) are

collects : (o : Order) (d : Clause) (n : Name) (ks : List Kept) (i : ℕ) (k : Kept) (how : Option How) (hits : List Struck) (rest : List Struck) →
    i < length ks → k ≡ get_or ks i k → IsStruckBy o d n k.entry how → Collects o d n ks i hits → AreStruck o d n (entries_of (drop (i + 1) ks)) rest →
    AreStruck o d n (entries_of ks) (hits ++ hits_with k.entry.name how rest)
collects o d n ks i k how hits rest lt at struck so_far are =
    so_far (hits_with k.entry.name how rest)
    (subst (λ es. AreStruck o d n (entries_of es) (hits_with k.entry.name how rest)) (sym (next_list ks i k lt at)) (how, rest, struck, are, refl))

pub collects_none : (o : Order) (d : Clause) (n : Name) (ks : List Kept) (i : ℕ) (k : Kept) (how : Option How) (hits : List Struck) →
    i < length ks → k ≡ get_or ks i k → IsStruckBy o d n k.entry how → how ≡ None → Collects o d n ks i hits → Collects o d n ks (i + 1) hits
collects_none o d n ks i k how hits lt at struck none so_far rest are =
    collects o d n ks i k None hits rest lt at (subst (IsStruckBy o d n k.entry) none struck) so_far are

pub collects_one : (o : Order) (d : Clause) (n : Name) (ks : List Kept) (i : ℕ) (k : Kept) (answer : Option How) (how : How) (hits more : List Struck) →
    i < length ks → k ≡ get_or ks i k → IsStruckBy o d n k.entry answer → answer ≡ Some how → more ≡ hits ++ record { of = k.entry.name; how = how } ∷ [] →
    Collects o d n ks i hits → Collects o d n ks (i + 1) more
collects_one o d n ks i k answer how hits more lt at struck some is so_far rest are =
    subst (AreStruck o d n (entries_of ks)) (sym (ap (λ hs. hs ++ rest) is ∙ append_assoc hits (record { of = k.entry.name; how = how } ∷ []) rest))
    (collects o d n ks i k (Some how) hits rest lt at (subst (IsStruckBy o d n k.entry) some struck) so_far are)

pub collects_end : (o : Order) (d : Clause) (n : Name) (ks : List Kept) (es : List Entry) (i : ℕ) (hits : List Struck) → entries_of ks ≡ es → length ks ≤ i → Collects o d n ks i hits →
    AreStruck o d n es hits
collects_end o d n ks es i hits is le so_far =
    subst (λ ys. AreStruck o d n ys hits) is
    (subst (AreStruck o d n (entries_of ks)) (append-nil hits) (so_far [] (subst (λ ys. AreStruck o d n (entries_of ys) []) (sym (drop_all i ks le)) refl)))

pub subsumer_told : (d c : Clause) (s : List Term) → SubsumesBy (value_of s) d c → (true ≡ true → Subsumes d c) × (Subsumes d c → true ≡ true)
subsumer_told d c s by = (λ e. (value_of s, by), λ k. refl)

pub refused_way : (o : Order) (how kind : How) (d c : Clause) → how ≡ kind → (Contracts o kind d c → ⊥) →
    (false ≡ true → Contracts o how d c) × (Contracts o how d c → false ≡ true)
refused_way o how kind d c is none = (λ e. absurd (cc), λ k. absurd (none (subst (λ h. Contracts o h d c) is k)))
