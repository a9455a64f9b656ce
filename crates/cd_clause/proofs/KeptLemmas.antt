-- One literal more of those that are kept.
use Rattle.std.proofs.Common.{◌≡◌, ℕ, ◌+◌, ◌<◌, ◌≤◌, inl, inr, List, [], ◌∷◌, ◌++◌, length, get_or, take, drop, ap, subst, refl, sym, ◌∙◌, append_assoc}
use Rattle.std.proofs.lemmas.List.{take_more, drop_more, drop_all, append-nil}
use Rattle.cd_clause.specs.declared.Literal.{Literal}
use Rattle.cd_clause.specs.Clauses.{IsSuperfluous, AreKept}

-- what was kept so far, completed by what is kept of the rest
abbrev pub Completes : List Literal → ℕ → List Literal → Type 0
Completes ls i kept = (rest : List Literal) → AreKept (take i ls) (drop i ls) rest → AreKept [] ls (kept ++ rest)

pub next_list : (ls : List Literal) (i : ℕ) (l : Literal) → i < length ls → l ≡ get_or ls i l → drop i ls ≡ l ∷ drop (i + 1) ls
next_list ls i l lt at = drop_more ls i l lt ∙ ap (λ m. m ∷ drop (i + 1) ls) (sym at)

pub next_earlier : (ls : List Literal) (i : ℕ) (l : Literal) → i < length ls → l ≡ get_or ls i l → take (i + 1) ls ≡ take i ls ++ l ∷ []
next_earlier ls i l lt at = take_more ls i l lt ∙ ap (λ m. take i ls ++ m ∷ []) (sym at)

pub kept_out : (ls us : List Literal) (i : ℕ) (l : Literal) (kept : List Literal) → i < length ls → l ≡ get_or ls i l → us ≡ take i ls →
    IsSuperfluous us l → Completes ls i kept → Completes ls (i + 1) kept
kept_out ls us i l kept lt at is out so_far = λ rest k.
    so_far rest (subst (λ ms. AreKept (take i ls) ms rest) (sym (next_list ls i l lt at))
    (inl (subst (λ ms. IsSuperfluous ms l) is out, subst (λ ms. AreKept ms (drop (i + 1) ls) rest) (next_earlier ls i l lt at) k)))

pub kept_in : (ls us : List Literal) (i : ℕ) (l m : Literal) (kept more : List Literal) → i < length ls → l ≡ get_or ls i l → us ≡ take i ls →
    ¬ IsSuperfluous us l → m ≡ l → more ≡ kept ++ m ∷ [] → Completes ls i kept → Completes ls (i + 1) more
kept_in ls us i l m kept more lt at is new same next so_far = λ rest k.
    subst (λ ms. AreKept [] ls ms) (sym (ap (λ ms. ms ++ rest) (next ∙ ap (λ w. kept ++ w ∷ []) same) ∙ append_assoc kept (l ∷ []) rest))
    (so_far (l ∷ rest) (subst (λ ms. AreKept (take i ls) ms (l ∷ rest)) (sym (next_list ls i l lt at))
    (inr (
      (λ out. new (subst (λ ms. IsSuperfluous ms l) (sym is) out)),
      (rest, refl, subst (λ ms. AreKept ms (drop (i + 1) ls) rest) (next_earlier ls i l lt at) k),
    ))))

pub kept_end : (ls : List Literal) (i : ℕ) (kept : List Literal) → length ls ≤ i → Completes ls i kept → AreKept [] ls kept
kept_end ls i kept le so_far =
    subst (λ ms. AreKept [] ls ms) (append-nil kept)
    (so_far [] (subst (λ ms. AreKept (take i ls) ms []) (sym (drop_all i ls le)) refl))
