-- Lists of printed items are read again.
use Rattle.std.proofs.Common.{◌≡◌, ℕ, zero, suc, ◌+◌, ◌<◌, ◌≤◌, List, [], ◌∷◌, ◌++◌, length, refl, sym, ap, ◌∙◌, arith, append_assoc, Option, Some, None, subst}
use Rattle.std.specs.List.{flat_map, AllByRecursion}
use Rattle.std.proofs.lemmas.List.{length-append}
use Rattle.std.proofs.lemmas.List.Concat.{flat_map-cons}
use Rattle.cd_text.specs.Texts.{separated}
use Rattle.cd_text.proofs.Separated.{separated_first}
use Rattle.cd_line.specs.Reading.{◌>>=◌, stripped, further_read, joined_read}
use Rattle.cd_line.proofs.Words.{stripped_again}

-- an item is read, whatever stands behind it that may
abbrev pub ReadsAgain : {A : Type 0} → (A → Type 0) → (List ℕ → Type 0) → (List ℕ → Option (A × List ℕ)) → (A → List ℕ) → Type 0
ReadsAgain {A} ok follows read f = (x : A) (rest : List ℕ) → ok x → follows rest → read (f x ++ rest) ≡ Some (x, rest)

further : {A : Type 0} → List ℕ → (A → List ℕ) → List A → List ℕ
further between f xs = flat_map (λ y. between ++ f y) xs

further_parts : {A : Type 0} (f : A → List ℕ) (between : List ℕ) (x : A) (xs : List A) (rest : List ℕ) → further between f (x ∷ xs) ++ rest ≡ between ++ (f x ++ (further between f xs ++ rest))
unfolding further
further_parts f between x xs rest =
    ap (λ (l : List ℕ). l ++ rest) (flat_map-cons (λ y. between ++ f y) x xs) ∙ append_assoc (between ++ f x) (further between f xs) rest ∙ append_assoc between (f x) (further between f xs ++ rest)

further_follows : {A : Type 0} (follows : List ℕ → Type 0) (f : A → List ℕ) (between : List ℕ) (xs : List A) (rest : List ℕ) → ((t : List ℕ) → follows (between ++ t)) → follows rest → follows (further between f xs ++ rest)
unfolding further
further_follows follows f between [] rest sep last = last
further_follows follows f between (x ∷ xs) rest sep last = subst follows (sym (further_parts f between x xs rest)) (sep (f x ++ (further between f xs ++ rest)))

stops_here : {A : Type 0} (between : List ℕ) (read : List ℕ → Option (A × List ℕ)) (n : ℕ) (text : List ℕ) → stripped between text ≡ None → further_read between read n text ≡ Some ([], text)
stops_here between read zero text s = refl
stops_here between read (suc n) text s = rw s refl

further_again : {A : Type 0} (ok : A → Type 0) (follows : List ℕ → Type 0) (read : List ℕ → Option (A × List ℕ)) (f : A → List ℕ) (between : List ℕ) (n : ℕ) (xs : List A) (rest : List ℕ)
    → ReadsAgain ok follows read f → ((t : List ℕ) → follows (between ++ t)) → AllByRecursion ok xs → follows rest → stripped between rest ≡ None → length xs ≤ n
    → further_read between read n (further between f xs ++ rest) ≡ Some (xs, rest)
unfolding further
further_again ok follows read f between n [] rest again sep each last none few = stops_here between read n rest none
further_again ok follows read f between zero (x ∷ xs) rest again sep each last none few = absurd (omega (arith, few))
further_again ok follows read f between (suc n) (x ∷ xs) rest again sep each last none few =
    let behind = further between f xs ++ rest in
    let first : read (f x ++ behind) ≡ Some (x, behind) = again x behind each.0 (further_follows follows f between xs rest sep last) in
    let others : further_read between read n behind ≡ Some (xs, rest) = further_again ok follows read f between n xs rest again sep each.1 last none (omega (arith, few)) in
    ap (further_read between read (suc n)) (further_parts f between x xs rest) ∙ rw (stripped_again between (f x ++ behind), first, others) refl

length_further : {A : Type 0} (f : A → List ℕ) (between : List ℕ) (xs : List A) → 0 < length between → length xs ≤ length (further between f xs)
unfolding further
length_further f between [] some = omega arith
length_further f between (x ∷ xs) some =
    let e : length (further between f (x ∷ xs)) ≡ length (between ++ f x) + length (further between f xs) = ap length (flat_map-cons (λ y. between ++ f y) x xs) ∙ length-append (between ++ f x) (further between f xs) in
    omega (arith, e, length-append between (f x), length_further f between xs some)

pub joined_again : {A : Type 0} (ok : A → Type 0) (follows : List ℕ → Type 0) (read : List ℕ → Option (A × List ℕ)) (f : A → List ℕ) (between : List ℕ) (x : A) (xs : List A) (rest : List ℕ)
    → ReadsAgain ok follows read f → ((t : List ℕ) → follows (between ++ t)) → 0 < length between → AllByRecursion ok (x ∷ xs) → follows rest → stripped between rest ≡ None
    → joined_read between read (separated between f (x ∷ xs) ++ rest) ≡ Some (x ∷ xs, rest)
unfolding further
joined_again ok follows read f between x xs rest again sep some each last none =
    let behind = further between f xs ++ rest in
    let first : read (f x ++ behind) ≡ Some (x, behind) = again x behind each.0 (further_follows follows f between xs rest sep last) in
    let room : length xs ≤ length (f x ++ behind) = omega (arith, length_further f between xs some, length-append (f x) behind, length-append (further between f xs) rest) in
    let others : further_read between read (length (f x ++ behind)) behind ≡ Some (xs, rest) = further_again ok follows read f between (length (f x ++ behind)) xs rest again sep each.1 last none room in
    ap (λ (l : List ℕ). joined_read between read (l ++ rest)) (separated_first between f x xs) ∙ ap (joined_read between read) (append_assoc (f x) (further between f xs) rest) ∙ rw (first, others) refl
