-- Lists that are made longer by a default number.
use Rattle.std.proofs.Common.{◌≡◌, ℕ, zero, suc, ◌-◌, ◌<◌, ◌≤◌, List, [], ◌∷◌, ◌++◌, get_or, replicate, refl, arith, ⊎_elim}
use Rattle.std.proofs.lemmas.Bool.{cases_lt}

-- a read of the default is the same from a list of it as from none
default_read : (n k d : ℕ) → get_or (replicate n d) k d ≡ d
default_read zero k d = refl
default_read (suc n) zero d = refl
default_read (suc n) (suc k) d = default_read n k d

-- a padded list reads as before
pub padded_reads : (xs : List ℕ) (n k d : ℕ) → get_or (xs ++ replicate n d) k d ≡ get_or xs k d
padded_reads [] n k d = default_read n k d
padded_reads (x ∷ xs) n zero d = refl
padded_reads (x ∷ xs) n (suc k) d = padded_reads xs n k d

-- how many numbers were put in
pub padding_is : (place old len : ℕ) → old ≤ place → len ≤ place → (old ≤ len → place ≤ len) → (len ≤ old → place ≡ old) →
    place - old ≡ len - old
padding_is place old len above past end none = ⊎_elim
    (λ (lt : old < len). let below : place ≤ len = end (omega arith) in omega arith)
    (λ (ge : len ≤ old). let same : place ≡ old = none ge in omega arith)
    (cases_lt old len)
