-- What a pass knows of one mailbox, and how each kind of step changes it.
-- Beyond the headline: no clause of `prove` reaches this file.
use Rattle.std.specs.Prelude.{ℕ, zero, suc, ◌+◌, ◌==◌, ◌||◌, Bool, true, false, cond, List, [], ◌∷◌, ◌++◌, filter}
use Rattle.cd_mailbox.specs.declared.rule.Part.{Part}
use Rattle.cd_mailbox.specs.declared.rule.View.{View}

-- the letters of one sender, in their order
abbrev pub letters_of : {L : Type 0} → (L → ℕ) → ℕ → List L → List L
letters_of sender p letters = filter (λ x. sender x == p) letters

abbrev pub part : {L : Type 0} → ℕ → List L → Part L
part n letters = record { number = n; posted = letters }

abbrev pub view : {L : Type 0} → Bool → ℕ → ℕ → List (Part L) → List L → View L
view opening peers owner parts taken = record { opening = opening; peers = peers; owner = owner; parts = parts; taken = taken }

-- ---- what a view says

-- some part has the number n
abbrev pub has_in : {L : Type 0} → ℕ → List (Part L) → Bool
has_in n [] = false
has_in n (x ∷ xs) = (x.number == n) || has_in n xs

-- the pass holds the number n: one of its own, or any while it opens the mailbox
abbrev pub has : {L : Type 0} → ℕ → View L → Bool
has n v = v.opening || has_in n v.parts

-- what was posted under the number n
abbrev pub posted_in : {L : Type 0} → ℕ → List (Part L) → List L
posted_in n [] = []
posted_in n (x ∷ xs) = cond (x.number == n) x.posted (posted_in n xs)

-- ---- views that come up by name

-- n numbers from a on, with nothing posted under them
abbrev pub parts_from : {L : Type 0} → ℕ → ℕ → List (Part L)
parts_from a zero = []
parts_from a (suc n) = part a [] ∷ parts_from (a + 1) n

-- of the first pass of a new mailbox
abbrev pub newest : {L : Type 0} → View L
newest = view true 0 0 [] []

-- of a pass that holds no number
abbrev pub nothing : {L : Type 0} → View L
nothing = view false 0 0 [] []

-- n numbers from a on are held, and nothing was posted or taken
abbrev pub dealt : {L : Type 0} → ℕ → ℕ → ℕ → ℕ → View L
dealt peers owner a n = view false peers owner (parts_from a n) []

-- one number is held
abbrev pub single : {L : Type 0} → ℕ → ℕ → ℕ → List L → List L → View L
single peers owner n posted taken = view false peers owner (part n posted ∷ []) taken

-- ---- push and pop

abbrev pub put_in : {L : Type 0} → ℕ → L → List (Part L) → List (Part L)
put_in n letter [] = []
put_in n letter (x ∷ xs) = cond (x.number == n) (part x.number (x.posted ++ letter ∷ []) ∷ xs) (x ∷ put_in n letter xs)

-- a letter is posted under its sender's number
abbrev pub after_post : {L : Type 0} → (L → ℕ) → View L → L → View L
after_post sender v letter = view v.opening v.peers v.owner (put_in (sender letter) letter v.parts) v.taken

-- letters are taken, one after another
abbrev pub after_takes : {L : Type 0} → View L → List L → View L
after_takes v letters = view v.opening v.peers v.owner v.parts (v.taken ++ letters)

abbrev pub after_take : {L : Type 0} → View L → L → View L
after_take v letter = after_takes v (letter ∷ [])

-- ---- splits

-- the number of the owner is counted up by one
abbrev pub named : {L : Type 0} → View L → View L
named v = view v.opening v.peers (v.owner + 1) v.parts v.taken

-- one peer more
abbrev pub grown : {L : Type 0} → View L → View L
grown v = view v.opening (v.peers + 1) v.owner (v.parts ++ part v.peers [] ∷ []) v.taken

-- only the numbers of the peers are held from now on
abbrev pub sealed : {L : Type 0} → View L → View L
sealed v = view false v.peers v.owner v.parts v.taken

abbrev pub first_part : {L : Type 0} → List (Part L) → List (Part L)
first_part [] = []
first_part (x ∷ xs) = x ∷ []

abbrev pub other_parts : {L : Type 0} → List (Part L) → List (Part L)
other_parts [] = []
other_parts (x ∷ xs) = xs

-- the first number goes to the one pass, and the others stay with the other
abbrev pub first_alone : {L : Type 0} → View L → View L
first_alone v = view false v.peers v.owner (first_part v.parts) []

abbrev pub others : {L : Type 0} → View L → View L
others v = view v.opening v.peers v.owner (other_parts v.parts) v.taken

-- ---- join

-- all that two passes hold; what was taken is known by the one that holds the owner's number
abbrev pub joined : {L : Type 0} → View L → View L → View L
joined v w = view false v.peers v.owner (v.parts ++ w.parts) (cond (has v.owner v) v.taken w.taken)
