-- What the rule of a mailbox says of any two passes. Each is a clause of a function of the module `laws`.
-- Beyond the headline: no clause of `prove` reaches this file.
use Rattle.std.specs.Prelude.{◌≡◌, ℕ, true, List, ◌++◌, All}
use mathlib.Core.Option.{some}
use lib.ListN.{get_elem?}
use Rattle.cd_mailbox.specs.declared.rule.View.{View}
use Rattle.cd_mailbox.specs.Views.{letters_of, has, posted_in}
use Rattle.cd_mailbox.specs.Rule.{IsFor, Delivers}

-- no two passes hold the same number
abbrev pub NumbersAreHeldOnce : {L : Type 0} → (L → ℕ) → (L → ℕ) → Type 0
NumbersAreHeldOnce {L} sender receiver =
    (letters : List L) (views : List (View L)) → Delivers sender receiver letters views
    → (i j n : ℕ) (v w : View L) → get_elem? views i ≡ some v → get_elem? views j ≡ some w → has n v ≡ true → has n w ≡ true → i ≡ j

-- for each peer p: its letters among those that the pass with the owner's number took, followed by its letters that the
-- mailbox holds, are what the pass with the number p posted
abbrev pub TakenThenHeldIsPosted : {L : Type 0} → (L → ℕ) → (L → ℕ) → Type 0
TakenThenHeldIsPosted {L} sender receiver =
    (letters : List L) (views : List (View L)) → Delivers sender receiver letters views
    → (i j p : ℕ) (v w : View L) → get_elem? views i ≡ some v → get_elem? views j ≡ some w → has v.owner v ≡ true → has p w ≡ true
    → letters_of sender p v.taken ++ letters_of sender p letters ≡ posted_in p w.parts

-- each letter that the mailbox holds goes to the owner that a pass knows of, and comes from one of the peers
abbrev pub LettersAreAddressed : {L : Type 0} → (L → ℕ) → (L → ℕ) → Type 0
LettersAreAddressed {L} sender receiver =
    (letters : List L) (views : List (View L)) → Delivers sender receiver letters views
    → (i n : ℕ) (v : View L) → get_elem? views i ≡ some v → has n v ≡ true → All (IsFor sender receiver v.peers v.owner) letters
