-- The pieces that a page tells.
use Rattle.std.proofs.Common.{◌≡◌, ℕ, ◌+◌, ◌^◌, ◌<◌, ◌≤◌, true, false, List, [], ◌∷◌, ◌++◌, length, take, drop, Some, nat_lt, nat_le, inl, inr, refl, sym, ap, ◌∙◌, arith, length-drop}
use Rattle.std.specs.List.{sum}
use Rattle.std.proofs.lemmas.List.{take-append-le}
use Rattle.std.proofs.lemmas.List.Sums.{sum_by-cons}
use Rattle.std.proofs.lemmas.Bool.Decides.{nat_tests, leb_tells}
use Rattle.std.proofs.Math.Seq.{take-length, drop-append-le}
use Rattle.cd_outside.specs.Outside.{counted, Gives, GivesWhereTold, FallsShort}
use Rattle.cd_outside.specs.Page.{PageState, cut_at, pieces_told, wrote, fell_short}
use Rattle.cd_outside.proofs.Giving.{where_told, none_told}

-- one more piece behind bytes that are cut up
cut_more : (ns bytes piece : List ℕ) → sum ns ≡ length bytes → cut_at (ns ++ length piece ∷ []) (bytes ++ piece) ≡ cut_at ns bytes ++ piece ∷ []
cut_more [] [] piece whole = ap (λ (p : List ℕ). p ∷ []) (take-length piece)
cut_more [] (b ∷ bytes) piece whole = absurd (omega (arith, whole))
cut_more (n ∷ ns) bytes piece whole =
    let all : n + sum ns ≡ length bytes = sym (sum_by-cons (λ x. x) n ns) ∙ whole in
    let fits : n ≤ length bytes = omega (arith, all) in
    let left : sum ns ≡ length (drop n bytes) = omega (arith, all, length-drop n bytes) in
    rw (take-append-le n bytes piece fits, drop-append-le n bytes piece fits) (ap (λ (ps : List (List ℕ)). take n bytes ∷ ps) (cut_more ns (drop n bytes) piece left))

-- a call that fits adds its piece
pub piece_fits : (page : PageState) (taken : List ℕ) → page.limit < 2 ^ 32 → sum page.lengths ≡ length page.bytes → page.calls < page.limit → Gives (pieces_told page) (pieces_told (wrote page taken)) (taken ∷ [])
piece_fits page taken small whole fits =
    let noted : nat_lt page.calls page.limit ≡ true = grind (arith, nat_tests) in
    let before : nat_le page.calls page.limit ≡ true = grind (arith, nat_tests) in
    let now : nat_le (counted page.calls) page.limit ≡ true = grind (arith, nat_tests) in
    rw (before, now, noted) (cut_more page.lengths page.bytes taken whole)

-- and one that doesn't fit ends the telling
past : (page : PageState) (taken : List ℕ) → page.limit < 2 ^ 32 → page.limit ≤ page.calls → GivesWhereTold (pieces_told page) (pieces_told (wrote page taken)) (taken ∷ [])
past page taken small full =
    let over : nat_le (counted page.calls) page.limit ≡ false = grind (arith, nat_tests) in
    rw over (none_told (pieces_told page) (taken ∷ []))

piece_told : (page : PageState) (taken : List ℕ) → page.limit < 2 ^ 32 → sum page.lengths ≡ length page.bytes → GivesWhereTold (pieces_told page) (pieces_told (wrote page taken)) (taken ∷ [])
piece_told page taken small whole =
    elim (leb_tells page.limit page.calls) [
      | inl full ↦ past page taken small full.1
      | inr fits ↦ where_told (pieces_told page) (pieces_told (wrote page taken)) (taken ∷ []) (piece_fits page taken small whole fits.1)
    ]

pub falls_short : (page : PageState) (n : ℕ) (piece : List ℕ) → page.limit < 2 ^ 32 → sum page.lengths ≡ length page.bytes
    → FallsShort (Some page.bytes) (Some (page.bytes ++ take n piece)) (pieces_told page) (pieces_told (fell_short page (take n piece))) piece
falls_short page n piece small whole = record { n = n; taken = refl; told = piece_told page (take n piece) small whole }
