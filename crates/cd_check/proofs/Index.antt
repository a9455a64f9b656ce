-- An index of a problem's inputs.
use Rattle.std.proofs.Common.{◌≡◌, ℕ, ◌-◌, ◌≤◌, ◌||◌, Bool, true, false, List, [], ◌∷◌, length, take, drop, get_or, refl, sym, ap, ◌∙◌, arith}
use Rattle.std.proofs.Math.Seq.{take-length}
use Rattle.std.specs.Prelude.{bytes_eq}
use Rattle.cd_symbols.specs.Symbol.{Symbol}
use Rattle.cd_read.specs.declared.problem.Input.{Input}
use Rattle.cd_read.specs.declared.problem.Problem.{Problem}
use Rattle.cd_check.specs.Bodies.{is_there, IsAdded}
use Rattle.cd_check.specs.Inputs.{input_text, is_among, AreAdded, IsIndexOf}

turned : (a b c : Bool) → (b || (a || c)) ≡ ((a || b) || c)
turned true true c = refl
turned true false c = refl
turned false b c = refl

-- an input more
pub added_on : (symbols : List Symbol) (i : Input) (inputs : List Input) (old mid new : List (List ℕ)) → IsAdded old mid (input_text symbols i) → AreAdded symbols inputs mid new → AreAdded symbols (i ∷ inputs) old new
added_on symbols i inputs old mid new one others w =
    others w ∙ ap (λ (t : Bool). is_among symbols inputs w || t) (one w) ∙ turned (bytes_eq w (input_text symbols i)) (is_among symbols inputs w) (is_there old w)

pub none_added : (symbols : List Symbol) (bodies : List (List ℕ)) → AreAdded symbols [] bodies bodies
none_added symbols bodies w = refl

or_false : (a : Bool) → (a || false) ≡ a
or_false true = refl
or_false false = refl

pub indexed : (p : Problem) (new : List (List ℕ)) → AreAdded p.symbols p.inputs [] new → IsIndexOf p new
indexed p new h w = h w ∙ or_false (is_among p.symbols p.inputs w)

-- a list is its first item and the rest of it
pub parted : {A : Type 0} (xs : List A) (x : A) → 1 ≤ length xs → x ≡ get_or xs 0 x → x ∷ take (length xs - 1) (drop 1 xs) ≡ xs
parted [] x some at = absurd (omega (arith, some))
parted {A} (y ∷ ys) x some at =
    let count : length (y ∷ ys) - 1 ≡ length ys = omega arith in
    let others : take (length (y ∷ ys) - 1) ys ≡ ys = ap (λ n. take n ys) count ∙ take-length ys in
    let first : x ≡ y = at in
    (λ i. first i ∷ others i)
