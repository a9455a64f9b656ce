use Rattle.std.proofs.Common.{◌≡◌, ◌∙◌, ℕ, ◌<◌, ◌≤◌, ◌^◌, ◌+◌, ◌-◌, ◌*◌, ◌/◌, length, List, [], ◌∷◌, get_or, drop, drop-cons, ap, suc, arith}
use Rattle.cd_options.specs.Numbers.{value_from}
use Rattle.cd_options.proofs.numbers.number.Goals as goal

grows : (n : ℕ) (bs : List ℕ) → n ≤ value_from n bs
grows n [] = omega arith
grows n (b ∷ bs) = let more : n * 10 + (b - 48) ≤ value_from (n * 10 + (b - 48)) bs = grows (n * 10 + (b - 48)) bs in omega arith

too_big : (n i most : ℕ) (text : List ℕ) → i < length text → (18446744073709551615 - (get_or text i 0 - 48)) / 10 < n → most < 2 ^ 64 → value_from n (drop i text) ≤ most → ⊥
too_big n i most text lt big few le =
    let d = get_or text i 0 - 48 in
    let more : n * 10 + d ≤ value_from (n * 10 + d) (drop (suc i) text) = grows (n * 10 + d) (drop (suc i) text) in
    let same : value_from n (drop i text) ≡ value_from (n * 10 + d) (drop (suc i) text) = ap (value_from n) (drop-cons text i 0 lt) in
    let past : 18446744073709551615 < n * 10 + d = omega arith in
    omega arith

pub returns-then-n-d : goal.returns-then-n-d
returns-then-n-d c = λ n is low high.
    let e : n ≡ value_from c.loop-b.n (drop c.loop-b.b-index c.args.text.now) = is.value ∙ c.loop-b.invariant.value in
    too_big c.loop-b.n c.loop-b.b-index c.args.most c.args.text.now c.loop-b-test.true c.if-n-d.true c.ranges.most.fits (omega (arith, e, high))
