-- A gathered list grows by one part at its end.
use Rattle.std.proofs.Common.{◌≡◌, ℕ, zero, suc, ◌+◌, List, [], ◌∷◌, ◌++◌, refl, sym, ap, ◌∙◌, subst, arith, append-nil, append_assoc}
use Rattle.std.specs.List.{range_with_len}
use Rattle.cd_list.specs.Lists.{Gathered}

-- one more number at the end
pub range_more : (a n : ℕ) → range_with_len a (n + 1) ≡ range_with_len a n ++ (a + n) ∷ []
range_more a zero = ap (λ (k : ℕ). k ∷ []) (omega arith)
range_more a (suc n) =
    let here : suc n + 1 ≡ suc (n + 1) = omega arith in
    let last : a + 1 + n ≡ a + suc n = omega arith in
    ap (λ (k : ℕ). range_with_len a k) here ∙ ap (λ (l : List ℕ). a ∷ l) (range_more (a + 1) n ∙ ap (λ (k : ℕ). range_with_len (a + 1) n ++ k ∷ []) last)

pub gathered_more : {X : Type 0} (R : ℕ → List X → Type 0) (ks : List ℕ) (k : ℕ) (xs part : List X) → Gathered R ks xs → R k part → Gathered R (ks ++ k ∷ []) (xs ++ part)
gathered_more R [] k xs part g r = (part, [], r, refl, ap (λ l. l ++ part) g ∙ sym (append-nil part))
gathered_more R (j ∷ ks) k xs part g r =
    (g.0, g.1 ++ part, g.2, gathered_more R ks k g.1 part g.3 r, ap (λ l. l ++ part) g.4 ∙ append_assoc g.0 g.1 part)

-- the first n numbers, and the next
pub gathered_next : {X : Type 0} (R : ℕ → List X → Type 0) (n : ℕ) (xs ys part : List X) → ys ≡ xs ++ part → Gathered R (range_with_len 0 n) xs → R n part → Gathered R (range_with_len 0 (n + 1)) ys
gathered_next R n xs ys part is g r =
    let last : 0 + n ≡ n = omega arith in
    let more = gathered_more R (range_with_len 0 n) n xs part g r in
    let range : range_with_len 0 (n + 1) ≡ range_with_len 0 n ++ n ∷ [] = range_more 0 n ∙ ap (λ (k : ℕ). range_with_len 0 n ++ k ∷ []) last in
    subst (λ zs. Gathered R (range_with_len 0 (n + 1)) zs) (sym is) (subst (λ (ks : List ℕ). Gathered R ks (xs ++ part)) (sym range) more)
