-- Tokens have ASCII bytes alone; texts without escapes.
use Rattle.std.proofs.Common.{◌≡◌, inl, inr, ◌∙◌, ◌||◌, ◌==◌, ◌-◌, ◌<◌, ◌++◌, ◌∷◌, [], ℕ, zero, suc, Bool, true, nat_le, length, take, sym, ap, subst, arith, leb-true, eqb-true}
use Rattle.std.specs.List.{list_all}
use Rattle.std.specs.Str.{IsAscii}
use Rattle.std.proofs.lemmas.Bool.{and_parts, or_cases}
use Rattle.cd_lex.specs.Bytes.{Bytes, is_lower, is_upper, is_digit, is_word_byte}
use Rattle.cd_lex.specs.Tokens.{IsToken, Inside, none, plain, escaped}
use Rattle.cd_lex.specs.declared.TokenKind.TheVariants as kind
use Rattle.cd_parse.specs.Parts.{content}

-- ---- small bytes

lower_small : (b : ℕ) → is_lower b ≡ true → b < 128
lower_small b e = omega (arith, leb-true b 122 (and_parts (nat_le 97 b) (nat_le b 122) e).1)

upper_small : (b : ℕ) → is_upper b ≡ true → b < 128
upper_small b e = omega (arith, leb-true b 90 (and_parts (nat_le 65 b) (nat_le b 90) e).1)

digit_small : (b : ℕ) → is_digit b ≡ true → b < 128
digit_small b e = omega (arith, leb-true b 57 (and_parts (nat_le 48 b) (nat_le b 57) e).1)

word_small : (b : ℕ) → is_word_byte b ≡ true → b < 128
word_small b e = elim (or_cases (is_lower b) (is_upper b || (is_digit b || b == 95)) e) [
  | inl l ↦ lower_small b l
  | inr r ↦ elim (or_cases (is_upper b) (is_digit b || b == 95) r) [
    | inl u ↦ upper_small b u
    | inr s ↦ elim (or_cases (is_digit b) (b == 95) s) [
      | inl d ↦ digit_small b d
      | inr x ↦ omega (arith, eqb-true b 95 x)
    ]
  ]
]

-- ---- small lists

pub cons_ascii : (b : ℕ) (bs : Bytes) → b < 128 → IsAscii bs → IsAscii (b ∷ bs)
cons_ascii b bs small rest zero = small
cons_ascii b bs small rest (suc i) = rest i

pub none_ascii : IsAscii []
none_ascii i = omega arith

pub append_ascii : (bs cs : Bytes) → IsAscii bs → IsAscii cs → IsAscii (bs ++ cs)
append_ascii [] cs p q = q
append_ascii (b ∷ bs) cs p q = cons_ascii b (bs ++ cs) (p 0) (append_ascii bs cs (λ i. p (suc i)) q)

pub many_ascii : (test : ℕ → Bool) → ((b : ℕ) → test b ≡ true → b < 128) → (bs : Bytes) → list_all test bs ≡ true → IsAscii bs
many_ascii test small [] e = none_ascii
many_ascii test small (b ∷ bs) e =
    let p = and_parts (test b) (list_all test bs) e in cons_ascii b bs (small b p.0) (many_ascii test small bs p.1)

pub digits_ascii : (bs : Bytes) → list_all is_digit bs ≡ true → IsAscii bs
digits_ascii = many_ascii is_digit digit_small

inside_ascii : (q : ℕ) → q < 128 → (bs : Bytes) → Inside q bs → IsAscii bs
inside_ascii q small bs none = none_ascii
inside_ascii q small bs (plain b text low high other bare rest) = cons_ascii b text (omega arith) (inside_ascii q small text rest)
inside_ascii q small bs (escaped b text (inl e) rest) =
    cons_ascii 92 (b ∷ text) (omega arith) (cons_ascii b text (omega (arith, e)) (inside_ascii q small text rest))
inside_ascii q small bs (escaped b text (inr e) rest) =
    cons_ascii 92 (b ∷ text) (omega arith) (cons_ascii b text (omega (arith, e, small)) (inside_ascii q small text rest))

-- ---- the law

pub lower_ascii : (bs : Bytes) → IsToken kind.Lower bs → IsAscii bs
lower_ascii bs (front, back, (b, is, one), many, split) =
    subst IsAscii (sym (split ∙ ap (λ (f : Bytes). f ++ back) one))
    (cons_ascii b back (lower_small b is) (many_ascii is_word_byte word_small back many))

pub upper_ascii : (bs : Bytes) → IsToken kind.Upper bs → IsAscii bs
upper_ascii bs (front, back, (b, is, one), many, split) =
    subst IsAscii (sym (split ∙ ap (λ (f : Bytes). f ++ back) one))
    (cons_ascii b back (upper_small b is) (many_ascii is_word_byte word_small back many))

pub quoted_ascii : (bs : Bytes) → IsToken kind.Quoted bs → IsAscii bs
quoted_ascii bs (inside, ins, some, split) =
    subst IsAscii (sym split) (cons_ascii 39 (inside ++ 39 ∷ []) (omega arith)
    (append_ascii inside (39 ∷ []) (inside_ascii 39 (omega arith) inside ins) (cons_ascii 39 [] (omega arith) none_ascii)))

take_ascii : (n : ℕ) (bs : Bytes) → IsAscii bs → IsAscii (take n bs)
take_ascii zero bs p = none_ascii
take_ascii (suc n) [] p = none_ascii
take_ascii (suc n) (b ∷ bs) p = cons_ascii b (take n bs) (p 0) (take_ascii n bs (λ i. p (suc i)))

pub content_ascii : (bs : Bytes) → IsAscii bs → IsAscii (content bs)
content_ascii [] p = p
content_ascii (b ∷ bs) p = take_ascii (length bs - 1) bs (λ i. p (suc i))
