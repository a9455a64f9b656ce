-- Which kinds of tokens begin with which bytes, and the longest token at a place.
use Rattle.std.proofs.Common.{◌≡◌, ◌≢◌, ◌⊎◌, ◌∙◌, ◌&&◌, ◌||◌, ◌==◌, ◌+◌, ◌<◌, ◌≤◌, ◌++◌, ◌∷◌, [], ℕ, Bool, true, false, if◌then◌else◌, nat_le, codes, length, drop, get_or, append_assoc, length-append, length-drop, refl, sym, ap, subst, arith, inl, inr, true≢false, leb-true, eqb-true}
use Rattle.std.proofs.lemmas.Bool.{lt-leb, and_parts, ne_eqb}
use Rattle.cd_lex.specs.Bytes.{Bytes, is_lower, is_upper, is_digit, is_word_byte, is_dollar, is_plus_or_minus, is_sign, is_other}
use Rattle.cd_lex.specs.Scans.{Ends, EndsToken, EndsQuoted, BeginsNoWord}
use Rattle.cd_lex.specs.Tokens.{Then, Optional, One, Many, IsInteger, IsNumber, IsLower, IsDollar, IsSign, IsToken, IsAnyToken, Begins, BeginsNo, Inside, none, plain, escaped}
use Rattle.cd_lex.specs.Gaps.{BeginsNoGap}
use Rattle.cd_lex.specs.Next.{IsStray, BeginsFault}
use Rattle.cd_lex.specs.declared.LexFault.TheVariants.{BadByte}
use Rattle.cd_lex.specs.declared.TokenKind.{TokenKind}
use Rattle.cd_lex.specs.declared.TokenKind.TheVariants.{Lower, Upper, Dollar, Quoted, Object, Number, Sign, Other}
use Rattle.cd_lex.proofs.PlaceLemmas.{from_place, two_from_place}
use Rattle.cd_lex.proofs.FormLemmas.{First, first_then}
use Rattle.cd_lex.proofs.NumberLemmas.{among}

-- kinds by number; 7 is none
abbrev pub code : TokenKind → ℕ
code Lower = 0
code Upper = 1
code Dollar = 2
code Quoted = 3
code Object = 4
code Number = 5
code Sign = 6
code Other = 8

decoded : ℕ → TokenKind
decoded n = if n == 0 then Lower else (if n == 1 then Upper else (if n == 2 then Dollar else (if n == 3 then Quoted
    else (if n == 4 then Object else (if n == 5 then Number else (if n == 6 then Sign else Other))))))

decoded-code : (k : TokenKind) → decoded (code k) ≡ k
unfolding decoded
decoded-code Lower = refl
decoded-code Upper = refl
decoded-code Dollar = refl
decoded-code Quoted = refl
decoded-code Object = refl
decoded-code Number = refl
decoded-code Sign = refl
decoded-code Other = refl

pub same_code : (j k : TokenKind) → code j ≡ code k → j ≡ k
same_code j k e = sym (decoded-code j) ∙ ap decoded e ∙ decoded-code k

pub no_kind : (k : TokenKind) → code k ≡ 7 → ⊥
no_kind Lower e = omega arith
no_kind Upper e = omega arith
no_kind Dollar e = omega arith
no_kind Quoted e = omega arith
no_kind Object e = omega arith
no_kind Number e = omega arith
no_kind Sign e = omega arith
no_kind Other e = omega arith

-- the kind of token, longer than a byte, that a byte may begin
abbrev pub choice : Bool → Bool → Bool → Bool → Bool → Bool → Bool → ℕ
choice lower upper dollar quote double number mark =
    if lower then 0 else (if upper then 1 else (if dollar then 2 else (if quote then 3 else (if double then 4 else (if number then 5 else (if mark then 6 else 7))))))

abbrev pub begins_number : ℕ → Bool
begins_number b = is_digit b || is_plus_or_minus b

abbrev pub group : ℕ → ℕ
group b = choice (is_lower b) (is_upper b) (is_dollar b) (b == 39) (b == 34) (begins_number b) (b == 33)

below_lower : (b : ℕ) → b < 97 → is_lower b ≡ false
below_lower b lt = ap (λ (t : Bool). t && nat_le b 122) (lt-leb 97 b lt)

below_upper : (b : ℕ) → b < 65 → is_upper b ≡ false
below_upper b lt = ap (λ (t : Bool). t && nat_le b 90) (lt-leb 65 b lt)

group_lower : (b : ℕ) → is_lower b ≡ true → group b ≡ 0
group_lower b is = ap (λ (t : Bool). choice t (is_upper b) (is_dollar b) (b == 39) (b == 34) (begins_number b) (b == 33)) is

group_upper : (b : ℕ) → is_upper b ≡ true → group b ≡ 1
group_upper b is =
    let h = leb-true b 90 (and_parts (nat_le 65 b) (nat_le b 90) is).1 in
    let low : is_lower b ≡ false = below_lower b (omega arith) in
    λ i. choice (low i) (is i) (is_dollar b) (b == 39) (b == 34) (begins_number b) (b == 33)

group_number : (b : ℕ) → begins_number b ≡ true → group b ≡ 5
group_number b is = by (is_digit b) refl is
  where
    by : (t : Bool) → is_digit b ≡ t → (t || is_plus_or_minus b) ≡ true → group b ≡ 5
    by true e h =
        let r = and_parts (nat_le 48 b) (nat_le b 57) e in
        let least = leb-true 48 b r.0 in
        let most = leb-true b 57 r.1 in
        let low : is_lower b ≡ false = below_lower b (omega arith) in
        let up : is_upper b ≡ false = below_upper b (omega arith) in
        let dollar : is_dollar b ≡ false = ne_eqb b 36 (λ f. omega arith) in
        let quote : (b == 39) ≡ false = ne_eqb b 39 (λ f. omega arith) in
        let double : (b == 34) ≡ false = ne_eqb b 34 (λ f. omega arith) in
        λ i. choice (low i) (up i) (dollar i) (quote i) (double i) (is i) (b == 33)
    by false e h = eqb-true (group b) 5 (among (λ x. group x == 5) (codes "+-") b refl h)

-- a token is one byte, or begins as its kind says
pub data Head (k : TokenKind) (text : Bytes) : Type 0 where
  single : (b : ℕ) → text ≡ b ∷ [] → ((k ≡ Sign) × (is_sign b ≡ true)) ⊎ ((k ≡ Other) × (is_other b ≡ true)) → Head k text
  opened : (b : ℕ) (rest : Bytes) → text ≡ b ∷ rest → code k ≡ group b → Head k text

integer_first : (text : Bytes) → IsInteger text → First text begins_number
integer_first text (s, [], sign, digits, e) = absurd (digits.0 refl)
integer_first text (s, d ∷ ds, inl bare, digits, e) = record {
  byte = d;
  rest = ds;
  is = e ∙ ap (λ (l : Bytes). l ++ d ∷ ds) bare;
  passes = ap (λ (t : Bool). t || is_plus_or_minus d) (and_parts (is_digit d) _ digits.1).0;
}
integer_first text (s, d ∷ ds, inr (c, passes, one), digits, e) = record {
  byte = c;
  rest = d ∷ ds;
  is = e ∙ ap (λ (l : Bytes). l ++ d ∷ ds) one;
  passes = second (is_digit c) passes;
}
  where
    second : (t : Bool) → is_plus_or_minus c ≡ true → (t || is_plus_or_minus c) ≡ true
    second true h = refl
    second false h = h

pub head : (k : TokenKind) (text : Bytes) → IsToken k text → Head k text
head Lower text is = let r = first_then is_lower (Many is_word_byte) text is in opened r.byte r.rest r.is (sym (group_lower r.byte r.passes))
head Upper text is = let r = first_then is_upper (Many is_word_byte) text is in opened r.byte r.rest r.is (sym (group_upper r.byte r.passes))
head Dollar text is =
    let r = first_then is_dollar (Then (Optional (One is_dollar)) IsLower) text is in
    opened r.byte r.rest r.is (sym (ap group (eqb-true r.byte 36 r.passes)))
head Quoted text (inside, ins, some, e) = opened 39 (inside ++ 39 ∷ []) e refl
head Object text (inside, ins, e) = opened 34 (inside ++ 34 ∷ []) e refl
head Number text (i, parts, is, more, e) =
    let r = integer_first i is in
    opened r.byte (r.rest ++ parts) (e ∙ ap (λ (l : Bytes). l ++ parts) r.is) (sym (group_number r.byte r.passes))
head Sign text (inl e) = opened 33 (61 ∷ []) e refl
head Sign text (inr (b, passes, e)) = single b e (inl (refl, passes))
head Other text (b, passes, e) = single b e (inr (refl, passes))

-- a token is the longest where no token of a kind that its first byte may begin is longer
pub longest_token : (K : TokenKind) (b : ℕ) (more bytes rest : Bytes) → IsToken K (b ∷ more) → bytes ≡ (b ∷ more) ++ rest
    → ((k : TokenKind) (other after : Bytes) → code k ≡ group b → IsToken k other → bytes ≡ other ++ after → length other ≤ length (b ∷ more))
    → Begins K (b ∷ more) bytes
longest_token K b more bytes rest is split bound =
    (is, record { rest = rest; split = split; is = (K, is); longest = λ other after any e. by other after any.0 any.1 (head any.0 other any.1) e })
  where
    by : (other after : Bytes) (k : TokenKind) → IsToken k other → Head k other → bytes ≡ other ++ after → length other ≤ length (b ∷ more)
    by other after k is' (single c one kind) e = omega (arith, ap length one)
    by other after k is' (opened c tail first same) e =
        let whole : b ∷ (more ++ rest) ≡ c ∷ (tail ++ after) = sym split ∙ e ∙ ap (λ (l : Bytes). l ++ after) first in
        let eq : c ≡ b = cc in
        bound k other after (same ∙ ap group eq) is' e

-- the longest text of a kind that isn't a sign and not an other token
pub own_token : (K : TokenKind) → K ≢ Sign → K ≢ Other → (bytes : Bytes) (from end : ℕ) → Ends (IsToken K) bytes from end → EndsToken K bytes from end
own_token K no_sign no_other bytes from end r = by (head K r.text r.longest.is)
  where
    by : Head K r.text → EndsToken K bytes from end
    by (single b one (inl sign)) = absurd (no_sign sign.0)
    by (single b one (inr other)) = absurd (no_other other.0)
    by (opened b more first same) = (
      b ∷ more,
      longest_token K b more bytes r.longest.rest (subst (IsToken K) first r.longest.is) (r.longest.split ∙ ap (λ (l : Bytes). l ++ r.longest.rest) first)
          (λ k other after c is e.
          let eq : k ≡ K = same_code k K (c ∙ sym same) in
          let le : length other ≤ length r.text = r.longest.longest other after (subst (λ (j : TokenKind). IsToken j other) eq is) e in
          omega (arith, ap length first)),
      r.place ∙ ap (λ (l : Bytes). from + length l) first,
    )

-- `!=`
pub unequal_token : (bytes : Bytes) (at : ℕ) → at + 1 < length bytes → get_or bytes at 0 ≡ 33 → get_or bytes (at + 1) 0 ≡ 61 → EndsToken Sign (drop at bytes) at (at + 2)
unequal_token bytes at lt mark equal = (
  33 ∷ 61 ∷ [],
  longest_token Sign 33 (61 ∷ []) (drop at bytes) (drop (at + 2) bytes) (inl refl) (two_from_place bytes at lt ∙ (λ i. mark i ∷ equal i ∷ drop (at + 2) bytes))
      (λ k other after c is e. by other (subst (λ (j : TokenKind). IsToken j other) (same_code k Sign c) is)),
  omega arith,
)
  where
    by : (other : Bytes) → IsSign other → length other ≤ 2
    by other (inl e) = omega (arith, ap length e)
    by other (inr (b, passes, one)) = omega (arith, ap length one)

-- `!=` doesn't stand there
abbrev pub NoUnequal : Bytes → Type 0
NoUnequal bytes = (rest : Bytes) → bytes ≢ 33 ∷ 61 ∷ rest

pub no_unequal_at : (bytes : Bytes) (at : ℕ) → at < length bytes → ((get_or bytes at 0 ≢ 33) ⊎ ((length bytes ≤ at + 1) ⊎ (get_or bytes (at + 1) 0 ≢ 61))) → NoUnequal (drop at bytes)
no_unequal_at bytes at lt (inl other) rest e =
    let w : get_or bytes at 0 ∷ drop (at + 1) bytes ≡ 33 ∷ 61 ∷ rest = sym (from_place bytes at lt) ∙ e in
    let same : get_or bytes at 0 ≡ 33 = cc in other same
no_unequal_at bytes at lt (inr (inl past)) rest e = omega (arith, ap length e, length-drop at bytes)
no_unequal_at bytes at lt (inr (inr other)) rest e =
    let n : at + 1 < length bytes = omega (arith, ap length e, length-drop at bytes) in
    let w : get_or bytes at 0 ∷ get_or bytes (at + 1) 0 ∷ drop (at + 2) bytes ≡ 33 ∷ 61 ∷ rest = sym (two_from_place bytes at n) ∙ e in
    let same : get_or bytes (at + 1) 0 ≡ 61 = cc in other same

pub sign_group : (b : ℕ) → is_sign b ≡ true → 5 ≤ group b
sign_group b is = leb-true 5 (group b) (among (λ x. nat_le 5 (group x)) (codes "()[],.:~=|") b refl is)

pub other_group : (b : ℕ) → is_other b ≡ true → 5 ≤ group b
other_group b is = leb-true 5 (group b) (among (λ x. nat_le 5 (group x)) (codes "&@!?<>*+-^;{}/") b refl is)

-- a token of one byte, where no number and no `!=` stands
byte_token : (K : TokenKind) (bytes : Bytes) (at : ℕ) → at < length bytes → IsToken K (get_or bytes at 0 ∷ []) → 5 ≤ group (get_or bytes at 0)
    → BeginsNo IsNumber (drop at bytes) → NoUnequal (drop at bytes) → EndsToken K (drop at bytes) at (at + 1)
byte_token K bytes at lt is late no_number no_unequal =
    (get_or bytes at 0 ∷ [], longest_token K (get_or bytes at 0) [] (drop at bytes) (drop (at + 1) bytes) is (from_place bytes at lt) by, omega arith)
  where
    by : (k : TokenKind) (other after : Bytes) → code k ≡ group (get_or bytes at 0) → IsToken k other → drop at bytes ≡ other ++ after → length other ≤ 1
    by Lower other after c is' e = absurd (omega arith)
    by Upper other after c is' e = absurd (omega arith)
    by Dollar other after c is' e = absurd (omega arith)
    by Quoted other after c is' e = absurd (omega arith)
    by Object other after c is' e = absurd (omega arith)
    by Number other after c is' e = absurd (no_number.no other after is' e)
    by Sign other after c (inl pair) e = absurd (no_unequal after (e ∙ ap (λ (l : Bytes). l ++ after) pair))
    by Sign other after c (inr (b, passes, one)) e = omega (arith, ap length one)
    by Other other after c (b, passes, one) e = omega (arith, ap length one)

pub sign_token : (bytes : Bytes) (at : ℕ) → at < length bytes → is_sign (get_or bytes at 0) ≡ true → BeginsNo IsNumber (drop at bytes) → NoUnequal (drop at bytes)
    → EndsToken Sign (drop at bytes) at (at + 1)
sign_token bytes at lt is no_number no_unequal =
    byte_token Sign bytes at lt (inr (get_or bytes at 0, is, refl)) (sign_group (get_or bytes at 0) is) no_number no_unequal

pub other_token : (bytes : Bytes) (at : ℕ) → at < length bytes → is_other (get_or bytes at 0) ≡ true → BeginsNo IsNumber (drop at bytes) → NoUnequal (drop at bytes)
    → EndsToken Other (drop at bytes) at (at + 1)
other_token bytes at lt is no_number no_unequal =
    byte_token Other bytes at lt (get_or bytes at 0, is, refl) (other_group (get_or bytes at 0) is) no_number no_unequal

-- ---- bytes that begin no token

pub stray : (bytes : Bytes) (at : ℕ) → at < length bytes → BeginsNoGap (drop at bytes) → get_or bytes at 0 ≢ 39 → get_or bytes at 0 ≢ 34
    → BeginsNo IsAnyToken (drop at bytes) → BeginsFault (drop at bytes) at (BadByte at)
stray bytes at lt no_gap quote double no_token =
    (0, inl (subst IsStray (sym here) (subst (BeginsNo IsAnyToken) here no_token, subst BeginsNoGap here no_gap, quote, double), refl), omega arith)
  where
    here : drop at bytes ≡ get_or bytes at 0 ∷ drop (at + 1) bytes
    here = from_place bytes at lt

no_token_at : (bytes : Bytes) (at : ℕ) → at < length bytes → is_sign (get_or bytes at 0) ≡ false → is_other (get_or bytes at 0) ≡ false
    → ((k : TokenKind) → code k ≡ group (get_or bytes at 0) → BeginsNo (IsToken k) (drop at bytes)) → BeginsNo IsAnyToken (drop at bytes)
no_token_at bytes at lt no_sign no_other kinds = record { no = λ text rest any e. by any.0 text rest any.1 (head any.0 text any.1) e }
  where
    by : (k : TokenKind) (text rest : Bytes) → IsToken k text → Head k text → drop at bytes ≡ text ++ rest → ⊥
    by k text rest is (single b one (inl kind)) e =
        let whole : get_or bytes at 0 ∷ drop (at + 1) bytes ≡ b ∷ rest = sym (from_place bytes at lt) ∙ e ∙ ap (λ (l : Bytes). l ++ rest) one in
        let same : get_or bytes at 0 ≡ b = cc in
        true≢false (sym kind.1 ∙ ap is_sign (sym same) ∙ no_sign)
    by k text rest is (single b one (inr kind)) e =
        let whole : get_or bytes at 0 ∷ drop (at + 1) bytes ≡ b ∷ rest = sym (from_place bytes at lt) ∙ e ∙ ap (λ (l : Bytes). l ++ rest) one in
        let same : get_or bytes at 0 ≡ b = cc in
        true≢false (sym kind.1 ∙ ap is_other (sym same) ∙ no_other)
    by k text rest is (opened b tail first same) e =
        let whole : get_or bytes at 0 ∷ drop (at + 1) bytes ≡ b ∷ (tail ++ rest) = sym (from_place bytes at lt) ∙ e ∙ ap (λ (l : Bytes). l ++ rest) first in
        let eq : b ≡ get_or bytes at 0 = cc in
        (kinds k (same ∙ ap group eq)).no text rest is e

-- a `$` with no lower word behind it
pub stray_dollar : (bytes : Bytes) (at : ℕ) → at < length bytes → BeginsNoGap (drop at bytes) → is_dollar (get_or bytes at 0) ≡ true → BeginsNo IsDollar (drop at bytes)
    → BeginsFault (drop at bytes) at (BadByte at)
stray_dollar bytes at lt no_gap dollar unmarked =
    let is : get_or bytes at 0 ≡ 36 = eqb-true (get_or bytes at 0) 36 dollar in
    stray bytes at lt no_gap (λ e. omega arith) (λ e. omega arith)
    (no_token_at bytes at lt (ap is_sign is) (ap is_other is)
    (λ k c. subst (λ (j : TokenKind). BeginsNo (IsToken j) (drop at bytes)) (sym (same_code k Dollar (c ∙ ap group is))) unmarked))

-- any other
pub stray_byte : (bytes : Bytes) (at : ℕ) → at < length bytes → BeginsNoGap (drop at bytes) → BeginsNoWord (get_or bytes at 0)
    → is_sign (get_or bytes at 0) ≡ false → is_other (get_or bytes at 0) ≡ false → BeginsNo IsNumber (drop at bytes) → NoUnequal (drop at bytes)
    → BeginsFault (drop at bytes) at (BadByte at)
stray_byte bytes at lt no_gap no_word no_sign no_other no_number no_unequal =
    stray bytes at lt no_gap no_word.quote no_word.double_quote (no_token_at bytes at lt no_sign no_other by)
  where
    late : (t u : Bool) → 5 ≤ (if t then 5 else (if u then 6 else 7))
    late true u = omega arith
    late false true = omega arith
    late false false = omega arith

    group_late : 5 ≤ group (get_or bytes at 0)
    group_late =
        let e : group (get_or bytes at 0) ≡ choice false false false false false (begins_number (get_or bytes at 0)) (get_or bytes at 0 == 33)
        = λ i. choice (no_word.lower i) (no_word.upper i) (no_word.dollar i) (ne_eqb (get_or bytes at 0) 39 no_word.quote i) (ne_eqb (get_or bytes at 0) 34 no_word.double_quote i)
        (begins_number (get_or bytes at 0)) (get_or bytes at 0 == 33) in
        subst (λ (n : ℕ). 5 ≤ n) (sym e) (late (begins_number (get_or bytes at 0)) (get_or bytes at 0 == 33))

    by : (k : TokenKind) → code k ≡ group (get_or bytes at 0) → BeginsNo (IsToken k) (drop at bytes)
    by Lower c = absurd (omega (arith, group_late))
    by Upper c = absurd (omega (arith, group_late))
    by Dollar c = absurd (omega (arith, group_late))
    by Quoted c = absurd (omega (arith, group_late))
    by Object c = absurd (omega (arith, group_late))
    by Number c = no_number
    by Sign c = record { no = λ text rest is e. sign text rest is e }
      where
        sign : (text rest : Bytes) → IsSign text → drop at bytes ≡ text ++ rest → ⊥
        sign text rest (inl pair) e = no_unequal rest (e ∙ ap (λ (l : Bytes). l ++ rest) pair)
        sign text rest (inr (x, passes, one)) e =
            let whole : get_or bytes at 0 ∷ drop (at + 1) bytes ≡ x ∷ rest = sym (from_place bytes at lt) ∙ e ∙ ap (λ (l : Bytes). l ++ rest) one in
            let same : get_or bytes at 0 ≡ x = cc in
            true≢false (sym passes ∙ ap is_sign (sym same) ∙ no_sign)
    by Other c = record {
      no = λ text rest is e.
          let whole : get_or bytes at 0 ∷ drop (at + 1) bytes ≡ is.0 ∷ rest = sym (from_place bytes at lt) ∙ e ∙ ap (λ (l : Bytes). l ++ rest) is.2 in
          let same : get_or bytes at 0 ≡ is.0 = cc in
          true≢false (sym is.1 ∙ ap is_other (sym same) ∙ no_other);
    }

-- ---- quoted texts

-- of two texts that the same quote closes at one place, each is the other
pub inside_same : (q : ℕ) → q ≢ 92 → (a b r s : Bytes) → Inside q a → Inside q b → a ++ q ∷ r ≡ b ++ q ∷ s → a ≡ b
inside_same q mark a b r s none none e = refl
inside_same q mark a b r s none (plain y t low high other bare t') e =
    let w : q ∷ r ≡ y ∷ (t ++ q ∷ s) = e in let same : y ≡ q = cc in absurd (other same)
inside_same q mark a b r s none (escaped y t pair t') e =
    let w : q ∷ r ≡ 92 ∷ y ∷ (t ++ q ∷ s) = e in let same : q ≡ 92 = cc in absurd (mark same)
inside_same q mark a b r s (plain x u low high other bare u') none e =
    let w : x ∷ (u ++ q ∷ r) ≡ q ∷ s = e in let same : x ≡ q = cc in absurd (other same)
inside_same q mark a b r s (plain x u low high other bare u') (plain y t low' high' other' bare' t') e =
    let w : x ∷ (u ++ q ∷ r) ≡ y ∷ (t ++ q ∷ s) = e in
    let same : x ≡ y = cc in
    let tails : u ++ q ∷ r ≡ t ++ q ∷ s = cc in
    λ i. same i ∷ inside_same q mark u t r s u' t' tails i
inside_same q mark a b r s (plain x u low high other bare u') (escaped y t pair t') e =
    let w : x ∷ (u ++ q ∷ r) ≡ 92 ∷ y ∷ (t ++ q ∷ s) = e in let same : x ≡ 92 = cc in absurd (bare same)
inside_same q mark a b r s (escaped x u pair u') none e =
    let w : 92 ∷ x ∷ (u ++ q ∷ r) ≡ q ∷ s = e in let same : q ≡ 92 = cc in absurd (mark same)
inside_same q mark a b r s (escaped x u pair u') (plain y t low high other bare t') e =
    let w : 92 ∷ x ∷ (u ++ q ∷ r) ≡ y ∷ (t ++ q ∷ s) = e in let same : y ≡ 92 = cc in absurd (bare same)
inside_same q mark a b r s (escaped x u pair u') (escaped y t pair' t') e =
    let w : 92 ∷ x ∷ (u ++ q ∷ r) ≡ 92 ∷ y ∷ (t ++ q ∷ s) = e in
    let same : x ≡ y = cc in
    let tails : u ++ q ∷ r ≡ t ++ q ∷ s = cc in
    λ i. 92 ∷ same i ∷ inside_same q mark u t r s u' t' tails i

abbrev pub around : ℕ → Bytes → Bytes
around q inside = q ∷ (inside ++ q ∷ [])

around_split : (q : ℕ) (inside rest : Bytes) → q ∷ (inside ++ q ∷ rest) ≡ around q inside ++ rest
around_split q inside rest = ap (λ (l : Bytes). q ∷ l) (sym (append_assoc inside (q ∷ []) rest))

around_length : (q : ℕ) → q ≢ 92 → (a b r s bytes : Bytes) → Inside q a → Inside q b → bytes ≡ q ∷ (a ++ q ∷ r) → bytes ≡ around q b ++ s → length (around q b) ≤ length (around q a)
around_length q mark a b r s bytes ins ins' split e =
    let whole : q ∷ (a ++ q ∷ r) ≡ q ∷ (b ++ q ∷ s) = sym split ∙ e ∙ sym (around_split q b s) in
    let tails : a ++ q ∷ r ≡ b ++ q ∷ s = cc in
    let same : a ≡ b = inside_same q mark a b r s ins ins' tails in
    omega (arith, ap (λ (l : Bytes). length (around q l)) same)

pub quoted_token : (bytes : Bytes) (from end : ℕ) → EndsQuoted 39 bytes from end → EndsToken Quoted bytes from end
quoted_token bytes from end (inside, rest, ins, some, split, place) = own_token Quoted (λ e. cc) (λ e. cc) bytes from end (record {
  text = around 39 inside;
  longest = record {
    rest = rest;
    split = split ∙ around_split 39 inside rest;
    is = (inside, ins, some refl, refl);
    longest = λ other after is e.
        let le = around_length 39 (λ f. omega arith) inside is.0 rest after bytes ins is.1 split (e ∙ ap (λ (l : Bytes). l ++ after) is.3) in
        omega (arith, ap length is.3, le);
  };
  place = omega (arith, length-append inside (39 ∷ []));
})

pub object_token : (bytes : Bytes) (from end : ℕ) → EndsQuoted 34 bytes from end → EndsToken Object bytes from end
object_token bytes from end (inside, rest, ins, some, split, place) = own_token Object (λ e. cc) (λ e. cc) bytes from end (record {
  text = around 34 inside;
  longest = record {
    rest = rest;
    split = split ∙ around_split 34 inside rest;
    is = (inside, ins, refl);
    longest = λ other after is e.
        let le = around_length 34 (λ f. omega arith) inside is.0 rest after bytes ins is.1 split (e ∙ ap (λ (l : Bytes). l ++ after) is.2) in
        omega (arith, ap length is.2, le);
  };
  place = omega (arith, length-append inside (34 ∷ []));
})
