-- The texts of tokens are printable.
use Rattle.std.proofs.Common.{◌≡◌, ◌≢◌, inl, inr, ◌∙◌, ◌||◌, ◌==◌, ◌-◌, ◌≤◌, ◌++◌, ◌∷◌, [], ℕ, zero, suc, Bool, true, false, List, if◌then◌else◌, nat_le, length, take, codes, refl, sym, ap, subst, arith, leb-true, eqb-true}
use Rattle.std.specs.List.{list_all, AllByRecursion}
use Rattle.std.specs.Str.{bytes_eq}
use Rattle.cd_list.proofs.Lists.{all_append}
use Rattle.std.proofs.lemmas.Bool.{and_parts, or_cases}
use Rattle.cd_lex.specs.Bytes.{Bytes, is_lower, is_upper, is_digit, is_word_byte}
use Rattle.cd_lex.specs.Tokens.{IsToken, IsDigits, Inside, none, plain, escaped}
use Rattle.cd_lex.specs.declared.TokenKind.{TokenKind}
use Rattle.cd_lex.specs.declared.TokenKind.TheVariants as kind
use Rattle.cd_lex.proofs.KindLemmas.{Head, single, opened, head}
use Rattle.cd_parse.specs.declared.terminal.Terminal.{Terminal}
use Rattle.cd_parse.specs.declared.terminal.Terminal.TheVariants.{Word, Upper, Truth, Digits, Foreign, Sign, Other}
use Rattle.cd_parse.specs.declared.terminal.Foreign.TheVariants as foreign
use Rattle.cd_parse.specs.Parts.{unescaped, content, sign_of, terminal_of, Placed, terminals, Tokens}
use Rattle.cd_parse.specs.Parts as parts
use Rattle.cd_read.specs.Formed.{IsPrintable}

-- ---- bytes

lower_print : (b : ℕ) → is_lower b ≡ true → (32 ≤ b) × (b ≤ 126)
lower_print b e = let p = and_parts (nat_le 97 b) (nat_le b 122) e in (omega (arith, leb-true 97 b p.0), omega (arith, leb-true b 122 p.1))

upper_print : (b : ℕ) → is_upper b ≡ true → (32 ≤ b) × (b ≤ 126)
upper_print b e = let p = and_parts (nat_le 65 b) (nat_le b 90) e in (omega (arith, leb-true 65 b p.0), omega (arith, leb-true b 90 p.1))

digit_print : (b : ℕ) → is_digit b ≡ true → (32 ≤ b) × (b ≤ 126)
digit_print b e = let p = and_parts (nat_le 48 b) (nat_le b 57) e in (omega (arith, leb-true 48 b p.0), omega (arith, leb-true b 57 p.1))

word_print : (b : ℕ) → is_word_byte b ≡ true → (32 ≤ b) × (b ≤ 126)
word_print b e = elim (or_cases (is_lower b) (is_upper b || (is_digit b || b == 95)) e) [
  | inl l ↦ lower_print b l
  | inr r ↦ elim (or_cases (is_upper b) (is_digit b || b == 95) r) [
    | inl u ↦ upper_print b u
    | inr s ↦ elim (or_cases (is_digit b) (b == 95) s) [
      | inl d ↦ digit_print b d
      | inr x ↦ (omega (arith, eqb-true b 95 x), omega (arith, eqb-true b 95 x))
    ]
  ]
]

many_print : (test : ℕ → Bool) → ((b : ℕ) → test b ≡ true → (32 ≤ b) × (b ≤ 126)) → (bs : Bytes) → list_all test bs ≡ true → IsPrintable bs
many_print test small [] e = tt
many_print test small (b ∷ bs) e = let p = and_parts (test b) (list_all test bs) e in (small b p.0, many_print test small bs p.1)

inside_print : (q : ℕ) → (32 ≤ q) × (q ≤ 126) → (bs : Bytes) → Inside q bs → IsPrintable bs
inside_print q small bs none = tt
inside_print q small bs (plain b text low high other bare rest) = ((low, high), inside_print q small text rest)
inside_print q small bs (escaped b text (inl e) rest) =
    ((omega arith, omega arith), ((omega (arith, e), omega (arith, e)), inside_print q small text rest))
inside_print q small bs (escaped b text (inr e) rest) =
    ((omega arith, omega arith), ((omega (arith, e, small.0), omega (arith, e, small.1)), inside_print q small text rest))

take_print : (n : ℕ) (bs : Bytes) → IsPrintable bs → IsPrintable (take n bs)
take_print zero bs p = tt
take_print (suc n) [] p = tt
take_print (suc n) (b ∷ bs) p = (p.0, take_print n bs p.1)

content_print : (bs : Bytes) → IsPrintable bs → IsPrintable (content bs)
content_print [] p = p
content_print (b ∷ bs) p = take_print (length bs - 1) bs p.1

unescaped_print : (bs : Bytes) → IsPrintable bs → IsPrintable (unescaped bs)
unescaped_print [] p = p
unescaped_print (b ∷ []) p = p
unescaped_print (b ∷ c ∷ bs) p = by (b == 92) (unescaped_print bs p.1.1) (unescaped_print (c ∷ bs) p.1)
  where
    by : (x : Bool) → IsPrintable (unescaped bs) → IsPrintable (unescaped (c ∷ bs))
        → IsPrintable (if x then c ∷ unescaped bs else b ∷ unescaped (c ∷ bs))
    by true two one = (p.1.0, two)
    by false two one = (p.0, one)

lower_text : (bs : Bytes) → IsToken kind.Lower bs → IsPrintable bs
lower_text bs (front, back, (b, is, one), many, split) =
    subst IsPrintable (sym (split ∙ ap (λ (f : Bytes). f ++ back) one)) (lower_print b is, many_print is_word_byte word_print back many)

quoted_text : (bs : Bytes) → IsToken kind.Quoted bs → IsPrintable bs
quoted_text bs (inside, ins, some, split) =
    subst IsPrintable (sym split) (
      (omega arith, omega arith),
      all_append (λ b. (32 ≤ b) × (b ≤ 126)) inside (39 ∷ []) (inside_print 39 (omega arith, omega arith) inside ins)
          ((omega arith, omega arith), tt),
    )

-- ---- tokens

-- the text of a word is printable, that of digits is one digit or more
abbrev pub IsTerminalLike : Terminal → Type 0
IsTerminalLike (Word q w) = IsPrintable w
IsTerminalLike (Upper x) = Unit {0}
IsTerminalLike (Truth b) = Unit {0}
IsTerminalLike (Digits d) = IsDigits d
IsTerminalLike (Foreign f) = Unit {0}
IsTerminalLike (Sign s) = Unit {0}
IsTerminalLike Other = Unit {0}

either : (b : Bool) (t u : Terminal) → IsTerminalLike t → IsTerminalLike u → IsTerminalLike (if b then t else u)
either true t u p q = p
either false t u p q = q

sign_like : (text : Bytes) → IsTerminalLike (sign_of text)
sign_like text =
    either (bytes_eq text (codes "(")) _ _ tt (either (bytes_eq text (codes ")")) _ _ tt (either (bytes_eq text (codes "[")) _ _ tt (either (bytes_eq text (codes "]")) _ _ tt
    (either (bytes_eq text (codes ",")) _ _ tt (either (bytes_eq text (codes ".")) _ _ tt (either (bytes_eq text (codes "=")) _ _ tt (either (bytes_eq text (codes "!=")) _ _ tt
    (either (bytes_eq text (codes "~")) _ _ tt (either (bytes_eq text (codes "|")) _ _ tt tt)))))))))

pub some_text : (k : TokenKind) (text : Bytes) → IsToken k text → text ≢ []
some_text k text is e = by (head k text is)
  where
    by : Head k text → ⊥
    by (single b one s) = let w : [] ≡ b ∷ [] = sym e ∙ one in cc
    by (opened b more first c) = let w : [] ≡ b ∷ more = sym e ∙ first in cc

like : (k : TokenKind) (text : Bytes) → IsToken k text → IsTerminalLike (terminal_of k text)
like kind.Lower text is = lower_text text is
like kind.Upper text is = tt
like kind.Dollar text is = either (bytes_eq text (codes "$true")) _ _ tt (either (bytes_eq text (codes "$false")) _ _ tt tt)
like kind.Quoted text is = unescaped_print (content text) (content_print text (quoted_text text is))
like kind.Object text is = tt
like kind.Number text is = by (list_all is_digit text) refl
  where
    by : (b : Bool) → list_all is_digit text ≡ b → IsTerminalLike (if b then Digits text else Foreign foreign.Number)
    by true e = (some_text kind.Number text is, e)
    by false e = tt
like kind.Sign text is = sign_like text
like kind.Other text is = tt

pub tokens_like : (bytes : Bytes) (from : ℕ) (ps : List Placed) (to : ℕ) → Tokens bytes from ps to
    → AllByRecursion (λ p. IsTerminalLike p.terminal) ps
tokens_like bytes from _ _ parts.none = tt
tokens_like bytes from _ _ (parts.further ps mid k start text d is) =
    all_append (λ p. IsTerminalLike p.terminal) ps _ (tokens_like bytes from ps mid d) (like k text is.2.0, tt)

pub terminals_like : (ps : List Placed) → AllByRecursion (λ p. IsTerminalLike p.terminal) ps → AllByRecursion IsTerminalLike (terminals ps)
terminals_like [] a = tt
terminals_like (p ∷ ps) a = (a.0, terminals_like ps a.1)
