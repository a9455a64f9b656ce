-- The law of `IsNext`: what comes next is single.
use Rattle.std.proofs.Common.{◌≡◌, ◌≢◌, ◌⊎◌, ◌∙◌, ◌&&◌, ◌==◌, ◌+◌, ◌≤◌, ◌++◌, ◌∷◌, [], ℕ, Bool, true, false, if◌then◌else◌, length, take, drop, append_assoc, append-nil, length-append, take_at, refl, sym, ap, subst, arith, inl, inr, true≢false, eqb-true}
use Rattle.std.proofs.lemmas.Bool.{ne_eqb}
use Rattle.cd_lex.specs.Bytes.{Bytes, is_blank, is_sign, is_other}
use Rattle.cd_lex.specs.Gaps.{BeginsNoGap, IsGapBetween, IsLastLine, IsOpenComment}
use Rattle.cd_lex.specs.Tokens.{IsToken, IsAnyToken, Begins, BeginsNo, Inside, none, plain, escaped}
use Rattle.cd_lex.specs.Next.{IsQuote, IsBadInside, IsStray, IsBad, BeginsFault, Next, token, nothing, fault, IsNext}
use Rattle.cd_lex.specs.Scans.{EndsInside}
use Rattle.cd_lex.specs.declared.LexFault.{LexFault}
use Rattle.cd_lex.specs.declared.LexFault.TheVariants.{BadByte, OpenQuote, OpenComment}
use Rattle.cd_lex.specs.declared.TokenKind.{TokenKind}
use Rattle.cd_lex.specs.declared.TokenKind.TheVariants.{Quoted, Object}
use Rattle.cd_lex.specs.declared.quotes.InsideEnd.{InsideEnd}
use Rattle.cd_lex.specs.declared.quotes.InsideEnd.TheVariants.{Closed, Bad, Unclosed}
use Rattle.cd_lex.proofs.PlaceLemmas.{same_front, same_back, differ}
use Rattle.cd_lex.proofs.KindLemmas.{code, group, same_code, Head, single, opened, head, around}
use Rattle.cd_lex.proofs.SingleLemmas.{Halts, halts_end, halts_line, halts_open, halts_other, place_single, kind_single}

-- ---- the inside of quotes

-- what the bytes from here on come to, as a number of characters
abbrev Comes : ℕ → Bytes → InsideEnd → Type 0
Comes q bytes r = EndsInside q bytes 0 r

-- a bad byte is neither the quote nor a character
bad_quote : (q : ℕ) → IsQuote q → (rest : Bytes) → IsBadInside q (q ∷ rest) → ⊥
bad_quote q (inl e) [] (inl (inl lt)) = omega arith
bad_quote q (inl e) [] (inl (inr lt)) = omega arith
bad_quote q (inl e) [] (inr mark) = omega arith
bad_quote q (inr e) [] (inl (inl lt)) = omega arith
bad_quote q (inr e) [] (inl (inr lt)) = omega arith
bad_quote q (inr e) [] (inr mark) = omega arith
bad_quote q (inl e) (d ∷ rest) (inl (inl lt)) = omega arith
bad_quote q (inl e) (d ∷ rest) (inl (inr lt)) = omega arith
bad_quote q (inl e) (d ∷ rest) (inr (mark, x, y)) = omega arith
bad_quote q (inr e) (d ∷ rest) (inl (inl lt)) = omega arith
bad_quote q (inr e) (d ∷ rest) (inl (inr lt)) = omega arith
bad_quote q (inr e) (d ∷ rest) (inr (mark, x, y)) = omega arith

bad_plain : (q b : ℕ) → 32 ≤ b → b ≤ 126 → b ≢ 92 → (rest : Bytes) → IsBadInside q (b ∷ rest) → ⊥
bad_plain q b low high other [] (inl (inl lt)) = omega arith
bad_plain q b low high other [] (inl (inr lt)) = omega arith
bad_plain q b low high other [] (inr mark) = other mark
bad_plain q b low high other (d ∷ rest) (inl (inl lt)) = omega arith
bad_plain q b low high other (d ∷ rest) (inl (inr lt)) = omega arith
bad_plain q b low high other (d ∷ rest) (inr (mark, x, y)) = other mark

bad_pair : (q b : ℕ) → (b ≡ 92) ⊎ (b ≡ q) → (rest : Bytes) → IsBadInside q (92 ∷ b ∷ rest) → ⊥
bad_pair q b pair rest (inl (inl lt)) = omega arith
bad_pair q b pair rest (inl (inr lt)) = omega arith
bad_pair q b (inl e) rest (inr (mark, x, y)) = x e
bad_pair q b (inr e) rest (inr (mark, x, y)) = y e

-- where the bytes behind some characters end them: at a quote, at a bad byte, or with the input
data Stop (q : ℕ) : Bytes → Type 0 where
  closes : (rest : Bytes) → Stop q (q ∷ rest)
  bad : (rest : Bytes) → IsBadInside q rest → Stop q rest
  ends : Stop q []

no_plain_stop : (q b : ℕ) (rest : Bytes) → 32 ≤ b → b ≤ 126 → b ≢ q → b ≢ 92 → Stop q (b ∷ rest) → ⊥
no_plain_stop q b rest low high other mark s = by (b ∷ rest) refl s
  where
    by : (bytes : Bytes) → bytes ≡ b ∷ rest → Stop q bytes → ⊥
    by bytes e (closes r) = let same : b ≡ q = cc in other same
    by bytes e (bad r is) = bad_plain q b low high mark rest (subst (IsBadInside q) e is)
    by bytes e ends = cc

no_pair_stop : (q b : ℕ) (rest : Bytes) → q ≢ 92 → (b ≡ 92) ⊎ (b ≡ q) → Stop q (92 ∷ b ∷ rest) → ⊥
no_pair_stop q b rest mark pair s = by (92 ∷ b ∷ rest) refl s
  where
    by : (bytes : Bytes) → bytes ≡ 92 ∷ b ∷ rest → Stop q bytes → ⊥
    by bytes e (closes r) = let same : q ≡ 92 = cc in mark same
    by bytes e (bad r is) = bad_pair q b pair rest (subst (IsBadInside q) e is)
    by bytes e ends = cc

-- the characters up to where they stop are single
inside_single : (q : ℕ) → q ≢ 92 → (a b r s : Bytes) → Inside q a → Inside q b → Stop q r → Stop q s → a ++ r ≡ b ++ s → a ≡ b
inside_single q mark a b r s none none h k e = refl
inside_single q mark a b r s none (plain y t low high other bare t') h k e =
    absurd (no_plain_stop q y (t ++ s) low high other bare (subst (Stop q) e h))
inside_single q mark a b r s none (escaped y t pair t') h k e = absurd (no_pair_stop q y (t ++ s) mark pair (subst (Stop q) e h))
inside_single q mark a b r s (plain x u low high other bare u') none h k e =
    absurd (no_plain_stop q x (u ++ r) low high other bare (subst (Stop q) (sym e) k))
inside_single q mark a b r s (escaped x u pair u') none h k e = absurd (no_pair_stop q x (u ++ r) mark pair (subst (Stop q) (sym e) k))
inside_single q mark a b r s (plain x u low high other bare u') (plain y t low' high' other' bare' t') h k e =
    let w : x ∷ (u ++ r) ≡ y ∷ (t ++ s) = e in
    let same : x ≡ y = cc in
    let tails : u ++ r ≡ t ++ s = cc in
    λ i. same i ∷ inside_single q mark u t r s u' t' h k tails i
inside_single q mark a b r s (plain x u low high other bare u') (escaped y t pair t') h k e =
    let w : x ∷ (u ++ r) ≡ 92 ∷ y ∷ (t ++ s) = e in let same : x ≡ 92 = cc in absurd (bare same)
inside_single q mark a b r s (escaped x u pair u') (plain y t low high other bare t') h k e =
    let w : 92 ∷ x ∷ (u ++ r) ≡ y ∷ (t ++ s) = e in let same : y ≡ 92 = cc in absurd (bare same)
inside_single q mark a b r s (escaped x u pair u') (escaped y t pair' t') h k e =
    let w : 92 ∷ x ∷ (u ++ r) ≡ 92 ∷ y ∷ (t ++ s) = e in
    let same : x ≡ y = cc in
    let tails : u ++ r ≡ t ++ s = cc in
    λ i. 92 ∷ same i ∷ inside_single q mark u t r s u' t' h k tails i

none_left : (q : ℕ) (rest : Bytes) → IsBadInside q rest → length rest ≤ 0 → ⊥
none_left q [] is few = is
none_left q (b ∷ rest) is few = omega arith

comes_single : (q : ℕ) → IsQuote q → q ≢ 92 → (bytes : Bytes) (r r' : InsideEnd) → Comes q bytes r → Comes q bytes r' → r ≡ r'
comes_single q quote mark bytes (Closed at) (Closed at') (a, x, p, e, m) (b, y, p', e', m') =
    let same : a ≡ b = inside_single q mark a b (q ∷ x) (q ∷ y) p p' (closes x) (closes y) (sym e ∙ e') in
    ap (λ (n : ℕ). Closed n) (m ∙ ap (λ (l : Bytes). 0 + length l) same ∙ sym m')
comes_single q quote mark bytes (Closed at) (Bad at') (a, x, p, e, m) (b, y, p', is, e', m') =
    let same : a ≡ b = inside_single q mark a b (q ∷ x) y p p' (closes x) (bad y is) (sym e ∙ e') in
    let back : q ∷ x ≡ y = same_back b (q ∷ x) y (ap (λ (l : Bytes). l ++ q ∷ x) (sym same) ∙ sym e ∙ e') in
    absurd (bad_quote q quote x (subst (IsBadInside q) (sym back) is))
comes_single q quote mark bytes (Closed at) Unclosed (a, x, p, e, m) p' =
    let same : a ≡ bytes = inside_single q mark a bytes (q ∷ x) [] p p' (closes x) ends (sym e ∙ sym (append-nil bytes)) in
    absurd (omega (arith, ap length e, ap length same, length-append a (q ∷ x)))
comes_single q quote mark bytes (Bad at) (Closed at') (a, x, p, is, e, m) (b, y, p', e', m') =
    let same : a ≡ b = inside_single q mark a b x (q ∷ y) p p' (bad x is) (closes y) (sym e ∙ e') in
    let back : x ≡ q ∷ y = same_back b x (q ∷ y) (ap (λ (l : Bytes). l ++ x) (sym same) ∙ sym e ∙ e') in
    absurd (bad_quote q quote y (subst (IsBadInside q) back is))
comes_single q quote mark bytes (Bad at) (Bad at') (a, x, p, is, e, m) (b, y, p', is', e', m') =
    let same : a ≡ b = inside_single q mark a b x y p p' (bad x is) (bad y is') (sym e ∙ e') in
    ap (λ (n : ℕ). Bad n) (m ∙ ap (λ (l : Bytes). 0 + length l) same ∙ sym m')
comes_single q quote mark bytes (Bad at) Unclosed (a, x, p, is, e, m) p' =
    let same : a ≡ bytes = inside_single q mark a bytes x [] p p' (bad x is) ends (sym e ∙ sym (append-nil bytes)) in
    absurd (none_left q x is (omega (arith, ap length e, ap length same, length-append a x)))
comes_single q quote mark bytes Unclosed (Closed at') p (b, y, p', e', m') =
    let same : bytes ≡ b = inside_single q mark bytes b [] (q ∷ y) p p' ends (closes y) (append-nil bytes ∙ e') in
    absurd (omega (arith, ap length e', ap length same, length-append b (q ∷ y)))
comes_single q quote mark bytes Unclosed (Bad at') p (b, y, p', is', e', m') =
    let same : bytes ≡ b = inside_single q mark bytes b [] y p p' ends (bad y is') (append-nil bytes ∙ e') in
    absurd (none_left q y is' (omega (arith, ap length e', ap length same, length-append b y)))
comes_single q quote mark bytes Unclosed Unclosed p p' = refl

-- ---- what stands at a place

abbrev Says : Bytes → ℕ → Next → Type 0
Says rest at (token kind start text) = (start ≡ at) × BeginsNoGap rest × Begins kind text rest
Says rest at nothing = (rest ≡ []) ⊎ IsLastLine rest
Says rest at (fault f) = BeginsFault rest at f

-- what the bytes from a quote on come to
abbrev answer_at : ℕ → Bytes → ℕ → InsideEnd → Next
answer_at q rest at (Closed n) =
    if (q == 39) && (n == 0) then fault (BadByte (at + 1)) else token (if q == 39 then Quoted else Object) at (take (n + 2) (q ∷ rest))
answer_at q rest at (Bad n) = fault (BadByte (at + (1 + n)))
answer_at q rest at Unclosed = fault (OpenQuote at)

record SaysQuoted (q : ℕ) (rest : Bytes) (at : ℕ) (a : Next) : Type 0 where
  inside : InsideEnd
  comes : Comes q rest inside
  is : a ≡ answer_at q rest at inside

quote_not : (q n : ℕ) → IsQuote q → q ≡ n → n ≢ 39 → n ≢ 34 → ⊥
quote_not q n (inl e) is x y = x (sym is ∙ e)
quote_not q n (inr e) is x y = y (sym is ∙ e)

whole_text : (q : ℕ) (inside rest after : Bytes) → q ∷ rest ≡ around q inside ++ after → around q inside ≡ take (length inside + 2) (q ∷ rest)
whole_text q inside rest after e =
    let n : length (around q inside) ≡ length inside + 2 = omega (arith, length-append inside (q ∷ [])) in
    sym (take_at (around q inside) after (length (around q inside)) refl) ∙ (λ i. take (n i) (sym e i))

-- the characters in front of the closing quote
closed_at : (q : ℕ) (inside rest after : Bytes) → Inside q inside → q ∷ rest ≡ around q inside ++ after → Comes q rest (Closed (length inside))
closed_at q inside rest after ins e =
    let w : q ∷ rest ≡ q ∷ ((inside ++ q ∷ []) ++ after) = e in
    let tails : rest ≡ (inside ++ q ∷ []) ++ after = cc in
    (inside, after, ins, tails ∙ append_assoc inside (q ∷ []) after, omega arith)

said_quoted : (rest : Bytes) (at start : ℕ) (text after : Bytes) → start ≡ at → IsToken Quoted text → 39 ∷ rest ≡ text ++ after → SaysQuoted 39 rest at (token Quoted start text)
said_quoted rest at start text after here ([], ins, some, e) split = absurd (some refl)
said_quoted rest at start text after here (x ∷ inside, ins, some, e) split =
    let whole : 39 ∷ rest ≡ around 39 (x ∷ inside) ++ after = split ∙ ap (λ (l : Bytes). l ++ after) e in
    let not_empty : (length (x ∷ inside) == 0) ≡ false = ne_eqb (length (x ∷ inside)) 0 (λ f. omega arith) in
    record {
      inside = Closed (length (x ∷ inside));
      comes = closed_at 39 (x ∷ inside) rest after ins whole;
      is = (λ i. token Quoted (here i) ((e ∙ whole_text 39 (x ∷ inside) rest after whole) i))
          ∙ sym (ap (λ (c : Bool). if c then fault (BadByte (at + 1)) else token Quoted at (take (length (x ∷ inside) + 2) (39 ∷ rest))) not_empty);
    }

said_object : (rest : Bytes) (at start : ℕ) (text after : Bytes) → start ≡ at → IsToken Object text → 34 ∷ rest ≡ text ++ after → SaysQuoted 34 rest at (token Object start text)
said_object rest at start text after here (inside, ins, e) split =
    let whole : 34 ∷ rest ≡ around 34 inside ++ after = split ∙ ap (λ (l : Bytes). l ++ after) e in
    record {
      inside = Closed (length inside);
      comes = closed_at 34 inside rest after ins whole;
      is = λ i. token Object (here i) ((e ∙ whole_text 34 inside rest after whole) i);
    }

-- a token that begins with a quote
quote_group : (q : ℕ) (kind : TokenKind) (text rest after : Bytes) → IsQuote q → IsToken kind text → q ∷ rest ≡ text ++ after → code kind ≡ group q
quote_group q kind text rest after quote is split = by (head kind text is)
  where
    by : Head kind text → code kind ≡ group q
    by (single b one (inl s)) =
        let w : q ∷ rest ≡ b ∷ after = split ∙ ap (λ (l : Bytes). l ++ after) one in
        let same : b ≡ q = cc in absurd (no_sign q quote (ap is_sign (sym same) ∙ s.1))
      where
        no_sign : (q : ℕ) → IsQuote q → is_sign q ≡ true → ⊥
        no_sign q (inl e) h = true≢false (sym h ∙ ap is_sign e)
        no_sign q (inr e) h = true≢false (sym h ∙ ap is_sign e)
    by (single b one (inr s)) =
        let w : q ∷ rest ≡ b ∷ after = split ∙ ap (λ (l : Bytes). l ++ after) one in
        let same : b ≡ q = cc in absurd (no_other q quote (ap is_other (sym same) ∙ s.1))
      where
        no_other : (q : ℕ) → IsQuote q → is_other q ≡ true → ⊥
        no_other q (inl e) h = true≢false (sym h ∙ ap is_other e)
        no_other q (inr e) h = true≢false (sym h ∙ ap is_other e)
    by (opened b more first c) =
        let w : q ∷ rest ≡ b ∷ (more ++ after) = split ∙ ap (λ (l : Bytes). l ++ after) first in
        let same : b ≡ q = cc in c ∙ ap group same

said_token : (q : ℕ) (rest : Bytes) (at start : ℕ) (kind : TokenKind) (text after : Bytes) → IsQuote q → start ≡ at → IsToken kind text → q ∷ rest ≡ text ++ after
    → SaysQuoted q rest at (token kind start text)
said_token q rest at start kind text after (inl e) here is split =
    let kind_is : kind ≡ Quoted = same_code kind Quoted (quote_group q kind text rest after (inl e) is split ∙ ap group e) in
    subst (λ (x : ℕ). SaysQuoted x rest at (token kind start text)) (sym e)
    (subst (λ (k : TokenKind). SaysQuoted 39 rest at (token k start text)) (sym kind_is)
    (said_quoted rest at start text after here (subst (λ (k : TokenKind). IsToken k text) kind_is is) (ap (λ (x : ℕ). x ∷ rest) (sym e) ∙ split)))
said_token q rest at start kind text after (inr e) here is split =
    let kind_is : kind ≡ Object = same_code kind Object (quote_group q kind text rest after (inr e) is split ∙ ap group e) in
    subst (λ (x : ℕ). SaysQuoted x rest at (token kind start text)) (sym e)
    (subst (λ (k : TokenKind). SaysQuoted 34 rest at (token k start text)) (sym kind_is)
    (said_object rest at start text after here (subst (λ (k : TokenKind). IsToken k text) kind_is is) (ap (λ (x : ℕ). x ∷ rest) (sym e) ∙ split)))

said_bad : (q : ℕ) (rest : Bytes) (at p n : ℕ) → IsQuote q → IsBad (q ∷ rest) n → p ≡ at + n → SaysQuoted q rest at (fault (BadByte p))
said_bad q rest at p n (inl e) (inl (stray, zero_)) place = absurd (stray.2 e)
said_bad q rest at p n (inr e) (inl (stray, zero_)) place = absurd (stray.3 e)
said_bad q rest at p n quote (inr (inl (r, e, one))) place =
    let is : q ≡ 39 = cc in
    let tails : rest ≡ 39 ∷ r = cc in
    record {
      inside = Closed 0;
      comes = ([], r, none, tails ∙ ap (λ (x : ℕ). x ∷ r) (sym is), refl);
      is = ap (λ (m : ℕ). fault (BadByte m)) (place ∙ ap (λ (m : ℕ). at + m) one)
          ∙ ap (λ (x : ℕ). if (x == 39) && true then fault (BadByte (at + 1)) else token (if x == 39 then Quoted else Object) at (take 2 (x ∷ rest))) (sym is);
    }
said_bad q rest at p n quote (inr (inr (q', inside, bad_, quote', ins, is, e, count))) place =
    let same : q' ≡ q = cc in
    let tails : rest ≡ inside ++ bad_ = cc in
    record {
      inside = Bad (length inside);
      comes = (inside, bad_, subst (λ (x : ℕ). Inside x inside) same ins, subst (λ (x : ℕ). IsBadInside x bad_) same is, tails, omega arith);
      is = ap (λ (m : ℕ). fault (BadByte m)) (place ∙ ap (λ (m : ℕ). at + m) count);
    }

quote_says : (q : ℕ) (rest : Bytes) (at : ℕ) (a : Next) → IsQuote q → Says (q ∷ rest) at a → SaysQuoted q rest at a
quote_says q rest at (token kind start text) quote (here, no_gap, begins) =
    said_token q rest at start kind text begins.1.rest quote here begins.0 begins.1.split
quote_says q rest at nothing quote (inl e) = absurd (cc)
quote_says q rest at nothing quote (inr (text, clear, e)) = let same : q ≡ 37 = cc in absurd (quote_not q 37 quote same (λ f. omega arith) (λ f. omega arith))
quote_says q rest at (fault (BadByte p)) quote (n, is, place) = said_bad q rest at p n quote is place
quote_says q rest at (fault (OpenQuote p)) quote ((q', inside, quote', ins, e), place) =
    let same : q' ≡ q = cc in
    let tails : inside ≡ rest = cc in
    record {
      inside = Unclosed;
      comes = subst (Inside q) tails (subst (λ (x : ℕ). Inside x inside) same ins);
      is = ap (λ (m : ℕ). fault (OpenQuote m)) place;
    }
quote_says q rest at (fault (OpenComment p)) quote ((text, closed, e), place) =
    let same : q ≡ 47 = cc in absurd (quote_not q 47 quote same (λ f. omega arith) (λ f. omega arith))

quote_single : (q : ℕ) (rest : Bytes) (at : ℕ) (a b : Next) → IsQuote q → Says (q ∷ rest) at a → Says (q ∷ rest) at b → a ≡ b
quote_single q rest at a b quote p p' =
    let r = quote_says q rest at a quote p in
    let s = quote_says q rest at b quote p' in
    r.is ∙ ap (answer_at q rest at) (comes_single q quote (λ e. quote_not q 92 quote e (λ f. omega arith) (λ f. omega arith)) rest r.inside s.inside r.comes s.comes) ∙ sym s.is

-- ---- where no quote stands

data Plain (rest : Bytes) (at : ℕ) : Next → Type 0 where
  left : (rest ≡ []) ⊎ IsLastLine rest → Plain rest at nothing
  words : (kind : TokenKind) (start : ℕ) (text : Bytes) → start ≡ at → BeginsNoGap rest → Begins kind text rest → Plain rest at (token kind start text)
  astray : (p : ℕ) → p ≡ at → rest ≢ [] → BeginsNo IsAnyToken rest → BeginsNoGap rest → Plain rest at (fault (BadByte p))
  open_comment : (p : ℕ) → p ≡ at → IsOpenComment rest → Plain rest at (fault (OpenComment p))

stray_some : (rest : Bytes) → IsStray rest → rest ≢ []
stray_some [] is e = is
stray_some (b ∷ rest) is e = cc

stray_parts : (rest : Bytes) → IsStray rest → BeginsNo IsAnyToken rest × BeginsNoGap rest
stray_parts [] is = absurd is
stray_parts (b ∷ rest) is = (is.0, is.1)

plain_says : (rest : Bytes) (at : ℕ) (a : Next) → ((b : ℕ) (more : Bytes) → IsQuote b → rest ≢ b ∷ more) → Says rest at a → Plain rest at a
plain_says rest at (token kind start text) no_quote (here, no_gap, begins) = words kind start text here no_gap begins
plain_says rest at nothing no_quote is = left is
plain_says rest at (fault (BadByte p)) no_quote (n, inl (stray, zero_), place) =
    astray p (omega arith) (stray_some rest stray) (stray_parts rest stray).0 (stray_parts rest stray).1
plain_says rest at (fault (BadByte p)) no_quote (n, inr (inl (r, e, one)), place) = absurd (no_quote 39 (39 ∷ r) (inl refl) e)
plain_says rest at (fault (BadByte p)) no_quote (n, inr (inr (q, inside, bad_, quote, ins, is, e, count)), place) = absurd (no_quote q (inside ++ bad_) quote e)
plain_says rest at (fault (OpenQuote p)) no_quote ((q, inside, quote, ins, e), place) = absurd (no_quote q inside quote e)
plain_says rest at (fault (OpenComment p)) no_quote (is, place) = open_comment p place is

token_some : (kind : TokenKind) (text : Bytes) → IsToken kind text → text ≢ []
token_some kind text is e = by (head kind text is)
  where
    by : Head kind text → ⊥
    by (single b one s) = let w : [] ≡ b ∷ [] = sym e ∙ one in cc
    by (opened b more first c) = let w : [] ≡ b ∷ more = sym e ∙ first in cc

no_token_left : (rest : Bytes) (kind : TokenKind) (text : Bytes) → (rest ≡ []) ⊎ IsLastLine rest → BeginsNoGap rest → Begins kind text rest → ⊥
no_token_left rest kind text (inl e) no_gap begins = empty_front text begins.1.rest (token_some kind text begins.0) (sym begins.1.split ∙ e)
  where
    empty_front : (a b : Bytes) → a ≢ [] → a ++ b ≡ [] → ⊥
    empty_front [] b some f = some refl
    empty_front (x ∷ a) b some f = let w : x ∷ (a ++ b) ≡ [] = f in cc
no_token_left rest kind text (inr (line, clear, e)) no_gap begins = no_gap.no_line line e

no_open_left : (rest : Bytes) → (rest ≡ []) ⊎ IsLastLine rest → IsOpenComment rest → ⊥
no_open_left rest (inl e) (text, closed, f) = let w : [] ≡ 47 ∷ 42 ∷ text = sym e ∙ f in cc
no_open_left rest (inr (line, clear, e)) (text, closed, f) = let w : 37 ∷ line ≡ 47 ∷ 42 ∷ text = sym e ∙ f in differ 37 47 _ _ refl w

no_stray_left : (rest : Bytes) → (rest ≡ []) ⊎ IsLastLine rest → rest ≢ [] → BeginsNoGap rest → ⊥
no_stray_left rest (inl e) some no_gap = some e
no_stray_left rest (inr (line, clear, e)) some no_gap = no_gap.no_line line e

no_open : (rest : Bytes) → IsOpenComment rest → BeginsNoGap rest → ⊥
no_open rest (text, closed, e) no_gap = no_gap.no_block text e

text_single : (rest : Bytes) (j k : TokenKind) (t u : Bytes) → Begins j t rest → Begins k u rest → t ≡ u
text_single rest j k t u p q =
    let a : length u ≤ length t = p.1.longest u q.1.rest (k, q.0) q.1.split in
    let b : length t ≤ length u = q.1.longest t p.1.rest (j, p.0) p.1.split in
    same_front t u p.1.rest q.1.rest (sym p.1.split ∙ q.1.split) (omega arith)

plain_single : (rest : Bytes) (at : ℕ) (a b : Next) → Plain rest at a → Plain rest at b → a ≡ b
plain_single rest at a b (left x) (left y) = refl
plain_single rest at a b (left x) (words k s t e g begins) = absurd (no_token_left rest k t x g begins)
plain_single rest at a b (left x) (astray p e some n g) = absurd (no_stray_left rest x some g)
plain_single rest at a b (left x) (open_comment p e is) = absurd (no_open_left rest x is)
plain_single rest at a b (words k s t e g begins) (left x) = absurd (no_token_left rest k t x g begins)
plain_single rest at a b (words k s t e g begins) (words j r u e' g' begins') =
    let same : t ≡ u = text_single rest k j t u begins begins' in
    let kind_is : k ≡ j = kind_single k j u (subst (IsToken k) same begins.0) begins'.0 in
    λ i. token (kind_is i) ((e ∙ sym e') i) (same i)
plain_single rest at a b (words k s t e g begins) (astray p e' some n g') = absurd (n.no t begins.1.rest (k, begins.0) begins.1.split)
plain_single rest at a b (words k s t e g begins) (open_comment p e' is) = absurd (no_open rest is g)
plain_single rest at a b (astray p e some n g) (left x) = absurd (no_stray_left rest x some g)
plain_single rest at a b (astray p e some n g) (words k s t e' g' begins) = absurd (n.no t begins.1.rest (k, begins.0) begins.1.split)
plain_single rest at a b (astray p e some n g) (astray p' e' some' n' g') = ap (λ (m : ℕ). fault (BadByte m)) (e ∙ sym e')
plain_single rest at a b (astray p e some n g) (open_comment p' e' is) = absurd (no_open rest is g)
plain_single rest at a b (open_comment p e is) (left x) = absurd (no_open_left rest x is)
plain_single rest at a b (open_comment p e is) (words k s t e' g begins) = absurd (no_open rest is g)
plain_single rest at a b (open_comment p e is) (astray p' e' some n g) = absurd (no_open rest is g)
plain_single rest at a b (open_comment p e is) (open_comment p' e' is') = ap (λ (m : ℕ). fault (OpenComment m)) (e ∙ sym e')

says_single : (rest : Bytes) (at : ℕ) (a b : Next) → Says rest at a → Says rest at b → a ≡ b
says_single [] at a b p q = plain_single [] at a b (plain_says [] at a (λ x more quote e. cc) p) (plain_says [] at b (λ x more quote e. cc) q)
says_single (x ∷ rest) at a b p q = by (x == 39) (x == 34) refl refl
  where
    by : (c d : Bool) → (x == 39) ≡ c → (x == 34) ≡ d → a ≡ b
    by true d e f = quote_single x rest at a b (inl (eqb-true x 39 e)) p q
    by false true e f = quote_single x rest at a b (inr (eqb-true x 34 f)) p q
    by false false e f =
        plain_single (x ∷ rest) at a b (plain_says (x ∷ rest) at a other p) (plain_says (x ∷ rest) at b other q)
      where
        other : (y : ℕ) (more : Bytes) → IsQuote y → x ∷ rest ≢ y ∷ more
        other y more (inl is) w = let same : x ≡ y = cc in true≢false (sym (ap (λ (n : ℕ). n == 39) (same ∙ is)) ∙ e)
        other y more (inr is) w = let same : x ≡ y = cc in true≢false (sym (ap (λ (n : ℕ). n == 34) (same ∙ is)) ∙ f)

-- ---- the law

record Placed (bytes : Bytes) (from : ℕ) (a : Next) : Type 0 where
  at : ℕ
  gap : IsGapBetween bytes from at
  halts : Halts (drop at bytes)
  says : Says (drop at bytes) at a

quote_no_gap : (q : ℕ) (rest : Bytes) → IsQuote q → BeginsNoGap (q ∷ rest)
quote_no_gap q rest quote = record {
  no_blank = λ b more is e. let same : b ≡ q = cc in not_blank q quote (ap is_blank (sym same) ∙ is);
  no_line = λ more e. let same : q ≡ 37 = cc in quote_not q 37 quote same (λ f. omega arith) (λ f. omega arith);
  no_block = λ more e. let same : q ≡ 47 = cc in quote_not q 47 quote same (λ f. omega arith) (λ f. omega arith);
}
  where
    not_blank : (q : ℕ) → IsQuote q → is_blank q ≡ true → ⊥
    not_blank q (inl e) h = true≢false (sym h ∙ ap is_blank e)
    not_blank q (inr e) h = true≢false (sym h ∙ ap is_blank e)

halts_fault : (rest : Bytes) (at : ℕ) (f : LexFault) → BeginsFault rest at f → Halts rest
halts_fault rest at (BadByte p) (n, inl (stray, zero_), place) = halts_other rest (stray_parts rest stray).1
halts_fault rest at (BadByte p) (n, inr (inl (r, e, one)), place) = subst Halts (sym e) (halts_other (39 ∷ 39 ∷ r) (quote_no_gap 39 (39 ∷ r) (inl refl)))
halts_fault rest at (BadByte p) (n, inr (inr (q, inside, bad_, quote, ins, is, e, count)), place) =
    subst Halts (sym e) (halts_other (q ∷ (inside ++ bad_)) (quote_no_gap q (inside ++ bad_) quote))
halts_fault rest at (OpenQuote p) ((q, inside, quote, ins, e), place) = subst Halts (sym e) (halts_other (q ∷ inside) (quote_no_gap q inside quote))
halts_fault rest at (OpenComment p) ((text, closed, e), place) = subst Halts (sym e) (halts_open text closed)

placed : (bytes : Bytes) (from : ℕ) (a : Next) → IsNext bytes from a → Placed bytes from a
placed bytes from (token kind start text) (gap, no_gap, begins) =
    record { at = start; gap = gap; halts = halts_other (drop start bytes) no_gap; says = (refl, no_gap, begins) }
placed bytes from nothing (at, gap, inl e) = record { at = at; gap = gap; halts = subst Halts (sym e) halts_end; says = inl e }
placed bytes from nothing (at, gap, inr (text, clear, e)) = record { at = at; gap = gap; halts = subst Halts (sym e) (halts_line text clear); says = inr (text, clear, e) }
placed bytes from (fault f) (at, gap, is) = record { at = at; gap = gap; halts = halts_fault (drop at bytes) at f is; says = is }

-- one thing alone comes next
pub next_single : (bytes : Bytes) (from : ℕ) (a b : Next) → IsNext bytes from a → IsNext bytes from b → a ≡ b
next_single bytes from a b p q =
    let r = placed bytes from a p in
    let s = placed bytes from b q in
    let same : r.at ≡ s.at = place_single bytes from r.at s.at r.gap s.gap r.halts s.halts in
    says_single (drop s.at bytes) s.at a b (subst (λ (n : ℕ). Says (drop n bytes) n a) same r.says) s.says
