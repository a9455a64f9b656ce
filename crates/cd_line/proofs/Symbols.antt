-- Where a symbol stands in a table.
use Rattle.std.proofs.Common.{◌≡◌, ◌≢◌, ℕ, zero, suc, ◌+◌, ◌<◌, ◌≤◌, ◌==◌, ◌&&◌, Bool, true, false, cond, ltb, List, [], ◌∷◌, refl, sym, ap, ◌∙◌, subst, arith, Option, Some, None, slice_get}
use Rattle.std.specs.Prelude.{bytes_eq, nat_lt}
use Rattle.std.specs.List.{list_all}
use Rattle.std.proofs.lemmas.Bool.{lt-ltb, le-ltb, eqb-true, and_parts, and_from}
use Rattle.std.proofs.lemmas.Bool.Decides.{nat_tests}
use Rattle.std.proofs.lemmas.Slice.Eq.{bytes_eq-Decides}
use Rattle.cd_symbols.specs.Symbol.{Symbol, symbol_of, Lacks, AreDistinct}
use Rattle.cd_symbols.specs.declared.Kind.{Kind}
use Rattle.cd_symbols.specs.declared.Kind.TheVariants.{Function, Predicate}
use Rattle.cd_read.specs.Formed.{IsPrintable, is_function, is_predicate}
use Rattle.cd_text.specs.Texts.{is_printable}
use Rattle.cd_text.specs.Formed.{ArePrintable}
use Rattle.cd_line.specs.Reading.{◌>>=◌, kind_eq, symbol_eq, place_of, symbol_found}

-- ---- kinds

-- whether there is a symbol of this kind that takes so many arguments
abbrev pub is_symbol : Kind → ℕ → Option Symbol → Bool
is_symbol Function count o = is_function count o
is_symbol Predicate count o = is_predicate count o

-- such a symbol is of this kind, and takes so many
pub kind_of : (kind k : Kind) (text : List ℕ) (arity count : ℕ) → is_symbol kind count (Some (symbol_of text arity k)) ≡ true → (arity ≡ count) × (k ≡ kind)
kind_of Function Function text arity count is = (eqb-true arity count is, refl)
kind_of Predicate Predicate text arity count is = (eqb-true arity count is, refl)
kind_of Function Predicate text arity count is = absurd cc
kind_of Predicate Function text arity count is = absurd cc

-- each symbol's text is printable
abbrev pub Printed : List Symbol → Type 0
Printed symbols = (n : ℕ) (s : Symbol) → slice_get symbols n ≡ Some s → list_all is_printable s.text ≡ true

byte_printed : (b : ℕ) → 32 ≤ b → b ≤ 126 → is_printable b ≡ true
byte_printed b low high = grind (arith, nat_tests)

printed_text : (text : List ℕ) → IsPrintable text → list_all is_printable text ≡ true
printed_text [] h = refl
printed_text (b ∷ bs) h = and_from (is_printable b) (list_all is_printable bs) (byte_printed b h.0.0 h.0.1) (printed_text bs h.1)

pub printed : (symbols : List Symbol) → ArePrintable symbols → Printed symbols
printed [] h n s at = absurd cc
printed (t ∷ ts) h zero s at = let e : t ≡ s = cc in subst (λ (x : Symbol). list_all is_printable x.text ≡ true) e (printed_text t.text h.0)
printed (t ∷ ts) h (suc n) s at = printed ts h.1 n s at

pub kind_same : (k : Kind) → kind_eq k k ≡ true
kind_same Function = refl
kind_same Predicate = refl

pub kind_is : (k l : Kind) → kind_eq k l ≡ true → k ≡ l
kind_is Function Function e = refl
kind_is Predicate Predicate e = refl
kind_is Function Predicate e = absurd cc
kind_is Predicate Function e = absurd cc

number_same : (n : ℕ) → (n == n) ≡ true
number_same n = grind (arith, nat_tests)

bytes_same : (bs : List ℕ) → bytes_eq bs bs ≡ true
bytes_same bs = (bytes_eq-Decides bs bs).1 refl

pub symbol_same : (s : Symbol) → symbol_eq s s ≡ true
symbol_same s = rw (bytes_same s.text, number_same s.arity) (kind_same s.kind)

symbol_by : (t u : List ℕ) (m n : ℕ) (k l : Kind) → t ≡ u → m ≡ n → k ≡ l → symbol_of t m k ≡ symbol_of u n l
symbol_by t u m n k l a b c = λ i. symbol_of (a i) (b i) (c i)

symbol_is : (s t : Symbol) → symbol_eq s t ≡ true → s ≡ t
symbol_is s t e =
    let p = and_parts (bytes_eq s.text t.text) (s.arity == t.arity && kind_eq s.kind t.kind) e in
    let q = and_parts (s.arity == t.arity) (kind_eq s.kind t.kind) p.1 in
    symbol_by s.text t.text s.arity t.arity s.kind t.kind ((bytes_eq-Decides s.text t.text).0 p.0) (eqb-true s.arity t.arity q.0) (kind_is s.kind t.kind q.1)

-- what is found stands there
place_by : (t : Bool) (u : Symbol) (us : List Symbol) (s : Symbol) (n : ℕ) → symbol_eq u s ≡ t → ((m : ℕ) → place_of us s ≡ Some m → slice_get us m ≡ Some s)
    → cond t (Some 0) (place_of us s >>= λ m. Some (suc m)) ≡ Some n → slice_get (u ∷ us) n ≡ Some s
place_by true u us s zero is others e = ap (λ x. Some x) (symbol_is u s is)
place_by true u us s (suc n) is others e = absurd cc
place_by false u us s n is others e = behind (place_of us s) refl n e
  where
    behind : (o : Option ℕ) → place_of us s ≡ o → (k : ℕ) → (o >>= λ m. Some (suc m)) ≡ Some k → slice_get (u ∷ us) k ≡ Some s
    behind None at k f = absurd cc
    behind (Some m) at zero f = absurd cc
    behind (Some m) at (suc k) f = let g : m ≡ k = cc in others k (at ∙ ap (λ (x : ℕ). Some x) g)

pub place_is : (us : List Symbol) (s : Symbol) (n : ℕ) → place_of us s ≡ Some n → slice_get us n ≡ Some s
place_is [] s n e = absurd cc
place_is (u ∷ us) s n e = place_by (symbol_eq u s) u us s n refl (place_is us s) e

-- what stands somewhere is found
found_by : (t : Bool) (u : Symbol) (us : List Symbol) (s : Symbol) (n : ℕ) → symbol_eq u s ≡ t → ((m : ℕ) → slice_get us m ≡ Some s → (k : ℕ) × (place_of us s ≡ Some k)) → slice_get (u ∷ us) n ≡ Some s
    → (k : ℕ) × (cond t (Some 0) (place_of us s >>= λ m. Some (suc m)) ≡ Some k)
found_by true u us s n is others at = (0, refl)
found_by false u us s zero is others at =
    let e : u ≡ s = cc in
    absurd (let f : true ≡ false = sym (ap (λ (x : Symbol). symbol_eq x s) e ∙ symbol_same s) ∙ is in cc)
found_by false u us s (suc n) is others at = let k = others n at in (suc k.0, ap (λ (o : Option ℕ). o >>= λ m. Some (suc m)) k.1)

pub somewhere : (us : List Symbol) (s : Symbol) (n : ℕ) → slice_get us n ≡ Some s → (k : ℕ) × (place_of us s ≡ Some k)
somewhere [] s n at = absurd cc
somewhere (u ∷ us) s n at = found_by (symbol_eq u s) u us s n refl (somewhere us s) at

-- where no symbol stands twice, each is found in its place
pub place_at : (us : List Symbol) (s : Symbol) (n : ℕ) → AreDistinct us → slice_get us n ≡ Some s → place_of us s ≡ Some n
place_at us s n distinct at =
    let k = somewhere us s n at in
    k.1 ∙ ap (λ (m : ℕ). Some m) (distinct k.0 n s (place_is us s k.0 k.1) at)

place_none : (us : List Symbol) (s : Symbol) (o : Option ℕ) → place_of us s ≡ o → Lacks us s → o ≡ None
place_none us s None e lacks = refl
place_none us s (Some n) e lacks = absurd (lacks n (place_is us s n e))

-- ---- as the code finds it

pub found_there : (us : List Symbol) (word : List ℕ) (count : ℕ) (kind : Kind) (n : ℕ) → AreDistinct us → count ≤ 65535 → slice_get us n ≡ Some (symbol_of word count kind) → symbol_found us kind word count ≡ Some n
unfolding symbol_found
found_there us word count kind n distinct few at = rw (lt-ltb count 65536 (omega (arith, few))) (place_at us (symbol_of word count kind) n distinct at)

pub found_nowhere : (us : List Symbol) (word : List ℕ) (count : ℕ) (kind : Kind) → count ≤ 65535 → Lacks us (symbol_of word count kind) → symbol_found us kind word count ≡ None
unfolding symbol_found
found_nowhere us word count kind few lacks = rw (lt-ltb count 65536 (omega (arith, few))) (place_none us (symbol_of word count kind) (place_of us (symbol_of word count kind)) refl lacks)

pub found_too_many : (us : List Symbol) (word : List ℕ) (count : ℕ) (kind : Kind) → 65536 ≤ count → symbol_found us kind word count ≡ None
unfolding symbol_found
found_too_many us word count kind many = rw (le-ltb count 65536 many) refl
