-- What was told, and how many bytes it has.
use Rattle.std.proofs.Common.{◌≡◌, ◌∙◌, ◌+◌, ◌-◌, ◌≤◌, ◌++◌, ◌∷◌, [], ℕ, List, Some, None, Result, Ok, Err, OnOk, length, length-append, append_assoc, sym, ap, arith}
use Rattle.std.proofs.lemmas.List.{append-nil}
use Rattle.std.proofs.lemmas.List.Sums.{sum_by-cons}
use Rattle.cd_outside.specs.Outside.{Gives, Fetches}
use Rattle.cd_lex.specs.Bytes.{Bytes}
use Rattle.cd_read.specs.Files.{File}
use Rattle.cd_read.specs.declared.reader.ReadFault.{ReadFault}
use Rattle.cd_read.specs.Fetched.{Told, total, FetchesAtMost}
use Rattle.cd_read.specs.States.{Spends}

pub gives_none : (told : Told) → Gives told told []
gives_none None = tt
gives_none (Some xs) = sym (append-nil xs)

pub gives_append : (a b c : Told) (xs ys : List File) → Gives a b xs → Gives b c ys → Gives a c (xs ++ ys)
gives_append None b c xs ys g h = tt
gives_append (Some a) None c xs ys g h = absurd g
gives_append (Some a) (Some b) None xs ys g h = absurd h
gives_append (Some a) (Some b) (Some c) xs ys g h = h ∙ ap (λ (l : List File). l ++ ys) g ∙ append_assoc a xs ys

pub total-append : (xs ys : List File) → total (xs ++ ys) ≡ total xs + total ys
total-append [] ys = omega arith
total-append (x ∷ xs) ys =
    omega (arith, total-append xs ys, sum_by-cons (λ (f : File). length f.1) x (xs ++ ys), sum_by-cons (λ (f : File). length f.1) x xs)

pub spends_none : (T : Type 0) (used : ℕ) (told : Told) (f : ReadFault) → used ≤ 4194305 → Spends {T = T} used used told told (Err f)
spends_none T used told f le = ([], gives_none told, omega (arith, le))

-- what was spent is no more than one past the most, whatever comes of it
pub spends_then : {T U : Type 0} (u v : ℕ) (a b : Told) (x : T) (r : Result U ReadFault) → v ≤ 4194304 → Spends u v a b (Ok x)
    → Spends u v a b r
spends_then u v a b x (Ok y) le h = h
spends_then u v a b x (Err f) le (xs, g, e) = (xs, g, omega (arith, le, e))

pub spends_append : {T U : Type 0} (u v w : ℕ) (a b c : Told) (x : T) (r : Result U ReadFault) → Spends u v a b (Ok x) → Spends v w b c r
    → Spends u w a c r
spends_append u v w a b c x (Ok y) (xs, g, e) (ys, h, f) = (xs ++ ys, gives_append a b c xs ys g h, omega (arith, e, f, total-append xs ys))
spends_append u v w a b c x (Err y) (xs, g, e) (ys, h, f) =
    (xs ++ ys, gives_append a b c xs ys g h, omega (arith, e, f, total-append xs ys))

pub spends_capped : {T : Type 0} (u w : ℕ) (a b : Told) (r : Result T ReadFault) → u ≡ 0 → OnOk r (w ≤ 4194305) → Spends u w a b r
    → FetchesAtMost 4194305 a b
spends_capped u w a b (Ok x) zero le (xs, g, e) = record { files = xs; told = g; few = omega (arith, zero, le, e) }
spends_capped u w a b (Err f) zero le (xs, g, e) = record { files = xs; told = g; few = omega (arith, zero, e) }

-- a file that was fetched whole, or past the most
total_one : (p : List ℕ) (bytes : Bytes) → total ((p, bytes) ∷ []) ≡ length bytes
total_one p bytes = omega (arith, sum_by-cons (λ (f : File). length f.1) (p, bytes) [])

pub spends_past : (used : ℕ) (before now : Told) (path : List ℕ) (old new : Bytes) → old ≡ []
    → Fetches before now path (4194304 - used + 1) old new → used ≤ 4194304
    → (files : List File) × Gives before now files × (used + total files ≤ 4194305)
spends_past used before now path old new none f le = ((path, f.given) ∷ [], f.told, omega (arith, le, f.capped, total_one path f.given))

pub spends_one : (used size : ℕ) (before now : Told) (path : List ℕ) (cap : ℕ) (old new : Bytes) → old ≡ []
    → Fetches before now path cap old new → size ≡ length new
    → (files : List File) × Gives before now files × (used + size ≡ used + total files)
spends_one used size before now path cap old new none f e =
    ((path, f.given) ∷ [], f.told, omega (arith, e, ap length f.added, length-append old f.given, ap length none, total_one path f.given))
