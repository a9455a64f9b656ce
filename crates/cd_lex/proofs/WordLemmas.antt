-- Words.
use Rattle.std.proofs.Common.{◌≡◌, ◌∙◌, ◌+◌, ◌<◌, ◌∷◌, [], ℕ, Bool, true, length, drop, get_or, sym, ap, true≢false, eqb-true}
use Rattle.cd_lex.specs.Bytes.{Bytes, is_lower, is_word_byte, is_dollar}
use Rattle.cd_lex.specs.Scans.{EndsRun, Ends, IsMarked}
use Rattle.cd_lex.specs.Tokens.{Then, One, Many, IsLower, IsDollar, BeginsNo}
use Rattle.cd_lex.proofs.RunLemmas.{run_many}
use Rattle.cd_lex.proofs.FormLemmas.{Apart, first_then, first_passes, then_ends, one_ends, one_joins, no_behind_one}

-- a letter, then a run
pub word_at : (test : ℕ → Bool) (bytes : Bytes) (at end : ℕ) → at < length bytes → test (get_or bytes at 0) ≡ true → EndsRun is_word_byte (drop (at + 1) bytes) (at + 1) end
    → Ends (Then (One test) (Many is_word_byte)) (drop at bytes) at end
word_at test bytes at end lt passes r =
    then_ends (One test) (Many is_word_byte) (one_joins test (Many is_word_byte)) bytes at (at + 1) end (one_ends test bytes at lt passes)
    (run_many is_word_byte (drop (at + 1) bytes) (at + 1) end r)

-- a lower word begins with no `$`
pub dollar_apart : Apart is_dollar IsLower
dollar_apart = record { some = none; first = by }
  where
    none : IsLower [] → ⊥
    none is = let r = first_then is_lower (Many is_word_byte) [] is in let e : [] ≡ r.byte ∷ r.rest = r.is in cc

    by : (b : ℕ) (text : Bytes) → IsLower (b ∷ text) → is_dollar b ≡ true → ⊥
    by b text is dollar =
        true≢false (sym (first_passes is_lower b text (first_then is_lower (Many is_word_byte) (b ∷ text) is)) ∙ ap is_lower (eqb-true b 36 dollar))

pub dollar_at : (bytes : Bytes) (at end : ℕ) → at < length bytes → is_dollar (get_or bytes at 0) ≡ true → Ends IsMarked (drop (at + 1) bytes) (at + 1) end
    → Ends IsDollar (drop at bytes) at end
dollar_at bytes at end lt passes r =
    then_ends (One is_dollar) IsMarked (one_joins is_dollar IsMarked) bytes at (at + 1) end (one_ends is_dollar bytes at lt passes) r

pub no_dollar_at : (bytes : Bytes) (at : ℕ) → at < length bytes → BeginsNo IsMarked (drop (at + 1) bytes) → BeginsNo IsDollar (drop at bytes)
no_dollar_at bytes at lt none = no_behind_one is_dollar IsMarked bytes at lt none
