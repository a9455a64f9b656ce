-- The grammar spells one list of values by the same words.
use Rattle.std.proofs.Common.{◌≡◌, ◌<◌, ◌∙◌, Bool, true, false, cond, refl, sym, ap, arith, List, [], ◌∷◌, ◌++◌, length, codes, Option, Some, None, ltb-true}
use Rattle.clap.specs.Lexer.{has_byte, name_and_value}
use Rattle.cd_options.specs.Grammar.{Text, Given, IsAmong, dashed, is_plain, Spells, nothing, ended, last, file, apart, joined}
use Rattle.cd_options.specs.Program.{option_names}
use Rattle.cd_options.proofs.Walks.{alone_is, joined_is, good_name, both_true, negated}

abbrev file_given : Text → Given
file_given w = record { name = codes "file"; value = w }

-- what an option gives behind its hyphens, where no word follows
abbrev joined_given : Text × Option Text → List Given
joined_given (name, None) = []
joined_given (name, Some v) = record { name = name; value = v } ∷ []

-- and where the word v follows, and these are given behind v and from v on
abbrev option_given : Text → List Given → List Given → Text × Option Text → List Given
option_given v behind from (name, None) = record { name = name; value = v } ∷ behind
option_given v behind from (name, Some u) = record { name = name; value = u } ∷ from

abbrev dashed_given : Text → Text → List Given → List Given → List Given
dashed_given [] v behind from = file_given v ∷ []
dashed_given (x ∷ xs) v behind from = option_given v behind from (name_and_value (x ∷ xs))

-- a word without its first two bytes
abbrev undashed : Text → Text
undashed [] = []
undashed (x ∷ []) = []
undashed (x ∷ y ∷ rest) = rest

-- what the words give, if they are spelled by the grammar
gives : List Text → List Given
gives [] = []
gives (w ∷ []) = cond (is_plain w) (file_given w ∷ []) (joined_given (name_and_value (undashed w)))
gives (w ∷ v ∷ ws) = cond (is_plain w) (file_given w ∷ gives (v ∷ ws)) (dashed_given (undashed w) v (gives ws) (gives (v ∷ ws)))

has_no_mark : (name : Text) → IsAmong option_names name → has_byte 61 name ≡ false
has_no_mark name among = negated _ (both_true _ _ (good_name option_names refl name among)).0

plain_gives : (w : Text) (ws : List Text) → is_plain w ≡ true → gives (w ∷ ws) ≡ file_given w ∷ gives ws
unfolding gives
plain_gives w [] plain = ap (λ (b : Bool). cond b (file_given w ∷ []) (joined_given (name_and_value (undashed w)))) plain
plain_gives w (v ∷ ws) plain =
    ap (λ (b : Bool). cond b (file_given w ∷ gives (v ∷ ws)) (dashed_given (undashed w) v (gives ws) (gives (v ∷ ws)))) plain

named_gives : (name v : Text) (behind from : List Given) → 0 < length name → has_byte 61 name ≡ false
    → dashed_given name v behind from ≡ record { name = name; value = v } ∷ behind
named_gives [] v behind from some none = absurd (omega arith)
named_gives (x ∷ xs) v behind from some none = ap (option_given v behind from) (alone_is (x ∷ xs) none)

joined_gives : (name v u : Text) (behind from : List Given) → has_byte 61 name ≡ false
    → dashed_given (name ++ 61 ∷ v) u behind from ≡ record { name = name; value = v } ∷ from
joined_gives [] v u behind from none = ap (option_given u behind from) (joined_is [] v none)
joined_gives (x ∷ xs) v u behind from none = ap (option_given u behind from) (joined_is (x ∷ xs) v none)

joined_gives_words : (name v : Text) (ws : List Text) → has_byte 61 name ≡ false
    → gives (dashed (name ++ 61 ∷ v) ∷ ws) ≡ record { name = name; value = v } ∷ gives ws
unfolding gives
joined_gives_words name v [] none = ap joined_given (joined_is name v none)
joined_gives_words name v (u ∷ ws) none = joined_gives name v u (gives ws) (gives (u ∷ ws)) none

some_name : (name : Text) → IsAmong option_names name → 0 < length name
some_name name among = ltb-true 0 (length name) (both_true _ _ (both_true _ _ (good_name option_names refl name among)).1).0

given_is : (words : List Text) (gs : List Given) → Spells option_names words gs → gs ≡ gives words
unfolding gives
given_is _ _ nothing = refl
given_is _ _ ended = refl
given_is _ _ (last w) = refl
given_is _ _ (file w ws gs plain s) = ap (λ (l : List Given). file_given w ∷ l) (given_is ws gs s) ∙ sym (plain_gives w ws plain)
given_is _ _ (apart name v ws gs among plain s) =
    ap (λ (l : List Given). record { name = name; value = v } ∷ l) (given_is ws gs s)
    ∙ sym (named_gives name v (gives ws) (gives (v ∷ ws)) (some_name name among) (has_no_mark name among))
given_is _ _ (joined name v ws gs among s) =
    ap (λ (l : List Given). record { name = name; value = v } ∷ l) (given_is ws gs s) ∙ sym (joined_gives_words name v ws (has_no_mark name among))

-- two spellings of the same words give the same
pub given_once : (words : List Text) (gs hs : List Given) → Spells option_names words gs → Spells option_names words hs → gs ≡ hs
given_once words gs hs s t = given_is words gs s ∙ sym (given_is words hs t)
