-- A parse by clap of options that take one value each, and a file.
use Rattle.std.proofs.Common.{◌≡◌, ◌∙◌, ◌==◌, ◌<◌, ◌+◌, ◌&&◌, ◌||◌, ◌⊎◌, ℕ, Bool, cond, codes, true, false, not, suc, refl, sym, ap, subst, arith, List, [], ◌∷◌, ◌++◌, map, length, take, drop, Option, Some, None, inl, inr, is_some, true≢false, append-nil, append_assoc, ◌≢◌, ltb-true, if◌then◌else◌}
use Rattle.std.specs.Prelude.{slice_get, option_map, option_and_then, nat_lt, encode_utf8, encode_utf8_all, IsUtf8}
use Rattle.std.specs.Prelude.{String, string_bytes}
use Rattle.std.specs.declared.alloc.Global.{Global}
use Rattle.std.proofs.lemmas.Str.{IsUtf8-string_bytes, IsUtf8-drop, IsCharBoundary-after_ascii, encodes-chars}
use Rattle.std.proofs.lemmas.Bool.{cases_eq, ne_eqb}
use Rattle.std.specs.List.{prefix_len, find, fold, list_any, list_all}
use Rattle.std.specs.Option.{option_map_or}
use Rattle.std.specs.Str.{bytes_eq, chars}
use Rattle.clap.specs.Lexer.{long_of, short_of, long_of_rest, short_of_rest, strip_byte, has_byte, name_and_value}
use Rattle.clap.specs.Walk.{Held, Row, Rule, Walk, idle, option, next, trailing, value, arg_by_id, arg_by_long, arg_by_short, arg_by_index, has_row, at_row, with_values, without, more_values, settled, walked, nothing_held, with_default, first_of, after_step, used_by_id, long_met, after_flag, plain_word, pushed, positional_held, is_pending, to_positional, long_or_other, short_or_plain, option_word}
use Rattle.clap.specs.Simple.{Shape, matches_of, built, entered, new_shape, new_rule}
use Rattle.clap.specs.Kinds.{Kinds, or_else}
use Rattle.clap.specs.Faults.{walk_fault, turn_fault, settle_fault, step_fault, defaults_fault, flags_fault, use_fault, long_fault, positional_fault, stray_fault, level_fault, entered_fault, fault_of, given_default_fault, flag_word_fault, bundle_fault, bundle_step_fault, short_fault, other_fault}
use Rattle.clap.specs.declared.builder.action.ArgAction.TheVariants.{Set}
use Rattle.clap.specs.declared.builder.value_parser.ValueParser.TheVariants as vp
use Rattle.clap.specs.declared.builder.value_parser.Reading.TheVariants as reading
use Rattle.clap.specs.declared.parser.matches.ValueSource.TheVariants.{CommandLine}
use Rattle.clap.specs.declared.error.kind.ErrorKind.TheVariants as kind
use Rattle.cd_options.specs.Program.{program, option_names}
use Rattle.cd_options.specs.Grammar.{Text, Given, is_plain, IsAmong, dashed, AtMostOnce, value_of, Spells, nothing, ended, last, file, apart, joined}

-- ---- the command

abbrev pub option_rule : Text → Rule
option_rule name = record (new_rule name) {
  long = Some name;
  action = Some Set;
  range = Some (record { start_inclusive = 1; end_inclusive = 1 });
  parser = Some vp.String;
}

abbrev pub file_rule : Rule
file_rule = record (new_rule (codes "file")) {
  index = Some 1;
  action = Some Set;
  range = Some (record { start_inclusive = 1; end_inclusive = 1 });
  parser = Some vp.String;
}

abbrev pub rules_for : List Text → List Rule
rules_for names = map option_rule names ++ file_rule ∷ []

abbrev pub shape_for : Text → List Text → Shape
shape_for program names = record (new_shape program) {
  rules = rules_for names;
  no_binary_name = true;
  disable_help_flag = true;
  disable_help_subcommand = true;
  disable_version_flag = true;
  is_built = true;
}

abbrev pub row : Given → Row
row g = record { id = g.name; values = g.value ∷ []; count = None; source = Some CommandLine; reading = reading.AsWritten }

-- ---- tests of bytes

same_is : (a b : Text) → bytes_eq a b ≡ true → a ≡ b
same_is a b = (Rattle.std.proofs.lemmas.Slice.Eq.bytes_eq-Decides a b).0

is_same : (a : Text) → bytes_eq a a ≡ true
is_same a = (Rattle.std.proofs.lemmas.Slice.Eq.bytes_eq-Decides a a).1 refl

-- ---- the rules that are found

long_found : (names : List Text) (name : Text) → IsAmong names name → arg_by_long (rules_for names) name ≡ Some (option_rule name)
long_found [] name h = absurd (true≢false (sym h))
long_found (n ∷ ns) name h = go (bytes_eq n name) refl h (long_found ns name)
  where
    go : (b : Bool) → bytes_eq n name ≡ b → (b || list_any (λ m. bytes_eq m name) ns) ≡ true
        → (IsAmong ns name → arg_by_long (rules_for ns) name ≡ Some (option_rule name))
        → cond (b || false) (Some (option_rule n)) (arg_by_long (rules_for ns) name) ≡ Some (option_rule name)
    go true e h more = ap (λ x. Some (option_rule x)) (same_is n name e)
    go false e h more = more h

long_unknown : (names : List Text) (name : Text) → list_any (λ n. bytes_eq n name) names ≡ false → arg_by_long (rules_for names) name ≡ None
long_unknown [] name none = refl
long_unknown (n ∷ ns) name none = go (bytes_eq n name) none (long_unknown ns name)
  where
    go : (b : Bool) → (b || list_any (λ m. bytes_eq m name) ns) ≡ false
        → (list_any (λ m. bytes_eq m name) ns ≡ false → arg_by_long (rules_for ns) name ≡ None)
        → cond (b || false) (Some (option_rule n)) (arg_by_long (rules_for ns) name) ≡ None
    go true none more = absurd (true≢false none)
    go false none more = more none

id_found : (names : List Text) (name : Text) → IsAmong names name → arg_by_id (rules_for names) name ≡ Some (option_rule name)
id_found [] name h = absurd (true≢false (sym h))
id_found (n ∷ ns) name h = go (bytes_eq n name) refl h (id_found ns name)
  where
    go : (b : Bool) → bytes_eq n name ≡ b → (b || list_any (λ m. bytes_eq m name) ns) ≡ true
        → (IsAmong ns name → arg_by_id (rules_for ns) name ≡ Some (option_rule name))
        → cond b (Some (option_rule n)) (arg_by_id (rules_for ns) name) ≡ Some (option_rule name)
    go true e h more = ap (λ x. Some (option_rule x)) (same_is n name e)
    go false e h more = more h

file_found : (names : List Text) → list_any (λ n. bytes_eq n (codes "file")) names ≡ false → arg_by_id (rules_for names) (codes "file") ≡ Some file_rule
file_found [] none = refl
file_found (n ∷ ns) none = go (bytes_eq n (codes "file")) none (file_found ns)
  where
    go : (b : Bool) → (b || list_any (λ m. bytes_eq m (codes "file")) ns) ≡ false
        → (list_any (λ m. bytes_eq m (codes "file")) ns ≡ false → arg_by_id (rules_for ns) (codes "file") ≡ Some file_rule)
        → cond b (Some (option_rule n)) (arg_by_id (rules_for ns) (codes "file")) ≡ Some file_rule
    go true none more = absurd (true≢false none)
    go false none more = more none

no_short : (names : List Text) (x : ℕ) → arg_by_short (rules_for names) x ≡ None
no_short [] x = refl
no_short (n ∷ ns) x = no_short ns x

first_place : (names : List Text) → arg_by_index (rules_for names) 1 ≡ Some file_rule
first_place [] = refl
first_place (n ∷ ns) = first_place ns

second_place : (names : List Text) → arg_by_index (rules_for names) 2 ≡ None
second_place [] = refl
second_place (n ∷ ns) = second_place ns

-- ---- rows

at_missing : (id : Text) (change : Row → List Row) (missing rows : List Row) → has_row id rows ≡ false → at_row id change missing rows ≡ rows ++ missing
at_missing id change missing [] none = refl
at_missing id change missing (r ∷ rs) none = go (bytes_eq r.id id) none (at_missing id change missing rs)
  where
    go : (b : Bool) → (b || has_row id rs) ≡ false → (has_row id rs ≡ false → at_row id change missing rs ≡ rs ++ missing)
        → cond b (change r ++ rs) (r ∷ at_row id change missing rs) ≡ r ∷ (rs ++ missing)
    go true none more = absurd (true≢false none)
    go false none more = ap (λ x. r ∷ x) (more none)

new_row : (name v : Text) (rows : List Row) → has_row name rows ≡ false
    → with_values name reading.AsWritten CommandLine (v ∷ []) (without name rows) ≡ rows ++ row (record { name = name; value = v }) ∷ []
new_row name v rows none =
    ap (with_values name reading.AsWritten CommandLine (v ∷ [])) (at_missing name (λ _. []) [] rows none ∙ append-nil rows)
    ∙ at_missing name (more_values CommandLine (v ∷ [])) _ rows none

has_row-append : (id : Text) (rows : List Row) (g : Given) → has_row id (rows ++ row g ∷ []) ≡ (has_row id rows || bytes_eq g.name id)
has_row-append id [] g = go (bytes_eq g.name id)
  where
    go : (b : Bool) → (b || false) ≡ b
    go true = refl
    go false = refl
has_row-append id (r ∷ rs) g = go (bytes_eq r.id id) (has_row-append id rs g)
  where
    go : (b : Bool) → has_row id (rs ++ row g ∷ []) ≡ (has_row id rs || bytes_eq g.name id)
        → (b || has_row id (rs ++ row g ∷ [])) ≡ ((b || has_row id rs) || bytes_eq g.name id)
    go true more = refl
    go false more = more

-- ---- kinds

both_none : (a b : Kinds) → or_else a b ≡ [] → (a ≡ []) × (b ≡ [])
both_none [] b none = (refl, none)
both_none (k ∷ ks) b none = absurd (cc)

none_of_both : (a b : Kinds) → a ≡ [] → b ≡ [] → or_else a b ≡ []
none_of_both a b x y = ap (λ k. or_else k b) x ∙ y

drop_none : (k : Kinds) → or_else k [] ≡ k
drop_none [] = refl
drop_none (k ∷ ks) = refl

or_false : (b : Bool) → (b || false) ≡ b
or_false true = refl
or_false false = refl

-- ---- the state between two words

abbrev pending_of : Option Given → Option (Text × List Text)
pending_of None = None
pending_of (Some g) = Some (g.name, g.value ∷ [])

abbrev held : List Row → Option Given → Held
held rows p = record { rows = rows; pending = pending_of p; skip = 0 }

abbrev after : List Row → Option Given → List Row
after rows None = rows
after rows (Some g) = rows ++ row g ∷ []

abbrev repeats : List Row → Option Given → Bool
repeats rows None = false
repeats rows (Some g) = has_row g.name rows

abbrev is_known : List Text → Text → Bool
is_known names name = bytes_eq name (codes "file") || list_any (λ n. bytes_eq n name) names

abbrev IsKnown : List Text → Option Given → Type 0
IsKnown names None = Unit {0}
IsKnown names (Some g) = (g.name ≡ codes "file") ⊎ IsAmong names g.name

abbrev conflict : Bool → Kinds
conflict b = if b then kind.ArgumentConflict ∷ [] else []

use_option : (name v : Text) (rows : List Row) → use_fault false (option_rule name) (v ∷ []) rows ≡ conflict (has_row name rows)
use_option name v rows = go (has_row name rows)
  where
    go : (b : Bool) → or_else (cond (b && true) (kind.ArgumentConflict ∷ []) []) [] ≡ conflict b
    go true = refl
    go false = refl

use_file : (v : Text) (rows : List Row) → use_fault false file_rule (v ∷ []) rows ≡ conflict (has_row (codes "file") rows)
use_file v rows = go (has_row (codes "file") rows)
  where
    go : (b : Bool) → or_else (cond (b && true) (kind.ArgumentConflict ∷ []) []) [] ≡ conflict b
    go true = refl
    go false = refl

abbrev ready : List Row → Option Given → ℕ → Bool → Walk
ready rows p position is_trailing = record { held = held rows p; waiting = idle; position = position; is_trailing = is_trailing; stopped = None }

abbrev asking : List Row → Text → ℕ → Bool → Walk
asking rows name position is_trailing = record {
  held = record { rows = rows; pending = Some (name, []); skip = 0 };
  waiting = option name;
  position = position;
  is_trailing = is_trailing;
  stopped = None;
}

-- a word with an equals sign, or with none
abbrev NameValue : Text → Type 0
NameValue text = ((has_byte 61 text ≡ false) × (name_and_value text ≡ (text, None)))
    ⊎ ((name : Text) × (v : Text) × (text ≡ name ++ 61 ∷ v) × (name_and_value text ≡ (name, Some v)))

cons_name_value : (x : ℕ) (xs : Text) → (x == 61) ≡ false → name_and_value (x ∷ xs) ≡ (x ∷ (name_and_value xs).0, (name_and_value xs).1)
cons_name_value x xs e =
    let n = prefix_len (λ y. not (y == 61)) xs in
    let one : 1 + n ≡ suc n = omega arith in
    let two : suc n + 1 ≡ suc (n + 1) = omega arith in
    ap (λ (b : Bool). (take (cond (not b) (1 + n) 0) (x ∷ xs), cond (b || has_byte 61 xs) (Some (drop (cond (not b) (1 + n) 0 + 1) (x ∷ xs))) None)) e
    ∙ ap (λ (k : ℕ). (take k (x ∷ xs), cond (has_byte 61 xs) (Some (drop (k + 1) (x ∷ xs))) None)) one
    ∙ ap (λ (k : ℕ). (x ∷ take n xs, cond (has_byte 61 xs) (Some (drop k (x ∷ xs))) None)) two

name_value_cases : (text : Text) → NameValue text
name_value_cases [] = inl (refl, refl)
name_value_cases (x ∷ xs) = go (cases_eq x 61) (name_value_cases xs)
  where
    go : (x ≡ 61) ⊎ (x ≢ 61) → NameValue xs → NameValue (x ∷ xs)
    go (inl e) more = inr ([], xs, ap (λ (y : ℕ). y ∷ xs) e, subst (λ (y : ℕ). name_and_value (y ∷ xs) ≡ ([], Some xs)) (sym e) refl)
    go (inr other) (inl m) =
        let e = ne_eqb x 61 other in
        inl (ap (λ (b : Bool). b || has_byte 61 xs) e ∙ m.0, cons_name_value x xs e ∙ ap (λ (t : Text × Option Text). (x ∷ t.0, t.1)) m.1)
    go (inr other) (inr m) =
        inr (x ∷ m.0, m.1, ap (λ (t : Text). x ∷ t) m.2, cons_name_value x xs (ne_eqb x 61 other) ∙ ap (λ (t : Text × Option Text). (x ∷ t.0, t.1)) m.3)

has_mark : (name v : Text) → has_byte 61 (name ++ 61 ∷ v) ≡ true
has_mark [] v = refl
has_mark (x ∷ xs) v = go (x == 61) (has_mark xs v)
  where
    go : (b : Bool) → has_byte 61 (xs ++ 61 ∷ v) ≡ true → (b || has_byte 61 (xs ++ 61 ∷ v)) ≡ true
    go true e = refl
    go false e = e

pub alone_is : (name : Text) → has_byte 61 name ≡ false → name_and_value name ≡ (name, None)
alone_is name none = go (name_value_cases name)
  where
    go : NameValue name → name_and_value name ≡ (name, None)
    go (inl m) = m.1
    go (inr m) = absurd (true≢false (sym (has_mark m.0 m.1) ∙ ap (has_byte 61) (sym m.2) ∙ none))

pub joined_is : (name v : Text) → has_byte 61 name ≡ false → name_and_value (name ++ 61 ∷ v) ≡ (name, Some v)
joined_is [] v none = refl
joined_is (x ∷ xs) v none = go (x == 61) refl none (joined_is xs v)
  where
    go : (b : Bool) → (x == 61) ≡ b → (b || has_byte 61 xs) ≡ false → (has_byte 61 xs ≡ false → name_and_value (xs ++ 61 ∷ v) ≡ (xs, Some v))
        → name_and_value (x ∷ (xs ++ 61 ∷ v)) ≡ (x ∷ xs, Some v)
    go true e none more = absurd (true≢false none)
    go false e none more = cons_name_value x (xs ++ 61 ∷ v) e ∙ ap (λ (t : Text × Option Text). (x ∷ t.0, t.1)) (more none)

some_joined : (name v : Text) → 0 < length (name ++ 61 ∷ v)
some_joined [] v = omega arith
some_joined (x ∷ xs) v = omega arith

-- what a word looks like
data Sort : Text → Type 0 where
  ends_options : Sort (45 ∷ 45 ∷ [])
  is_long : (z : ℕ) (rest : Text) → Sort (45 ∷ 45 ∷ z ∷ rest)
  is_short : (y : ℕ) (rest : Text) → (y == 45) ≡ false → Sort (45 ∷ y ∷ rest)
  is_other : (word : Text) → is_plain word ≡ true → Sort word

sort : (word : Text) → Sort word
sort [] = is_other [] refl
sort (x ∷ []) = is_other (x ∷ []) refl
sort (x ∷ y ∷ rest) = elim (cases_eq x 45) [
  | inl e ↦ subst (λ (x : ℕ). Sort (x ∷ y ∷ rest)) (sym e) (second (cases_eq y 45) rest)
  | inr other ↦ is_other (x ∷ y ∷ rest) (ap not (ne_eqb x 45 other))
]
  where
    long_rest : (rest : Text) → Sort (45 ∷ 45 ∷ rest)
    long_rest [] = ends_options
    long_rest (z ∷ rest) = is_long z rest

    second : (y ≡ 45) ⊎ (y ≢ 45) → (rest : Text) → Sort (45 ∷ y ∷ rest)
    second (inl e) rest = subst (λ (y : ℕ). Sort (45 ∷ y ∷ rest)) (sym e) (long_rest rest)
    second (inr other) rest = is_short y rest (ne_eqb y 45 other)

after_hyphen : (flags : Text) → IsUtf8 (45 ∷ flags) → IsUtf8 flags
after_hyphen flags text = IsUtf8-drop (45 ∷ flags) 1 text (IsCharBoundary-after_ascii (45 ∷ flags) 0 text (omega arith) (omega arith))

has_char : (y : ℕ) (rest : Text) → IsUtf8 (y ∷ rest) → (x : ℕ) × (slice_get (chars (y ∷ rest)) 0 ≡ Some x)
has_char y rest text = go (chars (y ∷ rest)) refl
  where
    go : (cs : List ℕ) → chars (y ∷ rest) ≡ cs → (x : ℕ) × (slice_get (chars (y ∷ rest)) 0 ≡ Some x)
    go [] e = let bad : [] ≡ y ∷ rest = sym (ap encode_utf8_all e) ∙ encodes-chars (y ∷ rest) text in absurd (cc)
    go (c ∷ cs) e = (c, ap (λ l. slice_get l 0) e)

-- what a plain word isn't
record PlainFacts (word : Text) : Type 0 where
  apart_from_end : bytes_eq word (45 ∷ 45 ∷ []) ≡ false
  no_long : long_of word ≡ None
  no_short : short_of word ≡ None

pub negated : (b : Bool) → not b ≡ true → b ≡ false
negated true e = absurd (true≢false (sym e))
negated false e = refl

single_facts : (b : Bool) → ((b && false) ≡ false) × (option_and_then long_of_rest (option_and_then (strip_byte 45) (cond b (Some []) None)) ≡ None)
    × (option_and_then short_of_rest (cond b (Some []) None) ≡ None)
single_facts true = (refl, refl, refl)
single_facts false = (refl, refl, refl)

plain_facts : (word : Text) → is_plain word ≡ true → PlainFacts word
plain_facts [] plain = record { apart_from_end = refl; no_long = refl; no_short = refl }
plain_facts (x ∷ []) plain = let f = single_facts (x == 45) in record { apart_from_end = f.0; no_long = f.1; no_short = f.2 }
plain_facts (x ∷ y ∷ rest) plain =
    let e : (x == 45) ≡ false = negated (x == 45) plain in
    record {
      apart_from_end = ap (λ (b : Bool). b && bytes_eq (y ∷ rest) (45 ∷ [])) e;
      no_long = ap (λ b. option_and_then long_of_rest (option_and_then (strip_byte 45) (cond b (Some (y ∷ rest)) None))) e;
      no_short = ap (λ b. option_and_then short_of_rest (cond b (Some (y ∷ rest)) None)) e;
    }

module _ (names : List Text) (no_file : list_any (λ n. bytes_eq n (codes "file")) names ≡ false) where
  settle_fault_is : (rows : List Row) (p : Option Given) → IsKnown names p → settle_fault (rules_for names) false (held rows p) ≡ conflict (repeats rows p)
  settle_fault_is rows None known = refl
  settle_fault_is rows (Some g) (inl e) =
      let fault = λ (n : Text). option_map_or (λ a. use_fault false a (g.value ∷ []) rows) (arg_by_id (rules_for names) n) [] in
      ap fault e ∙ ap (λ f. option_map_or (λ a. use_fault false a (g.value ∷ []) rows) f []) (file_found names no_file)
      ∙ use_file g.value rows ∙ ap (λ n. conflict (has_row n rows)) (sym e)
  settle_fault_is rows (Some g) (inr among) =
      ap (λ f. option_map_or (λ a. use_fault false a (g.value ∷ []) rows) f []) (id_found names g.name among) ∙ use_option g.name g.value rows

  settled_is : (rows : List Row) (p : Option Given) → IsKnown names p → repeats rows p ≡ false → settled (rules_for names) (held rows p) ≡ held (after rows p) None
  settled_is rows None known fresh = refl
  settled_is rows (Some g) (inl e) fresh =
      let new : with_values (codes "file") reading.AsWritten CommandLine (g.value ∷ []) (without (codes "file") rows) ≡ rows ++ row (record { name = codes "file"; value = g.value }) ∷ []
      = new_row (codes "file") g.value rows (ap (λ n. has_row n rows) (sym e) ∙ fresh) in
      ap (λ (rs : List Row). held rs None)
      (ap (λ n. used_by_id (arg_by_id (rules_for names) n) (g.value ∷ []) rows) e
      ∙ ap (λ f. used_by_id f (g.value ∷ []) rows) (file_found names no_file)
      ∙ new ∙ ap (λ n. rows ++ row (record { name = n; value = g.value }) ∷ []) (sym e))
  settled_is rows (Some g) (inr among) fresh =
      ap (λ (rs : List Row). held rs None)
      (ap (λ f. used_by_id f (g.value ∷ []) rows) (id_found names g.name among) ∙ new_row g.name g.value rows fresh)

  -- ---- one word

  abbrev shape : Shape
  shape = shape_for (codes "aquarius") names

  abbrev turn : Walk → Text → Kinds
  turn w word = turn_fault shape [] w word

  abbrev stepped : Walk → Text → Walk
  stepped w word = walked (rules_for names) [] w word

  -- a word that is a long option
  abbrev long_turn : Held → ℕ → Text → Option Rule → Option Text → Kinds
  long_turn h position word found v =
      or_else (long_fault (rules_for names) false found v h)
      (step_fault shape position (after_flag (rules_for names) idle word (long_met (rules_for names) found v h).0 (long_met (rules_for names) found v h).1).0
      (after_flag (rules_for names) idle word (long_met (rules_for names) found v h).0 (long_met (rules_for names) found v h).1).1)

  abbrev long_walk : Walk → Text → Option Rule → Option Text → Walk
  long_walk w word found v =
      let met = after_flag (rules_for names) idle word (long_met (rules_for names) found v w.held).0 (long_met (rules_for names) found v w.held).1 in
      after_step (rules_for names) word w met.0 met.1

  long_turn_is : (rows : List Row) (p : Option Given) (position z : ℕ) (rest name : Text) (v : Option Text) → name_and_value (z ∷ rest) ≡ (name, v)
      → turn (ready rows p position false) (45 ∷ 45 ∷ z ∷ rest) ≡ long_turn (held rows p) position (45 ∷ 45 ∷ z ∷ rest) (arg_by_long (rules_for names) name) v
  long_turn_is rows p position z rest name v e =
      ap (λ (nv : Text × Option Text). long_turn (held rows p) position (45 ∷ 45 ∷ z ∷ rest) (arg_by_long (rules_for names) nv.0) nv.1) e

  long_walk_is : (rows : List Row) (p : Option Given) (position z : ℕ) (rest name : Text) (v : Option Text) → name_and_value (z ∷ rest) ≡ (name, v)
      → stepped (ready rows p position false) (45 ∷ 45 ∷ z ∷ rest) ≡ long_walk (ready rows p position false) (45 ∷ 45 ∷ z ∷ rest) (arg_by_long (rules_for names) name) v
  unfolding walked
  long_walk_is rows p position z rest name v e =
      ap (λ (nv : Text × Option Text). long_walk (ready rows p position false) (45 ∷ 45 ∷ z ∷ rest) (arg_by_long (rules_for names) nv.0) nv.1) e

  -- `--name=v`
  joined_turn : (rows : List Row) (p : Option Given) (position : ℕ) (word name v : Text) → IsKnown names p → repeats rows p ≡ false
      → long_turn (held rows p) position word (Some (option_rule name)) (Some v) ≡ conflict (has_row name (after rows p))
  joined_turn rows p position word name v known fresh =
      drop_none _
      ∙ ap (λ k. or_else k (use_fault false (option_rule name) (v ∷ []) (settled (rules_for names) (held rows p)).rows))
      (settle_fault_is rows p known ∙ ap conflict fresh)
      ∙ use_option name v (settled (rules_for names) (held rows p)).rows
      ∙ ap (λ (h : Held). conflict (has_row name h.rows)) (settled_is rows p known fresh)

  joined_walk : (rows : List Row) (p : Option Given) (position : ℕ) (word name v : Text) → IsKnown names p → repeats rows p ≡ false → has_row name (after rows p) ≡ false
      → long_walk (ready rows p position false) word (Some (option_rule name)) (Some v) ≡ ready (after rows p ++ row (record { name = name; value = v }) ∷ []) None position false
  joined_walk rows p position word name v known fresh new =
      ap (λ (h : Held). ready (with_values name reading.AsWritten CommandLine (v ∷ []) (without name h.rows)) None position false) (settled_is rows p known fresh)
      ∙ ap (λ (rs : List Row). ready rs None position false) (new_row name v (after rows p) new)

  -- `--name`
  apart_turn : (rows : List Row) (p : Option Given) (position : ℕ) (word name : Text) → IsKnown names p
      → long_turn (held rows p) position word (Some (option_rule name)) None ≡ conflict (repeats rows p)
  apart_turn rows p position word name known = drop_none _ ∙ settle_fault_is rows p known

  apart_walk : (rows : List Row) (p : Option Given) (position : ℕ) (word name : Text) → IsKnown names p → repeats rows p ≡ false
      → long_walk (ready rows p position false) word (Some (option_rule name)) None ≡ asking (after rows p) name position false
  apart_walk rows p position word name known fresh =
      ap (λ (h : Held). asking h.rows name position false) (settled_is rows p known fresh)

  -- ---- a file

  place_fault : (rows : List Row) (p : Option Given) → IsKnown names p
      → positional_fault (rules_for names) false file_rule (held rows p) ≡ conflict (repeats rows p)
  place_fault rows p known = go (is_pending file_rule (pending_of p)) ∙ settle_fault_is rows p known
    where
      go : (b : Bool) → cond (b && false) [] (settle_fault (rules_for names) false (held rows p)) ≡ settle_fault (rules_for names) false (held rows p)
      go true = refl
      go false = refl

  abbrev file_of : Text → Given
  file_of w = record { name = codes "file"; value = w }

  place_held : (rows : List Row) (p : Option Given) (word : Text) → IsKnown names p → repeats rows p ≡ false
      → positional_held (rules_for names) file_rule word (held rows p) ≡ held (after rows p) (Some (file_of word))
  place_held rows p word known fresh =
      go (is_pending file_rule (pending_of p)) ∙ ap (pushed (codes "file") word) (settled_is rows p known fresh)
    where
      go : (b : Bool) → pushed (codes "file") word (cond (b && false) (held rows p) (settled (rules_for names) (held rows p)))
          ≡ pushed (codes "file") word (settled (rules_for names) (held rows p))
      go true = refl
      go false = refl

  abbrev place : Bool → ℕ
  place taken = if taken then 2 else 1

  -- what a word gives to the file's place, as the code sees it
  abbrev placed_turn : Held → ℕ → Kinds
  placed_turn h position = step_fault shape position h value

  abbrev placed_walk : Walk → Text → Walk
  placed_walk w word = to_positional (rules_for names) (arg_by_index (rules_for names) w.position) word w w.held

  placed_turn_first : (rows : List Row) (p : Option Given) → IsKnown names p → placed_turn (held rows p) 1 ≡ conflict (repeats rows p)
  placed_turn_first rows p known =
      ap (λ f. option_map_or (λ a. positional_fault (rules_for names) false a (held rows p)) f (stray_fault shape)) (first_place names) ∙ place_fault rows p known

  placed_turn_second : (rows : List Row) (p : Option Given) → placed_turn (held rows p) 2 ≡ kind.UnknownArgument ∷ []
  placed_turn_second rows p =
      ap (λ f. option_map_or (λ a. positional_fault (rules_for names) false a (held rows p)) f (stray_fault shape)) (second_place names)

  placed_walk_is : (rows : List Row) (p : Option Given) (word : Text) (is_trailing : Bool) → IsKnown names p → repeats rows p ≡ false
      → placed_walk (ready rows p 1 is_trailing) word ≡ ready (after rows p) (Some (file_of word)) 2 is_trailing
  placed_walk_is rows p word is_trailing known fresh =
      ap (λ f. to_positional (rules_for names) f word (ready rows p 1 is_trailing) (held rows p)) (first_place names)
      ∙ ap (λ (h : Held). record { held = h; waiting = idle; position = 2; is_trailing = is_trailing || false; stopped = None }) (place_held rows p word known fresh)
      ∙ ap (λ b. ready (after rows p) (Some (file_of word)) 2 b) (or_false is_trailing)

  -- ---- a plain word

  plain_turn_idle : (h : Held) (position : ℕ) (word : Text) → PlainFacts word
      → turn (record { held = h; waiting = idle; position = position; is_trailing = false; stopped = None }) word
      ≡ or_else [] (step_fault shape position (plain_word (rules_for names) idle word h).0 (plain_word (rules_for names) idle word h).1)
  plain_turn_idle h position word f =
      ap (λ (d : Bool). or_else (cond d [] (flag_word_fault (rules_for names) false (long_of word) word h))
      (step_fault shape position (cond d (h, trailing position) (long_or_other (rules_for names) idle word (long_of word) h)).0
      (cond d (h, trailing position) (long_or_other (rules_for names) idle word (long_of word) h)).1)) f.apart_from_end
      ∙ ap (λ l. or_else (flag_word_fault (rules_for names) false l word h)
      (step_fault shape position (long_or_other (rules_for names) idle word l h).0 (long_or_other (rules_for names) idle word l h).1)) f.no_long
      ∙ ap (λ o. or_else (option_map_or (λ flags. bundle_fault (rules_for names) false flags h) o [])
      (step_fault shape position (short_or_plain (rules_for names) idle word o h).0 (short_or_plain (rules_for names) idle word o h).1)) f.no_short

  plain_walk_idle : (h : Held) (position : ℕ) (word : Text) → PlainFacts word
      → stepped (record { held = h; waiting = idle; position = position; is_trailing = false; stopped = None }) word
      ≡ after_step (rules_for names) word (record { held = h; waiting = idle; position = position; is_trailing = false; stopped = None })
      (plain_word (rules_for names) idle word h).0 (plain_word (rules_for names) idle word h).1
  unfolding walked
  plain_walk_idle h position word f =
      let w : Walk = record { held = h; waiting = idle; position = position; is_trailing = false; stopped = None } in
      ap (λ (d : Bool). after_step (rules_for names) word w (cond d (h, trailing position) (long_or_other (rules_for names) idle word (long_of word) h)).0
      (cond d (h, trailing position) (long_or_other (rules_for names) idle word (long_of word) h)).1) f.apart_from_end
      ∙ ap (λ l. after_step (rules_for names) word w (long_or_other (rules_for names) idle word l h).0 (long_or_other (rules_for names) idle word l h).1) f.no_long
      ∙ ap (λ o. after_step (rules_for names) word w (short_or_plain (rules_for names) idle word o h).0 (short_or_plain (rules_for names) idle word o h).1) f.no_short

  plain_turn_asking : (h : Held) (position : ℕ) (name : Text) (word : Text) → PlainFacts word
      → turn (record { held = h; waiting = option name; position = position; is_trailing = false; stopped = None }) word
      ≡ or_else [] (step_fault shape position (plain_word (rules_for names) (option name) word h).0 (plain_word (rules_for names) (option name) word h).1)
  plain_turn_asking h position name word f =
      ap (λ (d : Bool). or_else (cond d [] (flag_word_fault (rules_for names) false (long_of word) word h))
      (step_fault shape position (cond d (h, trailing position) (long_or_other (rules_for names) (option name) word (long_of word) h)).0
      (cond d (h, trailing position) (long_or_other (rules_for names) (option name) word (long_of word) h)).1)) f.apart_from_end
      ∙ ap (λ l. or_else (flag_word_fault (rules_for names) false l word h)
      (step_fault shape position (long_or_other (rules_for names) (option name) word l h).0 (long_or_other (rules_for names) (option name) word l h).1)) f.no_long
      ∙ ap (λ o. or_else (option_map_or (λ flags. bundle_fault (rules_for names) false flags h) o [])
      (step_fault shape position (short_or_plain (rules_for names) (option name) word o h).0 (short_or_plain (rules_for names) (option name) word o h).1)) f.no_short

  plain_walk_asking : (h : Held) (position : ℕ) (name : Text) (word : Text) → PlainFacts word
      → stepped (record { held = h; waiting = option name; position = position; is_trailing = false; stopped = None }) word
      ≡ after_step (rules_for names) word (record { held = h; waiting = option name; position = position; is_trailing = false; stopped = None })
      (plain_word (rules_for names) (option name) word h).0 (plain_word (rules_for names) (option name) word h).1
  unfolding walked
  plain_walk_asking h position name word f =
      let w : Walk = record { held = h; waiting = option name; position = position; is_trailing = false; stopped = None } in
      ap (λ (d : Bool). after_step (rules_for names) word w (cond d (h, trailing position) (long_or_other (rules_for names) (option name) word (long_of word) h)).0
      (cond d (h, trailing position) (long_or_other (rules_for names) (option name) word (long_of word) h)).1) f.apart_from_end
      ∙ ap (λ l. after_step (rules_for names) word w (long_or_other (rules_for names) (option name) word l h).0 (long_or_other (rules_for names) (option name) word l h).1) f.no_long
      ∙ ap (λ o. after_step (rules_for names) word w (short_or_plain (rules_for names) (option name) word o h).0 (short_or_plain (rules_for names) (option name) word o h).1) f.no_short

  -- the value that an option asks for
  pushed_is : (rows : List Row) (name word : Text) (position : ℕ) → IsAmong names name
      → after_step (rules_for names) word (asking rows name position false) (plain_word (rules_for names) (option name) word (asking rows name position false).held).0
      (plain_word (rules_for names) (option name) word (asking rows name position false).held).1
      ≡ ready rows (Some (record { name = name; value = word })) position false
  pushed_is rows name word position among =
      let h : Held = record { rows = rows; pending = Some (name, []); skip = 0 } in
      ap (λ f. after_step (rules_for names) word (asking rows name position false) (option_word f name word h).0 (next (option_word f name word h).1)) (id_found names name among)
      ∙ ap (λ (b : Bool). record { held = held rows (Some (record { name = name; value = word })); waiting = if nat_lt (if b then 1 else 0) 1 then option name else idle; position = position; is_trailing = false; stopped = None })
      (is_same name)

  -- an option that asks for a value can't be settled
  unsettled : (rows : List Row) (name : Text) → IsAmong names name
      → settle_fault (rules_for names) false (record { rows = rows; pending = Some (name, []); skip = 0 }) ≡ kind.InvalidValue ∷ []
  unsettled rows name among = ap (λ f. option_map_or (λ a. use_fault false a [] rows) f []) (id_found names name among)

  -- ---- all the words

  abbrev rest_fault : Walk → List Text → Kinds
  rest_fault w words = or_else (walk_fault shape [] w words) (settle_fault (rules_for names) false (fold (walked (rules_for names) []) w words).held)

  abbrev end_rows : Walk → List Text → List Row
  end_rows w words = (settled (rules_for names) (fold (walked (rules_for names) []) w words).held).rows

  first_and_rest : (w : Walk) (word : Text) (words : List Text) → rest_fault w (word ∷ words) ≡ []
      → (turn w word ≡ []) × (rest_fault (stepped w word) words ≡ [])
  unfolding walk_fault
  first_and_rest w word words none =
      let two = both_none _ _ none in
      let one = both_none _ _ two.0 in
      (one.0, none_of_both _ _ one.1 two.1)

  from_first_and_rest : (w : Walk) (word : Text) (words : List Text) → turn w word ≡ [] → rest_fault (stepped w word) words ≡ [] → rest_fault w (word ∷ words) ≡ []
  unfolding walk_fault
  from_first_and_rest w word words one more =
      let two = both_none _ _ more in
      none_of_both _ _ (none_of_both _ _ one two.0) two.1

  no_conflict : (b : Bool) → conflict b ≡ [] → b ≡ false
  no_conflict true none = absurd (cc)
  no_conflict false none = refl

  find_long : (name : Text) → (IsAmong names name × (arg_by_long (rules_for names) name ≡ Some (option_rule name))) ⊎ (arg_by_long (rules_for names) name ≡ None)
  find_long name = go (list_any (λ n. bytes_eq n name) names) refl
    where
      go : (b : Bool) → list_any (λ n. bytes_eq n name) names ≡ b
          → (IsAmong names name × (arg_by_long (rules_for names) name ≡ Some (option_rule name))) ⊎ (arg_by_long (rules_for names) name ≡ None)
      go true e = inl (e, long_found names name e)
      go false e = inr (long_unknown names name e)

  -- what the words give, from a state on
  abbrev Fresh : List Row → List Given → Type 0
  Fresh rows [] = Unit {0}
  Fresh rows (g ∷ gs) = (has_row g.name rows ≡ false) × Fresh (rows ++ row g ∷ []) gs

  record Reads (rows : List Row) (words : List Text) (end : List Row) : Type 0 where
    given : List Given
    spelled : Spells names words given
    fresh : Fresh rows given
    ends : end ≡ rows ++ map row given

  -- one more thing was given before
  more_given : (rows : List Row) (g : Given) (words all : List Text) (end : List Row) → has_row g.name rows ≡ false
      → ((gs : List Given) → Spells names words gs → Spells names all (g ∷ gs))
      → Reads (rows ++ row g ∷ []) words end → Reads rows all end
  more_given rows g words all end new spell r = record {
    given = g ∷ r.given;
    spelled = spell r.given r.spelled;
    fresh = (new, r.fresh);
    ends = r.ends ∙ append_assoc rows (row g ∷ []) (map row r.given);
  }

  -- behind `--`
  trailing_turn : (rows : List Row) (p : Option Given) (position : ℕ) (word : Text) → turn (ready rows p position true) word ≡ placed_turn (held rows p) position
  trailing_turn rows p position word = refl

  trailing_walk : (rows : List Row) (p : Option Given) (position : ℕ) (word : Text) → stepped (ready rows p position true) word ≡ placed_walk (ready rows p position true) word
  unfolding walked
  trailing_walk rows p position word = refl

  record Ends (rows : List Row) (p : Option Given) (words : List Text) (end : List Row) : Type 0 where
    once : repeats rows p ≡ false
    reads : Reads (after rows p) words end

  -- nothing is left
  at_end : (rows : List Row) (p : Option Given) (position : ℕ) (is_trailing : Bool) → IsKnown names p → rest_fault (ready rows p position is_trailing) [] ≡ []
      → (repeats rows p ≡ false) × (end_rows (ready rows p position is_trailing) [] ≡ after rows p ++ [])
  unfolding walk_fault
  at_end rows p position is_trailing known none =
      let once = no_conflict _ (sym (settle_fault_is rows p known) ∙ none) in
      (once, ap (λ (h : Held). h.rows) (settled_is rows p known once) ∙ sym (append-nil (after rows p)))

  known_file : (word : Text) → IsKnown names (Some (file_of word))
  known_file word = inl refl

  trailing_case : (rows : List Row) (p : Option Given) (taken : Bool) (words : List Text) → IsKnown names p → rest_fault (ready rows p (place taken) true) words ≡ []
      → Ends rows p (dashed [] ∷ words) (end_rows (ready rows p (place taken) true) words)
  trailing_case rows p taken [] known none =
      let e = at_end rows p (place taken) true known none in
      record { once = e.0; reads = record { given = []; spelled = ended; fresh = tt; ends = e.1 } }
  trailing_case rows p true (word ∷ words) known none =
      let bad : kind.UnknownArgument ∷ [] ≡ [] = sym (placed_turn_second rows p) ∙ (first_and_rest (ready rows p 2 true) word words none).0 in absurd (cc)
  trailing_case rows p false (word ∷ []) known none =
      let f = first_and_rest (ready rows p 1 true) word [] none in
      let once = no_conflict _ (sym (placed_turn_first rows p known) ∙ f.0) in
      let walk_is = trailing_walk rows p 1 word ∙ placed_walk_is rows p word true known once in
      let e = at_end (after rows p) (Some (file_of word)) 2 true (known_file word) (subst (λ w. rest_fault w [] ≡ []) walk_is f.1) in
      record {
        once = once;
        reads = record {
          given = file_of word ∷ [];
          spelled = last word;
          fresh = (e.0, tt);
          ends = ap (λ w. end_rows w []) walk_is ∙ e.1 ∙ append-nil _;
        };
      }
  trailing_case rows p false (word ∷ other ∷ words) known none =
      let f = first_and_rest (ready rows p 1 true) word (other ∷ words) none in
      let once = no_conflict _ (sym (placed_turn_first rows p known) ∙ f.0) in
      let walk_is = trailing_walk rows p 1 word ∙ placed_walk_is rows p word true known once in
      let g = first_and_rest (ready (after rows p) (Some (file_of word)) 2 true) other words (subst (λ w. rest_fault w (other ∷ words) ≡ []) walk_is f.1) in
      let bad : kind.UnknownArgument ∷ [] ≡ [] = sym (placed_turn_second (after rows p) (Some (file_of word))) ∙ g.0 in absurd (cc)

  -- ---- kinds of words

  bad_bundle : (flags : Text) (h : Held) (x : ℕ) → h.skip ≡ 0 → 0 < length flags → slice_get (chars flags) 0 ≡ Some x
      → bundle_fault (rules_for names) false flags h ≡ kind.UnknownArgument ∷ []
  unfolding flags_fault
  bad_bundle [] h x unskipped some e = absurd (omega arith)
  bad_bundle (y ∷ rest) h x unskipped some e =
      let g = record h { skip = 0 } in
      ap (λ (k : ℕ). flags_fault (rules_for names) false (suc (length rest)) (y ∷ rest) k g) unskipped
      ∙ ap (λ o. bundle_step_fault (rules_for names) false o (y ∷ rest) 0 g (flags_fault (rules_for names) false (length rest))) e
      ∙ ap (λ o. short_fault (rules_for names) false o (drop (length (encode_utf8 x)) (y ∷ rest)) g (flags_fault (rules_for names) false (length rest) (drop (length (encode_utf8 x)) (y ∷ rest)) 0))
      (no_short names x)

  short_word_fault : (y : ℕ) (rest : Text) (h : Held) → (y == 45) ≡ false → h.skip ≡ 0 → IsUtf8 (45 ∷ y ∷ rest)
      → other_fault shape None (45 ∷ y ∷ rest) h ≡ kind.UnknownArgument ∷ []
  short_word_fault y rest h e unskipped text =
      let flags_text = after_hyphen (y ∷ rest) text in
      let some = has_char y rest flags_text in
      ap (λ (b : Bool). cond (b && bytes_eq rest []) [] (flag_word_fault (rules_for names) false (option_and_then long_of_rest (cond b (Some rest) None)) (45 ∷ y ∷ rest) h)) e
      ∙ ap (λ (b : Bool). option_map_or (λ flags. bundle_fault (rules_for names) false flags h) (cond b None (Some (y ∷ rest))) []) e
      ∙ bad_bundle (y ∷ rest) h some.0 unskipped (omega arith) some.1

  asked_long : (rows : List Row) (name : Text) (found : Text) (v : Option Text) → IsAmong names name
      → long_fault (rules_for names) false (arg_by_long (rules_for names) found) v (record { rows = rows; pending = Some (name, []); skip = 0 }) ≡ [] → ⊥
  asked_long rows name found v among none = elim (find_long found) [
    | inl is ↦ asked_some v is.1 none
    | inr is ↦
        let bad : kind.UnknownArgument ∷ [] ≡ [] = sym (ap (λ f. long_fault (rules_for names) false f v h) is) ∙ none in (cc)
  ]
    where
      h : Held
      h = record { rows = rows; pending = Some (name, []); skip = 0 }

      asked_some : (w : Option Text) → arg_by_long (rules_for names) found ≡ Some (option_rule found)
          → long_fault (rules_for names) false (arg_by_long (rules_for names) found) w h ≡ [] → ⊥
      asked_some None is none =
          let bad : kind.InvalidValue ∷ [] ≡ [] = sym (unsettled rows name among) ∙ sym (ap (λ f. long_fault (rules_for names) false f None h) is) ∙ none in (cc)
      asked_some (Some x) is none =
          let settle = (both_none _ _ (sym (ap (λ f. long_fault (rules_for names) false f (Some x) h) is) ∙ none)).0 in
          let bad : kind.InvalidValue ∷ [] ≡ [] = sym (unsettled rows name among) ∙ settle in (cc)

  asking_long_bad : (rows : List Row) (name : Text) (position z : ℕ) (rest : Text) → IsAmong names name
      → turn (asking rows name position false) (45 ∷ 45 ∷ z ∷ rest) ≡ [] → ⊥
  asking_long_bad rows name position z rest among none =
      asked_long rows name (name_and_value (z ∷ rest)).0 (name_and_value (z ∷ rest)).1 among (both_none _ _ none).0

  short_bad_ready : (rows : List Row) (p : Option Given) (position y : ℕ) (rest : Text) → (y == 45) ≡ false → IsUtf8 (45 ∷ y ∷ rest)
      → turn (ready rows p position false) (45 ∷ y ∷ rest) ≡ [] → ⊥
  short_bad_ready rows p position y rest e text none =
      let bad : kind.UnknownArgument ∷ [] ≡ [] = sym (short_word_fault y rest (held rows p) e refl text) ∙ (both_none _ _ none).0 in (cc)

  short_bad_asking : (rows : List Row) (name : Text) (position y : ℕ) (rest : Text) → (y == 45) ≡ false → IsUtf8 (45 ∷ y ∷ rest)
      → turn (asking rows name position false) (45 ∷ y ∷ rest) ≡ [] → ⊥
  short_bad_asking rows name position y rest e text none =
      let bad : kind.UnknownArgument ∷ [] ≡ [] = sym (short_word_fault y rest (record { rows = rows; pending = Some (name, []); skip = 0 }) e refl text) ∙ (both_none _ _ none).0 in (cc)

  -- an option still asks for its value behind `--`, or at the end
  asking_end_bad : (rows : List Row) (name : Text) (position : ℕ) (is_trailing : Bool) → IsAmong names name
      → rest_fault (asking rows name position is_trailing) [] ≡ [] → ⊥
  unfolding walk_fault
  asking_end_bad rows name position is_trailing among none =
      let bad : kind.InvalidValue ∷ [] ≡ [] = sym (unsettled rows name among) ∙ none in (cc)

  asking_placed_bad : (rows : List Row) (name : Text) (taken : Bool) → IsAmong names name
      → placed_turn (record { rows = rows; pending = Some (name, []); skip = 0 }) (place taken) ≡ [] → ⊥
  asking_placed_bad rows name true among none =
      let h : Held = record { rows = rows; pending = Some (name, []); skip = 0 } in
      let bad : kind.UnknownArgument ∷ [] ≡ []
      = sym (ap (λ f. option_map_or (λ a. positional_fault (rules_for names) false a h) f (stray_fault shape)) (second_place names)) ∙ none in (cc)
  asking_placed_bad rows name false among none =
      let bad : kind.InvalidValue ∷ [] ≡ []
      = sym (ap (λ f. option_map_or (λ a. positional_fault (rules_for names) false a h) f (stray_fault shape)) (first_place names)
      ∙ go (is_pending file_rule h.pending) ∙ unsettled rows name among) ∙ none in (cc)
    where
      h : Held
      h = record { rows = rows; pending = Some (name, []); skip = 0 }

      go : (b : Bool) → cond (b && false) [] (settle_fault (rules_for names) false h) ≡ settle_fault (rules_for names) false h
      go true = refl
      go false = refl

  asking_trailing_bad : (rows : List Row) (name : Text) (taken : Bool) (words : List Text) → IsAmong names name
      → rest_fault (asking rows name (place taken) true) words ≡ [] → ⊥
  asking_trailing_bad rows name taken [] among none = asking_end_bad rows name (place taken) true among none
  asking_trailing_bad rows name taken (word ∷ words) among none =
      asking_placed_bad rows name taken among (first_and_rest (asking rows name (place taken) true) word words none).0

  asking_to_trailing : (rows : List Row) (name : Text) (position : ℕ) → stepped (asking rows name position false) (45 ∷ 45 ∷ []) ≡ asking rows name position true
  unfolding walked
  asking_to_trailing rows name position = refl

  ready_to_trailing : (rows : List Row) (p : Option Given) (position : ℕ) → stepped (ready rows p position false) (45 ∷ 45 ∷ []) ≡ ready rows p position true
  unfolding walked
  ready_to_trailing rows p position = refl

  abbrev AllText : List Text → Type 0
  AllText [] = Unit {0}
  AllText (w ∷ ws) = IsUtf8 w × AllText ws

  Claim : List Text → Type 0
  Claim words = AllText words → (rows : List Row) (p : Option Given) (taken : Bool) → IsKnown names p
      → rest_fault (ready rows p (place taken) false) words ≡ [] → Ends rows p words (end_rows (ready rows p (place taken) false) words)

  -- the value of an option, in a word of its own
  value_case : (v : Text) → Sort v → (words : List Text) → Claim words → AllText (v ∷ words) → (rows : List Row) (name : Text) (taken : Bool) → IsAmong names name
      → rest_fault (asking rows name (place taken) false) (v ∷ words) ≡ []
      → Reads rows (dashed name ∷ v ∷ words) (end_rows (asking rows name (place taken) false) (v ∷ words))
  unfolding Claim
  value_case _ ends_options words more text rows name taken among none =
      let f = first_and_rest (asking rows name (place taken) false) (45 ∷ 45 ∷ []) words none in
      absurd (asking_trailing_bad rows name taken words among (subst (λ w. rest_fault w words ≡ []) (asking_to_trailing rows name (place taken)) f.1))
  value_case _ (is_long z rest) words more text rows name taken among none =
      absurd (asking_long_bad rows name (place taken) z rest among (first_and_rest (asking rows name (place taken) false) (45 ∷ 45 ∷ z ∷ rest) words none).0)
  value_case _ (is_short y rest e) words more text rows name taken among none =
      absurd (short_bad_asking rows name (place taken) y rest e text.0 (first_and_rest (asking rows name (place taken) false) (45 ∷ y ∷ rest) words none).0)
  value_case _ (is_other v plain) words more text rows name taken among none =
      let f = first_and_rest (asking rows name (place taken) false) v words none in
      let g : Given = record { name = name; value = v } in
      let h : Held = record { rows = rows; pending = Some (name, []); skip = 0 } in
      let walk_is = plain_walk_asking h (place taken) name v (plain_facts v plain) ∙ pushed_is rows name v (place taken) among in
      let e = more text.1 rows (Some g) taken (inr among) (subst (λ w. rest_fault w words ≡ []) walk_is f.1) in
      subst (λ (w : Walk). Reads rows (dashed name ∷ v ∷ words) (end_rows w words)) (sym walk_is)
      (more_given rows g words (dashed name ∷ v ∷ words) _ e.once (λ gs s. apart name v words gs among plain s) e.reads)

  -- one word, and the words behind it
  word_case : (word : Text) → Sort word → (words : List Text) → Claim words
      → ((v : Text) (more : List Text) → words ≡ v ∷ more → Claim more)
      → AllText (word ∷ words) → (rows : List Row) (p : Option Given) (taken : Bool) → IsKnown names p
      → rest_fault (ready rows p (place taken) false) (word ∷ words) ≡ []
      → Ends rows p (word ∷ words) (end_rows (ready rows p (place taken) false) (word ∷ words))
  unfolding Claim
  word_case _ ends_options words next_claim later text rows p taken known none =
      let f = first_and_rest (ready rows p (place taken) false) (45 ∷ 45 ∷ []) words none in
      let walk_is = ready_to_trailing rows p (place taken) in
      subst (λ (w : Walk). Ends rows p (dashed [] ∷ words) (end_rows w words)) (sym walk_is)
      (trailing_case rows p taken words known (subst (λ w. rest_fault w words ≡ []) walk_is f.1))
  word_case _ (is_short y rest e) words next_claim later text rows p taken known none =
      absurd (short_bad_ready rows p (place taken) y rest e text.0 (first_and_rest (ready rows p (place taken) false) (45 ∷ y ∷ rest) words none).0)
  word_case _ (is_other word plain) words next_claim later text rows p true known none =
      let f = first_and_rest (ready rows p 2 false) word words none in
      let bad : kind.UnknownArgument ∷ [] ≡ [] = sym (placed_turn_second rows p) ∙ sym (plain_turn_idle (held rows p) 2 word (plain_facts word plain)) ∙ f.0 in absurd (cc)
  word_case _ (is_other word plain) words next_claim later text rows p false known none =
      let f = first_and_rest (ready rows p 1 false) word words none in
      let facts = plain_facts word plain in
      let once = no_conflict _ (sym (placed_turn_first rows p known) ∙ sym (plain_turn_idle (held rows p) 1 word facts) ∙ f.0) in
      let walk_is = plain_walk_idle (held rows p) 1 word facts ∙ placed_walk_is rows p word false known once in
      let e = next_claim text.1 (after rows p) (Some (file_of word)) true (known_file word) (subst (λ w. rest_fault w words ≡ []) walk_is f.1) in
      record {
        once = once;
        reads = subst (λ (w : Walk). Reads (after rows p) (word ∷ words) (end_rows w words)) (sym walk_is)
            (more_given (after rows p) (file_of word) words (word ∷ words) _ e.once (λ gs s. file word words gs plain s) e.reads);
      }
  word_case _ (is_long z rest) words next_claim later text rows p taken known none = elim (name_value_cases (z ∷ rest)) [
    | inl alone ↦ elim (find_long (z ∷ rest)) [
      | inl found ↦
          let turn_is = long_turn_is rows p (place taken) z rest (z ∷ rest) None alone.1
          ∙ ap (λ f. long_turn (held rows p) (place taken) word f None) found.1 in
          let once = no_conflict _ (sym (apart_turn rows p (place taken) word (z ∷ rest) known) ∙ sym turn_is ∙ first.0) in
          let walk_is = long_walk_is rows p (place taken) z rest (z ∷ rest) None alone.1
          ∙ ap (λ f. long_walk (ready rows p (place taken) false) word f None) found.1
          ∙ apart_walk rows p (place taken) word (z ∷ rest) known once in
          record {
            once = once;
            reads = subst (λ (w : Walk). Reads (after rows p) (word ∷ words) (end_rows w words)) (sym walk_is)
                (asked words later text.1 (z ∷ rest) (after rows p) found.0 (subst (λ w. rest_fault w words ≡ []) walk_is first.1));
          }
      | inr unknown ↦
          let bad : kind.UnknownArgument ∷ [] ≡ [] = sym (ap (λ f. long_turn (held rows p) (place taken) word f None) unknown)
          ∙ sym (long_turn_is rows p (place taken) z rest (z ∷ rest) None alone.1) ∙ first.0 in absurd (cc)
    ]
    | inr both ↦ elim (find_long both.0) [
      | inl found ↦
          let turn_is = long_turn_is rows p (place taken) z rest both.0 (Some both.1) both.3
          ∙ ap (λ f. long_turn (held rows p) (place taken) word f (Some both.1)) found.1 in
          let passed = sym turn_is ∙ first.0 in
          let once = no_conflict _ (sym (settle_fault_is rows p known) ∙ (both_none _ _ (both_none _ _ passed).0).0) in
          let new = no_conflict _ (sym (joined_turn rows p (place taken) word both.0 both.1 known once) ∙ passed) in
          let walk_is = long_walk_is rows p (place taken) z rest both.0 (Some both.1) both.3
          ∙ ap (λ f. long_walk (ready rows p (place taken) false) word f (Some both.1)) found.1
          ∙ joined_walk rows p (place taken) word both.0 both.1 known once new in
          let g : Given = record { name = both.0; value = both.1 } in
          let e = next_claim text.1 (after rows p ++ row g ∷ []) None taken tt (subst (λ w. rest_fault w words ≡ []) walk_is first.1) in
          record {
            once = once;
            reads = subst (λ (w : Walk). Reads (after rows p) (word ∷ words) (end_rows w words)) (sym walk_is)
                (more_given (after rows p) g words (word ∷ words) _ new
                (λ gs s. subst (λ (t : Text). Spells names ((45 ∷ 45 ∷ t) ∷ words) (g ∷ gs)) (sym both.2) (joined both.0 both.1 words gs found.0 s)) e.reads);
          }
      | inr unknown ↦
          let bad : kind.UnknownArgument ∷ [] ≡ [] = sym (ap (λ f. long_turn (held rows p) (place taken) word f (Some both.1)) unknown)
          ∙ sym (long_turn_is rows p (place taken) z rest both.0 (Some both.1) both.3) ∙ first.0 in absurd (cc)
    ]
  ]
    where
      word : Text
      word = 45 ∷ 45 ∷ z ∷ rest

      first : (turn (ready rows p (place taken) false) word ≡ []) × (rest_fault (stepped (ready rows p (place taken) false) word) words ≡ [])
      first = first_and_rest (ready rows p (place taken) false) word words none

      asked : (ws : List Text) → ((v : Text) (more : List Text) → ws ≡ v ∷ more → Claim more) → AllText ws → (name : Text) (rs : List Row) → IsAmong names name
          → rest_fault (asking rs name (place taken) false) ws ≡ [] → Reads rs (dashed name ∷ ws) (end_rows (asking rs name (place taken) false) ws)
      asked [] _ texts name rs among none = absurd (asking_end_bad rs name (place taken) false among none)
      asked (v ∷ more) claims texts name rs among none = value_case v (sort v) more (claims v more refl) texts rs name taken among none

  -- where clap takes the words, they are spelled by the grammar, and the rows are what they give
  taken_is_spelled : (words : List Text) → Claim words
  unfolding Claim
  taken_is_spelled [] text rows p taken known none =
      let e = at_end rows p (place taken) false known none in
      record { once = e.0; reads = record { given = []; spelled = nothing; fresh = tt; ends = e.1 } }
  taken_is_spelled (w ∷ []) text rows p taken known none =
      word_case w (sort w) [] (taken_is_spelled []) (λ v more e. let bad : [] ≡ v ∷ more = e in absurd (cc)) text rows p taken known none
  taken_is_spelled (w ∷ v ∷ ws) text rows p taken known none =
      word_case w (sort w) (v ∷ ws) (taken_is_spelled (v ∷ ws)) (λ u more e. subst Claim (tail_is e) (taken_is_spelled ws)) text rows p taken known none
    where
      tail_is : {u : Text} {more : List Text} → v ∷ ws ≡ u ∷ more → ws ≡ more
      tail_is e = cc

  -- ---- and the other way

  nonempty_turn : (rows : List Row) (p : Option Given) (position : ℕ) (text name : Text) (v : Option Text) → 0 < length text → name_and_value text ≡ (name, v)
      → turn (ready rows p position false) (45 ∷ 45 ∷ text) ≡ long_turn (held rows p) position (45 ∷ 45 ∷ text) (arg_by_long (rules_for names) name) v
  nonempty_turn rows p position [] name v some e = absurd (omega arith)
  nonempty_turn rows p position (z ∷ rest) name v some e = long_turn_is rows p position z rest name v e

  nonempty_walk : (rows : List Row) (p : Option Given) (position : ℕ) (text name : Text) (v : Option Text) → 0 < length text → name_and_value text ≡ (name, v)
      → stepped (ready rows p position false) (45 ∷ 45 ∷ text) ≡ long_walk (ready rows p position false) (45 ∷ 45 ∷ text) (arg_by_long (rules_for names) name) v
  nonempty_walk rows p position [] name v some e = absurd (omega arith)
  nonempty_walk rows p position (z ∷ rest) name v some e = long_walk_is rows p position z rest name v e

  Good : Type 0
  Good = (name : Text) → IsAmong names name → (has_byte 61 name ≡ false) × (0 < length name) × (bytes_eq name (codes "file") ≡ false)

  settles : (rows : List Row) (p : Option Given) (position : ℕ) (is_trailing : Bool) → IsKnown names p → repeats rows p ≡ false
      → rest_fault (ready rows p position is_trailing) [] ≡ []
  unfolding walk_fault
  settles rows p position is_trailing known once = settle_fault_is rows p known ∙ ap conflict once

  file_next : (rows : List Row) (w : Text) → true ≡ has_row (codes "file") (rows ++ row (file_of w) ∷ [])
  file_next rows w = sym (has_row-append (codes "file") rows (file_of w) ∙ go (has_row (codes "file") rows))
    where
      go : (b : Bool) → (b || true) ≡ true
      go true = refl
      go false = refl

  option_next : (rows : List Row) (g : Given) (taken : Bool) → bytes_eq g.name (codes "file") ≡ false → taken ≡ has_row (codes "file") rows
      → taken ≡ has_row (codes "file") (rows ++ row g ∷ [])
  option_next rows g taken other is =
      is ∙ sym (or_false _) ∙ ap (λ b. has_row (codes "file") rows || b) (sym other) ∙ sym (has_row-append (codes "file") rows g)

  placed_ok : (rows : List Row) (p : Option Given) (taken : Bool) → IsKnown names p → repeats rows p ≡ false → taken ≡ false → placed_turn (held rows p) (place taken) ≡ []
  placed_ok rows p true known once e = absurd (true≢false e)
  placed_ok rows p false known once e = placed_turn_first rows p known ∙ ap conflict once

  placed_to : (rows : List Row) (p : Option Given) (taken : Bool) (word : Text) (is_trailing : Bool) → IsKnown names p → repeats rows p ≡ false → taken ≡ false
      → placed_walk (ready rows p (place taken) is_trailing) word ≡ ready (after rows p) (Some (file_of word)) 2 is_trailing
  placed_to rows p true word is_trailing known once e = absurd (true≢false e)
  placed_to rows p false word is_trailing known once e = placed_walk_is rows p word is_trailing known once

  spelled_is_taken : Good → (words : List Text) (gs : List Given) → Spells names words gs → (rows : List Row) (p : Option Given) (taken : Bool)
      → taken ≡ has_row (codes "file") (after rows p) → IsKnown names p → repeats rows p ≡ false → Fresh (after rows p) gs
      → rest_fault (ready rows p (place taken) false) words ≡ []
  unfolding Good
  spelled_is_taken good _ _ nothing rows p taken is known once fresh = settles rows p (place taken) false known once
  spelled_is_taken good _ _ ended rows p taken is known once fresh =
      from_first_and_rest (ready rows p (place taken) false) (dashed []) [] refl
      (subst (λ w. rest_fault w [] ≡ []) (sym (ready_to_trailing rows p (place taken))) (settles rows p (place taken) true known once))
  spelled_is_taken good _ _ (last word) rows p taken is known once fresh =
      let e = is ∙ fresh.0 in
      from_first_and_rest (ready rows p (place taken) false) (dashed []) (word ∷ []) refl
      (subst (λ w. rest_fault w (word ∷ []) ≡ []) (sym (ready_to_trailing rows p (place taken)))
      (from_first_and_rest (ready rows p (place taken) true) word [] (trailing_turn rows p (place taken) word ∙ placed_ok rows p taken known once e)
      (subst (λ w. rest_fault w [] ≡ []) (sym (trailing_walk rows p (place taken) word ∙ placed_to rows p taken word true known once e))
      (settles (after rows p) (Some (file_of word)) 2 true (known_file word) fresh.0))))
  spelled_is_taken good _ _ (file word ws gs plain s) rows p taken is known once fresh =
      let e = is ∙ fresh.0 in
      let facts = plain_facts word plain in
      from_first_and_rest (ready rows p (place taken) false) word ws
      (plain_turn_idle (held rows p) (place taken) word facts ∙ placed_ok rows p taken known once e)
      (subst (λ w. rest_fault w ws ≡ []) (sym (plain_walk_idle (held rows p) (place taken) word facts ∙ placed_to rows p taken word false known once e))
      (spelled_is_taken good ws gs s (after rows p) (Some (file_of word)) true (file_next (after rows p) word) (known_file word) fresh.0 fresh.1))
  spelled_is_taken good _ _ (apart name v ws gs among plain s) rows p taken is known once fresh =
      let ok = good name among in
      let alone = alone_is name ok.0 in
      let g : Given = record { name = name; value = v } in
      let h : Held = record { rows = after rows p; pending = Some (name, []); skip = 0 } in
      let facts = plain_facts v plain in
      from_first_and_rest (ready rows p (place taken) false) (dashed name) (v ∷ ws)
      (nonempty_turn rows p (place taken) name name None ok.1 alone ∙ ap (λ f. long_turn (held rows p) (place taken) (dashed name) f None) (long_found names name among)
      ∙ apart_turn rows p (place taken) (dashed name) name known ∙ ap conflict once)
      (subst (λ w. rest_fault w (v ∷ ws) ≡ [])
      (sym (nonempty_walk rows p (place taken) name name None ok.1 alone ∙ ap (λ f. long_walk (ready rows p (place taken) false) (dashed name) f None) (long_found names name among)
      ∙ apart_walk rows p (place taken) (dashed name) name known once))
      (from_first_and_rest (asking (after rows p) name (place taken) false) v ws (plain_turn_asking h (place taken) name v facts)
      (subst (λ w. rest_fault w ws ≡ []) (sym (plain_walk_asking h (place taken) name v facts ∙ pushed_is (after rows p) name v (place taken) among))
      (spelled_is_taken good ws gs s (after rows p) (Some g) taken (option_next (after rows p) g taken ok.2 is) (inr among) fresh.0 fresh.1))))
  spelled_is_taken good _ _ (joined name v ws gs among s) rows p taken is known once fresh =
      let ok = good name among in
      let nv = joined_is name v ok.0 in
      let some = some_joined name v in
      let g : Given = record { name = name; value = v } in
      from_first_and_rest (ready rows p (place taken) false) (dashed (name ++ 61 ∷ v)) ws
      (nonempty_turn rows p (place taken) (name ++ 61 ∷ v) name (Some v) some nv
      ∙ ap (λ f. long_turn (held rows p) (place taken) (dashed (name ++ 61 ∷ v)) f (Some v)) (long_found names name among)
      ∙ joined_turn rows p (place taken) (dashed (name ++ 61 ∷ v)) name v known once ∙ ap conflict fresh.0)
      (subst (λ w. rest_fault w ws ≡ [])
      (sym (nonempty_walk rows p (place taken) (name ++ 61 ∷ v) name (Some v) some nv
      ∙ ap (λ f. long_walk (ready rows p (place taken) false) (dashed (name ++ 61 ∷ v)) f (Some v)) (long_found names name among)
      ∙ joined_walk rows p (place taken) (dashed (name ++ 61 ∷ v)) name v known once fresh.0))
      (spelled_is_taken good ws gs s (after rows p ++ row g ∷ []) None taken (option_next (after rows p) g taken ok.2 is) tt refl fresh.1))

-- ---- the command

no_default_faults : (names : List Text) (rows : List Row) → defaults_fault rows (rules_for names) ≡ []
unfolding defaults_fault
no_default_faults [] rows = go (has_row (codes "file") rows)
  where
    go : (b : Bool) → or_else (cond (b || true) [] (given_default_fault file_rule [])) [] ≡ []
    go true = refl
    go false = refl
no_default_faults (n ∷ ns) rows = go (has_row n rows) ∙ no_default_faults ns (with_default rows (option_rule n))
  where
    go : (b : Bool) → or_else (cond (b || true) [] (given_default_fault (option_rule n) [])) (defaults_fault (with_default rows (option_rule n)) (rules_for ns))
        ≡ defaults_fault (with_default rows (option_rule n)) (rules_for ns)
    go true = refl
    go false = refl

no_default_rows : (names : List Text) (rows : List Row) → fold with_default rows (rules_for names) ≡ rows
no_default_rows [] rows = go (has_row (codes "file") rows)
  where
    go : (b : Bool) → cond b rows rows ≡ rows
    go true = refl
    go false = refl
no_default_rows (n ∷ ns) rows = ap (λ (rs : List Row). fold with_default rs (rules_for ns)) (go (has_row n rows)) ∙ no_default_rows ns rows
  where
    go : (b : Bool) → cond b rows rows ≡ rows
    go true = refl
    go false = refl

no_file_name : list_any (λ n. bytes_eq n (codes "file")) option_names ≡ false
no_file_name = refl

abbrev top : Shape
top = shape_for (codes "aquarius") option_names

no_stop : (words : List Text) (stop : Option (Text × List Text))
    → level_fault top [] nothing_held words (is_some (entered (built program) stop)) (entered_fault (built program) stop) ≡ level_fault top [] nothing_held words false []
no_stop words None = refl
no_stop words (Some s) = refl

fault_is : (words : List Text) → fault_of program words ≡ level_fault top [] nothing_held words false []
fault_is words = no_stop words _

level_is : (words : List Text) → level_fault top [] nothing_held words false [] ≡ rest_fault option_names no_file_name (ready [] None 1 false) words
level_is words =
    let h = (fold (walked (rules_for option_names) []) (ready [] None 1 false) words).held in
    let w = walk_fault top [] (ready [] None 1 false) words in
    ap (λ (d : Kinds). or_else w (or_else (settle_fault (rules_for option_names) false h) (or_else d []))) (no_default_faults option_names (settled (rules_for option_names) h).rows)
    ∙ ap (or_else w) (drop_none (settle_fault (rules_for option_names) false h))

-- ---- each name once

NoneIn : List Row → List Given → Type 0
NoneIn rows [] = Unit {0}
NoneIn rows (h ∷ hs) = (has_row h.name rows ≡ false) × NoneIn rows hs

neither : (a b : Bool) → (a || b) ≡ false → (a ≡ false) × (b ≡ false)
neither true b e = absurd (true≢false e)
neither false b e = (refl, e)

or_both : (a b : Bool) → a ≡ false → b ≡ false → (a || b) ≡ false
or_both a b e f = ap (λ x. x || b) e ∙ f

split_none : (rows : List Row) (g : Given) (hs : List Given) → NoneIn (rows ++ row g ∷ []) hs → NoneIn rows hs × (list_any (λ h. bytes_eq g.name h.name) hs ≡ false)
unfolding NoneIn
split_none rows g [] none = (tt, refl)
split_none rows g (h ∷ hs) none =
    let here = neither _ _ (sym (has_row-append h.name rows g) ∙ none.0) in
    let more = split_none rows g hs none.1 in
    ((here.0, more.0), or_both _ _ here.1 more.1)

join_none : (rows : List Row) (g : Given) (hs : List Given) → NoneIn rows hs → list_any (λ h. bytes_eq g.name h.name) hs ≡ false → NoneIn (rows ++ row g ∷ []) hs
unfolding NoneIn
join_none rows g [] none other = tt
join_none rows g (h ∷ hs) none other =
    let two = neither _ _ other in
    (has_row-append h.name rows g ∙ or_both _ _ none.0 two.0, join_none rows g hs none.1 two.1)

once_from_fresh : (rows : List Row) (gs : List Given) → Fresh option_names no_file_name rows gs → AtMostOnce gs × NoneIn rows gs
unfolding NoneIn
once_from_fresh rows [] fresh = (tt, tt)
once_from_fresh rows (g ∷ gs) fresh =
    let more = once_from_fresh (rows ++ row g ∷ []) gs fresh.1 in
    let two = split_none rows g gs more.1 in
    ((two.1, more.0), (fresh.0, two.0))

fresh_from_once : (rows : List Row) (gs : List Given) → AtMostOnce gs → NoneIn rows gs → Fresh option_names no_file_name rows gs
unfolding NoneIn
fresh_from_once rows [] once none = tt
fresh_from_once rows (g ∷ gs) once none = (none.0, fresh_from_once (rows ++ row g ∷ []) gs once.1 (join_none rows g gs none.1 once.0))

none_in_nothing : (gs : List Given) → NoneIn [] gs
unfolding NoneIn
none_in_nothing [] = tt
none_in_nothing (g ∷ gs) = (refl, none_in_nothing gs)

-- ---- the names

abbrev is_good : Text → Bool
is_good name = not (has_byte 61 name) && (nat_lt 0 (length name) && not (bytes_eq name (codes "file")))

pub both_true : (a b : Bool) → (a && b) ≡ true → (a ≡ true) × (b ≡ true)
both_true true b e = (refl, e)
both_true false b e = absurd (true≢false (sym e))

pub good_name : (names : List Text) → list_all is_good names ≡ true → (name : Text) → IsAmong names name → is_good name ≡ true
good_name [] all name among = absurd (true≢false (sym among))
good_name (n ∷ ns) all name among = go (bytes_eq n name) refl among (good_name ns (both_true _ _ all).1 name)
  where
    go : (b : Bool) → bytes_eq n name ≡ b → (b || list_any (λ m. bytes_eq m name) ns) ≡ true → (IsAmong ns name → is_good name ≡ true) → is_good name ≡ true
    go true e among more = subst (λ (t : Text). is_good t ≡ true) (same_is n name e) (both_true _ _ all).0
    go false e among more = more among

good : Good option_names no_file_name
unfolding Good
good name among =
    let one = both_true _ _ (good_name option_names refl name among) in
    let two = both_true _ _ one.1 in
    (negated _ one.0, ltb-true 0 (length name) two.0, negated _ two.1)

-- ---- what clap answers, by the grammar

abbrev pub TextWords : List Text → Type 0
TextWords [] = Unit {0}
TextWords (w ∷ ws) = IsUtf8 w × TextWords ws

texts_are : (words : List Text) → TextWords words → AllText option_names no_file_name words
texts_are [] t = tt
texts_are (w ∷ ws) t = (t.0, texts_are ws t.1)

-- the words are spelled so, and these are the values
pub record Spelled (words : List Text) (rows : List Row) : Type 0 where
  pub given : List Given
  pub spells : Spells option_names words given
  pub once : AtMostOnce given
  pub values : (id : Text) → first_of id rows ≡ value_of given id

first_is : (id : Text) (gs : List Given) → first_of id (map row gs) ≡ value_of gs id
first_is id [] = refl
first_is id (g ∷ gs) = go (bytes_eq g.name id) (first_is id gs)
  where
    go : (b : Bool) → first_of id (map row gs) ≡ value_of gs id
        → option_and_then (λ (r : Row). slice_get r.values 0) (cond b (Some (row g)) (find (λ r. bytes_eq r.id id) (map row gs)))
        ≡ option_map (λ (h : Given). h.value) (cond b (Some g) (find (λ h. bytes_eq h.name id) gs))
    go true e = refl
    go false e = e

pub passed_is_spelled : (words : List Text) → TextWords words → fault_of program words ≡ [] → Spelled words (matches_of program words)
unfolding Claim
passed_is_spelled words texts none =
    let rest = sym (fault_is words ∙ level_is words) ∙ none in
    let e = taken_is_spelled option_names no_file_name words (texts_are words texts) [] None false tt rest in
    let rows_are : matches_of program words ≡ map row e.reads.given
    = no_default_rows option_names (end_rows option_names no_file_name (ready [] None 1 false) words) ∙ e.reads.ends in
    record {
      given = e.reads.given;
      spells = e.reads.spelled;
      once = (once_from_fresh [] e.reads.given e.reads.fresh).0;
      values = λ id. ap (first_of id) rows_are ∙ first_is id e.reads.given;
    }

pub spelled_passes : (words : List Text) (gs : List Given) → Spells option_names words gs → AtMostOnce gs → fault_of program words ≡ []
spelled_passes words gs s once =
    fault_is words ∙ level_is words
    ∙ spelled_is_taken option_names no_file_name good words gs s [] None false refl tt refl (fresh_from_once [] gs once (none_in_nothing gs))

pub strings_are_text : (words : List (String Global)) → TextWords (map string_bytes words)
strings_are_text [] = tt
strings_are_text (w ∷ ws) = (IsUtf8-string_bytes w, strings_are_text ws)
