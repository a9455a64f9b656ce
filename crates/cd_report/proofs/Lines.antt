-- A text that is written line by line.
use Rattle.std.proofs.Common.{◌≡◌, ℕ, ◌+◌, ◌<◌, Bool, true, false, cond, not, ◌==◌, List, [], ◌∷◌, ◌++◌, suc, length, take, drop, min, Option, refl, sym, ap, ◌∙◌, subst, arith, append_assoc, append-nil}
use Rattle.std.specs.List.{concat, position_or_len}
use Rattle.std.specs.Io.KnownBytes.{Appends}
use Rattle.std.proofs.lemmas.List.{take-append-drop}
use Rattle.std.proofs.lemmas.List.Folds.{concat-append}
use Rattle.std.proofs.KnownBytes.{Appends-nil, Appends-trans}
use Rattle.std.proofs.Math.Seq.{take-append_seam}
use Rattle.cd_outside.specs.Outside.{Gives, FallsShort, AppendsFront}
use Rattle.cd_outside.proofs.Giving.{gives_none, gives_more, gives_more_where_told}
use Rattle.cd_report.specs.Pieces.{first_line_length, put_before, pieces_of, StopsInLine}

-- a text that isn't empty is its first line, and the text behind it
pub record BeginsWithLine (text line after : List ℕ) : Type 0 where
  pub pieces : pieces_of text ≡ line ∷ pieces_of after
  pub joined : text ≡ line ++ after

split_first : (b : ℕ) (bs : List ℕ) → pieces_of (b ∷ bs) ≡ take (first_line_length (b ∷ bs)) (b ∷ bs) ∷ pieces_of (drop (first_line_length (b ∷ bs)) (b ∷ bs))
split_first b [] = elim (b == 10) as (λ (t : Bool). cond t ((b ∷ []) ∷ []) (put_before b []) ≡ take (min (cond (not t) 1 0 + 1) 1) (b ∷ []) ∷ pieces_of (drop (min (cond (not t) 1 0 + 1) 1) (b ∷ []))) [ true ↦ refl | false ↦ refl ]
split_first b (c ∷ bs) =
    let place : ℕ = position_or_len (λ (x : ℕ). x == 10) (c ∷ bs) in
    let size : ℕ = length (c ∷ bs) in
    let k : ℕ = first_line_length (c ∷ bs) in
    let length_by : Bool → ℕ = λ (t : Bool). min (cond (not t) (1 + place) 0 + 1) (length (b ∷ c ∷ bs)) in
    let one : length_by true ≡ 1 = omega arith in
    let more : length_by false ≡ suc k = omega arith in
    elim (b == 10) as (λ (t : Bool). cond t ((b ∷ []) ∷ pieces_of (c ∷ bs)) (put_before b (pieces_of (c ∷ bs))) ≡ take (length_by t) (b ∷ c ∷ bs) ∷ pieces_of (drop (length_by t) (b ∷ c ∷ bs))) [
      | true ↦ rw one refl
      | false ↦ rw more (ap (put_before b) (split_first c bs))
    ]

first_line : (text : List ℕ) → 0 < length text → BeginsWithLine text (take (first_line_length text) text) (drop (first_line_length text) text)
first_line [] some = absurd (omega (arith, some))
first_line (b ∷ bs) some = record { pieces = split_first b bs; joined = sym (take-append-drop (first_line_length (b ∷ bs)) (b ∷ bs)) }

pub begins_with_line : (text line after : List ℕ) (k : ℕ) → 0 < length text → k ≡ first_line_length text → line ≡ take k text → after ≡ drop k text → BeginsWithLine text line after
begins_with_line text line after k some length_is line_is after_is =
    rw (line_is, after_is, length_is) (first_line text some)

-- some lines were taken, each as one piece, and the rest is left
pub record SentLines (a b : Option (List ℕ)) (p q : Option (List (List ℕ))) (text rest : List ℕ) : Type 0 where
  pub lines : List (List ℕ)
  pub split : pieces_of text ≡ lines ++ pieces_of rest
  pub joined : text ≡ concat lines ++ rest
  pub taken : Appends a b (concat lines)
  pub told : Gives p q lines

pub sent_none : (a : Option (List ℕ)) (p : Option (List (List ℕ))) (text : List ℕ) → SentLines a a p p text text
sent_none a p text = record { lines = []; split = refl; joined = refl; taken = Appends-nil a; told = gives_none p }

-- one more line
pub sent_line : (a b c : Option (List ℕ)) (p q r : Option (List (List ℕ))) (text rest line after : List ℕ)
    → SentLines a b p q text rest → BeginsWithLine rest line after → Appends b c line → Gives q r (line ∷ []) → SentLines a c p r text after
sent_line a b c p q r text rest line after s first taken told =
    let all : concat (s.lines ++ line ∷ []) ≡ concat s.lines ++ line = concat-append s.lines (line ∷ []) ∙ ap (λ (l : List ℕ). concat s.lines ++ l) (append-nil line) in
    record {
      lines = s.lines ++ line ∷ [];
      split = s.split ∙ ap (λ (l : List (List ℕ)). s.lines ++ l) first.pieces ∙ sym (append_assoc s.lines (line ∷ []) (pieces_of after));
      joined = s.joined ∙ ap (λ (l : List ℕ). concat s.lines ++ l) first.joined ∙ sym (append_assoc (concat s.lines) line after) ∙ ap (λ (l : List ℕ). l ++ after) (sym all);
      taken = subst (λ (l : List ℕ). Appends a c l) (sym all) (Appends-trans a b c (concat s.lines) line s.taken taken);
      told = gives_more p q r s.lines (line ∷ []) s.told told;
    }

-- a line that isn't taken whole
pub stops_in_line : (a b c : Option (List ℕ)) (p q r : Option (List (List ℕ))) (text rest line after : List ℕ)
    → SentLines a b p q text rest → BeginsWithLine rest line after → FallsShort b c q r line → StopsInLine a c p r text
stops_in_line a b c p q r text rest line after s first short = record {
  lines = s.lines;
  line = line;
  others = pieces_of after;
  split = s.split ∙ ap (λ (l : List (List ℕ)). s.lines ++ l) first.pieces;
  n = short.n;
  taken = Appends-trans a b c (concat s.lines) (take short.n line) s.taken short.taken;
  told = gives_more_where_told p q r s.lines (take short.n line ∷ []) s.told short.told;
}

-- nothing is left
pub all_taken : (a b : Option (List ℕ)) (p q : Option (List (List ℕ))) (text rest : List ℕ) → SentLines a b p q text rest → rest ≡ [] → Appends a b text
all_taken a b p q text rest s none =
    let whole : text ≡ concat s.lines = s.joined ∙ ap (λ (l : List ℕ). concat s.lines ++ l) none ∙ append-nil (concat s.lines) in
    subst (λ (l : List ℕ). Appends a b l) (sym whole) s.taken

pub all_told : (a b : Option (List ℕ)) (p q : Option (List (List ℕ))) (text rest : List ℕ) → SentLines a b p q text rest → rest ≡ [] → Gives p q (pieces_of text)
all_told a b p q text rest s none =
    let whole : pieces_of text ≡ s.lines = s.split ∙ ap (λ (l : List ℕ). s.lines ++ pieces_of l) none ∙ append-nil s.lines in
    subst (λ (l : List (List ℕ)). Gives p q l) (sym whole) s.told

concat_put : (b : ℕ) (lines : List (List ℕ)) → concat (put_before b lines) ≡ b ∷ concat lines
concat_put b [] = refl
concat_put b (line ∷ lines) = refl

-- the lines of a text make it up
pub pieces_join : (text : List ℕ) → concat (pieces_of text) ≡ text
pieces_join [] = refl
pieces_join (b ∷ text) = elim (b == 10) as (λ (t : Bool). concat (cond t ((b ∷ []) ∷ pieces_of text) (put_before b (pieces_of text))) ≡ b ∷ text) [
  | true ↦ ap (λ (l : List ℕ). b ∷ l) (pieces_join text)
  | false ↦ concat_put b (pieces_of text) ∙ ap (λ (l : List ℕ). b ∷ l) (pieces_join text)
]

-- what was taken of a text that isn't taken whole is a front of it
pub front_taken : (a b : Option (List ℕ)) (p q : Option (List (List ℕ))) (text : List ℕ) → StopsInLine a b p q text → AppendsFront a b text
front_taken a b p q text s =
    let front : List ℕ = concat s.lines ++ take s.n s.line in
    let rest : List ℕ = drop s.n s.line ++ concat s.others in
    let whole : text ≡ concat s.lines ++ (s.line ++ concat s.others) = sym (pieces_join text) ∙ ap concat s.split ∙ concat-append s.lines (s.line ∷ s.others) in
    let cut : s.line ++ concat s.others ≡ take s.n s.line ++ rest = ap (λ (l : List ℕ). l ++ concat s.others) (sym (take-append-drop s.n s.line)) ∙ append_assoc (take s.n s.line) (drop s.n s.line) (concat s.others) in
    let split : text ≡ front ++ rest = whole ∙ ap (λ (l : List ℕ). concat s.lines ++ l) cut ∙ sym (append_assoc (concat s.lines) (take s.n s.line) rest) in
    (length front, subst (λ (l : List ℕ). Appends a b l) (sym (ap (λ (l : List ℕ). take (length front) l) split ∙ take-append_seam front rest)) s.taken)
