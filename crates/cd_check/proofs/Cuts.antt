-- A text is cut into its lines, and the derivation is taken.
use Rattle.std.proofs.Common.{◌≡◌, ℕ, ◌==◌, Bool, true, false, not, ◌&&◌, cond, List, [], ◌∷◌, ◌++◌, map, refl, sym, ap, ◌∙◌, append_assoc, append-nil}
use Rattle.std.specs.List.{flat_map, filter, AllByRecursion}
use Rattle.std.proofs.lemmas.List.Concat.{flat_map-cons}
use Rattle.std.proofs.lemmas.List.Elements.{filter-append}
use Rattle.cd_symbols.specs.Symbol.{Symbol}
use Rattle.cd_text.specs.declared.line.Line.{Line}
use Rattle.cd_text.specs.Texts.{line_text}
use Rattle.cd_text.specs.Feeds.{feedless, SourceFits}
use Rattle.cd_text.proofs.Feedless.{line_feedless}
use Rattle.cd_check.specs.Accepted.{lines_of, onto, is_taken}
use Rattle.cd_check.specs.Lines.{LinesAreCut, PrintedLinesAreTaken, CommentsArePassedOver, DerivationsAreTaken}

halves : (a b : Bool) → (not a && b) ≡ true → (a ≡ false) × (b ≡ true)
halves true b e = absurd cc
halves false b e = (refl, e)

-- a line and its feed are cut off
pub cut_line : (l rest : List ℕ) → feedless l ≡ true → lines_of (l ++ 10 ∷ rest) ≡ l ∷ lines_of rest
cut_line [] rest none = refl
cut_line (b ∷ l) rest none =
    let h = halves (b == 10) (feedless l) none in
    ap (λ (t : Bool). cond t ([] ∷ lines_of (l ++ 10 ∷ rest)) (onto b (lines_of (l ++ 10 ∷ rest)))) h.0
    ∙ ap (onto b) (cut_line l rest h.1)

-- so are many
pub cut_lines : {A : Type 0} (text : A → List ℕ) (xs : List A) (rest : List ℕ) → AllByRecursion (λ x. feedless (text x) ≡ true) xs
    → lines_of (flat_map (λ x. text x ++ 10 ∷ []) xs ++ rest) ≡ map text xs ++ lines_of rest
cut_lines text [] rest none = refl
cut_lines text (x ∷ xs) rest none =
    let others = flat_map (λ y. text y ++ 10 ∷ []) xs in
    let first : flat_map (λ y. text y ++ 10 ∷ []) (x ∷ xs) ++ rest ≡ text x ++ 10 ∷ (others ++ rest) =
    ap (λ (l : List ℕ). l ++ rest) (flat_map-cons (λ y. text y ++ 10 ∷ []) x xs) ∙ append_assoc (text x ++ 10 ∷ []) others rest ∙ append_assoc (text x) (10 ∷ []) (others ++ rest) in
    ap lines_of first ∙ cut_line (text x) (others ++ rest) none.0 ∙ ap (λ (l : List (List ℕ)). text x ∷ l) (cut_lines text xs rest none.1)

same : (xs : List (List ℕ)) → map (λ x. x) xs ≡ xs
same [] = refl
same (x ∷ xs) = ap (λ (l : List (List ℕ)). x ∷ l) (same xs)

pub lines_are_cut : LinesAreCut
lines_are_cut pieces none =
    let texts = flat_map (λ (piece : List ℕ). piece ++ 10 ∷ []) pieces in
    ap lines_of (sym (append-nil texts)) ∙ cut_lines (λ (piece : List ℕ). piece) pieces [] none ∙ append-nil (map (λ (piece : List ℕ). piece) pieces) ∙ same pieces

pub line_taken : PrintedLinesAreTaken
unfolding line_text
line_taken symbols l = refl

pub comment_passed : CommentsArePassedOver
comment_passed [] begins = absurd cc
comment_passed (b ∷ bs) begins =
    let e : b ≡ 37 = cc in
    ap (λ (n : ℕ). not (n == 37)) e

-- ---- the text of a derivation

each_line : (symbols : List Symbol) (ls : List Line) → AllByRecursion (λ (l : Line). SourceFits l.source) ls → AllByRecursion (λ l. feedless (line_text symbols l) ≡ true) ls
each_line symbols [] fit = tt
each_line symbols (l ∷ ls) fit = (line_feedless symbols l fit.0, each_line symbols ls fit.1)

all_taken : (symbols : List Symbol) (ls : List Line) → filter is_taken (map (line_text symbols) ls) ≡ map (line_text symbols) ls
all_taken symbols [] = refl
all_taken symbols (l ∷ ls) = rw (line_taken symbols l, all_taken symbols ls) refl

regroup : (x y body z : List ℕ) → (x ++ 10 ∷ []) ++ ((y ++ 10 ∷ []) ++ (body ++ (z ++ 10 ∷ []))) ≡ x ++ 10 ∷ (y ++ 10 ∷ (body ++ (z ++ 10 ∷ [])))
regroup x y body z = simp append_assoc

pub derivation_lines : (symbols : List Symbol) (x y z : List ℕ) (ls : List Line) → feedless x ≡ true → feedless y ≡ true → feedless z ≡ true → AllByRecursion (λ (l : Line). SourceFits l.source) ls
    → lines_of ((x ++ 10 ∷ []) ++ ((y ++ 10 ∷ []) ++ (flat_map (λ l. line_text symbols l ++ 10 ∷ []) ls ++ (z ++ 10 ∷ [])))) ≡ x ∷ y ∷ (map (line_text symbols) ls ++ z ∷ [])
derivation_lines symbols x y z ls none_x none_y none_z fit =
    let body = flat_map (λ l. line_text symbols l ++ 10 ∷ []) ls in
    ap lines_of (regroup x y body z)
    ∙ cut_line x (y ++ 10 ∷ (body ++ (z ++ 10 ∷ []))) none_x
    ∙ ap (λ (t : List (List ℕ)). x ∷ t) (cut_line y (body ++ (z ++ 10 ∷ [])) none_y
    ∙ ap (λ (t : List (List ℕ)). y ∷ t) (cut_lines (line_text symbols) ls (z ++ 10 ∷ []) (each_line symbols ls fit)
    ∙ ap (λ (t : List (List ℕ)). map (line_text symbols) ls ++ t) (cut_line z [] none_z)))

pub derivation_taken : DerivationsAreTaken
derivation_taken symbols x y z ls at_x at_y at_z fit =
    let printed = map (line_text symbols) ls in
    let behind : filter is_taken (printed ++ z ∷ []) ≡ printed =
    filter-append is_taken printed (z ∷ []) ∙ rw (all_taken symbols ls, comment_passed z at_z.begins) (append-nil printed) in
    ap (filter is_taken) (derivation_lines symbols x y z ls at_x.one_line at_y.one_line at_z.one_line fit)
    ∙ rw (comment_passed x at_x.begins, comment_passed y at_y.begins) behind
