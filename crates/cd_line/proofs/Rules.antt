-- Printed rules are read again.
use Rattle.std.proofs.Common.{◌≡◌, ℕ, zero, suc, ◌+◌, ◌<◌, ◌≤◌, ltb, Bool, true, false, cond, List, [], ◌∷◌, ◌++◌, length, map, sum_by, codes, refl, sym, ap, ◌∙◌, subst, arith, append_assoc, Option, Some, None}
use Rattle.std.specs.List.{flat_map, AllByRecursion}
use Rattle.std.proofs.lemmas.List.Sums.{sum_by-cons}
use Rattle.std.proofs.lemmas.Bool.{lt-ltb}
use Rattle.cd_term.specs.declared.Term.{Term}
use Rattle.cd_term.specs.Terms.{depth_of, size_of, greatest}
use Rattle.cd_symbols.specs.Symbol.{Symbol}
use Rattle.cd_steps.specs.declared.Step.{Step}
use Rattle.cd_steps.specs.declared.Step.TheVariants.{Input, Copy, Resolve, Factor, Refl, EqFac, Para, Rewrite, Tidy}
use Rattle.cd_text.specs.Numerals.{numeral}
use Rattle.cd_lex.specs.Bytes.{is_digit}
use Rattle.cd_text.specs.Texts.{separated, term_text, numbers_text, path_text, entries_text, rule_text}
use Rattle.cd_text.proofs.Separated.{separated_first}
use Rattle.cd_read.specs.Formed.{AreTermsFormed}
use Rattle.cd_text.specs.Formed.{IsSubstFormed, IsPathFormed, IsStepFormed}
use Rattle.cd_line.specs.Reading.{◌>>=◌, either, stripped, joined_read, number_read, term_read, terms_read, subst_read, path_read, next_read, side_read, first_side_read, no_name, resolve_read, factor_read, refl_read, eqfac_read, para_read, rewrite_read, rule_read}
use Rattle.cd_line.specs.Lines.{plain_step}
use Rattle.cd_line.proofs.Words.{Stops, number_again}
use Rattle.cd_line.proofs.Items.{joined_again}
use Rattle.cd_line.proofs.Terms.{Follows, ReadsAt, terms_again, each_again, term_apart}
use Rattle.cd_line.proofs.Clauses.{Table}

-- ---- substitutions

-- what stands behind the terms of a substitution
abbrev behind_terms : List ℕ → List ℕ
behind_terms rest = codes "])]" ++ rest

terms_apart : (symbols : List Symbol) (t : Term) (ts : List Term) (rest : List ℕ) → Table symbols → AreTermsFormed symbols (t ∷ ts) → sum_by size_of (t ∷ ts) ≤ 65535
    → stripped (codes "]") (separated (codes ",") (term_text symbols) (t ∷ ts) ++ rest) ≡ None
terms_apart symbols t ts rest table ok s =
    let others = flat_map (λ y. codes "," ++ term_text symbols y) ts in
    ap (λ (l : List ℕ). stripped (codes "]") (l ++ rest)) (separated_first (codes ",") (term_text symbols) t ts)
    ∙ ap (stripped (codes "]")) (append_assoc (term_text symbols t) others rest)
    ∙ term_apart symbols 93 table.distinct table.printable refl refl refl t ok.0 (omega (arith, s, sum_by-cons size_of t ts)) (others ++ rest)

terms_read_again : (symbols : List Symbol) (levels : ℕ) (ts : List Term) (rest : List ℕ) → Table symbols → AreTermsFormed symbols ts → sum_by size_of ts ≤ 65535 → greatest (map depth_of ts) ≤ levels
    → terms_read symbols levels (separated (codes ",") (term_text symbols) ts ++ behind_terms rest) ≡ Some (ts, behind_terms rest)
unfolding terms_read
terms_read_again symbols levels [] rest table ok s d = refl
terms_read_again symbols levels (t ∷ ts) rest table ok s d =
    rw (terms_apart symbols t ts (behind_terms rest) table ok s)
    (terms_again symbols levels t ts (behind_terms rest) (each_again symbols table.distinct table.printable (t ∷ ts) levels ok d s) (record { stops = refl; closed = refl }) refl)

-- a substitution's printed end
abbrev subst_text : List Symbol → List Term → List ℕ → List ℕ
subst_text symbols ts rest = codes "),subst([" ++ (separated (codes ",") (term_text symbols) ts ++ behind_terms rest)

subst_again : (symbols : List Symbol) (levels : ℕ) (ts : List Term) (rest : List ℕ) → Table symbols → IsSubstFormed symbols ts → 1000 ≤ levels → subst_read symbols levels (subst_text symbols ts rest) ≡ Some (ts, rest)
unfolding subst_read
subst_again symbols levels ts rest table ok enough = rw (terms_read_again symbols levels ts rest table ok.terms ok.bounds.0 (omega (arith, ok.bounds.1, enough))) refl

-- ---- numbers

next_again : (n : ℕ) (rest : List ℕ) → n < 65536 → Stops is_digit rest → next_read (codes "," ++ (numeral n ++ rest)) ≡ Some (n, rest)
next_again n rest fits stops = number_again n rest fits stops

first_side_again : (s : ℕ) (rest : List ℕ) → s < 2 → Stops is_digit rest → first_side_read (numeral s ++ rest) ≡ Some (s, rest)
first_side_again s rest fits stops = rw (number_again s rest (omega (arith, fits)) stops) (rw (lt-ltb s 2 fits) refl)

side_again : (s : ℕ) (rest : List ℕ) → s < 2 → Stops is_digit rest → side_read (codes "," ++ (numeral s ++ rest)) ≡ Some (s, rest)
side_again s rest fits stops = first_side_again s rest fits stops

path_again : (at rest : List ℕ) → IsPathFormed at → path_read (codes ",[" ++ (numbers_text at ++ (codes "]" ++ rest))) ≡ Some (at, rest)
unfolding path_read
path_again [] rest ok = absurd (let h = ok.0 in omega (arith, h))
path_again (k ∷ ks) rest ok =
    let whole : joined_read (codes ",") number_read (separated (codes ",") numeral (k ∷ ks) ++ (codes "]" ++ rest)) ≡ Some (k ∷ ks, codes "]" ++ rest) =
    joined_again (λ n. n < 65536) (Stops is_digit) number_read numeral (codes ",") k ks (codes "]" ++ rest) (λ n behind fits stops. number_again n behind fits stops) (λ t. refl) (omega arith) ok.1 refl refl in
    rw whole refl

-- ---- one rule after another

-- regrouping, over plain lists
one_parts : (a terms rest : List ℕ) → (a ++ (codes "),subst([" ++ (terms ++ codes "])]"))) ++ rest ≡ a ++ (codes "),subst([" ++ (terms ++ (codes "])]" ++ rest)))
one_parts a terms rest = append_assoc a (codes "),subst([" ++ (terms ++ codes "])]")) rest ∙ ap (λ (l : List ℕ). a ++ (codes "),subst([" ++ l)) (append_assoc terms (codes "])]") rest)

two_parts : (a b terms rest : List ℕ) → ((a ++ (44 ∷ b)) ++ (codes "),subst([" ++ (terms ++ codes "])]"))) ++ rest ≡ a ++ (44 ∷ (b ++ (codes "),subst([" ++ (terms ++ (codes "])]" ++ rest)))))
two_parts a b terms rest = one_parts (a ++ (44 ∷ b)) terms rest ∙ append_assoc a (44 ∷ b) (codes "),subst([" ++ (terms ++ (codes "])]" ++ rest)))

four_parts : (a b c d terms rest : List ℕ) → ((a ++ (44 ∷ (b ++ (44 ∷ (c ++ (44 ∷ d)))))) ++ (codes "),subst([" ++ (terms ++ codes "])]"))) ++ rest
    ≡ a ++ (44 ∷ (b ++ (44 ∷ (c ++ (44 ∷ (d ++ (codes "),subst([" ++ (terms ++ (codes "])]" ++ rest)))))))))
four_parts a b c d terms rest =
    let end = codes "),subst([" ++ (terms ++ (codes "])]" ++ rest)) in
    two_parts a (b ++ (44 ∷ (c ++ (44 ∷ d)))) terms rest
    ∙ ap (λ (l : List ℕ). a ++ (44 ∷ l)) (append_assoc b (44 ∷ (c ++ (44 ∷ d))) end ∙ ap (λ (l : List ℕ). b ++ (44 ∷ l)) (append_assoc c (44 ∷ d) end))

-- numbers before a path
path_parts : (a path terms rest : List ℕ) → ((a ++ (codes ",[" ++ (path ++ codes "]"))) ++ (codes "),subst([" ++ (terms ++ codes "])]"))) ++ rest
    ≡ a ++ (codes ",[" ++ (path ++ (codes "]" ++ (codes "),subst([" ++ (terms ++ (codes "])]" ++ rest))))))
path_parts a path terms rest =
    let end = codes "),subst([" ++ (terms ++ (codes "])]" ++ rest)) in
    one_parts (a ++ (codes ",[" ++ (path ++ codes "]"))) terms rest
    ∙ append_assoc a (codes ",[" ++ (path ++ codes "]")) end
    ∙ ap (λ (l : List ℕ). a ++ (codes ",[" ++ l)) (append_assoc path (codes "]") end)

abbrev terms_text : List Symbol → List Term → List ℕ
terms_text symbols ts = separated (codes ",") (term_text symbols) ts

resolve_again : (symbols : List Symbol) (levels i j : ℕ) (s : List Term) (rest : List ℕ) → Table symbols → 1000 ≤ levels → i < 65536 → j < 65536 → IsSubstFormed symbols s
    → resolve_read symbols levels (numeral i ++ (codes "," ++ (numeral j ++ subst_text symbols s rest))) ≡ Some (Resolve no_name i no_name j s, rest)
unfolding resolve_read
resolve_again symbols levels i j s rest table enough a b ok =
    rw (number_again i (codes "," ++ (numeral j ++ subst_text symbols s rest)) a refl, number_again j (subst_text symbols s rest) b refl, subst_again symbols levels s rest table ok enough) refl

factor_again : (symbols : List Symbol) (levels i j : ℕ) (s : List Term) (rest : List ℕ) → Table symbols → 1000 ≤ levels → i < 65536 → j < 65536 → IsSubstFormed symbols s
    → factor_read symbols levels (numeral i ++ (codes "," ++ (numeral j ++ subst_text symbols s rest))) ≡ Some (Factor no_name i j s, rest)
unfolding factor_read
factor_again symbols levels i j s rest table enough a b ok =
    rw (number_again i (codes "," ++ (numeral j ++ subst_text symbols s rest)) a refl, number_again j (subst_text symbols s rest) b refl, subst_again symbols levels s rest table ok enough) refl

refl_again : (symbols : List Symbol) (levels i : ℕ) (s : List Term) (rest : List ℕ) → Table symbols → 1000 ≤ levels → i < 65536 → IsSubstFormed symbols s
    → refl_read symbols levels (numeral i ++ subst_text symbols s rest) ≡ Some (Refl no_name i s, rest)
unfolding refl_read
refl_again symbols levels i s rest table enough a ok = rw (number_again i (subst_text symbols s rest) a refl, subst_again symbols levels s rest table ok enough) refl

eqfac_again : (symbols : List Symbol) (levels i x j z : ℕ) (s : List Term) (rest : List ℕ) → Table symbols → 1000 ≤ levels → i < 65536 → x < 2 → j < 65536 → z < 2 → IsSubstFormed symbols s
    → eqfac_read symbols levels (numeral i ++ (codes "," ++ (numeral x ++ (codes "," ++ (numeral j ++ (codes "," ++ (numeral z ++ subst_text symbols s rest))))))) ≡ Some (EqFac no_name i x j z s, rest)
unfolding eqfac_read
eqfac_again symbols levels i x j z s rest table enough a b c d ok =
    let end = subst_text symbols s rest in
    let at_z = codes "," ++ (numeral z ++ end) in
    let at_j = codes "," ++ (numeral j ++ at_z) in
    let at_x = codes "," ++ (numeral x ++ at_j) in
    rw (number_again i at_x a refl, first_side_again x at_j b refl, number_again j at_z c refl, first_side_again z end d refl, subst_again symbols levels s rest table ok enough) refl

para_again : (symbols : List Symbol) (levels i x j : ℕ) (at : List ℕ) (s : List Term) (rest : List ℕ) → Table symbols → 1000 ≤ levels → i < 65536 → x < 2 → j < 65536 → IsPathFormed at → IsSubstFormed symbols s
    → para_read symbols levels (numeral i ++ (codes "," ++ (numeral x ++ (codes "," ++ (numeral j ++ (codes ",[" ++ (numbers_text at ++ (codes "]" ++ subst_text symbols s rest)))))))) ≡ Some (Para no_name i x no_name j at s, rest)
unfolding para_read
para_again symbols levels i x j at s rest table enough a b c path ok =
    let end = subst_text symbols s rest in
    let at_path = codes ",[" ++ (numbers_text at ++ (codes "]" ++ end)) in
    let at_j = codes "," ++ (numeral j ++ at_path) in
    let at_x = codes "," ++ (numeral x ++ at_j) in
    rw (number_again i at_x a refl, first_side_again x at_j b refl, number_again j at_path c refl, path_again at end path, subst_again symbols levels s rest table ok enough) refl

rewrite_again : (symbols : List Symbol) (levels x j : ℕ) (at : List ℕ) (s : List Term) (rest : List ℕ) → Table symbols → 1000 ≤ levels → x < 2 → j < 65536 → IsPathFormed at → IsSubstFormed symbols s
    → rewrite_read symbols levels (numeral x ++ (codes "," ++ (numeral j ++ (codes ",[" ++ (numbers_text at ++ (codes "]" ++ subst_text symbols s rest)))))) ≡ Some (Rewrite no_name x j at s, rest)
unfolding rewrite_read
rewrite_again symbols levels x j at s rest table enough b c path ok =
    let end = subst_text symbols s rest in
    let at_path = codes ",[" ++ (numbers_text at ++ (codes "]" ++ end)) in
    let at_j = codes "," ++ (numeral j ++ at_path) in
    rw (first_side_again x at_j b refl, number_again j at_path c refl, path_again at end path, subst_again symbols levels s rest table ok enough) refl

-- three numbers before a path, and two
three : (a b c x : List ℕ) → (a ++ (44 ∷ (b ++ (44 ∷ c)))) ++ x ≡ a ++ (44 ∷ (b ++ (44 ∷ (c ++ x))))
three a b c x = append_assoc a (44 ∷ (b ++ (44 ∷ c))) x ∙ ap (λ (l : List ℕ). a ++ (44 ∷ l)) (append_assoc b (44 ∷ c) x)

two : (a b x : List ℕ) → (a ++ (44 ∷ b)) ++ x ≡ a ++ (44 ∷ (b ++ x))
two a b x = append_assoc a (44 ∷ b) x

-- a printed rule is read, but for the names that it doesn't print
pub rule_again : (symbols : List Symbol) (levels parents : ℕ) (step : Step) (rest : List ℕ) → Table symbols → 1000 ≤ levels → IsStepFormed symbols parents step
    → rule_read symbols levels (rule_text symbols step ++ rest) ≡ Some (plain_step step, rest)
unfolding rule_read rule_text
rule_again symbols levels parents (Input index) rest table enough ok = absurd ok
rule_again symbols levels parents (Copy of) rest table enough ok = absurd ok
rule_again symbols levels parents (Resolve pos i neg j s) rest table enough ok =
    ap (resolve_read symbols levels) (two_parts (numeral i) (numeral j) (terms_text symbols s) rest) ∙ resolve_again symbols levels i j s rest table enough ok.1 ok.2 ok.3
rule_again symbols levels parents (Factor of i j s) rest table enough ok =
    ap (factor_read symbols levels) (two_parts (numeral i) (numeral j) (terms_text symbols s) rest) ∙ factor_again symbols levels i j s rest table enough ok.1 ok.2 ok.3
rule_again symbols levels parents (Refl of i s) rest table enough ok =
    ap (refl_read symbols levels) (one_parts (numeral i) (terms_text symbols s) rest) ∙ refl_again symbols levels i s rest table enough ok.1 ok.2
rule_again symbols levels parents (EqFac of i x j z s) rest table enough ok =
    ap (eqfac_read symbols levels) (four_parts (numeral i) (numeral x) (numeral j) (numeral z) (terms_text symbols s) rest) ∙ eqfac_again symbols levels i x j z s rest table enough ok.1 ok.2 ok.3 ok.4 ok.5
rule_again symbols levels parents (Para giver i x taker j at s) rest table enough ok =
    let end = codes ",[" ++ (numbers_text at ++ (codes "]" ++ subst_text symbols s rest)) in
    ap (para_read symbols levels) (path_parts (numeral i ++ (44 ∷ (numeral x ++ (44 ∷ numeral j)))) (numbers_text at) (terms_text symbols s) rest ∙ three (numeral i) (numeral x) (numeral j) end)
    ∙ para_again symbols levels i x j at s rest table enough ok.1 ok.2 ok.3 ok.4 ok.5
rule_again symbols levels parents (Rewrite by x j at s) rest table enough ok =
    let end = codes ",[" ++ (numbers_text at ++ (codes "]" ++ subst_text symbols s rest)) in
    ap (rewrite_read symbols levels) (path_parts (numeral x ++ (44 ∷ numeral j)) (numbers_text at) (terms_text symbols s) rest ∙ two (numeral x) (numeral j) end)
    ∙ rewrite_again symbols levels x j at s rest table enough ok.1 ok.2 ok.3 ok.4
rule_again symbols levels parents Tidy rest table enough ok = refl
