-- What is read of a line is its text, and it is formed within bounds.
use Rattle.std.proofs.Common.{◌≡◌, ◌≢◌, ℕ, zero, suc, ◌+◌, ◌<◌, ◌≤◌, ◌==◌, ◌&&◌, Bool, true, false, cond, ltb, List, [], ◌∷◌, ◌++◌, length, map, codes, refl, sym, ap, ◌∙◌, subst, arith, append_assoc, append-nil, Option, Some, None, ◌⊎◌, inl, inr}
use Rattle.std.specs.List.{list_all, AllByRecursion}
use Rattle.std.proofs.lemmas.Bool.{ltb-true, eqb-true, and_from}
use Rattle.cd_term.specs.declared.Term.{Term}
use Rattle.cd_term.specs.Terms.{AreWithin}
use Rattle.cd_clause.specs.declared.Clause.{Clause}
use Rattle.cd_steps.specs.Bounds.{subst_of}
use Rattle.cd_symbols.specs.Symbol.{Symbol}
use Rattle.cd_steps.specs.declared.Step.{Step}
use Rattle.cd_steps.specs.declared.Step.TheVariants.{Input, Copy, Resolve, Factor, Refl, EqFac, Para, Rewrite, Tidy}
use Rattle.cd_parse.specs.declared.label.Label.{Label}
use Rattle.cd_parse.specs.declared.label.Label.TheVariants.{Word, Integer}
use Rattle.cd_parse.specs.declared.label.Role.{Role}
use Rattle.cd_text.specs.declared.line.Line.{Line}
use Rattle.cd_text.specs.declared.line.LineRole.TheVariants.{Given, Plain}
use Rattle.cd_text.specs.declared.line.LineSource.{LineSource}
use Rattle.cd_text.specs.declared.line.LineSource.TheVariants as sources
use Rattle.cd_lex.specs.Bytes.{is_digit}
use Rattle.cd_text.specs.Texts.{separated, name_text, line_text}
use Rattle.cd_read.specs.Formed.{AreTermsFormed, IsLabelFormed, IsClauseFormed}
use Rattle.cd_text.specs.Formed.{IsSubstFormed, IsPathFormed, IsStepFormed, IsSourceFormed}
use Rattle.cd_line.specs.declared.reading.Body.{Body}
use Rattle.cd_line.specs.declared.reading.Origin.{Origin}
use Rattle.cd_line.specs.declared.reading.Origin.TheVariants.{File, Rule}
use Rattle.cd_line.specs.Reading.{◌>>=◌, either, stripped, with_first, run_read, word_read, quoted_read, label_read, joined_read, number_read, term_read, terms_read, subst_read, path_read, next_read, first_side_read, side_read, no_name, resolve_read, factor_read, refl_read, eqfac_read, para_read, rewrite_read, rule_read, role_read, clause_read, file_read, inference_read, origin_read, body_read}
use Rattle.cd_line.specs.Lines.{body_text, exactly, exact, numeral_read, name_read, has_two, second_read, parents_read, is_end, file_end, rule_end, origin_end, line_read, source_subst}
use Rattle.cd_line.proofs.Found.{Bound, bound, chosen, guarded, Gives, Joined, joined_all, number_small, Formed, term_given, clause_given}
use Rattle.cd_line.proofs.Numbers.{IsNumeral, numeral_sound, IsName}
use Rattle.cd_line.proofs.Lines.{file_line, rule_line, names_text}

-- ---- fronts

stripped_by : (t : Bool) (p b : ℕ) (ps bs rest : List ℕ) → (b == p) ≡ t → cond t (stripped ps bs) None ≡ Some rest → (stripped ps bs ≡ Some rest → bs ≡ ps ++ rest) → b ∷ bs ≡ p ∷ (ps ++ rest)
stripped_by true p b ps bs rest is e others = λ i. eqb-true b p is i ∷ others e i
stripped_by false p b ps bs rest is e others = absurd cc

pub stripped_sound : (front text rest : List ℕ) → stripped front text ≡ Some rest → text ≡ front ++ rest
stripped_sound [] text rest e = cc
stripped_sound (p ∷ ps) [] rest e = absurd cc
stripped_sound (p ∷ ps) (b ∷ bs) rest e = stripped_by (b == p) p b ps bs rest refl e (stripped_sound ps bs rest)

-- ---- labels

run_by : (t : Bool) (test : ℕ → Bool) (b : ℕ) (bs : List ℕ) (x : List ℕ × List ℕ) → test b ≡ t → cond t (with_first b (run_read test bs)) (Some ([], b ∷ bs)) ≡ Some x
    → ((y : List ℕ × List ℕ) → run_read test bs ≡ Some y → list_all test y.0 ≡ true) → list_all test x.0 ≡ true
run_by true test b bs x is e others =
    let h = bound (run_read test bs) (λ y. Some (b ∷ y.0, y.1)) x e in
    let k : (b ∷ h.value.0, h.value.1) ≡ x = (let g = h.then in cc) in
    subst (λ (y : List ℕ × List ℕ). list_all test y.0 ≡ true) k (and_from (test b) (list_all test h.value.0) is (others h.value h.is))
run_by false test b bs x is e others = let k : ([], b ∷ bs) ≡ x = cc in subst (λ (y : List ℕ × List ℕ). list_all test y.0 ≡ true) k refl

run_given : (test : ℕ → Bool) (text : List ℕ) (x : List ℕ × List ℕ) → run_read test text ≡ Some x → list_all test x.0 ≡ true
run_given test [] x e = let k : ([], []) ≡ x = cc in subst (λ (y : List ℕ × List ℕ). list_all test y.0 ≡ true) k refl
run_given test (b ∷ bs) x e = run_by (test b) test b bs x refl e (λ y f. run_given test bs y f)

some_by : (t : Bool) (test : ℕ → Bool) (b : ℕ) (bs : List ℕ) (x : List ℕ × List ℕ) → t ≡ true → cond t (with_first b (run_read test bs)) (Some ([], b ∷ bs)) ≡ Some x → x.0 ≢ []
some_by true test b bs x is e =
    let h = bound (run_read test bs) (λ y. Some (b ∷ y.0, y.1)) x e in
    let k : (b ∷ h.value.0, h.value.1) ≡ x = (let g = h.then in cc) in
    subst (λ (y : List ℕ × List ℕ). y.0 ≢ []) k (λ none. absurd cc)
some_by false test b bs x is e = absurd cc

label_by : (t : Bool) (b : ℕ) (bs : List ℕ) (x : Label × List ℕ) → is_digit b ≡ t
    → cond t (run_read is_digit (b ∷ bs) >>= λ y. Some (Integer y.0, y.1)) (word_read (b ∷ bs) >>= λ y. Some (Word y.0, y.1)) ≡ Some x → IsLabelFormed x.0
label_by true b bs x is e =
    let h = bound (run_read is_digit (b ∷ bs)) (λ y. Some (Integer y.0, y.1)) x e in
    let k : (Integer h.value.0, h.value.1) ≡ x = (let g = h.then in cc) in
    subst (λ (y : Label × List ℕ). IsLabelFormed y.0) k (some_by (is_digit b) is_digit b bs h.value is h.is, run_given is_digit (b ∷ bs) h.value h.is)
label_by false b bs x is e =
    let h = bound (word_read (b ∷ bs)) (λ y. Some (Word y.0, y.1)) x e in
    let k : (Word h.value.0, h.value.1) ≡ x = (let g = h.then in cc) in
    subst (λ (y : Label × List ℕ). IsLabelFormed y.0) k tt

label_given : (text : List ℕ) (x : Label × List ℕ) → label_read text ≡ Some x → IsLabelFormed x.0
unfolding label_read
label_given [] x e = absurd cc
label_given (b ∷ bs) x e = label_by (is_digit b) b bs x refl e

-- ---- rules

terms_given : (symbols : List Symbol) (levels : ℕ) (text : List ℕ) (x : List Term × List ℕ) → terms_read symbols levels text ≡ Some x → AreTermsFormed symbols x.0
unfolding terms_read
terms_given symbols levels text x e =
    elim (chosen (stripped (codes "]") text) (λ _. Some ([], text)) (joined_read (codes ",") (λ t. term_read symbols levels t) text) x e) [
      | inl b ↦ let k : ([], text) ≡ x = (let g = b.then in cc) in subst (λ (y : List Term × List ℕ). AreTermsFormed symbols y.0) k tt
      | inr other ↦ (joined_all (Formed symbols) (codes ",") (λ t. term_read symbols levels t) (term_given symbols levels) text x other).all
    ]

subst_given : (symbols : List Symbol) (levels : ℕ) (text : List ℕ) (x : List Term × List ℕ) → subst_read symbols levels text ≡ Some x → AreTermsFormed symbols x.0
unfolding subst_read
subst_given symbols levels text x e =
    let a = bound (stripped (codes "),subst([") text) (λ inner. terms_read symbols levels inner >>= λ ts. stripped (codes "])]") ts.1 >>= λ rest. Some (ts.0, rest)) x e in
    let b = bound (terms_read symbols levels a.value) (λ ts. stripped (codes "])]") ts.1 >>= λ rest. Some (ts.0, rest)) x a.then in
    let c = bound (stripped (codes "])]") b.value.1) (λ rest. Some (b.value.0, rest)) x b.then in
    let k : (b.value.0, c.value) ≡ x = (let g = c.then in cc) in
    subst (λ (y : List Term × List ℕ). AreTermsFormed symbols y.0) k (terms_given symbols levels a.value b.value b.is)

next_given : (text : List ℕ) (x : ℕ × List ℕ) → next_read text ≡ Some x → x.0 < 65536
next_given text x e = let b = bound (stripped (codes ",") text) (λ rest. number_read rest) x e in number_small b.value x b.then

first_side_given : (text : List ℕ) (x : ℕ × List ℕ) → first_side_read text ≡ Some x → x.0 < 2
first_side_given text x e =
    let b = bound (number_read text) (λ n. cond (ltb n.0 2) (Some n) None) x e in
    let h = guarded (ltb b.value.0 2) b.value x b.then in
    subst (λ (y : ℕ × List ℕ). y.0 < 2) h.1 (ltb-true b.value.0 2 h.0)

side_given : (text : List ℕ) (x : ℕ × List ℕ) → side_read text ≡ Some x → x.0 < 2
side_given text x e = let b = bound (stripped (codes ",") text) (λ rest. first_side_read rest) x e in first_side_given b.value x b.then

path_given : (text : List ℕ) (x : List ℕ × List ℕ) → path_read text ≡ Some x → IsPathFormed x.0
unfolding path_read
path_given text x e =
    let a = bound (stripped (codes ",[") text) (λ inner. joined_read (codes ",") number_read inner >>= λ ns. stripped (codes "]") ns.1 >>= λ rest. Some (ns.0, rest)) x e in
    let b = bound (joined_read (codes ",") number_read a.value) (λ ns. stripped (codes "]") ns.1 >>= λ rest. Some (ns.0, rest)) x a.then in
    let c = bound (stripped (codes "]") b.value.1) (λ rest. Some (b.value.0, rest)) x b.then in
    let k : (b.value.0, c.value) ≡ x = (let g = c.then in cc) in
    let j = joined_all (λ n. n < 65536) (codes ",") number_read number_small a.value b.value b.is in
    subst (λ (y : List ℕ × List ℕ). IsPathFormed y.0) k (j.some, j.all)

-- within bounds, the step is formed
abbrev Shaped : List Symbol → Step → Type 0
Shaped symbols s = AreWithin 65535 1000 (subst_of s) → IsStepFormed symbols (cond (has_two s) 2 1) s

subst_is : (symbols : List Symbol) (ts : List Term) → AreTermsFormed symbols ts → AreWithin 65535 1000 ts → IsSubstFormed symbols ts
subst_is symbols ts each within = record { terms = each; bounds = within }

shaped_is : (symbols : List Symbol) (s : Step) (rest : List ℕ) (x : Step × List ℕ) → Some (s, rest) ≡ Some x → Shaped symbols s → Shaped symbols x.0
shaped_is symbols s rest x e h = let k : (s, rest) ≡ x = cc in subst (λ (y : Step × List ℕ). Shaped symbols y.0) k h

resolve_given : (symbols : List Symbol) (levels : ℕ) (text : List ℕ) (x : Step × List ℕ) → resolve_read symbols levels text ≡ Some x → Shaped symbols x.0
unfolding resolve_read
resolve_given symbols levels text x e =
    let a = bound (number_read text) (λ i. next_read i.1 >>= λ j. subst_read symbols levels j.1 >>= λ s. Some (Resolve no_name i.0 no_name j.0 s.0, s.1)) x e in
    let b = bound (next_read a.value.1) (λ j. subst_read symbols levels j.1 >>= λ s. Some (Resolve no_name a.value.0 no_name j.0 s.0, s.1)) x a.then in
    let c = bound (subst_read symbols levels b.value.1) (λ s. Some (Resolve no_name a.value.0 no_name b.value.0 s.0, s.1)) x b.then in
    shaped_is symbols (Resolve no_name a.value.0 no_name b.value.0 c.value.0) c.value.1 x c.then
    (λ w. (refl, number_small text a.value a.is, next_given a.value.1 b.value b.is, subst_is symbols c.value.0 (subst_given symbols levels b.value.1 c.value c.is) w))

factor_given : (symbols : List Symbol) (levels : ℕ) (text : List ℕ) (x : Step × List ℕ) → factor_read symbols levels text ≡ Some x → Shaped symbols x.0
unfolding factor_read
factor_given symbols levels text x e =
    let a = bound (number_read text) (λ i. next_read i.1 >>= λ j. subst_read symbols levels j.1 >>= λ s. Some (Factor no_name i.0 j.0 s.0, s.1)) x e in
    let b = bound (next_read a.value.1) (λ j. subst_read symbols levels j.1 >>= λ s. Some (Factor no_name a.value.0 j.0 s.0, s.1)) x a.then in
    let c = bound (subst_read symbols levels b.value.1) (λ s. Some (Factor no_name a.value.0 b.value.0 s.0, s.1)) x b.then in
    shaped_is symbols (Factor no_name a.value.0 b.value.0 c.value.0) c.value.1 x c.then
    (λ w. (refl, number_small text a.value a.is, next_given a.value.1 b.value b.is, subst_is symbols c.value.0 (subst_given symbols levels b.value.1 c.value c.is) w))

refl_given : (symbols : List Symbol) (levels : ℕ) (text : List ℕ) (x : Step × List ℕ) → refl_read symbols levels text ≡ Some x → Shaped symbols x.0
unfolding refl_read
refl_given symbols levels text x e =
    let a = bound (number_read text) (λ i. subst_read symbols levels i.1 >>= λ s. Some (Refl no_name i.0 s.0, s.1)) x e in
    let c = bound (subst_read symbols levels a.value.1) (λ s. Some (Refl no_name a.value.0 s.0, s.1)) x a.then in
    shaped_is symbols (Refl no_name a.value.0 c.value.0) c.value.1 x c.then
    (λ w. (refl, number_small text a.value a.is, subst_is symbols c.value.0 (subst_given symbols levels a.value.1 c.value c.is) w))

eqfac_given : (symbols : List Symbol) (levels : ℕ) (text : List ℕ) (x : Step × List ℕ) → eqfac_read symbols levels text ≡ Some x → Shaped symbols x.0
unfolding eqfac_read
eqfac_given symbols levels text x e =
    let a = bound (number_read text) (λ i. side_read i.1 >>= λ s. next_read s.1 >>= λ j. side_read j.1 >>= λ z. subst_read symbols levels z.1 >>= λ sub. Some (EqFac no_name i.0 s.0 j.0 z.0 sub.0, sub.1)) x e in
    let i = a.value in
    let b = bound (side_read i.1) (λ s. next_read s.1 >>= λ j. side_read j.1 >>= λ z. subst_read symbols levels z.1 >>= λ sub. Some (EqFac no_name i.0 s.0 j.0 z.0 sub.0, sub.1)) x a.then in
    let s = b.value in
    let c = bound (next_read s.1) (λ j. side_read j.1 >>= λ z. subst_read symbols levels z.1 >>= λ sub. Some (EqFac no_name i.0 s.0 j.0 z.0 sub.0, sub.1)) x b.then in
    let j = c.value in
    let d = bound (side_read j.1) (λ z. subst_read symbols levels z.1 >>= λ sub. Some (EqFac no_name i.0 s.0 j.0 z.0 sub.0, sub.1)) x c.then in
    let z = d.value in
    let f = bound (subst_read symbols levels z.1) (λ sub. Some (EqFac no_name i.0 s.0 j.0 z.0 sub.0, sub.1)) x d.then in
    shaped_is symbols (EqFac no_name i.0 s.0 j.0 z.0 f.value.0) f.value.1 x f.then
    (λ w. (refl, number_small text i a.is, side_given i.1 s b.is, next_given s.1 j c.is, side_given j.1 z d.is, subst_is symbols f.value.0 (subst_given symbols levels z.1 f.value f.is) w))

para_given : (symbols : List Symbol) (levels : ℕ) (text : List ℕ) (x : Step × List ℕ) → para_read symbols levels text ≡ Some x → Shaped symbols x.0
unfolding para_read
para_given symbols levels text x e =
    let a = bound (number_read text) (λ i. side_read i.1 >>= λ s. next_read s.1 >>= λ j. path_read j.1 >>= λ at. subst_read symbols levels at.1 >>= λ sub. Some (Para no_name i.0 s.0 no_name j.0 at.0 sub.0, sub.1)) x e in
    let i = a.value in
    let b = bound (side_read i.1) (λ s. next_read s.1 >>= λ j. path_read j.1 >>= λ at. subst_read symbols levels at.1 >>= λ sub. Some (Para no_name i.0 s.0 no_name j.0 at.0 sub.0, sub.1)) x a.then in
    let s = b.value in
    let c = bound (next_read s.1) (λ j. path_read j.1 >>= λ at. subst_read symbols levels at.1 >>= λ sub. Some (Para no_name i.0 s.0 no_name j.0 at.0 sub.0, sub.1)) x b.then in
    let j = c.value in
    let d = bound (path_read j.1) (λ at. subst_read symbols levels at.1 >>= λ sub. Some (Para no_name i.0 s.0 no_name j.0 at.0 sub.0, sub.1)) x c.then in
    let at = d.value in
    let f = bound (subst_read symbols levels at.1) (λ sub. Some (Para no_name i.0 s.0 no_name j.0 at.0 sub.0, sub.1)) x d.then in
    shaped_is symbols (Para no_name i.0 s.0 no_name j.0 at.0 f.value.0) f.value.1 x f.then
    (λ w. (refl, number_small text i a.is, side_given i.1 s b.is, next_given s.1 j c.is, path_given j.1 at d.is, subst_is symbols f.value.0 (subst_given symbols levels at.1 f.value f.is) w))

rewrite_given : (symbols : List Symbol) (levels : ℕ) (text : List ℕ) (x : Step × List ℕ) → rewrite_read symbols levels text ≡ Some x → Shaped symbols x.0
unfolding rewrite_read
rewrite_given symbols levels text x e =
    let b = bound (first_side_read text) (λ s. next_read s.1 >>= λ j. path_read j.1 >>= λ at. subst_read symbols levels at.1 >>= λ sub. Some (Rewrite no_name s.0 j.0 at.0 sub.0, sub.1)) x e in
    let s = b.value in
    let c = bound (next_read s.1) (λ j. path_read j.1 >>= λ at. subst_read symbols levels at.1 >>= λ sub. Some (Rewrite no_name s.0 j.0 at.0 sub.0, sub.1)) x b.then in
    let j = c.value in
    let d = bound (path_read j.1) (λ at. subst_read symbols levels at.1 >>= λ sub. Some (Rewrite no_name s.0 j.0 at.0 sub.0, sub.1)) x c.then in
    let at = d.value in
    let f = bound (subst_read symbols levels at.1) (λ sub. Some (Rewrite no_name s.0 j.0 at.0 sub.0, sub.1)) x d.then in
    shaped_is symbols (Rewrite no_name s.0 j.0 at.0 f.value.0) f.value.1 x f.then
    (λ w. (refl, first_side_given text s b.is, next_given s.1 j c.is, path_given j.1 at d.is, subst_is symbols f.value.0 (subst_given symbols levels at.1 f.value f.is) w))

rule_given : (symbols : List Symbol) (levels : ℕ) (text : List ℕ) (x : Step × List ℕ) → rule_read symbols levels text ≡ Some x → Shaped symbols x.0
unfolding rule_read
rule_given symbols levels text x e =
    let g = either (stripped (codes "tidy,[status(thm)]") text) (λ rest. Some (Tidy, rest)) None in
    let f = either (stripped (codes "rewrite,[status(thm),at(") text) (λ rest. rewrite_read symbols levels rest) g in
    let d = either (stripped (codes "para,[status(thm),at(") text) (λ rest. para_read symbols levels rest) f in
    let c = either (stripped (codes "eqfac,[status(thm),at(") text) (λ rest. eqfac_read symbols levels rest) d in
    let b = either (stripped (codes "refl,[status(thm),at(") text) (λ rest. refl_read symbols levels rest) c in
    let a = either (stripped (codes "factor,[status(thm),at(") text) (λ rest. factor_read symbols levels rest) b in
    elim (chosen (stripped (codes "resolve,[status(thm),at(") text) (λ rest. resolve_read symbols levels rest) a x e) [
      | inl h ↦ resolve_given symbols levels h.value x h.then
      | inr e1 ↦ elim (chosen (stripped (codes "factor,[status(thm),at(") text) (λ rest. factor_read symbols levels rest) b x e1) [
        | inl h ↦ factor_given symbols levels h.value x h.then
        | inr e2 ↦ elim (chosen (stripped (codes "refl,[status(thm),at(") text) (λ rest. refl_read symbols levels rest) c x e2) [
          | inl h ↦ refl_given symbols levels h.value x h.then
          | inr e3 ↦ elim (chosen (stripped (codes "eqfac,[status(thm),at(") text) (λ rest. eqfac_read symbols levels rest) d x e3) [
            | inl h ↦ eqfac_given symbols levels h.value x h.then
            | inr e4 ↦ elim (chosen (stripped (codes "para,[status(thm),at(") text) (λ rest. para_read symbols levels rest) f x e4) [
              | inl h ↦ para_given symbols levels h.value x h.then
              | inr e5 ↦ elim (chosen (stripped (codes "rewrite,[status(thm),at(") text) (λ rest. rewrite_read symbols levels rest) g x e5) [
                | inl h ↦ rewrite_given symbols levels h.value x h.then
                | inr e6 ↦ elim (chosen (stripped (codes "tidy,[status(thm)]") text) (λ rest. Some (Tidy, rest)) None x e6) [
                  | inl h ↦ shaped_is symbols Tidy h.value x h.then (λ w. refl)
                  | inr none ↦ absurd cc
                ]
              ]
            ]
          ]
        ]
      ]
    ]

-- ---- bodies

abbrev OriginShaped : List Symbol → Origin → Type 0
OriginShaped symbols (File role path label) = IsLabelFormed label
OriginShaped symbols (Rule step) = Shaped symbols step

file_given : (symbols : List Symbol) (role : Role) (text : List ℕ) (x : Origin × List ℕ) → file_read role text ≡ Some x → OriginShaped symbols x.0
unfolding file_read
file_given symbols role text x e =
    let a = bound (quoted_read text) (λ path. stripped (codes ",") path.1 >>= λ second. label_read second >>= λ label. stripped (codes ")") label.1 >>= λ rest. Some (File role path.0 label.0, rest)) x e in
    let path = a.value in
    let b = bound (stripped (codes ",") path.1) (λ second. label_read second >>= λ label. stripped (codes ")") label.1 >>= λ rest. Some (File role path.0 label.0, rest)) x a.then in
    let c = bound (label_read b.value) (λ label. stripped (codes ")") label.1 >>= λ rest. Some (File role path.0 label.0, rest)) x b.then in
    let d = bound (stripped (codes ")") c.value.1) (λ rest. Some (File role path.0 c.value.0, rest)) x c.then in
    let k : (File role path.0 c.value.0, d.value) ≡ x = (let g = d.then in cc) in
    subst (λ (y : Origin × List ℕ). OriginShaped symbols y.0) k (label_given b.value c.value c.is)

inference_given : (symbols : List Symbol) (levels : ℕ) (text : List ℕ) (x : Origin × List ℕ) → inference_read symbols levels text ≡ Some x → OriginShaped symbols x.0
unfolding inference_read
inference_given symbols levels text x e =
    let a = bound (stripped (codes "inference(") text) (λ inner. rule_read symbols levels inner >>= λ step. stripped (codes ",[") step.1 >>= λ rest. Some (Rule step.0, rest)) x e in
    let b = bound (rule_read symbols levels a.value) (λ step. stripped (codes ",[") step.1 >>= λ rest. Some (Rule step.0, rest)) x a.then in
    let c = bound (stripped (codes ",[") b.value.1) (λ rest. Some (Rule b.value.0, rest)) x b.then in
    let k : (Rule b.value.0, c.value) ≡ x = (let g = c.then in cc) in
    subst (λ (y : Origin × List ℕ). OriginShaped symbols y.0) k (rule_given symbols levels a.value b.value b.is)

origin_given : (symbols : List Symbol) (levels : ℕ) (role : Role) (text : List ℕ) (x : Origin × List ℕ) → origin_read symbols levels role text ≡ Some x → OriginShaped symbols x.0
unfolding origin_read
origin_given symbols levels role text x e =
    elim (chosen (stripped (codes "file(") text) (λ rest. file_read role rest) (inference_read symbols levels text) x e) [
      | inl b ↦ file_given symbols role b.value x b.then
      | inr other ↦ inference_given symbols levels text x other
    ]

record BodyShaped (symbols : List Symbol) (b : Body) : Type 0 where
  clause : IsClauseFormed symbols b.clause
  origin : OriginShaped symbols b.origin

body_given : (symbols : List Symbol) (levels : ℕ) (text : List ℕ) (x : Body × List ℕ) → body_read symbols levels text ≡ Some x → BodyShaped symbols x.0
unfolding body_read
body_given symbols levels text x e =
    let a = bound (role_read text) (λ role. stripped (codes ",") role.1 >>= λ second. clause_read symbols levels second >>= λ clause. stripped (codes ",") clause.1 >>= λ third. origin_read symbols (suc levels) role.0 third >>= λ origin. Some (record { clause = clause.0; origin = origin.0 }, origin.1)) x e in
    let role = a.value in
    let b = bound (stripped (codes ",") role.1) (λ second. clause_read symbols levels second >>= λ clause. stripped (codes ",") clause.1 >>= λ third. origin_read symbols (suc levels) role.0 third >>= λ origin. Some (record { clause = clause.0; origin = origin.0 }, origin.1)) x a.then in
    let c = bound (clause_read symbols levels b.value) (λ clause. stripped (codes ",") clause.1 >>= λ third. origin_read symbols (suc levels) role.0 third >>= λ origin. Some (record { clause = clause.0; origin = origin.0 }, origin.1)) x b.then in
    let clause = c.value in
    let d = bound (stripped (codes ",") clause.1) (λ third. origin_read symbols (suc levels) role.0 third >>= λ origin. Some (record { clause = clause.0; origin = origin.0 }, origin.1)) x c.then in
    let f = bound (origin_read symbols (suc levels) role.0 d.value) (λ origin. Some (record { clause = clause.0; origin = origin.0 }, origin.1)) x d.then in
    let k : (record { clause = clause.0; origin = f.value.0 }, f.value.1) ≡ x = (let g = f.then in cc) in
    subst (λ (y : Body × List ℕ). BodyShaped symbols y.0) k
    (record { clause = clause_given symbols levels b.value clause c.is; origin = origin_given symbols (suc levels) role.0 d.value f.value f.is })

-- what was printed again stands there
record ExactBody (symbols : List Symbol) (text : List ℕ) (x : Body × List ℕ) : Type 0 where
  shaped : BodyShaped symbols x.0
  text_is : text ≡ body_text symbols x.0 ++ x.1

exact_given : (symbols : List Symbol) (levels : ℕ) (text : List ℕ) (x : Body × List ℕ) → exactly (body_text symbols) text (body_read symbols levels text) ≡ Some x → ExactBody symbols text x
exact_given symbols levels text x e =
    let a = bound (body_read symbols levels text) (λ y. stripped (body_text symbols y.0) text >>= λ rest. Some (y.0, rest)) x e in
    let b = bound (stripped (body_text symbols a.value.0) text) (λ rest. Some (a.value.0, rest)) x a.then in
    let k : (a.value.0, b.value) ≡ x = (let g = b.then in cc) in
    subst (ExactBody symbols text) k (record { shaped = body_given symbols levels text a.value a.is; text_is = stripped_sound (body_text symbols a.value.0) text b.value b.is })

-- ---- names

name_sound : (text : List ℕ) (x : ℕ × List ℕ) → name_read exact text ≡ Some x → IsName text x
unfolding name_read
name_sound text x e =
    let a = bound (stripped (codes "c") text) (λ rest. numeral_read exact rest) x e in
    let h = numeral_sound a.value x a.then in
    record { positive = h.positive; text_is = stripped_sound (codes "c") text a.value a.is ∙ ap (λ (t : List ℕ). codes "c" ++ t) h.text_is }

record AreNames (two : Bool) (text : List ℕ) (x : List ℕ × List ℕ) : Type 0 where
  count : length x.0 ≡ cond two 2 1
  positive : AllByRecursion (λ n. 0 < n) x.0
  text_is : text ≡ names_text x.0 ++ x.1

second_sound : (first : ℕ) (text : List ℕ) (x : List ℕ × List ℕ) → 0 < first → second_read exact first text ≡ Some x → (length x.0 ≡ 2) × AllByRecursion (λ n. 0 < n) x.0 × (name_text first ++ text ≡ names_text x.0 ++ x.1)
unfolding second_read
second_sound first text x some e =
    let a = bound (stripped (codes ",") text) (λ rest. name_read exact rest >>= λ n. Some (first ∷ n.0 ∷ [], n.1)) x e in
    let b = bound (name_read exact a.value) (λ n. Some (first ∷ n.0 ∷ [], n.1)) x a.then in
    let k : (first ∷ b.value.0 ∷ [], b.value.1) ≡ x = (let g = b.then in cc) in
    let n = name_sound a.value b.value b.is in
    let text_is : text ≡ codes "," ++ (name_text b.value.0 ++ b.value.1) = stripped_sound (codes ",") text a.value a.is ∙ ap (λ (t : List ℕ). codes "," ++ t) n.text_is in
    subst (λ (y : List ℕ × List ℕ). (length y.0 ≡ 2) × AllByRecursion (λ n. 0 < n) y.0 × (name_text first ++ text ≡ names_text y.0 ++ y.1)) k
    (refl, (some, (n.positive, tt)), ap (λ (t : List ℕ). name_text first ++ t) text_is ∙ sym (append_assoc (name_text first) (codes "," ++ name_text b.value.0) b.value.1))

parents_by : (two : Bool) (text : List ℕ) (n : ℕ × List ℕ) (x : List ℕ × List ℕ) → IsName text n → cond two (second_read exact n.0 n.1) (Some (n.0 ∷ [], n.1)) ≡ Some x → AreNames two text x
parents_by true text n x name e =
    let h = second_sound n.0 n.1 x name.positive e in
    record { count = h.0; positive = h.1; text_is = name.text_is ∙ h.2 }
parents_by false text n x name e =
    let k : (n.0 ∷ [], n.1) ≡ x = cc in
    subst (AreNames false text) k (record { count = refl; positive = (name.positive, tt); text_is = name.text_is })

parents_sound : (two : Bool) (text : List ℕ) (x : List ℕ × List ℕ) → parents_read exact two text ≡ Some x → AreNames two text x
unfolding parents_read
parents_sound two text x e =
    let a = bound (name_read exact text) (λ n. cond two (second_read exact n.0 n.1) (Some (n.0 ∷ [], n.1))) x e in
    parents_by two text a.value x (name_sound text a.value a.is) a.then

-- ---- lines

ended : (rest : List ℕ) (y : Unit {0}) → is_end rest ≡ Some y → rest ≡ []
ended [] y e = refl
ended (b ∷ bs) y e = absurd cc

pub record Sound (symbols : List Symbol) (piece : List ℕ) (l : Line) : Type 0 where
  pub number : 0 < l.number
  pub clause : IsClauseFormed symbols l.clause
  pub source : AreWithin 65535 1000 (source_subst l.source) → IsSourceFormed symbols l.role l.source
  pub text : piece ≡ line_text symbols l

abbrev body_of : Clause → Origin → Body
body_of c o = record { clause = c; origin = o }

abbrev start : ℕ → List ℕ → List ℕ
start n text = codes "cnf(" ++ (name_text n ++ (codes "," ++ text))

file_sound : (symbols : List Symbol) (n : ℕ) (c : Clause) (role : Role) (path : List ℕ) (label : Label) (text : List ℕ) (l : Line) → 0 < n → IsClauseFormed symbols c → IsLabelFormed label
    → file_end n c role path label text ≡ Some l → Sound symbols (start n (body_text symbols (body_of c (File role path label)) ++ text)) l
unfolding file_end
file_sound symbols n c role path label text l some clause ok e =
    let line : Line = record { number = n; role = Given role; clause = c; source = sources.File path label } in
    let a = bound (stripped (codes ").") text) (λ rest. is_end rest >>= λ _. Some line) l e in
    let b = bound (is_end a.value) (λ _. Some line) l a.then in
    let k : line ≡ l = (let g = b.then in cc) in
    let end : text ≡ codes ")." = stripped_sound (codes ").") text a.value a.is ∙ ap (λ (t : List ℕ). codes ")." ++ t) (ended a.value b.value b.is) in
    subst (Sound symbols (start n (body_text symbols (body_of c (File role path label)) ++ text))) k
    (record {
      number = some;
      clause = clause;
      source = λ w. ok;
      text = ap (λ (t : List ℕ). start n (body_text symbols (body_of c (File role path label)) ++ t)) end ∙ sym (file_line symbols n role c path label);
    })

rule_sound : (symbols : List Symbol) (n : ℕ) (c : Clause) (step : Step) (text : List ℕ) (l : Line) → 0 < n → IsClauseFormed symbols c → Shaped symbols step
    → rule_end exact n c step text ≡ Some l → Sound symbols (start n (body_text symbols (body_of c (Rule step)) ++ text)) l
unfolding rule_end
rule_sound symbols n c step text l some clause shaped e =
    let a = bound (parents_read exact (has_two step) text) (λ ps. stripped (codes "])).") ps.1 >>= λ rest. is_end rest >>= λ _. Some (record { number = n; role = Plain; clause = c; source = sources.Inference step ps.0 })) l e in
    let ps = a.value.0 in
    let line : Line = record { number = n; role = Plain; clause = c; source = sources.Inference step ps } in
    let b = bound (stripped (codes "])).") a.value.1) (λ rest. is_end rest >>= λ _. Some line) l a.then in
    let d = bound (is_end b.value) (λ _. Some line) l b.then in
    let k : line ≡ l = (let g = d.then in cc) in
    let names = parents_sound (has_two step) text a.value a.is in
    let behind : a.value.1 ≡ codes "]))." = stripped_sound (codes "])).") a.value.1 b.value b.is ∙ ap (λ (t : List ℕ). codes "]))." ++ t) (ended b.value d.value d.is) in
    let end : text ≡ names_text ps ++ codes "]))." = names.text_is ∙ ap (λ (t : List ℕ). names_text ps ++ t) behind in
    subst (Sound symbols (start n (body_text symbols (body_of c (Rule step)) ++ text))) k
    (record {
      number = some;
      clause = clause;
      source = λ w. (subst (λ (count : ℕ). IsStepFormed symbols count step) (sym names.count) (shaped w), names.positive);
      text = ap (λ (t : List ℕ). start n (body_text symbols (body_of c (Rule step)) ++ t)) end ∙ sym (rule_line symbols n c step ps);
    })

origin_sound : (symbols : List Symbol) (n : ℕ) (c : Clause) (o : Origin) (text : List ℕ) (l : Line) → 0 < n → IsClauseFormed symbols c → OriginShaped symbols o
    → origin_end exact n c o text ≡ Some l → Sound symbols (start n (body_text symbols (body_of c o) ++ text)) l
origin_sound symbols n c (File role path label) text l some clause ok e = file_sound symbols n c role path label text l some clause ok e
origin_sound symbols n c (Rule step) text l some clause ok e = rule_sound symbols n c step text l some clause ok e

pub line_sound : (symbols : List Symbol) (levels : ℕ) (piece : List ℕ) (l : Line) → line_read exact symbols levels piece ≡ Some l → Sound symbols piece l
unfolding line_read
line_sound symbols levels piece l e =
    let a = bound (stripped (codes "cnf(") piece) (λ x. name_read exact x >>= λ n. stripped (codes ",") n.1 >>= λ text. exactly (body_text symbols) text (body_read symbols levels text) >>= λ b. origin_end exact n.0 b.0.clause b.0.origin b.1) l e in
    let b = bound (name_read exact a.value) (λ n. stripped (codes ",") n.1 >>= λ text. exactly (body_text symbols) text (body_read symbols levels text) >>= λ b. origin_end exact n.0 b.0.clause b.0.origin b.1) l a.then in
    let n = b.value in
    let c = bound (stripped (codes ",") n.1) (λ text. exactly (body_text symbols) text (body_read symbols levels text) >>= λ b. origin_end exact n.0 b.0.clause b.0.origin b.1) l b.then in
    let text = c.value in
    let d = bound (exactly (body_text symbols) text (body_read symbols levels text)) (λ b. origin_end exact n.0 b.0.clause b.0.origin b.1) l c.then in
    let body = d.value in
    let name = name_sound a.value n b.is in
    let whole = exact_given symbols levels text body d.is in
    let piece_is : piece ≡ start n.0 (body_text symbols body.0 ++ body.1) =
    stripped_sound (codes "cnf(") piece a.value a.is
    ∙ ap (λ (t : List ℕ). codes "cnf(" ++ t) (name.text_is ∙ ap (λ (t : List ℕ). name_text n.0 ++ t) (stripped_sound (codes ",") n.1 text c.is ∙ ap (λ (t : List ℕ). codes "," ++ t) whole.text_is)) in
    let s = origin_sound symbols n.0 body.0.clause body.0.origin body.1 l name.positive whole.shaped.clause whole.shaped.origin d.then in
    record { number = s.number; clause = s.clause; source = s.source; text = piece_is ∙ s.text }
