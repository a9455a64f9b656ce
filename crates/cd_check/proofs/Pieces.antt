-- The first line of a text, and what is judged behind it.
use Rattle.std.proofs.Common.{◌≡◌, ℕ, zero, suc, ◌+◌, ◌<◌, ◌≤◌, ◌==◌, Bool, true, false, cond, List, [], ◌∷◌, ◌++◌, length, take, drop, refl, sym, ap, ◌∙◌, subst, arith, ◌⊎◌, inl, inr, Option, Some, None, slice_get, ◌-◌}
use Rattle.std.proofs.lemmas.List.{length-drop}
use Rattle.cd_clause.specs.declared.Clause.{Clause}
use Rattle.cd_read.specs.declared.problem.Problem.{Problem}
use Rattle.cd_check.specs.declared.verdict.Why.{Why}
use Rattle.cd_check.specs.declared.verdict.Why.TheVariants as why
use Rattle.cd_check.specs.declared.verdict.Verdict.{Verdict}
use Rattle.cd_check.specs.declared.verdict.Verdict.TheVariants.{Accepted, Refused}
use Rattle.cd_check.specs.declared.judging.Judgement.{Judgement}
use Rattle.cd_check.specs.declared.judging.Judgement.TheVariants.{Right, Wrong}
use Rattle.cd_check.specs.Accepted.{lines_of, onto, is_taken, EndsEmpty}
use Rattle.cd_check.specs.Verdicts.{Fails}
use Rattle.cd_check.specs.Judged.{feed_at, skipped, IsRight, JudgesPiece, EndSays, JudgedBy, Judged}

cut_by : (t : Bool) (b : ℕ) (bs : List ℕ) → (b == 10) ≡ t → (0 < length bs → lines_of bs ≡ take (feed_at bs) bs ∷ lines_of (skipped (drop (feed_at bs) bs)))
    → lines_of (b ∷ bs) ≡ take (feed_at (b ∷ bs)) (b ∷ bs) ∷ lines_of (skipped (drop (feed_at (b ∷ bs)) (b ∷ bs)))
cut_by true b bs e later = rw e refl
cut_by false b [] e later = rw e refl
cut_by false b (c ∷ cs) e later =
    let h = later (omega arith) in
    rw e (ap (onto b) h)

cut : (text : List ℕ) → 0 < length text → lines_of text ≡ take (feed_at text) text ∷ lines_of (skipped (drop (feed_at text) text))
cut [] some = absurd (omega (arith, some))
cut (b ∷ bs) some = cut_by (b == 10) b bs refl (cut bs)

skipped_len : (xs : List ℕ) (n : ℕ) → length xs ≤ n → 0 < n → length (skipped xs) + 1 ≤ n
skipped_len [] n le some = omega (arith, some)
skipped_len (x ∷ xs) n le some = omega (arith, le)

-- the first piece of a text and what stands behind its line feed
pub record IsCut (text piece after : List ℕ) : Type 0 where
  pub some : 0 < length text
  pub piece_is : piece ≡ take (feed_at text) text
  pub after_is : after ≡ skipped (drop (feed_at text) text)

pub shorter : (text piece after : List ℕ) → IsCut text piece after → length after + 1 ≤ length text
shorter text piece after c =
    let h = skipped_len (drop (feed_at text) text) (length text) (omega (arith, length-drop (feed_at text) text)) c.some in
    rw c.after_is h

cut_is : (text piece after : List ℕ) → IsCut text piece after → lines_of text ≡ piece ∷ lines_of after
cut_is text piece after c = cut text c.some ∙ (λ i. sym c.piece_is i ∷ lines_of (sym c.after_is i))

-- ---- a piece more

by_test : (t : Bool) (p : Problem) (before : List Clause) (passed : ℕ) (piece : List ℕ) (v : Verdict) (others : List Clause → Type 0) → is_taken piece ≡ t → JudgedBy t p before passed piece v others → JudgedBy (is_taken piece) p before passed piece v others
by_test t p before passed piece v others is j = subst (λ (b : Bool). JudgedBy b p before passed piece v others) (sym is) j

abbrev Rest : Problem → List Clause → ℕ → List ℕ → Verdict → Type 0
Rest p before passed text v = Judged p before passed (lines_of text) v

uncut : (p : Problem) (before : List Clause) (passed : ℕ) (text piece after : List ℕ) (v : Verdict) → IsCut text piece after → JudgedBy (is_taken piece) p before passed piece v (λ cs. Rest p cs (passed + 1) after v) → Rest p before passed text v
uncut p before passed text piece after v c j = subst (λ (ps : List (List ℕ)). Judged p before passed ps v) (sym (cut_is text piece after c)) j

pub judged_pass : (p : Problem) (before : List Clause) (passed : ℕ) (text piece after : List ℕ) (v : Verdict) → IsCut text piece after → is_taken piece ≡ false → Rest p before (passed + 1) after v → Rest p before passed text v
judged_pass p before passed text piece after v c none j = uncut p before passed text piece after v c (by_test false p before passed piece v (λ cs. Rest p cs (passed + 1) after v) none j)

pub judged_right : (p : Problem) (before : List Clause) (passed : ℕ) (text piece after : List ℕ) (d : Clause) (v : Verdict) → IsCut text piece after → is_taken piece ≡ true → JudgesPiece p before piece (Right d) → Rest p (before ++ d ∷ []) (passed + 1) after v → Rest p before passed text v
judged_right p before passed text piece after d v c taken r j = uncut p before passed text piece after v c (by_test true p before passed piece v (λ cs. Rest p cs (passed + 1) after v) taken (inl (d, r, j)))

pub judged_wrong : (p : Problem) (before : List Clause) (passed : ℕ) (text piece after : List ℕ) (w : Why) → IsCut text piece after → is_taken piece ≡ true → JudgesPiece p before piece (Wrong w) → Rest p before passed text (Refused (passed + 1) w)
judged_wrong p before passed text piece after w c taken f =
    uncut p before passed text piece after (Refused (passed + 1) w) c (by_test true p before passed piece (Refused (passed + 1) w) (λ cs. Rest p cs (passed + 1) after (Refused (passed + 1) w)) taken (inr (w, f, refl)))

none_left : (text : List ℕ) → length text ≤ 0 → text ≡ []
none_left [] h = refl
none_left (b ∷ bs) h = absurd (omega (arith, h))

pub judged_accepted : (p : Problem) (before : List Clause) (passed : ℕ) (text : List ℕ) → length text ≤ 0 → EndsEmpty before → Rest p before passed text (Accepted (length before))
judged_accepted p before passed text none ends = subst (λ (t : List ℕ). Rest p before passed t (Accepted (length before))) (sym (none_left text none)) (inl (ends, refl))

pub judged_no_end : (p : Problem) (before : List Clause) (passed : ℕ) (text : List ℕ) → length text ≤ 0 → (EndsEmpty before → ⊥) → Rest p before passed text (Refused (passed + 1) why.End)
judged_no_end p before passed text none ends = subst (λ (t : List ℕ). Rest p before passed t (Refused (passed + 1) why.End)) (sym (none_left text none)) (inr (ends, refl))

-- ---- the last clause

last_place : (c d : Clause) (cs : List Clause) → slice_get (c ∷ d ∷ cs) (length (c ∷ d ∷ cs) - 1) ≡ slice_get (d ∷ cs) (length (d ∷ cs) - 1)
last_place c d cs = let e : length (c ∷ d ∷ cs) - 1 ≡ suc (length (d ∷ cs) - 1) = omega arith in ap (slice_get (c ∷ d ∷ cs)) e

pub last_to : (cs : List Clause) (c : Clause) → slice_get cs (length cs - 1) ≡ Some c → c.literals ≡ [] → EndsEmpty cs
last_to [] c e h = absurd cc
last_to (b ∷ []) c e h = let k : b ≡ c = cc in ap (λ (x : Clause). x.literals) k ∙ h
last_to (b ∷ d ∷ cs) c e h = last_to (d ∷ cs) c (sym (last_place b d cs) ∙ e) h

pub last_from : (cs : List Clause) (c : Clause) → slice_get cs (length cs - 1) ≡ Some c → EndsEmpty cs → c.literals ≡ []
last_from [] c e h = absurd h
last_from (b ∷ []) c e h = let k : b ≡ c = cc in sym (ap (λ (x : Clause). x.literals) k) ∙ h
last_from (b ∷ d ∷ cs) c e h = last_from (d ∷ cs) c (sym (last_place b d cs) ∙ e) h

pub last_none : (cs : List Clause) → slice_get cs (length cs - 1) ≡ None → EndsEmpty cs → ⊥
last_none [] e h = h
last_none (b ∷ []) e h = absurd cc
last_none (b ∷ d ∷ cs) e h = last_none (d ∷ cs) (sym (last_place b d cs) ∙ e) h
