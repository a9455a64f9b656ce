-- The lines of marked records, one record after another.
use Rattle.std.proofs.Common.{◌≡◌, ℕ, zero, suc, ◌+◌, ◌≤◌, Bool, true, false, inl, inr, cond, List, [], ◌∷◌, ◌++◌, length, map, take, refl, ap, ap₂, sym, ◌∙◌, subst, arith, append-nil}
use Rattle.std.specs.Prelude.{slice_get, unwrap_or, Option, Some, None}
use Rattle.std.proofs.lemmas.List.{length-append, length-map, map-append, take_all}
use Rattle.cd_acts.specs.Indexed.{AreOnce}
use Rattle.cd_alone.specs.Derived as derived
use Rattle.cd_alone.specs.Derived.{AreStepLines, Made, made_none, made_more, Numbered, line_of, number_in, parents_of, picked}
use Rattle.cd_alone.proofs.Lines.{made_lines}
use Rattle.cd_clause.specs.declared.Clause.{Clause}
use Rattle.cd_laws.proofs.Lists.{Each_all}
use Rattle.cd_laws.specs.Rooted.{AreLed}
use Rattle.cd_ledger.specs.Records.{Registry, is_of, recorded}
use Rattle.cd_ledger.specs.declared.records.Known.{Known}
use Rattle.cd_ledger.specs.declared.records.Record.{Record}
use Rattle.cd_machine.specs.Right.{IsReplayed, Lead, standing}
use Rattle.cd_names.specs.declared.names.Name.{Name}
use Rattle.cd_premises.proofs.Steps.{replay_grows}
use Rattle.cd_read.specs.declared.problem.Problem.{Problem}
use Rattle.cd_steps.proofs.Registries.{right_steps_give_one}
use Rattle.cd_steps.specs.Premises.{names_in}
use Rattle.cd_steps.specs.declared.Step.{Step}
use Rattle.cd_steps.specs.declared.Step.TheVariants as step
use Rattle.cd_text.specs.declared.line.Line.{Line}
use Rattle.cd_build.specs.Derivation.{printed}
use Rattle.cd_build.specs.Marks.{is_marked}
use Rattle.cd_build.specs.Building.{AreAdded, AreAddedIf, AreLinesOf, number_of, plain_line}
use Rattle.cd_build.proofs.Numbering.{before_others, led_at, number_here, number_none, number_other, number_zero, picked_next, recorded_grows, table_other, table_others}

-- ---- over fewer records

-- steps that lead over some of the records have the same lines over these
module _ (p : Problem) (R S : Registry) (f g : Name → ℕ) (grows : (n : Name) (r : Record) → S n ≡ Some r → R n ≡ Some r) (same : (n : Name) → f n ≡ g n) where
  same_parents : (cur : ℕ) (s : Step) → parents_of f cur s ≡ parents_of g cur s
  same_parents cur (step.Input k) = refl
  same_parents cur (step.Copy n) = refl
  same_parents cur (step.Resolve a i b j t) = ap₂ (λ (x y : ℕ). x ∷ y ∷ []) (same a) (same b)
  same_parents cur (step.Factor a i j t) = ap (λ (x : ℕ). x ∷ []) (same a)
  same_parents cur (step.Refl a i t) = ap (λ (x : ℕ). x ∷ []) (same a)
  same_parents cur (step.EqFac a i s j z t) = ap (λ (x : ℕ). x ∷ []) (same a)
  same_parents cur (step.Para a i s b j path t) = ap₂ (λ (x y : ℕ). x ∷ y ∷ []) (same a) (same b)
  same_parents cur (step.Rewrite a s j path t) = ap (λ (x : ℕ). cur ∷ x ∷ []) (same a)
  same_parents cur step.Tidy = refl

  same_clause : (current : Option Clause) (s : Step) (c d : Clause) → IsReplayed p R current s c → IsReplayed p S current s d → c ≡ d
  same_clause current s c d x y =
      let again = replay_grows p S R current s d (Each_all (λ n. (r : Record) → S n ≡ Some r → R n ≡ Some r) grows (names_in s)) y in
      right_steps_give_one (standing p R current) s c d x.right again.right

  pub fewer : (k cur : ℕ) (current : Option Clause) (ss : List Step) (c d : Clause) (lines : List derived.Line) (end : ℕ) → AreStepLines p R f k cur current ss c lines end → Lead p S current ss d
      → AreStepLines p S g k cur current ss d lines end
  fewer k cur current [] c d lines end h lead = (h.0, h.1, lead)
  fewer k cur current (s ∷ ss) c d lines end (x, r, inl y) lead =
      let is : x ≡ lead.0 = same_clause current s x lead.0 r lead.1 in
      let rest = fewer k (f y.0) (Some lead.0) ss c d lines end (subst (λ (z : Clause). AreStepLines p R f k (f y.0) (Some z) ss c lines end) is y.2) lead.2 in
      (lead.0, lead.1, inl (y.0, y.1, subst (λ (m : ℕ). AreStepLines p S g k m (Some lead.0) ss d lines end) (same y.0) rest))
  fewer k cur current (s ∷ ss) c d lines end (x, r, inr y) lead =
      let is : x ≡ lead.0 = same_clause current s x lead.0 r lead.1 in
      let others = y.1.0 in
      let first : lines ≡ line_of g k cur s lead.0 ∷ others =
      y.1.1 ∙ ap (λ (z : Clause). line_of f k cur s z ∷ others) is ∙ ap (λ (ps : List ℕ). plain_line (k + 1) s lead.0 ps ∷ others) (same_parents cur s) in
      let rest = fewer (k + 1) (k + 1) (Some lead.0) ss c d others end (subst (λ (z : Clause). AreStepLines p R f (k + 1) (k + 1) (Some z) ss c others end) is y.1.2) lead.2 in
      (lead.0, lead.1, inr (y.0, (others, first, rest)))

-- ---- one record after another

-- the lines of the marked records before a place, and the number of each
pub record IsBuilt (p : Problem) (es : List Known) (marks : List Bool) (i : ℕ) (numbers : List ℕ) (lines : List Line) : Type 0 where
  pub table : List Numbered
  pub plain : List derived.Line
  pub made : Made p (picked (take i marks) es) table plain
  pub lines_are : lines ≡ map (printed p) plain
  pub count : length numbers ≡ i
  pub numbers_are : (n : Name) → number_in table n ≡ number_of es numbers n

pub built_none : (p : Problem) (es : List Known) (marks : List Bool) → IsBuilt p es marks 0 [] []
built_none p es marks = record { table = []; plain = []; made = made_none; lines_are = refl; count = refl; numbers_are = λ n. sym (number_none n es) }

pub leads_at : (p : Problem) (es : List Known) (marks : List Bool) (i : ℕ) (e : Known) → AreOnce es → AreLed p [] (picked marks es) → slice_get es i ≡ Some e → slice_get marks i ≡ Some true
    → Lead p (λ n. recorded n es) None e.entry.steps e.entry.clause
leads_at p es marks i e once led there marked = up None e.entry.steps e.entry.clause (led_at p marks es i e led marked there)
  where
    up : (current : Option Clause) (ss : List Step) (c : Clause) → Lead p (λ n. recorded n (picked (take i marks) es)) current ss c → Lead p (λ n. recorded n es) current ss c
    up current [] c h = h
    up current (s ∷ ss) c h = (
      h.0,
      replay_grows p (λ n. recorded n (picked (take i marks) es)) (λ n. recorded n es) current s h.0
          (Each_all (λ n. (r : Record) → recorded n (picked (take i marks) es) ≡ Some r → recorded n es ≡ Some r) (λ n r. recorded_grows n (take i marks) es r once) (names_in s)) h.1,
      up (Some h.0) ss c h.2,
    )

module _ (p : Problem) (es : List Known) (marks : List Bool) (i : ℕ) (e : Known) (numbers : List ℕ) (lines new : List Line) (end : ℕ) (once : AreOnce es) (led : AreLed p [] (picked marks es)) (there : slice_get es i ≡ Some e)
    (built : IsBuilt p es marks i numbers lines) where
  here : slice_get es (length numbers) ≡ Some e
  here = ap (λ (k : ℕ). slice_get es k) built.count ∙ there

  counted : length (numbers ++ end ∷ []) ≡ suc i
  counted = omega (arith, length-append numbers (end ∷ []), built.count)

  passed_over : slice_get marks i ≡ Some false → AreAddedIf false p es numbers e.entry.steps lines new end → IsBuilt p es marks (suc i) (numbers ++ end ∷ []) new
  passed_over marked added =
      let same : picked (take (suc i) marks) es ≡ picked (take i marks) es = picked_next marks es i false e marked there ∙ append-nil (picked (take i marks) es) in
      record {
        table = built.table;
        plain = built.plain;
        made = subst (λ (xs : List Known). Made p xs built.table built.plain) (sym same) built.made;
        lines_are = added.0 ∙ built.lines_are;
        count = counted;
        numbers_are = λ n. built.numbers_are n ∙ sym (number_zero n es numbers) ∙ ap (λ (k : ℕ). number_of es (numbers ++ k ∷ []) n) (sym added.1);
      }

  added_on : slice_get marks i ≡ Some true → AreAdded p es numbers e.entry.steps lines new end → IsBuilt p es marks (suc i) (numbers ++ end ∷ []) new
  added_on marked added =
      let front = picked (take i marks) es in
      let t : Numbered = record { name = e.entry.name; number = end } in
      let size : length lines ≡ length built.plain = ap (λ (ls : List Line). length ls) built.lines_are ∙ length-map built.plain (printed p) in
      let steps = fewer p (λ n. recorded n es) (λ n. recorded n front) (number_of es numbers) (number_in built.table) (λ n r. recorded_grows n (take i marks) es r once) (λ n. sym (built.numbers_are n))
      (length lines) 0 None e.entry.steps added.0 e.entry.clause added.1 end added.2 (led_at p marks es i e led marked there) in
      let made : Made p (front ++ e ∷ []) (built.table ++ t ∷ []) (built.plain ++ added.1) = made_more front built.table built.plain e added.1 end built.made
      (subst (λ (k : ℕ). AreStepLines p (λ n. recorded n front) (number_in built.table) k 0 None e.entry.steps e.entry.clause added.1 end) size steps) in
      record {
        table = built.table ++ t ∷ [];
        plain = built.plain ++ added.1;
        made = subst (λ (xs : List Known). Made p xs (built.table ++ t ∷ []) (built.plain ++ added.1)) (sym (picked_next marks es i true e marked there)) made;
        lines_are = added.3 ∙ ap (λ (ls : List Line). ls ++ map (printed p) added.1) built.lines_are ∙ sym (map-append (printed p) built.plain added.1);
        count = counted;
        numbers_are = λ n. by n (is_of n e) refl;
      }
    where
      by : (n : Name) (b : Bool) → is_of n e ≡ b → number_in (built.table ++ record { name = e.entry.name; number = end } ∷ []) n ≡ number_of es (numbers ++ end ∷ []) n
      by n true named =
          table_others p n (picked (take i marks) es) built.table built.plain built.made (before_others n marks es i e once there named) (record { name = e.entry.name; number = end } ∷ [])
          ∙ ap (λ (b : Bool). cond b end 0) named ∙ sym (number_here n es numbers end e once here named)
      by n false other = table_other n built.table (record { name = e.entry.name; number = end }) other ∙ built.numbers_are n ∙ sym (number_other n es numbers end e here other)

  pub built_more : (b : Bool) → slice_get marks i ≡ Some b → AreAddedIf b p es numbers e.entry.steps lines new end → IsBuilt p es marks (suc i) (numbers ++ end ∷ []) new
  built_more true marked added = added_on marked added
  built_more false marked added = passed_over marked added

pub built_all : (p : Problem) (es : List Known) (marks : List Bool) (i : ℕ) (numbers : List ℕ) (lines : List Line) → length marks ≤ i → IsBuilt p es marks i numbers lines → AreLinesOf p (picked marks es) lines
built_all p es marks i numbers lines all built =
    let made = subst (λ (bs : List Bool). Made p (picked bs es) built.table built.plain) (take_all i marks all) built.made in
    (built.plain, made_lines p (picked marks es) built.table built.plain made, built.lines_are)

-- ---- what the marks say of a place

pub marked_at : (marks : List Bool) (es : List Known) (i : ℕ) (e : Known) → length marks ≡ length es → slice_get es i ≡ Some e → slice_get marks i ≡ Some (is_marked marks i)
marked_at [] [] i e all there = absurd cc
marked_at [] (y ∷ es) i e all there = absurd (omega (arith, all))
marked_at (b ∷ marks) [] i e all there = absurd cc
marked_at (b ∷ marks) (y ∷ es) zero e all there = refl
marked_at (b ∷ marks) (y ∷ es) (suc i) e all there = marked_at marks es i e (omega (arith, all)) there

pub leads_marked : (p : Problem) (es : List Known) (marks : List Bool) (i : ℕ) (e : Known) (steps : List Step) → AreOnce es → AreLed p [] (picked marks es) → slice_get es i ≡ Some e → steps ≡ e.entry.steps → is_marked marks i ≡ true
    → (c : Clause) × Lead p (λ n. recorded n es) None steps c
leads_marked p es marks i e steps once led there is marked =
    (e.entry.clause, subst (λ (ss : List Step). Lead p (λ n. recorded n es) None ss e.entry.clause) (sym is) (leads_at p es marks i e once led there (by (slice_get marks i) refl marked)))
  where
    by : (o : Option Bool) → slice_get marks i ≡ o → unwrap_or o false ≡ true → slice_get marks i ≡ Some true
    by None at h = absurd (let z : false ≡ true = h in cc)
    by (Some true) at h = at
    by (Some false) at h = absurd (let z : false ≡ true = h in cc)
