-- The lines of entries that lead, and that they are right.
use Rattle.std.proofs.Common.{◌≡◌, ℕ, ◌+◌, ◌<◌, true, false, cond, eqb, List, [], ◌∷◌, ◌++◌, length, refl, ap, ap₂, sym, map, ◌∙◌, subst, arith, inl, inr, ◌⊎◌}
use Rattle.std.specs.Prelude.{Option, Some, None}
use Rattle.std.proofs.lemmas.Bool.Decides.{nat_tests}
use Rattle.cd_steps.specs.declared.Step.TheVariants as step
use Rattle.cd_clause.specs.declared.Clause.{Clause}
use Rattle.cd_names.specs.declared.names.Name.{Name}
use Rattle.cd_steps.specs.declared.Step.{Step}
use Rattle.cd_ledger.specs.declared.records.Record.{Record}
use Rattle.cd_ledger.specs.declared.records.Known.{Known}
use Rattle.std.specs.List.{AllByRecursion as Each}
use Rattle.cd_read.specs.declared.problem.Problem.{Problem}
use Rattle.cd_ledger.specs.Records.{GoesOnBehindCopy, IsShape, Registry, begins, is_copy, is_of, recorded}
use Rattle.std.specs.Option.{option_map}
use Rattle.cd_steps.specs.Premises.{premises, names_in, IsRightWith}
use Rattle.cd_machine.specs.Right.{standing, IsReplayed, Lead}
use Rattle.cd_laws.specs.Premises.{Premises}
use Rattle.cd_laws.specs.Rooted.{AreLed}
use Rattle.cd_laws.proofs.Lists.{Each_append, Each_weaker}
use Rattle.cd_laws.proofs.Rooted.{append_none, append_push}
use Rattle.cd_alone.specs.Derived.{AreLines, AreLinesOk, AreStepLines, EndsWith, IsInferred, IsLineOk, Line, Made, made_none, made_more, Numbered, inputs_in, clause_at, line_of, number_in, parents_of}
use Rattle.cd_kbo.specs.declared.order.Order.{Order}

-- ---- lists of lines
lines_none : (xs : List Line) → xs ++ [] ≡ xs
lines_none [] = refl
lines_none (x ∷ xs) = ap (λ (zs : List Line). x ∷ zs) (lines_none xs)

lines_push : (xs : List Line) (x : Line) (ys : List Line) → (xs ++ x ∷ []) ++ ys ≡ xs ++ x ∷ ys
lines_push [] x ys = refl
lines_push (z ∷ xs) x ys = ap (λ (zs : List Line). z ∷ zs) (lines_push xs x ys)

lines_size : (xs ys : List Line) → length (xs ++ ys) ≡ length xs + length ys
lines_size [] ys = omega arith
lines_size (x ∷ xs) ys = omega (arith, lines_size xs ys)

clause_more : (ls ms : List Line) (k : ℕ) (c : Clause) → clause_at ls k ≡ Some c → clause_at (ls ++ ms) k ≡ Some c
clause_more [] ms k c h = absurd (let z : None ≡ Some c = h in cc)
clause_more (l ∷ ls) ms k c h = elim (eqb l.number k) as (λ b. cond b (Some l.clause) (clause_at ls k) ≡ Some c → cond b (Some l.clause) (clause_at (ls ++ ms) k) ≡ Some c) [ true ↦ λ g. g | false ↦ λ g. clause_more ls ms k c g ] h

same_test : (a : ℕ) → eqb a a ≡ true
same_test a = grind (arith, nat_tests)

less_test : (a b : ℕ) → a < b → eqb a b ≡ false
less_test a b h = grind (arith, nat_tests, h)

clause_last : (ls : List Line) (l : Line) → Each (λ x. x.number < l.number) ls → clause_at (ls ++ l ∷ []) l.number ≡ Some l.clause
clause_last [] l h = rw (same_test l.number) refl
clause_last (x ∷ ls) l h = rw (less_test x.number l.number h.0) (clause_last ls l h.1)

-- every number is at most the count
abbrev pub IsLow : List Line → Type 0
IsLow ls = Each (λ l. l.number < length ls + 1) ls

low_push : (ls : List Line) (l : Line) → l.number ≡ length ls + 1 → IsLow ls → IsLow (ls ++ l ∷ [])
low_push ls l at h =
    let size : length (ls ++ l ∷ []) ≡ length ls + 1 = (let z = lines_size ls (l ∷ []) in omega (arith, z)) in
    Each_append (λ x. x.number < length (ls ++ l ∷ []) + 1) ls (l ∷ []) (Each_weaker (λ x. x.number < length ls + 1) (λ x. x.number < length (ls ++ l ∷ []) + 1) (λ x g. omega (arith, g, size)) ls h) ((omega (arith, at, size)), tt)

ends_cons : (P : Clause → Type 0) (l : Line) (ls : List Line) → EndsWith P ls → EndsWith P (l ∷ ls)
ends_cons P l [] h = absurd h
ends_cons P l (m ∷ ls) h = h

ends_append : (P : Clause → Type 0) (xs ys : List Line) → EndsWith P ys → EndsWith P (xs ++ ys)
ends_append P [] ys h = h
ends_append P (x ∷ xs) ys h = ends_cons P x (xs ++ ys) (ends_append P xs ys h)

pub ends_weaker : (P Q : Clause → Type 0) → ((c : Clause) → P c → Q c) → (ls : List Line) → EndsWith P ls → EndsWith Q ls
ends_weaker P Q f [] h = absurd h
ends_weaker P Q f (l ∷ []) h = f l.clause h
ends_weaker P Q f (l ∷ m ∷ ls) h = ends_weaker P Q f (m ∷ ls) h

copy_or : (s : Step) → ((n : Name) × (s ≡ step.Copy n)) ⊎ (is_copy s ≡ false)
copy_or (step.Input k) = inr refl
copy_or (step.Copy n) = inl (n, refl)
copy_or (step.Resolve a i b j t) = inr refl
copy_or (step.Factor a i j t) = inr refl
copy_or (step.Refl a i t) = inr refl
copy_or (step.EqFac a i s j z t) = inr refl
copy_or (step.Para a i s b j path t) = inr refl
copy_or (step.Rewrite a s j path t) = inr refl
copy_or step.Tidy = inr refl

-- ---- the table: a line for each earlier entry, with its clause
abbrev pub Tabled : List Line → List Known → List Numbered → Type 0
Tabled before [] [] = Unit {0}
Tabled before [] (t ∷ ts) = ⊥
Tabled before (e ∷ es) [] = ⊥
Tabled before (e ∷ es) (t ∷ ts) = (t.name ≡ e.entry.name) × (clause_at before t.number ≡ Some e.entry.clause) × Tabled before es ts

tabled_finds : (before : List Line) (es : List Known) (ts : List Numbered) → Tabled before es ts → (n : Name) (r : Record) → recorded n es ≡ Some r → clause_at before (number_in ts n) ≡ Some r.clause
tabled_finds before [] ts h n r g = absurd (let z : None ≡ Some r = g in cc)
tabled_finds before (e ∷ es) [] h n r g = absurd h
tabled_finds before (e ∷ es) (t ∷ ts) h n r g =
    rw h.0 (elim (is_of n e) as (λ b. cond b (Some e.entry) (recorded n es) ≡ Some r → clause_at before (cond b t.number (number_in ts n)) ≡ Some r.clause)
    [ true ↦ λ x. (let z : Some e.entry ≡ Some r = x in let y : e.entry ≡ r = cc in h.1 ∙ ap (λ (c : Record). Some c.clause) y) | false ↦ λ x. tabled_finds before es ts h.2 n r x ] g)

tabled_more : (before more : List Line) (es : List Known) (ts : List Numbered) → Tabled before es ts → Tabled (before ++ more) es ts
tabled_more before more [] [] h = tt
tabled_more before more [] (t ∷ ts) h = absurd h
tabled_more before more (e ∷ es) [] h = absurd h
tabled_more before more (e ∷ es) (t ∷ ts) h = (h.0, clause_more before more t.number e.entry.clause h.1, tabled_more before more es ts h.2)

tabled_push : (before : List Line) (es : List Known) (ts : List Numbered) (e : Known) (t : Numbered) → Tabled before es ts → t.name ≡ e.entry.name → clause_at before t.number ≡ Some e.entry.clause → Tabled before (es ++ e ∷ []) (ts ++ t ∷ [])
tabled_push before [] [] e t h g at = (g, at, tt)
tabled_push before [] (u ∷ ts) e t h g at = absurd h
tabled_push before (x ∷ es) [] e t h g at = absurd h
tabled_push before (x ∷ es) (u ∷ ts) e t h g at = (h.0, h.1, tabled_push before es ts e t h.2 g at)

module _ (order : Order) (q : Premises order) (p : Problem) where
  -- ---- the lines of one entry
  module _ (R : Registry) (num : Name → ℕ) where
    abbrev NumOk : List Line → Type 0
    NumOk before = (n : Name) (r : Record) → R n ≡ Some r → clause_at before (num n) ≡ Some r.clause

    -- what a name stands for is the clause of its line
    same_at : (before : List Line) (n : Name) → ((r : Record) → R n ≡ Some r → clause_at before (num n) ≡ Some r.clause) → (r : Record) × (R n ≡ Some r) → option_map (λ (r : Record). r.clause) (R n) ≡ clause_at before (num n)
    same_at before n h x = ap (λ (o : Option Record). option_map (λ (r : Record). r.clause) o) x.1 ∙ sym (h x.0 x.1)

    abbrev NamesThere : Step → Type 0
    NamesThere s = Each (λ n. (r : Record) × (R n ≡ Some r)) (names_in s)

    abbrev SameStand : List Line → ℕ → Option Clause → Step → Type 0
    SameStand before cur current s = map (standing p R current) (premises s) ≡ inputs_in p (premises s) ++ map (clause_at before) (parents_of num cur s)

    first_same : (before : List Line) (cur : ℕ) (s : Step) → is_copy s ≡ false → begins s ≡ true → NumOk before → NamesThere s → SameStand before cur None s
    first_same before cur (step.Input k) nc b h x = refl
    first_same before cur (step.Copy n) nc b h x = absurd (let z : true ≡ false = nc in cc)
    first_same before cur (step.Resolve a i c j t) nc b h x = ap₂ (λ (u v : Option Clause). u ∷ v ∷ []) (same_at before a (h a) x.0) (same_at before c (h c) x.1.0)
    first_same before cur (step.Factor a i j t) nc b h x = ap (λ (u : Option Clause). u ∷ []) (same_at before a (h a) x.0)
    first_same before cur (step.Refl a i t) nc b h x = ap (λ (u : Option Clause). u ∷ []) (same_at before a (h a) x.0)
    first_same before cur (step.EqFac a i z j y t) nc b h x = ap (λ (u : Option Clause). u ∷ []) (same_at before a (h a) x.0)
    first_same before cur (step.Para a i z c j path t) nc b h x = ap₂ (λ (u v : Option Clause). u ∷ v ∷ []) (same_at before a (h a) x.0) (same_at before c (h c) x.1.0)
    first_same before cur (step.Rewrite a z j path t) nc b h x = absurd (let y : false ≡ true = b in cc)
    first_same before cur step.Tidy nc b h x = absurd (let y : false ≡ true = b in cc)

    inferred_first : (before : List Line) (cur : ℕ) (s : Step) (d : Clause) → is_copy s ≡ false → begins s ≡ true → NumOk before → IsReplayed p R None s d → IsInferred p before s (parents_of num cur s) d
    inferred_first before cur s d nc b num_ok r =
        (nc, subst (λ (os : List (Option Clause)). IsRightWith os s d) (first_same before cur s nc b num_ok (q.replay_names p R None s d r)) r.right)

    next_same : (before : List Line) (cur : ℕ) (x : Clause) (s : Step) → begins s ≡ false → NumOk before → clause_at before cur ≡ Some x → NamesThere s → (is_copy s ≡ false) × SameStand before cur (Some x) s
    next_same before cur x (step.Input k) b h at y = absurd (let z : true ≡ false = b in cc)
    next_same before cur x (step.Copy n) b h at y = absurd (let z : true ≡ false = b in cc)
    next_same before cur x (step.Resolve a i c j t) b h at y = absurd (let z : true ≡ false = b in cc)
    next_same before cur x (step.Factor a i j t) b h at y = absurd (let z : true ≡ false = b in cc)
    next_same before cur x (step.Refl a i t) b h at y = absurd (let z : true ≡ false = b in cc)
    next_same before cur x (step.EqFac a i s j z t) b h at y = absurd (let z' : true ≡ false = b in cc)
    next_same before cur x (step.Para a i s c j path t) b h at y = absurd (let z : true ≡ false = b in cc)
    next_same before cur x (step.Rewrite a z j path t) b h at y = (refl, ap₂ (λ (u v : Option Clause). u ∷ v ∷ []) (sym at) (same_at before a (h a) y.0))
    next_same before cur x step.Tidy b h at y = (refl, ap (λ (u : Option Clause). u ∷ []) (sym at))

    inferred_next : (before : List Line) (cur : ℕ) (x : Clause) (s : Step) (d : Clause) → begins s ≡ false → NumOk before → clause_at before cur ≡ Some x → IsReplayed p R (Some x) s d → IsInferred p before s (parents_of num cur s) d
    inferred_next before cur x s d b num_ok at r =
        let same = next_same before cur x s b num_ok at (q.replay_names p R (Some x) s d r) in
        (same.0, subst (λ (os : List (Option Clause)). IsRightWith os s d) same.1 r.right)

    -- lines that are right behind the earlier ones, and the number of the last clause
    record Adds (before lines : List Line) (end : ℕ) (c : Clause) : Type 0 where
      right : AreLinesOk p before lines
      low : IsLow (before ++ lines)
      at : clause_at (before ++ lines) end ≡ Some c

    adds_line : (before : List Line) (l : Line) (others lines : List Line) (end : ℕ) (c : Clause) → IsLineOk p before l → lines ≡ l ∷ others → Adds (before ++ l ∷ []) others end c → Adds before lines end c
    adds_line before l others lines end c line eq a =
        subst (λ (ls : List Line). Adds before ls end c) (sym eq) (record {
          right = (line, a.right);
          low = subst IsLow (lines_push before l others) a.low;
          at = subst (λ (ls : List Line). clause_at ls end ≡ Some c) (lines_push before l others) a.at;
        })

    more_ok : (before : List Line) (l : Line) → NumOk before → NumOk (before ++ l ∷ [])
    more_ok before l h n r e = clause_more before (l ∷ []) (num n) r.clause (h n r e)

    here_last : (before : List Line) (k cur : ℕ) (s : Step) (d : Clause) → k ≡ length before → IsLow before → clause_at (before ++ line_of num k cur s d ∷ []) (k + 1) ≡ Some d
    here_last before k cur s d size low = clause_last before (line_of num k cur s d) (Each_weaker (λ x. x.number < length before + 1) (λ x. x.number < k + 1) (λ x g. omega (arith, g, size)) before low)

    next_size : (before : List Line) (l : Line) (k : ℕ) → k ≡ length before → k + 1 ≡ length (before ++ l ∷ [])
    next_size before l k h = let z = lines_size before (l ∷ []) in omega (arith, z, h)

    next_right : (ss : List Step) (before : List Line) (k cur : ℕ) (x c : Clause) (lines : List Line) (end : ℕ) → Each (λ s. begins s ≡ false) ss → k ≡ length before → IsLow before → NumOk before
        → clause_at before cur ≡ Some x → AreStepLines p R num k cur (Some x) ss c lines end → Adds before lines end c
    next_right [] before k cur x c lines end nb size low num_ok at h =
        subst (λ (ls : List Line). Adds before ls end c) (sym h.0) (record {
          right = tt;
          low = subst IsLow (sym (lines_none before)) low;
          at = subst (λ (ls : List Line). clause_at ls end ≡ Some c) (sym (lines_none before)) (subst (λ (j : ℕ). clause_at before j ≡ Some c) (sym h.1) (at ∙ h.2));
        })
    next_right (s ∷ ss) before k cur x c lines end nb size low num_ok at (d, r, inl y) = absurd (let z : true ≡ false = subst (λ (u : Step). begins u ≡ false) y.1 nb.0 in cc)
    next_right (s ∷ ss) before k cur x c lines end nb size low num_ok at (d, r, inr y) =
        let l : Line = line_of num k cur s d in
        adds_line before l y.1.0 lines end c (record { number = (let z : k + 1 ≡ length before + 1 = ap (λ (j : ℕ). j + 1) size in z); inferred = inferred_next before cur x s d nb.0 num_ok at r; fit = r.fit; subst = r.subst }) y.1.1
        (next_right ss (before ++ l ∷ []) (k + 1) (k + 1) d c y.1.0 end nb.1 (next_size before l k size) (low_push before l (ap (λ (j : ℕ). j + 1) size) low) (more_ok before l num_ok) (here_last before k cur s d size low) y.1.2)

    first_right : (ss : List Step) (before : List Line) (k : ℕ) (c : Clause) (lines : List Line) (end : ℕ) → IsShape ss → k ≡ length before → IsLow before → NumOk before
        → AreStepLines p R num k 0 None ss c lines end → Adds before lines end c
    first_right [] before k c lines end shape size low num_ok h = absurd shape
    first_right (s ∷ ss) before k c lines end shape size low num_ok (d, r, inl y) =
        let x = q.copy_is p R y.0 d (subst (λ (u : Step). IsReplayed p R None u d) y.1 r) in
        next_right ss before k (num y.0) d c lines end shape.1 size low num_ok (num_ok y.0 x.0 x.1 ∙ ap Some (sym x.2)) y.2
    first_right (s ∷ ss) before k c lines end shape size low num_ok (d, r, inr y) =
        let l : Line = line_of num k 0 s d in
        adds_line before l y.1.0 lines end c (record { number = (let z : k + 1 ≡ length before + 1 = ap (λ (j : ℕ). j + 1) size in z); inferred = inferred_first before 0 s d y.0 shape.0 num_ok r; fit = r.fit; subst = r.subst }) y.1.1
        (next_right ss (before ++ l ∷ []) (k + 1) (k + 1) d c y.1.0 end shape.1 (next_size before l k size) (low_push before l (ap (λ (j : ℕ). j + 1) size) low) (more_ok before l num_ok) (here_last before k 0 s d size low) y.1.2)

    -- there are lines
    step_lines : (k cur : ℕ) (current : Option Clause) (ss : List Step) (c : Clause) → Lead p R current ss c → (lines : List Line) × (end : ℕ) × AreStepLines p R num k cur current ss c lines end
    step_lines k cur current [] c h = ([], cur, (refl, refl, h))
    step_lines k cur current (s ∷ ss) c h =
        go (copy_or s) (λ j i. step_lines j i (Some h.0) ss c h.2)
      where
        go : ((n : Name) × (s ≡ step.Copy n)) ⊎ (is_copy s ≡ false) → ((j i : ℕ) → (lines : List Line) × (end : ℕ) × AreStepLines p R num j i (Some h.0) ss c lines end)
            → (lines : List Line) × (end : ℕ) × AreStepLines p R num k cur current (s ∷ ss) c lines end
        go (inl y) rest = let x = rest k (num y.0) in (x.0, x.1, (h.0, h.1, inl (y.0, y.1, x.2)))
        go (inr y) rest = let x = rest (k + 1) (k + 1) in (line_of num k cur s h.0 ∷ x.0, x.1, (h.0, h.1, inr (y, (x.0, refl, x.2))))

    -- the last one has the clause
    next_ends : (s : Step) (ss : List Step) (k cur : ℕ) (x c : Clause) (lines : List Line) (end : ℕ) → Each (λ t. begins t ≡ false) (s ∷ ss) → AreStepLines p R num k cur (Some x) (s ∷ ss) c lines end → EndsWith (λ d. d ≡ c) lines
    next_ends s ss k cur x c lines end nb (d, r, inl y) = absurd (let z : true ≡ false = subst (λ (u : Step). begins u ≡ false) y.1 nb.0 in cc)
    next_ends s [] k cur x c lines end nb (d, r, inr y) =
        subst (EndsWith (λ e. e ≡ c)) (sym (y.1.1 ∙ ap (λ (ls : List Line). line_of num k cur s d ∷ ls) y.1.2.0)) (let z : Some d ≡ Some c = y.1.2.2 in let w : d ≡ c = cc in w)
    next_ends s (t ∷ ss) k cur x c lines end nb (d, r, inr y) =
        subst (EndsWith (λ e. e ≡ c)) (sym y.1.1) (ends_cons (λ e. e ≡ c) (line_of num k cur s d) y.1.0 (next_ends t ss (k + 1) (k + 1) d c y.1.0 end nb.1 y.1.2))

    first_ends : (ss : List Step) (k : ℕ) (c : Clause) (lines : List Line) (end : ℕ) → IsShape ss → GoesOnBehindCopy ss → AreStepLines p R num k 0 None ss c lines end → EndsWith (λ d. d ≡ c) lines
    first_ends [] k c lines end shape goes h = absurd shape
    first_ends (s ∷ []) k c lines end shape goes (d, r, inl y) = absurd (let z : true ≡ false = subst (λ (u : Step). is_copy u ≡ false) y.1 goes in cc)
    first_ends (s ∷ []) k c lines end shape goes (d, r, inr y) =
        subst (EndsWith (λ e. e ≡ c)) (sym (y.1.1 ∙ ap (λ (ls : List Line). line_of num k 0 s d ∷ ls) y.1.2.0)) (let z : Some d ≡ Some c = y.1.2.2 in let w : d ≡ c = cc in w)
    first_ends (s ∷ t ∷ ss) k c lines end shape goes (d, r, inl y) = next_ends t ss k (num y.0) d c lines end shape.1 y.2
    first_ends (s ∷ t ∷ ss) k c lines end shape goes (d, r, inr y) =
        subst (EndsWith (λ e. e ≡ c)) (sym y.1.1) (ends_cons (λ e. e ≡ c) (line_of num k 0 s d) y.1.0 (next_ends t ss (k + 1) (k + 1) d c y.1.0 end shape.1 y.1.2))

  -- ---- the lines of all
  right_split : (before xs ys : List Line) → AreLinesOk p before xs → AreLinesOk p (before ++ xs) ys → AreLinesOk p before (xs ++ ys)
  right_split before [] ys h g = subst (λ (ls : List Line). AreLinesOk p ls ys) (lines_none before) g
  right_split before (x ∷ xs) ys h g = (h.0, right_split (before ++ x ∷ []) xs ys h.1 (subst (λ (ls : List Line). AreLinesOk p ls ys) (sym (lines_push before x xs)) g))

  pub lines_right : (front : List Known) (table : List Numbered) (k : ℕ) (es : List Known) (before lines : List Line) → AreLed p front es → k ≡ length before → IsLow before → Tabled before front table
      → AreLines p front table k es lines → AreLinesOk p before lines
  lines_right front table k [] before lines led size low tab h = subst (AreLinesOk p before) (sym h) tt
  lines_right front table k (e ∷ es) before lines led size low tab (here, others, end, x, y, eq) =
      let a = first_right (λ n. recorded n front) (number_in table) e.entry.steps before k e.entry.clause here end led.0.1 size low (tabled_finds before front table tab) x in
      let t : Numbered = record { name = e.entry.name; number = end } in
      subst (AreLinesOk p before) (sym eq) (right_split before here others a.right
      (lines_right (front ++ e ∷ []) (table ++ t ∷ []) (k + length here) es (before ++ here) others led.1 (let z = lines_size before here in omega (arith, z, size)) a.low
      (tabled_push (before ++ here) front table e t (tabled_more before here front table tab) refl a.at) y))

  pub lines_exist : (front : List Known) (table : List Numbered) (k : ℕ) (es : List Known) → AreLed p front es → (lines : List Line) × AreLines p front table k es lines
  lines_exist front table k [] led = ([], refl)
  lines_exist front table k (e ∷ es) led =
      let x = step_lines (λ n. recorded n front) (number_in table) k 0 None e.entry.steps e.entry.clause led.0.0 in
      let y = lines_exist (front ++ e ∷ []) (table ++ record { name = e.entry.name; number = x.1 } ∷ []) (k + length x.0) es led.1 in
      (x.0 ++ y.0, (x.0, y.0, x.1, x.2, y.1, refl))

  pub lines_end : (front : List Known) (table : List Numbered) (k : ℕ) (xs : List Known) (last : Known) (lines : List Line) → AreLed p front (xs ++ last ∷ []) → GoesOnBehindCopy last.entry.steps
      → AreLines p front table k (xs ++ last ∷ []) lines → EndsWith (λ d. d ≡ last.entry.clause) lines
  lines_end front table k [] last lines led goes (here, others, end, x, y, eq) =
      subst (EndsWith (λ d. d ≡ last.entry.clause)) (sym (eq ∙ (ap (λ (ls : List Line). here ++ ls) y ∙ lines_none here))) (first_ends (λ n. recorded n front) (number_in table) last.entry.steps k last.entry.clause here end led.0.1 goes x)
  lines_end front table k (e ∷ xs) last lines led goes (here, others, end, x, y, eq) =
      subst (EndsWith (λ d. d ≡ last.entry.clause)) (sym eq) (ends_append (λ d. d ≡ last.entry.clause) here others
      (lines_end (front ++ e ∷ []) (table ++ record { name = e.entry.name; number = end } ∷ []) (k + length here) xs last others led.1 goes y))

-- ---- from the left and from the right
lines_three : (xs ys zs : List Line) → (xs ++ ys) ++ zs ≡ xs ++ (ys ++ zs)
lines_three [] ys zs = refl
lines_three (x ∷ xs) ys zs = ap (λ (ls : List Line). x ∷ ls) (lines_three xs ys zs)

made_then : (p : Problem) (es : List Known) (ts : List Numbered) (ls : List Line) → Made p es ts ls → (fs : List Known) (rest : List Line) → AreLines p es ts (length ls) fs rest → AreLines p [] [] 0 (es ++ fs) (ls ++ rest)
made_then p _ _ _ made_none fs rest h = h
made_then p _ _ _ (made_more front numbers before e here end m steps) fs rest h =
    let t : Numbered = record { name = e.entry.name; number = end } in
    let after : AreLines p (front ++ e ∷ []) (numbers ++ t ∷ []) (length before + length here) fs rest =
    subst (λ (k : ℕ). AreLines p (front ++ e ∷ []) (numbers ++ t ∷ []) k fs rest) (lines_size before here) h in
    let all = made_then p front numbers before m (e ∷ fs) (here ++ rest) (here, rest, end, steps, after, refl) in
    subst (λ (es : List Known). AreLines p [] [] 0 es ((before ++ here) ++ rest)) (sym (append_push front e fs)) (subst (λ (ls : List Line). AreLines p [] [] 0 (front ++ e ∷ fs) ls) (sym (lines_three before here rest)) all)

-- what a loop has made of all chosen entries is the derivation
pub made_lines : (p : Problem) (es : List Known) (ts : List Numbered) (ls : List Line) → Made p es ts ls → AreLines p [] [] 0 es ls
made_lines p es ts ls m = subst (λ (es' : List Known). AreLines p [] [] 0 es' ls) (append_none es) (subst (λ (ls' : List Line). AreLines p [] [] 0 (es ++ []) ls') (lines_none ls) (made_then p es ts ls m [] [] refl))
