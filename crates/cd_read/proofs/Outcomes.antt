-- Reading comes to one thing at most.
use Rattle.std.proofs.Common.{◌≡◌, ◌⊎◌, inl, inr, ◌∙◌, ◌+◌, ◌*◌, ◌<◌, ◌≤◌, ◌++◌, ◌∷◌, [], ℕ, zero, suc, List, Option, Some, None, length, slice_get, refl, sym, ap, subst, arith}
use Rattle.std.proofs.lemmas.Bool.{cases_order}
use Rattle.std.specs.Prelude.{Contains}
use Rattle.std.specs.List.{AllByRecursion}
use Rattle.cd_symbols.specs.Symbol.{AreDistinct}
use Rattle.cd_lex.specs.Bytes.{Bytes}
use Rattle.cd_parse.specs.declared.tree.TreeLiteral.{TreeLiteral}
use Rattle.cd_parse.specs.declared.label.Label.{Label}
use Rattle.cd_parse.specs.declared.label.Role.{Role}
use Rattle.cd_parse.specs.declared.label.What.TheVariants as what
use Rattle.cd_read.specs.declared.problem.Problem.{Problem}
use Rattle.cd_parse.specs.declared.statement.Statement.TheVariants.{Clause, Include}
use Rattle.cd_parse.specs.Parts.{Placed, Part, statement, over, broken, IsPart}
use Rattle.cd_read.specs.Files.{File, SoFar, Outcome, read, wrong, needs, Inside, opens, included, Adds, IsTooLarge, IsStart, IsMissing, AllOccur, since, wrong_at, IsStopped, ReadsFile, unfetched, long, file, ReadsFrom, ends, breaks, clause, too_large, includes, stops, misses, start, nothing_read, GivesProblem}
use Rattle.cd_read.proofs.Single.{clause_single, clause_distinct}
use Rattle.cd_parse.proofs.OnePart.{part_single}

-- ---- one place, one label

pub start_single : (ps : List Placed) (k a b : ℕ) → IsStart ps k a → IsStart ps k b → a ≡ b
start_single ps k a b (p, e, f) (q, g, h) =
    let same : Some p ≡ Some q = sym e ∙ g in
    let placed : p ≡ q = cc in sym f ∙ ap (λ (x : Placed). x.start) placed ∙ h

pub missing_single : (ls since_ : List Label) (j k : ℕ) → IsMissing ls since_ j → IsMissing ls since_ k → j ≡ k
missing_single ls since_ j k ((l, at, lacks), before) ((m, at', lacks'), before') = by (cases_order j k)
  where
    by : (j ≡ k) ⊎ ((j < k) ⊎ (k < j)) → j ≡ k
    by (inl e) = e
    by (inr (inl lt)) = absurd (lacks (before' j l lt at))
    by (inr (inr lt)) = absurd (lacks' (before k m lt at'))

pub occurs_all : (ls since_ : List Label) (k : ℕ) (l : Label) → AllByRecursion (λ x. Contains since_ x) ls → slice_get ls k ≡ Some l
    → Contains since_ l
occurs_all [] since_ k l all at = absurd (cc)
occurs_all (x ∷ ls) since_ zero l all at = let same : x ≡ l = cc in subst (λ (y : Label). Contains since_ y) same all.0
occurs_all (x ∷ ls) since_ (suc k) l all at = occurs_all ls since_ k l all.1 at

-- ---- a clause

pub adds_single : (i : Inside) (l : Label) (r : Role) (ls : List TreeLiteral) (s s' s'' : SoFar) → AreDistinct s.symbols
    → Adds i l r ls s s' → Adds i l r ls s s'' → s' ≡ s''
adds_single i l r ls s s' s'' distinct (within, inl (chosen, (c, symbols, gives, few, e)))
    (within', inl (chosen', (d, symbols', gives', few', e'))) =
    let same = clause_single s.symbols symbols symbols' ls c d distinct gives gives' in
    e ∙ (λ j. record s { symbols = same.1 j; inputs = s.inputs ++ record { label = l; role = r; file = i.path; clause = same.0 j } ∷ []; labels = s.labels ++ l ∷ [] }) ∙ sym e'
adds_single i l r ls s s' s'' distinct (within, inl a) (within', inr b) = absurd (b.0 a.0)
adds_single i l r ls s s' s'' distinct (within, inr a) (within', inl b) = absurd (a.0 b.0)
adds_single i l r ls s s' s'' distinct (within, inr a) (within', inr b) = a.1 ∙ sym b.1

pub adds_small : (i : Inside) (l : Label) (r : Role) (ls : List TreeLiteral) (s s' : SoFar) → AreDistinct s.symbols → Adds i l r ls s s'
    → IsTooLarge i l ls s → ⊥
adds_small i l r ls s s' distinct (within, a) (inl out) = out within
adds_small i l r ls s s' distinct (within, inr a) (inr b) = a.0 b.0
adds_small i l r ls s s' distinct (within, inl (chosen, (c, symbols, gives, few, e))) (inr (chosen', (d, symbols', gives', many))) =
    let same = clause_single s.symbols symbols symbols' ls c d distinct gives gives' in omega (arith, few, many, ap length same.1)

-- ---- what a derivation says, by its part

-- behind an included file
abbrev pub Behind : Inside → Bytes → ℕ → SoFar → List Placed → Option (List Label) → Outcome → Outcome → Type 0
Behind i bytes to s ps only (read s') o = (AllOccur only (since s s') × ReadsFrom i bytes to s' o)
    ⊎ ((ls : List Label) × (k place : ℕ) × (only ≡ Some ls) × IsMissing ls (since s s') k × IsStart ps (5 + 2 * k) place × (o ≡ wrong (wrong_at what.Selected i.path place) s'.left))
Behind i bytes to s ps only (wrong w left) o = o ≡ wrong w left
Behind i bytes to s ps only (needs p) o = o ≡ needs p

abbrev pub Rest : Inside → Bytes → SoFar → Part → Outcome → Type 0
Rest i bytes s over o = o ≡ read s
Rest i bytes s (broken w place) o = o ≡ wrong (wrong_at w i.path place) s.left
Rest i bytes s (statement (Clause l r ls) ps to) o = ((s' : SoFar) × Adds i l r ls s s' × ReadsFrom i bytes to s' o)
    ⊎ ((place : ℕ) × IsTooLarge i l ls s × IsStart ps 0 place × (o ≡ wrong (wrong_at what.TooLarge i.path place) s.left))
Rest i bytes s (statement (Include p only) ps to) o =
    (inner : Outcome) × ReadsFile (included i p only) s inner × Behind i bytes to s ps only inner o

pub record Seen (i : Inside) (bytes : Bytes) (at : ℕ) (s : SoFar) (o : Outcome) : Type 0 where
  pub part : Part
  pub is : IsPart (opens i) bytes at part
  pub rest : Rest i bytes s part o

stopped : (i : Inside) (bytes : Bytes) (to : ℕ) (s : SoFar) (ps : List Placed) (only : Option (List Label)) (o : Outcome) → IsStopped o
    → Behind i bytes to s ps only o o
stopped i bytes to s ps only (read s') stop = absurd stop
stopped i bytes to s ps only (wrong w left) stop = refl
stopped i bytes to s ps only (needs p) stop = refl

pub seen : (i : Inside) (bytes : Bytes) (at : ℕ) (s : SoFar) (o : Outcome) → ReadsFrom i bytes at s o → Seen i bytes at s o
seen _ _ _ _ _ (ends i bytes at s is) = record { part = over; is = is; rest = refl }
seen _ _ _ _ _ (breaks i bytes at s w place is) = record { part = broken w place; is = is; rest = refl }
seen _ _ _ _ _ (clause i bytes at to s s' o ps l r ls is adds more) =
    record { part = statement (Clause l r ls) ps to; is = is; rest = inl (s', adds, more) }
seen _ _ _ _ _ (too_large i bytes at to s ps l r ls place is large begins) =
    record { part = statement (Clause l r ls) ps to; is = is; rest = inr (place, large, begins, refl) }
seen _ _ _ _ _ (includes i bytes at to s s' o ps p only is inner all more) =
    record { part = statement (Include p only) ps to; is = is; rest = (read s', inner, inl (all, more)) }
seen _ _ _ _ _ (stops i bytes at to s o ps p only is inner stop) =
    record { part = statement (Include p only) ps to; is = is; rest = (o, inner, stopped i bytes to s ps only o stop) }
seen _ _ _ _ _ (misses i bytes at to s s' ps p ls k place is inner missing begins) =
    record { part = statement (Include p (Some ls)) ps to; is = is; rest = (read s', inner, inr (ls, k, place, refl, missing, begins, refl)) }

abbrev pub FileRest : Inside → SoFar → Outcome → Type 0
FileRest i s o = ((s.left ≡ []) × (o ≡ needs i.path))
    ⊎ ((bytes : Bytes) × (left : List File) × (s.left ≡ (i.path, bytes) ∷ left)
    × (((4194304 < s.used + length bytes) × (o ≡ wrong (wrong_at what.Long i.path 0) left))
    ⊎ ((s.used + length bytes ≤ 4194304) × ReadsFrom i bytes 0 (record s { left = left; used = s.used + length bytes }) o)))

pub seen_file : (i : Inside) (s : SoFar) (o : Outcome) → ReadsFile i s o → FileRest i s o
seen_file _ _ _ (unfetched i s none) = inl (none, refl)
seen_file _ _ _ (long i s bytes left some much) = inr (bytes, left, some, inl (much, refl))
seen_file _ _ _ (file i s bytes left o some few from) = inr (bytes, left, some, inr (few, from))

-- ---- no symbol twice

abbrev pub Keeps : Outcome → Type 0
Keeps (read s) = AreDistinct s.symbols
Keeps (wrong w left) = Unit {0}
Keeps (needs p) = Unit {0}

stop_keeps : (o : Outcome) → IsStopped o → Keeps o
stop_keeps (read s) stop = absurd stop
stop_keeps (wrong w left) stop = tt
stop_keeps (needs p) stop = tt

pub adds_keeps : (i : Inside) (l : Label) (r : Role) (ls : List TreeLiteral) (s s' : SoFar) → AreDistinct s.symbols → Adds i l r ls s s'
    → AreDistinct s'.symbols
adds_keeps i l r ls s s' distinct (within, inl (chosen, (c, symbols, gives, few, e))) =
    subst (λ (x : SoFar). AreDistinct x.symbols) (sym e) (clause_distinct s.symbols symbols ls c distinct gives)
adds_keeps i l r ls s s' distinct (within, inr (not, e)) = subst (λ (x : SoFar). AreDistinct x.symbols) (sym e) distinct

mutual
  pub file_keeps : (i : Inside) (s : SoFar) (o : Outcome) → ReadsFile i s o → AreDistinct s.symbols → Keeps o
  file_keeps _ _ _ (unfetched i s none) distinct = tt
  file_keeps _ _ _ (long i s bytes left some much) distinct = tt
  file_keeps _ _ _ (file i s bytes left o some few from) distinct = from_keeps i bytes 0 _ o from distinct

  from_keeps : (i : Inside) (bytes : Bytes) (at : ℕ) (s : SoFar) (o : Outcome) → ReadsFrom i bytes at s o → AreDistinct s.symbols → Keeps o
  from_keeps _ _ _ _ _ (ends i bytes at s is) distinct = distinct
  from_keeps _ _ _ _ _ (breaks i bytes at s w place is) distinct = tt
  from_keeps _ _ _ _ _ (clause i bytes at to s s' o ps l r ls is adds more) distinct =
      from_keeps i bytes to s' o more (adds_keeps i l r ls s s' distinct adds)
  from_keeps _ _ _ _ _ (too_large i bytes at to s ps l r ls place is large begins) distinct = tt
  from_keeps _ _ _ _ _ (includes i bytes at to s s' o ps p only is inner all more) distinct =
      from_keeps i bytes to s' o more (file_keeps (included i p only) s (read s') inner distinct)
  from_keeps _ _ _ _ _ (stops i bytes at to s o ps p only is inner stop) distinct = stop_keeps o stop
  from_keeps _ _ _ _ _ (misses i bytes at to s s' ps p ls k place is inner missing begins) distinct = tt

same_bytes : (p : List ℕ) (b c : Bytes) (l m : List File) → (p, b) ∷ l ≡ (p, c) ∷ m → b ≡ c
same_bytes p b c l m e = let pairs : (p, b) ≡ (p, c) = cc in ap (λ (x : File). x.1) pairs

-- ---- one outcome

mutual
  file_single : (i : Inside) (s : SoFar) (o : Outcome) → ReadsFile i s o → AreDistinct s.symbols → (o' : Outcome) → ReadsFile i s o'
      → o ≡ o'
  file_single _ _ _ (unfetched i s none) distinct o' d' = by (seen_file i s o' d')
    where
      by : FileRest i s o' → needs i.path ≡ o'
      by (inl (none', e)) = sym e
      by (inr (bytes, left, some, more)) = absurd (cc)
  file_single _ _ _ (long i s bytes left some much) distinct o' d' = by (seen_file i s o' d')
    where
      by : FileRest i s o' → wrong (wrong_at what.Long i.path 0) left ≡ o'
      by (inl (none', e)) = absurd (cc)
      by (inr (bytes', left', some', inl (much', e))) =
          let both = sym some ∙ some' in let lefts : left ≡ left' = cc in ap (wrong (wrong_at what.Long i.path 0)) lefts ∙ sym e
      by (inr (bytes', left', some', inr (few', from'))) =
          let both = sym some ∙ some' in let same : bytes ≡ bytes' = same_bytes i.path bytes bytes' left left' both in absurd (omega (arith, much, few', ap length same))
  file_single _ _ _ (file i s bytes left o some few from) distinct o' d' =
      by (from_single i bytes 0 _ o from distinct o') (seen_file i s o' d')
    where
      by : (ReadsFrom i bytes 0 (record s { left = left; used = s.used + length bytes }) o' → o ≡ o') → FileRest i s o' → o ≡ o'
      by recur (inl (none', e)) = absurd (cc)
      by recur (inr (bytes', left', some', inl (much', e))) =
          let both = sym some ∙ some' in let same : bytes ≡ bytes' = same_bytes i.path bytes bytes' left left' both in absurd (omega (arith, much', few, ap length same))
      by recur (inr (bytes', left', some', inr (few', from'))) =
          let both = sym some ∙ some' in
          let same : bytes' ≡ bytes = sym (same_bytes i.path bytes bytes' left left' both) in
          let lefts : left' ≡ left = cc in
          recur (subst (λ (x : List File). ReadsFrom i bytes 0 (record s { left = x; used = s.used + length bytes }) o') lefts
          (subst (λ (b : Bytes). ReadsFrom i b 0 (record s { left = left'; used = s.used + length b }) o') same from'))

  from_single : (i : Inside) (bytes : Bytes) (at : ℕ) (s : SoFar) (o : Outcome) → ReadsFrom i bytes at s o → AreDistinct s.symbols
      → (o' : Outcome) → ReadsFrom i bytes at s o' → o ≡ o'
  from_single _ _ _ _ _ (ends i bytes at s is) distinct o' d' =
      let v = seen i bytes at s o' d' in
      sym (subst (λ (x : Part). Rest i bytes s x o') (part_single (opens i) bytes at v.part over v.is is) v.rest)
  from_single _ _ _ _ _ (breaks i bytes at s w place is) distinct o' d' =
      let v = seen i bytes at s o' d' in
      sym (subst (λ (x : Part). Rest i bytes s x o') (part_single (opens i) bytes at v.part (broken w place) v.is is) v.rest)
  from_single _ _ _ _ _ (clause i bytes at to s s' o ps l r ls is adds more) distinct o' d' =
      let v = seen i bytes at s o' d' in
      by (from_single i bytes to s' o more (adds_keeps i l r ls s s' distinct adds) o')
      (subst (λ (x : Part). Rest i bytes s x o') (part_single (opens i) bytes at v.part (statement (Clause l r ls) ps to) v.is is) v.rest)
    where
      by : (ReadsFrom i bytes to s' o' → o ≡ o') → Rest i bytes s (statement (Clause l r ls) ps to) o' → o ≡ o'
      by recur (inl (s'', adds', more')) =
          recur (subst (λ (x : SoFar). ReadsFrom i bytes to x o') (sym (adds_single i l r ls s s' s'' distinct adds adds')) more')
      by recur (inr (place, large, begins, e)) = absurd (adds_small i l r ls s s' distinct adds large)
  from_single _ _ _ _ _ (too_large i bytes at to s ps l r ls place is large begins) distinct o' d' =
      let v = seen i bytes at s o' d' in
      by (subst (λ (x : Part). Rest i bytes s x o') (part_single (opens i) bytes at v.part (statement (Clause l r ls) ps to) v.is is) v.rest)
    where
      by : Rest i bytes s (statement (Clause l r ls) ps to) o' → wrong (wrong_at what.TooLarge i.path place) s.left ≡ o'
      by (inl (s'', adds', more')) = absurd (adds_small i l r ls s s'' distinct adds' large)
      by (inr (place', large', begins', e)) =
          ap (λ (x : ℕ). wrong (wrong_at what.TooLarge i.path x) s.left) (start_single ps 0 place place' begins begins') ∙ sym e
  from_single _ _ _ _ _ (includes i bytes at to s s' o ps p only is inner all more) distinct o' d' =
      let v = seen i bytes at s o' d' in
      let r : Rest i bytes s (statement (Include p only) ps to) o' = subst (λ (x : Part). Rest i bytes s x o') (part_single (opens i) bytes at v.part (statement (Include p only) ps to) v.is is) v.rest in
      let inners : read s' ≡ r.0 = file_single (included i p only) s (read s') inner distinct r.0 r.1 in
      by (from_single i bytes to s' o more (file_keeps (included i p only) s (read s') inner distinct) o') only all
      (subst (λ (x : Outcome). Behind i bytes to s ps only x o') (sym inners) r.2)
    where
      by : (ReadsFrom i bytes to s' o' → o ≡ o') → (only : Option (List Label)) → AllOccur only (since s s')
          → Behind i bytes to s ps only (read s') o' → o ≡ o'
      by recur only' all' (inl (also, more')) = recur more'
      by recur None all' (inr (ls, k, place, e, missing, begins, f)) = absurd (cc)
      by recur (Some ms) all' (inr (ls, k, place, e, missing, begins, f)) =
          let same : ms ≡ ls = cc in
          absurd (missing.0.2 (occurs_all ls (since s s') k missing.0.0 (subst (λ (x : List Label). AllByRecursion (λ y. Contains (since s s') y) x) same all') missing.0.1))
  from_single _ _ _ _ _ (stops i bytes at to s o ps p only is inner stop) distinct o' d' =
      let v = seen i bytes at s o' d' in
      let r : Rest i bytes s (statement (Include p only) ps to) o' = subst (λ (x : Part). Rest i bytes s x o') (part_single (opens i) bytes at v.part (statement (Include p only) ps to) v.is is) v.rest in
      let inners : o ≡ r.0 = file_single (included i p only) s o inner distinct r.0 r.1 in
      by o stop (subst (λ (x : Outcome). Behind i bytes to s ps only x o') (sym inners) r.2)
    where
      by : (x : Outcome) → IsStopped x → Behind i bytes to s ps only x o' → x ≡ o'
      by (read s') stop' b = absurd stop'
      by (wrong w left) stop' b = sym b
      by (needs q) stop' b = sym b
  from_single _ _ _ _ _ (misses i bytes at to s s' ps p ls k place is inner missing begins) distinct o' d' =
      let v = seen i bytes at s o' d' in
      let r : Rest i bytes s (statement (Include p (Some ls)) ps to) o' = subst (λ (x : Part). Rest i bytes s x o') (part_single (opens i) bytes at v.part (statement (Include p (Some ls)) ps to) v.is is) v.rest in
      let inners : read s' ≡ r.0 = file_single (included i p (Some ls)) s (read s') inner distinct r.0 r.1 in
      by (subst (λ (x : Outcome). Behind i bytes to s ps (Some ls) x o') (sym inners) r.2)
    where
      by : Behind i bytes to s ps (Some ls) (read s') o' → wrong (wrong_at what.Selected i.path place) s'.left ≡ o'
      by (inl (also, more')) = absurd (missing.0.2 (occurs_all ls (since s s') k missing.0.0 also missing.0.1))
      by (inr (ms, j, place', e, missing', begins', f)) =
          let same : ms ≡ ls = cc in
          let numbers : k ≡ j = missing_single ls (since s s') k j missing (subst (λ (x : List Label). IsMissing x (since s s') j) same missing') in
          let places : place ≡ place' = start_single ps (5 + 2 * k) place place' begins (subst (λ (n : ℕ). IsStart ps (5 + 2 * n) place') (sym numbers) begins') in
          ap (λ (x : ℕ). wrong (wrong_at what.Selected i.path x) s'.left) places ∙ sym f

pub outcome_single : (i : Inside) (s : SoFar) (o o' : Outcome) → AreDistinct s.symbols → ReadsFile i s o → ReadsFile i s o' → o ≡ o'
outcome_single i s o o' distinct d d' = file_single i s o d distinct o' d'

pub none_distinct : AreDistinct []
none_distinct m n s p q = absurd (cc)

pub symbols_distinct : (files : List File) (path : List ℕ) (p : Problem) → GivesProblem files path p → AreDistinct p.symbols
symbols_distinct files path p g = file_keeps (start path) (nothing_read files) _ g.reads none_distinct
