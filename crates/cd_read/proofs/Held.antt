-- What a library holds decides what reading comes to.
use Rattle.std.proofs.Common.{◌≡◌, ◌⊎◌, inl, inr, ◌∙◌, ◌+◌, ◌*◌, ◌<◌, ◌≤◌, ◌++◌, ◌∷◌, [], ℕ, List, Option, Some, None, length, refl, sym, ap, subst, arith}
use Rattle.std.proofs.lemmas.List.Sums.{sum_by-cons}
use Rattle.std.specs.Prelude.{Contains, Result, Ok, Err}
use Rattle.cd_read.specs.Files.{Reads}
use Rattle.std.specs.List.{AllByRecursion}
use Rattle.cd_symbols.specs.Symbol.{AreDistinct}
use Rattle.cd_lex.specs.Bytes.{Bytes}
use Rattle.cd_parse.specs.declared.tree.TreeLiteral.{TreeLiteral}
use Rattle.cd_parse.specs.declared.label.Label.{Label}
use Rattle.cd_parse.specs.declared.label.Role.{Role}
use Rattle.cd_parse.specs.declared.label.What.TheVariants as what
use Rattle.cd_read.specs.declared.problem.Problem.{Problem}
use Rattle.cd_read.specs.declared.problem.Wrong.{Wrong}
use Rattle.cd_parse.specs.declared.statement.Statement.TheVariants.{Clause, Include}
use Rattle.cd_parse.specs.Parts.{Part, statement, over, broken}
use Rattle.cd_read.specs.Files.{File, SoFar, Outcome, read, wrong, needs, Inside, opens, included, Adds, IsStart, IsMissing, AllOccur, since, wrong_at, IsStopped, ReadsFile, unfetched, long, file, ReadsFrom, ends, breaks, clause, too_large, includes, stops, misses, start, nothing_read, GivesProblem, HasFault}
use Rattle.cd_parse.proofs.OnePart.{part_single}
use Rattle.cd_read.specs.Fetched.{Holds, Told, AreWhole, EndsLong, GaveWrong, IsWholeFile, IsLongFile, total}
use Rattle.cd_read.specs.Laws.{AreHeld, AreTold}
use Rattle.cd_read.proofs.Outcomes.{start_single, missing_single, occurs_all, adds_single, adds_small, adds_keeps, Behind, Rest, seen, FileRest, seen_file, file_keeps, none_distinct}

-- equal but for the files that are left
pub record Like (H : Holds) (s t : SoFar) : Type 0 where
  pub same : t ≡ record s { left = t.left }
  pub here : AreHeld H s.left
  pub there : AreTold H s.used t.left

-- nothing is said where a file is needed
abbrev pub Agree : Holds → Outcome → Outcome → Type 0
Agree H (read s) (read t) = Like H s t
Agree H (read s) (wrong w left) = ⊥
Agree H (read s) (needs p) = Unit {0}
Agree H (wrong v rest) (read t) = ⊥
Agree H (wrong v rest) (wrong w left) = v ≡ w
Agree H (wrong v rest) (needs p) = Unit {0}
Agree H (needs q) o = Unit {0}

needy : (H : Holds) (o : Outcome) (p : List ℕ) → Agree H o (needs p)
needy H (read s) p = tt
needy H (wrong w left) p = tt
needy H (needs q) p = tt

adds_move : (i : Inside) (l : Label) (r : Role) (ls : List TreeLiteral) (s s' : SoFar) (m : List File) → Adds i l r ls s s'
    → Adds i l r ls (record s { left = m }) (record s' { left = m })
adds_move i l r ls s s' m (within, inl (chosen, (c, symbols, gives, few, e))) =
    (within, inl (chosen, (c, symbols, gives, few, ap (λ (x : SoFar). record x { left = m }) e)))
adds_move i l r ls s s' m (within, inr (out, e)) = (within, inr (out, ap (λ (x : SoFar). record x { left = m }) e))

adds_left : (i : Inside) (l : Label) (r : Role) (ls : List TreeLiteral) (s s' : SoFar) → Adds i l r ls s s' → s'.left ≡ s.left
adds_left i l r ls s s' (within, inl (chosen, (c, symbols, gives, few, e))) = ap (λ (x : SoFar). x.left) e
adds_left i l r ls s s' (within, inr (out, e)) = ap (λ (x : SoFar). x.left) e

adds_used : (i : Inside) (l : Label) (r : Role) (ls : List TreeLiteral) (s s' : SoFar) → Adds i l r ls s s' → s'.used ≡ s.used
adds_used i l r ls s s' (within, inl (chosen, (c, symbols, gives, few, e))) = ap (λ (x : SoFar). x.used) e
adds_used i l r ls s s' (within, inr (out, e)) = ap (λ (x : SoFar). x.used) e

-- the first file of the one list and that of the other, where both are the next that is read
pub data Firsts (H : Holds) (p : List ℕ) (b c : Bytes) (used : ℕ) (rest : List File) : Type 0 where
  same : b ≡ c → AreTold H (used + length c) rest → Firsts H p b c used rest
  cut : 4194304 < used + length b → 4194304 < used + length c → Firsts H p b c used rest

firsts : (H : Holds) (p : List ℕ) (b c : Bytes) (used : ℕ) (xs ys l m : List File) → AreHeld H xs → AreTold H used ys → xs ≡ (p, b) ∷ l
    → ys ≡ (p, c) ∷ m → Firsts H p b c used m
firsts H p b c used xs ys l m held told e f = by (subst (AreTold H used) f told)
  where
    there : H p ≡ Some b
    there = (subst (AreHeld H) e held).0

    by : AreTold H used ((p, c) ∷ m) → Firsts H p b c used m
    by (inl (whole, rest)) = same (sym (subst (λ (o : Option Bytes). IsWholeFile o c) there whole)) rest
    by (inr (all, past)) = cut (subst (λ (o : Option Bytes). IsLongFile used o) there all) past

rest_held : (H : Holds) (f : File) (xs l : List File) → AreHeld H xs → xs ≡ f ∷ l → AreHeld H l
rest_held H f xs l held e = (subst (AreHeld H) e held).1

mutual
  pub file_agree : (H : Holds) (i : Inside) (s : SoFar) (o : Outcome) → ReadsFile i s o → AreDistinct s.symbols → AreHeld H s.left
      → (m : List File) → AreTold H s.used m → (o' : Outcome)
      → ReadsFile i (record s { left = m }) o' → Agree H o o'
  file_agree H _ _ _ (unfetched i s empty) distinct held m held' o' d' = tt
  file_agree H _ _ _ (long i s bytes left some much) distinct held m held' o' d' = by (seen_file i (record s { left = m }) o' d')
    where
      few : (bytes' : Bytes) (left' : List File) → s.used + length bytes' ≤ 4194304 → Firsts H i.path bytes bytes' s.used left' → ⊥
      few bytes' left' few' (same e rest) = omega (arith, much, few', ap length e)
      few bytes' left' few' (cut past past') = omega (arith, past', few')

      by : FileRest i (record s { left = m }) o' → Agree H (wrong (wrong_at what.Long i.path 0) left) o'
      by (inl (empty, e)) = subst (Agree H (wrong (wrong_at what.Long i.path 0) left)) (sym e) tt
      by (inr (bytes', left', some', inl (much', e))) = subst (Agree H (wrong (wrong_at what.Long i.path 0) left)) (sym e) refl
      by (inr (bytes', left', some', inr (few', from'))) =
          absurd (few bytes' left' few' (firsts H i.path bytes bytes' s.used s.left m left left' held held' some some'))
  file_agree H _ _ _ (file i s bytes left o some few from) distinct held m held' o' d' =
      by (λ n h x. from_agree H i bytes 0 (record s { left = left; used = s.used + length bytes }) o from distinct (rest_held H (i.path, bytes) s.left left held some) n h o' x)
      (seen_file i (record s { left = m }) o' d')
    where
      Recurs : Type 0
      Recurs = (n : List File) → AreTold H (s.used + length bytes) n → ReadsFrom i bytes 0 (record s { left = n; used = s.used + length bytes }) o' → Agree H o o'

      much_past : (bytes' : Bytes) (left' : List File) → 4194304 < s.used + length bytes' → Firsts H i.path bytes bytes' s.used left' → ⊥
      much_past bytes' left' much' (same e rest) = omega (arith, much', few, ap length e)
      much_past bytes' left' much' (cut past past') = omega (arith, past, few)

      on : Recurs → (bytes' : Bytes) (left' : List File) → ReadsFrom i bytes' 0 (record s { left = left'; used = s.used + length bytes' }) o'
          → Firsts H i.path bytes bytes' s.used left' → Agree H o o'
      on recur bytes' left' from' (same e rest) =
          recur left' (subst (λ (b : Bytes). AreTold H (s.used + length b) left') (sym e) rest)
          (subst (λ (b : Bytes). ReadsFrom i b 0 (record s { left = left'; used = s.used + length b }) o') (sym e) from')
      on recur bytes' left' from' (cut past past') = absurd (omega (arith, past, few))

      by : Recurs → FileRest i (record s { left = m }) o' → Agree H o o'
      by recur (inl (empty, e)) = subst (Agree H o) (sym e) (needy H o i.path)
      by recur (inr (bytes', left', some', inl (much', e))) =
          absurd (much_past bytes' left' much' (firsts H i.path bytes bytes' s.used s.left m left left' held held' some some'))
      by recur (inr (bytes', left', some', inr (few', from'))) =
          on recur bytes' left' from' (firsts H i.path bytes bytes' s.used s.left m left left' held held' some some')

  from_agree : (H : Holds) (i : Inside) (bytes : Bytes) (at : ℕ) (s : SoFar) (o : Outcome) → ReadsFrom i bytes at s o
      → AreDistinct s.symbols → AreHeld H s.left → (m : List File) → AreTold H s.used m
      → (o' : Outcome) → ReadsFrom i bytes at (record s { left = m }) o' → Agree H o o'
  from_agree H _ _ _ _ _ (ends i bytes at s is) distinct held m held' o' d' =
      let v = seen i bytes at (record s { left = m }) o' d' in
      let e = subst (λ (x : Part). Rest i bytes (record s { left = m }) x o') (part_single (opens i) bytes at v.part over v.is is) v.rest in
      subst (Agree H (read s)) (sym e) (record { same = refl; here = held; there = held' })
  from_agree H _ _ _ _ _ (breaks i bytes at s w place is) distinct held m held' o' d' =
      let v = seen i bytes at (record s { left = m }) o' d' in
      let e = subst (λ (x : Part). Rest i bytes (record s { left = m }) x o') (part_single (opens i) bytes at v.part (broken w place) v.is is) v.rest in
      subst (Agree H (wrong (wrong_at w i.path place) s.left)) (sym e) refl
  from_agree H _ _ _ _ _ (clause i bytes at to s s' o ps l r ls is adds more) distinct held m held' o' d' =
      let v = seen i bytes at (record s { left = m }) o' d' in
      by (λ x. from_agree H i bytes to s' o more (adds_keeps i l r ls s s' distinct adds) (subst (AreHeld H) (sym (adds_left i l r ls s s' adds)) held) m
      (subst (λ (n : ℕ). AreTold H n m) (sym (adds_used i l r ls s s' adds)) held') o' x)
      (subst (λ (x : Part). Rest i bytes (record s { left = m }) x o') (part_single (opens i) bytes at v.part (statement (Clause l r ls) ps to) v.is is) v.rest)
    where
      by : (ReadsFrom i bytes to (record s' { left = m }) o' → Agree H o o')
          → Rest i bytes (record s { left = m }) (statement (Clause l r ls) ps to) o' → Agree H o o'
      by recur (inl (s'', adds', more')) =
          recur (subst (λ (x : SoFar). ReadsFrom i bytes to x o') (adds_single i l r ls (record s { left = m }) s'' (record s' { left = m }) distinct adds' (adds_move i l r ls s s' m adds)) more')
      by recur (inr (place, large, begins, e)) = absurd (adds_small i l r ls s s' distinct adds large)
  from_agree H _ _ _ _ _ (too_large i bytes at to s ps l r ls place is large begins) distinct held m held' o' d' =
      let v = seen i bytes at (record s { left = m }) o' d' in
      by (subst (λ (x : Part). Rest i bytes (record s { left = m }) x o') (part_single (opens i) bytes at v.part (statement (Clause l r ls) ps to) v.is is) v.rest)
    where
      by : Rest i bytes (record s { left = m }) (statement (Clause l r ls) ps to) o'
          → Agree H (wrong (wrong_at what.TooLarge i.path place) s.left) o'
      by (inl (s'', adds', more')) = absurd (adds_small i l r ls (record s { left = m }) s'' distinct adds' large)
      by (inr (place', large', begins', e)) =
          subst (Agree H (wrong (wrong_at what.TooLarge i.path place) s.left)) (sym e)
          (ap (wrong_at what.TooLarge i.path) (start_single ps 0 place place' begins begins'))
  from_agree H _ _ _ _ _ (includes i bytes at to s s' o ps p only is inner all more) distinct held m held' o' d' =
      let v = seen i bytes at (record s { left = m }) o' d' in
      let r : Rest i bytes (record s { left = m }) (statement (Include p only) ps to) o' =
      subst (λ (x : Part). Rest i bytes (record s { left = m }) x o')
      (part_single (opens i) bytes at v.part (statement (Include p only) ps to) v.is is) v.rest in
      by (λ here n h x. from_agree H i bytes to s' o more (file_keeps (included i p only) s (read s') inner distinct) here n h o' x) only all r.0
      (file_agree H (included i p only) s (read s') inner distinct held m held' r.0 r.1) r.2
    where
      by : (AreHeld H s'.left → (n : List File) → AreTold H s'.used n → ReadsFrom i bytes to (record s' { left = n }) o' → Agree H o o')
          → (only : Option (List Label)) → AllOccur only (since s s') → (x : Outcome)
          → Agree H (read s') x → Behind i bytes to (record s { left = m }) ps only x o' → Agree H o o'
      by recur only' all' (read t) like (inl (also, more')) =
          recur like.here t.left like.there (subst (λ (x : SoFar). ReadsFrom i bytes to x o') like.same more')
      by recur None all' (read t) like (inr (ls, k, place, e, missing, begins, f)) = absurd (cc)
      by recur (Some ms) all' (read t) like (inr (ls, k, place, e, missing, begins, f)) =
          let same : ms ≡ ls = cc in
          let missing' : IsMissing ls (since s s') k = subst (λ (x : SoFar). IsMissing ls (since s x) k) like.same missing in
          absurd (missing'.0.2 (occurs_all ls (since s s') k missing'.0.0 (subst (λ (x : List Label). AllByRecursion (λ y. Contains (since s s') y) x) same all') missing'.0.1))
      by recur only' all' (wrong w left) like b = absurd like
      by recur only' all' (needs q) like b = subst (Agree H o) (sym b) (needy H o q)
  from_agree H _ _ _ _ _ (stops i bytes at to s o ps p only is inner stop) distinct held m held' o' d' =
      let v = seen i bytes at (record s { left = m }) o' d' in
      let r : Rest i bytes (record s { left = m }) (statement (Include p only) ps to) o' =
      subst (λ (x : Part). Rest i bytes (record s { left = m }) x o')
      (part_single (opens i) bytes at v.part (statement (Include p only) ps to) v.is is) v.rest in
      by o stop r.0 (file_agree H (included i p only) s o inner distinct held m held' r.0 r.1) r.2
    where
      by : (y : Outcome) → IsStopped y → (x : Outcome) → Agree H y x → Behind i bytes to (record s { left = m }) ps only x o' → Agree H y o'
      by (read s') stop' x like b = absurd stop'
      by (needs q) stop' x like b = tt
      by (wrong w left) stop' (read t) like b = absurd like
      by (wrong w left) stop' (wrong w' left') like b = subst (Agree H (wrong w left)) (sym b) like
      by (wrong w left) stop' (needs q) like b = subst (Agree H (wrong w left)) (sym b) tt
  from_agree H _ _ _ _ _ (misses i bytes at to s s' ps p ls k place is inner missing begins) distinct held m held' o' d' =
      let v = seen i bytes at (record s { left = m }) o' d' in
      let r : Rest i bytes (record s { left = m }) (statement (Include p (Some ls)) ps to) o' =
      subst (λ (x : Part). Rest i bytes (record s { left = m }) x o')
      (part_single (opens i) bytes at v.part (statement (Include p (Some ls)) ps to) v.is is) v.rest in
      by r.0 (file_agree H (included i p (Some ls)) s (read s') inner distinct held m held' r.0 r.1) r.2
    where
      by : (x : Outcome) → Agree H (read s') x → Behind i bytes to (record s { left = m }) ps (Some ls) x o'
          → Agree H (wrong (wrong_at what.Selected i.path place) s'.left) o'
      by (read t) like (inl (also, more')) =
          let also' : AllOccur (Some ls) (since s s') = subst (λ (x : SoFar). AllOccur (Some ls) (since s x)) like.same also in
          absurd (missing.0.2 (occurs_all ls (since s s') k missing.0.0 also' missing.0.1))
      by (read t) like (inr (ms, j, place', e, missing', begins', f)) =
          let same : ms ≡ ls = cc in
          let moved : IsMissing ms (since s s') j = subst (λ (x : SoFar). IsMissing ms (since s x) j) like.same missing' in
          let numbers : k ≡ j = missing_single ls (since s s') k j missing (subst (λ (x : List Label). IsMissing x (since s s') j) same moved) in
          let places : place ≡ place' = start_single ps (5 + 2 * k) place place' begins (subst (λ (n : ℕ). IsStart ps (5 + 2 * n) place') (sym numbers) begins') in
          subst (Agree H (wrong (wrong_at what.Selected i.path place) s'.left)) (sym f) (ap (wrong_at what.Selected i.path) places)
      by (wrong w left) like b = absurd like
      by (needs q) like b = subst (Agree H (wrong (wrong_at what.Selected i.path place) s'.left)) (sym b) tt

-- ---- the laws

held_problems : (H : Holds) (files files' : List File) (path : List ℕ) (p q : Problem) → AreHeld H files → AreTold H 0 files'
    → GivesProblem files path p → GivesProblem files' path q → p ≡ q
held_problems H files files' path p q held told a b =
    let like = file_agree H (start path) (nothing_read files) _ a.reads none_distinct held files' told _ b.reads in
    let names : p.name ≡ q.name = a.name ∙ sym b.name in
    let same = like.same in
    λ i. record { name = names i; symbols = (sym same i).symbols; inputs = (sym same i).inputs }

held_faults : (H : Holds) (files files' : List File) (path : List ℕ) (v w : Wrong) → AreHeld H files → AreTold H 0 files'
    → HasFault files path v → HasFault files' path w → v ≡ w
held_faults H files files' path v w held told a b =
    file_agree H (start path) (nothing_read files) (wrong v []) a none_distinct held files' told (wrong w []) b

held_problem_apart : (H : Holds) (files files' : List File) (path : List ℕ) (p : Problem) (w : Wrong) → AreHeld H files
    → AreTold H 0 files' → GivesProblem files path p → ¬ HasFault files' path w
held_problem_apart H files files' path p w held told a b =
    file_agree H (start path) (nothing_read files) _ a.reads none_distinct held files' told (wrong w []) b

held_fault_apart : (H : Holds) (files files' : List File) (path : List ℕ) (w : Wrong) (p : Problem) → AreHeld H files
    → AreTold H 0 files' → HasFault files path w → ¬ GivesProblem files' path p
held_fault_apart H files files' path w p held told a b =
    file_agree H (start path) (nothing_read files) (wrong w []) a none_distinct held files' told _ b.reads

pub held_readings : (H : Holds) (files files' : List File) (path : List ℕ) (r q : Result Problem Wrong) → AreHeld H files
    → AreTold H 0 files' → Reads files path r → Reads files' path q → r ≡ q
held_readings H files files' path (Ok p) (Ok q) held told a b =
    ap (λ (x : Problem). Ok x) (held_problems H files files' path p q held told a b)
held_readings H files files' path (Ok p) (Err w) held told a b = absurd (held_problem_apart H files files' path p w held told a b)
held_readings H files files' path (Err v) (Ok q) held told a b = absurd (held_fault_apart H files files' path v q held told a b)
held_readings H files files' path (Err v) (Err w) held told a b =
    ap (λ (x : Wrong). Err x) (held_faults H files files' path v w held told a b)

-- ---- what calls say that they were told

pub whole_told : (H : Holds) (used : ℕ) (files : List File) → AreWhole H files → AreTold H used files
whole_told H used [] whole = tt
whole_told H used (f ∷ files) whole = inl (whole.0, whole_told H (used + length f.1) files whole.1)

cut_told : (H : Holds) (used : ℕ) (front : List File) (p : List ℕ) (bytes : Bytes) → AreWhole H front → IsLongFile (used + total front) (H p)
    → 4194304 < used + total front + length bytes → AreTold H used (front ++ (p, bytes) ∷ [])
cut_told H used [] p bytes whole all past =
    inr (subst (λ (n : ℕ). IsLongFile n (H p)) (omega arith) all, omega (arith, past))
cut_told H used (f ∷ front) p bytes whole all past =
    let sums : used + total (f ∷ front) ≡ used + length f.1 + total front = omega (arith, sum_by-cons (λ (x : File). length x.1) f front) in
    inl (whole.0, cut_told H (used + length f.1) front p bytes whole.1 (subst (λ (n : ℕ). IsLongFile n (H p)) sums all) (omega (arith, past, sums)))

pub fault_told : (H : Holds) (used : ℕ) (before now : Told) (w : Wrong) (files : List File) → GaveWrong H used before now w files
    → AreTold H used files
fault_told H used before now w files gave = by gave.whole
  where
    by : AreWhole H files ⊎ EndsLong H used w files → AreTold H used files
    by (inl whole) = whole_told H used files whole
    by (inr (front, p, bytes, split, whole, is, all, past)) = subst (AreTold H used) (sym split) (cut_told H used front p bytes whole all past)
