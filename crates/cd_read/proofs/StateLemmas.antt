-- One step of reading, from what a statement comes to.
use Rattle.std.proofs.Common.{◌≡◌, inl, ◌∙◌, ◌+◌, ◌-◌, ◌*◌, ◌<◌, ◌++◌, ◌∷◌, [], ℕ, zero, suc, true, List, Option, Some, None, Result, Ok, Err, length, map, get_or, slice_get, codes, refl, sym, ap, subst, arith, length-append}
use Rattle.std.proofs.lemmas.List.{length-map}
use Rattle.std.proofs.lemmas.Option.{slice_get_within, slice_get-get_or}
use Rattle.cd_lex.specs.Bytes.{Bytes}
use Rattle.cd_parse.specs.declared.terminal.Terminal.TheVariants.{Word, Sign}
use Rattle.cd_parse.specs.declared.terminal.Sign.TheVariants.{Left, Right, OpenSquare, CloseSquare, Comma, Dot}
use Rattle.cd_parse.specs.declared.tree.TreeLiteral.{TreeLiteral}
use Rattle.cd_parse.specs.declared.label.Label.{Label}
use Rattle.cd_parse.specs.declared.label.Role.{Role}
use Rattle.cd_parse.specs.declared.label.What.TheVariants as what
use Rattle.cd_parse.specs.declared.part.Progress.{Progress}
use Rattle.cd_parse.specs.declared.part.Found.{Found}
use Rattle.cd_parse.specs.declared.part.Found.TheVariants as found
use Rattle.cd_parse.specs.declared.part.PartFault.{PartFault}
use Rattle.cd_parse.specs.declared.part.PartFault.TheVariants as part_failure
use Rattle.cd_read.specs.declared.problem.Wrong.{Wrong}
use Rattle.cd_parse.specs.declared.statement.Statement.{Statement}
use Rattle.cd_parse.specs.declared.statement.Statement.TheVariants.{Clause, Include}
use Rattle.cd_parse.specs.Grammar.{Terminals}
use Rattle.cd_parse.specs.Statements.{AreLabels, last, further, IsStatement, clause, whole, listed, keyword}
use Rattle.cd_parse.specs.Parts.{Opens, Placed, terminals, statement, broken, over, IsPart, PathMay, MayInclude}
use Rattle.cd_parse.specs.Reading.{IsRead}
use Rattle.cd_read.specs.Files.{File, SoFar, Outcome, read, wrong, needs, Inside, opens, included, IsStart, IsMissing, AllOccur, ReadsFrom, ReadsFile, ends, breaks, too_large, wrong_at}
use Rattle.cd_read.specs.Files as files
use Rattle.cd_read.specs.declared.state.State.{State}
use Rattle.cd_read.specs.declared.state.Next.{Next}
use Rattle.cd_read.specs.declared.state.Next.TheVariants as next
use Rattle.cd_read.specs.declared.reader.ReadFault.{ReadFault}
use Rattle.cd_read.specs.declared.reader.ReadFault.TheVariants as failure
use Rattle.cd_read.specs.States.{so_far, IsWrongAt, IsPartFault, CameClause, HasPlaces, Nexts, Listed}
use Rattle.cd_read.proofs.LabelLemmas.{at_last}

-- ---- places

pub start_at : (ps : List Placed) (k at : ℕ) → slice_get (map (λ p. p.start) ps) k ≡ Some at → IsStart ps k at
start_at [] k at e = absurd (cc)
start_at (p ∷ ps) zero at e = (p, refl, cc)
start_at (p ∷ ps) (suc k) at e = start_at ps k at e

some_tokens : (ts : Terminals) (s : Statement) → IsStatement ts s → 0 < length ts
some_tokens _ _ (clause t l r ts ns ls a b c) = omega arith
some_tokens _ _ (whole p) = omega arith
some_tokens _ _ (listed p ts ls a) = omega arith

labels_length : (ts : Terminals) (ls : List Label) → AreLabels ts ls → length ts + 1 ≡ 2 * length ls
labels_length _ _ (last t l a) = refl
labels_length _ _ (further t l ts ls a rest) = omega (arith, labels_length ts ls rest)

-- the path of a list is last
pub path_is : (os : Opens) (i : Inside) (path : List ℕ) → os ≡ opens i → slice_get os (length os - 1) ≡ Some path → path ≡ i.path
path_is os i path same at =
    let n : length os - 1 ≡ length i.around = omega (arith, ap length same, length-append i.around (i.path ∷ [])) in
    let there : Some path ≡ Some i.path = sym at ∙ ap (slice_get os) n ∙ ap (λ (o : Opens). slice_get o (length i.around)) same ∙ at_last i.around i.path in
    cc

-- ---- an include

places_in : (ts : Terminals) (s : Statement) (p : List ℕ) (only : Option (List Label)) (starts : List ℕ) → IsStatement ts s
    → s ≡ Include p only → length starts ≡ length ts → HasPlaces only starts
places_in _ _ p only starts (clause t l r ts ns ls a b c) e n = absurd (cc)
places_in _ _ p only starts (whole q) e n = let same : None ≡ only = cc in subst (λ (o : Option (List Label)). HasPlaces o starts) same tt
places_in _ _ p only starts (listed q ts ls are) e n =
    let same : Some ls ≡ only = cc in
    subst (λ (o : Option (List Label)). HasPlaces o starts) same
    (λ k lt. omega (arith, n, lt, labels_length ts ls are, length-append ts (Sign CloseSquare ∷ Sign Right ∷ Sign Dot ∷ [])))

may_in : (os : Opens) (ts : Terminals) (s : Statement) (p : List ℕ) (only : Option (List Label)) → IsStatement ts s → PathMay os ts
    → s ≡ Include p only → MayInclude os p
may_in os _ _ p only (clause t l r ts ns ls a b c) m e = absurd (cc)
may_in os _ _ p only (whole q) m e =
    let same : q ≡ p = cc in
    subst (MayInclude os) same (m.may (keyword (codes "include") ∷ Sign Left ∷ []) (Sign Right ∷ Sign Dot ∷ []) (Word true q) q refl (refl, refl))
may_in os _ _ p only (listed q ts ls are) m e =
    let same : q ≡ p = cc in
    subst (MayInclude os) same
    (m.may (keyword (codes "include") ∷ Sign Left ∷ []) (Sign Comma ∷ Sign OpenSquare ∷ (ts ++ Sign CloseSquare ∷ Sign Right ∷ Sign Dot ∷ [])) (Word true q) q refl (refl, refl))

-- ---- the next part

pub next_fault : (i : Inside) (os : Opens) (bytes : Bytes) (at : ℕ) (q : Progress) (s s' : State) (f : PartFault) (path : List ℕ) (r : ReadFault) → os ≡ opens i →
    slice_get os (length os - 1) ≡ Some path → IsRead os bytes at q (Err f) → IsPartFault f path r → Nexts i bytes at q s s' (Err r)
unfolding IsRead Nexts
next_fault i os bytes at q s s' (part_failure.Wrong w place) path (failure.Wrong x) same there h is =
    let e : x ≡ wrong_at w i.path place = is ∙ ap (λ (p : List ℕ). wrong_at w p place) (path_is os i path same there) in
    λ left. subst (λ (y : Wrong). ReadsFrom i bytes at (so_far s left) (wrong y left)) (sym e)
    (breaks i bytes at (so_far s left) w place (subst (λ (o : Opens). IsPart o bytes at (broken w place)) same h))
next_fault i os bytes at q s s' (part_failure.Wrong w place) path (failure.Library p) same there h is = is
next_fault i os bytes at q s s' (part_failure.Wrong w place) path failure.Memory same there h is = tt
next_fault i os bytes at q s s' part_failure.Memory path r same there h is =
    subst (λ (x : ReadFault). Nexts i bytes at q s s' (Err x)) (sym is) tt

pub never_more : (os : Opens) (bytes : Bytes) (at : ℕ) (q : Progress) (f : Found) → f ≡ found.More → IsRead os bytes at q (Ok f) → ⊥
unfolding IsRead
never_more os bytes at q f e h = subst (λ (x : Found). IsRead os bytes at q (Ok x)) e h

pub next_over : (i : Inside) (os : Opens) (bytes : Bytes) (at : ℕ) (q : Progress) (s : State) (f : Found) → os ≡ opens i → f ≡ found.Over →
    IsRead os bytes at q (Ok f) → Nexts i bytes at q s s (Ok next.Over)
unfolding IsRead Nexts
next_over i os bytes at q s f same e h =
    (refl, subst (λ (o : Opens). IsPart o bytes at over) same (subst (λ (x : Found). IsRead os bytes at q (Ok x)) e h))

pub has_first : (os : Opens) (bytes : Bytes) (at : ℕ) (q : Progress) (s : Statement) → IsRead os bytes at q (Ok (found.Statement s))
    → 0 < length q.starts
unfolding IsRead
has_first os bytes at q s (ahead, (within, begin, (ps, places, part))) =
    omega (arith, ap length places, length-map ps (λ (p : Placed). p.start), length-map ps (λ (p : Placed). p.terminal), some_tokens (terminals ps) s part.1)

pub oversized_first : (os : Opens) (bytes : Bytes) (at : ℕ) (q : Progress) (f : Found) → f ≡ found.Oversized → IsRead os bytes at q (Ok f)
    → 0 < length q.starts
unfolding IsRead
oversized_first os bytes at q f e h =
    let (ahead, (l, r, ls, (within, begin, (ps, places, part)), much)) = subst (λ (x : Found). IsRead os bytes at q (Ok x)) e h in
    omega (arith, ap length places, length-map ps (λ (p : Placed). p.start), length-map ps (λ (p : Placed). p.terminal), some_tokens (terminals ps) (Clause l r ls) part.1)

-- a clause with too many words isn't within bounds
pub next_oversized : (i : Inside) (os : Opens) (bytes : Bytes) (at : ℕ) (q : Progress) (s s' : State) (f : Found) (path : List ℕ) (place : ℕ) (r : ReadFault) →
    os ≡ opens i → slice_get os (length os - 1) ≡ Some path → f ≡ found.Oversized → IsRead os bytes at q
    (Ok f) → slice_get q.starts 0 ≡ Some place → IsWrongAt what.TooLarge path place r →
    Nexts i bytes at q s s' (Err r)
unfolding IsRead Nexts
next_oversized i os bytes at q s s' f path place (failure.Wrong x) same there e h first is =
    let (ahead, (l, r, ls, (within, begin, (ps, places, part)), much)) = subst (λ (x : Found). IsRead os bytes at q (Ok x)) e h in
    let named : x ≡ wrong_at what.TooLarge i.path place = is ∙ ap (λ (p : List ℕ). wrong_at what.TooLarge p place) (path_is os i path same there) in
    λ left. subst (λ (y : Wrong). ReadsFrom i bytes at (so_far s left) (wrong y left)) (sym named)
    (too_large i bytes at q.at (so_far s left) ps l r ls place (subst (λ (x : Opens). IsPart x bytes at (statement (Clause l r ls) ps q.at)) same part)
    (inl (λ within. omega (arith, within.0, much)))
    (start_at ps 0 place (ap (λ (ss : List ℕ). slice_get ss 0) (sym places) ∙ first)))
next_oversized i os bytes at q s s' f path place (failure.Library p) same there e h first is = is
next_oversized i os bytes at q s s' f path place failure.Memory same there e h first is = tt

pub next_clause : (i : Inside) (os : Opens) (bytes : Bytes) (at : ℕ) (q : Progress) (s s' : State) (f : Found) (l : Label) (r : Role) (ls : List TreeLiteral) (place : ℕ) (res : Result Next ReadFault) →
    os ≡ opens i → f ≡ found.Statement (Clause l r ls) → IsRead os bytes at q (Ok f) → slice_get q.starts 0 ≡ Some place →
    CameClause i l r ls place s s' res → Nexts i bytes at q s s' res
unfolding IsRead Nexts
next_clause i os bytes at q s s' f l r ls place (Ok n) same e h first (is, used, adds) =
    let (ahead, (within, begin, (ps, places, part))) = subst (λ (x : Found). IsRead os bytes at q (Ok x)) e h in
    subst (λ (x : Next). Nexts i bytes at q s s' (Ok x)) (sym is) (
      used,
      (ahead, within, begin),
      λ left o rest. files.clause i bytes at q.at (so_far s left) (so_far s' left) o ps l r ls
          (subst (λ (x : Opens). IsPart x bytes at (statement (Clause l r ls) ps q.at)) same part) (adds left) rest,
    )
next_clause i os bytes at q s s' f l r ls place (Err (failure.Wrong w)) same e h first (is, large) =
    let (ahead, (within, begin, (ps, places, part))) = subst (λ (x : Found). IsRead os bytes at q (Ok x)) e h in
    λ left. subst (λ (y : Wrong). ReadsFrom i bytes at (so_far s left) (wrong y left)) (sym is)
    (too_large i bytes at q.at (so_far s left) ps l r ls place (subst (λ (x : Opens). IsPart x bytes at (statement (Clause l r ls) ps q.at)) same part) (large left)
    (start_at ps 0 place (ap (λ (ss : List ℕ). slice_get ss 0) (sym places) ∙ first)))
next_clause i os bytes at q s s' f l r ls place (Err (failure.Library p)) same e h first came = came
next_clause i os bytes at q s s' f l r ls place (Err failure.Memory) same e h first came = tt

pub next_include : (i : Inside) (os : Opens) (bytes : Bytes) (at : ℕ) (q : Progress) (s : State) (f : Found) (p : List ℕ) (only : Option (List Label)) →
    os ≡ opens i → f ≡ found.Statement (Include p only) → IsRead os bytes at q (Ok f) → Nexts i bytes at q s s (Ok (next.Include p only))
unfolding IsRead Nexts
next_include i os bytes at q s f p only same e h =
    let (ahead, (within, begin, (ps, places, part))) = subst (λ (x : Found). IsRead os bytes at q (Ok x)) e h in
    let here : IsPart (opens i) bytes at (statement (Include p only) ps q.at) = subst (λ (x : Opens). IsPart x bytes at (statement (Include p only) ps q.at)) same part in (
      refl,
      (ahead, within, begin),
      places_in (terminals ps) (Include p only) p only q.starts part.1 refl
          (omega (arith, ap length places, length-map ps (λ (x : Placed). x.start), length-map ps (λ (x : Placed). x.terminal))),
      (may_in (opens i) (terminals ps) (Include p only) p only here.1 here.2 refl).1,
      (ps, places, here),
    )

-- ---- a listed label that is missing

pub listed_missing : (only : Option (List Label)) (ls items since : List Label) (starts path : List ℕ) (k : ℕ) (f : ReadFault)
    → only ≡ Some ls → items ≡ ls → IsMissing items since k →
    HasPlaces only starts → IsWrongAt what.Selected path (get_or starts (5 + 2 * k) 0) f → Listed only since starts path (Err f)
listed_missing only ls items since starts path k (failure.Wrong x) is same missing places wrong_is =
    let here : IsMissing ls since k = subst (λ (l : List Label). IsMissing l since k) same missing in
    let (l, at, lacks) = here.0 in
    let lt : 5 + 2 * k < length starts = subst (λ (o : Option (List Label)). HasPlaces o starts) is places k (slice_get_within ls k l at) in
    (ls, k, get_or starts (5 + 2 * k) 0, is, here, slice_get-get_or starts (5 + 2 * k) 0 lt, wrong_is)
listed_missing only ls items since starts path k (failure.Library p) is same missing places wrong_is = wrong_is
listed_missing only ls items since starts path k failure.Memory is same missing places wrong_is = tt
