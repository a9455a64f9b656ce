-- Files read one within another: what was told, and what reading comes to.
use Rattle.std.proofs.Common.{◌≡◌, ◌⊎◌, inl, inr, ◌∙◌, ◌+◌, ◌*◌, ◌<◌, ◌≤◌, ◌++◌, ◌∷◌, [], ℕ, List, Option, Some, None, Result, Ok, Err, IfErr, OnOk, MatchOption, ◌↔◌, arith, length-append, length, drop, take, get_or, ◌-◌, slice_get, append_assoc, refl, sym, ap, subst}
use Rattle.std.proofs.lemmas.List.{append-nil, take_all, take_more}
use Rattle.std.proofs.lemmas.List.Sums.{sum_by-cons}
use Rattle.cd_outside.specs.Outside.{Gives}
use Rattle.cd_lex.specs.Bytes.{Bytes}
use Rattle.cd_parse.specs.declared.label.Label.{Label}
use Rattle.cd_parse.specs.declared.label.What.TheVariants as what
use Rattle.cd_parse.specs.declared.part.Progress.{Progress}
use Rattle.cd_read.specs.declared.problem.Wrong.{Wrong}
use Rattle.cd_parse.specs.declared.statement.Statement.TheVariants.{Include}
use Rattle.cd_parse.specs.Parts.{Opens, statement, IsPart}
use Rattle.cd_read.specs.Files.{File, SoFar, Outcome, read, wrong, needs, Inside, opens, included, AllOccur, IsMissing, ReadsFrom, ReadsFile, ends, includes, stops, misses, file, long, wrong_at, start, nothing_read, GivesProblem}
use Rattle.cd_read.specs.Files as files
use Rattle.cd_read.specs.declared.state.State.{State}
use Rattle.cd_read.specs.declared.state.Next.{Next}
use Rattle.cd_read.specs.declared.state.Next.TheVariants as next
use Rattle.cd_read.specs.declared.reader.ReadFault.{ReadFault}
use Rattle.cd_read.specs.declared.reader.ReadFault.TheVariants as failure
use Rattle.cd_read.specs.declared.labels.Wanted.{Wanted}
use Rattle.cd_read.specs.declared.labels.Wanted.TheVariants.{All, Listed}
use Rattle.cd_read.specs.Labels.{Wants}
use Rattle.cd_read.specs.States.{so_far, Ahead, Fetched, HasPlaces, Nexts, Listed as IsListed, CameFile, CameFrom, CameInclude, Took}
use Rattle.cd_read.specs.Fetched.{Told, IsOfLibrary, IsReadFrom, IsReadFault, Holds, AreWhole, total, EndsLong, GaveWhole, GaveWrong, IsWholeFile, IsLongFile}
use Rattle.cd_read.proofs.StateLemmas.{start_at}
use Rattle.cd_read.proofs.Spending.{gives_none, gives_append, total-append}

-- ---- whole files

abbrev Stays : Holds → Holds → Type 0
Stays old new = (p : List ℕ) → new p ≡ old p

whole_before : (old new : Holds) (files : List File) → Stays old new → AreWhole new files → AreWhole old files
whole_before old new [] stays w = tt
whole_before old new (f ∷ files) stays w =
    (subst (λ (o : Option Bytes). IsWholeFile o f.1) (stays f.0) w.0, whole_before old new files stays w.1)

whole_append : (holds : Holds) (xs ys : List File) → AreWhole holds xs → AreWhole holds ys → AreWhole holds (xs ++ ys)
whole_append holds [] ys v w = w
whole_append holds (x ∷ xs) ys v w = (v.0, whole_append holds xs ys v.1 w)

pub took_none : (holds : Holds) (used : ℕ) (told : Told) → Took holds used used told told []
took_none holds used told = record { told = gives_none told; whole = tt; sums = omega arith }

pub took_one : (holds : Holds) (used used' : ℕ) (before now : Told) (p : List ℕ) (bytes : Bytes) → Gives before now ((p, bytes) ∷ [])
    → IsWholeFile (holds p) bytes → used' ≡ used + length bytes → Took holds used used' before now ((p, bytes) ∷ [])
took_one holds used used' before now p bytes told whole is =
    record { told = told; whole = (whole, tt); sums = omega (arith, is, sum_by-cons (λ (f : File). length f.1) (p, bytes) []) }

pub took_append : (h k : Holds) (u v w : ℕ) (a b c : Told) (xs ys : List File) → Stays h k → Took h u v a b xs → Took k v w b c ys
    → Took h u w a c (xs ++ ys)
took_append h k u v w a b c xs ys stays s t = record {
  told = gives_append a b c xs ys s.told t.told;
  whole = whole_append h xs ys s.whole (whole_before h k ys stays t.whole);
  sums = omega (arith, s.sums, t.sums, total-append xs ys);
}

pub took_gave : (h k : Holds) (u v : ℕ) (a b c : Told) (xs ys : List File) → Stays h k → Took h u v a b xs → GaveWhole k b c ys
    → GaveWhole h a c (xs ++ ys)
took_gave h k u v a b c xs ys stays s t =
    record { told = gives_append a b c xs ys s.told t.told; whole = whole_append h xs ys s.whole (whole_before h k ys stays t.whole) }

pub took_wrong : (h k : Holds) (u v : ℕ) (a b c : Told) (w : Wrong) (xs ys : List File) → Stays h k → Took h u v a b xs
    → GaveWrong k v b c w ys → GaveWrong h u a c w (xs ++ ys)
took_wrong h k u v a b c w xs ys stays s t = record { told = gives_append a b c xs ys s.told t.told; whole = by t.whole }
  where
    by : AreWhole k ys ⊎ EndsLong k v w ys → AreWhole h (xs ++ ys) ⊎ EndsLong h u w (xs ++ ys)
    by (inl all) = inl (whole_append h xs ys s.whole (whole_before h k ys stays all))
    by (inr (front, p, bytes, split, all, is, much, over)) =
        let used : v + total front ≡ u + total (xs ++ front) = omega (arith, s.sums, total-append xs front) in
        inr (
          xs ++ front,
          p,
          bytes,
          ap (λ (l : List File). xs ++ l) split ∙ sym (append_assoc xs front ((p, bytes) ∷ [])),
          whole_append h xs front s.whole (whole_before h k front stays all),
          is,
          subst (λ (n : ℕ). IsLongFile n (h p)) used (subst (λ (o : Option Bytes). IsLongFile (v + total front) o) (stays p) much),
          omega (arith, over, used),
        )

pub took_whole : (h : Holds) (u v : ℕ) (a b : Told) (xs : List File) → Took h u v a b xs → GaveWhole h a b xs
took_whole h u v a b xs t = record { told = t.told; whole = t.whole }

pub took_well : (h : Holds) (u v : ℕ) (a b : Told) (w : Wrong) (xs : List File) → Took h u v a b xs → GaveWrong h u a b w xs
took_well h u v a b w xs t = record { told = t.told; whole = inl t.whole }

took_same : (h : Holds) (u v w : ℕ) (a b : Told) (xs : List File) → w ≡ v → Took h u v a b xs → Took h u w a b xs
took_same h u v w a b xs e t = record { told = t.told; whole = t.whole; sums = e ∙ t.sums }

-- ---- a file that is read so far

pub record Begun (i : Inside) (h : Holds) (bytes : Bytes) (from : ℕ) (s₀ : State) (before : Told) (at : ℕ) (s : State)
    (now : Told) : Type 0 where
  pub given : List File
  pub told : Took h s₀.used s.used before now given
  pub extends : (left : List File) (o : Outcome) → ReadsFrom i bytes at (so_far s left) o
      → ReadsFrom i bytes from (so_far s₀ (given ++ left)) o

pub begun_none : (i : Inside) (h : Holds) (bytes : Bytes) (at : ℕ) (s : State) (now : Told) → Begun i h bytes at s now at s now
begun_none i h bytes at s now = record { given = []; told = took_none h s.used now; extends = λ left o r. r }

pub begun_clause : (i : Inside) (hs : Holds) (bytes : Bytes) (from at : ℕ) (s₀ s s' : State) (before now : Told) (q : Progress) (n : Next)
    → n ≡ next.Clause →
    Begun i hs bytes from s₀ before at s now → Nexts i bytes at q s s' (Ok n) → Ahead bytes at q ×
    (s'.used ≡ s.used) × Begun i hs bytes from s₀ before q.at s' now
unfolding Nexts
begun_clause i hs bytes from at s₀ s s' before now q n e b h =
    let (used, ahead, extends) = subst (λ (x : Next). Nexts i bytes at q s s' (Ok x)) e h in
    (ahead, used, record { given = b.given; told = took_same hs s₀.used s.used s'.used before now b.given used b.told; extends = λ left o r. b.extends left o (extends left o r) })

pub include_step : (i : Inside) (bytes : Bytes) (at : ℕ) (s s' : State) (q : Progress) (n : Next) (p : List ℕ) (only : Option (List Label)) → n ≡ next.Include p only →
    Nexts i bytes at q s s' (Ok n) → Ahead bytes at q × (s' ≡ s) × HasPlaces only q.starts ×
    (length (opens i) < 16) × Nexts i bytes at q s s' (Ok (next.Include p only))
unfolding Nexts
include_step i bytes at s s' q n p only e h =
    let (same, ahead, places, few, parts) = subst (λ (x : Next). Nexts i bytes at q s s' (Ok x)) e h in
    (ahead, same, places, few, (same, ahead, places, few, parts))

pub from_over : (i : Inside) (hs : Holds) (bytes : Bytes) (from at : ℕ) (s₀ s s' : State) (before now : Told) (q : Progress) (n : Next)
    → n ≡ next.Over →
    Begun i hs bytes from s₀ before at s now → Nexts i bytes at q s s' (Ok n) → CameFrom i hs bytes from s₀ s' before now (Ok tt)
unfolding Nexts CameFrom
from_over i hs bytes from at s₀ s s' before now q n e b h =
    let (same, part) = subst (λ (x : Next). Nexts i bytes at q s s' (Ok x)) e h in (
      b.given,
      took_same hs s₀.used s.used s'.used before now b.given (ap (λ (x : State). x.used) same) b.told,
      λ left. b.extends left (read (so_far s' left))
          (subst (λ (x : State). ReadsFrom i bytes at (so_far s left) (read (so_far x left))) (sym same) (ends i bytes at (so_far s left) part)),
    )

pub from_next : (i : Inside) (hs : Holds) (bytes : Bytes) (from at : ℕ) (s₀ s s' : State) (before now : Told) (q : Progress) (f : ReadFault) →
    Begun i hs bytes from s₀ before at s now → Nexts i bytes at q s s' (Err f) → CameFrom i hs bytes from s₀ s' before now (Err f)
unfolding Nexts CameFrom
from_next i hs bytes from at s₀ s s' before now q (failure.Wrong w) b h =
    (b.given, took_well hs s₀.used s.used before now w b.given b.told, λ left. b.extends left (wrong w left) (h left))
from_next i hs bytes from at s₀ s s' before now q (failure.Library p) b h = absurd h
from_next i hs bytes from at s₀ s s' before now q failure.Memory b h = tt

-- ---- an include

regroup : (i : Inside) (bytes : Bytes) (from : ℕ) (s₀ : State) (xs ys left : List File) (o : Outcome) →
    ReadsFrom i bytes from (so_far s₀ (xs ++ (ys ++ left))) o → ReadsFrom i bytes from (so_far s₀ ((xs ++ ys) ++ left)) o
regroup i bytes from s₀ xs ys left o h = subst (λ (l : List File). ReadsFrom i bytes from (so_far s₀ l) o) (sym (append_assoc xs ys left)) h

pub begun_include : (i : Inside) (hs hm : Holds) (bytes : Bytes) (from at : ℕ) (s₀ s sm s' : State) (before mid now : Told) (q : Progress) (p : List ℕ) (only : Option (List Label)) (u : Unit {0}) → Stays hs hm →
    Begun i hs bytes from s₀ before at s mid → Nexts i bytes at q s sm
    (Ok (next.Include p only)) → CameInclude i hm p only q.starts sm s' mid now (Ok u) → Begun i hs bytes from s₀ before q.at s' now
unfolding Nexts CameInclude
begun_include i hs hm bytes from at s₀ s sm s' before mid now q p only u stays b (same, ahead, places, few, (ps, are, part))
    (given, told, reads, occur) =
    let reads' : (left : List File) → ReadsFile (included i p only) (so_far s (given ++ left)) (read (so_far s' left)) =
    λ left. subst (λ (x : State). ReadsFile (included i p only) (so_far x (given ++ left)) (read (so_far s' left))) same (reads left) in
    let occur' : AllOccur only (drop (length s.seen) s'.seen) = subst (λ (x : State). AllOccur only (drop (length x.seen) s'.seen)) same occur in
    record {
      given = b.given ++ given;
      told = took_append hs hm s₀.used s.used s'.used before mid now b.given given stays b.told
          (subst (λ (x : State). Took hm x.used s'.used mid now given) same told);
      extends = λ left o h. regroup i bytes from s₀ b.given given left o
          (b.extends (given ++ left) o (includes i bytes at q.at (so_far s (given ++ left)) (so_far s' left) o ps p only part (reads' left) occur' h));
    }

pub from_include : (i : Inside) (hs hm : Holds) (bytes : Bytes) (from at : ℕ) (s₀ s sm s' : State) (before mid now : Told) (q : Progress) (p : List ℕ) (only : Option (List Label)) (f : ReadFault) → Stays hs hm →
    Begun i hs bytes from s₀ before at s mid → Nexts i bytes at q s sm
    (Ok (next.Include p only)) → CameInclude i hm p only q.starts sm s' mid now (Err f) → CameFrom i hs bytes from s₀ s' before now (Err f)
unfolding Nexts CameInclude CameFrom
from_include i hs hm bytes from at s₀ s sm s' before mid now q p only (failure.Wrong w) stays b (same, ahead, places, few, (ps, are, part)) (given, told, inl stopped) = (
  b.given ++ given,
  took_wrong hs hm s₀.used s.used before mid now w b.given given stays b.told
      (subst (λ (x : State). GaveWrong hm x.used mid now w given) same told),
  λ left. regroup i bytes from s₀ b.given given left (wrong w left)
      (b.extends (given ++ left) (wrong w left) (stops i bytes at q.at (so_far s (given ++ left)) (wrong w left) ps p only part
      (subst (λ (x : State). ReadsFile (included i p only) (so_far x (given ++ left)) (wrong w left)) same (stopped left)) tt)),
)
from_include i hs hm bytes from at s₀ s sm s' before mid now q p only (failure.Wrong w) stays b (same, ahead, places, few, (ps, are, part)) (given, told, inr (reads, (ls, k, place, listed, missing, there, is))) = (
  b.given ++ given,
  took_wrong hs hm s₀.used s.used before mid now w b.given given stays b.told
      (subst (λ (x : State). GaveWrong hm x.used mid now w given) same told),
  λ left. regroup i bytes from s₀ b.given given left (wrong w left)
      (b.extends (given ++ left) (wrong w left) (subst (λ (y : Wrong). ReadsFrom i bytes at (so_far s (given ++ left)) (wrong y left)) (sym is)
      (misses i bytes at q.at (so_far s (given ++ left)) (so_far s' left) ps p ls k place (subst (λ (o : Option (List Label)). IsPart (opens i) bytes at (statement (Include p o) ps q.at)) listed part)
      (subst (λ (o : Option (List Label)). ReadsFile (included i p o) (so_far s (given ++ left)) (read (so_far s' left))) listed
      (subst (λ (x : State). ReadsFile (included i p only) (so_far x (given ++ left)) (read (so_far s' left))) same (reads left)))
      (subst (λ (x : State). IsMissing ls (drop (length x.seen) s'.seen) k) same missing)
      (start_at ps (5 + 2 * k) place (ap (λ (ss : List ℕ). slice_get ss (5 + 2 * k)) (sym are) ∙ there))))),
)
from_include i hs hm bytes from at s₀ s sm s' before mid now q p only (failure.Library r) stays b (same, ahead, places, few, (ps, are, part)) (given, told, stopped) = (
  b.given ++ given,
  took_gave hs hm s₀.used s.used before mid now b.given given stays b.told told,
  b.extends given (needs r) (stops i bytes at q.at (so_far s given) (needs r) ps p only part
      (subst (λ (x : State). ReadsFile (included i p only) (so_far x given) (needs r)) same stopped) tt),
)
from_include i hs hm bytes from at s₀ s sm s' before mid now q p only failure.Memory stays b h came = tt

pub include_read : (i : Inside) (hs : Holds) (p : List ℕ) (only : Option (List Label)) (starts path : List ℕ) (s s' : State) (before now : Told) (u : Unit {0}) (r : Result (Unit {0}) ReadFault) → path ≡ i.path →
    CameFile (included i p only) hs s s' before now (Ok u) → IsListed only
    (drop (length s.seen) s'.seen) starts path r → CameInclude i hs p only starts s s' before now r
unfolding CameFile CameInclude
include_read i hs p only starts path s s' before now u (Ok v) e (given, told, reads) listed = (given, told, reads, listed)
include_read i hs p only starts path s s' before now u (Err (failure.Wrong w)) e (given, told, reads) listed =
    (given, took_well hs s.used s'.used before now w given told, inr (reads, subst (λ (x : List ℕ). IsListed only (drop (length s.seen) s'.seen) starts x (Err (failure.Wrong w))) e listed))
include_read i hs p only starts path s s' before now u (Err (failure.Library q)) e came listed = absurd listed
include_read i hs p only starts path s s' before now u (Err failure.Memory) e came listed = tt

pub include_stopped : (i : Inside) (hs : Holds) (p : List ℕ) (only : Option (List Label)) (starts : List ℕ) (s s' : State) (before now : Told) (f : ReadFault) →
    CameFile (included i p only) hs s s' before now (Err f) → CameInclude i hs p only starts s s' before now (Err f)
unfolding CameFile CameInclude
include_stopped i hs p only starts s s' before now (failure.Wrong w) (given, told, reads) = (given, told, inl reads)
include_stopped i hs p only starts s s' before now (failure.Library q) came = came
include_stopped i hs p only starts s s' before now failure.Memory came = tt

-- ---- a whole file

fetched_file : (i : Inside) (bytes : Bytes) (s sm : State) (left : List File) (o : Outcome) → s.used + length bytes ≤ 4194304
    → sm ≡ record s { used = s.used + length bytes } →
    ReadsFrom i bytes 0 (so_far sm left) o → ReadsFile i (so_far s ((i.path, bytes) ∷ left)) o
fetched_file i bytes s sm left o few same h =
    file i (so_far s ((i.path, bytes) ∷ left)) bytes left o refl few (subst (λ (x : State). ReadsFrom i bytes 0 (so_far x left) o) same h)

took_file : (i : Inside) (path : List ℕ) (hs : Holds) (bytes : Bytes) (s sm : State) (before mid : Told) → path ≡ i.path →
    Fetched path (hs path) s sm before mid (Ok bytes) → Took hs s.used sm.used before mid ((i.path, bytes) ∷ [])
took_file i path hs bytes s sm before mid e (told, few, same, all_of) =
    subst (λ (x : List ℕ). Took hs s.used sm.used before mid ((x, bytes) ∷ [])) e
    (took_one hs s.used sm.used before mid path bytes told all_of (ap (λ (x : State). x.used) same))

pub file_read : (i : Inside) (path : List ℕ) (hs hm : Holds) (bytes : Bytes) (s sm s' : State) (before mid now : Told) (r : Result (Unit {0}) ReadFault) → path ≡ i.path → Stays hs hm →
    Fetched path (hs path) s sm before mid (Ok bytes) → CameFrom i hm bytes 0 sm s' mid now r → CameFile i hs s s' before now r
unfolding CameFrom CameFile
file_read i path hs hm bytes s sm s' before mid now (Ok u) e stays fetched (given, more, reads) = (
  (i.path, bytes) ∷ given,
  took_append hs hm s.used sm.used s'.used before mid now ((i.path, bytes) ∷ []) given stays
      (took_file i path hs bytes s sm before mid e fetched) more,
  λ left. fetched_file i bytes s sm (given ++ left) (read (so_far s' left)) fetched.1 fetched.2 (reads left),
)
file_read i path hs hm bytes s sm s' before mid now (Err (failure.Wrong w)) e stays fetched (given, more, reads) = (
  (i.path, bytes) ∷ given,
  took_wrong hs hm s.used sm.used before mid now w ((i.path, bytes) ∷ []) given stays
      (took_file i path hs bytes s sm before mid e fetched) more,
  λ left. fetched_file i bytes s sm (given ++ left) (wrong w left) fetched.1 fetched.2 (reads left),
)
file_read i path hs hm bytes s sm s' before mid now (Err (failure.Library p)) e stays fetched (given, more, reads) = (
  (i.path, bytes) ∷ given,
  took_gave hs hm s.used sm.used before mid now ((i.path, bytes) ∷ []) given stays
      (took_file i path hs bytes s sm before mid e fetched) more,
  fetched_file i bytes s sm given (needs p) fetched.1 fetched.2 reads,
)
file_read i path hs hm bytes s sm s' before mid now (Err failure.Memory) e stays fetched came = tt

pub file_stopped : (i : Inside) (path : List ℕ) (hs : Holds) (s sm s' : State) (before now : Told) (f : ReadFault) → path ≡ i.path →
    Fetched path (hs path) s sm before now (Err f) → CameFile i hs s s' before now (Err f)
unfolding CameFile
file_stopped i path hs s sm s' before now (failure.Wrong w) e (is, (bytes, told, over), much) =
    let named : w ≡ wrong_at what.Long i.path 0 = is ∙ ap (λ (x : List ℕ). wrong_at what.Long x 0) e in
    let long_ : IsLongFile (s.used + 0) (hs i.path) = subst (λ (n : ℕ). IsLongFile n (hs i.path)) (omega arith) (subst (λ (x : List ℕ). IsLongFile s.used (hs x)) e much) in (
      (i.path, bytes) ∷ [],
      record { told = subst (λ (x : List ℕ). Gives before now ((x, bytes) ∷ [])) e told; whole = inr ([], i.path, bytes, refl, tt, named, long_, omega (arith, over)) },
      λ left. subst (λ (y : Wrong). ReadsFile i (so_far s ((i.path, bytes) ∷ left)) (wrong y left)) (sym named)
          (long i (so_far s ((i.path, bytes) ∷ left)) bytes left refl over),
    )
file_stopped i path hs s sm s' before now (failure.Library p) e (is, told) =
    ([], record { told = told; whole = tt }, subst (λ (x : List ℕ). ReadsFile i (so_far s []) (needs x)) (sym (is ∙ e)) (files.unfetched i (so_far s []) refl))
file_stopped i path hs s sm s' before now failure.Memory e h = tt

-- ---- answers in the code's terms

pub include_memory : (i : Inside) (hs : Holds) (p : List ℕ) (only : Option (List Label)) (starts : List ℕ) (s s' : State) (before now : Told) (r : Result (Unit {0}) ReadFault) → r ≡ Err failure.Memory →
    CameInclude i hs p only starts s s' before now r
unfolding CameInclude
include_memory i hs p only starts s s' before now r e =
    subst (λ (x : Result (Unit {0}) ReadFault). CameInclude i hs p only starts s s' before now x) (sym e) tt

snoc_front : {A : Type 0} (xs ys : List A) (x y : A) → xs ++ x ∷ [] ≡ ys ++ y ∷ [] → xs ≡ ys
snoc_front [] [] x y e = refl
snoc_front [] (z ∷ zs) x y e = absurd (omega (arith, ap length e, length-append zs (y ∷ [])))
snoc_front (z ∷ zs) [] x y e = absurd (omega (arith, ap length e, length-append zs (x ∷ [])))
snoc_front (z ∷ zs) (w ∷ ws) x y e =
    let head : z ≡ w = cc in
    let tail : zs ++ x ∷ [] ≡ ws ++ y ∷ [] = cc in
    λ i. head i ∷ snoc_front zs ws x y tail i

pub popped : {A : Type 0} (o : Option A) (old new orig : List A) (x : A) → old ≡ orig ++ x ∷ []
    → MatchOption o ((old ≡ []) × (new ≡ [])) (λ item. old ≡ new ++ item ∷ []) → new ≡ orig
popped None old new orig x e h = absurd (omega (arith, ap length e, ap length h.0, length-append orig (x ∷ [])))
popped (Some item) old new orig x e h = snoc_front new orig item x (sym h ∙ e)

pub on_ok : {T E : Type 0} (r : Result T E) (P : Type 0) → P → OnOk r P
on_ok (Ok x) P p = p
on_ok (Err e) P p = tt

-- ---- the whole

abbrev pub IsFresh : State → Type 0
IsFresh s = (s.used ≡ 0) × (s.symbols ≡ []) × (s.inputs ≡ []) × (s.seen ≡ [])

fresh_is : (s : State) (left : List File) → IsFresh s → so_far s left ≡ nothing_read left
fresh_is s left (u, y, n, l) = λ i. record { left = left; used = u i; symbols = y i; inputs = n i; labels = l i }

begins : (path : List ℕ) (s : State) (given : List File) (o : Outcome) → IsFresh s → ReadsFile (start path) (so_far s (given ++ [])) o
    → ReadsFile (start path) (nothing_read given) o
begins path s given o fresh h =
    subst (λ (l : List File). ReadsFile (start path) (nothing_read l) o) (append-nil given)
    (subst (λ (x : SoFar). ReadsFile (start path) x o) (fresh_is s (given ++ []) fresh) h)

pub problem_fault : (path : List ℕ) (hs : Holds) (s s' : State) (before now : Told) (f : ReadFault) → IsFresh s
    → CameFile (start path) hs s s' before now (Err f) → IsReadFault path hs before now f
unfolding CameFile
problem_fault path hs s s' before now (failure.Wrong w) fresh (given, told, reads) =
    (given, subst (λ (n : ℕ). GaveWrong hs n before now w given) fresh.0 told, begins path s given (wrong w []) fresh (reads []))
problem_fault path hs s s' before now (failure.Library p) fresh (given, told, reads) =
    (given, told, subst (λ (x : SoFar). ReadsFile (start path) x (needs p)) (fresh_is s given fresh) reads)
problem_fault path hs s s' before now failure.Memory fresh h = tt

pub problem_read : (path name : List ℕ) (hs : Holds) (s s' : State) (before now : Told) (u : Unit {0}) → name ≡ path → IsFresh s
    → CameFile (start path) hs s s' before now (Ok u) →
    IsReadFrom path hs before now (record { name = name; symbols = s'.symbols; inputs = s'.inputs })
unfolding CameFile
problem_read path name hs s s' before now u e fresh (given, told, reads) = (
  given,
  took_whole hs s.used s'.used before now given told,
  record { labels = s'.seen; used = s'.used; reads = begins path s given (read (so_far s' [])) fresh (reads []); name = e },
)

pub all_wanted : (l : Label) → Unit {0} ↔ Unit {0}
all_wanted l = (λ h. tt, λ h. tt)

-- ---- some place where one reads

some_lists : (w : Wanted) → (lists : List (List Label)) × Wants w lists
some_lists All = ([], λ l. (λ h. tt, λ h. tt))
some_lists (Listed labels) = (labels.keys ∷ [], λ l. (λ h. (h, tt), λ h. h.0))

pub an_inside : (os mid orig : Opens) (w : Wanted) → os ≡ mid → mid ≡ orig → 0 < length orig
    → (i : Inside) × (os ≡ opens i) × Wants w i.lists
an_inside os mid orig w e f some =
    let lists = some_lists w in
    let n : 0 < length os = omega (arith, some, ap length e, ap length f) in (
      record { path = get_or os (length os - 1) []; around = take (length os - 1) os; lists = lists.0 },
      sym (take_all ((length os - 1) + 1) os (omega (arith, n))) ∙ take_more os (length os - 1) [] (omega (arith, n)),
      lists.1,
    )

pub no_library : (i : Inside) (bytes : Bytes) (at : ℕ) (q : Progress) (s s' : State) (f : ReadFault) → Nexts i bytes at q s s' (Err f)
    → IsOfLibrary f → ⊥
unfolding Nexts
no_library i bytes at q s s' (failure.Wrong w) h of = of
no_library i bytes at q s s' (failure.Library p) h of = h
no_library i bytes at q s s' failure.Memory h of = of

pub over_same : (i : Inside) (bytes : Bytes) (at : ℕ) (q : Progress) (s s' : State) (n : Next) → n ≡ next.Over
    → Nexts i bytes at q s s' (Ok n) → s' ≡ s
unfolding Nexts
over_same i bytes at q s s' n e h = (subst (λ (x : Next). Nexts i bytes at q s s' (Ok x)) e h).0

pub err_is : {T : Type 0} (r : Result T ReadFault) (f : ReadFault) (P : ReadFault → Type 0) → r ≡ Err f → P f → IfErr r P
err_is r f P e p = subst (λ x. IfErr x P) (sym e) p
