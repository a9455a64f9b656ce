-- Each input takes a byte of a file.
use Rattle.std.proofs.Common.{◌≡◌, ◌≢◌, ◌⊎◌, inl, inr, ◌∙◌, ◌+◌, ◌-◌, ◌<◌, ◌≤◌, ◌∷◌, [], ℕ, List, length, drop, length-append, length-drop, refl, ap, arith}
use Rattle.cd_lex.specs.Bytes.{Bytes}
use Rattle.cd_lex.specs.Next.{token, IsNext}
use Rattle.cd_lex.specs.declared.TokenKind.{TokenKind}
use Rattle.cd_parse.specs.declared.tree.TreeLiteral.{TreeLiteral}
use Rattle.cd_parse.specs.declared.label.Label.{Label}
use Rattle.cd_parse.specs.declared.label.Role.{Role}
use Rattle.cd_parse.specs.declared.statement.Statement.{Statement}
use Rattle.cd_parse.specs.Statements.{IsStatement, IsStatementIn}
use Rattle.cd_parse.specs.Statements as statements
use Rattle.cd_parse.specs.Parts.{Opens, Placed, terminals, Tokens, none, further, statement, IsPart}
use Rattle.cd_read.specs.Files.{SoFar, Outcome, read, wrong, needs, Inside, opens, included, Adds, IsStopped, ReadsFile, unfetched, long, file, ReadsFrom, ends, breaks, clause, too_large, includes, stops, misses}
use Rattle.cd_read.proofs.Printable.{some_text}
use Rattle.cd_parse.proofs.OnePart.{placed}

some_length : (xs : Bytes) → xs ≢ [] → 0 < length xs
some_length [] some = absurd (some refl)
some_length (x ∷ xs) some = omega arith

token_ahead : (bytes : Bytes) (mid : ℕ) (k : TokenKind) (start : ℕ) (text : Bytes) → IsNext bytes mid (token k start text)
    → (mid < start + length text) × (start + length text ≤ length bytes)
token_ahead bytes mid k start text (gap, no_gap, begins) =
    let some = some_length text (some_text k text begins.0) in
    let whole_ : length (drop start bytes) ≡ length text + length begins.1.rest = ap length begins.1.split ∙ length-append text begins.1.rest in
    let cut = length-drop start bytes in
    (omega (arith, some, gap.place), omega (arith, some, whole_, cut))

pub tokens_ahead : (bytes : Bytes) (from : ℕ) (ps : List Placed) (to : ℕ) → Tokens bytes from ps to
    → (from + length ps ≤ to) × ((length ps ≡ 0) ⊎ (to ≤ length bytes))
tokens_ahead bytes from _ _ none = (omega arith, inl refl)
tokens_ahead bytes from _ _ (further ps mid k start text d is) =
    let r = tokens_ahead bytes from ps mid d in
    let t = token_ahead bytes mid k start text is in
    (omega (arith, r.0, t.0, length-append ps (placed k start text ∷ [])), inr t.1)

tokens_some : (ps : List Placed) (s : Statement) → IsStatement (terminals ps) s → 0 < length ps
tokens_some [] s is = absurd (by [] s is refl)
  where
    by : (ts : List _) (s : Statement) → IsStatement ts s → ts ≡ [] → ⊥
    by _ _ (statements.clause t l r ts ns ls is' f others) e = cc
    by _ _ (statements.whole p) e = cc
    by _ _ (statements.listed p ts ls are) e = cc
tokens_some (p ∷ ps) s is = omega arith

pub statement_ahead : (os : Opens) (bytes : Bytes) (at to : ℕ) (s : Statement) (ps : List Placed) → IsPart os bytes at (statement s ps to)
    → (at < to) × (to ≤ length bytes)
statement_ahead os bytes at to s ps (d, is, may) =
    let r = tokens_ahead bytes at ps to d in
    let some = tokens_some ps s is in
    (omega (arith, r.0, some), by r.1)
  where
    by : (length ps ≡ 0) ⊎ (to ≤ length bytes) → to ≤ length bytes
    by (inl e) = absurd (omega (arith, e, tokens_some ps s is))
    by (inr le) = le

-- ---- counts

-- so many bytes are left of the file
abbrev Counts : ℕ → SoFar → Outcome → Type 0
Counts left s (read s') = (length s'.inputs + s.used ≤ length s.inputs + s'.used + left) × (s'.used ≤ 4194304)
Counts left s (wrong w files) = Unit {0}
Counts left s (needs p) = Unit {0}

counts_more : (s s' : SoFar) (left less : ℕ) (o : Outcome) → length s'.inputs + s.used + less ≤ length s.inputs + s'.used + left
    → Counts less s' o → Counts left s o
counts_more s s' left less (read t) le c = (omega (arith, le, c.0), c.1)
counts_more s s' left less (wrong w files) le c = tt
counts_more s s' left less (needs p) le c = tt

stop_counts : (left : ℕ) (s : SoFar) (o : Outcome) → IsStopped o → Counts left s o
stop_counts left s (read t) stop = absurd stop
stop_counts left s (wrong w files) stop = tt
stop_counts left s (needs p) stop = tt

adds_counts : (i : Inside) (l : Label) (r : Role) (ls : List TreeLiteral) (s s' : SoFar) → Adds i l r ls s s'
    → (length s'.inputs ≤ length s.inputs + 1) × (s'.used ≡ s.used)
adds_counts i l r ls s s' (within, inl (chosen, (c, symbols, gives, few, e))) =
    let more = length-append s.inputs (record { label = l; role = r; file = i.path; clause = c } ∷ []) in
    (omega (arith, ap (λ (x : SoFar). length x.inputs) e, more), ap (λ (x : SoFar). x.used) e)
adds_counts i l r ls s s' (within, inr (out, e)) = (omega (arith, ap (λ (x : SoFar). length x.inputs) e), ap (λ (x : SoFar). x.used) e)

mutual
  pub file_counts : (i : Inside) (s : SoFar) (o : Outcome) → ReadsFile i s o → Counts 0 s o
  file_counts _ _ _ (unfetched i s empty) = tt
  file_counts _ _ _ (long i s bytes left some much) = tt
  file_counts _ _ _ (file i s bytes left o some few from) =
      counts_more s (record s { left = left; used = s.used + length bytes }) 0 (length bytes - 0) o (omega arith)
      (from_counts i bytes 0 _ o from (omega arith) few)

  from_counts : (i : Inside) (bytes : Bytes) (at : ℕ) (s : SoFar) (o : Outcome) → ReadsFrom i bytes at s o → at ≤ length bytes
      → s.used ≤ 4194304 → Counts (length bytes - at) s o
  from_counts _ _ _ _ _ (ends i bytes at s is) le used = (omega arith, used)
  from_counts _ _ _ _ _ (breaks i bytes at s w place is) le used = tt
  from_counts _ _ _ _ _ (clause i bytes at to s s' o ps l r ls is adds more) le used =
      let ahead = statement_ahead (opens i) bytes at to _ ps is in
      let a = adds_counts i l r ls s s' adds in
      counts_more s s' (length bytes - at) (length bytes - to) o (omega (arith, ahead.0, ahead.1, a.0, a.1))
      (from_counts i bytes to s' o more ahead.1 (omega (arith, a.1, used)))
  from_counts _ _ _ _ _ (too_large i bytes at to s ps l r ls place is large begins) le used = tt
  from_counts _ _ _ _ _ (includes i bytes at to s s' o ps p only is inner all more) le used =
      let ahead = statement_ahead (opens i) bytes at to _ ps is in
      let a = file_counts (included i p only) s (read s') inner in
      counts_more s s' (length bytes - at) (length bytes - to) o (omega (arith, ahead.0, ahead.1, a.0))
      (from_counts i bytes to s' o more ahead.1 a.1)
  from_counts _ _ _ _ _ (stops i bytes at to s o ps p only is inner stop) le used = stop_counts (length bytes - at) s o stop
  from_counts _ _ _ _ _ (misses i bytes at to s s' ps p ls k place is inner missing begins) le used = tt
