-- A problem that was read is formed and within bounds.
use Rattle.std.proofs.Common.{inl, inr, ◌≤◌, ◌∷◌, [], ℕ, List, length, sym, subst, arith}
use Rattle.std.specs.List.{AllByRecursion}
use Rattle.cd_clause.specs.Clauses.{IsWithinBounds}
use Rattle.cd_lex.specs.Bytes.{Bytes}
use Rattle.cd_symbols.specs.Symbol.{Symbol}
use Rattle.cd_parse.specs.declared.tree.TreeLiteral.{TreeLiteral}
use Rattle.cd_parse.specs.declared.label.Label.{Label}
use Rattle.cd_parse.specs.declared.label.Role.{Role}
use Rattle.cd_read.specs.declared.problem.Input.{Input}
use Rattle.cd_read.specs.declared.problem.Problem.{Problem}
use Rattle.cd_parse.specs.declared.statement.Statement.TheVariants.{Clause}
use Rattle.cd_parse.specs.Parts.{terminals}
use Rattle.cd_read.specs.Files.{File, SoFar, Outcome, read, wrong, needs, Inside, included, Adds, IsStopped, ReadsFile, unfetched, long, file, ReadsFrom, ends, breaks, clause, too_large, includes, stops, misses, start, nothing_read, GivesProblem}
use Rattle.cd_read.specs.Formed.{IsLabelFormed, IsInputFormed, IsFormed, IsBounded}
use Rattle.cd_list.proofs.Lists.{all_append, all_weaker}
use Rattle.cd_read.proofs.Printable.{tokens_like, terminals_like}
use Rattle.cd_read.proofs.Words.{AreLiteralsWorded, statement_words}
use Rattle.cd_read.proofs.Meanings.{IsClauseOver, clause_tested, HasTexts, Grows, clause_grows, clause_formed}
use Rattle.cd_read.proofs.Counts.{file_counts}
use Rattle.cd_read.proofs.Outcomes.{symbols_distinct}

abbrev IsGood : List Symbol → Input → Type 0
IsGood symbols i = (IsLabelFormed i.label × IsClauseOver symbols i.clause) × IsWithinBounds i.clause

-- what was read so far is formed and within bounds
record Good (s : SoFar) : Type 0 where
  texts : HasTexts s.symbols
  inputs : AllByRecursion (IsGood s.symbols) s.inputs
  few : length s.symbols ≤ 65535

abbrev Keeps : Outcome → Type 0
Keeps (read s) = Good s
Keeps (wrong w left) = Unit {0}
Keeps (needs p) = Unit {0}

stop_keeps : (o : Outcome) → IsStopped o → Keeps o
stop_keeps (read s) stop = absurd stop
stop_keeps (wrong w left) stop = tt
stop_keeps (needs p) stop = tt

good_grows : (ss ss' : List Symbol) → Grows ss ss' → (i : Input) → IsGood ss i → IsGood ss' i
good_grows ss ss' grows i ((l, c), within) = ((l, clause_grows ss ss' i.clause grows c), within)

adds_good : (i : Inside) (l : Label) (r : Role) (ls : List TreeLiteral) (s s' : SoFar) → IsLabelFormed l → AreLiteralsWorded ls → Good s
    → Adds i l r ls s s' → Good s'
adds_good i l r ls s s' formed words good (within, inl (chosen, (c, symbols, gives, few, e))) =
    let g = clause_formed s.symbols symbols ls c gives within good.texts words in
    subst Good (sym e) (record {
      texts = g.texts;
      inputs = all_append (IsGood symbols) s.inputs (_ ∷ [])
          (all_weaker (IsGood s.symbols) (IsGood symbols) s.inputs (good_grows s.symbols symbols g.grows) good.inputs) (((formed, g.formed), g.within), tt);
      few = few;
    })
adds_good i l r ls s s' formed words good (within, inr (out, e)) =
    subst Good (sym e) (record { texts = good.texts; inputs = good.inputs; few = good.few })

mutual
  file_good : (i : Inside) (s : SoFar) (o : Outcome) → ReadsFile i s o → Good s → Keeps o
  file_good _ _ _ (unfetched i s empty) good = tt
  file_good _ _ _ (long i s bytes left some much) good = tt
  file_good _ _ _ (file i s bytes left o some few from) good =
      from_good i bytes 0 _ o from (record { texts = good.texts; inputs = good.inputs; few = good.few })

  from_good : (i : Inside) (bytes : Bytes) (at : ℕ) (s : SoFar) (o : Outcome) → ReadsFrom i bytes at s o → Good s → Keeps o
  from_good _ _ _ _ _ (ends i bytes at s is) good = good
  from_good _ _ _ _ _ (breaks i bytes at s w place is) good = tt
  from_good _ _ _ _ _ (clause i bytes at to s s' o ps l r ls is adds more) good =
      let words = statement_words 1000 (terminals ps) (Clause l r ls) is.1 (terminals_like ps (tokens_like bytes at ps to is.0)) in
      from_good i bytes to s' o more (adds_good i l r ls s s' words.0 words.1 good adds)
  from_good _ _ _ _ _ (too_large i bytes at to s ps l r ls place is large begins) good = tt
  from_good _ _ _ _ _ (includes i bytes at to s s' o ps p only is inner all more) good =
      from_good i bytes to s' o more (file_good (included i p only) s (read s') inner good)
  from_good _ _ _ _ _ (stops i bytes at to s o ps p only is inner stop) good = stop_keeps o stop
  from_good _ _ _ _ _ (misses i bytes at to s s' ps p ls k place is inner missing begins) good = tt

all_good : (files : List File) (path : List ℕ) (p : Problem) → GivesProblem files path p
    → Good (record { left = []; used = 0; symbols = p.symbols; inputs = p.inputs; labels = [] })
all_good files path p g =
    let r = file_good (start path) (nothing_read files) _ g.reads (record { texts = tt; inputs = tt; few = omega arith }) in
    record { texts = r.texts; inputs = r.inputs; few = r.few }

-- the laws

pub problem_formed : (files : List File) (path : List ℕ) (p : Problem) → GivesProblem files path p → IsFormed p
problem_formed files path p g =
    let r = all_good files path p g in
    record { texts = r.texts; inputs = all_weaker (IsGood p.symbols) (IsInputFormed p.symbols) p.inputs (λ i h. (h.0.0, clause_tested p.symbols i.clause h.0.1)) r.inputs }

pub problem_bounded : (files : List File) (path : List ℕ) (p : Problem) → GivesProblem files path p → IsBounded p
problem_bounded files path p g =
    let r = all_good files path p g in
    let c = file_counts (start path) (nothing_read files) _ g.reads in
    record {
      within = all_weaker (IsGood p.symbols) (λ i. IsWithinBounds i.clause) p.inputs (λ i h. h.1) r.inputs;
      few = omega (arith, c.0, c.1);
      few_symbols = r.few;
      distinct = symbols_distinct files path p g;
    }
