-- The text of each answer.
use Rattle.std.specs.Prelude.{ℕ, List, [], ◌∷◌, ◌++◌, length, codes, Option, None, Some}
use Rattle.std.specs.List.{flat_map}
use Rattle.cd_symbols.specs.Symbol.{Symbol}
use Rattle.cd_read.specs.declared.problem.Problem.{Problem}
use Rattle.cd_ledger.specs.declared.events.Bound.{Bound}
use Rattle.cd_ledger.specs.declared.events.Bound.TheVariants.{Bounds, Names}
use Rattle.cd_ledger.specs.declared.records.Record.{Record}
use Rattle.cd_text.specs.declared.line.Line.{Line}
use Rattle.cd_text.specs.Numerals.{numeral}
use Rattle.cd_text.specs.Texts.{shown, clause_text, line_text}

-- a line, and its line feed
abbrev pub with_feed : List ℕ → List ℕ
with_feed line = line ++ 10 ∷ []

-- ---- a refutation: comments around the derivation's lines

abbrev pub unsatisfiable_line : List ℕ → List ℕ
unsatisfiable_line name = codes "% SZS status Unsatisfiable for " ++ shown name

abbrev pub start_line : List ℕ → List ℕ
start_line name = codes "% SZS output start CNFRefutation for " ++ shown name

abbrev pub end_line : List ℕ → List ℕ
end_line name = codes "% SZS output end CNFRefutation for " ++ shown name

abbrev pub lines_text : List Symbol → List Line → List ℕ
lines_text symbols lines = flat_map (λ l. line_text symbols l ++ 10 ∷ []) lines

unfoldable pub refuted_text : Problem → List Line → List ℕ
refuted_text p lines =
    with_feed (unsatisfiable_line p.name) ++ (with_feed (start_line p.name) ++ (lines_text p.symbols lines ++ with_feed (end_line p.name)))

-- ---- a saturated list: the clauses of the live names, in the order of names

unfoldable pub held_line : List Symbol → Record → List ℕ
held_line symbols r = codes "cnf(n" ++ (numeral r.name.peer ++ (codes "_" ++ (numeral r.name.seq ++ (codes ",plain," ++ (clause_text symbols r.clause ++ codes ").")))))

unfoldable pub counts_line : ℕ → ℕ → List ℕ
counts_line peers clauses = codes "% aquarius saturated, peers " ++ (numeral peers ++ (codes ", clauses " ++ numeral clauses))

unfoldable pub saturated_text : Problem → ℕ → List Record → List ℕ
saturated_text p peers held =
    with_feed (codes "% SZS status GaveUp for " ++ shown p.name) ++ (with_feed (counts_line peers (length held))
    ++ (with_feed (codes "% aquarius list start") ++ (flat_map (λ r. with_feed (held_line p.symbols r)) held ++ with_feed (codes "% aquarius list end"))))

-- ---- the other answers

unfoldable pub spent_line : ℕ → ℕ → List ℕ
spent_line peer units = codes "% aquarius spent, peer " ++ (numeral peer ++ (codes ", units " ++ numeral units))

unfoldable pub spent_text : Problem → ℕ → ℕ → List ℕ
spent_text p peer units = with_feed (codes "% SZS status ResourceOut for " ++ shown p.name) ++ with_feed (spent_line peer units)

-- which bound it is: that of clauses and substitutions, or that of a peer's names
abbrev pub bound_word : Bound → List ℕ
bound_word Bounds = codes "bounds"
bound_word Names = codes "names"

unfoldable pub limit_line : ℕ → Bound → List ℕ
limit_line peer bound = codes "% aquarius limit, peer " ++ (numeral peer ++ (codes ", " ++ bound_word bound))

unfoldable pub limit_text : Problem → ℕ → Bound → List ℕ
limit_text p peer bound = with_feed (codes "% SZS status ResourceOut for " ++ shown p.name) ++ with_feed (limit_line peer bound)

-- ---- generated problems: of each answer the status and a word

unfoldable pub grid_line : ℕ → List ℕ → List ℕ
grid_line n word = codes "% aquarius grid " ++ (numeral n ++ (codes ", answer " ++ word))

unfoldable pub grid_text : Problem → ℕ → List ℕ → List ℕ → List ℕ
grid_text p n status word = with_feed (status ++ shown p.name) ++ with_feed (grid_line n word)

-- the text, or for a generated problem that of its number
abbrev pub text_by : Option ℕ → Problem → List ℕ → List ℕ → List ℕ → List ℕ
text_by None p status word text = text
text_by (Some n) p status word text = grid_text p n status word

abbrev pub refuted_by : Option ℕ → Problem → List Line → List ℕ
refuted_by grid p lines = text_by grid p (codes "% SZS status Unsatisfiable for ") (codes "refuted") (refuted_text p lines)

abbrev pub saturated_by : Option ℕ → Problem → ℕ → List Record → List ℕ
saturated_by grid p peers held = text_by grid p (codes "% SZS status GaveUp for ") (codes "saturated") (saturated_text p peers held)

abbrev pub spent_by : Option ℕ → Problem → ℕ → ℕ → List ℕ
spent_by grid p peer units = text_by grid p (codes "% SZS status ResourceOut for ") (codes "spent") (spent_text p peer units)

abbrev pub limit_by : Option ℕ → Problem → ℕ → Bound → List ℕ
limit_by grid p peer bound = text_by grid p (codes "% SZS status ResourceOut for ") (codes "limit") (limit_text p peer bound)
