-- Printed literals and clauses are read again.
use Rattle.std.proofs.Common.{◌≡◌, ℕ, zero, suc, ◌+◌, ◌<◌, ◌≤◌, max, Bool, true, false, cond, List, [], ◌∷◌, ◌++◌, length, map, sum_by, codes, refl, sym, ap, ◌∙◌, subst, arith, append_assoc, Option, Some, None, slice_get}
use Rattle.std.specs.List.{AllByRecursion}
use Rattle.std.proofs.lemmas.List.Sums.{sum_by-cons}
use Rattle.cd_term.specs.declared.Term.{Term}
use Rattle.cd_term.specs.declared.Term.TheVariants.{Var, App}
use Rattle.cd_term.specs.Terms.{depth_of, size_of, greatest}
use Rattle.cd_term.proofs.TermInduction.{Each, ind}
use Rattle.cd_term.proofs.Equations.{depth_of-App, size_of-App}
use Rattle.cd_clause.specs.declared.Atom.{Atom}
use Rattle.cd_clause.specs.declared.Atom.TheVariants.{Truth, Pred, Equal}
use Rattle.cd_clause.specs.declared.Literal.{Literal}
use Rattle.cd_clause.specs.declared.Clause.{Clause}
use Rattle.cd_clause.specs.Clauses.{literal_size, literal_depth, clause_size, IsWithinBounds}
use Rattle.cd_symbols.specs.Symbol.{Symbol, AreDistinct}
use Rattle.cd_symbols.specs.declared.Kind.TheVariants.{Function, Predicate}
use Rattle.cd_text.specs.Numerals.{numeral}
use Rattle.cd_text.specs.Texts.{separated, symbol_text, arguments_text, term_text, literal_text, signed_text, literals_text, clause_text}
use Rattle.cd_text.proofs.TermTexts.{variable_text, application_text}
use Rattle.cd_read.specs.Formed.{is_term_formed, AreTermsFormed, IsAtomFormed, IsClauseFormed}
use Rattle.cd_line.proofs.Symbols.{Printed}
use Rattle.cd_line.proofs.Symbols.{is_symbol}
use Rattle.cd_line.specs.declared.reading.Applied.{Applied}
use Rattle.cd_line.specs.Reading.{◌>>=◌, either, stripped, joined_read, applied_read, made_term, made_predicate, term_read, right_read, behind_variable, left_read, behind_applied, negative_read, atom_read, literal_read, literals_read, clause_read}
use Rattle.cd_line.proofs.Words.{Stops, number_again, longer_apart}
use Rattle.cd_line.proofs.Items.{joined_again}
use Rattle.cd_line.proofs.Terms.{Follows, Stands, stands, ReadsAt, applied_text, applied, applied_again, term_again, each_again, length_sizes, application_parts, variable_small, symbol_apart, digits_stop}

-- what may stand behind a literal: nothing that goes on with a term, and no relation
pub record Ends (rest : List ℕ) : Type 0 where
  pub follows : Follows rest
  pub no_equal : stripped (codes " = ") rest ≡ None
  pub no_unequal : stripped (codes " != ") rest ≡ None

-- a table whose symbols are found by their printed words
pub record Table (symbols : List Symbol) : Type 0 where
  pub distinct : AreDistinct symbols
  pub printable : Printed symbols

abbrev pub ReadsLiteral : List Symbol → ℕ → Literal → Type 0
ReadsLiteral symbols levels l = (rest : List ℕ) → Ends rest → literal_read symbols levels (literal_text symbols l ++ rest) ≡ Some (l, rest)

abbrev made : Bool → Atom → Literal
made positive atom = record { positive = positive; atom = atom }

-- ---- predicates

few_args : (ts : List Term) → sum_by size_of ts ≤ 65535 → length ts ≤ 65535
few_args ts s = omega (arith, length_sizes ts, s)

predicate_is : (symbols : List Symbol) (positive : Bool) (p : ℕ) (ts : List Term) (st : Stands symbols Predicate (length ts) p) → made_predicate symbols positive (applied st.symbol.text ts) ≡ Some (made positive (Pred p ts))
predicate_is symbols positive p ts st = rw st.found refl

abbrev atom_text : List Symbol → ℕ → List Term → List ℕ
atom_text symbols p ts = symbol_text (slice_get symbols p) ++ arguments_text (map (term_text symbols) ts)

negative_again : (symbols : List Symbol) (levels p : ℕ) (ts : List Term) (rest : List ℕ) (st : Stands symbols Predicate (length ts) p) → AllByRecursion (ReadsAt symbols levels) ts → Follows rest
    → negative_read symbols levels (atom_text symbols p ts ++ rest) ≡ Some (made false (Pred p ts), rest)
unfolding negative_read
negative_again symbols levels p ts rest st each follows =
    ap (λ (o : Option Symbol). negative_read symbols levels ((symbol_text o ++ arguments_text (map (term_text symbols) ts)) ++ rest)) st.there
    ∙ rw (applied_again symbols levels st.symbol.text ts rest st.printable each follows) (rw (predicate_is symbols false p ts st) refl)

-- what begins with a word is no truth value, no negation and no variable
atom_only : (symbols : List Symbol) (levels : ℕ) (text : List ℕ) → stripped (codes "$") text ≡ None → stripped (codes "~") text ≡ None → literal_read symbols levels text ≡ atom_read symbols levels text
unfolding literal_read
atom_only symbols levels text dollar tilde = rw (longer_apart 36 (codes "true") text dollar, longer_apart 36 (codes "false") text dollar, tilde) refl

word_atom : (symbols : List Symbol) (levels : ℕ) (text : List ℕ) → stripped (codes "X") text ≡ None
    → atom_read symbols levels text ≡ (applied_read (λ t. term_read symbols levels t) text >>= λ a. behind_applied symbols (suc levels) a.0 a.1)
unfolding atom_read
word_atom symbols levels text none = rw none refl

positive_again : (symbols : List Symbol) (levels p : ℕ) (ts : List Term) (rest : List ℕ) (st : Stands symbols Predicate (length ts) p) → AllByRecursion (ReadsAt symbols levels) ts → Ends rest
    → literal_read symbols levels (atom_text symbols p ts ++ rest) ≡ Some (made true (Pred p ts), rest)
unfolding behind_applied
positive_again symbols levels p ts rest st each ends =
    let text = atom_text symbols p ts ++ rest in
    atom_only symbols levels text (symbol_apart symbols Predicate 36 p ts rest st refl refl) (symbol_apart symbols Predicate 126 p ts rest st refl refl)
    ∙ word_atom symbols levels text (symbol_apart symbols Predicate 88 p ts rest st refl refl)
    ∙ ap (λ (o : Option Symbol). applied_read (λ t. term_read symbols levels t) ((symbol_text o ++ arguments_text (map (term_text symbols) ts)) ++ rest) >>= λ a. behind_applied symbols (suc levels) a.0 a.1) st.there
    ∙ rw (applied_again symbols levels st.symbol.text ts rest st.printable each ends.follows) (rw (ends.no_equal, ends.no_unequal) (rw (predicate_is symbols true p ts st) refl))

-- ---- equations

relation : Bool → List ℕ
relation true = codes " = "
relation false = codes " != "

right_again : (symbols : List Symbol) (levels : ℕ) (positive : Bool) (left right : Term) (rest : List ℕ) → ReadsAt symbols levels right → Follows rest
    → right_read symbols levels positive left (term_text symbols right ++ rest) ≡ Some (made positive (Equal left right), rest)
right_again symbols levels positive left right rest reads follows = rw (reads rest follows) refl

behind_variable_again : (symbols : List Symbol) (levels : ℕ) (positive : Bool) (left right : Term) (rest : List ℕ) → ReadsAt symbols levels right → Follows rest
    → behind_variable symbols levels left (relation positive ++ (term_text symbols right ++ rest)) ≡ Some (made positive (Equal left right), rest)
unfolding behind_variable relation
behind_variable_again symbols levels true left right rest reads follows = right_again symbols levels true left right rest reads follows
behind_variable_again symbols levels false left right rest reads follows = right_again symbols levels false left right rest reads follows

term_is : (symbols : List Symbol) (f : ℕ) (ts : List Term) (st : Stands symbols Function (length ts) f) → made_term symbols (applied st.symbol.text ts) ≡ Some (App f ts)
term_is symbols f ts st = rw st.found refl

left_again : (symbols : List Symbol) (levels : ℕ) (positive : Bool) (f : ℕ) (ts : List Term) (right : Term) (rest : List ℕ) (st : Stands symbols Function (length ts) f) → ReadsAt symbols levels right → Follows rest
    → left_read symbols levels positive (applied st.symbol.text ts) (term_text symbols right ++ rest) ≡ Some (made positive (Equal (App f ts) right), rest)
left_again symbols levels positive f ts right rest st reads follows = rw (term_is symbols f ts st) (right_again symbols levels positive (App f ts) right rest reads follows)

behind_applied_again : (symbols : List Symbol) (levels : ℕ) (positive : Bool) (f : ℕ) (ts : List Term) (right : Term) (rest : List ℕ) (st : Stands symbols Function (length ts) f) → ReadsAt symbols levels right → Follows rest
    → behind_applied symbols levels (applied st.symbol.text ts) (relation positive ++ (term_text symbols right ++ rest)) ≡ Some (made positive (Equal (App f ts) right), rest)
unfolding behind_applied relation
behind_applied_again symbols levels true f ts right rest st reads follows = left_again symbols levels true f ts right rest st reads follows
behind_applied_again symbols levels false f ts right rest st reads follows = left_again symbols levels false f ts right rest st reads follows

relation_follows : (positive : Bool) (rest : List ℕ) → Follows (relation positive ++ rest)
unfolding relation
relation_follows true rest = record { stops = refl; closed = refl }
relation_follows false rest = record { stops = refl; closed = refl }

-- an equation, its text being its left side and then the rest
Sides : List Symbol → ℕ → Bool → Term → Term → Type 0
Sides symbols levels positive right left = (rest : List ℕ) → is_term_formed symbols left ≡ true → depth_of left ≤ suc levels → size_of left ≤ 65535 → ReadsAt symbols (suc levels) right → Follows rest
    → literal_read symbols levels (term_text symbols left ++ (relation positive ++ (term_text symbols right ++ rest))) ≡ Some (made positive (Equal left right), rest)

variable_side : (symbols : List Symbol) (levels : ℕ) (positive : Bool) (right : Term) (n : ℕ) → Sides symbols levels positive right (Var n)
unfolding Sides literal_read atom_read
variable_side symbols levels positive right n rest ok d s reads follows =
    let behind = relation positive ++ (term_text symbols right ++ rest) in
    ap (λ (l : List ℕ). literal_read symbols levels (l ++ behind)) (variable_text symbols n)
    ∙ rw (number_again n behind (variable_small symbols n ok) (digits_stop behind (relation_follows positive (term_text symbols right ++ rest)).stops))
    (behind_variable_again symbols (suc levels) positive (Var n) right rest reads follows)

application_side : (symbols : List Symbol) (levels : ℕ) (positive : Bool) (right : Term) → Table symbols → (f : ℕ) (ts : List Term) → Each (Sides symbols levels positive right) ts → Sides symbols levels positive right (App f ts)
unfolding Sides
application_side symbols levels positive right table f ts each rest ok d s reads follows =
    let behind = relation positive ++ (term_text symbols right ++ rest) in
    let parts = application_parts symbols f ts ok in
    let st = stands symbols Function (length ts) f table.distinct table.printable (few_args ts (omega (arith, s, size_of-App f ts))) parts.0 in
    let args = each_again symbols table.distinct table.printable ts levels parts.1 (omega (arith, d, depth_of-App f ts)) (omega (arith, s, size_of-App f ts)) in
    let text = atom_text symbols f ts ++ behind in
    ap (λ (l : List ℕ). literal_read symbols levels (l ++ behind)) (application_text symbols f ts)
    ∙ atom_only symbols levels text (symbol_apart symbols Function 36 f ts behind st refl refl) (symbol_apart symbols Function 126 f ts behind st refl refl)
    ∙ word_atom symbols levels text (symbol_apart symbols Function 88 f ts behind st refl refl)
    ∙ ap (λ (o : Option Symbol). applied_read (λ t. term_read symbols levels t) ((symbol_text o ++ arguments_text (map (term_text symbols) ts)) ++ behind) >>= λ a. behind_applied symbols (suc levels) a.0 a.1) st.there
    ∙ rw (applied_again symbols levels st.symbol.text ts behind st.printable args (relation_follows positive (term_text symbols right ++ rest)))
    (behind_applied_again symbols (suc levels) positive f ts right rest st reads follows)

equation_again : (symbols : List Symbol) (levels : ℕ) (positive : Bool) (left right : Term) → Table symbols → Sides symbols levels positive right left
equation_again symbols levels positive left right table = ind (Sides symbols levels positive right) (variable_side symbols levels positive right) (application_side symbols levels positive right table) left

-- ---- literals

right_side : (symbols : List Symbol) (levels : ℕ) (t : Term) → Table symbols → is_term_formed symbols t ≡ true → depth_of t ≤ suc levels → size_of t ≤ 65535 → ReadsAt symbols (suc levels) t
right_side symbols levels t table ok d s = term_again symbols table.distinct table.printable t (suc levels) ok d s

signed_again : (symbols : List Symbol) (levels : ℕ) (positive : Bool) (a : Atom) → Table symbols → IsAtomFormed symbols a → literal_size (made positive a) ≤ 65535 → literal_depth (made positive a) ≤ suc levels
    → (rest : List ℕ) → Ends rest → literal_read symbols levels (signed_text symbols positive a ++ rest) ≡ Some (made positive a, rest)
unfolding literal_read Sides relation
signed_again symbols levels true Truth table ok s d rest ends = refl
signed_again symbols levels false Truth table ok s d rest ends = refl
signed_again symbols levels true (Pred p ts) table ok s d rest ends =
    let st = stands symbols Predicate (length ts) p table.distinct table.printable (few_args ts (omega (arith, s))) ok.0 in
    positive_again symbols levels p ts rest st (each_again symbols table.distinct table.printable ts levels ok.1 (omega (arith, d)) (omega (arith, s))) ends
signed_again symbols levels false (Pred p ts) table ok s d rest ends =
    let st = stands symbols Predicate (length ts) p table.distinct table.printable (few_args ts (omega (arith, s))) ok.0 in
    negative_again symbols levels p ts rest st (each_again symbols table.distinct table.printable ts levels ok.1 (omega (arith, d)) (omega (arith, s))) ends.follows
signed_again symbols levels true (Equal l r) table ok s d rest ends =
    ap (literal_read symbols levels) (append_assoc (term_text symbols l) (codes " = " ++ term_text symbols r) rest)
    ∙ equation_again symbols levels true l r table rest ok.0 (omega (arith, d)) (omega (arith, s)) (right_side symbols levels r table ok.1.0 (omega (arith, d)) (omega (arith, s))) ends.follows
signed_again symbols levels false (Equal l r) table ok s d rest ends =
    ap (literal_read symbols levels) (append_assoc (term_text symbols l) (codes " != " ++ term_text symbols r) rest)
    ∙ equation_again symbols levels false l r table rest ok.0 (omega (arith, d)) (omega (arith, s)) (right_side symbols levels r table ok.1.0 (omega (arith, d)) (omega (arith, s))) ends.follows

each_literal : (symbols : List Symbol) (levels : ℕ) (ls : List Literal) → Table symbols → AllByRecursion (λ l. IsAtomFormed symbols l.atom) ls → sum_by literal_size ls ≤ 65535 → greatest (map literal_depth ls) ≤ suc levels
    → AllByRecursion (ReadsLiteral symbols levels) ls
each_literal symbols levels [] table ok s d = tt
each_literal symbols levels (l ∷ ls) table ok s d =
    (signed_again symbols levels l.positive l.atom table ok.0 (omega (arith, s, sum_by-cons literal_size l ls)) (omega (arith, d)), each_literal symbols levels ls table ok.1 (omega (arith, s, sum_by-cons literal_size l ls)) (omega (arith, d)))

-- ---- clauses

literals_again : (symbols : List Symbol) (levels : ℕ) (ls : List Literal) (rest : List ℕ) → AllByRecursion (ReadsLiteral symbols levels) ls
    → clause_read symbols levels (literals_text symbols ls ++ rest) ≡ Some (record { literals = ls }, rest)
unfolding clause_read literals_read
literals_again symbols levels [] rest each = refl
literals_again symbols levels (l ∷ ls) rest each =
    let bar = codes " | " in
    let read : List ℕ → Option (Literal × List ℕ) = λ t. literal_read symbols levels t in
    let end : Option (List Literal × List ℕ) → Option (Clause × List ℕ) = λ r. r >>= λ xs. stripped (codes ")") xs.1 >>= λ behind. Some (record { literals = xs.0 }, behind) in
    let whole : joined_read bar read (separated bar (literal_text symbols) (l ∷ ls) ++ 41 ∷ rest) ≡ Some (l ∷ ls, 41 ∷ rest) =
    joined_again (ReadsLiteral symbols levels) Ends read (literal_text symbols) bar l ls (41 ∷ rest) (λ x behind ok ends. ok behind ends)
    (λ t. record { follows = record { stops = refl; closed = refl }; no_equal = refl; no_unequal = refl }) (omega arith) each
    (record { follows = record { stops = refl; closed = refl }; no_equal = refl; no_unequal = refl }) refl in
    ap (λ (t : List ℕ). end (joined_read bar read t)) (append_assoc (separated bar (literal_text symbols) (l ∷ ls)) (41 ∷ []) rest) ∙ ap end whole

pub clause_again : (symbols : List Symbol) (levels : ℕ) (c : Clause) (rest : List ℕ) → Table symbols → IsClauseFormed symbols c → clause_size c ≤ 65535 → greatest (map literal_depth c.literals) ≤ suc levels
    → clause_read symbols levels (clause_text symbols c ++ rest) ≡ Some (c, rest)
unfolding clause_text
clause_again symbols levels c rest table ok s d = literals_again symbols levels c.literals rest (each_literal symbols levels c.literals table ok s d)
