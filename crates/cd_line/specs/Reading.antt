-- Reading a derivation line: what its text has at each place, taken as it comes.
-- Beyond the headline: no clause of `prove` reaches this file.
use Rattle.std.specs.Prelude.{◌≡◌, ℕ, zero, suc, ◌+◌, ◌-◌, ◌*◌, ◌^◌, Bool, true, false, ◌&&◌, ◌||◌, ◌==◌, nat_le, nat_lt, if◌then◌else◌, List, [], ◌∷◌, ◌++◌, length, codes, Option, None, Some, bytes_eq}
use Rattle.std.specs.declared.result.Result.{Result}
use Rattle.std.specs.declared.result.Result.TheVariants.{Ok, Err}
use Rattle.cd_names.specs.declared.names.Name.{Name}
use Rattle.cd_term.specs.declared.Term.{Term}
use Rattle.cd_term.specs.declared.Term.TheVariants.{Var, App}
use Rattle.cd_clause.specs.declared.Atom.{Atom}
use Rattle.cd_clause.specs.declared.Atom.TheVariants.{Truth, Pred, Equal}
use Rattle.cd_clause.specs.declared.Literal.{Literal}
use Rattle.cd_clause.specs.declared.Clause.{Clause}
use Rattle.cd_symbols.specs.Symbol.{Symbol, symbol_of}
use Rattle.cd_symbols.specs.declared.Kind.{Kind}
use Rattle.cd_symbols.specs.declared.Kind.TheVariants.{Function, Predicate}
use Rattle.cd_steps.specs.declared.Step.{Step}
use Rattle.cd_steps.specs.declared.Step.TheVariants.{Input, Copy, Resolve, Factor, Refl, EqFac, Para, Rewrite, Tidy}
use Rattle.cd_parse.specs.declared.label.Label.{Label}
use Rattle.cd_parse.specs.declared.label.Label.TheVariants.{Word, Integer}
use Rattle.cd_parse.specs.declared.label.Role.{Role}
use Rattle.cd_parse.specs.declared.label.Role.TheVariants as roles
use Rattle.cd_lex.specs.Bytes.{is_digit, is_word_byte}
use Rattle.cd_line.specs.declared.reading.ReadFault.{ReadFault}
use Rattle.cd_line.specs.declared.reading.ReadFault.TheVariants as faults
use Rattle.cd_line.specs.declared.reading.Applied.{Applied}
use Rattle.cd_line.specs.declared.reading.Body.{Body}
use Rattle.cd_line.specs.declared.reading.Origin.{Origin}
use Rattle.cd_line.specs.declared.reading.Origin.TheVariants.{File, Rule}

infixl 10 ◌>>=◌
abbrev pub ◌>>=◌ : {A B : Type 0} → Option A → (A → Option B) → Option B
(Some x) >>= f = f x
None >>= f = None

-- what a function returned, seen by view, is what reading gives, unless memory ran out
abbrev pub Fails : {Y : Type 0} → ReadFault → Option Y → Type 0
Fails faults.Memory read = Unit {0}
Fails faults.Form read = read ≡ None

abbrev pub Gives : {X Y : Type 0} → (X → Y) → Result X ReadFault → Option Y → Type 0
Gives view (Ok x) read = read ≡ Some (view x)
Gives view (Err e) read = Fails e read

abbrev pub Answers : {X Y : Type 0} → (X → Y) → Option X → Option Y → Type 0
Answers view (Some x) read = read ≡ Some (view x)
Answers view None read = read ≡ None

-- one way where something is there, another where it isn't
abbrev pub either : {A B : Type 0} → Option A → (A → B) → B → B
either (Some x) f other = f x
either None f other = other

-- the bytes behind a front
abbrev pub stripped : List ℕ → List ℕ → Option (List ℕ)
stripped [] text = Some text
stripped (p ∷ ps) [] = None
stripped (p ∷ ps) (b ∷ bs) = if b == p then stripped ps bs else None

-- ---- numbers below 65,536, and runs of bytes

abbrev pub with_digit : ℕ → ℕ → Option ℕ
with_digit n d = if nat_lt (n * 10 + d) (2 ^ 16) then Some (n * 10 + d) else None

abbrev pub number_from : ℕ → List ℕ → Option (ℕ × List ℕ)
number_from n [] = Some (n, [])
number_from n (b ∷ bs) =
    if is_digit b then (if nat_lt (n * 10 + (b - 48)) (2 ^ 16) then number_from (n * 10 + (b - 48)) bs else None) else Some (n, b ∷ bs)

unfoldable pub number_read : List ℕ → Option (ℕ × List ℕ)
number_read text = number_from 0 text

abbrev pub with_first : {B : Type 0} → ℕ → Option (List ℕ × B) → Option (List ℕ × B)
with_first b read = read >>= λ x. Some (b ∷ x.0, x.1)

-- with items that were read before
abbrev pub with_front : {A B : Type 0} → List A → Option (List A × B) → Option (List A × B)
with_front front read = read >>= λ x. Some (front ++ x.0, x.1)

-- the bytes that pass, and those behind them
abbrev pub run_read : (ℕ → Bool) → List ℕ → Option (List ℕ × List ℕ)
run_read test [] = Some ([], [])
run_read test (b ∷ bs) = if test b then with_first b (run_read test bs) else Some ([], b ∷ bs)

-- behind an opening quote: what is meant, and the bytes behind the closing one
abbrev pub inside_read : Bool → List ℕ → Option (List ℕ × List ℕ)
inside_read escaped [] = None
inside_read true (b ∷ bs) = if nat_lt b 128 then with_first b (inside_read false bs) else None
inside_read false (b ∷ bs) =
    if b == 39 then Some ([], bs) else if b == 92 then inside_read true bs else if nat_lt b 128 then with_first b (inside_read false bs) else None

unfoldable pub quoted_read : List ℕ → Option (List ℕ × List ℕ)
quoted_read text = stripped (codes "'") text >>= λ rest. inside_read false rest

unfoldable pub word_read : List ℕ → Option (List ℕ × List ℕ)
word_read [] = None
word_read (b ∷ bs) = if b == 39 then inside_read false bs else run_read is_word_byte (b ∷ bs)

unfoldable pub label_read : List ℕ → Option (Label × List ℕ)
label_read [] = None
label_read (b ∷ bs) =
    if is_digit b then (run_read is_digit (b ∷ bs) >>= λ x. Some (Integer x.0, x.1)) else (word_read (b ∷ bs) >>= λ x. Some (Word x.0, x.1))

-- ---- lists of items

-- items between which something stands, at most so many
abbrev pub further_read : {A : Type 0} → List ℕ → (List ℕ → Option (A × List ℕ)) → ℕ → List ℕ → Option (List A × List ℕ)
further_read between read zero text = Some ([], text)
further_read {A} between read (suc n) text = next (λ rest. further_read between read n rest) (stripped between text)
  where
    next : (List ℕ → Option (List A × List ℕ)) → Option (List ℕ) → Option (List A × List ℕ)
    next others None = Some ([], text)
    next others (Some rest) = read rest >>= λ x. others x.1 >>= λ xs. Some (x.0 ∷ xs.0, xs.1)

abbrev pub joined_read : {A : Type 0} → List ℕ → (List ℕ → Option (A × List ℕ)) → List ℕ → Option (List A × List ℕ)
joined_read between read text = read text >>= λ x. further_read between read (length text) x.1 >>= λ xs. Some (x.0 ∷ xs.0, xs.1)

-- ---- symbols

abbrev pub kind_eq : Kind → Kind → Bool
kind_eq Function Function = true
kind_eq Predicate Predicate = true
kind_eq Function Predicate = false
kind_eq Predicate Function = false

abbrev pub symbol_eq : Symbol → Symbol → Bool
symbol_eq s t = bytes_eq s.text t.text && (s.arity == t.arity && kind_eq s.kind t.kind)

-- the first place of a symbol in the table
abbrev pub place_of : List Symbol → Symbol → Option ℕ
place_of [] s = None
place_of (t ∷ ts) s = if symbol_eq t s then Some 0 else (place_of ts s >>= λ n. Some (suc n))

-- the symbol of a word with so many arguments
unfoldable pub symbol_found : List Symbol → Kind → List ℕ → ℕ → Option ℕ
symbol_found symbols kind word count = if nat_lt count 65536 then place_of symbols (symbol_of word count kind) else None

-- ---- terms

abbrev pub variable_read : List ℕ → Option (Term × List ℕ)
variable_read text = number_read text >>= λ n. Some (Var n.0, n.1)

abbrev pub arguments_read : (List ℕ → Option (Term × List ℕ)) → List ℕ → Option (List ℕ) → Option (List Term × List ℕ)
arguments_read read behind None = Some ([], behind)
arguments_read read behind (Some inner) = joined_read (codes ",") read inner >>= λ ts. stripped (codes ")") ts.1 >>= λ rest. Some (ts.0, rest)

-- a word and its arguments
abbrev pub applied_read : (List ℕ → Option (Term × List ℕ)) → List ℕ → Option (Applied × List ℕ)
applied_read read text =
    word_read text >>= λ w. arguments_read read w.1 (stripped (codes "(") w.1) >>= λ a. Some (record { word = w.0; args = a.0 }, a.1)

abbrev pub made_term : List Symbol → Applied → Option Term
made_term symbols a = symbol_found symbols Function a.word (length a.args) >>= λ f. Some (App f a.args)

abbrev pub applied_term_read : List Symbol → (List ℕ → Option (Term × List ℕ)) → List ℕ → Option (Term × List ℕ)
applied_term_read symbols read text = applied_read read text >>= λ a. made_term symbols a.0 >>= λ t. Some (t, a.1)

-- a term of at most so many levels
abbrev pub term_read : List Symbol → ℕ → List ℕ → Option (Term × List ℕ)
term_read symbols zero text = None
term_read symbols (suc levels) text = either (stripped (codes "X") text) variable_read (applied_term_read symbols (λ t. term_read symbols levels t) text)

-- ---- clauses

abbrev pub made_predicate : List Symbol → Bool → Applied → Option Literal
made_predicate symbols positive a = symbol_found symbols Predicate a.word (length a.args) >>= λ p. Some (record { positive = positive; atom = Pred p a.args })

-- the right side of an equation
abbrev pub right_read : List Symbol → ℕ → Bool → Term → List ℕ → Option (Literal × List ℕ)
right_read symbols levels positive left text = term_read symbols levels text >>= λ t. Some (record { positive = positive; atom = Equal left t.0 }, t.1)

-- behind a variable on the left
unfoldable pub behind_variable : List Symbol → ℕ → Term → List ℕ → Option (Literal × List ℕ)
behind_variable symbols levels left text =
    either (stripped (codes " = ") text) (λ rest. right_read symbols levels true left rest)
    (either (stripped (codes " != ") text) (λ rest. right_read symbols levels false left rest) None)

abbrev pub left_read : List Symbol → ℕ → Bool → Applied → List ℕ → Option (Literal × List ℕ)
left_read symbols levels positive a text = made_term symbols a >>= λ left. right_read symbols levels positive left text

-- behind a word and arguments: the rest of an equation, or nothing, which makes it a predicate
unfoldable pub behind_applied : List Symbol → ℕ → Applied → List ℕ → Option (Literal × List ℕ)
behind_applied symbols levels a text =
    either (stripped (codes " = ") text) (λ rest. left_read symbols levels true a rest)
    (either (stripped (codes " != ") text) (λ rest. left_read symbols levels false a rest)
    (made_predicate symbols true a >>= λ l. Some (l, text)))

unfoldable pub negative_read : List Symbol → ℕ → List ℕ → Option (Literal × List ℕ)
negative_read symbols levels text = applied_read (λ t. term_read symbols levels t) text >>= λ a. made_predicate symbols false a.0 >>= λ l. Some (l, a.1)

unfoldable pub atom_read : List Symbol → ℕ → List ℕ → Option (Literal × List ℕ)
atom_read symbols levels text =
    either (stripped (codes "X") text) (λ rest. variable_read rest >>= λ v. behind_variable symbols (suc levels) v.0 v.1)
    (applied_read (λ t. term_read symbols levels t) text >>= λ a. behind_applied symbols (suc levels) a.0 a.1)

abbrev pub truth : Bool → Literal
truth positive = record { positive = positive; atom = Truth }

-- a literal whose arguments have at most so many levels, and whose sides one more
unfoldable pub literal_read : List Symbol → ℕ → List ℕ → Option (Literal × List ℕ)
literal_read symbols levels text =
    either (stripped (codes "$true") text) (λ rest. Some (truth true, rest))
    (either (stripped (codes "$false") text) (λ rest. Some (truth false, rest))
    (either (stripped (codes "~") text) (λ rest. negative_read symbols levels rest) (atom_read symbols levels text)))

unfoldable pub literals_read : List Symbol → ℕ → List ℕ → Option (Clause × List ℕ)
literals_read symbols levels text =
    stripped (codes "(") text >>= λ inner. joined_read (codes " | ") (λ t. literal_read symbols levels t) inner >>= λ ls.
    stripped (codes ")") ls.1 >>= λ rest. Some (record { literals = ls.0 }, rest)

unfoldable pub clause_read : List Symbol → ℕ → List ℕ → Option (Clause × List ℕ)
clause_read symbols levels text = either (stripped (codes "$false") text) (λ rest. Some (record { literals = [] }, rest)) (literals_read symbols levels text)

-- ---- rules

-- terms that may be none, up to a bracket
unfoldable pub terms_read : List Symbol → ℕ → List ℕ → Option (List Term × List ℕ)
terms_read symbols levels text = either (stripped (codes "]") text) (λ _. Some ([], text)) (joined_read (codes ",") (λ t. term_read symbols levels t) text)

-- the substitution, behind the places of a rule
unfoldable pub subst_read : List Symbol → ℕ → List ℕ → Option (List Term × List ℕ)
subst_read symbols levels text =
    stripped (codes "),subst([") text >>= λ inner. terms_read symbols levels inner >>= λ ts. stripped (codes "])]") ts.1 >>= λ rest. Some (ts.0, rest)

unfoldable pub path_read : List ℕ → Option (List ℕ × List ℕ)
path_read text = stripped (codes ",[") text >>= λ inner. joined_read (codes ",") number_read inner >>= λ ns. stripped (codes "]") ns.1 >>= λ rest. Some (ns.0, rest)

-- one number, and further numbers behind commas
abbrev pub next_read : List ℕ → Option (ℕ × List ℕ)
next_read text = stripped (codes ",") text >>= λ rest. number_read rest

-- a side is 0 or 1
abbrev pub first_side_read : List ℕ → Option (ℕ × List ℕ)
first_side_read text = number_read text >>= λ n. if nat_lt n.0 2 then Some n else None

abbrev pub side_read : List ℕ → Option (ℕ × List ℕ)
side_read text = stripped (codes ",") text >>= λ rest. first_side_read rest

-- the name that a step has that was read
abbrev pub no_name : Name
no_name = record { peer = 0; seq = 0 }

unfoldable pub resolve_read : List Symbol → ℕ → List ℕ → Option (Step × List ℕ)
resolve_read symbols levels text =
    number_read text >>= λ i. next_read i.1 >>= λ j. subst_read symbols levels j.1 >>= λ s. Some (Resolve no_name i.0 no_name j.0 s.0, s.1)

unfoldable pub factor_read : List Symbol → ℕ → List ℕ → Option (Step × List ℕ)
factor_read symbols levels text =
    number_read text >>= λ i. next_read i.1 >>= λ j. subst_read symbols levels j.1 >>= λ s. Some (Factor no_name i.0 j.0 s.0, s.1)

unfoldable pub refl_read : List Symbol → ℕ → List ℕ → Option (Step × List ℕ)
refl_read symbols levels text = number_read text >>= λ i. subst_read symbols levels i.1 >>= λ s. Some (Refl no_name i.0 s.0, s.1)

unfoldable pub eqfac_read : List Symbol → ℕ → List ℕ → Option (Step × List ℕ)
eqfac_read symbols levels text =
    number_read text >>= λ i. side_read i.1 >>= λ s. next_read s.1 >>= λ j. side_read j.1 >>= λ z. subst_read symbols levels z.1 >>= λ sub.
    Some (EqFac no_name i.0 s.0 j.0 z.0 sub.0, sub.1)

unfoldable pub para_read : List Symbol → ℕ → List ℕ → Option (Step × List ℕ)
para_read symbols levels text =
    number_read text >>= λ i. side_read i.1 >>= λ s. next_read s.1 >>= λ j. path_read j.1 >>= λ at. subst_read symbols levels at.1 >>= λ sub.
    Some (Para no_name i.0 s.0 no_name j.0 at.0 sub.0, sub.1)

unfoldable pub rewrite_read : List Symbol → ℕ → List ℕ → Option (Step × List ℕ)
rewrite_read symbols levels text =
    first_side_read text >>= λ s. next_read s.1 >>= λ j. path_read j.1 >>= λ at. subst_read symbols levels at.1 >>= λ sub.
    Some (Rewrite no_name s.0 j.0 at.0 sub.0, sub.1)

-- one rule after another is looked for
unfoldable pub rule_read : List Symbol → ℕ → List ℕ → Option (Step × List ℕ)
rule_read symbols levels text =
    either (stripped (codes "resolve,[status(thm),at(") text) (λ rest. resolve_read symbols levels rest)
    (either (stripped (codes "factor,[status(thm),at(") text) (λ rest. factor_read symbols levels rest)
    (either (stripped (codes "refl,[status(thm),at(") text) (λ rest. refl_read symbols levels rest)
    (either (stripped (codes "eqfac,[status(thm),at(") text) (λ rest. eqfac_read symbols levels rest)
    (either (stripped (codes "para,[status(thm),at(") text) (λ rest. para_read symbols levels rest)
    (either (stripped (codes "rewrite,[status(thm),at(") text) (λ rest. rewrite_read symbols levels rest)
    (either (stripped (codes "tidy,[status(thm)]") text) (λ rest. Some (Tidy, rest)) None))))))

-- ---- what stands between the number of a line and the names of its parents

unfoldable pub role_read : List ℕ → Option (Role × List ℕ)
role_read text =
    either (stripped (codes "axiom") text) (λ rest. Some (roles.Axiom, rest))
    (either (stripped (codes "hypothesis") text) (λ rest. Some (roles.Hypothesis, rest))
    (either (stripped (codes "definition") text) (λ rest. Some (roles.Definition, rest))
    (either (stripped (codes "assumption") text) (λ rest. Some (roles.Assumption, rest))
    (either (stripped (codes "lemma") text) (λ rest. Some (roles.Lemma, rest))
    (either (stripped (codes "theorem") text) (λ rest. Some (roles.Theorem, rest))
    (either (stripped (codes "corollary") text) (λ rest. Some (roles.Corollary, rest))
    (either (stripped (codes "negated_conjecture") text) (λ rest. Some (roles.NegatedConjecture, rest))
    (either (stripped (codes "plain") text) (λ rest. Some (roles.Plain, rest)) None))))))))

unfoldable pub file_read : Role → List ℕ → Option (Origin × List ℕ)
file_read role text =
    quoted_read text >>= λ path. stripped (codes ",") path.1 >>= λ second. label_read second >>= λ label.
    stripped (codes ")") label.1 >>= λ rest. Some (File role path.0 label.0, rest)

unfoldable pub inference_read : List Symbol → ℕ → List ℕ → Option (Origin × List ℕ)
inference_read symbols levels text =
    stripped (codes "inference(") text >>= λ inner. rule_read symbols levels inner >>= λ step. stripped (codes ",[") step.1 >>= λ rest. Some (Rule step.0, rest)

unfoldable pub origin_read : List Symbol → ℕ → Role → List ℕ → Option (Origin × List ℕ)
origin_read symbols levels role text = either (stripped (codes "file(") text) (λ rest. file_read role rest) (inference_read symbols levels text)

unfoldable pub body_read : List Symbol → ℕ → List ℕ → Option (Body × List ℕ)
body_read symbols levels text =
    role_read text >>= λ role. stripped (codes ",") role.1 >>= λ second. clause_read symbols levels second >>= λ clause.
    stripped (codes ",") clause.1 >>= λ third. origin_read symbols (suc levels) role.0 third >>= λ origin.
    Some (record { clause = clause.0; origin = origin.0 }, origin.1)
