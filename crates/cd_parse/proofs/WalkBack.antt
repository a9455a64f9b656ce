use Rattle.std.proofs.Common.{◌≡◌, ◌≢◌, ◌∙◌, ◌⊎◌, inl, inr, ◌++◌, ◌∷◌, [], ℕ, Bool, true, false, List, Option, None, Some, refl, sym, ap, subst, append_assoc, codes, if◌then◌else◌}
use Rattle.std.specs.Str.{bytes_eq}
use Rattle.cd_parse.specs.declared.terminal.Terminal.{Terminal}
use Rattle.cd_parse.specs.declared.terminal.Terminal.TheVariants.{Word, Upper, Truth, Digits, Foreign, Sign, Other}
use Rattle.cd_parse.specs.declared.terminal.Sign.TheVariants.{Left, Right, OpenSquare, CloseSquare, Comma, Dot, Equal, Unequal, Tilde, Bar}
use Rattle.cd_parse.specs.declared.label.Label.{Label}
use Rattle.cd_parse.specs.declared.label.Label.TheVariants as label
use Rattle.cd_parse.specs.declared.label.Role.{Role}
use Rattle.cd_parse.specs.declared.label.Role.TheVariants as role
use Rattle.cd_parse.specs.declared.label.What.TheVariants as what
use Rattle.cd_parse.specs.declared.statement.Statement.{Statement}
use Rattle.cd_parse.specs.declared.statement.Statement.TheVariants.{Clause, Include}
use Rattle.cd_parse.specs.Stages.{Stage, Begin, ClauseOpen, ClauseLabel, BehindLabel, ClauseRole, BehindRole, Formula, Notes, WantDot, Done, IncludeOpen, Path, BehindPath, ListOpen, ListLabel, BehindItem, ListClosed}
use Rattle.cd_parse.specs.Grammar.{Terminals, IsFormula}
use Rattle.cd_parse.specs.Statements.{IsLabel, named, numbered, AreLabels, last, further, role_word, is_bracket, Balanced, empty, other, round, square, AreNotes, without, notes, keyword, IsStatementIn, clause, whole, listed}
use Rattle.cd_parse.specs.Steps.{Machine, Step, inside, ended, fault, step}
use Rattle.cd_parse.specs.Stages.{Advance, to, wrong, stop, role_of, is_language, begin_step, role_step, started, close_round, close_square, notes_step, formula_end, formula_step, advance, walk, walk_on}
use Rattle.cd_parse.proofs.Back.{TreeLiterals, Rest, Leads, back, start_back}
use Rattle.std.proofs.lemmas.Slice.Eq.{bytes_eq-Decides}

-- what the machine reads, the grammar spells

abbrev pub DotRest : Statement → Terminals → Statement → Type 0
DotRest s ts raw = (ts ≡ Sign Dot ∷ []) × (raw ≡ s)

abbrev pub bracket : Bool → Terminal
bracket b = if b then Sign Right else Sign CloseSquare

-- inside notes
abbrev pub NotesRest : Statement → Statement → List Bool → Bool → Terminals → Type 0
NotesRest raw s [] some ts = (ns vs : Terminals) × Balanced ns × (some ≡ false → ns ≢ []) × (ts ≡ ns ++ Sign Right ∷ vs) × DotRest s vs raw
NotesRest raw s (b ∷ bs) some ts = (ns vs : Terminals) × Balanced ns × (ts ≡ ns ++ bracket b ∷ vs) × NotesRest raw s bs true vs

-- behind a formula
abbrev pub TailRest : Statement → Label → Role → TreeLiterals → Terminals → Type 0
TailRest raw l r ls ts = (ns : Terminals) × AreNotes ns × (ts ≡ ns ++ Sign Right ∷ Sign Dot ∷ []) × (raw ≡ Clause l r ls)

abbrev pub FormulaRest : ℕ → Statement → Label → Role → Terminals → Type 0
FormulaRest n raw l r ts = (xs vs : Terminals) × (ls : TreeLiterals) × IsFormula n xs ls × (ts ≡ xs ++ vs) × TailRest raw l r ls vs

abbrev pub RoleRest : ℕ → Statement → Label → Terminals → Type 0
RoleRest n raw l ts = (r : Role) × (us : Terminals) × (ts ≡ keyword (role_word r) ∷ Sign Comma ∷ us) × FormulaRest n raw l r us

abbrev pub LabelRest : ℕ → Statement → Terminals → Type 0
LabelRest n raw ts = (t : Terminal) × (l : Label) × (us : Terminals) × IsLabel t l × (ts ≡ t ∷ Sign Comma ∷ us) × RoleRest n raw l us

abbrev pub list_end : Terminals
list_end = Sign CloseSquare ∷ Sign Right ∷ Sign Dot ∷ []

abbrev pub ListRest : Statement → List ℕ → List Label → Terminals → Type 0
ListRest raw p ls ts = (us : Terminals) × (ms : List Label) × AreLabels us ms × (ts ≡ us ++ list_end) × (raw ≡ Include p (Some (ls ++ ms)))

abbrev pub ItemRest : Statement → List ℕ → List Label → Terminals → Type 0
ItemRest raw p ls ts = ((ts ≡ list_end) × (raw ≡ Include p (Some ls))) ⊎ ((us : Terminals) × (ts ≡ Sign Comma ∷ us) × ListRest raw p ls us)

abbrev pub PathRest : Statement → List ℕ → Terminals → Type 0
PathRest raw p ts = ((ts ≡ Sign Right ∷ Sign Dot ∷ []) × (raw ≡ Include p None))
    ⊎ ((us : Terminals) × (ts ≡ Sign Comma ∷ Sign OpenSquare ∷ us) × ListRest raw p [] us)

abbrev pub Expects : ℕ → Statement → Stage → Terminals → Type 0
Expects n raw Begin ts = IsStatementIn n ts raw
Expects n raw ClauseOpen ts = (us : Terminals) × (ts ≡ Sign Left ∷ us) × LabelRest n raw us
Expects n raw ClauseLabel ts = LabelRest n raw ts
Expects n raw (BehindLabel l) ts = (us : Terminals) × (ts ≡ Sign Comma ∷ us) × RoleRest n raw l us
Expects n raw (ClauseRole l) ts = RoleRest n raw l ts
Expects n raw (BehindRole l r) ts = (us : Terminals) × (ts ≡ Sign Comma ∷ us) × FormulaRest n raw l r us
Expects n raw (Formula l r m) ts = Rest (TailRest raw l r) m ts
Expects n raw (Notes s bs some) ts = NotesRest raw s bs some ts
Expects n raw (WantDot s) ts = DotRest s ts raw
Expects n raw (Done s) ts = (ts ≡ []) × (raw ≡ s)
Expects n raw IncludeOpen ts = (p : List ℕ) × (us : Terminals) × (ts ≡ Sign Left ∷ Word true p ∷ us) × PathRest raw p us
Expects n raw Path ts = (p : List ℕ) × (us : Terminals) × (ts ≡ Word true p ∷ us) × PathRest raw p us
Expects n raw (BehindPath p) ts = PathRest raw p ts
Expects n raw (ListOpen p) ts = (us : Terminals) × (ts ≡ Sign OpenSquare ∷ us) × ListRest raw p [] us
Expects n raw (ListLabel p ls) ts = ListRest raw p ls ts
Expects n raw (BehindItem p ls) ts = ItemRest raw p ls ts
Expects n raw (ListClosed p ls) ts = (ts ≡ Sign Right ∷ Sign Dot ∷ []) × (raw ≡ Include p (Some ls))

abbrev pub Comes : ℕ → Statement → Terminals → Advance → Type 0
Comes n raw ts (to st) = Expects n raw st ts
Comes n raw ts (wrong w) = ⊥

-- ---- one step

statement_of : (n : ℕ) (raw : Statement) (ts : Terminals) → (us : Terminals) × (ts ≡ Sign Left ∷ us) × LabelRest n raw us
    → IsStatementIn n (keyword (codes "cnf") ∷ ts) raw
statement_of n raw ts (us, e, (t, l, vs, lab, f, (r, ws, g, (xs, ys, ls, d, h, (ns, are, k, is))))) =
    let whole_is : ts ≡ Sign Left ∷ t ∷ Sign Comma ∷ keyword (role_word r) ∷ Sign Comma ∷ (xs ++ (ns ++ Sign Right ∷ Sign Dot ∷ []))
    = e ∙ ap (λ (u : Terminals). Sign Left ∷ u) (f ∙ ap (λ (u : Terminals). t ∷ Sign Comma ∷ u) (g ∙ ap (λ (u : Terminals). keyword (role_word r) ∷ Sign Comma ∷ u) (h ∙ ap (λ (u : Terminals). xs ++ u) k))) in
    subst (λ (u : Terminals). IsStatementIn n (keyword (codes "cnf") ∷ u) raw) (sym whole_is)
    (subst (IsStatementIn n _) (sym is) (clause t l r xs ns ls lab d are))

include_of : (n : ℕ) (raw : Statement) (p : List ℕ) (us : Terminals) → PathRest raw p us
    → IsStatementIn n (keyword (codes "include") ∷ Sign Left ∷ Word true p ∷ us) raw
include_of n raw p us (inl (e, is)) =
    subst (λ (u : Terminals). IsStatementIn n (keyword (codes "include") ∷ Sign Left ∷ Word true p ∷ u) raw) (sym e)
    (subst (IsStatementIn n _) (sym is) (whole p))
include_of n raw p us (inr (vs, e, (ws, ms, d, f, is))) =
    subst (λ (u : Terminals). IsStatementIn n (keyword (codes "include") ∷ Sign Left ∷ Word true p ∷ u) raw)
    (sym (e ∙ ap (λ (u : Terminals). Sign Comma ∷ Sign OpenSquare ∷ u) f))
    (subst (IsStatementIn n _) (sym is) (listed p ws ms d))

begin_back : (n : ℕ) (raw : Statement) (w : List ℕ) (ts : Terminals) → Comes n raw ts (begin_step w)
    → IsStatementIn n (Word false w ∷ ts) raw
begin_back n raw w ts = cnf (bytes_eq w (codes "cnf")) (bytes_eq-Decides w (codes "cnf")).0
  where
    language : (b : Bool) → Comes n raw ts (if b then wrong what.Language else stop) → IsStatementIn n (Word false w ∷ ts) raw
    language true h = absurd h
    language false h = absurd h

    includes : (b : Bool) → (b ≡ true → w ≡ codes "include")
        → Comes n raw ts (if b then to IncludeOpen else if is_language w then wrong what.Language else stop)
        → IsStatementIn n (Word false w ∷ ts) raw
    includes true is (p, us, e, rest) =
        subst (λ (v : List ℕ). IsStatementIn n (Word false v ∷ ts) raw) (sym (is refl))
        (subst (λ (u : Terminals). IsStatementIn n (keyword (codes "include") ∷ u) raw) (sym e) (include_of n raw p us rest))
    includes false is h = language (is_language w) h

    cnf : (b : Bool) → (b ≡ true → w ≡ codes "cnf")
        → Comes n raw ts (if b then to ClauseOpen else if bytes_eq w (codes "include") then to IncludeOpen else if is_language w then wrong what.Language else stop)
        → IsStatementIn n (Word false w ∷ ts) raw
    cnf true is h = subst (λ (v : List ℕ). IsStatementIn n (Word false v ∷ ts) raw) (sym (is refl)) (statement_of n raw ts h)
    cnf false is h = includes (bytes_eq w (codes "include")) (bytes_eq-Decides w (codes "include")).0 h

abbrev word_or : Option Role → List ℕ
word_or None = []
word_or (Some r) = role_word r

-- a word is the role's
role_is : (w : List ℕ) (r : Role) → role_of w ≡ Some r → w ≡ role_word r
role_is w r = at0
  where
    at9 : None ≡ Some r → w ≡ role_word r
    at9 e = absurd (cc)

    at8 : (if bytes_eq w (codes "plain") then Some role.Plain else None) ≡ Some r → w ≡ role_word r
    at8 = go (bytes_eq w (codes "plain")) (bytes_eq-Decides w (codes "plain")).0
      where
        go : (b : Bool) → (b ≡ true → w ≡ codes "plain") → (if b then Some role.Plain else None) ≡ Some r → w ≡ role_word r
        go true is e = is refl ∙ ap (λ o. word_or o) e
        go false is e = at9 e

    at7 : (if bytes_eq w (codes "negated_conjecture") then Some role.NegatedConjecture else (if bytes_eq w (codes "plain") then Some role.Plain else None)) ≡ Some r → w ≡ role_word r
    at7 = go (bytes_eq w (codes "negated_conjecture")) (bytes_eq-Decides w (codes "negated_conjecture")).0
      where
        go : (b : Bool) → (b ≡ true → w ≡ codes "negated_conjecture")
            → (if b then Some role.NegatedConjecture else (if bytes_eq w (codes "plain") then Some role.Plain else None)) ≡ Some r
            → w ≡ role_word r
        go true is e = is refl ∙ ap (λ o. word_or o) e
        go false is e = at8 e

    at6 : (if bytes_eq w (codes "corollary") then Some role.Corollary else (if bytes_eq w (codes "negated_conjecture") then Some role.NegatedConjecture else (if bytes_eq w (codes "plain") then Some role.Plain else None))) ≡ Some r → w ≡ role_word r
    at6 = go (bytes_eq w (codes "corollary")) (bytes_eq-Decides w (codes "corollary")).0
      where
        go : (b : Bool) → (b ≡ true → w ≡ codes "corollary")
            → (if b then Some role.Corollary else (if bytes_eq w (codes "negated_conjecture") then Some role.NegatedConjecture else (if bytes_eq w (codes "plain") then Some role.Plain else None))) ≡ Some r → w ≡ role_word r
        go true is e = is refl ∙ ap (λ o. word_or o) e
        go false is e = at7 e

    at5 : (if bytes_eq w (codes "theorem") then Some role.Theorem else (if bytes_eq w (codes "corollary") then Some role.Corollary else (if bytes_eq w (codes "negated_conjecture") then Some role.NegatedConjecture else (if bytes_eq w (codes "plain") then Some role.Plain else None)))) ≡ Some r → w ≡ role_word r
    at5 = go (bytes_eq w (codes "theorem")) (bytes_eq-Decides w (codes "theorem")).0
      where
        go : (b : Bool) → (b ≡ true → w ≡ codes "theorem")
            → (if b then Some role.Theorem else (if bytes_eq w (codes "corollary") then Some role.Corollary else (if bytes_eq w (codes "negated_conjecture") then Some role.NegatedConjecture else (if bytes_eq w (codes "plain") then Some role.Plain else None)))) ≡ Some r → w ≡ role_word r
        go true is e = is refl ∙ ap (λ o. word_or o) e
        go false is e = at6 e

    at4 : (if bytes_eq w (codes "lemma") then Some role.Lemma else (if bytes_eq w (codes "theorem") then Some role.Theorem else (if bytes_eq w (codes "corollary") then Some role.Corollary else (if bytes_eq w (codes "negated_conjecture") then Some role.NegatedConjecture else (if bytes_eq w (codes "plain") then Some role.Plain else None))))) ≡ Some r → w ≡ role_word r
    at4 = go (bytes_eq w (codes "lemma")) (bytes_eq-Decides w (codes "lemma")).0
      where
        go : (b : Bool) → (b ≡ true → w ≡ codes "lemma")
            → (if b then Some role.Lemma else (if bytes_eq w (codes "theorem") then Some role.Theorem else (if bytes_eq w (codes "corollary") then Some role.Corollary else (if bytes_eq w (codes "negated_conjecture") then Some role.NegatedConjecture else (if bytes_eq w (codes "plain") then Some role.Plain else None))))) ≡ Some r → w ≡ role_word r
        go true is e = is refl ∙ ap (λ o. word_or o) e
        go false is e = at5 e

    at3 : (if bytes_eq w (codes "assumption") then Some role.Assumption else (if bytes_eq w (codes "lemma") then Some role.Lemma else (if bytes_eq w (codes "theorem") then Some role.Theorem else (if bytes_eq w (codes "corollary") then Some role.Corollary else (if bytes_eq w (codes "negated_conjecture") then Some role.NegatedConjecture else (if bytes_eq w (codes "plain") then Some role.Plain else None)))))) ≡ Some r → w ≡ role_word r
    at3 = go (bytes_eq w (codes "assumption")) (bytes_eq-Decides w (codes "assumption")).0
      where
        go : (b : Bool) → (b ≡ true → w ≡ codes "assumption")
            → (if b then Some role.Assumption else (if bytes_eq w (codes "lemma") then Some role.Lemma else (if bytes_eq w (codes "theorem") then Some role.Theorem else (if bytes_eq w (codes "corollary") then Some role.Corollary else (if bytes_eq w (codes "negated_conjecture") then Some role.NegatedConjecture else (if bytes_eq w (codes "plain") then Some role.Plain else None)))))) ≡ Some r → w ≡ role_word r
        go true is e = is refl ∙ ap (λ o. word_or o) e
        go false is e = at4 e

    at2 : (if bytes_eq w (codes "definition") then Some role.Definition else (if bytes_eq w (codes "assumption") then Some role.Assumption else (if bytes_eq w (codes "lemma") then Some role.Lemma else (if bytes_eq w (codes "theorem") then Some role.Theorem else (if bytes_eq w (codes "corollary") then Some role.Corollary else (if bytes_eq w (codes "negated_conjecture") then Some role.NegatedConjecture else (if bytes_eq w (codes "plain") then Some role.Plain else None))))))) ≡ Some r → w ≡ role_word r
    at2 = go (bytes_eq w (codes "definition")) (bytes_eq-Decides w (codes "definition")).0
      where
        go : (b : Bool) → (b ≡ true → w ≡ codes "definition")
            → (if b then Some role.Definition else (if bytes_eq w (codes "assumption") then Some role.Assumption else (if bytes_eq w (codes "lemma") then Some role.Lemma else (if bytes_eq w (codes "theorem") then Some role.Theorem else (if bytes_eq w (codes "corollary") then Some role.Corollary else (if bytes_eq w (codes "negated_conjecture") then Some role.NegatedConjecture else (if bytes_eq w (codes "plain") then Some role.Plain else None))))))) ≡ Some r → w ≡ role_word r
        go true is e = is refl ∙ ap (λ o. word_or o) e
        go false is e = at3 e

    at1 : (if bytes_eq w (codes "hypothesis") then Some role.Hypothesis else (if bytes_eq w (codes "definition") then Some role.Definition else (if bytes_eq w (codes "assumption") then Some role.Assumption else (if bytes_eq w (codes "lemma") then Some role.Lemma else (if bytes_eq w (codes "theorem") then Some role.Theorem else (if bytes_eq w (codes "corollary") then Some role.Corollary else (if bytes_eq w (codes "negated_conjecture") then Some role.NegatedConjecture else (if bytes_eq w (codes "plain") then Some role.Plain else None)))))))) ≡ Some r → w ≡ role_word r
    at1 = go (bytes_eq w (codes "hypothesis")) (bytes_eq-Decides w (codes "hypothesis")).0
      where
        go : (b : Bool) → (b ≡ true → w ≡ codes "hypothesis")
            → (if b then Some role.Hypothesis else (if bytes_eq w (codes "definition") then Some role.Definition else (if bytes_eq w (codes "assumption") then Some role.Assumption else (if bytes_eq w (codes "lemma") then Some role.Lemma else (if bytes_eq w (codes "theorem") then Some role.Theorem else (if bytes_eq w (codes "corollary") then Some role.Corollary else (if bytes_eq w (codes "negated_conjecture") then Some role.NegatedConjecture else (if bytes_eq w (codes "plain") then Some role.Plain else None)))))))) ≡ Some r → w ≡ role_word r
        go true is e = is refl ∙ ap (λ o. word_or o) e
        go false is e = at2 e

    at0 : (if bytes_eq w (codes "axiom") then Some role.Axiom else (if bytes_eq w (codes "hypothesis") then Some role.Hypothesis else (if bytes_eq w (codes "definition") then Some role.Definition else (if bytes_eq w (codes "assumption") then Some role.Assumption else (if bytes_eq w (codes "lemma") then Some role.Lemma else (if bytes_eq w (codes "theorem") then Some role.Theorem else (if bytes_eq w (codes "corollary") then Some role.Corollary else (if bytes_eq w (codes "negated_conjecture") then Some role.NegatedConjecture else (if bytes_eq w (codes "plain") then Some role.Plain else None))))))))) ≡ Some r → w ≡ role_word r
    at0 = go (bytes_eq w (codes "axiom")) (bytes_eq-Decides w (codes "axiom")).0
      where
        go : (b : Bool) → (b ≡ true → w ≡ codes "axiom")
            → (if b then Some role.Axiom else (if bytes_eq w (codes "hypothesis") then Some role.Hypothesis else (if bytes_eq w (codes "definition") then Some role.Definition else (if bytes_eq w (codes "assumption") then Some role.Assumption else (if bytes_eq w (codes "lemma") then Some role.Lemma else (if bytes_eq w (codes "theorem") then Some role.Theorem else (if bytes_eq w (codes "corollary") then Some role.Corollary else (if bytes_eq w (codes "negated_conjecture") then Some role.NegatedConjecture else (if bytes_eq w (codes "plain") then Some role.Plain else None))))))))) ≡ Some r → w ≡ role_word r
        go true is e = is refl ∙ ap (λ o. word_or o) e
        go false is e = at1 e

role_back : (n : ℕ) (raw : Statement) (l : Label) (w : List ℕ) (ts : Terminals) → Comes n raw ts (role_step l (role_of w))
    → RoleRest n raw l (Word false w ∷ ts)
role_back n raw l w ts = go (role_of w) (role_is w)
  where
    go : (o : Option Role) → ((r : Role) → o ≡ Some r → w ≡ role_word r) → Comes n raw ts (role_step l o)
        → RoleRest n raw l (Word false w ∷ ts)
    go None is h = absurd h
    go (Some r) is (us, e, rest) =
        (r, us, ap (λ (v : List ℕ). Word false v ∷ ts) (is r refl) ∙ ap (λ (u : Terminals). keyword (role_word r) ∷ u) e, rest)

-- ---- notes

-- a bracket that opens
abbrev opening : Bool → Terminal
opening b = if b then Sign Left else Sign OpenSquare

bracketed : (b : Bool) (ts us : Terminals) → Balanced ts → Balanced us → Balanced (opening b ∷ (ts ++ bracket b ∷ us))
bracketed true ts us d e = round ts us d e
bracketed false ts us d e = square ts us d e

opened_back : (raw s : Statement) (b : Bool) (bs : List Bool) (some : Bool) (ts : Terminals) → NotesRest raw s (b ∷ bs) true ts
    → NotesRest raw s bs some (opening b ∷ ts)
opened_back raw s b [] some ts (ns, vs, d, e, (ms, ws, f, more, g, dot)) = (
  opening b ∷ (ns ++ bracket b ∷ ms),
  ws,
  bracketed b ns ms d f,
  λ _ x. cc,
  ap (λ (u : Terminals). opening b ∷ u)
      (e ∙ ap (λ (u : Terminals). ns ++ bracket b ∷ u) g ∙ sym (append_assoc ns (bracket b ∷ ms) (Sign Right ∷ ws))),
  dot,
)
opened_back raw s b (c ∷ bs) some ts (ns, vs, d, e, (ms, ws, f, g, rest)) = (
  opening b ∷ (ns ++ bracket b ∷ ms),
  ws,
  bracketed b ns ms d f,
  ap (λ (u : Terminals). opening b ∷ u)
      (e ∙ ap (λ (u : Terminals). ns ++ bracket b ∷ u) g ∙ sym (append_assoc ns (bracket b ∷ ms) (bracket c ∷ ws))),
  rest,
)

other_back : (raw s : Statement) (bs : List Bool) (some : Bool) (t : Terminal) (ts : Terminals) → is_bracket t ≡ false
    → NotesRest raw s bs true ts → NotesRest raw s bs some (t ∷ ts)
other_back raw s [] some t ts plain (ns, vs, d, more, e, dot) =
    (t ∷ ns, vs, other t ns plain d, λ _ x. cc, ap (λ (u : Terminals). t ∷ u) e, dot)
other_back raw s (b ∷ bs) some t ts plain (ns, vs, d, e, rest) = (t ∷ ns, vs, other t ns plain d, ap (λ (u : Terminals). t ∷ u) e, rest)

round_back : (n : ℕ) (raw s : Statement) (bs : List Bool) (some : Bool) (ts : Terminals) → Comes n raw ts (close_round s bs some)
    → NotesRest raw s bs some (Sign Right ∷ ts)
round_back n raw s [] true ts h = ([], ts, empty, λ e. absurd (cc), refl, h)
round_back n raw s [] false ts h = absurd h
round_back n raw s (true ∷ bs) some ts h = ([], ts, empty, refl, h)
round_back n raw s (false ∷ bs) some ts h = absurd h

square_back : (n : ℕ) (raw s : Statement) (bs : List Bool) (some : Bool) (ts : Terminals) → Comes n raw ts (close_square s bs)
    → NotesRest raw s bs some (Sign CloseSquare ∷ ts)
square_back n raw s [] some ts h = absurd h
square_back n raw s (true ∷ bs) some ts h = absurd h
square_back n raw s (false ∷ bs) some ts h = ([], ts, empty, refl, h)

notes_back : (n : ℕ) (raw s : Statement) (bs : List Bool) (some : Bool) (t : Terminal) (ts : Terminals)
    → Comes n raw ts (notes_step s bs some t) → NotesRest raw s bs some (t ∷ ts)
notes_back n raw s bs some (Word q w) ts h = other_back raw s bs some (Word q w) ts refl h
notes_back n raw s bs some (Upper x) ts h = other_back raw s bs some (Upper x) ts refl h
notes_back n raw s bs some (Truth b) ts h = other_back raw s bs some (Truth b) ts refl h
notes_back n raw s bs some (Digits d) ts h = other_back raw s bs some (Digits d) ts refl h
notes_back n raw s bs some (Foreign f) ts h = other_back raw s bs some (Foreign f) ts refl h
notes_back n raw s bs some (Sign Left) ts h = opened_back raw s true bs some ts h
notes_back n raw s bs some (Sign Right) ts h = round_back n raw s bs some ts h
notes_back n raw s bs some (Sign OpenSquare) ts h = opened_back raw s false bs some ts h
notes_back n raw s bs some (Sign CloseSquare) ts h = square_back n raw s bs some ts h
notes_back n raw s bs some (Sign Comma) ts h = other_back raw s bs some (Sign Comma) ts refl h
notes_back n raw s bs some (Sign Dot) ts h = other_back raw s bs some (Sign Dot) ts refl h
notes_back n raw s bs some (Sign Equal) ts h = other_back raw s bs some (Sign Equal) ts refl h
notes_back n raw s bs some (Sign Unequal) ts h = other_back raw s bs some (Sign Unequal) ts refl h
notes_back n raw s bs some (Sign Tilde) ts h = other_back raw s bs some (Sign Tilde) ts refl h
notes_back n raw s bs some (Sign Bar) ts h = other_back raw s bs some (Sign Bar) ts refl h
notes_back n raw s bs some Other ts h = other_back raw s bs some Other ts refl h

-- ---- behind a formula

tail_back : (n : ℕ) (raw : Statement) (l : Label) (r : Role) (ls : TreeLiterals) (t : Terminal) (ts : Terminals)
    → Comes n raw ts (formula_end (Clause l r ls) t) → TailRest raw l r ls (t ∷ ts)
tail_back n raw l r ls (Sign Comma) ts (ns, vs, d, some, e, (dot, is)) =
    (Sign Comma ∷ ns, notes ns d (some refl), ap (λ (u : Terminals). Sign Comma ∷ u) (e ∙ ap (λ (u : Terminals). ns ++ Sign Right ∷ u) dot), is)
tail_back n raw l r ls (Sign Right) ts (dot, is) = ([], without, ap (λ (u : Terminals). Sign Right ∷ u) dot, is)
tail_back n raw l r ls (Word q w) ts h = absurd h
tail_back n raw l r ls (Upper x) ts h = absurd h
tail_back n raw l r ls (Truth b) ts h = absurd h
tail_back n raw l r ls (Digits d) ts h = absurd h
tail_back n raw l r ls (Foreign f) ts h = absurd h
tail_back n raw l r ls (Sign Left) ts h = absurd h
tail_back n raw l r ls (Sign OpenSquare) ts h = absurd h
tail_back n raw l r ls (Sign CloseSquare) ts h = absurd h
tail_back n raw l r ls (Sign Dot) ts h = absurd h
tail_back n raw l r ls (Sign Equal) ts h = absurd h
tail_back n raw l r ls (Sign Unequal) ts h = absurd h
tail_back n raw l r ls (Sign Tilde) ts h = absurd h
tail_back n raw l r ls (Sign Bar) ts h = absurd h
tail_back n raw l r ls Other ts h = absurd h

formula_back : (n : ℕ) (raw : Statement) (l : Label) (r : Role) (m : Machine) (t : Terminal) (ts : Terminals)
    → Comes n raw ts (formula_step l r t (step m t)) → Rest (TailRest raw l r) m (t ∷ ts)
formula_back n raw l r m t ts h = back (TailRest raw l r) m t ts (go (step m t) h)
  where
    go : (a : Step) → Comes n raw ts (formula_step l r t a) → Leads (TailRest raw l r) t ts a
    go (inside m') h = h
    go (ended ls) h = tail_back n raw l r ls t ts h
    go (fault w) h = h

item_back : (n : ℕ) (raw : Statement) (p : List ℕ) (ls : List Label) (t : Terminal) (l : Label) (ts : Terminals) → IsLabel t l
    → ItemRest raw p (ls ++ l ∷ []) ts → ListRest raw p ls (t ∷ ts)
item_back n raw p ls t l ts d (inl (e, is)) = (t ∷ [], l ∷ [], last t l d, ap (λ (u : Terminals). t ∷ u) e, is)
item_back n raw p ls t l ts d (inr (us, e, (vs, ms, f, g, is))) = (
  t ∷ Sign Comma ∷ vs,
  l ∷ ms,
  further t l vs ms d f,
  ap (λ (u : Terminals). t ∷ u) (e ∙ ap (λ (u : Terminals). Sign Comma ∷ u) g),
  is ∙ ap (λ (k : List Label). Include p (Some k)) (append_assoc ls (l ∷ []) ms),
)

start_of : (n : ℕ) (raw : Statement) (l : Label) (r : Role) (ts : Terminals) → Rest (TailRest raw l r) (started n) ts
    → FormulaRest n raw l r ts
start_of n raw l r ts h = start_back (TailRest raw l r) (started n) ts refl refl refl h

advance_back : (n : ℕ) (raw : Statement) (st : Stage) (t : Terminal) (ts : Terminals) → Comes n raw ts (advance n st t)
    → Expects n raw st (t ∷ ts)
advance_back n raw Begin (Word false w) ts h = begin_back n raw w ts h
advance_back n raw ClauseOpen (Sign Left) ts h = (ts, refl, h)
advance_back n raw ClauseLabel (Word true w) ts h =
    let (us, e, rest) = h in (Word true w, label.Word w, us, named true w, ap (λ (u : Terminals). Word true w ∷ u) e, rest)
advance_back n raw ClauseLabel (Word false w) ts h =
    let (us, e, rest) = h in (Word false w, label.Word w, us, named false w, ap (λ (u : Terminals). Word false w ∷ u) e, rest)
advance_back n raw ClauseLabel (Digits d) ts h =
    let (us, e, rest) = h in (Digits d, label.Integer d, us, numbered d, ap (λ (u : Terminals). Digits d ∷ u) e, rest)
advance_back n raw (BehindLabel l) (Sign Comma) ts h = (ts, refl, h)
advance_back n raw (ClauseRole l) (Word false w) ts h = role_back n raw l w ts h
advance_back n raw (BehindRole l r) (Sign Comma) ts h = (ts, refl, start_of n raw l r ts h)
advance_back n raw (WantDot s) (Sign Dot) ts h = let (e, is) = h in (ap (λ (u : Terminals). Sign Dot ∷ u) e, is)
advance_back n raw IncludeOpen (Sign Left) ts h = let (p, us, e, rest) = h in (p, us, ap (λ (u : Terminals). Sign Left ∷ u) e, rest)
advance_back n raw Path (Word true p) ts h = (p, ts, refl, h)
advance_back n raw (BehindPath p) (Sign Right) ts h = let (e, is) = h in inl (ap (λ (u : Terminals). Sign Right ∷ u) e, is)
advance_back n raw (BehindPath p) (Sign Comma) ts h = let (us, e, rest) = h in inr (us, ap (λ (u : Terminals). Sign Comma ∷ u) e, rest)
advance_back n raw (ListOpen p) (Sign OpenSquare) ts h = (ts, refl, h)
advance_back n raw (ListLabel p ls) (Word true w) ts h = item_back n raw p ls (Word true w) (label.Word w) ts (named true w) h
advance_back n raw (ListLabel p ls) (Word false w) ts h = item_back n raw p ls (Word false w) (label.Word w) ts (named false w) h
advance_back n raw (ListLabel p ls) (Digits d) ts h = item_back n raw p ls (Digits d) (label.Integer d) ts (numbered d) h
advance_back n raw (BehindItem p ls) (Sign CloseSquare) ts h = let (e, is) = h in inl (ap (λ (u : Terminals). Sign CloseSquare ∷ u) e, is)
advance_back n raw (BehindItem p ls) (Sign Comma) ts h = inr (ts, refl, h)
advance_back n raw (ListClosed p ls) (Sign Right) ts h = let (e, is) = h in (ap (λ (u : Terminals). Sign Right ∷ u) e, is)
advance_back n raw (Formula l r m) t ts h = formula_back n raw l r m t ts h
advance_back n raw (Notes s bs some) t ts h = notes_back n raw s bs some t ts h
advance_back n raw st t ts h = absurd h

-- ---- all tokens

abbrev pub Reached : Statement → Advance → Type 0
Reached raw (to (Done s)) = raw ≡ s
Reached raw st = ⊥

walk_back : (n : ℕ) (raw : Statement) (ts : Terminals) (st : Stage) → Reached raw (walk n st ts) → Expects n raw st ts
unfolding walk
walk_back n raw [] (Done s) h = (refl, h)
walk_back n raw (t ∷ ts) st h = advance_back n raw st t ts (go (advance n st t) (walk_back n raw ts) h)
  where
    go : (a : Advance) → ((s : Stage) → Reached raw (walk n s ts) → Expects n raw s ts) → Reached raw (walk_on a (λ s. walk n s ts))
        → Comes n raw ts a
    go (to s) rec h = rec s h
    go (wrong w) rec h = h
walk_back n raw ts st h = absurd h

pub from_start : (n : ℕ) (ts : Terminals) (s : Statement) → walk n Begin ts ≡ to (Done s) → IsStatementIn n ts s
from_start n ts s e = walk_back n s ts Begin (subst (Reached s) (sym e) refl)
