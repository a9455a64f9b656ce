-- From one place of a file at most one part is read.
use Rattle.std.proofs.Common.{◌≡◌, ◌≢◌, ◌⊎◌, inl, inr, ◌∙◌, ◌<◌, ◌≤◌, ◌++◌, ◌∷◌, [], ℕ, true, List, None, length, append_assoc, length-append, refl, sym, ap, subst, arith}
use Rattle.std.proofs.lemmas.Bool.{cases_lt, cases_order}
use Rattle.std.proofs.lemmas.List.{map-append, append-nil}
use Rattle.cd_lex.specs.Bytes.{Bytes}
use Rattle.cd_lex.specs.Next.{Next, token, nothing, fault, IsNext}
use Rattle.cd_lex.specs.declared.TokenKind.{TokenKind}
use Rattle.cd_lex.proofs.NextLaws.{next_single}
use Rattle.cd_parse.specs.declared.terminal.Terminal.{Terminal}
use Rattle.cd_parse.specs.declared.terminal.Terminal.TheVariants.{Word, Sign}
use Rattle.cd_parse.specs.declared.terminal.Sign.TheVariants.{Right, Dot}
use Rattle.cd_parse.specs.declared.label.What.{What}
use Rattle.cd_parse.specs.declared.statement.Statement.{Statement}
use Rattle.cd_parse.specs.declared.statement.Statement.TheVariants.{Include}
use Rattle.cd_parse.specs.Grammar.{Terminals}
use Rattle.cd_parse.specs.Statements.{IsStatement, clause, whole, listed, Could}
use Rattle.cd_parse.specs.Parts.{Opens, Placed, terminals, terminal_of, Tokens, none, further, Part, statement, over, broken, IsPart, IsPath, IsWrongPath, MayInclude, PathMay, Breaks}
use Rattle.cd_parse.proofs.OneMeaning.{no_front}
use Rattle.cd_parse.proofs.OneStatement.{tokens_single, tokens_split, statement_single}
use Rattle.cd_parse.proofs.OneName.{name_single}

abbrev pub placed : TokenKind → ℕ → Bytes → Placed
placed k start text = record { terminal = terminal_of k text; start = start }

-- the token number n of some, with those before it
pub record Nth (bytes : Bytes) (from : ℕ) (qs : List Placed) (n : ℕ) : Type 0 where
  pub front : List Placed
  pub rest : List Placed
  pub mid : ℕ
  pub k : TokenKind
  pub start : ℕ
  pub text : Bytes
  pub are : Tokens bytes from front mid
  pub is : IsNext bytes mid (token k start text)
  pub many : length front ≡ n
  pub split : qs ≡ front ++ placed k start text ∷ rest

pub nth_token : (bytes : Bytes) (from : ℕ) (qs : List Placed) (q n : ℕ) → Tokens bytes from qs q → n < length qs → Nth bytes from qs n
nth_token bytes from _ _ n none lt = absurd (omega (arith, lt))
nth_token bytes from _ _ n (further ps mid k start text d is) lt =
    by (λ less. nth_token bytes from ps mid n d less) (cases_lt n (length ps))
  where
    by : (n < length ps → Nth bytes from ps n) → (n < length ps) ⊎ (length ps ≤ n) → Nth bytes from (ps ++ placed k start text ∷ []) n
    by inner (inl less) =
        let r = inner less in record {
          front = r.front;
          rest = r.rest ++ placed k start text ∷ [];
          mid = r.mid;
          k = r.k;
          start = r.start;
          text = r.text;
          are = r.are;
          is = r.is;
          many = r.many;
          split = ap (λ (l : List Placed). l ++ placed k start text ∷ []) r.split ∙ append_assoc r.front (placed r.k r.start r.text ∷ r.rest) (placed k start text ∷ []);
        }
    by inner (inr all) = record {
      front = ps;
      rest = [];
      mid = mid;
      k = k;
      start = start;
      text = text;
      are = d;
      is = is;
      many = omega (arith, all, lt, length-append ps (placed k start text ∷ []));
      split = refl;
    }

-- what comes next is a token that could stand there, with a path that may be included
could_stand : (os : Opens) (end_ : ℕ) (front : Terminals) (n : Next) (k : TokenKind) (start : ℕ) (text : Bytes) (w : What) (at : ℕ)
    → n ≡ token k start text → Could front (terminal_of k text) →
    ((p : List ℕ) → IsPath front (terminal_of k text) p → MayInclude os p) → Breaks os end_ front n w at → ⊥
could_stand os end_ front n k start text w at e could may breaks = by (subst (λ (x : Next). Breaks os end_ front x w at) e breaks)
  where
    by : Breaks os end_ front (token k start text) w at → ⊥
    by (here, inl wrong) = wrong.no could
    by (here, inr (p, is, inl cycle)) = (may p is).0 cycle.0
    by (here, inr (p, is, inr (absent, deep, e))) = omega (arith, deep, (may p is).1)

-- tokens that go on past others, which were to be all
goes_past : (os : Opens) (bytes : Bytes) (from : ℕ) (ps qs : List Placed) (p q : ℕ) (n : Next) (w : What) (at : ℕ) (behind : Terminals) (s : Statement) → Tokens bytes from ps p → IsNext bytes p n →
    Breaks os (length bytes) (terminals ps) n w at → Tokens bytes from qs q → IsStatement (terminals qs ++ behind) s → PathMay os
    (terminals qs) → length ps < length qs → ⊥
goes_past os bytes from ps qs p q n w at behind s d next breaks d' is may lt =
    let r = nth_token bytes from qs q (length ps) d' lt in
    let same = tokens_single bytes from ps p d r.front r.mid r.are (sym r.many) in
    let nexts : n ≡ token r.k r.start r.text = next_single bytes p n (token r.k r.start r.text) next (subst (λ (m : ℕ). IsNext bytes m (token r.k r.start r.text)) (sym same.1) r.is) in
    let split : qs ≡ ps ++ placed r.k r.start r.text ∷ r.rest = r.split ∙ ap (λ (l : List Placed). l ++ placed r.k r.start r.text ∷ r.rest) (sym same.0) in
    let whole_ : terminals qs ≡ terminals ps ++ terminal_of r.k r.text ∷ terminals r.rest = ap terminals split ∙ map-append (λ (y : Placed). y.terminal) ps (placed r.k r.start r.text ∷ r.rest) in
    let longer : terminals qs ++ behind ≡ terminals ps ++ terminal_of r.k r.text ∷ (terminals r.rest ++ behind) =
    ap (λ (l : Terminals). l ++ behind) whole_ ∙ append_assoc (terminals ps) (terminal_of r.k r.text ∷ terminals r.rest) behind in
    could_stand os (length bytes) (terminals ps) n r.k r.start r.text w at nexts
    (record { behind = terminals r.rest ++ behind; statement = s; is = subst (λ (ts : Terminals). IsStatement ts s) longer is })
    (λ path is_path. may.may (terminals ps) (terminals r.rest) (terminal_of r.k r.text) path whole_ is_path) breaks

-- ---- over

no_tokens : (bytes : Bytes) (from : ℕ) (ps : List Placed) (p : ℕ) → Tokens bytes from ps p → IsNext bytes from nothing
    → (ps ≡ []) × (p ≡ from)
no_tokens bytes from ps p d is = by ps d refl
  where
    by : (qs : List Placed) → Tokens bytes from qs p → ps ≡ qs → (qs ≡ []) × (p ≡ from)
    by qs d' e = elim (cases_lt 0 (length qs)) [
      | inl some ↦
          let r = nth_token bytes from qs p 0 d' some in
          let first = tokens_single bytes from [] from none r.front r.mid r.are (sym r.many) in
          let clash : nothing ≡ token r.k r.start r.text =
          next_single bytes from nothing (token r.k r.start r.text) is
          (subst (λ (m : ℕ). IsNext bytes m (token r.k r.start r.text)) (sym first.1) r.is) in absurd (cc)
      | inr few ↦
          let empty : 0 ≡ length qs = omega (arith, few) in
          let r = tokens_single bytes from [] from none qs p d' empty in (sym r.0, sym r.1)
    ]

no_statement : (ts : Terminals) (s : Statement) → IsStatement ts s → ts ≢ []
no_statement _ _ (clause t l r ts ns ls is f others) e = cc
no_statement _ _ (whole p) e = cc
no_statement _ _ (listed p ts ls are) e = cc

over_statement : (os : Opens) (bytes : Bytes) (from : ℕ) (s : Statement) (ps : List Placed) (p : ℕ) → IsPart os bytes from over
    → IsPart os bytes from (statement s ps p) → ⊥
over_statement os bytes from s ps p is (d, st, may) = no_statement (terminals ps) s st (ap terminals (no_tokens bytes from ps p d is).0)

over_broken : (os : Opens) (bytes : Bytes) (from : ℕ) (w : What) (at : ℕ) → IsPart os bytes from over → IsPart os bytes from (broken w at)
    → ⊥
over_broken os bytes from w at is (ps, mid, n, d, front, may, next, breaks) =
    let r = no_tokens bytes from ps mid d is in
    let nexts : n ≡ nothing = next_single bytes from n nothing (subst (λ (m : ℕ). IsNext bytes m n) r.1 next) is in
    (subst (λ (x : Next). Breaks os (length bytes) (terminals ps) x w at) nexts breaks).0 (ap terminals r.0)

-- ---- a fault

path_single : (os : Opens) (p : List ℕ) (v w : What) → IsWrongPath os p v → IsWrongPath os p w → v ≡ w
path_single os p v w (inl a) (inl b) = a.1 ∙ sym b.1
path_single os p v w (inl a) (inr b) = absurd (b.0 a.0)
path_single os p v w (inr a) (inl b) = absurd (a.0 b.0)
path_single os p v w (inr a) (inr b) = a.2 ∙ sym b.2

path_could : (front : Terminals) (t : Terminal) (p : List ℕ) → IsPath front t p → Could front t
path_could front t p (e, f) = record {
  behind = Sign Right ∷ Sign Dot ∷ [];
  statement = Include p None;
  is = subst (λ (l : Terminals). IsStatement l (Include p None)) (λ i. sym e i ++ sym f i ∷ Sign Right ∷ Sign Dot ∷ []) (whole p);
}

breaks_single : (os : Opens) (end_ : ℕ) (front : Terminals) (n : Next) (v w : What) (a b : ℕ) → Breaks os end_ front n v a
    → Breaks os end_ front n w b → (v ≡ w) × (a ≡ b)
breaks_single os end_ front (fault f) v w a b x y = let e = sym x ∙ y in (ap (λ (z : What × ℕ). z.0) e, ap (λ (z : What × ℕ). z.1) e)
breaks_single os end_ front nothing v w a b x y = (x.1 ∙ sym y.1, x.2 ∙ sym y.2)
breaks_single os end_ front (token k start text) v w a b (e, inl x) (f, inl y) =
    (name_single v w front (terminal_of k text) x.names y.names, e ∙ sym f)
breaks_single os end_ front (token k start text) v w a b (e, inl x) (f, inr (p, is, y)) =
    absurd (x.no (path_could front (terminal_of k text) p is))
breaks_single os end_ front (token k start text) v w a b (e, inr (p, is, x)) (f, inl y) =
    absurd (y.no (path_could front (terminal_of k text) p is))
breaks_single os end_ front (token k start text) v w a b (e, inr (p, is, x)) (f, inr (q, is', y)) =
    let words : Word true p ≡ Word true q = sym is.1 ∙ is'.1 in
    let paths : p ≡ q = cc in
    (path_single os p v w x (subst (λ (z : List ℕ). IsWrongPath os z w) (sym paths) y), e ∙ sym f)

broken_single : (os : Opens) (bytes : Bytes) (from : ℕ) (v w : What) (a b : ℕ) → IsPart os bytes from (broken v a)
    → IsPart os bytes from (broken w b) → (v ≡ w) × (a ≡ b)
broken_single os bytes from v w a b (ps, mid, n, d, front, may, next, breaks) (qs, mid', n', d', front', may', next', breaks') =
    by (cases_order (length ps) (length qs))
  where
    by : (length ps ≡ length qs) ⊎ ((length ps < length qs) ⊎ (length qs < length ps)) → (v ≡ w) × (a ≡ b)
    by (inl same) =
        let r = tokens_single bytes from ps mid d qs mid' d' same in
        let nexts : n ≡ n' = next_single bytes mid n n' next (subst (λ (m : ℕ). IsNext bytes m n') (sym r.1) next') in
        breaks_single os (length bytes) (terminals ps) n v w a b breaks
        (subst (λ (x : Next). Breaks os (length bytes) (terminals ps) x w b) (sym nexts) (subst (λ (l : List Placed). Breaks os (length bytes) (terminals l) n' w b) (sym r.0) breaks'))
    by (inr (inl lt)) =
        absurd (goes_past os bytes from ps qs mid mid' n v a (front'.0 ∷ front'.1.behind) front'.1.statement d next breaks d' front'.1.is may' lt)
    by (inr (inr lt)) =
        absurd (goes_past os bytes from qs ps mid' mid n' w b (front.0 ∷ front.1.behind) front.1.statement d' next' breaks' d front.1.is may lt)

-- ---- a statement and a fault

statement_broken : (os : Opens) (bytes : Bytes) (from : ℕ) (s : Statement) (qs : List Placed) (q : ℕ) (w : What) (at : ℕ)
    → IsPart os bytes from (statement s qs q) → IsPart os bytes from (broken w at) → ⊥
statement_broken os bytes from s qs q w at (d', is, may') (ps, mid, n, d, front, may, next, breaks) = by (cases_lt (length ps) (length qs))
  where
    first_token : (rest : List Placed) → (t : Terminal) × (more : Terminals) × (terminals rest ++ front.0 ∷ front.1.behind ≡ t ∷ more)
    first_token [] = (front.0, front.1.behind, refl)
    first_token (x ∷ rest) = (x.terminal, terminals rest ++ front.0 ∷ front.1.behind, refl)

    past : (rest : List Placed) → ps ≡ qs ++ rest → ⊥
    past rest e =
        let x = first_token rest in
        let whole_ : terminals ps ++ front.0 ∷ front.1.behind ≡ terminals qs ++ x.0 ∷ x.1 =
        ap (λ (l : List Placed). terminals l ++ front.0 ∷ front.1.behind) e
        ∙ ap (λ (l : Terminals). l ++ front.0 ∷ front.1.behind) (map-append (λ (y : Placed). y.terminal) qs rest)
        ∙ append_assoc (terminals qs) (terminals rest) (front.0 ∷ front.1.behind)
        ∙ ap (λ (l : Terminals). terminals qs ++ l) x.2 in
        no_front (terminals qs) s is (x.0, record { behind = x.1; statement = front.1.statement; is = subst (λ (ts : Terminals). IsStatement ts front.1.statement) whole_ front.1.is })

    by : (length ps < length qs) ⊎ (length qs ≤ length ps) → ⊥
    by (inl lt) =
        goes_past os bytes from ps qs mid q n w at [] s d next breaks d'
        (subst (λ (l : Terminals). IsStatement l s) (sym (append-nil (terminals qs))) is) may' lt
    by (inr le) =
        let r = tokens_split bytes from ps mid (length qs) d le in
        let same = tokens_single bytes from qs q d' r.front r.end_ r.are (sym r.many) in
        past r.rest (r.split ∙ ap (λ (l : List Placed). l ++ r.rest) (sym same.0))

-- ---- the law

pub part_single : (os : Opens) (bytes : Bytes) (from : ℕ) (p q : Part) → IsPart os bytes from p → IsPart os bytes from q → p ≡ q
part_single os bytes from (statement s ps p) (statement t qs q) x y =
    let r = statement_single os bytes from s t ps qs p q x y in λ i. statement (r.0 i) (r.1 i) (r.2 i)
part_single os bytes from (statement s ps p) over x y = absurd (over_statement os bytes from s ps p y x)
part_single os bytes from (statement s ps p) (broken w at) x y = absurd (statement_broken os bytes from s ps p w at x y)
part_single os bytes from over (statement s ps p) x y = absurd (over_statement os bytes from s ps p x y)
part_single os bytes from over over x y = refl
part_single os bytes from over (broken w at) x y = absurd (over_broken os bytes from w at x y)
part_single os bytes from (broken w at) (statement s ps p) x y = absurd (statement_broken os bytes from s ps p w at y x)
part_single os bytes from (broken w at) over x y = absurd (over_broken os bytes from w at y x)
part_single os bytes from (broken v a) (broken w b) x y = let r = broken_single os bytes from v w a b x y in λ i. broken (r.0 i) (r.1 i)
