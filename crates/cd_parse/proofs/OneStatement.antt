-- From one place at most one statement is read.
use Rattle.std.proofs.Common.{◌≡◌, ◌⊎◌, inl, inr, ◌∙◌, ◌+◌, ◌<◌, ◌≤◌, ◌++◌, ◌∷◌, [], ℕ, List, length, append_assoc, length-append, refl, sym, ap, subst, arith}
use Rattle.std.proofs.lemmas.Bool.{cases_lt, cases_order}
use Rattle.std.proofs.lemmas.List.{map-append, append-nil}
use Rattle.cd_lex.specs.Bytes.{Bytes}
use Rattle.cd_lex.specs.Next.{Next, token, IsNext}
use Rattle.cd_lex.specs.declared.TokenKind.{TokenKind}
use Rattle.cd_lex.proofs.NextLaws.{next_single}
use Rattle.cd_parse.specs.declared.statement.Statement.{Statement}
use Rattle.cd_parse.specs.Grammar.{Terminals}
use Rattle.cd_parse.specs.Statements.{IsStatement}
use Rattle.cd_parse.specs.Parts.{Opens, Placed, terminals, terminal_of, Tokens, none, further, statement, IsPart}
use Rattle.cd_parse.proofs.OneMeaning.{one_meaning, no_front}

abbrev placed : TokenKind → ℕ → Bytes → Placed
placed k start text = record { terminal = terminal_of k text; start = start }

-- what a token gives
abbrev at_token : Placed → ℕ → Next → Placed × ℕ
at_token p n (token k start text) = (placed k start text, start + length text)
at_token p n other = (p, n)

pub tokens_single : (bytes : Bytes) (from : ℕ) (ps : List Placed) (p : ℕ) → Tokens bytes from ps p → (qs : List Placed) (q : ℕ)
    → Tokens bytes from qs q → length ps ≡ length qs → (ps ≡ qs) × (p ≡ q)
tokens_single bytes from _ _ none _ _ none e = (refl, refl)
tokens_single bytes from _ _ none _ _ (further qs mid k start text d is) e =
    absurd (omega (arith, e, length-append qs (placed k start text ∷ [])))
tokens_single bytes from _ _ (further ps mid k start text d is) _ _ none e =
    absurd (omega (arith, e, length-append ps (placed k start text ∷ [])))
tokens_single bytes from _ _ (further ps mid k start text d is) _ _ (further qs mid' k' start' text' d' is') e =
    let r = tokens_single bytes from ps mid d qs mid' d' (omega (arith, e, length-append ps (placed k start text ∷ []), length-append qs (placed k' start' text' ∷ []))) in
    let same : token k start text ≡ token k' start' text' = next_single bytes mid' (token k start text) (token k' start' text') (subst (λ n. IsNext bytes n (token k start text)) r.1 is) is' in
    let ends = ap (at_token (placed k start text) start) same in
    ((λ i. r.0 i ++ (ends i).0 ∷ []), ap (λ (x : Placed × ℕ). x.1) ends)

-- the first tokens of some
pub record Split (bytes : Bytes) (from : ℕ) (qs : List Placed) (n : ℕ) : Type 0 where
  pub front : List Placed
  pub rest : List Placed
  pub end_ : ℕ
  pub are : Tokens bytes from front end_
  pub many : length front ≡ n
  pub split : qs ≡ front ++ rest

pub tokens_split : (bytes : Bytes) (from : ℕ) (qs : List Placed) (q n : ℕ) → Tokens bytes from qs q → n ≤ length qs → Split bytes from qs n
tokens_split bytes from _ _ n none le = record { front = []; rest = []; end_ = from; are = none; many = omega (arith, le); split = refl }
tokens_split bytes from _ _ n (further ps mid k start text d is) le =
    by (λ less. tokens_split bytes from ps mid n d less) (cases_lt (length ps) n)
  where
    by : (n ≤ length ps → Split bytes from ps n) → (length ps < n) ⊎ (n ≤ length ps) → Split bytes from (ps ++ placed k start text ∷ []) n
    by inner (inl whole) = record {
      front = ps ++ placed k start text ∷ [];
      rest = [];
      end_ = start + length text;
      are = further ps mid k start text d is;
      many = omega (arith, whole, le, length-append ps (placed k start text ∷ []));
      split = sym (append-nil (ps ++ placed k start text ∷ []));
    }
    by inner (inr less) =
        let r = inner less in record {
          front = r.front;
          rest = r.rest ++ placed k start text ∷ [];
          end_ = r.end_;
          are = r.are;
          many = r.many;
          split = ap (λ (l : List Placed). l ++ placed k start text ∷ []) r.split ∙ append_assoc r.front r.rest (placed k start text ∷ []);
        }

no_longer : (bytes : Bytes) (from : ℕ) (ps qs : List Placed) (p q : ℕ) (s t : Statement) → Tokens bytes from ps p
    → IsStatement (terminals ps) s → Tokens bytes from qs q → IsStatement (terminals qs) t →
    length ps < length qs → ⊥
no_longer bytes from ps qs p q s t d is d' is' lt =
    let r = tokens_split bytes from qs q (length ps) d' (omega (arith, lt)) in
    let same = tokens_single bytes from ps p d r.front r.end_ r.are (sym r.many) in
    by r.rest (r.split ∙ ap (λ (l : List Placed). l ++ r.rest) (sym same.0))
  where
    by : (rest : List Placed) → qs ≡ ps ++ rest → ⊥
    by [] e = omega (arith, lt, ap length (e ∙ append-nil ps))
    by (x ∷ rest) e =
        let whole : terminals qs ≡ terminals ps ++ x.terminal ∷ terminals rest = ap terminals e ∙ map-append (λ (y : Placed). y.terminal) ps (x ∷ rest) in
        no_front (terminals ps) s is (x.terminal, record { behind = terminals rest; statement = t; is = subst (λ (ts : Terminals). IsStatement ts t) whole is' })

-- the law of statements
pub statement_single : (os : Opens) (bytes : Bytes) (from : ℕ) (s t : Statement) (ps qs : List Placed) (p q : ℕ)
    → IsPart os bytes from (statement s ps p) → IsPart os bytes from (statement t qs q) →
    (s ≡ t) × (ps ≡ qs) × (p ≡ q)
statement_single os bytes from s t ps qs p q (d, is, may) (d', is', may') = by (cases_order (length ps) (length qs))
  where
    by : (length ps ≡ length qs) ⊎ ((length ps < length qs) ⊎ (length qs < length ps)) → (s ≡ t) × (ps ≡ qs) × (p ≡ q)
    by (inl same) =
        let r = tokens_single bytes from ps p d qs q d' same in
        (one_meaning (terminals ps) s t is (subst (λ (l : List Placed). IsStatement (terminals l) t) (sym r.0) is'), r.0, r.1)
    by (inr (inl lt)) = absurd (no_longer bytes from ps qs p q s t d is d' is' lt)
    by (inr (inr lt)) = absurd (no_longer bytes from qs ps q p t s d' is' d is lt)
