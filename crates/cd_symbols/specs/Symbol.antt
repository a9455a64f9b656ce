-- What contracts see of symbols and of their table.
-- Beyond the headline: no clause of `prove` reaches AreDistinct.
use Rattle.std.specs.Prelude.{◌≡◌, ◌≢◌, ◌⊎◌, ◌++◌, ◌∷◌, [], ℕ, List, Some, length, slice_get}
use Rattle.cd_symbols.specs.declared.Kind.{Kind}

-- the bytes of a symbol's text, how many arguments it takes, and its kind
pub record Symbol : Type 0 where
  pub text : List ℕ
  pub arity : ℕ
  pub kind : Kind

abbrev pub symbol_of : List ℕ → ℕ → Kind → Symbol
symbol_of text arity kind = record { text = text; arity = arity; kind = kind }

-- the symbol is at no place of the table
abbrev pub Lacks : List Symbol → Symbol → Type 0
Lacks table s = (n : ℕ) → slice_get table n ≢ Some s

-- no symbol is at two places
abbrev pub AreDistinct : List Symbol → Type 0
AreDistinct table = (m n : ℕ) (s : Symbol) → slice_get table m ≡ Some s → slice_get table n ≡ Some s → m ≡ n

-- the symbol has the number n afterwards: the table had it there and stays,
-- or it had it nowhere and has one place more, the last
abbrev pub Interns : List Symbol → List Symbol → Symbol → ℕ → Type 0
Interns old new s n = ((slice_get old n ≡ Some s) × (new ≡ old))
    ⊎ (Lacks old s × (n ≡ length old) × (new ≡ old ++ s ∷ []))
