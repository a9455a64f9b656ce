-- Counts of symbols.
-- Beyond the headline: no clause of `prove` reaches this file.
use Rattle.std.specs.Prelude.{ℕ, ◌≡◌, ◌+◌, ◌%◌, ◌≤◌, min, Bool, true, false, ◌||◌, nat_eq, cond, sum, sum_by}
use Rattle.cd_term.specs.declared.Term.{Term, fold-Term}
use Rattle.cd_term.specs.declared.Term.TheOpen.{Term-F}
use Rattle.cd_term.specs.declared.Term.TheOpen as layer
use Rattle.cd_clause.specs.declared.Atom.{Atom}
use Rattle.cd_clause.specs.declared.Atom.TheVariants.{Truth, Pred, Equal}
use Rattle.cd_clause.specs.declared.Literal.{Literal}
use Rattle.cd_contract.specs.declared.tally.Tally.{Tally}

-- class 7 has every symbol and variable; a class below 7 has the symbols whose number leaves it when divided by 7
abbrev pub variable_count : ℕ → ℕ
variable_count class = cond (nat_eq class 7) 1 0

abbrev pub symbol_count : ℕ → ℕ → ℕ
symbol_count class f = cond (nat_eq class 7 || nat_eq (f % 7) class) 1 0

abbrev pub count_step : ℕ → Term-F ℕ → ℕ
count_step class (layer.Var n) = variable_count class
count_step class (layer.App f counts) = symbol_count class f + sum counts

abbrev pub count_in : ℕ → Term → ℕ
count_in class = fold-Term ℕ (count_step class)

abbrev pub atom_count : ℕ → Atom → ℕ
atom_count class Truth = 0
atom_count class (Pred p args) = symbol_count class p + sum_by (count_in class) args
atom_count class (Equal s t) = count_in class s + count_in class t

-- a literal counts as 1 in class 7
abbrev pub literal_count : ℕ → Atom → ℕ
literal_count class a = cond (nat_eq class 7) 1 (atom_count class a)

-- of a literal of another sign nothing is counted
abbrev pub signed_count : Bool → ℕ → Literal → ℕ
signed_count true class l = cond l.positive (literal_count class l.atom) 0
signed_count false class l = cond l.positive 0 (literal_count class l.atom)

-- the counts of the eight classes, each up to 65,535
pub record IsTally (counts : ℕ → ℕ) (t : Tally) : Type 0 where
  pub all : t.all ≡ min (counts 7) 65535
  pub zero : t.zero ≡ min (counts 0) 65535
  pub one : t.one ≡ min (counts 1) 65535
  pub two : t.two ≡ min (counts 2) 65535
  pub three : t.three ≡ min (counts 3) 65535
  pub four : t.four ≡ min (counts 4) 65535
  pub five : t.five ≡ min (counts 5) 65535
  pub six : t.six ≡ min (counts 6) 65535

abbrev pub IsAtMost : Tally → Tally → Type 0
IsAtMost a b =
    (a.all ≤ b.all) × (a.zero ≤ b.zero) × (a.one ≤ b.one) × (a.two ≤ b.two)
    × (a.three ≤ b.three) × (a.four ≤ b.four) × (a.five ≤ b.five) × (a.six ≤ b.six)
