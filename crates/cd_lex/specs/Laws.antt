-- The law of tokens that a reader of texts builds on. It is the contract of a function of the module `laws`.
-- Beyond the headline: no clause of `prove` reaches this file.
use Rattle.std.specs.Prelude.{◌≡◌, ℕ}
use Rattle.cd_lex.specs.Bytes.{Bytes}
use Rattle.cd_lex.specs.Next.{Next, IsNext}

-- at most one answer fits what comes next: in any bytes, from any place on
abbrev pub AnswersAgree : Type 0
AnswersAgree = (bytes : Bytes) (from : ℕ) (a b : Next) → IsNext bytes from a → IsNext bytes from b → a ≡ b
