-- Instances of terms in which a subterm is replaced.
-- Beyond the headline: no clause of `prove` reaches this file.
use Rattle.std.specs.Prelude.{ℕ, ◌≡◌, ◌+◌, ◌<◌, List, [], ◌∷◌, length, map, take, drop, Option, Some, slice_set, option_and_then, option_map}
use Rattle.cd_term.specs.declared.Term.{Term}
use Rattle.cd_term.specs.Terms.{applied, argument, put, IsMeasure, AreMeasured}

-- the term with substitution r applied, but for the subterm at a path, which gives way to another term with
-- substitution s applied; nothing where the path leads out of the term
abbrev pub replaced_under : List Term → List Term → List ℕ → Term → Term → Option Term
replaced_under r s [] new t = Some (applied s new)
replaced_under r s (i ∷ path) new t =
    option_and_then (λ arg. option_map (put i (applied r t)) (replaced_under r s path new arg)) (argument i t)

-- the second list of terms is the first with a substitution applied, but for what stands in a place of both
pub record IsBeside (place : ℕ) (s ts us : List Term) : Type 0 where
  pub as_many : length ts ≡ length us
  pub within : place < length ts
  pub front : map (applied s) (take place ts) ≡ take place us
  pub back : map (applied s) (drop (place + 1) ts) ≡ drop (place + 1) us

-- what a measure of several terms answers, of which the one in a place gave way to a term of this size
abbrev pub MeasuresAround : ℕ → ℕ → List Term → ℕ → ℕ → Option ℕ → Type 0
MeasuresAround symbols levels ts place inner answer =
    (w : Term) → IsMeasure symbols levels w (Some inner) → AreMeasured symbols levels (slice_set ts place w) answer
