-- What values ask for, the words that spell them ask for.
use Rattle.std.proofs.Common.{◌≡◌, sym, subst, List, Result, Ok, Err, IfOk}
use Rattle.cd_options.specs.Grammar.{AtMostOnce, Given, Spells, Text}
use Rattle.cd_options.specs.Options.{Asks, Spell, Values, values_of}
use Rattle.cd_options.specs.Program.{option_names}
use Rattle.cd_options.specs.declared.options.Options.{Options}
use Rattle.cd_options.specs.declared.options.WordsFault.{WordsFault}
use Rattle.cd_options.proofs.Once.{given_once}

-- these values are given by the words
pub record Spelled (words : List Text) (v : Values) : Type 0 where
  pub given : List Given
  pub spells : Spells option_names words given
  pub once : AtMostOnce given
  pub values : v ≡ values_of given

pub asked_are_spelled : (words : List Text) (v : Values) (r : Result Options WordsFault) → Spelled words v → IfOk r (Asks v)
    → IfOk r (Spell words)
asked_are_spelled words v (Ok o) s asks =
    record { given = s.given; spells = s.spells; once = s.once; asks = subst (λ (x : Values). Asks x o) s.values asks }
asked_are_spelled words v (Err e) s asks = tt

pub spelled_are_asked : (words : List Text) (v : Values) (o : Options) → Spelled words v → Spell words o → Asks v o
spelled_are_asked words v o s t =
    let same = given_once words t.given s.given t.spells s.spells in
    subst (λ (x : Values). Asks x o) (sym s.values) (subst (λ (gs : List Given). Asks (values_of gs) o) same t.asks)
