-- What words ask for.
use Rattle.std.specs.Prelude.{◌≡◌, ◌⊎◌, ◌<◌, ◌≤◌, ◌^◌, ℕ, List, codes, Option, Some, None}
use Rattle.cd_names.specs.declared.ownership.Policy.{Policy}
use Rattle.cd_names.specs.declared.ownership.Policy.TheVariants.{Round, Issuer, Size}
use Rattle.cd_options.specs.declared.options.Options.{Options}
use Rattle.cd_options.specs.declared.options.Origins.{Origins}
use Rattle.cd_options.specs.declared.options.Origins.TheVariants.{File, Grid}
use Rattle.cd_options.specs.Grammar.{AtMostOnce, Given, Spells, Text, value_of}
use Rattle.cd_options.specs.Numbers.{IsNumber}
use Rattle.cd_options.specs.Program.{option_names}

-- the values of the options and of the file, where they are given
pub record Values : Type 0 where
  pub peers : Option Text
  pub steps : Option Text
  pub allocate : Option Text
  pub schedule : Option Text
  pub grid : Option Text
  pub file : Option Text

abbrev pub values_of : List Given → Values
values_of gs = record {
  peers = value_of gs (codes "peers");
  steps = value_of gs (codes "steps");
  allocate = value_of gs (codes "allocate");
  schedule = value_of gs (codes "schedule");
  grid = value_of gs (codes "grid");
  file = value_of gs (codes "file");
}

-- the number of a value in a range, or the default
abbrev pub IsCount : ℕ → ℕ → ℕ → Option Text → ℕ → Type 0
IsCount default least most None n = n ≡ default
IsCount default least most (Some text) n = IsNumber text n × (least ≤ n) × (n ≤ most)

abbrev pub IsPolicy : Option Text → Policy → Type 0
IsPolicy None p = p ≡ Round
IsPolicy (Some text) p = ((text ≡ codes "round") × (p ≡ Round)) ⊎ ((text ≡ codes "issuer") × (p ≡ Issuer)) ⊎ ((text ≡ codes "size") × (p ≡ Size))

abbrev pub IsSeed : Option Text → Option ℕ → Type 0
IsSeed None seed = seed ≡ None
IsSeed (Some text) seed = (n : ℕ) × IsNumber text n × (n < 2 ^ 64) × (seed ≡ Some n)

-- exactly one of a path and the number of a grid is given
abbrev pub IsSource : Option Text → Option Text → Origins → Type 0
IsSource None None s = ⊥
IsSource None (Some text) s = (n : ℕ) × IsNumber text n × (1 ≤ n) × (n ≤ 60) × (s ≡ Grid n)
IsSource (Some path) None s = s ≡ File path
IsSource (Some path) (Some text) s = ⊥

-- the values ask for these options
pub record Asks (v : Values) (o : Options) : Type 0 where
  pub peers : IsCount 1 1 64 v.peers o.peers
  pub steps : IsCount 200000 1 250000 v.steps o.steps
  pub policy : IsPolicy v.allocate o.policy
  pub schedule : IsSeed v.schedule o.schedule
  pub source : IsSource v.file v.grid o.source

-- the words are in the grammar, and ask for these options
pub record Spell (words : List Text) (o : Options) : Type 0 where
  pub given : List Given
  pub spells : Spells option_names words given
  pub once : AtMostOnce given
  pub asks : Asks (values_of given) o
