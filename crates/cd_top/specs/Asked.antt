-- What a call was asked for, and what its account has of it.
-- Beyond the headline: no clause of `prove` reaches IsInRange, MayRun, IsAsked.
use Rattle.std.specs.Prelude.{◌≡◌, ◌⊎◌, ◌<◌, ◌≤◌, ℕ, List, Option, None, Some}
use Rattle.cd_names.specs.declared.ownership.Policy.TheVariants.{Round}
use Rattle.cd_options.specs.Options.{Spell}
use Rattle.cd_options.specs.declared.options.Options.{Options}
use Rattle.cd_options.specs.declared.options.Origins.{Origins}
use Rattle.cd_options.specs.declared.options.Origins.TheVariants.{File, Grid}
use Rattle.cd_top.specs.declared.answer.Account.{Account}
use Rattle.cd_top.specs.declared.answer.Answer.{Answer}
use Rattle.cd_top.specs.declared.answer.Answer.TheVariants.{Refuted, Saturated, Spent, Limit, Usage, Refused, LibraryFault, SinkFault, Memory}

-- ---- words

-- more than one peer, and no schedule
abbrev pub NeedsThreads : Options → Type 0
NeedsThreads o = (1 < o.peers) × (o.schedule ≡ None)

-- the words ask for these options, which need no threads
abbrev pub AskFor : List (List ℕ) → Option Options → Type 0
AskFor words None = ⊥
AskFor words (Some o) = Spell words o × (NeedsThreads o → ⊥)

-- the words aren't in the grammar, or ask for what needs threads
abbrev pub AskForNothing : List (List ℕ) → Type 0
AskForNothing words = ((o : Options) → Spell words o → ⊥) ⊎ ((o : Options) × Spell words o × NeedsThreads o)

-- the answer is Usage exactly where the words ask for nothing that can be had. Want of memory is free
abbrev pub AreWordsOf : List (List ℕ) → Answer → Option Options → Type 0
AreWordsOf words Usage asked = (asked ≡ None) × AskForNothing words
AreWordsOf words Memory asked = asked ≡ None
AreWordsOf words SinkFault asked = ⊥
AreWordsOf words (Refuted peer) asked = AskFor words asked
AreWordsOf words Saturated asked = AskFor words asked
AreWordsOf words (Spent peer) asked = AskFor words asked
AreWordsOf words (Limit peer b) asked = AskFor words asked
AreWordsOf words (Refused w) asked = AskFor words asked
AreWordsOf words (LibraryFault path) asked = AskFor words asked

-- ---- options

-- the number of a grid is in its range
abbrev pub IsInRange : Origins → Type 0
IsInRange (File path) = Unit {0}
IsInRange (Grid n) = (1 ≤ n) × (n ≤ 60)

-- there is a peer, and a problem that can be made
pub record MayRun (o : Options) : Type 0 where
  pub some : 0 < o.peers
  pub source : IsInRange o.source

-- the options of the call are those of its account. Want of memory is free
abbrev pub IsAsked : Options → Answer → Option Options → Type 0
IsAsked o Usage asked = ⊥
IsAsked o Memory asked = asked ≡ None
IsAsked o SinkFault asked = ⊥
IsAsked o (Refuted peer) asked = asked ≡ Some o
IsAsked o Saturated asked = asked ≡ Some o
IsAsked o (Spent peer) asked = asked ≡ Some o
IsAsked o (Limit peer b) asked = asked ≡ Some o
IsAsked o (Refused w) asked = asked ≡ Some o
IsAsked o (LibraryFault path) asked = asked ≡ Some o

-- one peer, which rewrites and does tasks at most 200,000 times together
pub record HasDefaults (account : Account) : Type 0 where
  pub peers : account.peers ≡ 1
  pub policy : account.policy ≡ Round
  pub limits : account.limits ≡ record { steps = 200000 }

pub record HasValues (account : Account) (o : Options) : Type 0 where
  pub peers : account.peers ≡ o.peers
  pub policy : account.policy ≡ o.policy
  pub limits : account.limits ≡ record { steps = o.steps }

-- peers, policy and limits are those that were asked for, or the defaults
abbrev pub HasOptions : Account → Option Options → Type 0
HasOptions account None = HasDefaults account
HasOptions account (Some o) = HasValues account o

abbrev pub seed_of : Option Options → Option ℕ
seed_of None = None
seed_of (Some o) = o.schedule

abbrev pub grid_of : Origins → Option ℕ
grid_of (File path) = None
grid_of (Grid n) = Some n

-- the number of the generated problem, where one was asked for
abbrev pub grid_asked : Option Options → Option ℕ
grid_asked None = None
grid_asked (Some o) = grid_of o.source
