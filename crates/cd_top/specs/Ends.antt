-- What the call's parts make of a run, of an answer and of its account.
-- Beyond the headline: no clause of `prove` reaches this file.
use Rattle.std.specs.Prelude.{◌≡◌, ◌⊎◌, ℕ, ⊤, List, [], Option, None, Some, slice_index_or, IsPermutation, IsSortedByKey}
use Rattle.std.specs.List.{flat_map}
use Rattle.cd_build.specs.Derivation.{IsDerivation}
use Rattle.cd_ledger.specs.declared.local.Local.{Local}
use Rattle.cd_ledger.specs.declared.records.Record.{Record}
use Rattle.cd_machine.specs.World.{nobody}
use Rattle.cd_names.specs.Orders.{name_cmp}
use Rattle.cd_options.specs.declared.options.Options.{Options}
use Rattle.cd_read.specs.Fetched.{Told, Holds}
use Rattle.cd_read.specs.declared.problem.Problem.{Problem}
use Rattle.cd_read.specs.declared.reader.ReadFault.{ReadFault}
use Rattle.cd_read.specs.declared.reader.ReadFault.TheVariants as failure
use Rattle.cd_recorded.specs.Live.{live_records, name_of}
use Rattle.cd_text.specs.declared.line.Line.{Line}
use Rattle.cd_top.specs.Asked.{HasDefaults, HasOptions, HasValues, IsAsked, grid_of}
use Rattle.cd_top.specs.Finding.{ended_as, least_bound}
use Rattle.cd_top.specs.Headline.{AccountsForAll, AtEachMoment, HasModelsOf, IsContracted, IsLibraryFault, IsRead, Refutes, RunEnds, TextIs, least}
use Rattle.cd_top.specs.Texts.{refuted_by, saturated_by, spent_by, limit_by}
use Rattle.cd_top.specs.declared.answer.Account.{Account}
use Rattle.cd_top.specs.declared.answer.Answer.{Answer}
use Rattle.cd_top.specs.declared.answer.Answer.TheVariants.{Refuted, Saturated, Spent, Limit, Usage, Refused, LibraryFault, SinkFault, Memory}
use Rattle.cd_top.specs.declared.finding.Ending.TheVariants as ending

-- ---- what the states give

-- the text of the derivation of a refuted peer
abbrev pub IsRefutedText : Option ℕ → Problem → Local → List ℕ → Type 0
IsRefutedText grid p s text = (lines : List Line) × IsDerivation p s lines × (text ≡ refuted_by grid p lines)

-- the records of all live names, in an order of names, and their text
pub record IsSaturatedText (grid : Option ℕ) (p : Problem) (peers : ℕ) (ss : List Local) (text : List ℕ) : Type 0 where
  pub records : List Record
  pub live : IsPermutation (flat_map live_records ss) records
  pub sorted : IsSortedByKey name_of name_cmp records
  pub text_is : text ≡ saturated_by grid p peers records

-- the answer that these states give, and its text
abbrev pub IsTold : Options → Problem → List Local → Answer → List ℕ → Type 0
IsTold o p ss (Refuted peer) text = (least (ended_as ending.Refuted) 0 ss ≡ Some peer) × IsRefutedText (grid_of o.source) p (slice_index_or ss peer nobody) text
IsTold o p ss (Limit peer b) text = (least (ended_as ending.Refuted) 0 ss ≡ None) × (least_bound 0 ss ≡ Some (peer, b)) × (text ≡ limit_by (grid_of o.source) p peer b)
IsTold o p ss (Spent peer) text =
    (least (ended_as ending.Refuted) 0 ss ≡ None) × (least_bound 0 ss ≡ None) × (least (ended_as ending.Spent) 0 ss ≡ Some peer) × (text ≡ spent_by (grid_of o.source) p peer o.steps)
IsTold o p ss Saturated text =
    (least (ended_as ending.Refuted) 0 ss ≡ None) × (least_bound 0 ss ≡ None) × (least (ended_as ending.Spent) 0 ss ≡ None) × IsSaturatedText (grid_of o.source) p o.peers ss text
IsTold o p ss Usage text = ⊥
IsTold o p ss (Refused w) text = ⊥
IsTold o p ss (LibraryFault path) text = ⊥
IsTold o p ss SinkFault text = ⊥
IsTold o p ss Memory text = ⊥

-- an answer that a run can have
abbrev pub IsRunAnswer : Answer → Type 0
IsRunAnswer (Refuted peer) = ⊤
IsRunAnswer Saturated = ⊤
IsRunAnswer (Spent peer) = ⊤
IsRunAnswer (Limit peer b) = ⊤
IsRunAnswer Usage = ⊥
IsRunAnswer (Refused w) = ⊥
IsRunAnswer (LibraryFault path) = ⊥
IsRunAnswer SinkFault = ⊥
IsRunAnswer Memory = ⊥

-- the answer to this problem with these options, and its account
pub record IsSolved (o : Options) (p : Problem) (made : Answer) (account : Account) : Type 0 where
  pub answer : IsRunAnswer made
  pub asked : account.asked ≡ Some o
  pub problem : account.problem ≡ Some p
  pub values : HasValues account o
  pub run : RunEnds account made (Some p)

-- ---- where there is no problem

-- the answer for this cause
abbrev pub IsUnreadAnswer : ReadFault → Answer → Type 0
IsUnreadAnswer (failure.Library path) made = made ≡ LibraryFault path
IsUnreadAnswer (failure.Wrong w) made = made ≡ Refused w
IsUnreadAnswer failure.Memory made = ⊥

-- an account without a run
pub record HasNoRun (account : Account) : Type 0 where
  pub problem : account.problem ≡ None
  pub journals : account.journals ≡ []
  pub order : account.order ≡ []

-- and with these options
pub record IsUnsolved (o : Options) (made : Answer) (account : Account) : Type 0 where
  pub alone : HasNoRun account
  pub asked : account.asked ≡ Some o
  pub values : HasValues account o
  pub text : TextIs made account.text

-- an account of nothing
pub record IsEmptyAccount (account : Account) : Type 0 where
  pub alone : HasNoRun account
  pub asked : account.asked ≡ None
  pub defaults : HasDefaults account

-- ---- the outcome

-- the outcome of a call with these options, where `fails` is that the library's count of faults rose
pub record IsMade (o : Options) (holds : Holds) (before now : Told) (fails : Type 0) (made : Answer) (account : Account) : Type 0 where
  pub asked : IsAsked o made account.asked
  pub options : HasOptions account account.asked
  pub read : IsRead account.asked holds before now made account.problem
  pub library : IsLibraryFault made → fails
  pub run : RunEnds account made account.problem
  pub models : AtEachMoment HasModelsOf account account.problem
  pub accounted : AtEachMoment AccountsForAll account account.problem
  pub contracted : AtEachMoment IsContracted account account.problem
  pub refutes : Refutes made account.problem
  pub text : TextIs made account.text

-- want of memory, and nothing to be written
pub record IsForgotten (made : Answer) (account : Account) : Type 0 where
  pub memory : made ≡ Memory
  pub empty : IsEmptyAccount account
  pub text : account.text ≡ []

-- the answer and the account are these, or memory ran out
abbrev pub IsKept : Answer → Account → Answer → Account → Type 0
IsKept made account result_made result_account = ((result_made ≡ made) × (result_account ≡ account)) ⊎ IsForgotten result_made result_account
