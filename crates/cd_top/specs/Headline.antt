-- What the top call promises of its answer.
use Rattle.std.specs.Prelude.{◌≡◌, ℕ, ◌+◌, ◌⊎◌, ⊤, Bool, true, false, if◌then◌else◌, List, [], ◌∷◌, ◌++◌, length, map, sum_by, Option, None, Some}
use Rattle.std.specs.Io.KnownBytes.{Appends}
use Rattle.std.specs.List.{flat_map}
use Rattle.std.specs.declared.result.Result.TheVariants.{Ok}
use Rattle.cd_clause.specs.Truth.{HaveNoModel}
use Rattle.cd_outside.specs.Outside.{AppendsFront, Gives}
use Rattle.cd_read.specs.declared.problem.Problem.{Problem}
use Rattle.cd_options.specs.Grid.{IsGrid}
use Rattle.cd_options.specs.declared.options.Options.{Options}
use Rattle.cd_options.specs.declared.options.Origins.{Origins}
use Rattle.cd_options.specs.declared.options.Origins.TheVariants as origin
use Rattle.cd_read.specs.Files.{File, Reads}
use Rattle.cd_read.specs.Fetched.{Told, Holds, GaveWhole, IsReadFault}
use Rattle.cd_read.specs.declared.reader.ReadFault.{ReadFault}
use Rattle.cd_read.specs.declared.reader.ReadFault.TheVariants as failure
use Rattle.cd_text.specs.declared.line.Line.{Line}
use Rattle.cd_check.specs.Accepted.{AcceptedText, input_clauses}
use Rattle.cd_ledger.specs.declared.events.Act.TheVariants.{End}
use Rattle.cd_ledger.specs.declared.events.Bound.{Bound}
use Rattle.cd_ledger.specs.declared.events.Event.{Event}
use Rattle.cd_ledger.specs.declared.events.Verdict.{Verdict}
use Rattle.cd_ledger.specs.declared.events.Verdict.TheVariants as verdict
use Rattle.cd_ledger.specs.declared.local.Local.{Local}
use Rattle.cd_ledger.specs.declared.records.Record.{Record}
use Rattle.cd_machine.specs.Carried.{IsClosed, held_by}
use Rattle.cd_machine.specs.Rules.{clauses_of}
use Rattle.cd_machine.specs.World.{Run, World, at}
use Rattle.cd_laws.specs.Statements.{ArePeersContracted, AreTasksAccounted, CarriesModels, HaveSameModels}
use Rattle.cd_peer.specs.Plain.{plain}
use Rattle.cd_recorded.specs.Live.{AreLive}
use Rattle.cd_recorded.specs.Recorded.{AreStarting, ChosenRun, EndsWith, MeetsBound, has_empty, journal_of, recorded, unit_count}
use Rattle.cd_world.specs.Schedule.{Scheduled}
use Rattle.cd_build.specs.Derivation.{IsDerivation}
use Rattle.cd_top.specs.declared.answer.Answer.{Answer}
use Rattle.cd_top.specs.declared.answer.Answer.TheVariants.{Refuted, Saturated, Spent, Limit, Usage, Refused, LibraryFault, SinkFault, Memory}
use Rattle.cd_top.specs.declared.answer.Account.{Account}
use Rattle.cd_report.specs.Pieces.{pieces_of, StopsInLine}
use Rattle.cd_report.specs.Texts.{usage_text, refused_text, unread_text}
use Rattle.cd_top.specs.Asked.{grid_asked, seed_of}
use Rattle.cd_top.specs.Texts.{refuted_text, refuted_by, saturated_by, spent_by, limit_by}

-- ---- the exit status

abbrev pub status_of : Answer → ℕ
status_of (Refuted peer) = 0
status_of Saturated = 1
status_of (Spent peer) = 2
status_of (Limit peer b) = 3
status_of Usage = 64
status_of (Refused wrong) = 65
status_of (LibraryFault path) = 66
status_of Memory = 71
status_of SinkFault = 74

-- ---- files

-- the file with this path, and those that it includes, are read as this problem, each of them whole where the library tells what it
-- holds; or it is a generated one, and nothing is told
abbrev pub IsProblemOf : Origins → Holds → Told → Told → Problem → Type 0
IsProblemOf (origin.File path) holds before now p = (files : List File) × GaveWhole holds before now files × Reads files path (Ok p)
IsProblemOf (origin.Grid n) holds before now p = IsGrid n p × Gives before now []

abbrev pub IsProblemAsked : Option Options → Holds → Told → Told → Problem → Type 0
IsProblemAsked None holds before now p = ⊥
IsProblemAsked (Some o) holds before now p = IsProblemOf o.source holds before now p

-- and the account has it
abbrev pub IsProblemTaken : Option Options → Holds → Told → Told → Option Problem → Type 0
IsProblemTaken asked holds before now None = ⊥
IsProblemTaken asked holds before now (Some p) = IsProblemAsked asked holds before now p

-- a file was asked for, and from it on there is no problem for this cause
abbrev pub IsUnreadOf : Origins → Holds → Told → Told → ReadFault → Type 0
IsUnreadOf (origin.File path) holds before now fault = IsReadFault path holds before now fault
IsUnreadOf (origin.Grid n) holds before now fault = ⊥

abbrev pub IsUnread : Option Options → Holds → Told → Told → ReadFault → Type 0
IsUnread None holds before now fault = ⊥
IsUnread (Some o) holds before now fault = IsUnreadOf o.source holds before now fault

-- what was told of the files, in the order of their fetches, and the problem, are those of the answer: the files have that fault first, or
-- that one is needed next, or they are the problem. Want of memory is free
abbrev pub IsRead : Option Options → Holds → Told → Told → Answer → Option Problem → Type 0
IsRead asked holds before now Usage problem = (problem ≡ None) × Gives before now []
IsRead asked holds before now (Refused w) problem = (problem ≡ None) × IsUnread asked holds before now (failure.Wrong w)
IsRead asked holds before now (LibraryFault path) problem = (problem ≡ None) × IsUnread asked holds before now (failure.Library path)
IsRead asked holds before now Memory problem = problem ≡ None
IsRead asked holds before now SinkFault problem = ⊥
IsRead asked holds before now (Refuted peer) problem = IsProblemTaken asked holds before now problem
IsRead asked holds before now Saturated problem = IsProblemTaken asked holds before now problem
IsRead asked holds before now (Spent peer) problem = IsProblemTaken asked holds before now problem
IsRead asked holds before now (Limit peer b) problem = IsProblemTaken asked holds before now problem

abbrev pub IsLibraryFault : Answer → Type 0
IsLibraryFault (LibraryFault path) = ⊤
IsLibraryFault (Refuted peer) = ⊥
IsLibraryFault Saturated = ⊥
IsLibraryFault (Spent peer) = ⊥
IsLibraryFault (Limit peer b) = ⊥
IsLibraryFault Usage = ⊥
IsLibraryFault (Refused w) = ⊥
IsLibraryFault SinkFault = ⊥
IsLibraryFault Memory = ⊥

-- ---- the recorded run

-- the account's peers at the start of the problem
abbrev pub IsFirst : Account → Problem → World → Type 0
IsFirst account p first = AreStarting p account.peers account.policy account.limits first

-- the events are those of the stated schedule, where there is one
abbrev pub FollowsSeed : Option ℕ → Problem → World → List Event → World → Type 0
FollowsSeed None p first events w = ⊤
FollowsSeed (Some seed) p first events w = Scheduled plain p seed first events w

-- the account's journals, taken in the account's order, lead from the start to this world by events that the peers' order of choices names,
-- as the schedule says, and are used up; the order has an entry for each of their events
pub record IsRecorded (account : Account) (p : Problem) (first w : World) : Type 0 where
  pub starts : IsFirst account p first
  pub run : ChosenRun plain p first (recorded account.journals account.order) w
  pub schedule : FollowsSeed (seed_of account.asked) p first (recorded account.journals account.order) w
  pub journals : map journal_of w.locals ≡ account.journals
  pub order : length account.order ≡ sum_by length account.journals

-- what holds of the problem and the world after each front of the recorded run
abbrev pub AtEachMoment : (Problem → World → Type 0) → Account → Option Problem → Type 0
AtEachMoment Says account None = ⊤
AtEachMoment Says account (Some p) =
    (front rest : List Event) (first w : World) → recorded account.journals account.order ≡ front ++ rest → IsFirst account p first → Run plain p first front w → Says p w

-- the carried clauses have exactly the finite models of the problem's clauses
abbrev pub HasModelsOf : Problem → World → Type 0
HasModelsOf p w = CarriesModels p w

-- every inference between live clauses is owed by one peer, or done with each of its conclusions kept, or on its way
abbrev pub AccountsForAll : Problem → World → Type 0
AccountsForAll p w = AreTasksAccounted plain p w

-- no known clause is a tautology, and no held one is subsumed or reduced by another held one of smaller key
abbrev pub IsContracted : Problem → World → Type 0
IsContracted p w = ArePeersContracted plain w

-- the least peer of which this holds, peers being counted from k
abbrev pub least : (Local → Bool) → ℕ → List Local → Option ℕ
least holds k [] = None
least holds k (s ∷ ss) = if holds s then Some k else least holds (k + 1) ss

abbrev pub knows_empty : Local → Bool
knows_empty s = has_empty s.known

abbrev pub is_limit : Option Verdict → Bool
is_limit None = false
is_limit (Some verdict.Refuted) = false
is_limit (Some verdict.Saturated) = false
is_limit (Some verdict.Spent) = false
is_limit (Some (verdict.Limit b)) = true

abbrev pub met_bound : Local → Bool
met_bound s = is_limit s.verdict

abbrev pub is_spent : Option Verdict → Bool
is_spent None = false
is_spent (Some verdict.Refuted) = false
is_spent (Some verdict.Saturated) = false
is_spent (Some verdict.Spent) = true
is_spent (Some (verdict.Limit b)) = false

abbrev pub used_units : Local → Bool
used_units s = is_spent s.verdict

-- the empty clause is known, to this peer as the least: the text of its derivation is accepted, and printed where the problem isn't a
-- generated one
pub record EndsRefuted (account : Account) (p : Problem) (w : World) (peer : ℕ) : Type 0 where
  pub is_least : least knows_empty 0 w.locals ≡ Some peer
  pub lines : List Line
  pub derivation : IsDerivation p (at w peer) lines
  pub accepted : AcceptedText p (refuted_text p lines)
  pub text : account.text ≡ refuted_by (grid_asked account.asked) p lines

-- the empty clause is not known, no peer ended at a limit, and nothing travels, waits, is pending or is owed: the live clauses are printed, and
-- have exactly the finite models of the problem's clauses
pub record EndsSaturated (account : Account) (p : Problem) (w : World) : Type 0 where
  pub none : least knows_empty 0 w.locals ≡ None
  pub no_bound : least met_bound 0 w.locals ≡ None
  pub unspent : least used_units 0 w.locals ≡ None
  pub closed : IsClosed w
  pub records : List Record
  pub live : AreLive w records
  pub text : account.text ≡ saturated_by (grid_asked account.asked) p account.peers records
  pub models : HaveSameModels (flat_map held_by w.locals) (clauses_of p)

-- the empty clause is not known, no peer met a bound, and this peer is the least that used all its units and ended there
pub record EndsSpent (account : Account) (p : Problem) (w : World) (peer : ℕ) : Type 0 where
  pub none : least knows_empty 0 w.locals ≡ None
  pub no_bound : least met_bound 0 w.locals ≡ None
  pub is_least : least used_units 0 w.locals ≡ Some peer
  pub units : unit_count (at w peer).journal ≡ account.limits.steps
  pub ends : EndsWith (at w peer).journal (End verdict.Spent)
  pub text : account.text ≡ spent_by (grid_asked account.asked) p peer account.limits.steps

-- the empty clause is not known, and this peer is the least that ended at a bound; it had reached it there
pub record EndsAtBound (account : Account) (p : Problem) (first w : World) (peer : ℕ) (bound : Bound) : Type 0 where
  pub none : least knows_empty 0 w.locals ≡ None
  pub is_least : least met_bound 0 w.locals ≡ Some peer
  pub meets : MeetsBound plain p first (recorded account.journals account.order) peer bound
  pub text : account.text ≡ limit_by (grid_asked account.asked) p peer bound

-- with a problem read, the answer has its cause in the world at the end of the recorded run, and the text is the answer's
abbrev pub EndsIn : Account → Problem → World → World → Answer → Type 0
EndsIn account p first w (Refuted peer) = EndsRefuted account p w peer
EndsIn account p first w Saturated = EndsSaturated account p w
EndsIn account p first w (Spent peer) = EndsSpent account p w peer
EndsIn account p first w (Limit peer b) = EndsAtBound account p first w peer b
EndsIn account p first w Usage = ⊥
EndsIn account p first w (Refused wrong) = ⊥
EndsIn account p first w (LibraryFault path) = ⊥
EndsIn account p first w SinkFault = ⊥
EndsIn account p first w Memory = ⊥

abbrev pub RunEnds : Account → Answer → Option Problem → Type 0
RunEnds account made None = (account.journals ≡ []) × (account.order ≡ [])
RunEnds account made (Some p) = (first w : World) × IsRecorded account p first w × EndsIn account p first w made

-- after a refutation no finite interpretation satisfies the problem's clauses
abbrev pub HasNoModel : Option Problem → Type 0
HasNoModel None = ⊥
HasNoModel (Some p) = HaveNoModel (input_clauses p.inputs)

abbrev pub Refutes : Answer → Option Problem → Type 0
Refutes (Refuted peer) problem = HasNoModel problem
Refutes Saturated problem = ⊤
Refutes (Spent peer) problem = ⊤
Refutes (Limit peer b) problem = ⊤
Refutes Usage problem = ⊤
Refutes (Refused w) problem = ⊤
Refutes (LibraryFault path) problem = ⊤
Refutes SinkFault problem = ⊤
Refutes Memory problem = ⊤

-- ---- the text

-- the text of an answer without a run; with want of memory nothing is to be written
abbrev pub TextIs : Answer → List ℕ → Type 0
TextIs Usage text = text ≡ usage_text
TextIs (Refused w) text = text ≡ refused_text w
TextIs (LibraryFault path) text = text ≡ unread_text path
TextIs Memory text = text ≡ []
TextIs (Refuted peer) text = ⊤
TextIs Saturated text = ⊤
TextIs (Spent peer) text = ⊤
TextIs (Limit peer b) text = ⊤
TextIs SinkFault text = ⊥

-- the sink took the text, or with its fault a front of it
abbrev pub Taken : Answer → Option (List ℕ) → Option (List ℕ) → List ℕ → Type 0
Taken SinkFault before now text = AppendsFront before now text
Taken (Refuted peer) before now text = Appends before now text
Taken Saturated before now text = Appends before now text
Taken (Spent peer) before now text = Appends before now text
Taken (Limit peer b) before now text = Appends before now text
Taken Usage before now text = Appends before now text
Taken (Refused w) before now text = Appends before now text
Taken (LibraryFault path) before now text = Appends before now text
Taken Memory before now text = Appends before now text

-- each line of the text, with its line feed, was one piece that the sink took; with its fault it took some of them, and then a front of the next
-- line, which may be empty
abbrev pub TakenByLines : Answer → Option (List ℕ) → Option (List ℕ) → Option (List (List ℕ)) → Option (List (List ℕ)) → List ℕ → Type 0
TakenByLines SinkFault bytes bytes_now pieces pieces_now text = StopsInLine bytes bytes_now pieces pieces_now text
TakenByLines (Refuted peer) bytes bytes_now pieces pieces_now text = Gives pieces pieces_now (pieces_of text)
TakenByLines Saturated bytes bytes_now pieces pieces_now text = Gives pieces pieces_now (pieces_of text)
TakenByLines (Spent peer) bytes bytes_now pieces pieces_now text = Gives pieces pieces_now (pieces_of text)
TakenByLines (Limit peer b) bytes bytes_now pieces pieces_now text = Gives pieces pieces_now (pieces_of text)
TakenByLines Usage bytes bytes_now pieces pieces_now text = Gives pieces pieces_now (pieces_of text)
TakenByLines (Refused w) bytes bytes_now pieces pieces_now text = Gives pieces pieces_now (pieces_of text)
TakenByLines (LibraryFault path) bytes bytes_now pieces pieces_now text = Gives pieces pieces_now (pieces_of text)
TakenByLines Memory bytes bytes_now pieces pieces_now text = Gives pieces pieces_now (pieces_of text)

-- an answer is the one that was made, unless the sink failed; the one that was made is no fault of the sink
abbrev pub IsAnswerTo : Answer → Answer → Type 0
IsAnswerTo made answer = (made ≡ SinkFault → ⊥) × ((answer ≡ made) ⊎ (answer ≡ SinkFault))
