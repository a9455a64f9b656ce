-- A peer may move between threads. One search for all that it owns breaks off, so what holds clauses has one of its own each.
use denote.Param.Send.{IsSend, IsSync, sendable}
use denote.Ref.{NamedLft}
use Rattle.std.proofs.Crossing.{crosses}
use Rattle.cd_acts.specs.contracts.state.State as State
use Rattle.cd_clause.specs.contracts.Clause as Clause
use Rattle.cd_contract.specs.contracts.held.Held as Held
use Rattle.cd_ledger.specs.contracts.events.Event as Event
use Rattle.cd_ledger.specs.contracts.items.Item as Item
use Rattle.cd_ledger.specs.contracts.items.Settled as Settled
use Rattle.cd_ledger.specs.contracts.letters.Letter as Letter
use Rattle.cd_ledger.specs.contracts.records.Known as Known
use Rattle.cd_ledger.specs.contracts.records.Record as Record
use Rattle.cd_read.specs.contracts.problem.Problem as Problem
use Rattle.cd_steps.specs.contracts.Step as Step
use Rattle.cd_symbols.proofs.Symbols.TheSendSync as symbols
use Rattle.cd_tasks.proofs.tasks.Tasks.TheSendSync as tasks
use Rattle.cd_term.proofs.Term.TheLaws.TheKnot as knot
use Rattle.cd_term.specs.contracts.Term as Term
use Rattle.cd_peer.specs.contracts.peer.Peer as Peer

term_moves : IsSend (Term.the_field).row
term_moves = search (knot.crosses, crosses, sendable) depth 60 fits 20000

clause_moves : IsSend (Clause.the_field).row
clause_moves = search (term_moves, crosses, sendable) depth 60 fits 20000

step_moves : IsSend (Step.the_field).row
step_moves = search (term_moves, crosses, sendable) depth 60 fits 20000

record_moves : IsSend (Record.the_field).row
record_moves = search (clause_moves, step_moves, crosses, sendable) depth 60 fits 20000

known_moves : IsSend (Known.the_field).row
known_moves = search (record_moves, crosses, sendable) depth 60 fits 20000

pub letter_moves : IsSend (Letter.the_field).row
letter_moves = search (record_moves, crosses, sendable) depth 60 fits 20000

item_moves : IsSend (Item.the_field).row
item_moves = search (clause_moves, step_moves, crosses, sendable) depth 60 fits 20000

settled_moves : IsSend (Settled.the_field).row
settled_moves = search (step_moves, crosses, sendable) depth 60 fits 20000

event_moves : IsSend (Event.the_field).row
event_moves = search (letter_moves, crosses, sendable) depth 60 fits 20000

held_moves : IsSend Held.the_row
held_moves = search (clause_moves, crosses, sendable) depth 60 fits 20000

state_moves : IsSend (State.the_field).row
state_moves = search (known_moves, letter_moves, item_moves, settled_moves, event_moves, held_moves, tasks.the_send, crosses, sendable) depth 60 fits 20000

pub problem_shared : IsSync Problem.the_row
problem_shared = search (knot.crosses, symbols.the_sync, crosses, sendable) depth 60 fits 20000

pub peer_moves : (a : NamedLft) → IsSend (Peer.the_row a)
peer_moves a = search (letter_moves, problem_shared, state_moves, crosses, sendable) depth 60 fits 20000
