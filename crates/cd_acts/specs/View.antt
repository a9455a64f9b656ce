-- The state of a peer, as the machine sees what the fields hold.
-- Beyond the headline: no clause of `prove` reaches this file.
use Rattle.std.specs.Prelude.{map}
use Rattle.cd_waiting.specs.declared.waiting.Waiter.{Waiter}
use Rattle.cd_ledger.specs.declared.letters.Letter.{Letter}
use Rattle.cd_ledger.specs.declared.local.Local.{Local}
use Rattle.cd_acts.specs.declared.state.State.{State}

abbrev pub letter_of : Waiter Letter → Letter
letter_of w = w.letter

abbrev pub local_of : State → Local
local_of s = record {
  me = s.me;
  peers = s.peers;
  policy = s.policy;
  limits = s.limits;
  known = s.known;
  pending = s.pending.items;
  settled = s.settled;
  owed = s.tasks.owed;
  done = s.done;
  waiting = map letter_of s.waiting;
  token = s.token;
  count = s.count;
  next_seq = s.next_seq;
  units = s.units;
  clock = s.clock;
  verdict = s.verdict;
  journal = s.journal;
}
