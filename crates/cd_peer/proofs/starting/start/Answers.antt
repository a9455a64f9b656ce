use Rattle.std.proofs.Common.{refl}
use Rattle.cd_peer.proofs.starting.start.Goals as goal

pub returns-clause-start : goal.returns-clause-start
returns-clause-start c = record {
  items = c.in_ok-pending.pending.items;
  share = rw (← c.as_slice.ensures) c.in_ok-pending.ensures;
  is = rw (c.new.ensures, c.new-3.ensures, c.new-4.ensures, c.new-5.ensures, c.new-6.ensures, c.new-7.ensures, c.first_token.ensures) refl;
}
