use Rattle.std.proofs.Common.{◌<◌, ◌+◌, List, Some, refl, ap, sym, ◌∙◌, subst}
use Rattle.cd_clause.specs.Clauses.{IsWithinBounds}
use Rattle.cd_contract.specs.declared.held.Struck.{Struck}
use Rattle.cd_infer.specs.Conclusions.{IsUsable}
use Rattle.cd_ledger.specs.declared.items.Outcome.TheVariants.{Named}
use Rattle.cd_ledger.specs.declared.local.Local.{Local}
use Rattle.cd_ledger.specs.declared.records.Record.{Record}
use Rattle.cd_ledger.specs.Records.{equations_of}
use Rattle.cd_machine.specs.Acts.{resolution}
use Rattle.cd_machine.specs.Arrivals.{joined, refuted_by}
use Rattle.cd_acts.specs.Hits.{AreAmong, by_name}
use Rattle.cd_acts.specs.Indexed.{AreOnce}
use Rattle.cd_acts.specs.View.{local_of}
use Rattle.cd_acts.proofs.Acts.{keeps_named}
use Rattle.cd_acts.proofs.Arrivals.{resolved_once}
use Rattle.cd_acts.proofs.Fresh.{first_holds, kept_unknown}
use Rattle.cd_acts.proofs.state.State.keep_named.Goals as goal

pub settle-requires-clause-indexed : goal.settle-requires-clause-indexed
settle-requires-clause-indexed c = rw c.in_ok-reserve.ensures.ok c.requires.indexed

pub record_of-requires-clause-places : goal.record_of-requires-clause-places
record_of-requires-clause-places c = subst (λ (x : Local). x.me < x.peers) (sym c.in_ok-settle.ensures.state) c.requires.sensible.places

pub record_of-requires-clause-usable : goal.record_of-requires-clause-usable
record_of-requires-clause-usable c = first_holds (λ i. IsUsable i.clause) c.args.self.now.pending.items c.take_first-origin.result c.take_first-origin.new.pending.items c.take_first-origin.ensures c.requires.sensible.items

pub backward_hits-requires : goal.backward_hits-requires
backward_hits-requires c =
    subst (λ (x : Record). IsWithinBounds x.clause) (sym c.in_ok-r.ensures)
    (first_holds (λ i. IsUsable i.clause) c.args.self.now.pending.items c.take_first-origin.result c.take_first-origin.new.pending.items c.take_first-origin.ensures c.requires.sensible.items).within

pub lose_all-requires-clause-once : goal.lose_all-requires-clause-once
lose_all-requires-clause-once c =
    subst (λ (x : Local). AreOnce x.known) (sym c.in_ok-settle.ensures.state)
    (resolved_once c.take_first-origin.result.origin (resolution (Named c.args.name) (equations_of c.in_ok-copy.copy)) c.args.self.now.known c.requires.sensible.once)

pub lose_all-requires-clause-among : goal.lose_all-requires-clause-among
lose_all-requires-clause-among c =
    subst (λ (hs : List Struck). AreAmong c.settle.new.self.known hs) (sym c.as_slice.ensures) (c.in_ok-hits.ensures.among c.settle.new.self.known c.in_ok-settle.ensures.indexed.held)

pub join-requires-clause-unknown : goal.join-requires-clause-unknown
join-requires-clause-unknown c =
    kept_unknown (local_of c.args.self.now) (local_of c.settle.new.self) (local_of c.lose_all.new.self) c.take_first-origin.result.origin (resolution (Named c.args.name) (equations_of c.in_ok-copy.copy)) (by_name c.as_slice.result.now) c.in_ok-r.r.name
    c.take_first-origin.result.steps c.take_first-origin.result.clause c.in_ok-r.r c.requires.sensible.own
    (ap (λ (x : Local). x.known) c.in_ok-settle.ensures.state) (ap (λ (x : Local). x.me) c.in_ok-settle.ensures.state) (ap (λ (x : Local). x.next_seq) c.in_ok-settle.ensures.state)
    c.in_ok-r.ensures (ap (λ (x : Local). x.known) c.in_ok-lose_all.ensures.state)

pub join-requires-clause-within : goal.join-requires-clause-within
join-requires-clause-within c =
    subst (λ (x : Record). IsWithinBounds x.clause) (sym c.in_ok-r.ensures)
    (first_holds (λ i. IsUsable i.clause) c.args.self.now.pending.items c.take_first-origin.result c.take_first-origin.new.pending.items c.take_first-origin.ensures c.requires.sensible.items).within

pub returns-clause-does : goal.returns-clause-does
returns-clause-does c = λ p.
    keeps_named c.args.order.now p (local_of c.args.self.now) (local_of c.settle.new.self) (local_of c.join.new.self) c.args.time c.args.name c.requires.may c.take_first-origin.result c.take_first-origin.new.pending.items
    c.in_ok-r.r c.in_ok-hits.hits c.in_ok-next.next c.lose_all.new.letters
    c.take_first-origin.ensures
    (rw (c.in_ok-settle.ensures.state, c.in_ok-copy.ensures, c.in_ok-reserve.ensures.ok) refl)
    c.in_ok-r.ensures
    (c.in_ok-hits.ensures.hits c.settle.new.self.known c.in_ok-settle.ensures.indexed.held
    (subst (λ (x : Local). AreOnce x.known) (sym c.in_ok-settle.ensures.state)
    (resolved_once c.take_first-origin.result.origin (resolution (Named c.args.name) (equations_of c.in_ok-copy.copy)) c.args.self.now.known c.requires.sensible.once)))
    (c.in_ok-next.ensures ∙ ap (λ (x : Local). x.next_seq + 1) c.in_ok-lose_all.ensures.state)
    (rw (c.in_ok-join.ensures.state, c.refuted_by-self.ensures)
    (ap (λ (x : Local). joined (record x { next_seq = c.in_ok-next.next; verdict = refuted_by c.in_ok-r.r.clause x.verdict }) c.in_ok-r.r) c.in_ok-lose_all.ensures.state ∙ rw c.as_slice.ensures refl))
    (rw (c.in_ok-lose_all.ensures.letters, c.in_ok-broadcast.ensures, c.new-letters.ensures, c.as_slice.ensures) refl)
