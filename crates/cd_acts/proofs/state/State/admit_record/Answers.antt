use Rattle.std.proofs.Common.{List, Some, None, Option, refl, ap, subst, sym, ◌∙◌}
use Rattle.cd_contract.specs.declared.held.Hit.{Hit}
use Rattle.cd_contract.specs.declared.held.Struck.{Struck}
use Rattle.cd_ledger.specs.declared.local.Local.{Local}
use Rattle.cd_ledger.specs.Records.{is_known}
use Rattle.cd_machine.specs.Arrivals.{joined}
use Rattle.cd_machine.specs.Hits.{IsForward}
use Rattle.cd_acts.specs.Hits.{AreAmong, by_name}
use Rattle.cd_acts.specs.View.{local_of}
use Rattle.cd_acts.proofs.Strikes.{struck_known}
use Rattle.cd_acts.proofs.state.State.admit_record.Goals as goal

pub shelve-requires-clause-indexed : goal.shelve-requires-clause-indexed
shelve-requires-clause-indexed c = rw c.in_ok-reserve.ensures.ok c.requires.indexed

pub lose_all-requires-clause-indexed : goal.lose_all-requires-clause-indexed
lose_all-requires-clause-indexed c = rw c.in_ok-reserve.ensures.ok c.requires.indexed

pub lose_all-requires-clause-among : goal.lose_all-requires-clause-among
lose_all-requires-clause-among c =
    subst (λ (hs : List Struck). AreAmong c.args.self.now.known hs) (sym c.as_slice.ensures) (c.in_ok-hits-in-None.ensures.among c.args.self.now.known c.requires.indexed.held)

pub join-requires-clause-unknown : goal.join-requires-clause-unknown
join-requires-clause-unknown c =
    ap (λ (x : Local). is_known x.known c.args.r.name) c.in_ok-lose_all-in-None.ensures.state
    ∙ struck_known c.args.r.name c.args.self.now.me (by_name c.as_slice.result.now) c.args.r.name c.args.self.now.known ∙ c.requires.unknown

pub returns-in_ok-letters-in-Some-clause-does : goal.returns-in_ok-letters-in-Some-clause-does
returns-in_ok-letters-in-Some-clause-does c = record {
  forward = Some c.in-Some.hit;
  hit = λ e. None;
  hits = (subst (λ (o : Option Hit). IsForward c.args.order.now c.args.r c.args.self.now.known o) c.in-Some.is (c.in_ok-hit.ensures c.args.self.now.known c.requires.indexed.held), tt);
  effect = rw (c.in_ok-letters-in-Some.ensures.state, c.refuted_by-verdict.ensures, c.in_ok-reserve.ensures.ok) refl;
  sends = c.in_ok-letters-in-Some.ensures.letters (λ e. None);
}

pub returns-in_ok-join-in-None-clause-does : goal.returns-in_ok-join-in-None-clause-does
returns-in_ok-join-in-None-clause-does c = record {
  forward = None;
  hit = by_name c.in_ok-hits-in-None.hits;
  hits = (
    subst (λ (o : Option Hit). IsForward c.args.order.now c.args.r c.args.self.now.known o) c.in-None.is (c.in_ok-hit.ensures c.args.self.now.known c.requires.indexed.held),
    c.in_ok-hits-in-None.ensures.hits c.args.self.now.known c.requires.indexed.held c.requires.once,
  );
  effect = c.in_ok-join-in-None.ensures.state ∙ ap (λ (x : Local). joined x c.args.r) c.in_ok-lose_all-in-None.ensures.state ∙ rw (c.refuted_by-verdict.ensures, c.in_ok-reserve.ensures.ok, c.as_slice.ensures) refl;
  sends = rw (c.in_ok-lose_all-in-None.ensures.letters, c.new-letters.ensures, c.as_slice.ensures) refl;
}
