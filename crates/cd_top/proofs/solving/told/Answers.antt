use Rattle.std.proofs.Common.{sym, subst, ap, ◌∙◌}
use Rattle.cd_acts.specs.View.{local_of}
use Rattle.cd_peer.specs.Plain.{plain}
use Rattle.cd_peer.specs.Whole.{IsWhole}
use Rattle.cd_top.specs.Asked.{grid_of}
use Rattle.cd_top.specs.Ends.{IsRefutedText}
use Rattle.cd_top.proofs.Runs.{each_at, local_at, refuted_peer, state_is}
use Rattle.cd_top.proofs.solving.told.Goals as goal

pub bounds-states-from : goal.bounds-states-from
bounds-states-from c = (refuted_peer c.args.states.now c.in-Some.peer c.from.result (sym c.least.ensures ∙ c.in-Some.is) c.from.ensures).0

pub refuted-requires-clause-whole : goal.refuted-requires-clause-whole
refuted-requires-clause-whole c =
    let found = refuted_peer c.args.states.now c.in-Some.peer c.from.result (sym c.least.ensures ∙ c.in-Some.is) c.from.ensures in
    subst (IsWhole plain c.args.problem.now) (sym c.index-states-from.is) (each_at (IsWhole plain c.args.problem.now) c.args.states.now c.from.result c.index-states-from.result c.requires.whole found.0)

pub refuted-requires-clause-refuted : goal.refuted-requires-clause-refuted
refuted-requires-clause-refuted c =
    let found = refuted_peer c.args.states.now c.in-Some.peer c.from.result (sym c.least.ensures ∙ c.in-Some.is) c.from.ensures in
    ap (λ s. s.verdict) c.index-states-from.is ∙ ap (λ s. s.verdict) (sym (local_at c.args.states.now c.from.result c.index-states-from.result found.0)) ∙ found.1

pub returns-in-Some : goal.returns-in-Some
returns-in-Some c =
    let is = sym c.least.ensures ∙ c.in-Some.is in
    let found = refuted_peer c.args.states.now c.in-Some.peer c.from.result is c.from.ensures in
    let state = state_is c.args.states.now c.in-Some.peer c.from.result c.index-states-from.result c.from.ensures found.0 c.index-states-from.is in (
      is,
      subst (λ s. IsRefutedText (grid_of c.args.options.now.source) c.args.problem.now s c.in_ok-text.text) state
          (subst (λ grid. IsRefutedText grid c.args.problem.now (local_of c.index-states-from.result) c.in_ok-text.text) c.grid_of-grid.ensures (c.in_ok-text.ensures {u = tt})),
    )
