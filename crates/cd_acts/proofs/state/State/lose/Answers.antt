use Rattle.std.proofs.Common.{ap, sym, ◌∙◌, ◌++◌, append-nil, refl}
use Rattle.cd_acts.specs.View.{local_of}
use Rattle.cd_acts.proofs.Names.{get_only}
use Rattle.cd_acts.proofs.Strikes.{indexed_at, lost_at, lost_none, notices_at, notices_none, others_miss, unheld_misses}
use Rattle.cd_machine.specs.Contraction.{named_hit}
use Rattle.cd_acts.proofs.state.State.lose.Goals as goal

pub returns-in-None-clause-state : goal.returns-in-None-clause-state
returns-in-None-clause-state c = lost_none (local_of c.args.self.now) (named_hit c.args.hit.of c.args.hit.how) c.args.by (others_miss c.args.hit.of c.args.hit.how c.args.self.now.known c.in-None.ensures)

pub returns-in-None-clause-letters : goal.returns-in-None-clause-letters
returns-in-None-clause-letters c =
    sym (append-nil c.args.letters.now) ∙ ap (λ xs. c.args.letters.now ++ xs) (sym (notices_none c.args.self.now.me c.args.time (named_hit c.args.hit.of c.args.hit.how) c.args.by c.args.self.now.known
    (others_miss c.args.hit.of c.args.hit.how c.args.self.now.known c.in-None.ensures)))

pub returns-then-not-holds-clause-state : goal.returns-then-not-holds-clause-state
returns-then-not-holds-clause-state c =
    lost_none (local_of c.args.self.now) (named_hit c.args.hit.of c.args.hit.how) c.args.by
    (unheld_misses c.args.hit.of c.args.hit.how c.args.self.now.known c.in-Some.found.0 c.in-Some.found.1.now c.in-Some.ensures (sym c.holds.ensures ∙ c.if-not-holds.true))

pub returns-then-not-holds-clause-letters : goal.returns-then-not-holds-clause-letters
returns-then-not-holds-clause-letters c =
    sym (append-nil c.args.letters.now) ∙ ap (λ xs. c.args.letters.now ++ xs) (sym (notices_none c.args.self.now.me c.args.time (named_hit c.args.hit.of c.args.hit.how) c.args.by c.args.self.now.known
    (unheld_misses c.args.hit.of c.args.hit.how c.args.self.now.known c.in-Some.found.0 c.in-Some.found.1.now c.in-Some.ensures (sym c.holds.ensures ∙ c.if-not-holds.true))))

pub returns-in_ok-add_rework-in-Some-clause-state : goal.returns-in_ok-add_rework-in-Some-clause-state
returns-in_ok-add_rework-in-Some-clause-state c =
    rw (c.strike.ensures.state c.in-Some.found.1.now (get_only c.args.hit.of c.args.self.now.known c.in-Some.found.0 c.in-Some.found.1.now c.in-Some.ensures), c.in_ok-add_rework-in-Some.ensures)
    (lost_at c.args.hit.of c.args.by c.args.hit.how c.args.self.now.known c.in-Some.found.0 c.in-Some.found.1.now c.in-Some.ensures (sym c.holds.ensures ∙ c.if-not-holds.false) (local_of c.args.self.now) refl)

pub returns-in_ok-add_rework-in-Some-clause-letters : goal.returns-in_ok-add_rework-in-Some-clause-letters
returns-in_ok-add_rework-in-Some-clause-letters c =
    c.in_ok-add_notice-in-Some.ensures
    ∙ ap (λ xs. c.args.letters.now ++ xs) (notices_at c.args.hit.of c.args.by c.args.hit.how c.args.self.now.known c.in-Some.found.0 c.in-Some.found.1.now c.in-Some.ensures (sym c.holds.ensures ∙ c.if-not-holds.false) c.args.self.now.me c.args.time)

pub returns-in_ok-add_rework-in-Some-clause-indexed : goal.returns-in_ok-add_rework-in-Some-clause-indexed
returns-in_ok-add_rework-in-Some-clause-indexed c =
    rw (c.strike.ensures.state c.in-Some.found.1.now (get_only c.args.hit.of c.args.self.now.known c.in-Some.found.0 c.in-Some.found.1.now c.in-Some.ensures))
    (indexed_at c.args.hit.of c.args.by c.args.hit.how c.args.self.now.known c.in-Some.found.0 c.in-Some.found.1.now c.in-Some.ensures (sym c.holds.ensures ∙ c.if-not-holds.false)
    c.args.self.now.me c.args.self.now.tasks.arrivals c.args.self.now.held c.args.self.now.waiting c.requires.indexed)
