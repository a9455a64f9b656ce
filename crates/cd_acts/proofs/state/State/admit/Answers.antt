use Rattle.std.proofs.Common.{ap, refl, subst}
use Rattle.std.specs.Prelude.{None, Some, remove}
use Rattle.cd_ledger.specs.declared.letters.Body.TheVariants as body
use Rattle.cd_ledger.specs.declared.local.Local.{Local}
use Rattle.cd_acts.specs.Acts.{AdmitsBody}
use Rattle.cd_acts.specs.View.{local_of}
use Rattle.cd_acts.proofs.Acts.{admits}
use Rattle.cd_acts.proofs.state.State.admit.Goals as goal

pub returns-in_ok-letters-in-Kept-clause-does : goal.returns-in_ok-letters-in-Kept-clause-does
returns-in_ok-letters-in-Kept-clause-does c =
    admits c.args.order.now (local_of c.args.self.now) (local_of c.admit_record.new.self) c.args.time c.args.place c.take_letter-body.result (body.Kept c.in-Kept.r) (remove (local_of c.args.self.now).waiting c.args.place) c.in_ok-letters-in-Kept.letters
    c.take_letter-body.ensures.letter refl c.in-Kept.is
    (subst (λ (x : Local). AdmitsBody c.args.order.now x c.args.time (body.Kept c.in-Kept.r) (local_of c.admit_record.new.self) c.in_ok-letters-in-Kept.letters) c.take_letter-body.ensures.state c.in_ok-letters-in-Kept.ensures.does)

pub returns-in_ok-letters-in-Notice-clause-does : goal.returns-in_ok-letters-in-Notice-clause-does
returns-in_ok-letters-in-Notice-clause-does c =
    admits c.args.order.now (local_of c.args.self.now) (local_of c.admit_notice.new.self) c.args.time c.args.place c.take_letter-body.result (body.Notice c.in-Notice.of c.in-Notice.by c.in-Notice.how) (remove (local_of c.args.self.now).waiting c.args.place) c.in_ok-letters-in-Notice.letters
    c.take_letter-body.ensures.letter refl c.in-Notice.is
    (subst (λ (x : Local). AdmitsBody c.args.order.now x c.args.time (body.Notice c.in-Notice.of c.in-Notice.by c.in-Notice.how) (local_of c.admit_notice.new.self) c.in_ok-letters-in-Notice.letters) c.take_letter-body.ensures.state (c.in_ok-letters-in-Notice.ensures.does c.args.order.now))

pub returns-in-Token-clause-does : goal.returns-in-Token-clause-does
returns-in-Token-clause-does c =
    admits c.args.order.now (local_of c.args.self.now) _ c.args.time c.args.place c.take_letter-body.result (body.Token c.in-Token.token) (remove (local_of c.args.self.now).waiting c.args.place) c.new.result
    c.take_letter-body.ensures.letter refl c.in-Token.is
    (record { forward = None; hit = λ e. None; hits = tt; effect = ap (λ (x : Local). record x { token = Some c.in-Token.token }) c.take_letter-body.ensures.state; sends = c.new.ensures })
