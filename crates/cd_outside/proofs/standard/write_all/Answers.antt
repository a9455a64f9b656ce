use Rattle.std.proofs.Common.{List, ℕ, sym, subst, ◌∙◌}
use Rattle.cd_outside.specs.Sent.{Sent}
use Rattle.cd_outside.proofs.Sending.{sent_more, sent_keeps, sent_front}
use Rattle.cd_outside.proofs.standard.write_all.Goals as goal

pub loop-rest-preserved : goal.loop-rest-preserved
loop-rest-preserved g c =
    let a = g.W.Writer.taken c.args.writer.now in
    let b = g.W.Writer.taken c.loop-rest.writer in
    let d = g.W.Writer.taken c.take.new.self in
    let sent = sent_more a b d c.args.piece.now c.loop-rest.rest.now c.in-Ok.n c.loop-rest.invariant.sent c.in-Ok.ensures.bytes in
    record {
      sent = subst (λ (l : List ℕ). Sent a d c.args.piece.now l) (sym c.split_at.ensures.back) sent;
      none_failed = c.in-Ok.ensures.count ∙ c.loop-rest.invariant.none_failed;
    }

pub returns-in-Err-clause-front : goal.returns-in-Err-clause-front
returns-in-Err-clause-front g c =
    let a = g.W.Writer.taken c.args.writer.now in
    let b = g.W.Writer.taken c.loop-rest.writer in
    let d = g.W.Writer.taken c.take.new.self in
    sent_front a d c.args.piece.now _ (sent_keeps a b d c.args.piece.now c.loop-rest.rest.now c.loop-rest.invariant.sent c.in-Err.ensures.bytes)
