use Rattle.std.proofs.Common.{◌<◌, arith, length}
use Rattle.std.proofs.lemmas.Result.{err_from_is_err_and}
use Rattle.cd_report.proofs.Lines.{begins_with_line, sent_line, stops_in_line, front_taken}
use Rattle.cd_report.proofs.sending.send.Goals as goal

pub loop-rest-preserved : goal.loop-rest-preserved
loop-rest-preserved g c =
    let rest = c.loop-rest.rest.now in
    let some : 0 < length rest = omega (arith, c.first_line.ensures.some, c.first_line.ensures.within) in
    let first = begins_with_line rest c.split_at.result.0.now c.split_at.result.1.now c.first_line.result some c.first_line.ensures.length c.split_at.ensures.front c.split_at.ensures.back in
    record {
      sent = sent_line (g.K.Sink.taken c.args.sink.now) (g.K.Sink.taken c.loop-rest.sink) (g.K.Sink.taken c.write.new.self) (g.K.Sink.pieces c.args.sink.now) (g.K.Sink.pieces c.loop-rest.sink) (g.K.Sink.pieces c.write.new.self)
          c.args.text.now rest c.split_at.result.0.now c.split_at.result.1.now c.loop-rest.invariant.sent first c.in_ok-write.ensures.whole c.in_ok-write.ensures.piece;
      later = omega (arith, c.loop-rest.invariant.later, c.in_ok-write.ensures.cause.later);
    }

pub returns-in_err-write-clause-short : goal.returns-in_err-write-clause-short
returns-in_err-write-clause-short g c =
    let rest = c.loop-rest.rest.now in
    let some : 0 < length rest = omega (arith, c.first_line.ensures.some, c.first_line.ensures.within) in
    let first = begins_with_line rest c.split_at.result.0.now c.split_at.result.1.now c.first_line.result some c.first_line.ensures.length c.split_at.ensures.front c.split_at.ensures.back in
    let stops = stops_in_line (g.K.Sink.taken c.args.sink.now) (g.K.Sink.taken c.loop-rest.sink) (g.K.Sink.taken c.write.new.self) (g.K.Sink.pieces c.args.sink.now) (g.K.Sink.pieces c.loop-rest.sink) (g.K.Sink.pieces c.write.new.self)
    c.args.text.now rest c.split_at.result.0.now c.split_at.result.1.now c.loop-rest.invariant.sent first c.in_err-write.ensures.short in
    let p = err_from_is_err_and c.from_residual.result c.from_residual.ensures.1 in
    rw p.1 stops

pub returns-in_err-write-clause-front : goal.returns-in_err-write-clause-front
returns-in_err-write-clause-front g c =
    let p = err_from_is_err_and c.from_residual.result c.from_residual.ensures.1 in
    let stops = rw p.1 at (returns-in_err-write-clause-short g c) in
    rw p.1 (front_taken (g.K.Sink.taken c.args.sink.now) (g.K.Sink.taken c.write.new.self) (g.K.Sink.pieces c.args.sink.now) (g.K.Sink.pieces c.write.new.self) c.args.text.now stops)
