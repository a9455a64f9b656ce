use Rattle.cd_outside.proofs.Cutting.{piece_fits, falls_short}
use Rattle.cd_outside.proofs.page.PageSink.write.Goals as goal

pub returns-in-None-clause-piece : goal.returns-in-None-clause-piece
returns-in-None-clause-piece c =
    rw c.take_in.ensures.state (piece_fits c.args.self.now c.args.piece.now c.take_in.ensures.limit c.take_in.ensures.cut c.in-None.ensures.fits)

pub returns-in-Some-clause-short : goal.returns-in-Some-clause-short
returns-in-Some-clause-short c =
    rw c.count_fault.ensures.state (rw c.take_in-in-Some.ensures.state (falls_short c.args.self.now c.in-Some.taken c.args.piece.now c.take_in-in-Some.ensures.limit c.take_in-in-Some.ensures.cut))
