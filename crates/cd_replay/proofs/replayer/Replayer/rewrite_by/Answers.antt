use Rattle.std.proofs.Common.{refl}
use Rattle.std.specs.Prelude.{remove}
use Rattle.cd_machine.specs.Acts.{reworked}
use Rattle.cd_replay.proofs.Frames.{no_problem, place_within, rewrite_done, rewrite_front, rewrites_brought}
use Rattle.cd_replay.proofs.replayer.Replayer.rewrite_by.Goals as goal

pub put_back-requires : goal.put_back-requires
put_back-requires c =
    let u = record c.args.self.now.state { pending = c.bring.new.pending } in
    let d = c.in_ok-letters.ensures.does no_problem 0 in (
      reworked (rewrites_brought c.args.order.now no_problem c.args.self.now u c.rewrite.new.self 0 c.args.place c.in_ok-letters.letters c.requires.acts c.in_ok-bring.ensures refl d).found,
      remove c.args.self.now.state.pending.items c.args.place,
      rewrite_front c.args.order.now no_problem c.args.self.now u c.rewrite.new.self 0 c.args.place c.in_ok-letters.letters c.requires.acts c.in_ok-bring.ensures refl d,
      place_within c.args.self.now.state.pending.items c.args.place c.in_ok-bring.ensures.0 c.in_ok-bring.ensures.1,
    )

pub returns : goal.returns
returns c = λ p time.
    (let u = record c.args.self.now.state { pending = c.bring.new.pending } in
    let d = c.in_ok-letters.ensures.does p time in
    rewrite_done c.args.order.now p c.args.self.now u c.rewrite.new.self time c.args.place c.in_ok-letters.letters c.requires.acts c.in_ok-bring.ensures refl d (record c.rewrite.new.self { pending = c.put_back.new.pending })
    c.in_ok-letters.ensures.indexed refl
    (c.in_ok-put_back.ensures (reworked (rewrites_brought c.args.order.now p c.args.self.now u c.rewrite.new.self time c.args.place c.in_ok-letters.letters c.requires.acts c.in_ok-bring.ensures refl d).found)
    (remove c.args.self.now.state.pending.items c.args.place)
    (rewrite_front c.args.order.now p c.args.self.now u c.rewrite.new.self time c.args.place c.in_ok-letters.letters c.requires.acts c.in_ok-bring.ensures refl d)))
