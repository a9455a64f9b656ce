use Rattle.std.proofs.Common.{◌+◌, ◌-◌, length, take, drop, refl}
use Rattle.std.proofs.lemmas.List.{take_rest}
use Rattle.cd_term.specs.Terms.{applied}
use Rattle.cd_term.proofs.Around.{built_around}
use Rattle.cd_term.proofs.instances.apply_around.Goals as goal

pub returns : goal.returns
returns c =
    built_around (applied c.args.s.now) c.args.ts.now (take c.args.place c.args.ts.now) (take (length c.args.ts.now - (c.args.place + 1)) (drop (c.args.place + 1) c.args.ts.now)) _ _ _ _ c.args.place c.args.inner
    c.requires refl (take_rest c.args.ts.now (c.args.place + 1)) c.new-values.ensures c.in_ok-push_applied.ensures c.in_ok-push.ensures.ok c.in_ok-push_applied-2.ensures
