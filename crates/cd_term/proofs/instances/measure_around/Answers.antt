use Rattle.std.proofs.Common.{◌+◌, ◌-◌, length, take, drop, map, slice_set, refl}
use Rattle.std.proofs.lemmas.List.{take_rest}
use Rattle.cd_term.specs.Terms.{size_of, depth_of, applied}
use Rattle.cd_term.proofs.Around.{changed_around, front_out, back_out, all_in}
use Rattle.cd_term.proofs.instances.measure_around.Goals as goal

pub returns-in_default-clause-measure : goal.returns-in_default-clause-measure
returns-in_default-clause-measure c = λ w m.
    let h = applied c.args.s.now in let ts = c.args.ts.now in let k = c.args.place in
    front_out size_of depth_of c.args.symbols c.args.levels (map h (take k ts)) (map h (drop (k + 1) ts)) (slice_set (map h ts) k w) w
    (changed_around h ts (take k ts) (drop (k + 1) ts) k w c.requires.place refl refl) c.args.inner m c.in_default.ensures

pub returns-in_default-measure_all_applied-clause-measure : goal.returns-in_default-measure_all_applied-clause-measure
returns-in_default-measure_all_applied-clause-measure c = λ w m.
    let h = applied c.args.s.now in let ts = c.args.ts.now in let k = c.args.place in
    let vs = take (length ts - (k + 1)) (drop (k + 1) ts) in
    back_out size_of depth_of c.args.symbols c.args.levels (map h (take k ts)) (map h vs) (slice_set (map h ts) k w) w
    (changed_around h ts (take k ts) vs k w c.requires.place refl (take_rest ts (k + 1))) c.args.inner c.in-Some.front m c.in-Some.ensures c.in_default-measure_all_applied.ensures

pub returns-clause-measure : goal.returns-clause-measure
returns-clause-measure c = λ w m.
    let h = applied c.args.s.now in let ts = c.args.ts.now in let k = c.args.place in
    let vs = take (length ts - (k + 1)) (drop (k + 1) ts) in
    all_in size_of depth_of c.args.symbols c.args.levels (map h (take k ts)) (map h vs) (slice_set (map h ts) k w) w
    (changed_around h ts (take k ts) vs k w c.requires.place refl (take_rest ts (k + 1))) c.args.inner c.in-Some.front c.in-Some-measure_all_applied.back m c.in-Some.ensures c.in-Some-measure_all_applied.ensures
