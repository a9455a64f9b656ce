use Rattle.std.proofs.Common.{Bool, sym, ◌∙◌, ap, subst}
use Rattle.cd_world.specs.Worlds.{IsWorld, MayStep, WorldView}
use Rattle.cd_world.proofs.Worlds.{broken, may_do, stepped}
use Rattle.cd_world.proofs.world.World.step.Goals as goal

pub do_choice-requires : goal.do_choice-requires
do_choice-requires c =
    may_do (record { problem = c.self.inside.problem.now; policy = c.self.inside.policy; limits = c.self.inside.limits; parts = record { peers = c.self.inside.peers.items; travelling = c.self.inside.travelling; order = c.self.inside.order }; fallen = c.self.inside.fallen })
    c.self.invariant (ap (λ (v : WorldView). v.fallen) c.self.view_is ∙ c.requires.standing) c.args.choice (subst (λ (v : WorldView). MayStep v.parts c.args.choice) (sym c.self.view_is) c.requires.may)

pub invariant_of-self : goal.invariant_of-self
invariant_of-self c =
    let f = ap (λ (v : WorldView). v.fallen) c.self.view_is ∙ c.requires.standing in
    subst (λ (b : Bool). IsWorld (record { problem = c.self.inside.problem.now; policy = c.self.inside.policy; limits = c.self.inside.limits; parts = record { peers = c.do_choice.new.peers.items; travelling = c.do_choice.new.travelling; order = c.do_choice.new.order }; fallen = b })) (sym f)
    (stepped (record { problem = c.self.inside.problem.now; policy = c.self.inside.policy; limits = c.self.inside.limits; parts = record { peers = c.self.inside.peers.items; travelling = c.self.inside.travelling; order = c.self.inside.order }; fallen = c.self.inside.fallen })
    c.self.invariant f c.args.choice (record { peers = c.do_choice.new.peers.items; travelling = c.do_choice.new.travelling; order = c.do_choice.new.order }) c.in-Ok.turned
    (subst (λ (v : WorldView). MayStep v.parts c.args.choice) (sym c.self.view_is) c.requires.may) c.in-Ok.ensures.ok)

pub invariant_of-self-in-Err : goal.invariant_of-self-in-Err
invariant_of-self-in-Err c =
    let f = ap (λ (v : WorldView). v.fallen) c.self.view_is ∙ c.requires.standing in
    broken (record { problem = c.self.inside.problem.now; policy = c.self.inside.policy; limits = c.self.inside.limits; parts = record { peers = c.self.inside.peers.items; travelling = c.self.inside.travelling; order = c.self.inside.order }; fallen = c.self.inside.fallen })
    c.self.invariant f c.args.choice (record { peers = c.do_choice.new.peers.items; travelling = c.do_choice.new.travelling; order = c.do_choice.new.order })
    (subst (λ (v : WorldView). MayStep v.parts c.args.choice) (sym c.self.view_is) c.requires.may) c.in-Err.ensures.err
