use Rattle.cd_acts.specs.View.{local_of}
use Rattle.cd_infer.specs.Conclusions.{IsUsable}
use Rattle.cd_laws.specs.Turns.{IsForcedHere}
use Rattle.cd_list.proofs.Lists.{all_get}
use Rattle.cd_peer.proofs.Firsts.{forced_named}
use Rattle.cd_peer.proofs.choosing.choose_item.Goals as goal

pub choose_rewriting-requires-clause-within : goal.choose_rewriting-requires-clause-within
choose_rewriting-requires-clause-within c = (all_get (λ i. IsUsable i.clause) (local_of c.args.state.now).pending 0 c.args.item.now c.requires.sensible.items c.requires.there).within

pub choose_rewriting-requires-clause-rewriter : goal.choose_rewriting-requires-clause-rewriter
choose_rewriting-requires-clause-rewriter c =
    forced_named c.args.order.now c.args.state.now.known c.args.item.now c.in-Some.by
    (all_get (IsForcedHere c.args.order.now c.args.state.now.known) (local_of c.args.state.now).pending 0 c.args.item.now c.requires.ready.forced c.requires.there) c.in-Some.is

pub choose_free-requires-clause-within : goal.choose_free-requires-clause-within
choose_free-requires-clause-within c = (all_get (λ i. IsUsable i.clause) (local_of c.args.state.now).pending 0 c.args.item.now c.requires.sensible.items c.requires.there).within
