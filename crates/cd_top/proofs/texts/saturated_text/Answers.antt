use Rattle.std.proofs.Common.{◌++◌, codes, length, map, ap, sym, ◌∙◌}
use Rattle.std.specs.List.{flat_map}
use Rattle.std.proofs.lemmas.List.{length-map}
use Rattle.cd_text.specs.Texts.{shown}
use Rattle.cd_top.specs.Texts.{saturated_text, with_feed, counts_line, held_line}
use Rattle.cd_top.proofs.Chains.{five_pieces}
use Rattle.cd_top.proofs.texts.saturated_text.Goals as goal

pub returns : goal.returns
unfolding saturated_text
returns c =
    let p = c.args.problem.now in
    let held = map (λ r. r.now) c.args.live.now in
    five_pieces c.new-text.result c.put_named.new.into c.put_counts.new.into c.extend.new.self c.put_held.new.into c.extend-2.new.self
    (with_feed (codes "% SZS status GaveUp for " ++ shown p.name)) (with_feed (counts_line c.args.peers (length held))) (with_feed (codes "% aquarius list start"))
    (flat_map (λ r. with_feed (held_line p.symbols r)) held) (with_feed (codes "% aquarius list end"))
    c.new-text.ensures c.in_ok-put_named.ensures
    (c.in_ok-put_counts.ensures ∙ ap (λ n. c.put_named.new.into ++ with_feed (counts_line n (length c.args.live.now))) c.from.ensures
    ∙ ap (λ n. c.put_named.new.into ++ with_feed (counts_line c.args.peers n)) (sym (length-map c.args.live.now (λ r. r.now))))
    c.in_ok-extend.ensures.ok c.in_ok-put_held.ensures c.in_ok-extend-2.ensures.ok
