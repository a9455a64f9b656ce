use Rattle.cd_top.specs.Texts.{refuted_text, with_feed, unsatisfiable_line, start_line, end_line, lines_text}
use Rattle.cd_top.proofs.Chains.{four_pieces}
use Rattle.cd_top.proofs.texts.refuted_text.Goals as goal

pub returns : goal.returns
unfolding refuted_text
returns c =
    let p = c.args.problem.now in
    four_pieces c.new-text.result c.put_named.new.into c.put_named-2.new.into c.put_lines.new.into c.put_named-3.new.into
    (with_feed (unsatisfiable_line p.name)) (with_feed (start_line p.name)) (lines_text p.symbols c.args.lines.now) (with_feed (end_line p.name))
    c.new-text.ensures c.in_ok-put_named.ensures c.in_ok-put_named-2.ensures c.in_ok-put_lines.ensures c.in_ok-put_named-3.ensures
