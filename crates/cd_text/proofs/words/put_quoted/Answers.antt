use Rattle.std.proofs.Common.{◌++◌, codes}
use Rattle.std.specs.List.{flat_map}
use Rattle.cd_text.specs.Texts.{quoted, quoted_byte}
use Rattle.cd_text.proofs.Fronts.{on_err, adds_first}
use Rattle.cd_text.proofs.words.put_quoted.Goals as goal

pub returns-in_err-put_bytes-clause-front : goal.returns-in_err-put_bytes-clause-front
unfolding quoted
returns-in_err-put_bytes-clause-front c = on_err c.from_residual.result (adds_first _ _ (codes "'") (flat_map quoted_byte c.args.text.now ++ codes "'") c.in_err-put_bytes.ensures.front)
