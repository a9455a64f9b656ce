-- ASCII bytes are UTF-8, so that text is never refused.
use Rattle.std.proofs.lemmas.Str.{IsUtf8-from_ascii}
use Rattle.cd_list.proofs.text.Text.of_ascii.Goals as goal

pub unreachable-requires : goal.unreachable-requires
unreachable-requires c = absurd (c.in-Err.ensures.cases.0 (IsUtf8-from_ascii c.args.bytes.now c.requires))
