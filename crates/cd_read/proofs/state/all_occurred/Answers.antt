use Rattle.cd_read.proofs.StateLemmas.{listed_missing}
use Rattle.cd_read.proofs.state.all_occurred.Goals as goal

pub returns-in-Some-first_missing : goal.returns-in-Some-first_missing
returns-in-Some-first_missing c =
    listed_missing c.args.only.now c.in-Some.labels c.as_slice.result.now _ c.args.starts.now c.args.path.now c.in-Some-first_missing.k c.wrong.result
    c.in-Some.is c.as_slice.ensures c.in-Some-first_missing.ensures c.requires.places c.wrong.ensures
