-- The derivation of a peer that is refuted is accepted.
use Rattle.std.proofs.Common.{sym, subst}
use Rattle.cd_alone.proofs.Refuting.{refutes}
use Rattle.cd_check.specs.Accepted.{IsRefutation}
use Rattle.cd_premises.proofs.Whole.{premises_meet}
use Rattle.cd_build.specs.Refuting.{DerivationsRefute}
use Rattle.cd_build.proofs.Lining.{all_printed, ends_printed}

pub derivations_refute : DerivationsRefute
derivations_refute order p s lines formed going verdict derived =
    let plain = derived.0 in
    let refuted = refutes order (premises_meet order) p s going verdict plain derived.1 in
    let printed = all_printed p formed plain refuted.right in
    subst (IsRefutation p) (sym derived.2) (record { formed = printed.1; right = printed.0; end = ends_printed p plain refuted.end })
