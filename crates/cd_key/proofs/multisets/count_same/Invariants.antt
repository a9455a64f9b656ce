use Rattle.std.proofs.Common.{◌≡◌, take}
use Rattle.cd_key.specs.Forms.{literal_compare}
use Rattle.cd_key.specs.Multisets.{count_of}
use Rattle.cd_key.proofs.multisets.count_same.Given as goal

abbrev pub invariant-loop-m : goal.invariant-loop-m
invariant-loop-m l = l.count ≡ count_of (literal_compare l.order) l.l (take l.m-index l.ls)
