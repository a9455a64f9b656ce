use Rattle.std.proofs.Common.{◌≡◌, ◌++◌, take, codes}
use Rattle.std.specs.List.{flat_map}
use Rattle.cd_text.specs.Numerals.{numeral}
use Rattle.cd_text.proofs.rule.put_further.Given as goal

abbrev pub invariant-loop-number : goal.invariant-loop-number
invariant-loop-number l = record {
  printed : l.into ≡ l.initial.into ++ flat_map (λ n. codes "," ++ numeral n) (take l.number-index l.numbers);
}
