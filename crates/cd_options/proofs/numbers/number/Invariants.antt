use Rattle.std.proofs.Common.{◌≡◌, drop}
use Rattle.std.specs.List.{list_all}
use Rattle.cd_options.specs.Numbers.{is_digit, value_from}
use Rattle.cd_options.proofs.numbers.number.Given as goal

-- the digits so far give n: what holds of the rest holds of the whole
abbrev pub invariant-loop-b : goal.invariant-loop-b
invariant-loop-b l = record {
  value : value_from 0 l.text ≡ value_from l.n (drop l.b-index l.text);
  digits : list_all is_digit l.text ≡ list_all is_digit (drop l.b-index l.text);
}
