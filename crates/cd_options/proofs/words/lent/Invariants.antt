use Rattle.std.proofs.Common.{◌≡◌, map, take}
use Rattle.std.specs.List.{AllByRecursion}
use Rattle.std.specs.Prelude.{IsUtf8}
use Rattle.cd_options.proofs.words.lent.Given as goal

-- the words so far stand there, and each is text
abbrev pub invariant-loop-word : goal.invariant-loop-word
invariant-loop-word l = record {
  same : map (λ w. w.now) l.lent.items ≡ take l.word-index l.words;
  text : AllByRecursion (λ w. IsUtf8 w.now) l.lent.items;
}
