-- The texts of answers that both programs have.
use Rattle.std.specs.Prelude.{ℕ, List, [], ◌∷◌, ◌++◌, codes}
use Rattle.cd_parse.specs.declared.label.What.{What}
use Rattle.cd_parse.specs.declared.label.What.TheVariants as what
use Rattle.cd_read.specs.declared.problem.Wrong.{Wrong}
use Rattle.cd_text.specs.Numerals.{numeral}
use Rattle.cd_text.specs.Texts.{quoted}

abbrev pub usage_text : List ℕ
usage_text = codes "% aquarius usage\n"

abbrev pub what_text : What → List ℕ
what_text what.BadByte = codes "bad byte"
what_text what.OpenQuote = codes "open quote"
what_text what.OpenComment = codes "open comment"
what_text what.Syntax = codes "syntax"
what_text what.Language = codes "language"
what_text what.Role = codes "role"
what_text what.Object = codes "object"
what_text what.Number = codes "number"
what_text what.Dollar = codes "dollar"
what_text what.Deep = codes "deep"
what_text what.Depth = codes "depth"
what_text what.Cycle = codes "cycle"
what_text what.Selected = codes "selected"
what_text what.TooLarge = codes "too large"
what_text what.Long = codes "long"

unfoldable pub refused_text : Wrong → List ℕ
refused_text w = codes "% aquarius refused, " ++ (what_text w.what ++ (codes ", file " ++ (quoted w.file ++ (codes ", byte " ++ (numeral w.at ++ 10 ∷ [])))))

unfoldable pub unread_text : List ℕ → List ℕ
unread_text path = codes "% aquarius cannot read " ++ (quoted path ++ 10 ∷ [])
