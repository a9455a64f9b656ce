-- Terms and clauses over the symbols of a table.
-- Beyond the headline: no clause of `prove` reaches this file.
use Rattle.std.specs.Prelude.{List, slice_get}
use Rattle.cd_read.specs.Formed as formed
use Rattle.cd_symbols.specs.Symbol.{Symbol}
use Rattle.cd_term.specs.Symbols.{Symbols}

-- which numbers are symbols of the table, with how many arguments
abbrev pub symbols_in : List Symbol → Symbols
symbols_in table = record { is_function = λ f n. formed.is_function n (slice_get table f); is_predicate = λ f n. formed.is_predicate n (slice_get table f) }
