-- A printed refutation is accepted.
use Rattle.std.proofs.Common.{List, [], ◌∷◌}
use Rattle.std.specs.List.{AllByRecursion}
use Rattle.cd_symbols.specs.Symbol.{Symbol}
use Rattle.cd_text.specs.declared.line.Line.{Line}
use Rattle.cd_text.specs.declared.line.LineRole.{LineRole}
use Rattle.cd_text.specs.declared.line.LineRole.TheVariants.{Given, Plain}
use Rattle.cd_text.specs.declared.line.LineSource.{LineSource}
use Rattle.cd_text.specs.declared.line.LineSource.TheVariants.{File, Inference}
use Rattle.cd_text.specs.Feeds.{SourceFits}
use Rattle.cd_text.specs.Formed.{IsSourceFormed, IsLineFormed}
use Rattle.cd_check.specs.Lines.{RefutationsAreAccepted}
use Rattle.cd_check.proofs.Cuts.{derivation_taken}

source_fits : (symbols : List Symbol) (role : LineRole) (s : LineSource) → IsSourceFormed symbols role s → SourceFits s
source_fits symbols (Given role) (File path label) ok = ok
source_fits symbols Plain (File path label) ok = absurd ok
source_fits symbols role (Inference step parents) ok = tt

pub all_fit : (symbols : List Symbol) (ls : List Line) → AllByRecursion (IsLineFormed symbols) ls → AllByRecursion (λ (l : Line). SourceFits l.source) ls
all_fit symbols [] each = tt
all_fit symbols (l ∷ ls) each = (source_fits symbols l.role l.source each.0.source, all_fit symbols ls each.1)

pub refutations_are_accepted : RefutationsAreAccepted
refutations_are_accepted p x y z ls at_x at_y at_z refutes =
    record {
      lines = ls;
      form = derivation_taken p.symbols x y z ls at_x at_y at_z (all_fit p.symbols ls refutes.formed);
      refutes = refutes;
    }
