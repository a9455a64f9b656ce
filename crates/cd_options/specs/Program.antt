-- The command, as clap's clauses see it.
-- Beyond the headline: no clause of `prove` reaches option_arg, file_arg, bare_program, program.
use Rattle.std.specs.Prelude.{◌++◌, true, List, [], ◌∷◌, Some, map, codes}
use Rattle.clap.specs.Walk.{Rule}
use Rattle.clap.specs.Simple.{App, new_rule, new_shape}
use Rattle.clap.specs.declared.builder.action.ArgAction.TheVariants.{Set}
use Rattle.cd_options.specs.Grammar.{Text}

abbrev pub option_arg : Text → Rule
option_arg name = record (new_rule name) { long = Some name; action = Some Set }

abbrev pub file_arg : Rule
file_arg = record (new_rule (codes "file")) { action = Some Set }

abbrev pub option_names : List Text
option_names = codes "peers" ∷ codes "steps" ∷ codes "allocate" ∷ codes "schedule" ∷ codes "grid" ∷ []

abbrev pub bare_program : App
bare_program = record {
  top = record (new_shape (codes "aquarius")) {
    no_binary_name = true;
    disable_help_flag = true;
    disable_version_flag = true;
  };
  subs = [];
}

abbrev pub program : App
program = record {
  top = record bare_program.top { rules = map option_arg option_names ++ file_arg ∷ [] };
  subs = [];
}
