use Rattle.std.specs.List.{AllByRecursion}
use Rattle.std.specs.Borrow.{Bor}
use Rattle.std.specs.Prelude.{IsUtf8}
use Rattle.std.proofs.Common.{◌≡◌, ◌≢◌, ◌∙◌, ap, subst, refl, ℕ, List, [], ◌∷◌, map, IfOk, IfErr, Result, Ok, Err, true, ⊎_elim}
use Rattle.clap.specs.Words.{App, HasMatchesOf, Text, found_of, first_value, app_of, kind_of}
use Rattle.clap.specs.Kinds.{FailsBy, IsAmong}
use Rattle.clap.specs.Faults.{fault_of, is_simple_and_free}
use Rattle.clap.specs.Walk.{first_of}
use Rattle.clap.proofs.WalkLemmas.{first_value-rows}
use Rattle.clap.specs.declared.error.Error.{Error}
use Rattle.clap.specs.declared.error.kind.ErrorKind.TheVariants.{OutOfMemory}
use Rattle.clap.specs.declared.parser.matches.ArgMatches.{ArgMatches}
use Rattle.cd_options.specs.Program.{program, option_names}
use Rattle.cd_options.specs.Grammar.{Given, Spells, AtMostOnce, value_of}
use Rattle.cd_options.proofs.Walks.{TextWords, passed_is_spelled, spelled_passes}
use Rattle.cd_options.proofs.command.matched.Goals as goal

all_text : (ws : List (Bor (List ℕ))) → AllByRecursion (λ w. IsUtf8 w.now) ws → TextWords (map (λ (w : Bor (List ℕ)). w.now) ws)
all_text [] all = tt
all_text (w ∷ ws) all = (all.0, all_text ws all.1)

given_by : (r : Result ArgMatches Error) (words : List Text) → TextWords words → FailsBy (fault_of program words) r → IfOk r (HasMatchesOf program words)
    → IfOk r (λ m. (gs : List Given) × Spells option_names words gs × AtMostOnce gs × ((id : List ℕ) → first_value (found_of m) id ≡ value_of gs id))
given_by (Ok m) words texts none matches =
    let s = passed_is_spelled words texts none in
    (s.given, s.spells, s.once, λ id. first_value-rows (found_of m) id ∙ ap (first_of id) (matches refl).0 ∙ s.values id)
given_by (Err e) words texts fails matches = tt

refused_by : (r : Result ArgMatches Error) (words : List Text) → FailsBy (fault_of program words) r
    → IfErr r (λ e. kind_of e ≢ OutOfMemory → (gs : List Given) → Spells option_names words gs → AtMostOnce gs → ⊥)
refused_by (Ok m) words fails = tt
refused_by (Err e) words fails = λ other gs spells once.
    ⊎_elim (λ memory. other memory) (λ among. subst (IsAmong (kind_of e)) (spelled_passes words gs spells once) among) fails

pub returns-clause-ok : goal.returns-clause-ok
returns-clause-ok c =
    let parse = c.try_get_matches_from in
    let words = map (λ (w : Bor (List ℕ)). w.now) c.args.words.now in
    let is : app_of c.in_ok-command.command ≡ program = c.in_ok-command.ensures in
    let simple : is_simple_and_free (app_of c.in_ok-command.command) ≡ true = ap is_simple_and_free is in
    given_by parse.result words (all_text c.args.words.now c.requires)
    (subst (λ (a : App). FailsBy (fault_of a words) parse.result) is (parse.ensures.kinds simple))
    (subst (λ (a : App). IfOk parse.result (HasMatchesOf a words)) is parse.ensures.matches)

pub returns-clause-err : goal.returns-clause-err
returns-clause-err c =
    let parse = c.try_get_matches_from in
    let words = map (λ (w : Bor (List ℕ)). w.now) c.args.words.now in
    let is : app_of c.in_ok-command.command ≡ program = c.in_ok-command.ensures in
    let simple : is_simple_and_free (app_of c.in_ok-command.command) ≡ true = ap is_simple_and_free is in
    refused_by parse.result words (subst (λ (a : App). FailsBy (fault_of a words) parse.result) is (parse.ensures.kinds simple))
