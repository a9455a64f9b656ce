use Rattle.std.proofs.Common.{◌≡◌, ◌∙◌, ◌++◌, ◌∷◌, [], ℕ, List, ap, ap₂, subst}
use Rattle.cd_outside.specs.Shelf.{ShelfState, bytes_of}
use Rattle.cd_read.specs.Fetched.{AreWhole}
use Rattle.cd_read.specs.Files.{File, GivesProblem}
use Rattle.cd_options.specs.Grid.{grid_name, grid_text}
use Rattle.cd_options.proofs.grid.grid_problem.Goals as goal

pub returns-in-Ok-clause-grid : goal.returns-in-Ok-clause-grid
returns-in-Ok-clause-grid c =
    let read = c.in-Ok.ensures.problem in
    let held : c.new-shelf.result.files ≡ (grid_name c.args.n, grid_text c.args.n) ∷ [] =
    ap (λ (s : ShelfState). s.files) c.new-shelf.ensures ∙ c.in_ok-push.ensures.ok
    ∙ ap (λ (xs : List File). xs ++ (c.in_ok-copy.field-0, c.in_ok-text.text) ∷ []) c.new-files.ensures
    ∙ ap₂ (λ (a b : List ℕ). (a, b) ∷ []) (c.in_ok-copy.ensures ∙ c.in_ok-name.ensures) c.in_ok-text.ensures in (
      read.0,
      subst (λ (shelved : List File). AreWhole (bytes_of shelved) read.0) held read.1.whole,
      subst (λ (name : List ℕ). GivesProblem read.0 name c.in-Ok.problem) c.in_ok-name.ensures read.2,
    )
