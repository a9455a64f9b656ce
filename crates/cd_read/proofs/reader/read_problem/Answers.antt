use Rattle.std.proofs.Common.{◌≡◌, ◌∙◌, ◌++◌, ◌∷◌, [], ℕ, List, Err, refl, ap, rules}
use Rattle.cd_parse.specs.Parts.{Opens}
use Rattle.cd_read.specs.Files.{opens, start}
use Rattle.cd_read.specs.Fetched.{IsReadFault}
use Rattle.cd_read.proofs.FileLemmas.{err_is, problem_fault, problem_read, all_wanted}
use Rattle.cd_read.proofs.Read.{problem_formed, problem_bounded}
use Rattle.cd_read.proofs.reader.read_problem.Goals as goal

pub returns-in_err-read_file-clause-fault : goal.returns-in_err-read_file-clause-fault
returns-in_err-read_file-clause-fault g c =
    let e : c.from_residual-in_err-read_file.result ≡ Err c.in_err-read_file.field-0.0 = search rules in
    let here : c.push.new.self ≡ opens (start c.args.path.now) = c.in_ok-push.ensures.ok ∙ ap (λ (o : Opens). o ++ c.in_ok-copy.field-0 ∷ []) c.new-opens.ensures ∙ ap (λ (p : List ℕ). p ∷ []) c.in_ok-copy.ensures in
    err_is c.from_residual-in_err-read_file.result c.in_err-read_file.field-0.0
    (IsReadFault c.args.path.now (g.L.Library.holds c.args.library.now) (g.L.Library.told c.args.library.now) (g.L.Library.told c.read_file.new.library)) e
    (problem_fault c.args.path.now _ _ c.read_file.new.state _ _ c.in_err-read_file.field-0.0 (refl, c.new.ensures, c.new-2.ensures, c.new-3.ensures)
    (c.in_err-read_file.ensures.reads (start c.args.path.now) here all_wanted))

pub returns-clause-problem : goal.returns-clause-problem
returns-clause-problem g c =
    let here : c.push.new.self ≡ opens (start c.args.path.now) = c.in_ok-push.ensures.ok ∙ ap (λ (o : Opens). o ++ c.in_ok-copy.field-0 ∷ []) c.new-opens.ensures ∙ ap (λ (p : List ℕ). p ∷ []) c.in_ok-copy.ensures in
    problem_read c.args.path.now c.in_ok-name.name _ _ c.read_file.new.state _ _ _ c.in_ok-name.ensures
    (refl, c.new.ensures, c.new-2.ensures, c.new-3.ensures)
    (c.in_ok-read_file.ensures.reads (start c.args.path.now) here all_wanted)

pub returns-clause-formed : goal.returns-clause-formed
returns-clause-formed g c = let r = returns-clause-problem g c in problem_formed r.0 c.args.path.now _ r.2

pub returns-clause-bounded : goal.returns-clause-bounded
returns-clause-bounded g c = let r = returns-clause-problem g c in problem_bounded r.0 c.args.path.now _ r.2
