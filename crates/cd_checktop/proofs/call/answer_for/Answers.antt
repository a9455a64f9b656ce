use Rattle.std.proofs.lemmas.Result.{IfOk-weaker}
use Rattle.cd_checktop.proofs.Telling.{checked, faulty, of_library, first_answer, rose_later, few, few_first}
use Rattle.cd_checktop.proofs.call.answer_for.Goals as goal

pub returns-in-Err-clause-checked : goal.returns-in-Err-clause-checked
returns-in-Err-clause-checked g c =
    IfOk-weaker c.answer_of.result _ _
    (λ made is. faulty (g.L.Library.holds c.args.library.now) c.args.path.now c.args.derivation.now (g.L.Library.told c.args.library.now) (g.L.Library.told c.read_problem.new.library) c.in-Err.fault made c.in-Err.ensures.fault is) c.answer_of.ensures

pub returns-in-Err-clause-library_fault : goal.returns-in-Err-clause-library_fault
returns-in-Err-clause-library_fault g c = IfOk-weaker c.answer_of.result _ _ (λ made is h. c.in-Err.ensures.library (of_library c.in-Err.fault made is h)) c.answer_of.ensures

pub returns-in-Err-clause-first : goal.returns-in-Err-clause-first
returns-in-Err-clause-first g c = IfOk-weaker c.answer_of.result _ _ (λ made is. first_answer c.in-Err.fault made is) c.answer_of.ensures

pub returns-in-Err-clause-fetched : goal.returns-in-Err-clause-fetched
returns-in-Err-clause-fetched g c = few_first (g.L.Library.told c.args.library.now) (g.L.Library.told c.read_problem.new.library) c.read_problem.ensures.capped

pub returns-in-Ok-clause-checked : goal.returns-in-Ok-clause-checked
returns-in-Ok-clause-checked g c =
    IfOk-weaker c.judge.result _ _
    (λ made d. checked (g.L.Library.holds c.args.library.now) c.args.path.now c.args.derivation.now (g.L.Library.holds c.read_problem.new.library c.args.derivation.now) (g.L.Library.told c.args.library.now) (g.L.Library.told c.read_problem.new.library) (g.L.Library.told c.judge.new.library) c.in-Ok.problem made
    (c.read_problem.ensures.stays c.args.derivation.now) c.in-Ok.ensures.problem d)
    c.judge.ensures.derived

pub returns-in-Ok-clause-library_fault : goal.returns-in-Ok-clause-library_fault
returns-in-Ok-clause-library_fault g c =
    IfOk-weaker c.judge.result _ _
    (λ made r f. rose_later (g.L.Library.faults c.args.library.now) (g.L.Library.faults c.read_problem.new.library) (g.L.Library.faults c.judge.new.library) c.read_problem.ensures.later (r f)) c.judge.ensures.library_fault

pub returns-in-Ok-clause-fetched : goal.returns-in-Ok-clause-fetched
returns-in-Ok-clause-fetched g c =
    few (g.L.Library.told c.args.library.now) (g.L.Library.told c.read_problem.new.library) (g.L.Library.told c.judge.new.library) c.read_problem.ensures.capped c.judge.ensures.fetched
