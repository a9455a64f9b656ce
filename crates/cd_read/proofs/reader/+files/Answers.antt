use Rattle.std.proofs.Common.{◌≡◌, ◌∙◌, ◌++◌, ◌∷◌, ◌≤◌, [], ℕ, List, Result, Ok, Err, IfErr, length, drop, sym, ap, subst, arith, rules}
use Rattle.cd_lex.specs.Bytes.{Bytes}
use Rattle.cd_parse.specs.Parts.{Opens}
use Rattle.cd_read.specs.Files.{opens, included, with_list}
use Rattle.cd_read.specs.declared.labels.Wanted.{Wanted}
use Rattle.cd_outside.specs.Outside.{Rose}
use Rattle.cd_read.specs.declared.state.State.{State}
use Rattle.cd_read.specs.declared.reader.ReadFault.{ReadFault}
use Rattle.cd_read.specs.declared.reader.ReadFault.TheVariants as failure
use Rattle.cd_read.specs.Labels.{Wants}
use Rattle.cd_read.specs.States.{Listed, HasPlaces, CameFile, CameFrom, CameInclude}
use Rattle.cd_read.specs.Fetched.{IsOfLibrary}
use Rattle.cd_read.specs.States.{Spends}
use Rattle.cd_read.proofs.Spending.{spends_append}
use Rattle.cd_read.proofs.StateLemmas.{path_is}
use Rattle.cd_read.proofs.FileLemmas.{include_memory, include_stopped, include_read, popped, on_ok, file_stopped, file_read, from_next, from_over, from_include, begun_clause, begun_include, include_step, an_inside, no_library, over_same}
use Rattle.cd_read.proofs.reader.+files.Goals as goal

pub include-returns-in_err-inner-clause-reads : goal.include-returns-in_err-inner-clause-reads
include-returns-in_err-inner-clause-reads g t c = λ i same wants.
    let e : c.from_residual.result ≡ Err failure.Memory = search rules in include_memory i _ _ _ _ _ _ _ _ c.from_residual.result e

pub include-returns-in_err-push-clause-reads : goal.include-returns-in_err-push-clause-reads
include-returns-in_err-push-clause-reads g t c = λ i same wants.
    let e : c.from_residual-in_err-push.result ≡ Err failure.Memory = search rules in include_memory i _ _ _ _ _ _ _ _ c.from_residual-in_err-push.result e

pub include-returns-in_err-read_file-clause-reads : goal.include-returns-in_err-read_file-clause-reads
include-returns-in_err-read_file-clause-reads g t c = λ i same wants.
    let e : c.from_residual-in_err-read_file.result ≡ Err c.in_err-read_file.field-0.0 = search rules in
    let here : c.push.new.self ≡ opens (included i c.args.path c.args.only) = c.in_ok-push.ensures.ok ∙ ap (λ (o : Opens). o ++ c.args.path ∷ []) same in
    let wanted : Wants c.innermost.result.now (with_list c.args.only i.lists) = subst (λ (w : Wanted). Wants w (with_list c.args.only i.lists)) (sym c.innermost.ensures) (c.in_ok-inner.ensures i.lists wants) in
    subst (CameInclude i (g.L.Library.holds c.args.library.now) c.args.path c.args.only c.args.starts.now c.args.state.now c.read_file.new.state (g.L.Library.told c.args.library.now) (g.L.Library.told c.read_file.new.library)) (sym e)
    (include_stopped i _ c.args.path c.args.only c.args.starts.now _ _ _ _ c.in_err-read_file.field-0.0 (c.in_err-read_file.ensures.reads (included i c.args.path c.args.only) here wanted))

pub include-returns-clause-same : goal.include-returns-clause-same
include-returns-clause-same g t c =
    on_ok c.all_occurred.result _ (popped c.pop.result c.read_file.new.opens c.pop.new.self c.args.opens.now c.args.path (c.in_ok-read_file.ensures.same ∙ c.in_ok-push.ensures.ok) c.pop.ensures)

pub include-returns-clause-reads : goal.include-returns-clause-reads
include-returns-clause-reads g t c = λ i same wants.
    let here : c.push.new.self ≡ opens (included i c.args.path c.args.only) = c.in_ok-push.ensures.ok ∙ ap (λ (o : Opens). o ++ c.args.path ∷ []) same in
    let wanted : Wants c.innermost.result.now (with_list c.args.only i.lists) = subst (λ (w : Wanted). Wants w (with_list c.args.only i.lists)) (sym c.innermost.ensures) (c.in_ok-inner.ensures i.lists wants) in
    let back : c.as_slice.result.now ≡ opens i = c.as_slice.ensures
    ∙ popped c.pop.result c.read_file.new.opens c.pop.new.self c.args.opens.now c.args.path
    (c.in_ok-read_file.ensures.same ∙ c.in_ok-push.ensures.ok) c.pop.ensures ∙ same in
    include_read i _ c.args.path c.args.only c.args.starts.now c.last.result.now _ _ _ _ _ c.all_occurred.result
    (path_is c.as_slice.result.now i c.last.result.now back c.last.ensures)
    (c.in_ok-read_file.ensures.reads (included i c.args.path c.args.only) here wanted)
    (subst (λ (n : ℕ). Listed c.args.only (drop n c.read_file.new.state.seen) c.args.starts.now c.last.result.now c.all_occurred.result) c.len-before.ensures c.all_occurred.ensures)

pub read_file-returns-in_err-bytes-clause-reads : goal.read_file-returns-in_err-bytes-clause-reads
read_file-returns-in_err-bytes-clause-reads g t c = λ i same wants.
    let e : c.from_residual.result ≡ Err c.in_err-bytes.field-0.0 = search rules in
    subst (CameFile i (g.L.Library.holds c.args.library.now) c.args.state.now c.fetch.new.state (g.L.Library.told c.args.library.now) (g.L.Library.told c.fetch.new.library)) (sym e)
    (file_stopped i c.last.result.now (g.L.Library.holds c.args.library.now) _ c.fetch.new.state _ _ _ c.in_err-bytes.field-0.0 (path_is c.as_slice.result.now i c.last.result.now (c.as_slice.ensures ∙ same) c.last.ensures) c.in_err-bytes.ensures.fetched)

pub read_file-returns-clause-spends : goal.read_file-returns-clause-spends
read_file-returns-clause-spends g t c =
    spends_append _ _ _ _ _ _ c.in_ok-bytes.bytes c.read_statements.result c.in_ok-bytes.ensures.spends c.read_statements.ensures.spends

pub read_file-returns-in_err-file-clause-reads : goal.read_file-returns-in_err-file-clause-reads
unfolding CameFile
read_file-returns-in_err-file-clause-reads g t c = λ i same wants.
    let e : c.from_residual-in_err-file.result ≡ Err failure.Memory = search rules in
    subst (CameFile i (g.L.Library.holds c.args.library.now) c.args.state.now c.fetch.new.state (g.L.Library.told c.args.library.now) (g.L.Library.told c.fetch.new.library)) (sym e) tt

pub read_file-returns-clause-reads : goal.read_file-returns-clause-reads
read_file-returns-clause-reads g t c = λ i same wants.
    file_read i c.last.result.now (g.L.Library.holds c.args.library.now)
    (g.L.Library.holds c.fetch.new.library) c.in_ok-bytes.bytes _ c.fetch.new.state _ _ (g.L.Library.told c.fetch.new.library) _ c.read_statements.result
    (path_is c.as_slice.result.now i c.last.result.now (c.as_slice.ensures ∙ same) c.last.ensures) c.fetch.ensures.stays c.in_ok-bytes.ensures.fetched
    (subst (λ (n : ℕ). CameFrom i (g.L.Library.holds c.fetch.new.library) c.in_ok-bytes.bytes n c.fetch.new.state c.read_statements.new.state (g.L.Library.told c.fetch.new.library) (g.L.Library.told c.read_statements.new.library) c.read_statements.result)
    c.started-progress.ensures.0
    (subst (λ (b : Bytes). CameFrom i (g.L.Library.holds c.fetch.new.library) b c.started-progress.result.at c.fetch.new.state c.read_statements.new.state (g.L.Library.told c.fetch.new.library) (g.L.Library.told c.read_statements.new.library) c.read_statements.result)
    c.as_slice-3.ensures (c.read_statements.ensures.reads i same wants)))

pub read_statements-returns-in_err-read_next-clause-library : goal.read_statements-returns-in_err-read_next-clause-library
read_statements-returns-in_err-read_next-clause-library g t c =
    let e : c.from_residual.result ≡ Err c.in_err-read_next.field-0.0 = search rules in
    let ins = an_inside c.as_slice.result.now c.loop-path.opens c.args.opens.now c.args.wanted.now c.as_slice.ensures c.loop-path.invariant.same c.requires.some in
    subst (λ (r : Result (Unit {0}) ReadFault). IfErr r (λ f. IsOfLibrary f → Rose (g.L.Library.faults c.args.library.now) (g.L.Library.faults c.loop-path.library))) (sym e)
    (λ of. absurd (no_library ins.0 _ _ c.read_next.new.progress _ _ c.in_err-read_next.field-0.0 (c.in_err-read_next.ensures ins.0 ins.1 ins.2) of))

pub read_statements-returns-in_err-read_next-clause-reads : goal.read_statements-returns-in_err-read_next-clause-reads
read_statements-returns-in_err-read_next-clause-reads g t c = λ i same wants.
    let e : c.from_residual.result ≡ Err c.in_err-read_next.field-0.0 = search rules in
    subst (CameFrom i (g.L.Library.holds c.args.library.now) c.args.bytes.now c.args.progress.now.at c.args.state.now c.read_next.new.state (g.L.Library.told c.args.library.now) (g.L.Library.told c.loop-path.library)) (sym e)
    (from_next i _ _ _ _ _ _ _ _ _ c.read_next.new.progress c.in_err-read_next.field-0.0 (c.loop-path.invariant.begun i same wants)
    (c.in_err-read_next.ensures i (c.as_slice.ensures ∙ c.loop-path.invariant.same ∙ same) wants))

pub read_statements-returns-in-Over-clause-used : goal.read_statements-returns-in-Over-clause-used
read_statements-returns-in-Over-clause-used g t c =
    let ins = an_inside c.as_slice.result.now c.loop-path.opens c.args.opens.now c.args.wanted.now c.as_slice.ensures c.loop-path.invariant.same c.requires.some in
    subst (λ (s : State). s.used ≤ 4194304)
    (sym (over_same ins.0 _ _ c.read_next.new.progress c.loop-path.state c.read_next.new.state c.in_ok-read_next.field-0 c.in-Over.is (c.in_ok-read_next.ensures ins.0 ins.1 ins.2)))
    c.loop-path.invariant.used

pub read_statements-returns-in-Over-clause-spends : goal.read_statements-returns-in-Over-clause-spends
read_statements-returns-in-Over-clause-spends g t c =
    let ins = an_inside c.as_slice.result.now c.loop-path.opens c.args.opens.now c.args.wanted.now c.as_slice.ensures c.loop-path.invariant.same c.requires.some in
    subst (λ (s : State). Spends {T = Unit {0}} c.args.state.now.used s.used (g.L.Library.told c.args.library.now) (g.L.Library.told c.loop-path.library) (Ok tt))
    (sym (over_same ins.0 _ _ c.read_next.new.progress c.loop-path.state c.read_next.new.state c.in_ok-read_next.field-0 c.in-Over.is (c.in_ok-read_next.ensures ins.0 ins.1 ins.2)))
    c.loop-path.invariant.spends

pub read_statements-returns-in-Over-clause-reads : goal.read_statements-returns-in-Over-clause-reads
read_statements-returns-in-Over-clause-reads g t c = λ i same wants.
    from_over i _ _ _ _ _ _ _ _ _ c.read_next.new.progress c.in_ok-read_next.field-0 c.in-Over.is (c.loop-path.invariant.begun i same wants)
    (c.in_ok-read_next.ensures i (c.as_slice.ensures ∙ c.loop-path.invariant.same ∙ same) wants)

pub read_statements-loop-path-smaller-in-Clause : goal.read_statements-loop-path-smaller-in-Clause
read_statements-loop-path-smaller-in-Clause g t c =
    let ins = an_inside c.as_slice.result.now c.loop-path.opens c.args.opens.now c.args.wanted.now c.as_slice.ensures c.loop-path.invariant.same c.requires.some in
    let m = begun_clause ins.0 _ _ _ _ _ _ _ _ _ c.read_next.new.progress c.in_ok-read_next.field-0 c.in-Clause.is
    (c.loop-path.invariant.begun ins.0 (sym c.loop-path.invariant.same ∙ sym c.as_slice.ensures ∙ ins.1) ins.2) (c.in_ok-read_next.ensures ins.0 ins.1 ins.2) in
    omega (arith, m.0.0, m.0.1)

pub read_statements-loop-path-preserved-in-Clause : goal.read_statements-loop-path-preserved-in-Clause
read_statements-loop-path-preserved-in-Clause g t c =
    let ins = an_inside c.as_slice.result.now c.loop-path.opens c.args.opens.now c.args.wanted.now c.as_slice.ensures c.loop-path.invariant.same c.requires.some in
    let m = begun_clause ins.0 _ _ _ _ _ _ _ _ _ c.read_next.new.progress c.in_ok-read_next.field-0 c.in-Clause.is
    (c.loop-path.invariant.begun ins.0 (sym c.loop-path.invariant.same ∙ sym c.as_slice.ensures ∙ ins.1) ins.2) (c.in_ok-read_next.ensures ins.0 ins.1 ins.2) in
    record {
      within = m.0.1;
      begin = m.0.2;
      same = c.loop-path.invariant.same;
      used = omega (arith, m.1, c.loop-path.invariant.used);
      later = c.loop-path.invariant.later;
      stays = c.loop-path.invariant.stays;
      spends = subst (λ (n : ℕ). Spends {T = Unit {0}} c.args.state.now.used n (g.L.Library.told c.args.library.now) (g.L.Library.told c.loop-path.library) (Ok tt))
          (sym m.1) c.loop-path.invariant.spends;
      begun = λ i same wants. (begun_clause i _ _ _ _ _ _ _ _ _ c.read_next.new.progress c.in_ok-read_next.field-0 c.in-Clause.is (c.loop-path.invariant.begun i same wants)
          (c.in_ok-read_next.ensures i (c.as_slice.ensures ∙ c.loop-path.invariant.same ∙ same) wants)).2;
    }

pub read_statements-include-requires : goal.read_statements-include-requires
read_statements-include-requires g t c =
    let ins = an_inside c.as_slice.result.now c.loop-path.opens c.args.opens.now c.args.wanted.now c.as_slice.ensures c.loop-path.invariant.same c.requires.some in
    let m = include_step ins.0 _ _ c.loop-path.state c.read_next.new.state c.read_next.new.progress c.in_ok-read_next.field-0 c.in-Include.path c.in-Include.only c.in-Include.is (c.in_ok-read_next.ensures ins.0 ins.1 ins.2) in
    let long : length c.loop-path.opens ≡ length c.args.opens.now = ap length c.loop-path.invariant.same in
    let here : length c.loop-path.opens ≡ length (opens ins.0) = ap length (sym c.as_slice.ensures ∙ ins.1) in
    λ κs h. (
      omega (arith, c.decreases, long, here, m.3),
      (
        h,
        (
          omega (arith, long, c.requires.some),
          (
            omega (arith, here, m.3),
            (
              subst (λ (s : State). s.used ≤ 4194304) (sym m.1) c.loop-path.invariant.used,
              subst (HasPlaces c.in-Include.only) (sym c.as_slice-in-Include.ensures) m.2,
            ),
          ),
        ),
      ),
    )

pub read_statements-loop-path-smaller : goal.read_statements-loop-path-smaller
read_statements-loop-path-smaller g t c =
    let ins = an_inside c.as_slice.result.now c.loop-path.opens c.args.opens.now c.args.wanted.now c.as_slice.ensures c.loop-path.invariant.same c.requires.some in
    let m = include_step ins.0 _ _ c.loop-path.state c.read_next.new.state c.read_next.new.progress c.in_ok-read_next.field-0 c.in-Include.path c.in-Include.only c.in-Include.is (c.in_ok-read_next.ensures ins.0 ins.1 ins.2) in
    omega (arith, m.0.0, m.0.1)

pub read_statements-loop-path-preserved : goal.read_statements-loop-path-preserved
read_statements-loop-path-preserved g t c =
    let ins = an_inside c.as_slice.result.now c.loop-path.opens c.args.opens.now c.args.wanted.now c.as_slice.ensures c.loop-path.invariant.same c.requires.some in
    let m = include_step ins.0 _ _ c.loop-path.state c.read_next.new.state c.read_next.new.progress c.in_ok-read_next.field-0 c.in-Include.path c.in-Include.only c.in-Include.is (c.in_ok-read_next.ensures ins.0 ins.1 ins.2) in
    record {
      within = m.0.1;
      begin = m.0.2;
      same = c.in_ok-include-in-Include.ensures.same ∙ c.loop-path.invariant.same;
      used = c.in_ok-include-in-Include.ensures.used;
      later = omega (arith, c.loop-path.invariant.later, c.include.ensures.later);
      stays = λ p. c.include.ensures.stays p ∙ c.loop-path.invariant.stays p;
      spends = spends_append {T = Unit {0}} {U = Unit {0}} _ _ _ _ _ _ tt (Ok tt) c.loop-path.invariant.spends
          (subst (λ (s : State). Spends {T = Unit {0}} s.used c.include.new.state.used (g.L.Library.told c.loop-path.library) (g.L.Library.told c.include.new.library) (Ok tt))
          m.1 c.in_ok-include-in-Include.ensures.spends);
      begun = λ i same wants.
          let now = c.in_ok-read_next.ensures i (c.as_slice.ensures ∙ c.loop-path.invariant.same ∙ same) wants in
          let at = include_step i _ _ c.loop-path.state c.read_next.new.state c.read_next.new.progress c.in_ok-read_next.field-0 c.in-Include.path c.in-Include.only c.in-Include.is now in
          begun_include i (g.L.Library.holds c.args.library.now)
          (g.L.Library.holds c.loop-path.library) _ _ _ _ c.loop-path.state c.read_next.new.state _ _ _ _ c.read_next.new.progress c.in-Include.path c.in-Include.only c.in_ok-include-in-Include.field-0
          c.loop-path.invariant.stays (c.loop-path.invariant.begun i same wants) at.4
          (subst (λ (ss : List ℕ). CameInclude i (g.L.Library.holds c.loop-path.library) c.in-Include.path c.in-Include.only ss c.read_next.new.state c.include.new.state (g.L.Library.told c.loop-path.library) (g.L.Library.told c.include.new.library) (Ok c.in_ok-include-in-Include.field-0))
          c.as_slice-in-Include.ensures (c.in_ok-include-in-Include.ensures.reads i (c.loop-path.invariant.same ∙ same) wants));
    }

pub read_statements-returns-in_err-include-in-Include-clause-reads : goal.read_statements-returns-in_err-include-in-Include-clause-reads
read_statements-returns-in_err-include-in-Include-clause-reads g t c = λ i same wants.
    let e : c.from_residual-in_err-include-in-Include.result ≡ Err c.in_err-include-in-Include.field-0.0 = search rules in
    let now = c.in_ok-read_next.ensures i (c.as_slice.ensures ∙ c.loop-path.invariant.same ∙ same) wants in
    let at = include_step i _ _ c.loop-path.state c.read_next.new.state c.read_next.new.progress c.in_ok-read_next.field-0 c.in-Include.path c.in-Include.only c.in-Include.is now in
    subst (CameFrom i (g.L.Library.holds c.args.library.now) c.args.bytes.now c.args.progress.now.at c.args.state.now c.include.new.state (g.L.Library.told c.args.library.now) (g.L.Library.told c.include.new.library)) (sym e)
    (from_include i (g.L.Library.holds c.args.library.now) (g.L.Library.holds c.loop-path.library) _ _ _ _ c.loop-path.state c.read_next.new.state _ _ _ _ c.read_next.new.progress c.in-Include.path c.in-Include.only c.in_err-include-in-Include.field-0.0
    c.loop-path.invariant.stays (c.loop-path.invariant.begun i same wants) at.4
    (subst (λ (ss : List ℕ). CameInclude i (g.L.Library.holds c.loop-path.library) c.in-Include.path c.in-Include.only ss c.read_next.new.state c.include.new.state (g.L.Library.told c.loop-path.library) (g.L.Library.told c.include.new.library) (Err c.in_err-include-in-Include.field-0.0))
    c.as_slice-in-Include.ensures (c.in_err-include-in-Include.ensures.reads i (c.loop-path.invariant.same ∙ same) wants)))

pub read_statements-returns-in_err-include-in-Include-clause-spends : goal.read_statements-returns-in_err-include-in-Include-clause-spends
read_statements-returns-in_err-include-in-Include-clause-spends g t c =
    let e : c.from_residual-in_err-include-in-Include.result ≡ Err c.in_err-include-in-Include.field-0.0 = search rules in
    let ins = an_inside c.as_slice.result.now c.loop-path.opens c.args.opens.now c.args.wanted.now c.as_slice.ensures c.loop-path.invariant.same c.requires.some in
    let m = include_step ins.0 _ _ c.loop-path.state c.read_next.new.state c.read_next.new.progress c.in_ok-read_next.field-0 c.in-Include.path c.in-Include.only c.in-Include.is (c.in_ok-read_next.ensures ins.0 ins.1 ins.2) in
    subst (Spends {T = Unit {0}} c.args.state.now.used c.include.new.state.used (g.L.Library.told c.args.library.now) (g.L.Library.told c.include.new.library)) (sym e)
    (spends_append {T = Unit {0}} {U = Unit {0}} _ _ c.include.new.state.used _ _ _ tt (Err c.in_err-include-in-Include.field-0.0) c.loop-path.invariant.spends
    (subst (λ (s : State). Spends {T = Unit {0}} s.used c.include.new.state.used (g.L.Library.told c.loop-path.library) (g.L.Library.told c.include.new.library) (Err c.in_err-include-in-Include.field-0.0))
    m.1 c.in_err-include-in-Include.ensures.spends))
