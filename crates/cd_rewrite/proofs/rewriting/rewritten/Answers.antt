use Rattle.std.proofs.Common.{arith, sym, ◌∙◌}
use Rattle.cd_rewrite.proofs.Replacing.{read, refused, rewritten, not_within}
use Rattle.cd_rewrite.proofs.rewriting.rewritten.Goals as goal

pub returns-in_default-measure_atom_replaced-clause-refused : goal.returns-in_default-measure_atom_replaced-clause-refused
returns-in_default-measure_atom_replaced-clause-refused c = λ _.
    let l = c.index-literals-place.result in
    let here = read c.args.c.now.literals c.as_slice-literals.result.now _ c.args.j l c.as_slice-literals.ensures c.from-place.ensures (omega (arith, c.from-place.ensures)) c.index-literals-place.is in
    refused c.args.c.now.literals c.args.j c.args.at.now c.as_slice-path.result.now c.args.to.now c.as_slice-none.result.now c.args.s.now c.as_slice-terms.result.now
    l c.in-Some.field-0.now here c.as_slice-none.ensures c.as_slice-path.ensures c.as_slice-terms.ensures (sym c.in-Some.ensures) c.in_default-measure_atom_replaced.ensures

pub returns-then-not-within-clause-refused : goal.returns-then-not-within-clause-refused
returns-then-not-within-clause-refused c = λ _.
    let l = c.index-literals-place.result in
    let here = read c.args.c.now.literals c.as_slice-literals.result.now _ c.args.j l c.as_slice-literals.ensures c.from-place.ensures (omega (arith, c.from-place.ensures)) c.index-literals-place.is in (
      record { literals = c.set.new.self },
      rewritten c.args.c.now.literals c.set.new.self _ c.args.j _ c.args.at.now c.as_slice-path.result.now c.args.to.now c.as_slice-none.result.now c.args.s.now
          c.as_slice-terms.result.now l c.in-Some.field-0.now c.in-Some-2.atom here c.as_slice-none.ensures c.as_slice-path.ensures c.as_slice-terms.ensures
          (sym c.in-Some.ensures) (sym c.in-Some-2.is ∙ c.in_ok-atom.ensures) c.in_ok-copies.ensures c.set.ensures c.from-place.ensures,
      not_within _ c.within.result c.within.ensures c.if-not-within.true,
    )

pub returns-clause-value : goal.returns-clause-value
returns-clause-value c =
    let l = c.index-literals-place.result in
    let here = read c.args.c.now.literals c.as_slice-literals.result.now _ c.args.j l c.as_slice-literals.ensures c.from-place.ensures (omega (arith, c.from-place.ensures)) c.index-literals-place.is in
    rewritten c.args.c.now.literals c.set.new.self _ c.args.j _ c.args.at.now c.as_slice-path.result.now c.args.to.now c.as_slice-none.result.now c.args.s.now
    c.as_slice-terms.result.now l c.in-Some.field-0.now c.in-Some-2.atom here c.as_slice-none.ensures c.as_slice-path.ensures c.as_slice-terms.ensures
    (sym c.in-Some.ensures) (sym c.in-Some-2.is ∙ c.in_ok-atom.ensures) c.in_ok-copies.ensures c.set.ensures c.from-place.ensures
