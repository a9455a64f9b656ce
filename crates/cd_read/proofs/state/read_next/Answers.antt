use Rattle.std.proofs.Common.{◌≡◌, ◌∙◌, ℕ, List, ap, sym, subst, Ok, ◌<◌, length, slice_get}
use Rattle.cd_parse.specs.declared.statement.Statement.{Statement as TheStatement}
use Rattle.cd_parse.specs.declared.statement.Statement.TheVariants.{Clause}
use Rattle.cd_parse.specs.declared.part.Found.{Found}
use Rattle.cd_parse.specs.declared.part.Found.TheVariants as found
use Rattle.cd_parse.specs.Reading.{IsRead}
use Rattle.cd_read.proofs.StateLemmas.{never_more, oversized_first, next_fault, next_over, next_oversized, next_clause, next_include, has_first, path_is}
use Rattle.cd_read.proofs.state.read_next.Goals as goal

pub returns-in-Err : goal.returns-in-Err
returns-in-Err c = λ i same wants. next_fault i _ _ _ _ _ _ c.in-Err.fault _ _ same c.last.ensures c.in-Err.ensures c.part_fault.ensures

pub returns-in-Over : goal.returns-in-Over
returns-in-Over c = λ i same wants. next_over i _ _ _ _ _ c.in-Ok.found same c.in-Over.is c.in-Ok.ensures

pub unreachable-requires : goal.unreachable-requires
unreachable-requires c = never_more _ _ _ c.read_part.new.progress c.in-Ok.found c.in-More.is c.in-Ok.ensures

pub returns-in-Oversized : goal.returns-in-Oversized
returns-in-Oversized c = λ i same wants.
    next_oversized i _ _ _ c.read_part.new.progress _ _ c.in-Ok.found c.last-in-Oversized.result.now c.first_place-place.result c.wrong.result same c.last-in-Oversized.ensures c.in-Oversized.is c.in-Ok.ensures
    (sym (ap (λ (ss : List ℕ). slice_get ss 0) c.as_slice.ensures) ∙ c.first_place-place.ensures) c.wrong.ensures

pub first_place-place-requires : goal.first_place-place-requires
first_place-place-requires c = record {
  some = subst (λ (ss : List ℕ). 0 < length ss) (sym c.as_slice.ensures) (oversized_first _ _ _ c.read_part.new.progress c.in-Ok.found c.in-Oversized.is c.in-Ok.ensures);
}

pub first_place-place-requires-in-Clause : goal.first_place-place-requires-in-Clause
first_place-place-requires-in-Clause c =
    let e : c.in-Ok.found ≡ found.Statement (Clause c.in-Clause.label c.in-Clause.role c.in-Clause.literals) = c.in-Statement.is ∙ ap (λ (x : TheStatement). found.Statement x) c.in-Clause.is in
    record {
      some = subst (λ (ss : List ℕ). 0 < length ss) (sym c.as_slice-in-Clause.ensures)
          (has_first _ _ _ c.read_part.new.progress _ (subst (λ (x : Found). IsRead c.args.opens.now c.args.bytes.now c.args.progress.now.at c.read_part.new.progress (Ok x)) e c.in-Ok.ensures));
    }

pub returns-in-Clause : goal.returns-in-Clause
returns-in-Clause c = λ i same wants.
    let e : c.in-Ok.found ≡ found.Statement (Clause c.in-Clause.label c.in-Clause.role c.in-Clause.literals) = c.in-Statement.is ∙ ap (λ (x : TheStatement). found.Statement x) c.in-Clause.is in
    next_clause i _ _ _ c.read_part.new.progress _ _ c.in-Ok.found c.in-Clause.label c.in-Clause.role c.in-Clause.literals c.first_place-place-in-Clause.result c.add_clause.result same e c.in-Ok.ensures
    (sym (ap (λ (ss : List ℕ). slice_get ss 0) c.as_slice-in-Clause.ensures) ∙ c.first_place-place-in-Clause.ensures)
    (c.add_clause.ensures i (path_is c.args.opens.now i c.args.file.now same c.requires.file) wants)

pub returns-in-Include : goal.returns-in-Include
returns-in-Include c = λ i same wants.
    next_include i _ _ _ c.read_part.new.progress _ c.in-Ok.found c.in-Include.path c.in-Include.only same
    (c.in-Statement.is ∙ ap (λ (x : TheStatement). found.Statement x) c.in-Include.is) c.in-Ok.ensures
