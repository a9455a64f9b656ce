use Rattle.std.proofs.Common.{Some, ap, ◌∙◌, sym}
use Rattle.std.specs.Option.{option_copied}
use Rattle.cd_clause.specs.Places.{replaced_at_under}
use Rattle.cd_clause.proofs.PlaceLemmas.{at-nowhere}
use Rattle.cd_steps.specs.Drafts.{literal_of, part_under}
use Rattle.cd_steps.proofs.Stripping.{replaced_there}
use Rattle.cd_steps.proofs.Giving.{measured_as, absent_measured, replaced_measured}
use Rattle.cd_steps.proofs.building.measure_part.Goals as goal

pub returns-in_default-at_atom : goal.returns-in_default-at_atom
returns-in_default-at_atom c =
    let p = c.in-Replaced in let s = c.args.s.now in let r = c.args.r.now in
    let o = replaced_at_under r s p.path.now p.new.now p.literal.now.atom in
    measured_as c.args.symbols c.args.levels (literal_of p.literal.now.positive o) (part_under s r c.args.part) (Some 0) (ap (part_under s r) p.is)
    (absent_measured c.args.symbols c.args.levels p.literal.now.positive o
    (at-nowhere r s p.path.now p.new.now p.literal.now.atom (sym c.at_atom.ensures ∙ ap option_copied c.in_default-at_atom.is)))

pub returns-in-Some-at_atom : goal.returns-in-Some-at_atom
returns-in-Some-at_atom c =
    let p = c.in-Replaced in let s = c.args.s.now in let r = c.args.r.now in
    let o = replaced_at_under r s p.path.now p.new.now p.literal.now.atom in
    measured_as c.args.symbols c.args.levels (literal_of p.literal.now.positive o) (part_under s r c.args.part) c.measure_atom_replaced.result (ap (part_under s r) p.is)
    (replaced_measured c.args.symbols c.args.levels p.literal.now.positive o c.measure_atom_replaced.result
    (replaced_there r s p.path.now p.new.now p.literal.now.atom c.in-Some-at_atom.field-0.now (sym c.at_atom.ensures ∙ ap option_copied c.in-Some-at_atom.is))
    c.measure_atom_replaced.ensures)
