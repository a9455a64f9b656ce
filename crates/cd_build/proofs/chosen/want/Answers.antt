use Rattle.std.proofs.Common.{Bool, List, length, ap, ◌∙◌}
use Rattle.std.proofs.lemmas.List.{length-map}
use Rattle.cd_alone.specs.Derived.{is_wanted}
use Rattle.cd_ledger.specs.declared.records.Known.{Known}
use Rattle.cd_build.proofs.Marking.{only_within, want_none, want_one}
use Rattle.cd_build.proofs.chosen.want.Goals as goal

pub set-requires : goal.set-requires
set-requires c =
    only_within c.args.n c.args.known.now c.in-Some.found.0 c.in-Some.found.1.now (length c.args.wanted.now) c.in-Some.ensures
    (ap (λ (bs : List Bool). length bs) c.requires.marks.1 ∙ length-map c.args.known.now (λ (e : Known). is_wanted c.requires.marks.0 e.entry.name))

pub returns-in-None : goal.returns-in-None
returns-in-None c ns is = want_none ns c.args.n c.args.known.now c.args.wanted.now c.in-None.ensures is

pub returns-in-Some : goal.returns-in-Some
returns-in-Some c ns is = want_one ns c.args.n c.args.known.now c.in-Some.found.0 c.in-Some.found.1.now c.args.wanted.now c.set.new.self c.in-Some.ensures is c.set.ensures
