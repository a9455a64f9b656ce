use Rattle.std.proofs.Common.{◌≡◌, [], List, Err, sym, refl, subst, rules}
use Rattle.cd_parse.specs.declared.tree.TreeLiteral.{TreeLiteral}
use Rattle.cd_read.specs.Meaning.{GivesLiterals, AreWithin}
use Rattle.cd_read.specs.Overflow.{WhyClause}
use Rattle.cd_read.proofs.Literals.{all_given, one_more_given, opened_at, room_for_literal}
use Rattle.cd_read.proofs.WhyLemmas.{err_is, literal_why}
use Rattle.cd_read.proofs.numbering.clause_of.Goals as goal

pub atom_of-requires : goal.atom_of-requires
atom_of-requires c =
    let i = c.loop-literal.invariant.0 in
    let open_ = opened_at c.of-rest.result c.loop-literal.rest c.next.new.self c.in-Some.literal i c.loop-literal.invariant.1 c.in-Some.ensures in
    record {
      few = room_for_literal c.args.symbols.now _ [] c.loop-literal.variables c.of-rest.result _ i c.in-Some.literal
          open_.0 open_.1 c.loop-literal.invariant.2 refl (subst AreWithin (sym c.of-rest.ensures) c.requires.within).0;
    }

pub returns-in_err-atom-clause-why : goal.returns-in_err-atom-clause-why
returns-in_err-atom-clause-why c =
    let i = c.loop-literal.invariant.0 in
    let open_ = opened_at c.of-rest.result c.loop-literal.rest c.next.new.self c.in-Some.literal i c.loop-literal.invariant.1 c.in-Some.ensures in
    let e : c.from_residual-in_err-atom.result ≡ Err c.in_err-atom.field-0.0 = search rules in
    err_is c.from_residual-in_err-atom.result c.in_err-atom.field-0.0 (WhyClause c.args.symbols.now c.args.literals) e
    (subst (λ ls. WhyClause c.args.symbols.now ls c.in_err-atom.field-0.0) c.of-rest.ensures
    (literal_why _ _ _ c.of-rest.result _ i c.in-Some.literal c.in_err-atom.field-0.0 open_.0 open_.1 c.loop-literal.invariant.2
    c.in_err-atom.ensures.why))

pub loop-literal-preserved : goal.loop-literal-preserved
loop-literal-preserved c =
    one_more_given _ _ _ _ _ _ _ _ _ _ c.in-Some.literal c.in_ok-atom.atom c.loop-literal.invariant c.in-Some.ensures
    c.in_ok-atom.ensures.gives c.in_ok-push.ensures.ok

pub loop-literal-preserved-in_ok-push : goal.loop-literal-preserved-in_ok-push
loop-literal-preserved-in_ok-push c =
    one_more_given _ _ _ _ _ _ _ _ _ _ c.in-Some.literal c.in_ok-atom.atom c.loop-literal.invariant c.in-Some.ensures
    c.in_ok-atom.ensures.gives c.in_ok-push.ensures.ok

pub loop-literal-preserved-in_ok-push-2 : goal.loop-literal-preserved-in_ok-push-2
loop-literal-preserved-in_ok-push-2 c =
    one_more_given _ _ _ _ _ _ _ _ _ _ c.in-Some.literal c.in_ok-atom.atom c.loop-literal.invariant c.in-Some.ensures
    c.in_ok-atom.ensures.gives c.in_ok-push.ensures.ok

pub returns-clause-gives : goal.returns-clause-gives
returns-clause-gives c = (
  c.loop-literal.variables,
  subst (λ (ls : List TreeLiteral). GivesLiterals c.args.symbols.now [] ls c.loop-literal.clause c.loop-literal.symbols c.loop-literal.variables)
      c.of-rest.ensures
      (all_given _ _ _ _ _ _ c.loop-literal.invariant c.in_default.ensures.0),
)
