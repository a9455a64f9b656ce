use Rattle.cd_subsume.proofs.Binding.{arguments_become, sides_become, sides_turn}
use Rattle.cd_subsume.proofs.literals.may_become.Goals as goal

pub returns-else-p-q : goal.returns-else-p-q
returns-else-p-q c = λ out g h.
    let m = c.in-Pred-Pred in
    c.may_match_all.ensures out g (arguments_become c.args.l.now c.args.m.now m.p m.q m.args m.others _ _ c.args.is_exchanged g m.is-0 m.is-1
    c.as_slice.ensures c.as_slice-in-Pred-Pred.ensures c.if-is_exchanged.false h)

pub returns-then-may_match : goal.returns-then-may_match
returns-then-may_match c = λ out g h.
    let m = c.in-Equal-Equal in
    c.may_match-then-may_match.ensures out g (sides_turn c.args.l.now c.args.m.now m.s m.t m.u m.v c.args.is_exchanged g m.is-0 m.is-1 c.if-is_exchanged-2.true h).1

pub returns-else-may_match : goal.returns-else-may_match
returns-else-may_match c = λ out g h.
    let m = c.in-Equal-Equal in
    c.may_match.ensures c.if-may_match.false g (sides_turn c.args.l.now c.args.m.now m.s m.t m.u m.v c.args.is_exchanged g m.is-0 m.is-1 c.if-is_exchanged-2.true h).0

pub returns-then-may_match-2 : goal.returns-then-may_match-2
returns-then-may_match-2 c = λ out g h.
    let m = c.in-Equal-Equal in
    c.may_match-then-may_match-2.ensures out g (sides_become c.args.l.now c.args.m.now m.s m.t m.u m.v c.args.is_exchanged g m.is-0 m.is-1 c.if-is_exchanged-2.false h).1

pub returns-else-may_match-2 : goal.returns-else-may_match-2
returns-else-may_match-2 c = λ out g h.
    let m = c.in-Equal-Equal in
    c.may_match-else-is_exchanged-2.ensures c.if-may_match-2.false g (sides_become c.args.l.now c.args.m.now m.s m.t m.u m.v c.args.is_exchanged g m.is-0 m.is-1 c.if-is_exchanged-2.false h).0
