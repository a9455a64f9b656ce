use Rattle.std.proofs.Common.{◌≡◌, true, false}
use Rattle.cd_line.specs.Held.{IsWithin}
use Rattle.cd_line.proofs.Capped.{held_is, none_read, none_within}
use Rattle.cd_line.proofs.exact.read_exact.Goals as goal

pub returns-in-Err-Form-clause-none : goal.returns-in-Err-Form-clause-none
returns-in-Err-Form-clause-none c =
    none_read c.args.symbols.now c.args.piece.now c.len-distinct.ensures.distinct c.requires (rw c.in-Err-Form.field-0-is at c.in-Err-Form.ensures)

pub returns-then-is_within-clause-some : goal.returns-then-is_within-clause-some
returns-then-is_within-clause-some c = held_is c.args.symbols.now c.args.piece.now c.in-Ok.line c.in-Ok.ensures (c.is_within.ensures.0 c.if-is_within.true)

pub returns-else-is_within-clause-none : goal.returns-else-is_within-clause-none
returns-else-is_within-clause-none c =
    none_within c.args.symbols.now c.args.piece.now c.in-Ok.line c.len-distinct.ensures.distinct c.requires c.in-Ok.ensures
    (λ w. let t : c.is_within.result ≡ true = c.is_within.ensures.1 w in let f : c.is_within.result ≡ false = c.if-is_within.false in absurd cc)
