use Rattle.std.proofs.Common.{ℕ, List, ◌≡◌, ◌+◌, Option, Some, None, MatchOption, IfSome, subst, refl, length}
use Rattle.cd_parse.specs.declared.terminal.Terminal.{Terminal}
use Rattle.cd_parse.specs.Reading.{TakesToken, EndsWith}
use Rattle.cd_parse.proofs.PartLemmas.{turn_fault, turn_nothing, turn_token, turn_memory}
use Rattle.cd_parse.proofs.part.read_token.Goals as goal

at_none : {X : Type 0} (o : Option X) (N : Type 0) (T : X → Type 0) → o ≡ None → MatchOption o N T → N
at_none o N T e h = subst (λ x. MatchOption x N T) e h

at_some : {X : Type 0} (o : Option X) (t : X) (N : Type 0) (T : X → Type 0) → o ≡ Some t → MatchOption o N T → T t
at_some o t N T e h = subst (λ x. MatchOption x N T) e h

if_some : {X : Type 0} (o : Option X) (t : X) (T : X → Type 0) → o ≡ Some t → IfSome o T → T t
if_some o t T e h = subst (λ x. IfSome x T) e h

pub returns-in-Err : goal.returns-in-Err
returns-in-Err c =
    turn_fault _ _ c.args.progress.now _ c.in-Err.fault _ _ c.requires.begun c.requires.open c.in-Err.ensures.next c.what_of-what.ensures

pub returns-in_default : goal.returns-in_default
returns-in_default c = turn_nothing _ _ c.args.progress.now _ c.with_nothing.result c.requires.begun c.requires.open
    (at_none c.in-Ok.next _ _ c.in_default.is c.in-Ok.ensures.next)
    (subst (λ (l : List ℕ). EndsWith l (length c.args.bytes.now) c.with_nothing.result) c.as_slice.ensures c.with_nothing.ensures)

pub returns-in_default-terminal_of : goal.returns-in_default-terminal_of
returns-in_default-terminal_of c = turn_memory _ _ c.args.progress.now _

pub returns : goal.returns
returns c = turn_token _ _ c.args.progress.now c.with_token.new.progress c.in-Some.token.kind c.in-Some.token.start c.in-Some.token.slice.now _ c.with_token.result
    c.requires.begun c.requires.open (at_some c.in-Ok.next c.in-Some.token _ _ c.in-Some.is c.in-Ok.ensures.next)
    (if_some c.in-Ok.next c.in-Some.token _ c.in-Some.is c.in-Ok.ensures.ahead) (if_some c.in-Ok.next c.in-Some.token _ c.in-Some.is c.in-Ok.ensures.within) refl
    (subst (λ (u : Terminal). TakesToken c.args.opens.now c.args.progress.now c.with_token.new.progress u c.in-Some.token.start (c.in-Some.token.start + length c.in-Some.token.slice.now) c.with_token.result) c.in-Ok-terminal_of.ensures c.with_token.ensures.turns)

pub terminal_of-requires : goal.terminal_of-requires
terminal_of-requires c = record { is = (at_some c.in-Ok.next c.in-Some.token _ _ c.in-Some.is c.in-Ok.ensures.next).2.0 }
