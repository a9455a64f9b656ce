-- Lists that are told and grow.
use Rattle.std.proofs.Common.{List, [], ◌++◌, Option, None, Some, sym, ap, ◌∙◌, append_assoc, append-nil}
use Rattle.cd_outside.specs.Outside.{Gives, GivesWhereTold}

pub gives_none : {X : Type 0} (a : Option (List X)) → Gives a a []
gives_none None = tt
gives_none (Some x) = sym (append-nil x)

pub gives_more : {X : Type 0} (a b c : Option (List X)) (more others : List X) → Gives a b more → Gives b c others → Gives a c (more ++ others)
gives_more None b c more others p q = tt
gives_more (Some x) None c more others p q = absurd p
gives_more (Some x) (Some y) None more others p q = absurd q
gives_more (Some x) (Some y) (Some z) more others p q = q ∙ ap (λ l. l ++ others) p ∙ append_assoc x more others

-- what grows, grows where it is told before and now
pub where_told : {X : Type 0} (a b : Option (List X)) (more : List X) → Gives a b more → GivesWhereTold a b more
where_told None b more p = tt
where_told (Some x) None more p = tt
where_told (Some x) (Some y) more p = p

-- where none is told now, nothing is said
pub none_told : {X : Type 0} (a : Option (List X)) (more : List X) → GivesWhereTold a None more
none_told None more = tt
none_told (Some x) more = tt

pub gives_more_where_told : {X : Type 0} (a b c : Option (List X)) (more others : List X) → Gives a b more → GivesWhereTold b c others → GivesWhereTold a c (more ++ others)
gives_more_where_told None b c more others p q = tt
gives_more_where_told (Some x) None c more others p q = absurd p
gives_more_where_told (Some x) (Some y) None more others p q = tt
gives_more_where_told (Some x) (Some y) (Some z) more others p q = q ∙ ap (λ l. l ++ others) p ∙ append_assoc x more others
