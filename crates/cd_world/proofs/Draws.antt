-- A draw is a pick of the schedule, and names one choice.
use Rattle.std.proofs.Common.{◌≡◌, ℕ, zero, suc, ◌+◌, ◌*◌, ◌%◌, ◌<◌, ◌≤◌, Bool, true, false, ◌&&◌, ◌||◌, not, cond, leb, List, [], ◌∷◌, ◌++◌, length, get_or, arith, refl, ap, sym, ◌∙◌, subst, inl, inr}
use Rattle.std.specs.List.{AllByRecursion as Each}
use Rattle.std.specs.Prelude.{slice_get, Option, Some, None}
use Rattle.std.proofs.lemmas.Bool.Decides.{nat_tests}
use Rattle.cd_kbo.specs.declared.order.Order.{Order}
use Rattle.cd_laws.proofs.Lists.{Each_append, Each_at}
use Rattle.cd_ledger.specs.declared.events.Act.{Act}
use Rattle.cd_ledger.specs.declared.events.Act.TheVariants.{Admit, Declare, End, Keep, Pass, Receive, Reject, Rewrite, Work}
use Rattle.cd_ledger.specs.declared.events.Event.{Event}
use Rattle.cd_ledger.specs.declared.letters.Letter.{Letter}
use Rattle.cd_ledger.specs.declared.local.Local.{Local}
use Rattle.cd_list.specs.Lists.{tally}
use Rattle.cd_machine.specs.Events.{is_token, no_token}
use Rattle.cd_machine.specs.Schedule.{IsChosen, IsOther, first_letter, has_work, held_declares, held_passes, is_cons, is_more, is_token_only, may_declare, more_by, only_by, token_choice}
use Rattle.cd_machine.specs.Turns.{IsFirstAct}
use Rattle.cd_machine.specs.World.{World, at, nobody}
use Rattle.cd_names.specs.declared.waves.Token.{Token}
use Rattle.cd_peer.specs.Readiness.{ready_as, ready_of}
use Rattle.cd_premises.proofs.Runs.{schedules_are_finite}
use Rattle.cd_read.specs.declared.problem.Problem.{Problem}
use Rattle.cd_recorded.specs.Recorded.{ChosenRun}
use Rattle.cd_world.specs.declared.moving.Choice.{Choice}
use Rattle.cd_world.specs.declared.moving.Choice.TheVariants.{Turn, Deliver}
use Rattle.cd_world.specs.Draws.{DrawsAreOne, DrawsArePicks, SchedulesAreChosen, SchedulesEnd}
use Rattle.cd_world.specs.Schedule.{Draws, MakesEvent, Moment, busy_by, choices, deliver_if, deliveries_from, drawn, is_only, is_token_at, is_token_choice, offered, turn_if, turns_from}

-- ---- TokenOnly is as the laws have it

apart_held : (s : Local) (o : Option Token) → held_passes s o ≡ true → held_declares s o ≡ false
apart_held s None h = refl
apart_held s (Some t) h = go (may_declare s t) refl
  where
    go : (b : Bool) → may_declare s t ≡ b → may_declare s t ≡ false
    go true e = (let y : not true ≡ true = subst (λ (b : Bool). not b ≡ true) e h in cc)
    go false e = e

apart : (s : Local) (o : Option Letter) → only_by s o ≡ true → more_by s o ≡ false
apart s (Some l) h = rw h refl
apart s None h = go (has_work s) (held_passes s s.token) (held_declares s s.token) h (apart_held s s.token)
  where
    go : (a b c : Bool) → (not a && b) ≡ true → (b ≡ true → c ≡ false) → (a || c) ≡ false
    go true b c h f = cc
    go false true c h f = f refl
    go false false c h f = cc

only_is : (s : Local) → is_only (ready_of s) ≡ is_token_only s
only_is s = go (is_more s) (is_token_only s) (apart s (first_letter s))
  where
    go : (m o : Bool) → (o ≡ true → m ≡ false) → is_only (ready_as m o) ≡ o
    go true true f = (let y : true ≡ false = f refl in cc)
    go true false f = refl
    go false true f = refl
    go false false f = refl

first_chosen : (order : Order) (s : Local) (a : Act) → IsFirstAct order s a → IsChosen order s a × (token_choice s a ≡ is_token_only s)
first_chosen order s (Rewrite k) f = (f, refl)
first_chosen order s (Keep k) f = (f, refl)
first_chosen order s (Receive l) f = absurd f
first_chosen order s (Admit k) f = (f, refl)
first_chosen order s (Reject k) f = (f, refl)
first_chosen order s (Work t) f = (f, refl)
first_chosen order s Pass f = (f, refl)
first_chosen order s Declare f = (f, refl)
first_chosen order s (End v) f = (f, refl)

chosen : (order : Order) (w : World) (choice : Choice) (e : Event) (v : World) → MakesEvent order w choice e v → IsChosen order (at w e.peer) e.act × (token_choice (at w e.peer) e.act ≡ is_token_choice w choice)
chosen order w (Turn q) e v (own, first) =
    let f = first_chosen order (at w q) e.act first in
    subst (λ (k : ℕ). IsChosen order (at w k) e.act × (token_choice (at w k) e.act ≡ is_only (ready_of (at w q)))) (sym own) (f.0, f.1 ∙ sym (only_is (at w q)))
chosen order w (Deliver k) e v (l, there, own, act, rest) =
    subst (λ (a : Act). IsChosen order (at w e.peer) a × (token_choice (at w e.peer) a ≡ is_token_at (slice_get w.travelling k))) (sym act) (tt, sym (ap is_token_at there))

-- ---- without the choices of the token

abbrev IsPlain : World → Choice → Type 0
IsPlain w c = is_token_choice w c ≡ false

plain_turns : (w : World) (ls : List Local) (k : ℕ) → ((j : ℕ) → j < length ls → get_or ls j nobody ≡ at w (k + j)) → Each (IsPlain w) (turns_from false k ls)
plain_turns w [] k f = tt
plain_turns w (s ∷ ss) k f =
    Each_append (IsPlain w) (turn_if false k s) (turns_from false (k + 1) ss)
    (one (is_more s) (is_token_only s) refl refl)
    (plain_turns w ss (k + 1) (λ j l. f (suc j) (omega (arith, l)) ∙ (let g : k + suc j ≡ k + 1 + j = omega arith in ap (at w) g)))
  where
    here : s ≡ at w k
    here = f 0 (omega arith) ∙ (let e : k + 0 ≡ k = omega arith in ap (at w) e)

    one : (m o : Bool) → is_more s ≡ m → is_token_only s ≡ o → Each (IsPlain w) (cond (busy_by false (ready_as m o)) (Turn k ∷ []) [])
    one true o x y = (subst (λ (z : Local). is_only (ready_of z) ≡ false) here (rw x refl), tt)
    one false true x y = tt
    one false false x y = tt

plain_deliveries : (w : World) (ls : List Letter) (k : ℕ) → ((j : ℕ) (l : Letter) → slice_get ls j ≡ Some l → slice_get w.travelling (k + j) ≡ Some l) → Each (IsPlain w) (deliveries_from false k ls)
plain_deliveries w [] k f = tt
plain_deliveries w (l ∷ ls) k f =
    Each_append (IsPlain w) (deliver_if false k l) (deliveries_from false (k + 1) ls)
    (one (is_token l) refl)
    (plain_deliveries w ls (k + 1) (λ j x g. (let h : k + suc j ≡ k + 1 + j = omega arith in subst (λ (n : ℕ). slice_get w.travelling n ≡ Some x) h (f (suc j) x g))))
  where
    here : slice_get w.travelling k ≡ Some l
    here = let e : k + 0 ≡ k = omega arith in subst (λ (n : ℕ). slice_get w.travelling n ≡ Some l) e (f 0 l refl)

    one : (b : Bool) → is_token l ≡ b → Each (IsPlain w) (cond (not b) (Deliver k ∷ []) [])
    one true x = tt
    one false x = (ap is_token_at here ∙ x, tt)

others_plain : (w : World) → Each (IsPlain w) (choices false w)
others_plain w = Each_append (IsPlain w) (turns_from false 0 w.locals) (deliveries_from false 0 w.travelling)
    (plain_turns w w.locals 0 (λ j l. (let e : j ≡ 0 + j = omega arith in ap (at w) e)))
    (plain_deliveries w w.travelling 0 (λ j l g. (let e : j ≡ 0 + j = omega arith in subst (λ (n : ℕ). slice_get w.travelling n ≡ Some l) e g)))

cons_left : {A : Type 0} (xs ys : List A) → is_cons xs ≡ true → is_cons (xs ++ ys) ≡ true
cons_left [] ys h = cc
cons_left (x ∷ xs) ys h = refl

cons_right : {A : Type 0} (xs ys : List A) → is_cons ys ≡ true → is_cons (xs ++ ys) ≡ true
cons_right [] ys h = h
cons_right (x ∷ xs) ys h = refl

turn_there : (ls : List Local) (k j : ℕ) → j < length ls → is_more (get_or ls j nobody) ≡ true → is_cons (turns_from false k ls) ≡ true
turn_there [] k j l h = absurd (omega (arith, l))
turn_there (s ∷ ss) k zero l h = rw h refl
turn_there (s ∷ ss) k (suc j) l h = cons_right (turn_if false k s) (turns_from false (k + 1) ss) (turn_there ss (k + 1) j (omega (arith, l)) h)

letter_there : (ls : List Letter) (k : ℕ) → 0 < tally no_token ls → is_cons (deliveries_from false k ls) ≡ true
letter_there [] k h = absurd (omega (arith, h))
letter_there (l ∷ ls) k h = go (is_token l) refl (letter_there ls (k + 1))
  where
    go : (b : Bool) → is_token l ≡ b → (0 < tally no_token ls → is_cons (deliveries_from false (k + 1) ls) ≡ true) → is_cons (cond (not b) (Deliver k ∷ []) [] ++ deliveries_from false (k + 1) ls) ≡ true
    go true e rest = rest (let z : cond (not (is_token l)) 1 0 + tally no_token ls ≡ tally no_token ls = rw e (omega arith) in omega (arith, h, z))
    go false e rest = refl

others_there : (w : World) → IsOther w → is_cons (choices false w) ≡ true
others_there w (inl (q, l, m)) = cons_left (turns_from false 0 w.locals) (deliveries_from false 0 w.travelling) (turn_there w.locals 0 q l m)
others_there w (inr h) = cons_right (turns_from false 0 w.locals) (deliveries_from false 0 w.travelling) (letter_there w.travelling 0 h)

pub draws_are_picks : DrawsArePicks
draws_are_picks order p m e n d =
    let c = chosen order m.world d.choice e n.world d.makes in
    record {
      running = d.running;
      step = d.step;
      chosen = c.0;
      left_out = λ t many other. (let y : true ≡ false = sym t ∙ (c.1 ∙ Each_at (IsPlain m.world) (choices false m.world) _ d.choice
          (subst (λ (xs : List Choice). slice_get xs (drawn n.state % length xs) ≡ Some d.choice) (less many other) d.drawn_is) (others_plain m.world)) in cc);
      counter = d.counter ∙ ap (λ b. cond b (m.counter + 1) 0) (sym c.1);
    }
  where
    less : 4 * length m.world.locals ≤ m.counter → IsOther m.world → offered m.counter m.world ≡ choices false m.world
    less many other = let a : leb (4 * length m.world.locals) m.counter ≡ true = grind (arith, nat_tests, many) in rw (a, others_there m.world other) refl

pub draws_are_one : DrawsAreOne
draws_are_one order p m e f n o d g = same d.choice g.choice (sym d.drawn_is ∙ (ap (λ x. slice_get (offered m.counter m.world) (drawn x % length (offered m.counter m.world))) (d.state ∙ sym g.state) ∙ g.drawn_is))
  where
    same : (a b : Choice) → Some a ≡ Some b → a ≡ b
    same a b h = cc

pub schedules_end : SchedulesEnd
schedules_end order p policy limits start events moments picks s r d =
    schedules_are_finite order p policy limits start events (λ k. (moments k).counter) (λ k. (moments k).world) picks s r (λ k. draws_are_picks order p (moments k) (picks k) (moments (suc k)) (d k))

draws_chosen : (order : Order) (p : Problem) (es : List Event) (m n : Moment) → Draws order p m es n → ChosenRun order p m.world es n.world
draws_chosen order p [] m n d = ap (λ (x : Moment). x.world) d
draws_chosen order p (e ∷ es) m n (k, d, rest) = (k.world, d.step, (chosen order m.world d.choice e k.world d.makes).0, draws_chosen order p es k n rest)

pub schedules_are_chosen : SchedulesAreChosen
schedules_are_chosen order p seed start events end s =
    subst (λ (w : World). ChosenRun order p start events w) s.ends (draws_chosen order p events (record { state = seed; counter = 0; world = start }) s.last s.draws)
