-- What a turn would do.
use Rattle.std.proofs.Common.{◌≡◌, ◌==◌, ℕ, Bool, true, false, not, ◌&&◌, ◌||◌, cond, List, [], ◌∷◌, ◌++◌, eq-eqb, refl, ap, sym, ◌∙◌}
use Rattle.std.specs.Prelude.{Option, Some, None, find, slice_get}
use Rattle.std.specs.List.{AllByRecursion as Each}
use Rattle.std.proofs.lemmas.Bool.{eqb-true}
use Rattle.cd_acts.proofs.Lists.{and_true, not_true}
use Rattle.cd_ledger.specs.declared.items.Item.{Item}
use Rattle.cd_ledger.specs.declared.letters.Letter.{Letter}
use Rattle.cd_ledger.specs.declared.local.Local.{Local}
use Rattle.cd_machine.specs.Events.{is_token}
use Rattle.cd_machine.specs.Fits.{MayDeclare, is_ready}
use Rattle.cd_machine.specs.Schedule.{first_letter, has_work, held_declares, held_passes, is_cons, may_declare}
use Rattle.cd_machine.specs.Tokens.{wave_closed}
use Rattle.cd_machine.specs.Turns.{IsFirstReady, NoneReady}
use Rattle.cd_names.specs.declared.waves.Token.{Token}
use Rattle.cd_tasks.specs.declared.Task.{Task}
use Rattle.cd_peer.proofs.Firsts.{same_letter}
use Rattle.cd_peer.specs.Readiness.{ready_as, ready_by, ready_of}
use Rattle.cd_peer.specs.declared.readiness.Ready.{Ready}
use Rattle.cd_peer.specs.declared.readiness.Ready.TheVariants.{More, Nothing, TokenOnly}

-- ---- the first letter

find_none : {A : Type 0} (test : A → Bool) (xs : List A) → Each (λ x. test x ≡ false) xs → find test xs ≡ None
find_none test [] h = refl
find_none {A} test (x ∷ xs) h = ap (λ (b : Bool). cond b (Some x) (find test xs)) h.0 ∙ find_none test xs h.1

find_behind : {A : Type 0} (test : A → Bool) (front back : List A) (x : A) → Each (λ y. test y ≡ false) front → test x ≡ true → find test (front ++ x ∷ back) ≡ Some x
find_behind {A} test [] back x h here = ap (λ (b : Bool). cond b (Some x) (find test back)) here
find_behind {A} test (y ∷ front) back x h here = ap (λ (b : Bool). cond b (Some y) (find test (front ++ x ∷ back))) h.0 ∙ find_behind test front back x h.1 here

pub no_letter : (s : Local) → NoneReady s → None ≡ first_letter s
no_letter s h = sym (find_none (is_ready s.known) s.waiting h)

pub some_letter : (s : Local) (place : ℕ) (f : IsFirstReady s place) (l : Letter) → slice_get s.waiting place ≡ Some l → Some l ≡ first_letter s
some_letter s place f l there =
    sym (ap (λ (ls : List Letter). find (is_ready s.known) ls) f.split ∙ find_behind (is_ready s.known) f.front f.back f.letter f.first f.ready ∙ ap (λ (x : Letter). Some x) (same_letter s place f l there))

-- ---- work and the token

some_cons : {A : Type 0} (xs : List A) (x : A) → Some x ≡ slice_get xs 0 → is_cons xs ≡ true
some_cons [] x h = absurd cc
some_cons (y ∷ ys) x h = refl

none_cons : {A : Type 0} (xs : List A) → None ≡ slice_get xs 0 → is_cons xs ≡ false
none_cons [] h = refl
none_cons (y ∷ ys) h = absurd cc

pub work_pending : (s : Local) (i : Item) → Some i ≡ slice_get s.pending 0 → true ≡ has_work s
work_pending s i h = sym (ap (λ (b : Bool). b || is_cons s.owed) (some_cons s.pending i h))

module _ (s : Local) (nil : None ≡ slice_get s.pending 0) where
  pub work_owed : (t : Task) → Some t ≡ slice_get s.owed 0 → true ≡ has_work s
  work_owed t h = sym (ap (λ (b : Bool). b || is_cons s.owed) (none_cons s.pending nil) ∙ some_cons s.owed t h)

  pub work_none : None ≡ slice_get s.owed 0 → false ≡ has_work s
  work_none h = sym (ap (λ (b : Bool). b || is_cons s.owed) (none_cons s.pending nil) ∙ none_cons s.owed h)

pub declares_is : (s : Local) (t : Token) → MayDeclare s t → may_declare s t ≡ true
declares_is s t h = ap (λ (b : Bool). b && wave_closed s.peers t) (eq-eqb s.me 0 h.0) ∙ h.1

pub passes_is : (s : Local) (t : Token) → (MayDeclare s t → ⊥) → may_declare s t ≡ false
passes_is s t never = not_true (may_declare s t) (λ e. never (let a = and_true (s.me == 0) (wave_closed s.peers t) e in (eqb-true s.me 0 a.0, a.1)))

abbrev alone_as : Bool → Bool → Bool → Ready
alone_as work declares passes = ready_as (work || declares) (not work && passes)

pub ready_busy : (s : Local) → has_work s ≡ true → More ≡ ready_by s None
ready_busy s h = sym (ap (λ (b : Bool). alone_as b (held_declares s s.token) (held_passes s s.token)) h)

module _ (s : Local) (free : has_work s ≡ false) where
  alone_free : ready_by s None ≡ alone_as false (held_declares s s.token) (held_passes s s.token)
  alone_free = ap (λ (b : Bool). alone_as b (held_declares s s.token) (held_passes s s.token)) free

  pub ready_nothing : s.token ≡ None → Nothing ≡ ready_by s None
  ready_nothing h = sym (alone_free ∙ ap (λ (o : Option Token). alone_as false (held_declares s o) (held_passes s o)) h)

  alone_held : (t : Token) → s.token ≡ Some t → ready_by s None ≡ alone_as false (may_declare s t) (not (may_declare s t))
  alone_held t h = alone_free ∙ ap (λ (o : Option Token). alone_as false (held_declares s o) (held_passes s o)) h

  pub ready_declare : (t : Token) → s.token ≡ Some t → MayDeclare s t → More ≡ ready_by s None
  ready_declare t h may = sym (alone_held t h ∙ ap (λ (b : Bool). alone_as false b (not b)) (declares_is s t may))

  pub ready_pass : (t : Token) → s.token ≡ Some t → (MayDeclare s t → ⊥) → TokenOnly ≡ ready_by s None
  ready_pass t h never = sym (alone_held t h ∙ ap (λ (b : Bool). alone_as false b (not b)) (passes_is s t never))

-- ---- a letter

pub ready_token : (s : Local) (l : Letter) → is_token l ≡ true → TokenOnly ≡ ready_by s (Some l)
ready_token s l h = sym (ap (λ (b : Bool). ready_as (not b) b) h)

pub ready_letter : (s : Local) (l : Letter) → is_token l ≡ false → More ≡ ready_by s (Some l)
ready_letter s l h = sym (ap (λ (b : Bool). ready_as (not b) b) h)

pub ready_first : (s : Local) (o : Option Letter) (r : Ready) → o ≡ first_letter s → r ≡ ready_by s o → r ≡ ready_of s
ready_first s o r first is = is ∙ ap (λ (x : Option Letter). ready_by s x) first
