-- What is found in lists, one place after another.
use Rattle.std.proofs.Common.{◌≡◌, ℕ, ◌+◌, ◌<◌, ◌≤◌, Bool, false, ◌&&◌, List, ◌∷◌, length, get_or, map, ap, sym, ◌∙◌, subst, arith, inl, inr}
use Rattle.std.specs.Prelude.{◌⊎◌, Some, None, slice_get}
use Rattle.std.specs.List.{AllByRecursion as Each}
use Rattle.std.proofs.lemmas.Bool.{false≢true}
use Rattle.std.proofs.lemmas.List.{length-map}
use Rattle.std.proofs.lemmas.Option.{slice_get_cases, slice_get_within}
use Rattle.cd_acts.proofs.Lists.{any_apart, any_none}
use Rattle.cd_acts.specs.Indexed.{AreOthers, IsOnlyAt}
use Rattle.cd_acts.specs.View.{letter_of}
use Rattle.cd_ledger.specs.Records.{is_of}
use Rattle.cd_ledger.specs.Statuses.{is_held, status_holds}
use Rattle.cd_ledger.specs.declared.records.Known.{Known}
use Rattle.cd_ledger.specs.declared.letters.Letter.{Letter}
use Rattle.cd_ledger.specs.declared.local.Local.{Local}
use Rattle.cd_list.proofs.Lists.{all_right, all_weaker}
use Rattle.cd_machine.specs.Fits.{is_ready}
use Rattle.cd_machine.specs.Turns.{IsFirstReady, NoneReady}
use Rattle.cd_names.specs.declared.names.Name.{Name}
use Rattle.cd_waiting.specs.declared.waiting.Waiter.{Waiter}
use Rattle.cd_replay.specs.Ends.{Somewhere}
use Rattle.cd_replay.specs.Replayed.{lives}

-- ---- a name that is held

no_lives : (n : Name) (es : List Known) → AreOthers n es → Each (λ e. (is_of n e && is_held e) ≡ false) es
no_lives n es h = all_weaker (λ e. is_of n e ≡ false) (λ e. (is_of n e && is_held e) ≡ false) es (λ e g. ap (λ (b : Bool). b && is_held e) g) h

pub lives_none : (n : Name) (es : List Known) → AreOthers n es → false ≡ lives es n
lives_none n es h = sym (any_none (λ e. is_of n e && is_held e) es (no_lives n es h))

pub lives_at : (n : Name) (es : List Known) (place : ℕ) (e : Known) → IsOnlyAt n es place e → status_holds e.status ≡ lives es n
lives_at n es place e at =
    sym (ap (λ (xs : List Known). lives xs n) at.split ∙ any_apart (λ x. is_of n x && is_held x) at.front e at.back (no_lives n at.front at.before) (no_lives n at.back at.behind)
    ∙ ap (λ (b : Bool). b && is_held e) at.named)

-- ---- an element with a property

-- none before a place
abbrev pub NoneBelow : {A : Type 0} → (A → Type 0) → List A → ℕ → Type 0
NoneBelow {A} P xs place = (k : ℕ) (x : A) → k < place → slice_get xs k ≡ Some x → P x → ⊥

pub below_place : {A : Type 0} (P : A → Type 0) (xs : List A) (place : ℕ) (y : A) → NoneBelow P xs place → slice_get xs place ≡ Some y → (P y → ⊥) → NoneBelow P xs (place + 1)
below_place {A} P xs place y none there never k x small at holds = go (le_cases k place (omega (arith, small)))
  where
    le_cases : (a b : ℕ) → a ≤ b → (a < b) ⊎ (a ≡ b)
    le_cases a b h = grind arith

    go : (k < place) ⊎ (k ≡ place) → ⊥
    go (inl less) = none k x less at holds
    go (inr same) =
        let e : Some x ≡ Some y = sym at ∙ ap (λ (n : ℕ). slice_get xs n) same ∙ there in
        let f : x ≡ y = cc in
        never (subst P f holds)

pub nowhere : {A : Type 0} (P : A → Type 0) (xs : List A) (place : ℕ) → length xs ≤ place → NoneBelow P xs place → Somewhere P xs → ⊥
nowhere P xs place all none found = (let w = slice_get_within xs found.0 found.1 found.2 in none found.0 found.1 (omega (arith, w, all)) found.2 found.3)

pub past_end : {A : Type 0} (xs : List A) (place : ℕ) → None ≡ slice_get xs place → length xs ≤ place
past_end {A} xs place h = go (slice_get_cases xs place).1
  where
    go : ((x : A) × (place < length xs) × (slice_get xs place ≡ Some x) × (get_or xs place x ≡ x)) ⊎ ((length xs ≤ place) × (slice_get xs place ≡ None)) → length xs ≤ place
    go (inl w) = absurd (let e : None ≡ Some w.0 = h ∙ w.2 in cc)
    go (inr w) = w.0

pub below : {A : Type 0} (xs : List A) (place : ℕ) → place < length xs → (x : A) × (slice_get xs place ≡ Some x)
below {A} xs place h = go (slice_get_cases xs place).1
  where
    go : ((x : A) × (place < length xs) × (slice_get xs place ≡ Some x) × (get_or xs place x ≡ x)) ⊎ ((length xs ≤ place) × (slice_get xs place ≡ None)) → (x : A) × (slice_get xs place ≡ Some x)
    go (inl w) = (w.0, w.2)
    go (inr w) = absurd (let past = w.0 in omega (arith, h, past))

-- the letter of a waiter in a place
pub waits_at : (ws : List (Waiter Letter)) (place : ℕ) → place < length ws → (l : Letter) × (slice_get (map letter_of ws) place ≡ Some l)
waits_at ws place h = below (map letter_of ws) place (let e : length (map letter_of ws) ≡ length ws = length-map ws letter_of in omega (arith, h, e))

-- a letter that is ready
pub some_ready : (s : Local) (place : ℕ) → IsFirstReady s place → NoneReady s → ⊥
some_ready s place f none =
    (let h = subst (λ (ls : List Letter). Each (λ l. is_ready s.known l ≡ false) ls) f.split none in
    false≢true (sym (all_right (λ l. is_ready s.known l ≡ false) f.front (f.letter ∷ f.back) h).0 ∙ f.ready))
