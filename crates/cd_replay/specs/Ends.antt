-- At which limit a peer may end, one item and one task at a time.
-- Beyond the headline: no clause of `prove` reaches this file.
use Rattle.std.specs.Prelude.{◌≡◌, ◌<◌, ◌≤◌, ◌⊎◌, ◌↔◌, ◌||◌, ℕ, Bool, true, false, IsTrue, List, Option, Some, None, slice_get}
use Rattle.cd_acts.specs.declared.rules.Concluded.{Concluded}
use Rattle.cd_acts.specs.declared.rules.Concluded.TheVariants as concluded
use Rattle.cd_kbo.specs.declared.order.Order.{Order}
use Rattle.cd_ledger.specs.declared.events.Bound.TheVariants.{Bounds, Names}
use Rattle.cd_ledger.specs.declared.events.Verdict.{Verdict}
use Rattle.cd_ledger.specs.declared.events.Verdict.TheVariants.{Limit, Refuted, Saturated, Spent}
use Rattle.cd_ledger.specs.declared.items.Item.{Item}
use Rattle.cd_ledger.specs.declared.local.Local.{Local}
use Rattle.cd_machine.specs.Fits.{IsRewritable, MayDeclare}
use Rattle.cd_machine.specs.Turns.{ItemTooLarge, TaskTooLarge}
use Rattle.cd_names.specs.declared.waves.Token.{Token}
use Rattle.cd_tasks.specs.declared.Task.{Task}
use Rattle.cd_replay.specs.Prospects.{LacksName}
use Rattle.cd_replay.specs.declared.prospects.Prospect.{Prospect}
use Rattle.cd_replay.specs.declared.prospects.Prospect.TheVariants as prospect

abbrev pub is_spent : Verdict → Bool
is_spent Refuted = false
is_spent Saturated = false
is_spent Spent = true
is_spent (Limit b) = false

abbrev pub is_bounds : Verdict → Bool
is_bounds Refuted = false
is_bounds Saturated = false
is_bounds Spent = false
is_bounds (Limit Bounds) = true
is_bounds (Limit Names) = false

abbrev pub is_names : Verdict → Bool
is_names Refuted = false
is_names Saturated = false
is_names Spent = false
is_names (Limit Bounds) = false
is_names (Limit Names) = true

-- whether what is to become of an item goes past the limit of a verdict
abbrev pub ends_by : Prospect → Verdict → Bool
ends_by (prospect.Rewritten by r) v = is_spent v
ends_by prospect.TooLarge v = is_spent v || is_bounds v
ends_by (prospect.Kept o) v = false
ends_by prospect.Nameless v = is_names v

abbrev pub is_outside : Concluded → Bool
is_outside (concluded.Found found) = false
is_outside concluded.TooLarge = true

-- whether the token that is held closes both waves; None where none is held
abbrev pub IsClosing : Local → Option Bool → Type 0
IsClosing s None = s.token ≡ None
IsClosing s (Some b) = (t : Token) × (s.token ≡ Some t) × (IsTrue b ↔ MayDeclare s t)

-- what the counts of a state say of a verdict
abbrev pub IsAtLimit : Local → Verdict → Type 0
IsAtLimit s Refuted = ⊥
IsAtLimit s Saturated = ⊥
IsAtLimit s Spent = s.units ≡ s.limits.steps
IsAtLimit s (Limit Bounds) = s.units < s.limits.steps
IsAtLimit s (Limit Names) = 65536 ≤ s.next_seq

-- the item would go past the limit
abbrev pub ItemEnds : Order → Local → Verdict → Item → Type 0
ItemEnds order s Refuted i = ⊥
ItemEnds order s Saturated i = ⊥
ItemEnds order s Spent i = IsRewritable order s i
ItemEnds order s (Limit Bounds) i = ItemTooLarge order s i
ItemEnds order s (Limit Names) i = LacksName order s.known s.next_seq i

-- the task would go past the limit
abbrev pub TaskEnds : Order → Local → Verdict → Task → Type 0
TaskEnds order s Refuted t = ⊥
TaskEnds order s Saturated t = ⊥
TaskEnds order s Spent t = Unit {0}
TaskEnds order s (Limit Bounds) t = TaskTooLarge order s t
TaskEnds order s (Limit Names) t = ⊥

-- an element in some place has a property
abbrev pub Somewhere : {A : Type 0} → (A → Type 0) → List A → Type 0
Somewhere {A} P xs = (place : ℕ) × (x : A) × (slice_get xs place ≡ Some x) × P x

-- a count is at the limit, and some item or task would go past it
abbrev pub Ends : Order → Local → Verdict → Type 0
Ends order s v = IsAtLimit s v × (Somewhere (ItemEnds order s v) s.pending ⊎ Somewhere (TaskEnds order s v) s.owed)
