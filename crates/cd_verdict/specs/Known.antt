-- What callers see of a bell and of a seat.
-- Beyond the headline: no clause of `prove` reaches this file.
use Rattle.std.specs.Prelude.{◌≡◌, ℕ, ◌+◌, ◌-◌, ◌<◌, ◌≤◌, ◌^◌, ◌↔◌, IsTrue, Bool, true, false, List, [], ◌∷◌, length, Some, slice_get}
use Rattle.atomic_table.specs.Seated.{TableId}
use Rattle.atomic_table.specs.declared.shared.Seat.{Seat}
use Rattle.cd_verdict.specs.declared.rule.View.{View}
use Rattle.cd_verdict.specs.Views.{has, is_marked, AgreesWith, mark, marks_from, view, after_declare}

pub record BellId : Type 0 where
  pub table : TableId
  pub peers : ℕ

-- Of which bell it is, whose seat it is, and what it knows of the word.
pub record Known : Type 0 where
  pub bell : TableId
  pub number : ℕ
  pub view : View

abbrev pub known : TableId → ℕ → View → Known
known bell n v = record { bell = bell; number = n; view = v }

-- the seat of the peer n among so many, which found nothing
abbrev pub fresh : TableId → ℕ → ℕ → Known
fresh bell peers n = known bell n (view peers (mark n false ∷ []) [] [])

-- The seat holds its own number.
pub record IsSeated (n : ℕ) (s : Seat (Unit {0}) View) : Type 0 where
  pub own : has n s.me.0.marks ≡ true
  pub empty : s.me.1 ≡ []
  pub small : s.me.0.peers < 2 ^ 16

-- The seat of the numbers from some number on, which are still to be given.
pub record IsRest (table : TableId) (peers from : ℕ) (rest : Seat (Unit {0}) View) : Type 0 where
  pub bell : rest.table_id ≡ table
  pub me : rest.me ≡ (view peers (marks_from from (peers - from)) [] [], [])

-- A bell for so many peers, and a fresh seat for each of them, in the order of their numbers.
pub record Opened (peers : ℕ) (bell : BellId) (seats : List Known) : Type 0 where
  pub all : bell.peers ≡ peers
  pub count : length seats ≡ peers
  pub each : (p : ℕ) → p < peers → slice_get seats p ≡ Some (fresh bell.table peers p)

-- The call found some word, lists it behind those that earlier calls found, and marks the seat's number, where the seat
-- holds the same numbers as before. It was the first exactly where the word was 0.
pub record Declares (old new : Known) (first : Bool) : Type 0 where
  pub word : ℕ
  pub is_first : IsTrue first ↔ (word ≡ 0)
  pub seat : new ≡ known old.bell old.number (after_declare old.number word old.view)
  pub holds : (n : ℕ) → has n new.view.marks ≡ has n old.view.marks
  pub below : word ≤ old.view.peers
  pub marked : (n : ℕ) → word ≡ n + 1 → has n old.view.marks ≡ true → is_marked n old.view.marks ≡ true
  pub noted : AgreesWith word old.view.noted
