-- The rule of the word, and what each step tells.
-- Beyond the headline: no clause of `prove` reaches this file.
use Rattle.std.specs.Prelude.{◌≡◌, ℕ, ◌+◌, ◌-◌, ◌≤◌, ◌<◌, true, slice_index, length}
use mathlib.Core.Option.{some}
use lib.ListN.{get_elem?}
use Rattle.atomic_table.specs.Table.{State, Step, Me}
use Rattle.cd_verdict.specs.declared.rule.View.{View}
use Rattle.cd_verdict.specs.Views.{has, is_marked, AgreesWith, after_load, after_declare}

-- Of each number that the seat holds: the seat knows how many peers there are, the number is below that, no other seat
-- holds it, and where the word names it, it is marked. A word that the seat noted is the word now, and not 0.
pub record Fits (peers word : ℕ) (holder : ℕ → ℕ) (seat : ℕ) (v : View) : Type 0 where
  pub knows : (n : ℕ) → has n v.marks ≡ true → v.peers ≡ peers
  pub below : (n : ℕ) → has n v.marks ≡ true → n < peers
  pub alone : (n : ℕ) → has n v.marks ≡ true → holder n ≡ seat
  pub named : (n : ℕ) → has n v.marks ≡ true → word ≡ n + 1 → is_marked n v.marks ≡ true
  pub noted : AgreesWith word v.noted

-- There is one word, which is 0 or names a number below the number of peers, and each seat has the view in its place.
pub record IsRung (peers : ℕ) (s : State (Unit {0}) View) : Type 0 where
  pub one : length s.words ≡ 1
  pub holder : ℕ → ℕ
  pub word : slice_index s.words 0 ≤ peers
  pub fits : (seat : ℕ) (v : View) → get_elem? s.views seat ≡ some v → Fits peers (slice_index s.words 0) holder seat v

-- What a seat learns of the word that it finds.
pub record Learns (v : View) (word : ℕ) : Type 0 where
  pub below : (n : ℕ) → has n v.marks ≡ true → word ≤ v.peers
  pub marked : (n : ℕ) → word ≡ n + 1 → has n v.marks ≡ true → is_marked n v.marks ≡ true
  pub noted : AgreesWith word v.noted

abbrev pub Looked : Step (Unit {0}) → Me (Unit {0}) View → ℕ → Me (Unit {0}) View → Type 0
Looked s me word after = (after ≡ (after_load word me.0, me.1)) × Learns me.0 word

-- the step writes one more than the number
abbrev pub Marked : Step (Unit {0}) → Me (Unit {0}) View → ℕ → Me (Unit {0}) View → Type 0
Marked s me word after = (after ≡ (after_declare (s.second - 1) word me.0, me.1)) × Learns me.0 word
