-- What the fields of the tasks keep.
-- Beyond the headline: no clause of `prove` reaches this file.
use Rattle.std.specs.Prelude.{◌≡◌, ◌≢◌, ℕ, List, Some, map, slice_get}
use Rattle.cd_names.specs.declared.names.Name.{Name}
use Rattle.cd_tasks.specs.declared.Arrival.{Arrival}
use Rattle.cd_tasks.specs.declared.cursor.Stage.{Stage}
use Rattle.cd_tasks.specs.declared.tasks.Key.{Key}
use Rattle.cd_tasks.specs.Order.{is_live, is_home, owed_of, task_order, IsBackOf}
use Rattle.cd_tasks.specs.Links.{AreLinks, IsSettled}

abbrev pub key_of : Name → Key
key_of n = record { peer = n.peer; seq = n.seq }

-- the key is at no place
abbrev pub Lacks : List Key → Key → Type 0
Lacks keys key = (k : ℕ) → slice_get keys k ≢ Some key

-- no key is at two places
abbrev pub AreDistinct : List Key → Type 0
AreDistinct keys = (m n : ℕ) (key : Key) → slice_get keys m ≡ Some key → slice_get keys n ≡ Some key → m ≡ n

-- the keys are those of the arrivals, the links lead over what isn't asked for, and the place in the order is
-- that of the first owed task; what is owed is a back of the order
pub record IsTracked (keys : List Key) (es : List Arrival) (later home : List ℕ) (turn : ℕ) (stage : Stage) : Type 0 where
  pub keyed : keys ≡ map (λ e. key_of e.name) es
  pub lives : AreLinks is_live es later
  pub homes : AreLinks is_home es home
  pub settled : IsSettled es turn stage
  pub ordered : IsBackOf (owed_of es turn stage) (task_order es)
