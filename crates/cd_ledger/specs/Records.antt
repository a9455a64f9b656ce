-- Names and records at a peer, the steps of a record, and who owns it.
-- Beyond the headline: no clause of `prove` reaches is_input.
use Rattle.std.specs.Prelude.{find, ◌≡◌, ℕ, ◌%◌, ◌==◌, Bool, true, false, not, cond, List, [], ◌∷◌, Option, Some, None}
use Rattle.std.specs.List.{list_any, flat_map}
use Rattle.std.specs.List.{AllByRecursion as Each}
use Rattle.cd_clause.specs.declared.Clause.{Clause}
use Rattle.cd_clause.specs.Clauses.{clause_size}
use Rattle.cd_names.specs.declared.names.Name.{Name}
use Rattle.cd_names.specs.declared.ownership.Policy.{Policy}
use Rattle.cd_names.specs.Names.{name_eq, each_once}
use Rattle.cd_names.specs.Shares.{owner}
use Rattle.cd_steps.specs.declared.Step.{Step}
use Rattle.cd_steps.specs.declared.Step.TheVariants as step
use Rattle.cd_steps.specs.Premises.{goes_on, names_in}
use Rattle.cd_ledger.specs.declared.records.Record.{Record}
use Rattle.cd_ledger.specs.declared.records.Known.{Known}

-- ---- what a peer knows

abbrev pub is_of : Name → Known → Bool
is_of n e = name_eq e.entry.name n

-- the first entry of a name
abbrev pub look : List Known → Name → Option Known
look known n = find (is_of n) known

abbrev pub is_known : List Known → Name → Bool
is_known es n = list_any (is_of n) es

-- which record a name has, if it has one
abbrev pub Registry : Type 0
Registry = Name → Option Record

-- the record under a name among some entries
abbrev pub recorded : Name → List Known → Option Record
recorded n [] = None
recorded n (e ∷ es) = cond (is_of n e) (Some e.entry) (recorded n es)

-- ---- the steps of a record

-- a step that begins a record; the others change the clause before them
abbrev pub begins : Step → Bool
begins s = not (goes_on s)

abbrev pub is_copy : Step → Bool
is_copy (step.Input k) = false
is_copy (step.Copy n) = true
is_copy (step.Resolve a i b j t) = false
is_copy (step.Factor a i j t) = false
is_copy (step.Refl a i t) = false
is_copy (step.EqFac a i s j z t) = false
is_copy (step.Para a i s b j path t) = false
is_copy (step.Rewrite a s j path t) = false
is_copy step.Tidy = false

abbrev pub is_input : Step → Bool
is_input (step.Input k) = true
is_input (step.Copy n) = false
is_input (step.Resolve a i b j t) = false
is_input (step.Factor a i j t) = false
is_input (step.Refl a i t) = false
is_input (step.EqFac a i s j z t) = false
is_input (step.Para a i s b j path t) = false
is_input (step.Rewrite a s j path t) = false
is_input step.Tidy = false

-- the equation that a step rewrites by
abbrev pub used_in : Step → List Name
used_in (step.Input k) = []
used_in (step.Copy n) = []
used_in (step.Resolve a i b j t) = []
used_in (step.Factor a i j t) = []
used_in (step.Refl a i t) = []
used_in (step.EqFac a i s j z t) = []
used_in (step.Para a i s b j path t) = []
used_in (step.Rewrite a s j path t) = a ∷ []
used_in step.Tidy = []

-- the names in steps, and the equations among them: each once, in the order of first mention
unfoldable pub cites_of : List Step → List Name
cites_of steps = each_once [] (flat_map names_in steps)

abbrev pub equations_of : List Step → List Name
equations_of steps = each_once [] (flat_map used_in steps)

-- the steps of a record: one that begins it, and others that go on
abbrev pub IsShape : List Step → Type 0
IsShape [] = ⊥
IsShape (s ∷ ss) = (begins s ≡ true) × Each (λ t. begins t ≡ false) ss

-- a copy alone is no record: at least one step follows it
abbrev pub GoesOnBehindCopy : List Step → Type 0
GoesOnBehindCopy [] = Unit {0}
GoesOnBehindCopy (s ∷ []) = is_copy s ≡ false
GoesOnBehindCopy (s ∷ t ∷ ss) = Unit {0}

-- ---- shares and owners

-- input k belongs to peer k mod n: a step that takes an input takes one of peer q's
abbrev pub InShare : ℕ → ℕ → Step → Type 0
InShare n q (step.Input k) = (k % n == q) ≡ true
InShare n q (step.Copy m) = Unit {0}
InShare n q (step.Resolve a i b j t) = Unit {0}
InShare n q (step.Factor a i j t) = Unit {0}
InShare n q (step.Refl a i t) = Unit {0}
InShare n q (step.EqFac a i s j z t) = Unit {0}
InShare n q (step.Para a i s b j path t) = Unit {0}
InShare n q (step.Rewrite a s j path t) = Unit {0}
InShare n q step.Tidy = Unit {0}

-- the owner of a clause that is recorded under a name
abbrev pub owner_by : Policy → ℕ → Name → Clause → ℕ
owner_by policy peers n c = owner policy n.peer n.seq (clause_size c) peers
