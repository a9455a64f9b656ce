-- Files give one problem, or have one fault first, or need one file next.
use Rattle.std.proofs.Common.{◌≡◌, ◌∙◌, [], ℕ, List, Result, Ok, Err, sym, ap}
use Rattle.cd_read.specs.declared.problem.Problem.{Problem}
use Rattle.cd_read.specs.declared.problem.Wrong.{Wrong}
use Rattle.cd_read.specs.Files.{File, SoFar, Outcome, read, wrong, needs, start, nothing_read, ReadsFile, GivesProblem, HasFault, Reads, NeedsNext}
use Rattle.cd_read.proofs.Outcomes.{outcome_single, none_distinct}

from_start : (files : List File) (path : List ℕ) (o o' : Outcome) → ReadsFile (start path) (nothing_read files) o
    → ReadsFile (start path) (nothing_read files) o' → o ≡ o'
from_start files path o o' d d' = outcome_single (start path) (nothing_read files) o o' none_distinct d d'

abbrev state_or : SoFar → Outcome → SoFar
state_or s (read t) = t
state_or s (wrong w left) = s
state_or s (needs p) = s

problem_single : (files : List File) (path : List ℕ) (p q : Problem) → GivesProblem files path p → GivesProblem files path q → p ≡ q
problem_single files path p q a b =
    let same = ap (state_or (nothing_read files)) (from_start files path _ _ a.reads b.reads) in
    let names : p.name ≡ q.name = a.name ∙ sym b.name in
    λ i. record { name = names i; symbols = (same i).symbols; inputs = (same i).inputs }

abbrev wrong_or : Wrong → Outcome → Wrong
wrong_or w (read t) = w
wrong_or w (wrong v left) = v
wrong_or w (needs p) = w

fault_single : (files : List File) (path : List ℕ) (v w : Wrong) → HasFault files path v → HasFault files path w → v ≡ w
fault_single files path v w a b = ap (wrong_or v) (from_start files path (wrong v []) (wrong w []) a b)

abbrev path_or : List ℕ → Outcome → List ℕ
path_or p (read t) = p
path_or p (wrong v left) = p
path_or p (needs q) = q

pub need_single : (files : List File) (path p q : List ℕ) → NeedsNext files path p → NeedsNext files path q → p ≡ q
need_single files path p q a b = ap (path_or p) (from_start files path (needs p) (needs q) a b)

problem_or_fault : (files : List File) (path : List ℕ) (p : Problem) (w : Wrong) → GivesProblem files path p → ¬ HasFault files path w
problem_or_fault files path p w a b = let e = from_start files path _ (wrong w []) a.reads b in cc

problem_or_need : (files : List File) (path : List ℕ) (p : Problem) (q : List ℕ) → GivesProblem files path p → ¬ NeedsNext files path q
problem_or_need files path p q a b = let e = from_start files path _ (needs q) a.reads b in cc

fault_or_need : (files : List File) (path : List ℕ) (w : Wrong) (q : List ℕ) → HasFault files path w → ¬ NeedsNext files path q
fault_or_need files path w q a b = let e = from_start files path (wrong w []) (needs q) a b in cc

pub readings_single : (files : List File) (path : List ℕ) (r q : Result Problem Wrong) → Reads files path r → Reads files path q → r ≡ q
readings_single files path (Ok p) (Ok q) a b = ap (λ (x : Problem). Ok x) (problem_single files path p q a b)
readings_single files path (Ok p) (Err w) a b = absurd (problem_or_fault files path p w a b)
readings_single files path (Err v) (Ok q) a b = absurd (problem_or_fault files path q v b a)
readings_single files path (Err v) (Err w) a b = ap (λ (x : Wrong). Err x) (fault_single files path v w a b)

pub readings_or_need : (files : List File) (path : List ℕ) (r : Result Problem Wrong) (q : List ℕ) → Reads files path r
    → ¬ NeedsNext files path q
readings_or_need files path (Ok p) q a b = problem_or_need files path p q a b
readings_or_need files path (Err w) q a b = fault_or_need files path w q a b
