-- The start of a search, and each of its turns.
use Rattle.std.proofs.Common.{◌≡◌, true, false, ℕ, ◌<◌, ◌≤◌, ◌^◌, List, length, refl, sym, subst, arith}
use Rattle.std.specs.Prelude.{None, Some, Option, IsSome}
use Rattle.std.specs.List.{AllByRecursion as Each}
use Rattle.cd_ledger.specs.declared.events.Verdict.{Verdict}
use Rattle.cd_ledger.specs.declared.items.Item.{Item}
use Rattle.cd_ledger.specs.declared.local.Limits.{Limits}
use Rattle.cd_ledger.specs.declared.local.Local.{Local}
use Rattle.cd_laws.specs.Measure.{names_left, units_left}
use Rattle.cd_laws.specs.Schedule.{far}
use Rattle.cd_machine.specs.Rules.{IsFit, clauses_of}
use Rattle.cd_machine.specs.World.{AreShare, at, starting}
use Rattle.cd_names.specs.declared.ownership.Policy.{Policy}
use Rattle.cd_peer.specs.Peers.{IsStartOf, PeerView, StartsAs, TurnsTo}
use Rattle.cd_peer.specs.Plain.{plain}
use Rattle.cd_peer.specs.declared.peer.Turned.{Turned}
use Rattle.cd_peer.specs.declared.peer.Turned.TheVariants.{Did, Idle}
use Rattle.cd_read.specs.declared.problem.Problem.{Problem}
use Rattle.cd_search.specs.Search.{IsFinished, IsUnderway, alone}
use Rattle.cd_search.specs.Steps.{HasGiven, HasNames, HasSpent, HasUnits, IsSearching, Nearer}
use Rattle.cd_search.proofs.Runs.{far_few, has_token, nothing_waits, turned}
use Rattle.cd_search.proofs.Steps.{AtMost, FewUnits, few_now, given_of, most_now, spent_of}

started_at : (p : Problem) (policy : Policy) (limits : Limits) (s : Local) → IsStartOf p 0 1 policy limits s → Each (IsFit p) (clauses_of p) → IsUnderway plain p policy limits s
started_at p policy limits s h fit =
    subst (IsUnderway plain p policy limits) (sym h.is) (record {
      start = first;
      starting = record { count = refl; starts = record { some_peer = omega arith; fit = fit; fresh = λ q l. fresh_of q l; travelling = refl } };
      run = refl;
      me = refl;
      clock = refl;
    })
  where
    first : Local
    first = starting 0 1 policy limits h.items

    fresh_of : (q : ℕ) → q < 1 → (items : List Item) × AreShare q 1 0 (clauses_of p) items × (at (alone first) q ≡ starting q 1 policy limits items)
    fresh_of q l = subst (λ (k : ℕ). (items : List Item) × AreShare k 1 0 (clauses_of p) items × (at (alone first) k ≡ starting k 1 policy limits items)) (let z : 0 ≡ q = omega (arith, l) in z) (h.items, h.share, refl)

pub started : (p : Problem) (policy : Policy) (limits : Limits) (v : PeerView) → Each (IsFit p) (clauses_of p) → StartsAs p 0 1 policy limits v → IsSearching policy limits v
started p policy limits v fit h = record {
  standing = h.fallen;
  underway = subst (λ (q : Problem). IsUnderway plain q policy limits v.local) (sym h.problem) (started_at p policy limits v.local h.local fit);
}

-- what a turn leads to
pub record Goes (policy : Policy) (limits : Limits) (v w : PeerView) : Type 0 where
  pub searching : IsSearching policy limits w
  pub problem : w.problem ≡ v.problem
  pub nearer : Nearer v.local w.local

pub goes : (policy : Policy) (limits : Limits) (v w : PeerView) (t : Turned) → IsSearching policy limits v → length v.local.journal < 2 ^ 62 → v.local.verdict ≡ None → TurnsTo v w t → Goes policy limits v w
goes policy limits v w Did s small running m =
    let x = turned plain v.problem policy limits v.local w.local m.letters s.underway small running m.turn in
    record {
      searching = record { standing = m.fallen; underway = subst (λ (q : Problem). IsUnderway plain q policy limits w.local) (sym m.problem) x.1.underway };
      problem = m.problem;
      nearer = x.1.nearer;
    }
goes policy limits v w Idle s small running m = absurd (has_token plain v.problem policy limits v.local s.underway m.0.3)

pub far_at : (policy : Policy) (limits : Limits) (v : PeerView) → IsSearching policy limits v → far (alone v.local) ≤ 9
far_at policy limits v s = far_few v.local (nothing_waits plain v.problem policy limits v.local s.underway)

-- ---- loops that begin with what is left

pub most_at : (u n : ℕ) (s : Local) → u ≡ units_left s → n ≡ names_left s → AtMost u n s
most_at u n s hu hn = subst (λ (k : ℕ). AtMost k n s) (sym hu) (subst (λ (k : ℕ). AtMost (units_left s) k s) (sym hn) (most_now s))

pub given_at : (u n : ℕ) (s next : Local) → u ≡ units_left s → n ≡ names_left s → AtMost u n next → (HasNames u n next → ⊥) → HasGiven s next
given_at u n s next hu hn most none =
    given_of s next (subst (λ (k : ℕ). AtMost (units_left s) k next) hn (subst (λ (k : ℕ). AtMost k n next) hu most))
    (λ h. none (subst (λ (k : ℕ). HasNames k n next) (sym hu) (subst (λ (k : ℕ). HasNames (units_left s) k next) (sym hn) h)))

pub few_at : (u : ℕ) (s : Local) → u ≡ units_left s → FewUnits u s
few_at u s hu = subst (λ (k : ℕ). FewUnits k s) (sym hu) (few_now s)

pub spent_at : (u : ℕ) (s next : Local) → u ≡ units_left s → FewUnits u next → (HasUnits u next → ⊥) → HasSpent s next
spent_at u s next hu few none = spent_of s next (subst (λ (k : ℕ). FewUnits k next) hu few) (λ h. none (subst (λ (k : ℕ). HasUnits k next) (sym hu) h))

some_verdict : (o : Option Verdict) → (o ≡ None → ⊥) → IsSome o
some_verdict None h = absurd (h refl)
some_verdict (Some v) h = refl

pub finished : (p : Problem) (policy : Policy) (limits : Limits) (v : PeerView) → IsSearching policy limits v → v.problem ≡ p → (v.local.verdict ≡ None → ⊥) → IsFinished plain p policy limits v.local
finished p policy limits v s same ended = record {
  underway = subst (λ (q : Problem). IsUnderway plain q policy limits v.local) same s.underway;
  ended = some_verdict v.local.verdict ended;
}

-- a loop whose test is false
no_truth : false ≡ true → ⊥
no_truth h = cc

pub untrue : {P : Type 0} → (P → false ≡ true) → P → ⊥
untrue f p = no_truth (f p)
