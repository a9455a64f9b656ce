-- What one act does to the units, the limits and the verdict of a peer.
use Rattle.std.proofs.Common.{◌≡◌, ℕ, ◌+◌, Bool, true, false, cond, eqb, List, [], ◌∷◌, ◌++◌, refl, ap, ◌∙◌, subst, arith}
use Rattle.std.specs.Prelude.{Option, Some, None}
use Rattle.cd_kbo.specs.declared.order.Order.{Order}
use Rattle.cd_clause.specs.declared.Clause.{Clause}
use Rattle.cd_contract.specs.declared.held.Hit.{Hit}
use Rattle.cd_ledger.specs.declared.events.Act.{Act}
use Rattle.cd_ledger.specs.declared.events.Act.TheVariants.{Admit, Declare, End, Keep, Pass, Receive, Reject, Rewrite, Work}
use Rattle.cd_ledger.specs.declared.events.Event.{Event}
use Rattle.cd_ledger.specs.declared.events.Verdict.{Verdict}
use Rattle.cd_ledger.specs.declared.events.Verdict.TheVariants.{Limit, Refuted, Saturated, Spent}
use Rattle.cd_ledger.specs.declared.items.Outcome.{Outcome}
use Rattle.cd_ledger.specs.declared.items.Outcome.TheVariants.{Named, Subsumed, Trivial}
use Rattle.cd_ledger.specs.declared.letters.Body.{Body}
use Rattle.cd_ledger.specs.declared.letters.Body.TheVariants as body
use Rattle.cd_ledger.specs.declared.local.Local.{Local}
use Rattle.cd_read.specs.declared.problem.Problem.{Problem}
use Rattle.cd_machine.specs.Acts.{admitted_body, kept, unshelved}
use Rattle.cd_machine.specs.Events.{Found, acted}
use Rattle.cd_machine.specs.Fits.{EndFits, Fits}
use Rattle.cd_machine.specs.Rules.{is_empty}
use Rattle.cd_machine.specs.Tokens.{passed}
use Rattle.cd_recorded.specs.Recorded.{unit_count, units_of}

-- the units of an event behind others
pub count_push : (es : List Event) (e : Event) → unit_count (es ++ e ∷ []) ≡ unit_count es + units_of e.act
count_push [] e = omega arith
count_push (x ∷ es) e =
    ap (λ (n : ℕ). units_of x.act + n) (count_push es e) ∙ (let z : units_of x.act + (unit_count es + units_of e.act) ≡ units_of x.act + unit_count es + units_of e.act = omega arith in z)

-- ---- units and limits

-- units and limits after an act
pub record Tells (s next : Local) (units : ℕ) : Type 0 where
  pub units_are : next.units ≡ s.units + units
  pub limits_are : next.limits ≡ s.limits

module _ (s : Local) where
  same : (next : Local) → next.units ≡ s.units → next.limits ≡ s.limits → Tells s next 0
  same next units limits = record { units_are = omega (arith, units); limits_are = limits }

  pub tells : (a : Act) (f : Found a) → Tells s (acted s a f) (units_of a)
  tells (Rewrite k) f = record { units_are = refl; limits_are = refl }
  tells (Keep k) f = go f.outcome
    where
      go : (o : Outcome) → Tells s (kept s k f.item o f.hit) 0
      go (Named n) = same (kept s k f.item (Named n) f.hit) refl refl
      go Trivial = same (kept s k f.item Trivial f.hit) refl refl
      go (Subsumed d) = same (kept s k f.item (Subsumed d) f.hit) refl refl
  tells (Receive l) f = same (acted s (Receive l) f) refl refl
  tells (Admit k) f = go f.letter.body f.forward
    where
      go : (b : Body) (o : Option Hit) → Tells s (admitted_body (unshelved s k) b o f.hit) 0
      go (body.Kept r) None = same (admitted_body (unshelved s k) (body.Kept r) None f.hit) refl refl
      go (body.Kept r) (Some h) = same (admitted_body (unshelved s k) (body.Kept r) (Some h) f.hit) refl refl
      go (body.Notice of by h) o = same (admitted_body (unshelved s k) (body.Notice of by h) o f.hit) refl refl
      go (body.Token t) o = same (admitted_body (unshelved s k) (body.Token t) o f.hit) refl refl
  tells (Reject k) f = same (acted s (Reject k) f) refl refl
  tells (Work t) f = record { units_are = refl; limits_are = refl }
  tells Pass f = go (eqb s.peers 1)
    where
      go : (b : Bool) → Tells s (cond b (record s { token = Some (passed s.peers s.count f) }) (record s { token = None })) 0
      go true = same (record s { token = Some (passed s.peers s.count f) }) refl refl
      go false = same (record s { token = None }) refl refl
  tells Declare f = same (acted s Declare f) refl refl
  tells (End v) f = same (acted s (End v) f) refl refl

-- ---- verdicts

-- the act by which a verdict comes, and what it found
abbrev pub EndedBy : Order → Local → Act → Verdict → Type 0
EndedBy order s a Refuted = Unit {0}
EndedBy order s a Saturated = a ≡ Declare
EndedBy order s a Spent = (a ≡ End Spent) × (s.units ≡ s.limits.steps)
EndedBy order s a (Limit b) = (a ≡ End (Limit b)) × EndFits order s (Limit b)

module _ (order : Order) (p : Problem) (s : Local) (running : s.verdict ≡ None) where
  unended : (v : Verdict) → s.verdict ≡ Some v → ⊥
  unended v h = absurd (cc (running, h))

  by_refuted : (c : Clause) (a : Act) (v : Verdict) → cond (is_empty c) (Some Refuted) s.verdict ≡ Some v → EndedBy order s a v
  by_refuted c a v h = go (is_empty c) h
    where
      go : (b : Bool) → cond b (Some Refuted) s.verdict ≡ Some v → EndedBy order s a v
      go true x = subst (EndedBy order s a) (let y : ◌≡◌ {A = Option Verdict} (Some Refuted) (Some v) = x in let r : Refuted ≡ v = cc in r) tt
      go false x = absurd (unended v x)

  pub ended_by : (a : Act) (f : Found a) → Fits order p s a f → (v : Verdict) → (acted s a f).verdict ≡ Some v → EndedBy order s a v
  ended_by (Rewrite k) f fits v h = absurd (unended v h)
  ended_by (Keep k) f fits v h = go f.outcome h
    where
      go : (o : Outcome) → (kept s k f.item o f.hit).verdict ≡ Some v → EndedBy order s (Keep k) v
      go (Named n) x = by_refuted f.item.clause (Keep k) v x
      go Trivial x = absurd (unended v x)
      go (Subsumed d) x = absurd (unended v x)
  ended_by (Receive l) f fits v h = absurd (unended v h)
  ended_by (Admit k) f fits v h = go f.letter.body f.forward h
    where
      go : (b : Body) (o : Option Hit) → (admitted_body (unshelved s k) b o f.hit).verdict ≡ Some v → EndedBy order s (Admit k) v
      go (body.Kept r) None x = by_refuted r.clause (Admit k) v x
      go (body.Kept r) (Some d) x = by_refuted r.clause (Admit k) v x
      go (body.Notice of by how) o x = absurd (unended v x)
      go (body.Token t) o x = absurd (unended v x)
  ended_by (Reject k) f fits v h = absurd (unended v h)
  ended_by (Work t) f fits v h = absurd (unended v h)
  ended_by Pass f fits v h = absurd (unended v (passed_same (eqb s.peers 1) ∙ h))
    where
      passed_same : (b : Bool) → s.verdict ≡ (cond b (record s { token = Some (passed s.peers s.count f) }) (record s { token = None })).verdict
      passed_same true = refl
      passed_same false = refl
  ended_by Declare f fits v h = subst (EndedBy order s Declare) (let y : ◌≡◌ {A = Option Verdict} (Some Saturated) (Some v) = h in let r : Saturated ≡ v = cc in r) refl
  ended_by (End w) f fits v h = subst (EndedBy order s (End w)) (let y : ◌≡◌ {A = Option Verdict} (Some w) (Some v) = h in let r : w ≡ v = cc in r) (go w fits)
    where
      go : (w : Verdict) → EndFits order s w → EndedBy order s (End w) w
      go Refuted x = absurd x
      go Saturated x = absurd x
      go Spent x = (refl, x.0)
      go (Limit b) x = (refl, x)
