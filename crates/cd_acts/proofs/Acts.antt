-- What a call did is the act.
use Rattle.std.proofs.Common.{◌≡◌, ℕ, ◌+◌, ◌<◌, ◌≤◌, Bool, true, false, cond, ltb, List, [], ◌∷◌, ◌++◌, refl, ap, sym, ◌∙◌, subst, arith}
use Rattle.std.specs.Prelude.{slice_get, slice_set, remove, Option, Some, None, length}
use Rattle.std.specs.List.{AllByRecursion as Each}
use Rattle.cd_clause.specs.declared.Clause.{Clause}
use Rattle.cd_contract.specs.declared.held.Hit.{Hit}
use Rattle.cd_infer.specs.declared.Conclusion.{Conclusion}
use Rattle.cd_kbo.specs.declared.order.Order.{Order}
use Rattle.cd_ledger.specs.declared.events.Act.TheVariants.{Admit, Keep, Reject, Rewrite, Work}
use Rattle.cd_ledger.specs.declared.items.Done.{Done}
use Rattle.cd_ledger.specs.declared.items.Item.{Item}
use Rattle.cd_ledger.specs.declared.items.Outcome.{Outcome}
use Rattle.cd_ledger.specs.declared.items.Outcome.TheVariants.{Named, Subsumed, Trivial}
use Rattle.cd_ledger.specs.declared.letters.Body.{Body}
use Rattle.cd_ledger.specs.declared.letters.Body.TheVariants as body
use Rattle.cd_ledger.specs.declared.letters.Letter.{Letter}
use Rattle.cd_ledger.specs.declared.local.Local.{Local}
use Rattle.cd_ledger.specs.declared.records.Known.{Known}
use Rattle.cd_ledger.specs.declared.records.Record.{Record}
use Rattle.cd_machine.specs.Acts.{admitted_body, body_letters, broadcast, unshelved}
use Rattle.cd_machine.specs.Arrivals.{arrived, refuted_by}
use Rattle.cd_machine.specs.Contraction.{notices}
use Rattle.cd_machine.specs.Fits.{BodyHits, IsAcceptable, OutcomeFits, is_ready}
use Rattle.cd_machine.specs.Hits.{AreHits, IsReducer, IsRewriter}
use Rattle.cd_machine.specs.Right.{IsTidyStep}
use Rattle.cd_names.specs.declared.How.{How}
use Rattle.cd_names.specs.declared.names.Name.{Name}
use Rattle.cd_read.specs.declared.problem.Problem.{Problem}
use Rattle.cd_rewrite.specs.declared.reducing.ReductAt.{ReductAt as Reduct}
use Rattle.cd_tasks.specs.declared.Task.{Task}
use Rattle.cd_contract.specs.declared.held.Struck.{Struck}
use Rattle.cd_acts.specs.Acts.{AddsItems, AdmitsBody, Does, MayAdmit, MayKeep, MayReject, MayRewrite, MayWork, Reworks, named_record, rewrite_step, settled_by}
use Rattle.cd_acts.specs.Answers.{IsReduct}
use Rattle.cd_acts.specs.Hits.{by_name}

module _ (order : Order) (s : Local) (o : Outcome) (m : MayKeep order s o) (i : Item) (rest : List Item) (first : s.pending ≡ i ∷ rest) where
  item_of : m.item ≡ i
  item_of = (let e : m.item ∷ m.others ≡ i ∷ rest = sym m.pending ∙ first in cc)

  pub taken_first : slice_get s.pending 0 ≡ Some i
  taken_first = ap (λ (is : List Item). slice_get is 0) first

  pub left_first : rest ≡ remove s.pending 0
  left_first = ap (λ (is : List Item). remove is 0) (sym first)

  kept_free : i.forced ≡ None
  kept_free = subst (λ (x : Item). x.forced ≡ None) item_of m.free

  kept_irreducible : Each (λ e. ¬ IsReducer order i.clause e) s.known
  kept_irreducible = subst (λ (x : Item). Each (λ e. ¬ IsReducer order x.clause e) s.known) item_of m.irreducible

  kept_outcome : OutcomeFits s i o
  kept_outcome = subst (λ (x : Item). OutcomeFits s x o) item_of m.fits

pub keeps_settled : (order : Order) (p : Problem) (s next : Local) (time : ℕ) (o : Outcome) (m : MayKeep order s o) (i : Item) (rest : List Item) → ((n : Name) → o ≡ Named n → ⊥) → s.pending ≡ i ∷ rest
    → next ≡ settled_by (record s { pending = rest }) i.origin i.steps o → Does order p s time (Keep 0) next []
keeps_settled order p s next time (Named n) m i rest u first e = absurd (u n refl)
keeps_settled order p s next time Trivial m i rest u first e = record {
  found = record { item = i; outcome = Trivial; hit = λ k. None };
  fits = record {
    there = taken_first order s Trivial m i rest first;
    free = kept_free order s Trivial m i rest first;
    irreducible = kept_irreducible order s Trivial m i rest first;
    outcome = kept_outcome order s Trivial m i rest first;
    hits = tt;
  };
  effect = rw (e, left_first order s Trivial m i rest first) refl;
  sends = refl;
}
keeps_settled order p s next time (Subsumed d) m i rest u first e = record {
  found = record { item = i; outcome = Subsumed d; hit = λ k. None };
  fits = record {
    there = taken_first order s (Subsumed d) m i rest first;
    free = kept_free order s (Subsumed d) m i rest first;
    irreducible = kept_irreducible order s (Subsumed d) m i rest first;
    outcome = kept_outcome order s (Subsumed d) m i rest first;
    hits = tt;
  };
  effect = rw (e, left_first order s (Subsumed d) m i rest first) refl;
  sends = refl;
}

-- u is the state behind the settling
pub keeps_named : (order : Order) (p : Problem) (s u next : Local) (time : ℕ) (n : Name) (m : MayKeep order s (Named n)) (i : Item) (rest : List Item) (r : Record) (hits : List Struck) (k : ℕ) (letters : List Letter)
    → s.pending ≡ i ∷ rest
    → u ≡ settled_by (record s { pending = rest }) i.origin i.steps (Named n)
    → r ≡ named_record u i.steps i.clause
    → AreHits order r u.known (by_name hits)
    → k ≡ u.next_seq + 1
    → next ≡ arrived (record u { next_seq = k; verdict = refuted_by r.clause u.verdict }) (by_name hits) r
    → letters ≡ broadcast u.me time r u.peers ++ notices u.me time (by_name hits) r.name u.known
    → Does order p s time (Keep 0) next letters
keeps_named order p s u next time n m i rest r hits k letters first hu hr are hk eff sent =
    let fit = kept_outcome order s (Named n) m i rest first in
    let back = left_first order s (Named n) m i rest first in
    let v : u ≡ settled_by (record s { pending = remove s.pending 0 }) i.origin i.steps (Named n) = hu ∙ ap (λ (is : List Item). settled_by (record s { pending = is }) i.origin i.steps (Named n)) back in
    record {
      found = record { item = i; outcome = Named n; hit = by_name hits };
      fits = record {
        there = taken_first order s (Named n) m i rest first;
        free = kept_free order s (Named n) m i rest first;
        irreducible = kept_irreducible order s (Named n) m i rest first;
        outcome = fit;
        hits = subst (λ (x : Local). AreHits order (named_record x i.steps i.clause) x.known (by_name hits)) v (subst (λ (x : Record). AreHits order x u.known (by_name hits)) hr are);
      };
      effect = rw (eff, hk, hr, v) refl;
      sends = rw (sent, hr, v) refl;
    }

pub works : (order : Order) (p : Problem) (s : Local) (time : ℕ) (task : Task) (found : List Conclusion) (pending : List Item) (owed : List Task) (done : List Done) (n : ℕ) → MayWork order s task found
    → AddsItems task found s.pending pending
    → owed ≡ remove s.owed 0
    → done ≡ s.done ++ record { task = task; conclusions = n } ∷ []
    → n ≡ length found
    → Does order p s time (Work task) (record s { pending = pending; owed = owed; done = done; units = s.units + 1 }) []
works order p s time task found pending owed done n m adds ho hd hn = record {
  found = record { others = remove s.owed 0; found = found; items = adds.items };
  fits = (m.left, record { takes = record { place = 0; there = rw m.owed refl; rest = refl }; concludes = m.concludes; within = m.within; items = adds.are });
  effect = rw (ho, hd, hn, adds.added) refl;
  sends = refl;
}

-- w is the rest of the waiting letters
pub admits : (order : Order) (s next : Local) (time place : ℕ) (l : Letter) (b : Body) (w letters : List Letter) → slice_get s.waiting place ≡ Some l → w ≡ remove s.waiting place → l.body ≡ b
    → AdmitsBody order (record s { waiting = w }) time b next letters → (p : Problem) → MayAdmit order p s place → Does order p s time (Admit place) next letters
admits order s next time place l b w letters at rest is a p m =
    let same : m.letter ≡ l = (let e : Some m.letter ≡ Some l = sym m.there ∙ at in cc) in
    record {
      found = record { letter = l; forward = a.forward; hit = a.hit };
      fits = record {
        there = at;
        ready = subst (λ (x : Letter). is_ready s.known x ≡ true) same m.ready;
        fine = subst (λ (x : Letter). IsAcceptable order p s x) same m.fine;
        hits = subst (λ (x : Body). BodyHits order s x a.forward a.hit) (sym is) (hits b a.forward a.hit a.hits);
      };
      effect = subst (λ (x : Body). next ≡ admitted_body (unshelved s place) x a.forward a.hit) (sym is)
          (subst (λ (x : List Letter). next ≡ admitted_body (record s { waiting = x }) b a.forward a.hit) rest a.effect);
      sends = subst (λ (x : Body). letters ≡ body_letters s time x a.forward a.hit) (sym is) (a.sends ∙ same_letters b a.forward a.hit);
    }
  where
    hits : (x : Body) (f : Option Hit) (h : Known → Option How) → BodyHits order (record s { waiting = w }) x f h → BodyHits order s x f h
    hits (body.Kept r) f h y = y
    hits (body.Notice a b c) f h y = y
    hits (body.Token t) f h y = y

    same_letters : (x : Body) (f : Option Hit) (h : Known → Option How) → body_letters (record s { waiting = w }) time x f h ≡ body_letters s time x f h
    same_letters (body.Kept r) None h = refl
    same_letters (body.Kept r) (Some y) h = refl
    same_letters (body.Notice a b c) f h = refl
    same_letters (body.Token t) f h = refl

pub rejects : (order : Order) (p : Problem) (s next : Local) (time place : ℕ) → MayReject order p s place → next ≡ record s { waiting = remove s.waiting place } → Does order p s time (Reject place) next []
rejects order p s next time place m is = record {
  found = m.letter;
  fits = record { there = m.there; ready = m.ready; bad = m.bad };
  effect = is;
  sends = refl;
}

pub rewrites : (order : Order) (s : Local) (by : Name) (r : Reduct) (i j : Item) (rest : List Item) → MayRewrite order s by r → s.pending ≡ i ∷ rest → Reworks i by r j
    → (p : Problem) (time : ℕ) → Does order p s time (Rewrite 0) (record s { pending = j ∷ rest; units = s.units + 1 }) []
rewrites order s by r i j rest m first w p time =
    let same : m.item ≡ i = (let e : m.item ∷ m.others ≡ i ∷ rest = sym m.pending ∙ first in cc) in
    let put : j ∷ rest ≡ slice_set s.pending 0 j = ap (λ (is : List Item). slice_set is 0 j) (sym first) in
    record {
      found = record { item = i; equation = m.equation; side = r.s; literal = r.j; path = r.at; subst = r.subst; reduct = r.clause; steps = w.steps; clause = w.clause };
      fits = record {
        there = ap (λ (is : List Item). slice_get is 0) first;
        rewriter = subst (λ (x : Item). IsRewriter order s.known x.forced x.clause m.equation) same m.rewriter;
        reduces = subst (λ (x : Item). IsReduct order m.equation.entry.clause x.clause r) same m.reduces;
        within = m.within;
        tidy = subst (λ (n : Name). IsTidyStep (rewrite_step n r) r.clause w.steps w.clause) m.name w.tidy;
        left = m.left;
      };
      effect = rw (put, w.is) refl;
      sends = refl;
    }
