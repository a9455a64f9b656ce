-- Inputs are used in their share.
use Rattle.std.proofs.Common.{◌≡◌, ℕ, ◌+◌, true, false, cond, eqb, List, [], ◌∷◌, map, sym, subst, inl, inr}
use Rattle.std.specs.Prelude.{slice_get, Option, Some, None}
use Rattle.cd_steps.specs.declared.Step.TheVariants as step
use Rattle.cd_names.specs.declared.How.TheVariants as how
use Rattle.cd_ledger.specs.declared.items.Origin.TheVariants as origin
use Rattle.cd_ledger.specs.declared.letters.Body.TheVariants as body
use Rattle.cd_clause.specs.declared.Clause.{Clause}
use Rattle.cd_names.specs.declared.names.Name.{Name}
use Rattle.cd_steps.specs.declared.Step.{Step}
use Rattle.cd_names.specs.declared.How.{How}
use Rattle.cd_contract.specs.declared.held.Hit.{Hit}
use Rattle.cd_tasks.specs.declared.Task.{Task}
use Rattle.cd_tasks.specs.declared.Task.TheVariants.{Pair, Solo}
use Rattle.cd_ledger.specs.declared.items.Origin.{Origin}
use Rattle.cd_infer.specs.declared.Conclusion.{Conclusion}
use Rattle.cd_ledger.specs.declared.items.Item.{Item}
use Rattle.cd_ledger.specs.declared.records.Record.{Record}
use Rattle.cd_ledger.specs.declared.records.Status.{Status}
use Rattle.cd_ledger.specs.declared.records.Known.{Known}
use Rattle.cd_ledger.specs.declared.items.Outcome.{Outcome}
use Rattle.cd_ledger.specs.declared.items.Outcome.TheVariants.{Named, Subsumed, Trivial}
use Rattle.cd_ledger.specs.declared.letters.Body.{Body}
use Rattle.cd_names.specs.declared.ownership.Policy.{Policy}
use Rattle.cd_ledger.specs.declared.events.Act.{Act}
use Rattle.cd_ledger.specs.declared.events.Act.TheVariants.{Admit, Declare, End, Keep, Pass, Receive, Reject, Rewrite, Work}
use Rattle.cd_ledger.specs.declared.local.Local.{Local}
use Rattle.std.specs.List.{AllByRecursion as Each}
use Rattle.std.specs.List.{cons_option}
use Rattle.cd_read.specs.declared.problem.Problem.{Problem}
use Rattle.cd_ledger.specs.Records.{InShare, Registry, equations_of, is_input}
use Rattle.cd_machine.specs.Rules.{IsConclusionWithin}
use Rattle.cd_machine.specs.Right.{IsTidyStep, registry_of}
use Rattle.cd_machine.specs.Arrivals.{held, joined, new_record, next_name}
use Rattle.cd_machine.specs.Contraction.{hit_on, loss, lost, named_hit, rework_item, rework_of, reworks, strike_one}
use Rattle.cd_machine.specs.Acts.{AreTaskItems, Concludes, admitted_body, kept, resolution, resolve_one, resolved, reworked, taken, unshelved}
use Rattle.cd_machine.specs.Tokens.{passed}
use Rattle.cd_machine.specs.Events.{Found, acted}
use Rattle.cd_machine.specs.Fits.{BodyFine, Fits}
use Rattle.cd_laws.specs.Premises.{IsRightConclusion, Premises}
use Rattle.cd_laws.specs.Sound.{IsShared, IsTrue}
use Rattle.cd_laws.proofs.Lists.{Each_all, Each_append, Each_at, Each_gather, Each_map, Each_push, Each_remove, Each_set, Each_weaker, found}
use Rattle.cd_laws.proofs.Strikes.{resolve_entry, strike_entry}
use Rattle.cd_laws.proofs.Acts.{known_fit}
use Rattle.cd_kbo.specs.declared.order.Order.{Order}

no_input_share : (n me : ℕ) (s : Step) → is_input s ≡ false → InShare n me s
no_input_share n me (step.Input k) h = absurd (let f : true ≡ false = h in cc)
no_input_share n me (step.Copy m) h = tt
no_input_share n me (step.Resolve a i b j t) h = tt
no_input_share n me (step.Factor a i j t) h = tt
no_input_share n me (step.Refl a i t) h = tt
no_input_share n me (step.EqFac a i s j z t) h = tt
no_input_share n me (step.Para a i s b j path t) h = tt
no_input_share n me (step.Rewrite a s j path t) h = tt
no_input_share n me step.Tidy h = tt

pub tidy_shared : (n me : ℕ) (s : Step) (c : Clause) (steps : List Step) (d : Clause) → IsTidyStep s c steps d → InShare n me s → Each (InShare n me) steps
tidy_shared n me s c steps d (inl x) h = rw x.1 (h, tt)
tidy_shared n me s c steps d (inr x) h = rw x.2 (h, (tt, tt))

abbrev KnownShared : ℕ → Known → Type 0
KnownShared n e = Each (InShare n e.entry.name.peer) e.entry.steps

shared_map : (n : ℕ) (f : Known → Known) → ((e : Known) → (f e).entry ≡ e.entry) → (es : List Known) → Each (KnownShared n) es → Each (KnownShared n) (map f es)
shared_map n f same es h = Each_map (KnownShared n) f es (Each_weaker (KnownShared n) (λ e. KnownShared n (f e)) (λ e g. subst (λ (r : Record). Each (InShare n r.name.peer) r.steps) (sym (same e)) g) es h)

module _ (order : Order) (q : Premises order) (p : Problem) (policy : Policy) (n : ℕ) (R : Registry) where
  pub local_right : (s : Local) → IsTrue order p policy n R s → (t : Task) (found : List Conclusion) → Concludes order (registry_of s) t found → Each IsConclusionWithin found → Each (IsRightConclusion p (registry_of s)) found
  local_right s k (Solo a) found x h = q.solo_right p (registry_of s) a x.0 found x.1 (known_fit order q p policy n R s k a x.0 x.1) x.2 h
  local_right s k (Pair a b) found x h = q.pair_right p (registry_of s) a b x.0 x.1 found x.2 x.3 (known_fit order q p policy n R s k a x.0 x.2) (known_fit order q p policy n R s k b x.1 x.3) x.4 h

  rework_shared : (me : ℕ) (d : Name) (r : Record) (o : Option How) → Each (λ i. Each (InShare n me) i.steps) (cons_option (rework_of me d r o) [])
  rework_shared me d r None = tt
  rework_shared me d r (Some how.Subsumes) = tt
  rework_shared me d r (Some how.Reduces) = elim (eqb r.owner me) as (λ b. Each (λ i. Each (InShare n me) i.steps) (cons_option (cond b (Some (rework_item d r)) None) [])) [ true ↦ ((tt, tt), tt) | false ↦ tt ]

  shared_lost : (s : Local) (hit : Known → Option How) (d : Name) → IsShared n s → IsShared n (lost s hit d)
  shared_lost s hit d h = record {
    known = shared_map n (strike_one s.me hit d) (strike_entry s.me hit d) s.known h.known;
    pending = Each_append (λ i. Each (InShare n s.me) i.steps) s.pending (reworks s.me hit d s.known) h.pending
        (Each_gather (λ i. Each (InShare n s.me) i.steps) (λ e. rework_of s.me d e.entry (hit_on hit e)) s.known (Each_all _ (λ e. rework_shared s.me d e.entry (hit_on hit e)) s.known));
  }

  shared_joined : (s : Local) (r : Record) → Each (InShare n r.name.peer) r.steps → IsShared n s → IsShared n (joined s r)
  shared_joined s r g h = record { known = Each_push (KnownShared n) s.known (held r) h.known g; pending = h.pending }

  shared_taken : (s : Local) (place : ℕ) (i : Item) (o : Outcome) → IsShared n s → IsShared n (taken s place i o)
  shared_taken s place i o h = record {
    known = go i.origin;
    pending = Each_remove (λ i. Each (InShare n s.me) i.steps) s.pending place h.pending;
  }
    where
      st : Status
      st = resolution o (equations_of i.steps)

      go : (g : Origin) → Each (KnownShared n) (resolved g st s.known)
      go (origin.Input k) = h.known
      go (origin.Task t k) = h.known
      go (origin.Rework m) = shared_map n (resolve_one m st) (resolve_entry m st) s.known h.known

  shared_keep : (s : Local) (place : ℕ) (i : Item) (o : Outcome) (hit : Known → Option How) → slice_get s.pending place ≡ Some i → IsShared n s → IsShared n (kept s place i o hit)
  shared_keep s place i (Named m) hit there h =
      let steps = Each_at (λ i. Each (InShare n s.me) i.steps) s.pending place i there h.pending in
      let a = shared_joined (lost (taken s place i (Named m)) hit (next_name s)) (new_record s i) steps (shared_lost (taken s place i (Named m)) hit (next_name s) (shared_taken s place i (Named m) h)) in
      record { known = a.known; pending = a.pending }
  shared_keep s place i Trivial hit there h = shared_taken s place i Trivial h
  shared_keep s place i (Subsumed d) hit there h = shared_taken s place i (Subsumed d) h

  shared_body : (s : Local) (b : Body) (o : Option Hit) (hit : Known → Option How) (sender : ℕ) → s.peers ≡ n → BodyFine order p s sender b → IsShared n s → IsShared n (admitted_body s b o hit)
  shared_body s (body.Kept r) None hit sender peers fine h =
      let steps : Each (InShare n r.name.peer) r.steps = subst (λ (m : ℕ). Each (InShare n m) r.steps) (sym fine.issuer) (subst (λ (m : ℕ). Each (InShare m sender) r.steps) peers fine.share) in
      let a = shared_joined (lost s hit r.name) r steps (shared_lost s hit r.name h) in record { known = a.known; pending = a.pending }
  shared_body s (body.Kept r) (Some x) hit sender peers fine h =
      let steps : Each (InShare n r.name.peer) r.steps = subst (λ (m : ℕ). Each (InShare n m) r.steps) (sym fine.issuer) (subst (λ (m : ℕ). Each (InShare m sender) r.steps) peers fine.share) in
      record {
        known = Each_push (KnownShared n) s.known (record { entry = r; status = loss s.me x.by x.how r }) h.known steps;
        pending = Each_append (λ i. Each (InShare n s.me) i.steps) s.pending (cons_option (rework_of s.me x.by r (Some x.how)) []) h.pending (rework_shared s.me x.by r (Some x.how));
      }
  shared_body s (body.Notice a b w) o hit sender peers fine h = shared_lost s (named_hit a w) b h
  shared_body s (body.Token t) o hit sender peers fine h = record { known = h.known; pending = h.pending }

  items_shared : (S : Registry) (me : ℕ) (task : Task) (m : ℕ) (cs : List Conclusion) (items : List Item) → Each (IsRightConclusion p S) cs → AreTaskItems task m cs items → Each (λ i. Each (InShare n me) i.steps) items
  items_shared S me task m [] items right are = rw are tt
  items_shared S me task m (c ∷ cs) items right are =
      rw are.4 (tidy_shared n me c.step c.clause are.0.steps are.0.clause are.2.2 (no_input_share n me c.step right.0.4), items_shared S me task (m + 1) cs are.1 right.1 are.3)

  pub shared_acted : (s : Local) → s.peers ≡ n → IsTrue order p policy n R s → (a : Act) (f : Found a) → Fits order p s a f → IsShared n s → IsShared n (acted s a f)
  shared_acted s peers t (Rewrite k) f fits h = record {
    known = h.known;
    pending = Each_set (λ i. Each (InShare n s.me) i.steps) s.pending k (reworked f) h.pending
        (Each_append (InShare n s.me) f.item.steps f.steps (Each_at (λ i. Each (InShare n s.me) i.steps) s.pending k f.item fits.there h.pending)
        (tidy_shared n s.me (step.Rewrite f.equation.entry.name f.side f.literal f.path f.subst) f.reduct f.steps f.clause fits.tidy tt));
  }
  shared_acted s peers t (Keep k) f fits h = shared_keep s k f.item f.outcome f.hit fits.there h
  shared_acted s peers t (Receive l) f fits h = record { known = h.known; pending = h.pending }
  shared_acted s peers t (Admit k) f fits h = shared_body (unshelved s k) f.letter.body f.forward f.hit f.letter.sender peers (fine f.letter.body fits.fine.3) (record { known = h.known; pending = h.pending })
    where
      fine : (b : Body) → BodyFine order p s f.letter.sender b → BodyFine order p (unshelved s k) f.letter.sender b
      fine (body.Kept r) x = record { unknown = x.unknown; issuer = x.issuer; owner = x.owner; shape = x.shape; behind_copy = x.behind_copy; cites = x.cites; share = x.share; leads = x.leads; tidy = x.tidy; fit = x.fit; no_tautology = x.no_tautology }
      fine (body.Notice a b w) x = x
      fine (body.Token y) x = x
  shared_acted s peers t (Reject k) f fits h = record { known = h.known; pending = h.pending }
  shared_acted s peers t (Work task) f fits h = record {
    known = h.known;
    pending = Each_append (λ i. Each (InShare n s.me) i.steps) s.pending f.items h.pending (items_shared (registry_of s) s.me task 0 f.found f.items (local_right s t task f.found fits.1.concludes fits.1.within) fits.1.items);
  }
  shared_acted s peers t Pass f fits h = elim (eqb s.peers 1) as (λ b. IsShared n (cond b (record s { token = Some (passed s.peers s.count f) }) (record s { token = None })))
      [ true ↦ record { known = h.known; pending = h.pending } | false ↦ record { known = h.known; pending = h.pending } ]
  shared_acted s peers t Declare f fits h = record { known = h.known; pending = h.pending }
  shared_acted s peers t (End v) f fits h = record { known = h.known; pending = h.pending }
