-- An event keeps the truth of its peer.
use Rattle.std.proofs.Common.{◌≡◌, ℕ, zero, suc, ◌^◌, ◌<◌, ◌≤◌, ◌≢◌, Bool, true, false, ◌&&◌, not, cond, eqb, List, [], ◌∷◌, ◌++◌, arith, refl, ap, sym, ◌∙◌, subst, inl, inr}
use Rattle.std.specs.Prelude.{slice_get, Option, Some, None}
use Rattle.std.specs.List.{flat_map}
use Rattle.std.proofs.lemmas.Bool.{eqb-true}
use Rattle.std.proofs.lemmas.Bool.Decides.{nat_tests}
use Rattle.cd_names.specs.declared.How.TheVariants as how
use Rattle.cd_ledger.specs.declared.items.Origin.TheVariants as origin
use Rattle.cd_clause.specs.declared.Clause.{Clause}
use Rattle.cd_names.specs.declared.names.Name.{Name}
use Rattle.cd_steps.specs.declared.Step.{Step}
use Rattle.cd_names.specs.declared.How.{How}
use Rattle.cd_tasks.specs.declared.Task.{Task}
use Rattle.cd_tasks.specs.declared.Task.TheVariants.{Pair}
use Rattle.cd_ledger.specs.declared.items.Origin.{Origin}
use Rattle.cd_ledger.specs.declared.items.Item.{Item}
use Rattle.cd_ledger.specs.declared.records.Record.{Record}
use Rattle.cd_ledger.specs.declared.records.Status.{Status}
use Rattle.cd_ledger.specs.declared.records.Status.TheVariants.{Dropped, Held, Rework, Told}
use Rattle.cd_ledger.specs.declared.records.Known.{Known}
use Rattle.cd_ledger.specs.declared.items.Outcome.{Outcome}
use Rattle.cd_ledger.specs.declared.items.Outcome.TheVariants.{Named, Subsumed, Trivial}
use Rattle.cd_names.specs.declared.ownership.Policy.{Policy}
use Rattle.cd_ledger.specs.declared.local.Local.{Local}
use Rattle.std.specs.List.{AllByRecursion as Each}
use Rattle.std.specs.Prelude.{filter_map}
use Rattle.std.specs.List.{cons_option}
use Rattle.cd_read.specs.declared.problem.Problem.{Problem}
use Rattle.cd_ledger.specs.Records.{GoesOnBehindCopy, IsShape, Registry, begins, equations_of, is_of, owner_by, recorded, used_in}
use Rattle.cd_machine.specs.Rules.{Falls, IsFit, IsTautology, IsTidied}
use Rattle.cd_machine.specs.Right.{IsReplayed, IsTidyStep, Lead}
use Rattle.cd_machine.specs.Arrivals.{held, joined, new_record, next_name, shelved, tasks_of}
use Rattle.cd_ledger.specs.Statuses.{is_held, status_reworks}
use Rattle.cd_machine.specs.Contraction.{hit_on, is_struck, loss, lost, lost_home, notice, notice_of, notices, rework_item, rework_of, reworks, strike_one, struck, struck_by}
use Rattle.cd_tasks.specs.Owing.{touches}
use Rattle.cd_laws.proofs.Gathered.{first_of, gathered_tasks, own_tasks, same_tasks, second_of}
use Rattle.cd_machine.specs.Acts.{broadcast, kept_letter, resolution, settlement, taken}
use Rattle.cd_machine.specs.Hits.{AreHits, IsBackHit, IsSubsumer}
use Rattle.cd_machine.specs.Fits.{OutcomeFits}
use Rattle.cd_laws.specs.Premises.{Premises}
use Rattle.cd_machine.specs.Spread.{Genuine}
use Rattle.cd_laws.specs.Sound.{Beaten, BeginsWith, BehindCopy, EndFalls, ForcedFits, IsMine, IsRight, IsTrue, ItemFalls, OutcomeBelow, OutcomeHolds, TrueItem, TrueKnown, TrueLetter, TrueSettled, TrueStatus}
use Rattle.cd_laws.proofs.Lists.{Each_all, Each_append, Each_at, Each_both, Each_filter, Each_first, Each_gather, Each_push, Each_remove, Each_weaker}
use Rattle.cd_laws.proofs.Steps.{name_eq_true}
use Rattle.cd_laws.proofs.Strikes.{resolve_each_case, resolved_each}
use Rattle.cd_kbo.specs.declared.order.Order.{Order}

pub append_begins : (s : Step) (xs ys : List Step) → BeginsWith s xs → BeginsWith s (xs ++ ys)
append_begins s [] ys h = absurd h
append_begins s (x ∷ xs) ys h = h

pub flat_append : (xs ys : List Step) (P : Name → Type 0) → Each P (flat_map used_in xs) → Each P (flat_map used_in ys) → Each P (flat_map used_in (xs ++ ys))
flat_append [] ys P h g = g
flat_append (x ∷ xs) ys P h g = go (used_in x) (flat_map used_in xs) h (λ k. flat_append xs ys P k g)
  where
    go : (a b : List Name) → Each P (a ++ b) → (Each P b → Each P (flat_map used_in (xs ++ ys))) → Each P (a ++ flat_map used_in (xs ++ ys))
    go [] b h r = r h
    go (m ∷ a) b h r = (h.0, go a b h.1 r)

pub shape_append : (xs ys : List Step) → IsShape xs → Each (λ t. begins t ≡ false) ys → IsShape (xs ++ ys)
shape_append [] ys h g = absurd h
shape_append (x ∷ xs) ys h g = (h.0, Each_append (λ t. begins t ≡ false) xs ys h.1 g)

pub behind_append : (xs : List Step) (y : Step) (ys : List Step) → IsShape xs → GoesOnBehindCopy (xs ++ y ∷ ys)
behind_append [] y ys h = absurd h
behind_append (x ∷ []) y ys h = tt
behind_append (x ∷ z ∷ xs) y ys h = tt

rework_owner : (order : Order) → (R : Registry) (me : ℕ) (r : Record) (st : Status) → status_reworks st ≡ true → TrueStatus order R me r st → r.owner ≡ me
rework_owner order R me r Held h x = absurd (let g : false ≡ true = h in cc)
rework_owner order R me r (Rework d) h x = x.0
rework_owner order R me r (Dropped why) h x = absurd (let g : false ≡ true = h in cc)
rework_owner order R me r (Told d) h x = absurd (let g : false ≡ true = h in cc)

pub eqb_false : (a b : ℕ) → eqb a b ≡ false → a ≢ b
eqb_false a b h e = let f : ⊥ = grind (arith, nat_tests, h, e) in f

pub recorded_true : (P : Known → Type 0) (m : Name) (es : List Known) (r : Record) → Each P es → recorded m es ≡ Some r → (e : Known) × P e × (e.entry ≡ r) × (r.name ≡ m)
recorded_true P m [] r h g = absurd cc
recorded_true P m (e ∷ es) r h g = go (is_of m e) refl g (λ k. recorded_true P m es r h.1 k)
  where
    go : (b : Bool) → is_of m e ≡ b → cond b (Some e.entry) (recorded m es) ≡ Some r → (recorded m es ≡ Some r → (x : Known) × P x × (x.entry ≡ r) × (r.name ≡ m)) → (x : Known) × P x × (x.entry ≡ r) × (r.name ≡ m)
    go true x g k = let same : e.entry ≡ r = cc in (e, h.0, same, ap (λ (c : Record). c.name) (sym same) ∙ name_eq_true e.entry.name m x)
    go false x g k = k g

module _ (order : Order) (q : Premises order) (p : Problem) (policy : Policy) (n : ℕ) (R : Registry) where
  -- the registry of a true peer is a part of R
  pub local_registry : (me : ℕ) (es : List Known) → Each (TrueKnown order p policy n R me) es → (m : Name) (r : Record) → recorded m es ≡ Some r → R m ≡ Some r
  local_registry me es h m r g =
      let x = recorded_true (TrueKnown order p policy n R me) m es r h g in
      ap R (sym x.3) ∙ ap (λ (c : Record). R c.name) (sym x.2) ∙ x.1.genuine ∙ ap Some x.2

  pub lead_append : (current : Option Clause) (xs ys : List Step) (c d : Clause) → Lead p R current xs c → Lead p R (Some c) ys d → Lead p R current (xs ++ ys) d
  lead_append current [] ys c d h g = subst (λ (o : Option Clause). Lead p R o ys d) (sym h) g
  lead_append current (x ∷ xs) ys c d h g = (h.0, h.1, lead_append (Some h.0) xs ys c d h.2 g)

  -- a step with Tidy behind it
  pub tidy_leads : (current : Option Clause) (s : Step) (c : Clause) (steps : List Step) (d : Clause) → IsFit p c → IsReplayed p R current s c → IsTidyStep s c steps d → Lead p R current steps d
  tidy_leads current s c steps d ft r (inl x) = rw (x.1, x.2) (c, r, refl)
  tidy_leads current s c steps d ft r (inr x) = rw x.2 (c, r, (d, q.replay_tidy p R c d ft x.1, refl))

  pub tidy_fits : (s : Step) (c : Clause) (steps : List Step) (d : Clause) → IsFit p c → IsTidyStep s c steps d → IsFit p d
  tidy_fits s c steps d ft (inl x) = rw x.2 ft
  tidy_fits s c steps d ft (inr x) = q.tidy_fit p c d ft x.1

  pub tidy_tidied : (s : Step) (c : Clause) (steps : List Step) (d : Clause) → IsTidyStep s c steps d → IsTidied c d × IsTidied d d
  tidy_tidied s c steps d (inl x) = rw x.2 (x.0, x.0)
  tidy_tidied s c steps d (inr x) = (x.1, q.tidied_tidy c d x.1)

  true_loss : (me : ℕ) (d : Name) (h : How) (r : Record) → Beaten order R r d h → TrueStatus order R me r (loss me d h r)
  true_loss me d h r b = go (eqb r.owner me) refl h b
    where
      go : (c : Bool) → eqb r.owner me ≡ c → (h : How) → Beaten order R r d h → TrueStatus order R me r (cond c (lost_home h d) (Told d))
      go true e how.Subsumes b = (eqb-true _ _ e, b)
      go true e how.Reduces b = (eqb-true _ _ e, b)
      go false e h b = eqb_false r.owner me e

  true_rework : (me : ℕ) (d : Name) (r : Record) → r.owner ≡ me → Beaten order R r d how.Reduces → Genuine R r → IsRight p policy n R r → TrueItem order p R me (rework_item d r)
  true_rework me d r own b g right = record {
    from_origin = record { loser = r; recorded = g; owner = own; begins = refl; below = tt };
    falls = (r, g, (refl, b));
    leads = (r.clause, q.replay_copy p R r.name r g right.fit, refl);
    shape = (refl, tt);
    behind_copy = tt;
    tidy = right.tidy;
    fit = right.fit;
  }

  pub true_rework_of : (me : ℕ) (d : Name) (r : Record) (h : How) → Beaten order R r d h → Genuine R r → IsRight p policy n R r → Each (TrueItem order p R me) (cons_option (rework_of me d r (Some h)) [])
  true_rework_of me d r how.Subsumes b g right = tt
  true_rework_of me d r how.Reduces b g right = go (eqb r.owner me) refl
    where
      go : (c : Bool) → eqb r.owner me ≡ c → Each (TrueItem order p R me) (cons_option (cond c (Some (rework_item d r)) None) [])
      go true e = (true_rework me d r (eqb-true _ _ e) b g right, tt)
      go false e = tt

  -- what a strike needs
  abbrev pub HitsTrue : (Known → Option How) → Name → Known → Type 0
  HitsTrue hit d e = (h : How) → hit_on hit e ≡ Some h → Beaten order R e.entry d h

  true_strike : (me : ℕ) (hit : Known → Option How) (d : Name) (e : Known) → TrueKnown order p policy n R me e → HitsTrue hit d e → TrueKnown order p policy n R me (strike_one me hit d e)
  true_strike me hit d e t f = go (hit_on hit e) f
    where
      go : (o : Option How) → ((h : How) → o ≡ Some h → Beaten order R e.entry d h) → TrueKnown order p policy n R me (struck_by me d e o)
      go None f = t
      go (Some h) f = record { genuine = t.genuine; status = true_loss me d h e.entry (f h refl); right = t.right }

  true_struck : (me : ℕ) (hit : Known → Option How) (d : Name) (es : List Known) → Each (TrueKnown order p policy n R me) es → Each (HitsTrue hit d) es → Each (TrueKnown order p policy n R me) (struck me hit d es)
  true_struck me hit d [] t f = tt
  true_struck me hit d (e ∷ es) t f = (true_strike me hit d e t.0 f.0, true_struck me hit d es t.1 f.1)

  true_reworks : (me : ℕ) (hit : Known → Option How) (d : Name) (es : List Known) → Each (TrueKnown order p policy n R me) es → Each (HitsTrue hit d) es → Each (TrueItem order p R me) (reworks me hit d es)
  true_reworks me hit d [] t f = tt
  true_reworks me hit d (e ∷ es) t f = go (hit_on hit e) f.0 (true_reworks me hit d es t.1 f.1)
    where
      one : (o : Option Item) → Each (TrueItem order p R me) (cons_option o []) → Each (TrueItem order p R me) (reworks me hit d es) → Each (TrueItem order p R me) (cons_option o (reworks me hit d es))
      one None a r = r
      one (Some i) a r = (a.0, r)

      go : (o : Option How) → ((h : How) → o ≡ Some h → Beaten order R e.entry d h) → Each (TrueItem order p R me) (reworks me hit d es) → Each (TrueItem order p R me) (cons_option (rework_of me d e.entry o) (reworks me hit d es))
      go None f r = r
      go (Some h) f r = one (rework_of me d e.entry (Some h)) (true_rework_of me d e.entry h (f h refl) t.0.genuine t.0.right) r

  pub true_lost : (s : Local) (hit : Known → Option How) (d : Name) → IsTrue order p policy n R s → Each (HitsTrue hit d) s.known → IsTrue order p policy n R (lost s hit d)
  true_lost s hit d t f = record {
    known = true_struck s.me hit d s.known t.known f;
    waiting = t.waiting;
    mine = t.mine;
    pending = Each_append (TrueItem order p R s.me) s.pending (reworks s.me hit d s.known) t.pending (true_reworks s.me hit d s.known t.known f);
    settled = t.settled;
    done = t.done;
    token = t.token;
    owed = Each_filter (IsMine R s.me) (λ x. not (touches (is_struck hit s.known) x)) s.owed t.owed;
  }

  -- the tasks of a new record are this peer's
  mine_new : (me : ℕ) (r : Record) (es : List Known) → Genuine R r → Each (TrueKnown order p policy n R me) es → Each (IsMine R me) (gathered_tasks me r es)
  mine_new me r es g t = Each_append (IsMine R me) (cond (eqb r.owner me) (own_tasks r.name es) []) (filter_map (first_of me r.name) es) (own (eqb r.owner me) refl)
      (Each_gather (IsMine R me) (first_of me r.name) es (Each_weaker (TrueKnown order p policy n R me) (λ e. Each (IsMine R me) (cons_option (first_of me r.name e) [])) first es t))
    where
      first : (e : Known) → TrueKnown order p policy n R me e → Each (IsMine R me) (cons_option (first_of me r.name e) [])
      first e x = go (is_held e) (eqb e.entry.owner me) refl
        where
          go : (a b : Bool) → eqb e.entry.owner me ≡ b → Each (IsMine R me) (cons_option (cond (a && b) (Some (Pair r.name e.entry.name)) None) [])
          go true true y = ((e.entry, x.genuine, eqb-true _ _ y), tt)
          go true false y = tt
          go false b y = tt

      own : (b : Bool) → eqb r.owner me ≡ b → Each (IsMine R me) (cond b (own_tasks r.name es) [])
      own true y = (
        (r, g, eqb-true _ _ y),
        Each_push (IsMine R me) (filter_map (second_of r.name) es) (Pair r.name r.name)
            (Each_gather (IsMine R me) (second_of r.name) es (Each_all (λ e. Each (IsMine R me) (cons_option (second_of r.name e) [])) (λ e. second e (is_held e)) es)) (r, g, eqb-true _ _ y),
      )
        where
          second : (e : Known) (a : Bool) → Each (IsMine R me) (cons_option (cond a (Some (Pair e.entry.name r.name)) None) [])
          second e true = ((r, g, eqb-true _ _ y), tt)
          second e false = tt
      own false y = tt

  pub true_joined : (s : Local) (r : Record) → Genuine R r → IsRight p policy n R r → IsTrue order p policy n R s → IsTrue order p policy n R (joined s r)
  true_joined s r g right t = record {
    known = Each_push (TrueKnown order p policy n R s.me) s.known (held r) t.known (record { genuine = g; status = tt; right = right });
    waiting = t.waiting;
    mine = t.mine;
    pending = t.pending;
    settled = t.settled;
    done = t.done;
    token = t.token;
    owed = Each_append (IsMine R s.me) s.owed (tasks_of s.me r s.known) t.owed (subst (λ (ts : List Task). Each (IsMine R s.me) ts) (sym (same_tasks s.me r s.known)) (mine_new s.me r s.known g t.known));
  }

  pub true_shelved : (s : Local) (r : Record) (d : Name) (h : How) → Genuine R r → IsRight p policy n R r → Beaten order R r d h → IsTrue order p policy n R s → IsTrue order p policy n R (shelved s r d h)
  true_shelved s r d h g right b t = record {
    known = Each_push (TrueKnown order p policy n R s.me) s.known (record { entry = r; status = loss s.me d h r }) t.known (record { genuine = g; status = true_loss s.me d h r b; right = right });
    waiting = t.waiting;
    mine = t.mine;
    pending = Each_append (TrueItem order p R s.me) s.pending (cons_option (rework_of s.me d r (Some h)) []) t.pending (true_rework_of s.me d r h b g right);
    settled = t.settled;
    done = t.done;
    token = t.token;
    owed = t.owed;
  }

  -- an item's end
  true_resolution : (me : ℕ) (r : Record) (o : Outcome) (using : List Name) → r.owner ≡ me → TrueStatus order R me r (resolution o using)
  true_resolution me r (Named m) using h = (h, tt)
  true_resolution me r Trivial using h = (h, tt)
  true_resolution me r (Subsumed d) using h = (h, tt)

  -- the registry has the record that is made
  abbrev pub Registers : Local → Item → Outcome → Type 0
  Registers s i (Named m) = R (next_name s) ≡ Some (new_record s i)
  Registers s i Trivial = Unit {0}
  Registers s i (Subsumed d) = Unit {0}

  true_outcome : (s : Local) (i : Item) (o : Outcome) → OutcomeFits s i o → Registers s i o → Each (TrueKnown order p policy n R s.me) s.known → OutcomeHolds R i.clause o
  true_outcome s i (Named m) fits reg t = (new_record s i, ap R fits.2 ∙ reg, refl)
  true_outcome s i Trivial fits reg t = fits
  true_outcome s i (Subsumed d) fits reg t =
      let e = fits.1.0 in
      let f = Each_first (IsSubsumer i.clause) (TrueKnown order p policy n R s.me) s.known e fits.1.1 t in
      (e.entry, ap R fits.1.2 ∙ f.1.genuine, f.0.1)

  outcome_below : (s : Local) (i : Item) (o : Outcome) → OutcomeFits s i o → Registers s i o → Each (TrueKnown order p policy n R s.me) s.known → (r : Record) → Falls order i.clause r.clause → OutcomeBelow order R r o
  outcome_below s i (Named m) fits reg t r falls = (new_record s i, ap R fits.2 ∙ reg, falls (Some (next_name s)) (Some r.name))
  outcome_below s i Trivial fits reg t r falls = tt
  outcome_below s i (Subsumed d) fits reg t r falls =
      let e = fits.1.0 in
      let f = Each_first (IsSubsumer i.clause) (TrueKnown order p policy n R s.me) s.known e fits.1.1 t in
      (e.entry, ap R fits.1.2 ∙ f.1.genuine, q.key_trans e.entry.clause i.clause r.clause (Some e.entry.name) None (Some r.name) (q.subsumer_below e.entry.clause i.clause e.entry.name f.0.1) (falls None (Some r.name)))

  true_end : (s : Local) (i : Item) (o : Outcome) → OutcomeFits s i o → Registers s i o → Each (TrueKnown order p policy n R s.me) s.known → i.forced ≡ None → (g : Origin) → ItemFalls order R g i.forced i.clause → EndFalls order R g o
  true_end s i o fits reg t free (origin.Input k) x = tt
  true_end s i o fits reg t free (origin.Task u k) x = tt
  true_end s i o fits reg t free (origin.Rework m) x = (x.0, x.1, outcome_below s i o fits reg t x.0 (subst (ForcedFits order R x.0 i.clause) free x.2))

  pub true_taken : (s : Local) (place : ℕ) (i : Item) (o : Outcome) → slice_get s.pending place ≡ Some i → i.forced ≡ None → OutcomeFits s i o → Registers s i o → IsTrue order p policy n R s → IsTrue order p policy n R (taken s place i o)
  true_taken s place i o there free fits reg t =
      let x = Each_at (TrueItem order p R s.me) s.pending place i there t.pending in
      let st = resolution o (equations_of i.steps) in
      record {
        known = resolved_each (TrueKnown order p policy n R s.me) i.origin st
            (λ m e k. resolve_each_case (TrueKnown order p policy n R s.me) m st e k (λ z. record { genuine = k.genuine; status = true_resolution s.me e.entry o (equations_of i.steps) (rework_owner order R s.me e.entry e.status z k.status); right = k.right }))
            s.known t.known;
        waiting = t.waiting;
        mine = t.mine;
        pending = Each_remove (TrueItem order p R s.me) s.pending place t.pending;
        settled = Each_push (TrueSettled order p R s.me) s.settled (settlement i o) t.settled
            (record { clause = i.clause; from_origin = x.from_origin; leads = x.leads; shape = x.shape; outcome = true_outcome s i o fits reg t.known; falls = true_end s i o fits reg t.known free i.origin x.falls });
        done = t.done;
        token = t.token;
        owed = t.owed;
      }

  -- the record of an item
  pub right_new : (s : Local) (i : Item) → s.peers ≡ n → s.policy ≡ policy → owner_by policy n (next_name s) i.clause < n → TrueItem order p R s.me i → i.forced ≡ None → ¬ IsTautology i.clause → IsRight p policy n R (new_record s i)
  right_new s i peers pol in' x free nt = record {
    owner = rw (peers, pol) refl;
    in_range = rw (peers, pol) in';
    shape = x.shape;
    behind_copy = subst (λ (f : Option Name). BehindCopy f i.steps) free x.behind_copy;
    cites = refl;
    leads = x.leads;
    tidy = x.tidy;
    fit = x.fit;
    no_tautology = nt;
  }

  pub hits_true : (r : Record) (hit : Known → Option How) (es : List Known) → Genuine R r → AreHits order r es hit → Each (HitsTrue hit r.name) es
  hits_true r hit es g h = Each_weaker (λ e. IsBackHit order r e (hit_on hit e)) (HitsTrue hit r.name) (λ e x w z. one e w (subst (IsBackHit order r e) z x)) es h
    where
      one : (e : Known) (w : How) → IsBackHit order r e (Some w) → Beaten order R e.entry r.name w
      one e how.Subsumes x = record { winner = r; recorded = g; below = x.0; hits = x.1 }
      one e how.Reduces x = record { winner = r; recorded = g; below = x.0; hits = x.2 }

  -- letters
  pub true_notice : (me time : ℕ) (d : Name) (r : Record) (o : Option How) → me < n → r.owner < n → time < 2 ^ 63 → Genuine R r → ((h : How) → o ≡ Some h → Beaten order R r d h) → Each (TrueLetter order p policy n R) (cons_option (notice_of me time d r o) [])
  true_notice me time d r None l lo tm g f = tt
  true_notice me time d r (Some h) l lo tm g f = go (eqb r.owner me) refl
    where
      go : (c : Bool) → eqb r.owner me ≡ c → Each (TrueLetter order p policy n R) (cons_option (cond c None (Some (notice me time d h r))) [])
      go true e = tt
      go false e = (record { time = tm; other = (λ x. eqb_false r.owner me e (sym x)); sender = l; to_range = lo; says = record { loser = r; recorded = g; lost = f h refl; owner = refl } }, tt)

  pub true_notices : (me time : ℕ) (hit : Known → Option How) (d : Name) (es : List Known) → me < n → time < 2 ^ 63 → Each (TrueKnown order p policy n R me) es → Each (HitsTrue hit d) es → Each (TrueLetter order p policy n R) (notices me time hit d es)
  true_notices me time hit d es l tm t f =
      Each_gather (TrueLetter order p policy n R) (λ e. notice_of me time d e.entry (hit_on hit e)) es
      (Each_weaker (λ e. TrueKnown order p policy n R me e × HitsTrue hit d e) (λ e. Each (TrueLetter order p policy n R) (cons_option (notice_of me time d e.entry (hit_on hit e)) []))
      (λ e x. true_notice me time d e.entry (hit_on hit e) l x.0.right.in_range tm x.0.genuine x.1) es (Each_both (TrueKnown order p policy n R me) (HitsTrue hit d) es t f))

  pub true_broadcast : (me time : ℕ) (r : Record) → me < n → time < 2 ^ 63 → Genuine R r → r.name.peer ≡ me → IsRight p policy n R r → (m : ℕ) → m ≤ n → Each (TrueLetter order p policy n R) (broadcast me time r m)
  true_broadcast me time r l tm g own right zero le = tt
  true_broadcast me time r l tm g own right (suc m) le = Each_append (TrueLetter order p policy n R) (broadcast me time r m) (cond (eqb m me) [] (kept_letter me time r m ∷ [])) (true_broadcast me time r l tm g own right m (omega (arith, le))) (go (eqb m me) refl)
    where
      go : (c : Bool) → eqb m me ≡ c → Each (TrueLetter order p policy n R) (cond c [] (kept_letter me time r m ∷ []))
      go true e = tt
      go false e = (record { time = tm; other = (λ x. eqb_false m me e (sym x)); sender = l; to_range = omega (arith, le); says = (g, own, right) }, tt)
