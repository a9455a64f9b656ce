-- What the parts of an event keep, each event keeps.
use Rattle.std.proofs.Common.{◌≡◌, ℕ, ◌+◌, true, false, cond, eqb, List, [], ◌∷◌, ◌++◌, refl, sym, ◌∙◌}
use Rattle.std.specs.Prelude.{slice_get, slice_set, remove, Option, Some, None}
use Rattle.cd_names.specs.declared.How.TheVariants as how
use Rattle.cd_ledger.specs.declared.letters.Body.TheVariants as body
use Rattle.cd_names.specs.declared.names.Name.{Name}
use Rattle.cd_names.specs.declared.How.{How}
use Rattle.cd_contract.specs.declared.held.Hit.{Hit}
use Rattle.cd_tasks.specs.declared.Task.{Task}
use Rattle.cd_ledger.specs.declared.items.Item.{Item}
use Rattle.cd_ledger.specs.declared.records.Record.{Record}
use Rattle.cd_ledger.specs.declared.records.Known.{Known}
use Rattle.cd_ledger.specs.declared.items.Outcome.{Outcome}
use Rattle.cd_ledger.specs.declared.items.Outcome.TheVariants.{Named, Subsumed, Trivial}
use Rattle.cd_names.specs.declared.waves.Count.{Count}
use Rattle.cd_names.specs.declared.waves.Token.{Token}
use Rattle.cd_ledger.specs.declared.letters.Body.{Body}
use Rattle.cd_ledger.specs.declared.letters.Letter.{Letter}
use Rattle.cd_ledger.specs.declared.events.Verdict.{Verdict}
use Rattle.cd_ledger.specs.declared.events.Verdict.TheVariants.{Saturated}
use Rattle.cd_ledger.specs.declared.events.Act.{Act}
use Rattle.cd_ledger.specs.declared.events.Act.TheVariants.{Admit, Declare, End, Keep, Pass, Receive, Reject, Rewrite, Work}
use Rattle.cd_ledger.specs.declared.events.Event.{Event}
use Rattle.cd_ledger.specs.declared.local.Local.{Local}
use Rattle.std.specs.List.{AllByRecursion as Each}
use Rattle.cd_read.specs.declared.problem.Problem.{Problem}
use Rattle.cd_machine.specs.Fits.{BodyFine, BodyHits, Fits, KeepHits, OutcomeFits}
use Rattle.cd_ledger.specs.Records.{equations_of, is_of}
use Rattle.cd_machine.specs.Arrivals.{arrived, held, joined, new_record, next_name, refuted_by, shelved}
use Rattle.cd_machine.specs.Contraction.{hit_on, lost, named_hit, strike_one, struck, struck_by}
use Rattle.cd_machine.specs.Acts.{IsYield, Yield, admitted_body, kept, resolution, reworked, taken, unshelved, worked}
use Rattle.cd_machine.specs.Tokens.{passed}
use Rattle.cd_machine.specs.Events.{Found, acted, after}
use Rattle.cd_machine.specs.Hits.{AreHits, IsBackHit, IsBeater, IsReducer, IsSubsumer}
use Rattle.cd_laws.specs.Premises.{Premises}
use Rattle.cd_machine.specs.Spread.{known_times}
use Rattle.cd_laws.specs.Sound.{IsCalm}
use Rattle.cd_laws.proofs.Lists.{Each_both, Each_weaker, none_of_tally}
use Rattle.cd_laws.proofs.Strikes.{loss_held, resolve_each_case, resolved_each, resolved_of, struck_tally}
use Rattle.cd_kbo.specs.declared.order.Order.{Order}

-- a new record hits no held entry, and none hits it
abbrev pub CalmNew : Order → Record → List Known → Type 0
CalmNew order r es = Each (λ x. IsCalm order (held r) x × IsCalm order x (held r)) es

pub record Keeps (order : Order) (P : Local → Type 0) : Type 0 where
  pub frame : (s : Local) (w : List Letter) (t : Option Token) (c : Count) (n u k : ℕ) (v : Option Verdict) (j : List Event) → P s
      → P (record s { waiting = w; token = t; count = c; next_seq = n; units = u; clock = k; verdict = v; journal = j })
  pub taken : (s : Local) (place : ℕ) (i : Item) (o : Outcome) → slice_get s.pending place ≡ Some i → P s → P (taken s place i o)
  pub lost : (s : Local) (hit : Known → Option How) (d : Name) → P s → P (lost s hit d)
  pub joined : (s : Local) (r : Record) → known_times r.name s ≡ 0 → CalmNew order r s.known → P s → P (joined s r)
  pub shelved : (s : Local) (r : Record) (d : Name) (h : How) → known_times r.name s ≡ 0 → P s → P (shelved s r d h)
  pub replaced : (s : Local) (place : ℕ) (i j : Item) → slice_get s.pending place ≡ Some i → j.origin ≡ i.origin → P s → P (record s { pending = slice_set s.pending place j })
  pub worked : (s : Local) (task : Task) (y : Yield) → IsYield order s task y → P s → P (worked s task y)

calm_old : (order : Order) → (me : ℕ) (hit : Known → Option How) (d : Name) (r : Record) (e : Known) → IsCalm order e (held r) → IsCalm order (strike_one me hit d e) (held r)
calm_old order me hit d r e h = go (hit_on hit e)
  where
    go : (o : Option How) → IsCalm order (struck_by me d e o) (held r)
    go None = h
    go (Some w) = λ x y b. absurd (let z = loss_held me d w e.entry in let no' : false ≡ true = sym z ∙ x in cc)

calm_new : (order : Order) → (me : ℕ) (hit : Known → Option How) (d : Name) (r : Record) (e : Known) → IsBackHit order r e (hit_on hit e) → IsCalm order (held r) (strike_one me hit d e)
calm_new order me hit d r e h = go (hit_on hit e) h
  where
    go : (o : Option How) → IsBackHit order r e o → IsCalm order (held r) (struck_by me d e o)
    go None g = λ x y b. g y b
    go (Some w) g = λ x y b. absurd (let z = loss_held me d w e.entry in let no' : false ≡ true = sym z ∙ y in cc)

calm_lost : (order : Order) → (me : ℕ) (hit : Known → Option How) (d : Name) (r : Record) (es : List Known) → Each (λ e. IsCalm order e (held r)) es → AreHits order r es hit → CalmNew order r (struck me hit d es)
calm_lost order me hit d r [] h g = tt
calm_lost order me hit d r (e ∷ es) h g = ((calm_new order me hit d r e g.0, calm_old order me hit d r e h.0), calm_lost order me hit d r es h.1 g.1)

module _ (order : Order) (q : Premises order) where
  -- an item that no held entry subsumes or reduces
  unbeaten_item : (r : Record) (e : Known) → (¬ IsSubsumer r.clause e) × (¬ IsReducer order r.clause e) → IsCalm order e (held r)
  unbeaten_item r e h x y below =
      ((λ z. h.0 (x, z)), (λ z. h.1 (x, q.key_trans e.entry.clause r.clause r.clause (Some e.entry.name) (Some r.name) None below (q.key_unnamed r.clause r.name), z)))

  calm_keep : (s : Local) (place : ℕ) (i : Item) (n : Name) → Each (λ e. ¬ IsSubsumer i.clause e) s.known → Each (λ e. ¬ IsReducer order i.clause e) s.known
      → Each (λ e. IsCalm order e (held (new_record s i))) (taken s place i (Named n)).known
  calm_keep s place i n h g =
      resolved_each (λ e. IsCalm order e (held (new_record s i))) i.origin (resolution (Named n) (equations_of i.steps))
      (λ m e c. resolve_each_case (λ x. IsCalm order x (held (new_record s i))) m (resolution (Named n) (equations_of i.steps)) e c (λ x y z b. absurd (let no' : false ≡ true = y in cc)))
      s.known
      (Each_weaker (λ e. (¬ IsSubsumer i.clause e) × (¬ IsReducer order i.clause e)) (λ e. IsCalm order e (held (new_record s i))) (unbeaten_item (new_record s i)) s.known
      (Each_both (λ e. ¬ IsSubsumer i.clause e) (λ e. ¬ IsReducer order i.clause e) s.known h g))

  pub unbeaten_record : (r : Record) (e : Known) → (¬ IsBeater order how.Subsumes r e) × (¬ IsBeater order how.Reduces r e) → IsCalm order e (held r)
  unbeaten_record r e h x y b = ((λ z. h.0 (x, b, z)), (λ z. h.1 (x, b, z)))

  module _ (P : Local → Type 0) (keeps : Keeps order P) where
    keep_arrived : (s : Local) (hit : Known → Option How) (r : Record) → known_times r.name s ≡ 0 → Each (λ e. IsCalm order e (held r)) s.known → AreHits order r s.known hit → P s → P (arrived s hit r)
    keep_arrived s hit r fresh calm hits h =
        keeps.joined (lost s hit r.name) r (struck_tally r.name s.me hit r.name s.known ∙ fresh) (calm_lost order s.me hit r.name r s.known calm hits) (keeps.lost s hit r.name h)

    keep_kept : (s : Local) (place : ℕ) (i : Item) (o : Outcome) (hit : Known → Option How) → slice_get s.pending place ≡ Some i → Each (λ e. ¬ IsReducer order i.clause e) s.known → OutcomeFits s i o
        → KeepHits order s place i o hit → known_times (next_name s) s ≡ 0 → P s → P (kept s place i o hit)
    keep_kept s place i (Named n) hit there ir fits hits fresh h =
        let t = taken s place i (Named n) in
        let a = keep_arrived t hit (new_record s i) (resolved_of (next_name s) i.origin (resolution (Named n) (equations_of i.steps)) s.known ∙ fresh)
        (calm_keep s place i n fits.1 ir) hits (keeps.taken s place i (Named n) there h) in
        keeps.frame (arrived t hit (new_record s i)) s.waiting s.token s.count (s.next_seq + 1) s.units s.clock (refuted_by i.clause s.verdict) s.journal a
    keep_kept s place i Trivial hit there ir fits hits fresh h = keeps.taken s place i Trivial there h
    keep_kept s place i (Subsumed d) hit there ir fits hits fresh h = keeps.taken s place i (Subsumed d) there h

    keep_body : (p : Problem) (s : Local) (sender : ℕ) (b : Body) (o : Option Hit) (hit : Known → Option How) → BodyFine order p s sender b → BodyHits order s b o hit → P s → P (admitted_body s b o hit)
    keep_body p s sender (body.Kept r) None hit fine hits h =
        keeps.frame (arrived s hit r) s.waiting s.token s.count s.next_seq s.units s.clock (refuted_by r.clause s.verdict) s.journal
        (keep_arrived s hit r (none_of_tally (is_of r.name) s.known fine.unknown)
        (Each_weaker (λ e. (¬ IsBeater order how.Subsumes r e) × (¬ IsBeater order how.Reduces r e)) (λ e. IsCalm order e (held r)) (unbeaten_record r) s.known hits.0) hits.1 h)
    keep_body p s sender (body.Kept r) (Some x) hit fine hits h =
        keeps.frame (shelved s r x.by x.how) s.waiting s.token s.count s.next_seq s.units s.clock (refuted_by r.clause s.verdict) s.journal
        (keeps.shelved s r x.by x.how (none_of_tally (is_of r.name) s.known fine.unknown) h)
    keep_body p s sender (body.Notice n m w) o hit fine hits h = keeps.lost s (named_hit n w) m h
    keep_body p s sender (body.Token t) o hit fine hits h = keeps.frame s s.waiting (Some t) s.count s.next_seq s.units s.clock s.verdict s.journal h

    keep_waiting : (s : Local) (w : List Letter) → P s → P (record s { waiting = w })
    keep_waiting s w h = keeps.frame s w s.token s.count s.next_seq s.units s.clock s.verdict s.journal h

    keep_token : (s : Local) (t : Option Token) → P s → P (record s { token = t })
    keep_token s t h = keeps.frame s s.waiting t s.count s.next_seq s.units s.clock s.verdict s.journal h

    keep_verdict : (s : Local) (v : Option Verdict) → P s → P (record s { verdict = v })
    keep_verdict s v h = keeps.frame s s.waiting s.token s.count s.next_seq s.units s.clock v s.journal h

    pub acts_keep : (p : Problem) (s : Local) (a : Act) (f : Found a) → Fits order p s a f → known_times (next_name s) s ≡ 0 → P s → P (acted s a f)
    acts_keep p s (Rewrite k) f fits fresh h =
        let t : Local = record s { pending = slice_set s.pending k (reworked f) } in
        keeps.frame t s.waiting s.token s.count s.next_seq (s.units + 1) s.clock s.verdict s.journal (keeps.replaced s k f.item (reworked f) fits.there refl h)
    acts_keep p s (Keep k) f fits fresh h = keep_kept s k f.item f.outcome f.hit fits.there fits.irreducible fits.outcome fits.hits fresh h
    acts_keep p s (Receive l) f fits fresh h = keep_waiting s (s.waiting ++ l ∷ []) h
    acts_keep p s (Admit k) f fits fresh h = keep_body p (unshelved s k) f.letter.sender f.letter.body f.forward f.hit (moved f.letter.body fits.fine.3) (same f.letter.body fits.hits) (keep_waiting s (remove s.waiting k) h)
      where
        moved : (b : Body) → BodyFine order p s f.letter.sender b → BodyFine order p (unshelved s k) f.letter.sender b
        moved (body.Kept r) x = record { unknown = x.unknown; issuer = x.issuer; owner = x.owner; shape = x.shape; behind_copy = x.behind_copy; cites = x.cites; share = x.share; leads = x.leads; tidy = x.tidy; fit = x.fit; no_tautology = x.no_tautology }
        moved (body.Notice n m w) x = x
        moved (body.Token t) x = x

        same : (b : Body) → BodyHits order s b f.forward f.hit → BodyHits order (unshelved s k) b f.forward f.hit
        same (body.Kept r) x = x
        same (body.Notice n m w) x = x
        same (body.Token t) x = x
    acts_keep p s (Reject k) f fits fresh h = keep_waiting s (remove s.waiting k) h
    acts_keep p s (Work t) f fits fresh h = keeps.worked s t f fits.1 h
    acts_keep p s Pass f fits fresh h = elim (eqb s.peers 1) as (λ b. P (cond b (record s { token = Some (passed s.peers s.count f) }) (record s { token = None })))
        [ true ↦ keep_token s (Some (passed s.peers s.count f)) h | false ↦ keep_token s None h ]
    acts_keep p s Declare f fits fresh h = keep_verdict s (Some Saturated) h
    acts_keep p s (End v) f fits fresh h = keep_verdict s (Some v) h

    -- and so does the whole event
    pub after_keeps : (p : Problem) (s : Local) (e : Event) (f : Found e.act) → Fits order p s e.act f → known_times (next_name s) s ≡ 0 → P s → P (after s e f)
    after_keeps p s e f fits fresh h =
        let t = acted s e.act f in
        keeps.frame t t.waiting t.token (after s e f).count t.next_seq t.units e.time t.verdict (s.journal ++ e ∷ []) (acts_keep p s e.act f fits fresh h)
