-- Every event keeps what holds of a world.
use Rattle.std.proofs.Common.{◌≡◌, ℕ, ◌+◌, ◌<◌, ◌≤◌, ◌≢◌, Bool, true, false, ◌||◌, cond, ltb, List, [], ◌∷◌, ◌++◌, map, length, arith, refl, ap, sym, ◌∙◌, subst, inl, inr}
use Rattle.std.specs.Prelude.{slice_get, slice_set, remove, Option, Some, None}
use Rattle.std.specs.List.{flat_map}
use Rattle.std.proofs.lemmas.List.{get_or_past}
use Rattle.std.proofs.lemmas.Bool.{cases_lt}
use Rattle.std.proofs.lemmas.Bool.Decides.{nat_tests}
use Rattle.cd_ledger.specs.declared.items.Origin.TheVariants as origin
use Rattle.cd_ledger.specs.declared.letters.Body.TheVariants as body
use Rattle.cd_names.specs.declared.ownership.Policy.TheVariants as policy'
use Rattle.cd_clause.specs.declared.Clause.{Clause}
use Rattle.cd_names.specs.declared.names.Name.{Name}
use Rattle.cd_steps.specs.declared.Step.{Step}
use Rattle.cd_ledger.specs.declared.items.Origin.{Origin}
use Rattle.cd_ledger.specs.declared.records.Record.{Record}
use Rattle.cd_ledger.specs.declared.records.Status.{Status}
use Rattle.cd_ledger.specs.declared.records.Known.{Known}
use Rattle.cd_ledger.specs.declared.items.Outcome.{Outcome}
use Rattle.cd_ledger.specs.declared.items.Outcome.TheVariants.{Named, Subsumed, Trivial}
use Rattle.cd_names.specs.declared.waves.Token.{Token}
use Rattle.cd_ledger.specs.declared.letters.Body.{Body}
use Rattle.cd_ledger.specs.declared.letters.Letter.{Letter}
use Rattle.cd_names.specs.declared.ownership.Policy.{Policy}
use Rattle.cd_ledger.specs.declared.events.Act.{Act}
use Rattle.cd_ledger.specs.declared.events.Act.TheVariants.{Admit, Declare, End, Keep, Pass, Receive, Reject, Rewrite, Work}
use Rattle.cd_ledger.specs.declared.events.Event.{Event}
use Rattle.cd_ledger.specs.declared.local.Local.{Local}
use Rattle.cd_list.specs.Lists.{tally}
use Rattle.std.specs.List.{AllByRecursion as Each, list_all, list_any}
use Rattle.std.specs.Prelude.{is_some}
use Rattle.cd_read.specs.declared.problem.Problem.{Problem}
use Rattle.cd_names.specs.Names.{add_once, each_once, name_eq}
use Rattle.cd_ledger.specs.Records.{InShare, cites_of, equations_of, is_known, is_of, look, owner_by, recorded}
use Rattle.cd_machine.specs.Right.{Lead, registry_of}
use Rattle.cd_steps.specs.Premises.{names_in}
use Rattle.cd_machine.specs.Arrivals.{held, new_record, next_name}
use Rattle.cd_machine.specs.Contraction.{loss, strike_one, struck}
use Rattle.cd_machine.specs.Acts.{kept, resolution, resolve_one, resolved, taken}
use Rattle.cd_machine.specs.Events.{Found, acted, after, is_token, is_token_body, sent, sent_by}
use Rattle.cd_machine.specs.Hits.{HowHolds, IsBelow}
use Rattle.cd_machine.specs.Fits.{BodyFine, Fits, IsAcceptable, body_ready, is_ready}
use Rattle.cd_machine.specs.World.{Moves, Run, World, WorldStep, at, nobody}
use Rattle.cd_laws.specs.Premises.{Premises}
use Rattle.cd_machine.specs.Spread.{Genuine, body_is_kept, is_kept, issued, issued_by, known_times, record_of}
use Rattle.cd_laws.specs.Sound.{HasTold, IsContracted, IsCounted, IsShared, IsSound, IsTrue, IsTrueWorld, Linked, OwesPair, OwesSolo, TrueBody, TrueKnown, TrueLetter, heard, tells, tells_to, tokens_of}
use Rattle.cd_laws.proofs.Lists.{Each_at, Each_left, Each_right, Each_weaker, and_true, find_is, found, tally_none_of, tally_remove}
use Rattle.cd_laws.proofs.Steps.{at_each, at_other, at_same, moves_each, moves_letter, moves_tally, name_eq_refl, name_eq_true, received, same_or_not, step_length, step_me, step_places}
use Rattle.cd_laws.proofs.Strikes.{resolve_entry, resolved_of, strike_entry, struck_tally}
use Rattle.cd_laws.proofs.Closure.{Keeps, after_keeps}
use Rattle.cd_laws.proofs.Spread.{IsNoReject, received_here, received_there, step_spread}
use Rattle.cd_laws.proofs.Calm.{contracted_keeps}
use Rattle.cd_laws.proofs.Tallies.{counted_keeps}
use Rattle.cd_laws.proofs.Owing.{IsOwing, owing_keeps}
use Rattle.cd_laws.proofs.Links.{IsLinked, linked_keeps}
use Rattle.cd_laws.proofs.Grow.{letter_grows, local_grows}
use Rattle.cd_laws.proofs.Truth.{Registers, local_registry, recorded_true}
use Rattle.cd_laws.proofs.Acts.{RegistersAct, true_acted}
use Rattle.cd_laws.proofs.Shares.{shared_acted}
use Rattle.cd_laws.proofs.Telling.{heard_here, sends_or_takes, told_acted}
use Rattle.cd_laws.proofs.Tokens.{tokens_acted, tokens_set, tokens_some}
use Rattle.cd_kbo.specs.declared.order.Order.{Order}
use Rattle.cd_machine.specs.Rules.{clauses_of}

-- records stay recorded
pub recorded_append : (n : Name) (xs ys : List Known) (r : Record) → recorded n xs ≡ Some r → recorded n (xs ++ ys) ≡ Some r
recorded_append n [] ys r h = cc
recorded_append n (x ∷ xs) ys r h = elim (is_of n x) as (λ b. cond b (Some x.entry) (recorded n xs) ≡ Some r → cond b (Some x.entry) (recorded n (xs ++ ys)) ≡ Some r) [ true ↦ λ g. g | false ↦ λ g. recorded_append n xs ys r g ] h

pub recorded_new : (n : Name) (xs ys : List Known) → tally (is_of n) xs ≡ 0 → recorded n (xs ++ ys) ≡ recorded n ys
recorded_new n [] ys h = refl
recorded_new n (x ∷ xs) ys h = elim (is_of n x) as (λ b. cond b 1 0 + tally (is_of n) xs ≡ 0 → cond b (Some x.entry) (recorded n (xs ++ ys)) ≡ recorded n ys) [ true ↦ λ g. absurd (omega arith) | false ↦ λ g. recorded_new n xs ys (omega (arith, g)) ] h

pub recorded_map : (n : Name) (f : Known → Known) → ((e : Known) → (f e).entry ≡ e.entry) → (xs : List Known) → recorded n (map f xs) ≡ recorded n xs
recorded_map n f h [] = refl
recorded_map n f h (x ∷ xs) = rw (h x, recorded_map n f h xs) refl

pub recorded_resolved : (n : Name) (o : Origin) (st : Status) (es : List Known) → recorded n (resolved o st es) ≡ recorded n es
recorded_resolved n (origin.Input k) st es = refl
recorded_resolved n (origin.Task t k) st es = refl
recorded_resolved n (origin.Rework m) st es = recorded_map n (resolve_one m st) (resolve_entry m st) es

recorded_keeps : (order : Order) → (n : Name) (r : Record) → Keeps order (λ s. recorded n s.known ≡ Some r)
recorded_keeps order n r = record {
  frame = λ s w t x k m l v j h. h;
  taken = λ s place i o there h. recorded_resolved n i.origin (resolution o (equations_of i.steps)) s.known ∙ h;
  lost = λ s hit d h. recorded_map n (strike_one s.me hit d) (strike_entry s.me hit d) s.known ∙ h;
  joined = λ s x fresh calm h. recorded_append n s.known (held x ∷ []) r h;
  shelved = λ s x d w fresh h. recorded_append n s.known (record { entry = x; status = loss s.me d w x } ∷ []) r h;
  replaced = λ s place i j there same h. h;
  worked = λ s task y is h. h;
}

-- the names that are cited
once_all : (P : Name → Type 0) (seen ns : List Name) → Each P (each_once seen ns) → Each P seen × Each P ns
once_all P seen [] h = (h, tt)
once_all P seen (n ∷ ns) h =
    let x = once_all P (add_once seen n) ns h in
    let y = one (list_any (λ m. name_eq m n) seen) refl x.0 in
    (y.0, (y.1, x.1))
  where
    find_it : (ms : List Name) → list_any (λ m. name_eq m n) ms ≡ true → Each P ms → P n
    find_it [] e g = cc
    find_it (m ∷ ms) e g = go (name_eq m n) refl e (λ k. find_it ms k g.1)
      where
        go : (b : Bool) → name_eq m n ≡ b → (b || list_any (λ m. name_eq m n) ms) ≡ true → (list_any (λ m. name_eq m n) ms ≡ true → P n) → P n
        go true a e k = subst P (name_eq_true m n a) g.0
        go false a e k = k e

    one : (b : Bool) → list_any (λ m. name_eq m n) seen ≡ b → Each P (cond b seen (seen ++ n ∷ [])) → Each P seen × P n
    one true e g = (g, find_it seen e g)
    one false e g = (Each_left P seen (n ∷ []) g, (Each_right P seen (n ∷ []) g).0)

names_all : (P : Name → Type 0) (ss : List Step) → Each P (flat_map names_in ss) → Each (λ s. Each P (names_in s)) ss
names_all P [] h = tt
names_all P (s ∷ ss) h = (Each_left P (names_in s) (flat_map names_in ss) h, names_all P ss (Each_right P (names_in s) (flat_map names_in ss) h))

pub cites_all : (P : Name → Type 0) (ss : List Step) → Each P (cites_of ss) → Each (λ s. Each P (names_in s)) ss
unfolding cites_of
cites_all P ss h = names_all P ss (once_all P [] (flat_map names_in ss) h).1

pub each_of_each : {A : Type 0} (t : A → Bool) (xs : List A) → list_all t xs ≡ true → Each (λ x. t x ≡ true) xs
each_of_each t [] h = tt
each_of_each t (x ∷ xs) h = let g = and_true (t x) (list_all t xs) h in (g.0, each_of_each t xs g.1)

pub recorded_known : (n : Name) (es : List Known) → is_known es n ≡ true → (r : Record) × (recorded n es ≡ Some r)
recorded_known n [] h = cc
recorded_known n (e ∷ es) h = elim (is_of n e) as (λ b. (b || is_known es n) ≡ true → (r : Record) × (cond b (Some e.entry) (recorded n es) ≡ Some r)) [ true ↦ λ g. (e.entry, refl) | false ↦ λ g. recorded_known n es g ] h

module _ (order : Order) (q : Premises order) (p : Problem) (policy : Policy) where
  module _ (w : World) (i : IsSound order p policy w) where
    -- no letter that waits in a sound world is refused
    pub known_entry : (k : ℕ) → k < length w.locals → (n : Name) (r : Record) → is_known (at w k).known n ≡ true → record_of w n ≡ Some r → (x : Known) × (look (at w k).known n ≡ Some x) × (x.entry ≡ r)
    known_entry k l n r known g =
        let t = (i.truth.locals k l).known in
        let f = found (is_of n) (at w k).known known in
        let x = find_is (TrueKnown order p policy (length w.locals) (record_of w) (at w k).me) (is_of n) (at w k).known f.0 f.1 t in
        let c : Some f.0.entry ≡ Some r = sym x.0.genuine ∙ ap (record_of w) (name_eq_true f.0.entry.name n x.1) ∙ g in
        (f.0, f.1, cc)

    -- a right record is right over what is known here
    local_lead : (k : ℕ) → k < length w.locals → (current : Option Clause) (ss : List Step) (c : Clause) → Each (λ s. Each (λ n. is_known (at w k).known n ≡ true) (names_in s)) ss
        → Lead p (record_of w) current ss c → Lead p (registry_of (at w k)) current ss c
    local_lead k l current [] c known x = x
    local_lead k l current (s ∷ ss) c known x = (
      x.0,
      q.replay_grows p (record_of w) (registry_of (at w k)) current s x.0
          (Each_weaker (λ n. is_known (at w k).known n ≡ true) (λ n. (r : Record) → record_of w n ≡ Some r → registry_of (at w k) n ≡ Some r)
          (λ n y r g. (let z = recorded_known n (at w k).known y in
          let same : Some z.0 ≡ Some r = sym (local_registry order q p policy (length w.locals) (record_of w) (at w k).me (at w k).known (i.truth.locals k l).known n z.0 z.1) ∙ g in z.1 ∙ same)) (names_in s) known.0) x.1,
      local_lead k l (Some x.0) ss c known.1 x.2,
    )

    pub acceptable : (j : ℕ) → j < length w.locals → (place : ℕ) (l : Letter) → slice_get (at w j).waiting place ≡ Some l → is_ready (at w j).known l ≡ true → IsAcceptable order p (at w j) l
    acceptable j in_range place l there ready =
        let tr = i.truth.locals j in_range in
        let t = Each_at (TrueLetter order p policy (length w.locals) (record_of w)) (at w j).waiting place l there tr.waiting in
        let mine = Each_at (λ x. x.to ≡ (at w j).me) (at w j).waiting place l there tr.mine in
        let pl = i.places j in_range in
        (t.time, (λ x. t.other (x ∙ sym mine)), (let s = t.sender in let n = pl.1 in omega (arith, s, n)), fine l.body t.says ready mine (λ f. tally_remove (λ x. f x.body) (at w j).waiting place l there))
      where
        issuer_in : (r : Record) → record_of w r.name ≡ Some r → r.name.peer < length w.locals
        issuer_in r g = elim (cases_lt r.name.peer (length w.locals)) [ inl y ↦ y | inr o ↦ absurd (nothing (subst (λ (s : Local). recorded r.name s.known ≡ Some r) (get_or_past w.locals r.name.peer nobody o) g)) ]
          where
            nothing : None ≡ Some r → ⊥
            nothing f = cc

        share_of : (r : Record) → Genuine (record_of w) r → r.name.peer ≡ l.sender → Each (InShare (at w j).peers l.sender) r.steps
        share_of r g from_ =
            let x = recorded_true (λ e. Each (InShare (length w.locals) e.entry.name.peer) e.entry.steps) r.name (at w r.name.peer).known r (i.shares r.name.peer (issuer_in r g)).known g in
            let y = subst (λ (c : Record). Each (InShare (length w.locals) c.name.peer) c.steps) x.2 x.1 in
            subst (λ (m : ℕ). Each (InShare m l.sender) r.steps) (sym (i.places j in_range).1) (subst (λ (m : ℕ). Each (InShare (length w.locals) m) r.steps) from_ y)

        none_of : (o : Option Token) → ◌≡◌ {A = ℕ} (cond (is_some o) 1 0) 0 → o ≡ None
        none_of None x = refl
        none_of (Some t) x = absurd (omega (arith, x))

        fine : (b : Body) → TrueBody order p policy (length w.locals) (record_of w) l.sender l.to b → body_ready (at w j).known b ≡ true → l.to ≡ (at w j).me
            → ((f : Body → Bool) → tally (λ x. f x.body) (at w j).waiting ≡ tally (λ x. f x.body) (remove (at w j).waiting place) + cond (f b) 1 0) → BodyFine order p (at w j) l.sender b
        fine (body.Kept r) t ready mine count = record {
          unknown = tally_none_of (is_of r.name) (at w j).known
              (let one : tally (is_kept r.name) (at w j).waiting ≡ tally (is_kept r.name) (remove (at w j).waiting place) + 1 = count (body_is_kept r.name) ∙ rw (name_eq_refl r.name) refl in
              let sum = i.spread r.name j in_range in
              let few : issued r.name w ≤ 1 = grind (arith, nat_tests) in
              omega (arith, one, sum, few));
          issuer = t.1;
          owner = (let pl = i.places j in_range in rw (pl.1, pl.2) t.2.owner);
          shape = t.2.shape;
          behind_copy = t.2.behind_copy;
          cites = t.2.cites;
          share = share_of r t.0 t.1;
          leads = local_lead j in_range None r.steps r.clause
              (cites_all (λ n. is_known (at w j).known n ≡ true) r.steps (subst (λ (ns : List Name). Each (λ n. is_known (at w j).known n ≡ true) ns) t.2.cites (each_of_each (is_known (at w j).known) r.cites ready))) t.2.leads;
          tidy = t.2.tidy;
          fit = t.2.fit;
          no_tautology = t.2.no_tautology;
        }
        fine (body.Notice of by x) t ready mine count =
            let ks = and_true (is_known (at w j).known of) (is_known (at w j).known by) ready in
            let c = known_entry j in_range of t.loser ks.0 t.recorded in
            let d = known_entry j in_range by t.lost.winner ks.1 t.lost.recorded in (
              c.0,
              d.0,
              c.1,
              d.1,
              ap (λ (r : Record). r.owner) c.2 ∙ sym t.owner ∙ mine,
              subst (λ (r : Record). (IsBelow order) d.0.entry r) (sym c.2) (subst (λ (r : Record). (IsBelow order) r t.loser) (sym d.2) t.lost.below),
              subst (λ (r : Record). (HowHolds order) x d.0.entry.clause r.clause) (sym c.2) (subst (λ (r : Record). (HowHolds order) x r.clause t.loser.clause) (sym d.2) t.lost.hits),
            )
        fine (body.Token k) t ready mine count =
            let one = count is_token_body in
            let here = tokens_some w.locals j in_range in
            let all = i.tokens in
            let pl = i.places j in_range in
            (none_of (at w j).token (omega (arith, one, here, all)), (let a = t.0 in let b = pl.1 in omega (arith, a, b)), (let a = t.1 in let b = pl.1 in omega (arith, a, b)))

  module _ (w : World) (e : Event) (v : World) (h : WorldStep order p w e v) (i : IsSound order p policy w) where
    known_once : (k : ℕ) → k < length w.locals → (n : Name) → known_times n (at w k) ≤ 1
    known_once k l n = let s = i.spread n k l in let few : issued n w ≤ 1 = grind (arith, nat_tests) in omega (arith, s, few)

    pub new_name : known_times (next_name (at w e.peer)) (at w e.peer) ≡ 0
    new_name =
        let s = at w e.peer in
        let sum = i.spread (next_name s) e.peer h.in_range in
        let me : s.me ≡ e.peer = (i.places e.peer h.in_range).0 in
        let none : issued (next_name s) w ≡ 0 = subst (λ (k : ℕ). issued_by (next_name s) (at w k) ≡ 0) (sym me) (let f : ltb s.next_seq s.next_seq ≡ false = grind (arith, nat_tests) in rw f refl) in
        omega (arith, sum, none)

    after_all : (P : Local → Type 0) → Keeps order P → P (at w e.peer) → P (after (at w e.peer) e h.found)
    after_all P keeps x = after_keeps order q P keeps p (at w e.peer) e h.found h.legal.fits new_name x

    pub record_grows : (n : Name) (r : Record) → record_of w n ≡ Some r → record_of v n ≡ Some r
    record_grows n r g =
        elim (same_or_not n.peer e.peer) [
          | inl same ↦ subst (λ (s : Local). recorded n s.known ≡ Some r) (sym (ap (at v) same ∙ at_same order p w e v h))
              (after_all (λ s. recorded n s.known ≡ Some r) (recorded_keeps order n r) (subst (λ (k : ℕ). recorded n (at w k).known ≡ Some r) same g))
          | inr other ↦ subst (λ (s : Local). recorded n s.known ≡ Some r) (sym (at_other order p w e v h n.peer other)) g
        ]

    pub no_reject : IsNoReject e.act
    no_reject = go e.act h.found h.legal.fits
      where
        go : (a : Act) (f : Found a) → Fits order p (at w e.peer) a f → IsNoReject a
        go (Rewrite k) f x = tt
        go (Keep k) f x = tt
        go (Receive l) f x = tt
        go (Admit k) f x = tt
        go (Reject k) f x = x.bad (acceptable w i e.peer h.in_range k f x.there x.ready)
        go (Work t) f x = tt
        go Pass f x = tt
        go Declare f x = tt
        go (End u) f x = tt

    owner_in : (c : Clause) → owner_by policy (length w.locals) (next_name (at w e.peer)) c < length w.locals
    owner_in c = go policy
      where
        pos : 0 < length w.locals
        pos = let l = h.in_range in omega (arith, l)

        me : (at w e.peer).me < length w.locals
        me = let l = h.in_range in let g = (i.places e.peer h.in_range).0 in omega (arith, l, g)

        go : (x : Policy) → owner_by x (length w.locals) (next_name (at w e.peer)) c < length w.locals
        go policy'.Round = omega (arith, pos)
        go policy'.Issuer = me
        go policy'.Size = omega (arith, pos)

    -- a name that is made is recorded
    registers : (a : Act) (f : Found a) → record_of v (next_name (at w e.peer)) ≡ recorded (next_name (at w e.peer)) (acted (at w e.peer) a f).known
        → Moves a w.travelling (sent_by (at w e.peer) e.time a f) v.travelling
        → (pe : (at w e.peer).peers ≡ length w.locals) (po : (at w e.peer).policy ≡ policy) (l : (at w e.peer).me < length w.locals) (t : IsTrue order p policy (length w.locals) (record_of v) (at w e.peer))
        → RegistersAct order q p policy (length w.locals) (record_of v) (at w e.peer) e.time pe po l h.time t a f
    registers (Rewrite k) f x m pe po l t = tt
    registers (Keep k) f x m pe po l t = go f.outcome x
      where
        go : (o : Outcome) → record_of v (next_name (at w e.peer)) ≡ recorded (next_name (at w e.peer)) (kept (at w e.peer) k f.item o f.hit).known → Registers order q p policy (length w.locals) (record_of v) (at w e.peer) f.item o
        go (Named n) x = x ∙ recorded_new (next_name (at w e.peer)) (struck (at w e.peer).me f.hit (next_name (at w e.peer)) (taken (at w e.peer) k f.item (Named n)).known) (held (new_record (at w e.peer) f.item) ∷ [])
            (struck_tally (next_name (at w e.peer)) (at w e.peer).me f.hit (next_name (at w e.peer)) (taken (at w e.peer) k f.item (Named n)).known ∙ resolved_of (next_name (at w e.peer)) f.item.origin (resolution (Named n) (equations_of f.item.steps)) (at w e.peer).known ∙ new_name)
            ∙ rw (name_eq_refl (next_name (at w e.peer))) refl
        go Trivial x = tt
        go (Subsumed d) x = tt
    registers (Receive y) f x m pe po l t =
        letter_grows order q p policy (length w.locals) (record_of w) (record_of v) record_grows y (moves_letter (TrueLetter order p policy (length w.locals) (record_of w)) y w.travelling [] v.travelling m i.truth.travelling)
    registers (Admit k) f x m pe po l t = tt
    registers (Reject k) f x m pe po l t = tt
    registers (Work u) f x m pe po l t = tt
    registers Pass f x m pe po l t = tt
    registers Declare f x m pe po l t = tt
    registers (End u) f x m pe po l t = tt

    step_truth : IsTrueWorld order p policy v
    step_truth =
        let n = step_length order p w e v h in
        subst (λ (k : ℕ). ((z : ℕ) → z < length v.locals → IsTrue order p policy k (record_of v) (at v z)) × Each (TrueLetter order p policy k (record_of v)) v.travelling → IsTrueWorld order p policy v) n
        (λ x. record { locals = x.0; travelling = x.1 }) (
          at_each order p w e v h (λ z s. IsTrue order p policy (length w.locals) (record_of v) s) here (λ z l ne. local_grows order q p policy (length w.locals) (record_of w) (record_of v) record_grows (at w z) (i.truth.locals z l)),
          moves_each (TrueLetter order p policy (length w.locals) (record_of v)) e.act w.travelling (sent (at w e.peer) e h.found) v.travelling h.moved
              (Each_weaker (TrueLetter order p policy (length w.locals) (record_of w)) (TrueLetter order p policy (length w.locals) (record_of v)) (letter_grows order q p policy (length w.locals) (record_of w) (record_of v) record_grows) w.travelling i.truth.travelling) both.1,
        )
      where
        old : IsTrue order p policy (length w.locals) (record_of v) (at w e.peer)
        old = local_grows order q p policy (length w.locals) (record_of w) (record_of v) record_grows (at w e.peer) (i.truth.locals e.peer h.in_range)

        named-here : record_of v (next_name (at w e.peer)) ≡ recorded (next_name (at w e.peer)) (acted (at w e.peer) e.act h.found).known
        named-here = ap (λ k. recorded (next_name (at w e.peer)) (at v k).known) (sym (step_me order p w e v h)) ∙ ap (λ s. recorded (next_name (at w e.peer)) s.known) (at_same order p w e v h)

        me : (at w e.peer).me < length w.locals
        me = let l = h.in_range in let g = (i.places e.peer h.in_range).0 in omega (arith, l, g)

        both : IsTrue order p policy (length w.locals) (record_of v) (acted (at w e.peer) e.act h.found) × Each (TrueLetter order p policy (length w.locals) (record_of v)) (sent (at w e.peer) e h.found)
        both = true_acted order q p policy (length w.locals) (record_of v) (at w e.peer) e.time (i.places e.peer h.in_range).1 (i.places e.peer h.in_range).2 me h.time old owner_in e.act h.found h.legal.fits
            (registers e.act h.found named-here h.moved (i.places e.peer h.in_range).1 (i.places e.peer h.in_range).2 me old)

        here : IsTrue order p policy (length w.locals) (record_of v) (after (at w e.peer) e h.found)
        here = record { known = both.0.known; waiting = both.0.waiting; mine = both.0.mine; pending = both.0.pending; settled = both.0.settled; done = both.0.done; token = both.0.token; owed = both.0.owed }

    -- what was heard stays heard
    heard_step : (n : Name) (o : ℕ) → 0 < heard w n o → 0 < heard v n o
    heard_step n o x =
        elim (same_or_not o e.peer) [ inl same ↦ subst (λ (k : ℕ). 0 < heard v n k) (sym same) (here (subst (λ (k : ℕ). 0 < heard w n k) same x)) | inr other ↦ there other ]
      where
        here : 0 < heard w n e.peer → 0 < heard v n e.peer
        here x =
            let moved = moves_tally (tells_to n e.peer) e.act w.travelling (sent (at w e.peer) e h.found) v.travelling h.moved in
            let rec' : received (tells_to n e.peer) e.act ≡ received (tells n) e.act = ap (λ k. received (tells_to n k) e.act) (step_me order p w e v h) ∙ received_here order (tells n) p (at w e.peer) e.act h.found h.legal.fits in
            let same = at_same order p w e v h in
            rw same (elim (cases_lt 0 (tally (tells_to n e.peer) v.travelling)) [
              | inl l ↦ omega (arith, l)
              | inr z ↦ (let g = heard_here order q p n (at w e.peer) e.act h.found h.legal.fits no_reject new_name (omega (arith, x, moved, rec', z)) in omega (arith, g))
            ])

        there : o ≢ e.peer → 0 < heard v n o
        there other =
            let moved = moves_tally (tells_to n o) e.act w.travelling (sent (at w e.peer) e h.found) v.travelling h.moved in
            let none = received_there order (tells n) p (at w e.peer) e.act h.found o h.legal.fits (λ k. other (k ∙ sym (step_me order p w e v h))) in
            rw (at_other order p w e v h o other) (omega (arith, moved, none, x))

    step_told : (k : ℕ) → k < length v.locals → Each (HasTold v) (at v k).known
    step_told =
        at_each order p w e v h (λ k s. Each (HasTold v) s.known)
        (told_acted (λ n o. 0 < heard v n o) (at w e.peer) e.time e.act h.found (Each_weaker (HasTold w) (HasTold v) stays (at w e.peer).known (i.told e.peer h.in_range)) sends)
        (λ k l ne. Each_weaker (HasTold w) (HasTold v) stays (at w k).known (i.told k l))
      where
        stays : (x : Known) → HasTold w x → HasTold v x
        stays x f g = heard_step x.entry.name x.entry.owner (f g)

        sends : (n : Name) (o : ℕ) → 0 < tally (tells_to n o) (sent_by (at w e.peer) e.time e.act h.found) → 0 < heard v n o
        sends n o x =
            let moved = moves_tally (tells_to n o) e.act w.travelling (sent (at w e.peer) e h.found) v.travelling h.moved in
            let none = sends_or_takes (tells_to n o) (at w e.peer) e.time e.act h.found x in
            omega (arith, moved, none, x)

    step_tokens : tokens_of v.locals + tally is_token v.travelling ≡ 1
    step_tokens =
        let s = at w e.peer in
        let set' = tokens_set w.locals e.peer (after s e h.found) h.in_range in
        let moved = moves_tally is_token e.act w.travelling (sent s e h.found) v.travelling h.moved in
        let own = tokens_acted order p s e.time e.act h.found h.legal.fits no_reject in
        let old = i.tokens in
        let now : tokens_of v.locals ≡ tokens_of (slice_set w.locals e.peer (after s e h.found)) = ap tokens_of h.stepped in
        omega (arith, set', moved, own, old, now)

    pub step_sound : IsSound order p policy v
    step_sound = record {
      places = step_places order p policy w e v h i.places;
      spread = step_spread order p policy w e v h i.places no_reject i.spread;
      truth = step_truth;
      contracted = at_each order p w e v h (λ k s. IsContracted order s.known) (after_all (λ s. IsContracted order s.known) (contracted_keeps order q) (i.contracted e.peer h.in_range)) (λ k l ne. i.contracted k l);
      counted = (let n = step_length order p w e v h in subst (λ (m : ℕ). (k : ℕ) → k < length v.locals → IsCounted (length (clauses_of p)) m (at v k)) (sym n)
          (at_each order p w e v h (λ k s. IsCounted (length (clauses_of p)) (length w.locals) s) (after_all (IsCounted (length (clauses_of p)) (length w.locals)) (counted_keeps order (length (clauses_of p)) (length w.locals)) (i.counted e.peer h.in_range)) (λ k l ne. i.counted k l)));
      shares = (let n = step_length order p w e v h in subst (λ (m : ℕ). (k : ℕ) → k < length v.locals → IsShared m (at v k)) (sym n)
          (at_each order p w e v h (λ k s. IsShared (length w.locals) s)
          (let a = shared_acted order q p policy (length w.locals) (record_of w) (at w e.peer) (i.places e.peer h.in_range).1 (i.truth.locals e.peer h.in_range) e.act h.found h.legal.fits (i.shares e.peer h.in_range) in record { known = a.known; pending = a.pending })
          (λ k l ne. i.shares k l)));
      linked = at_each order p w e v h (λ k s. Each (Linked s.known) s.settled) links.1 (λ k l ne. i.linked k l);
      pairs = at_each order p w e v h (λ k s. (a b : Name) → OwesPair s a b) owing.pairs (λ k l ne. i.pairs k l);
      solos = at_each order p w e v h (λ k s. (a : Name) → OwesSolo s a) owing.solos (λ k l ne. i.solos k l);
      told = step_told;
      tokens = step_tokens;
    }
      where
        links : IsLinked (length (clauses_of p)) (length w.locals) (after (at w e.peer) e h.found)
        links = after_all (IsLinked (length (clauses_of p)) (length w.locals)) (linked_keeps order (length (clauses_of p)) (length w.locals)) (i.counted e.peer h.in_range, i.linked e.peer h.in_range)

        owing : IsOwing (after (at w e.peer) e h.found)
        owing = after_all IsOwing (owing_keeps order) (record { once = known_once e.peer h.in_range; pairs = i.pairs e.peer h.in_range; solos = i.solos e.peer h.in_range })

  pub run_sound : (es : List Event) (w v : World) → Run order p w es v → IsSound order p policy w → IsSound order p policy v
  run_sound [] w v r i = subst (IsSound order p policy) (sym r) i
  run_sound (e ∷ es) w v r i = run_sound es r.0 v r.2 (step_sound w e r.0 r.1 i)
