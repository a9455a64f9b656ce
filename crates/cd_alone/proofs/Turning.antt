-- The event of a turn, among liars.
use Rattle.std.proofs.Common.{◌≡◌, ℕ, ◌<◌, ◌≤◌, Bool, true, false, List, [], ◌∷◌, length, refl, ap, sym, ◌∙◌, subst, arith, inl, inr, ◌⊎◌}
use Rattle.std.specs.Prelude.{Option, Some, None}
use Rattle.cd_names.specs.declared.How.TheVariants as how
use Rattle.cd_ledger.specs.declared.letters.Body.TheVariants as body
use Rattle.std.proofs.Common.{◌↔◌}
use Rattle.std.specs.Prelude.{◌^◌, ◌≢◌}
use Rattle.std.proofs.lemmas.Bool.{cases_lt}
use Rattle.cd_clause.specs.declared.Clause.{Clause}
use Rattle.cd_names.specs.declared.names.Name.{Name}
use Rattle.cd_steps.specs.declared.Step.{Step}
use Rattle.cd_names.specs.declared.How.{How}
use Rattle.cd_ledger.specs.declared.records.Record.{Record}
use Rattle.cd_ledger.specs.declared.records.Known.{Known}
use Rattle.cd_ledger.specs.declared.letters.Body.{Body}
use Rattle.cd_ledger.specs.declared.letters.Letter.{Letter}
use Rattle.cd_ledger.specs.declared.local.Local.{Local}
use Rattle.cd_read.specs.declared.problem.Problem.{Problem}
use Rattle.cd_ledger.specs.Records.{Registry, cites_of, look}
use Rattle.cd_machine.specs.Right.{IsReplayed, Lead, registry_of}
use Rattle.cd_laws.specs.Premises.{Premises}
use Rattle.cd_names.specs.declared.waves.Token.{Token}
use Rattle.cd_names.specs.Names.{name_eq}
use Rattle.cd_machine.specs.Hits.{HowHolds, IsBelow}
use Rattle.cd_machine.specs.Fits.{BodyFine, IsAcceptable, IsFine, NoticeHolds}
use Rattle.cd_laws.specs.Turns.{Decisions}
use Rattle.cd_laws.proofs.Steps.{name_eq_refl, name_eq_true, same_or_not}
use Rattle.cd_laws.proofs.Turns.{three, told, turning}
use Rattle.cd_alone.specs.Alone.{AloneRunsTurn, Tests}
use Rattle.cd_alone.proofs.Fine.{fine_is}
use Rattle.cd_alone.proofs.Runs.{going_run}
use Rattle.cd_kbo.specs.declared.order.Order.{Order}

abbrev Decided : Type 0 → Type 0
Decided A = A ⊎ (A → ⊥)

less_decided : (a b : ℕ) → Decided (a < b)
less_decided a b = elim (cases_lt a b) [ inl h ↦ inl h | inr h ↦ inr (λ g. omega (arith, h, g)) ]

under_decided : (a b : ℕ) → Decided (a ≤ b)
under_decided a b = elim (cases_lt b a) [ inl h ↦ inr (λ g. omega (arith, h, g)) | inr h ↦ inl h ]

unlike_decided : (a b : ℕ) → Decided (a ≢ b)
unlike_decided a b = elim (same_or_not a b) [ inl h ↦ inr (λ g. g h) | inr h ↦ inl h ]

like_decided : (a b : ℕ) → Decided (a ≡ b)
like_decided a b = elim (same_or_not a b) [ inl h ↦ inl h | inr h ↦ inr h ]

name_decided : (a b : Name) → Decided (a ≡ b)
name_decided a b = elim (told (name_eq a b)) [ inl h ↦ inl (name_eq_true a b h) | inr h ↦ inr (λ e. h (subst (λ (n : Name). name_eq a n ≡ true) e (name_eq_refl a))) ]

names_decided : (ns ms : List Name) → Decided (ns ≡ ms)
names_decided [] [] = inl refl
names_decided [] (m ∷ ms) = inr (λ e. cc)
names_decided (n ∷ ns) [] = inr (λ e. cc)
names_decided (n ∷ ns) (m ∷ ms) = go (name_decided n m) (names_decided ns ms)
  where
    go : Decided (n ≡ m) → Decided (ns ≡ ms) → Decided (n ∷ ns ≡ m ∷ ms)
    go (inl x) (inl y) = inl cc
    go (inl x) (inr y) = inr (λ e. y cc)
    go (inr x) y = inr (λ e. x cc)

abbrev answer : {A : Type 0} → Decided A → Bool
answer (inl h) = true
answer (inr h) = false

answers : {A : Type 0} (d : Decided A) → (answer d ≡ true) ↔ A
answers (inl h) = (λ e. h, λ x. refl)
answers (inr h) = (λ e. absurd (let z : false ≡ true = e in cc), λ x. absurd (h x))

none_token : (o : Option Token) → Decided (o ≡ None)
none_token None = inl refl
none_token (Some t) = inr (λ e. cc)

four : {A B C D : Type 0} → Decided A → Decided B → Decided C → Decided D → Decided (A × B × C × D)
four (inl a) (inl b) (inl c) (inl d) = inl (a, b, c, d)
four (inl a) (inl b) (inl c) (inr d) = inr (λ z. d z.3)
four (inl a) (inl b) (inr c) d = inr (λ z. c z.2)
four (inl a) (inr b) c d = inr (λ z. b z.1)
four (inr a) b c d = inr (λ z. a z.0)

module _ (order : Order) (q : Premises order) (d : Decisions order) (t : Tests) (p : Problem) where
  lead_decided : (R : Registry) (current : Option Clause) (ss : List Step) (c : Clause) → Decided (Lead p R current ss c)
  lead_decided R None [] c = inr (λ e. cc)
  lead_decided R (Some x) [] c = elim (t.same x c) [ inl h ↦ inl (ap Some h) | inr h ↦ inr (λ e. h cc) ]
  lead_decided R current (s ∷ ss) c = go (t.replay p R current s) (λ x. lead_decided R (Some x) ss c)
    where
      go : ((x : Clause) × IsReplayed p R current s x) ⊎ ((x : Clause) → IsReplayed p R current s x → ⊥) → ((x : Clause) → Decided (Lead p R (Some x) ss c)) → Decided (Lead p R current (s ∷ ss) c)
      go (inr none) rest = inr (λ x. none x.0 x.1)
      go (inl y) rest = by (rest y.0)
        where
          by : Decided (Lead p R (Some y.0) ss c) → Decided (Lead p R current (s ∷ ss) c)
          by (inl h) = inl (y.0, y.1, h)
          by (inr n) = inr (λ x. n (subst (λ (z : Clause). Lead p R (Some z) ss c) (t.replay_once p R current s x.0 y.0 x.1 y.1) x.2))

  how_decided : (w : How) (c e : Clause) → Decided (HowHolds order w c e)
  how_decided how.Subsumes c e = d.subsumes c e
  how_decided how.Reduces c e = d.reduces c e

  fine_decided : (s : Local) (sender : ℕ) (r : Record) → Decided (IsFine p s sender r)
  fine_decided s sender r =
      let cited = names_decided r.cites (cites_of r.steps) in
      let led = lead_decided (registry_of s) None r.steps r.clause in
      let tidy = d.tidy r.clause in
      let ft = t.fit p r.clause in
      let trivial = d.tautology r.clause in
      let is = fine_is p s sender r _ _ (answer cited) (answer led) (answer tidy) (answer ft) (answer trivial) refl refl (answers cited) (answers led) (answers tidy) (answers ft) (answers trivial) in
      elim (told _) [ inl h ↦ inl (is.0 h) | inr h ↦ inr (λ f. h (is.1 f)) ]

  notice_decided : (s : Local) (of by : Name) (w : How) → Decided (NoticeHolds order s of by w)
  notice_decided s of by w = go (look s.known of) (look s.known by) refl refl
    where
      go : (a b : Option Known) → look s.known of ≡ a → look s.known by ≡ b → Decided (NoticeHolds order s of by w)
      go None b e f = inr (λ x. (let z : None ≡ Some x.0 = sym e ∙ x.2 in cc))
      go (Some c) None e f = inr (λ x. (let z : None ≡ Some x.1 = sym f ∙ x.3 in cc))
      go (Some c) (Some g) e f = by' (three (like_decided c.entry.owner s.me) (q.key_decides g.entry.clause c.entry.clause (Some g.entry.name) (Some c.entry.name)) (how_decided w g.entry.clause c.entry.clause))
        where
          by' : Decided ((c.entry.owner ≡ s.me) × IsBelow order g.entry c.entry × HowHolds order w g.entry.clause c.entry.clause) → Decided (NoticeHolds order s of by w)
          by' (inl x) = inl (c, g, e, f, x.0, x.1, x.2)
          by' (inr n) = inr (λ x.
              (let u : Some x.0 ≡ Some c = sym x.2 ∙ e in let v : Some x.1 ≡ Some g = sym x.3 ∙ f in
              let u' : x.0 ≡ c = cc in let v' : x.1 ≡ g = cc in
              n (subst (λ (k : Known). (k.entry.owner ≡ s.me) × IsBelow order g.entry k.entry × HowHolds order w g.entry.clause k.entry.clause) u'
              (subst (λ (k : Known). (x.0.entry.owner ≡ s.me) × IsBelow order k.entry x.0.entry × HowHolds order w k.entry.clause x.0.entry.clause) v' (x.4, x.5, x.6)))))

  body_decided : (s : Local) (sender : ℕ) (b : Body) → Decided (BodyFine order p s sender b)
  body_decided s sender (body.Kept r) = fine_decided s sender r
  body_decided s sender (body.Notice of by w) = notice_decided s of by w
  body_decided s sender (body.Token k) = three (none_token s.token) (under_decided (length k.one) s.peers) (under_decided (length k.two) s.peers)

  letter_decided : (s : Local) (l : Letter) → Decided (IsAcceptable order p s l)
  letter_decided s l = four (less_decided l.time (2 ^ 63)) (unlike_decided l.sender s.me) (less_decided l.sender s.peers) (body_decided s l.sender l.body)

pub alone_turn : (order : Order) → AloneRunsTurn order
alone_turn order q d t p start s es r run =
    let g = going_run order q p start s es r in
    turning order q d p s (record {
      units = g.ready.units;
      forced = g.ready.forced;
      tasks = g.ready.tasks;
      letters = λ place l there ready. letter_decided order q d t p s l;
    }) run
