-- What a step changes, and what it leaves.
use Rattle.std.proofs.Common.{◌≡◌, ℕ, ◌+◌, ◌<◌, ◌≢◌, Bool, true, false, cond, eqb, List, length, get_or, arith, refl, ap, sym, ◌∙◌, subst, inl, inr, ◌⊎◌, length-set}
use Rattle.std.specs.Prelude.{remove, Option, Some, None}
use Rattle.std.proofs.lemmas.List.{get_or-set_same, get_or-set_other}
use Rattle.std.proofs.lemmas.Bool.{eqb-true}
use Rattle.std.proofs.lemmas.Bool.Decides.{nat_tests, eqb_tells}
use Rattle.cd_ledger.specs.declared.letters.Body.TheVariants as body
use Rattle.cd_names.specs.declared.names.Name.{Name}
use Rattle.cd_contract.specs.declared.held.Hit.{Hit}
use Rattle.cd_ledger.specs.declared.items.Outcome.{Outcome}
use Rattle.cd_ledger.specs.declared.items.Outcome.TheVariants.{Named, Subsumed, Trivial}
use Rattle.cd_ledger.specs.declared.letters.Body.{Body}
use Rattle.cd_ledger.specs.declared.letters.Letter.{Letter}
use Rattle.cd_names.specs.declared.ownership.Policy.{Policy}
use Rattle.cd_ledger.specs.declared.events.Act.{Act}
use Rattle.cd_ledger.specs.declared.events.Act.TheVariants.{Admit, Declare, End, Keep, Pass, Receive, Reject, Rewrite, Work}
use Rattle.cd_ledger.specs.declared.events.Event.{Event}
use Rattle.cd_ledger.specs.declared.local.Local.{Local}
use Rattle.cd_list.specs.Lists.{tally}
use Rattle.std.specs.List.{AllByRecursion as Each}
use Rattle.cd_read.specs.declared.problem.Problem.{Problem}
use Rattle.cd_names.specs.Names.{name_eq}
use Rattle.cd_machine.specs.Acts.{admitted_body, kept, unshelved}
use Rattle.cd_machine.specs.Tokens.{passed}
use Rattle.cd_machine.specs.Events.{Found, acted, after}
use Rattle.cd_machine.specs.World.{Moves, World, WorldStep, at, nobody}
use Rattle.cd_laws.specs.Sound.{IsPlaced}
use Rattle.cd_laws.proofs.Lists.{Each_append, Each_at, Each_remove, and_true, tally_append, tally_remove}
use Rattle.cd_kbo.specs.declared.order.Order.{Order}

pub name_eq_true : (a b : Name) → name_eq a b ≡ true → a ≡ b
name_eq_true a b h =
    let g = and_true (eqb a.peer b.peer) (eqb a.seq b.seq) h in
    ap (λ p. name_at p a.seq) (eqb-true _ _ g.0) ∙ ap (λ s. name_at b.peer s) (eqb-true _ _ g.1)
  where
    name_at : ℕ → ℕ → Name
    name_at p s = record { peer = p; seq = s }

pub name_eq_refl : (a : Name) → name_eq a a ≡ true
name_eq_refl a = grind (arith, nat_tests)

pub name_eq_sym : (a b : Name) → name_eq a b ≡ name_eq b a
name_eq_sym a b = grind (arith, nat_tests)

pub same_or_not : (p q : ℕ) → (p ≡ q) ⊎ (p ≢ q)
same_or_not p q = elim (eqb_tells p q) [ inl h ↦ inl h.1 | inr h ↦ inr h.1 ]

-- what a Receive takes
abbrev pub received : (Letter → Bool) → Act → ℕ
received p (Rewrite k) = 0
received p (Keep k) = 0
received p (Receive l) = cond (p l) 1 0
received p (Admit k) = 0
received p (Reject k) = 0
received p (Work t) = 0
received p Pass = 0
received p Declare = 0
received p (End v) = 0

pub acted_me : (s : Local) (a : Act) (f : Found a) → ((acted s a f).me ≡ s.me) × ((acted s a f).peers ≡ s.peers) × ((acted s a f).policy ≡ s.policy)
acted_me s (Rewrite k) f = (refl, refl, refl)
acted_me s (Keep k) f = go f.outcome
  where
    go : (o : Outcome) → ((kept s k f.item o f.hit).me ≡ s.me) × ((kept s k f.item o f.hit).peers ≡ s.peers) × ((kept s k f.item o f.hit).policy ≡ s.policy)
    go (Named n) = (refl, refl, refl)
    go Trivial = (refl, refl, refl)
    go (Subsumed d) = (refl, refl, refl)
acted_me s (Receive l) f = (refl, refl, refl)
acted_me s (Admit k) f = go f.letter.body f.forward
  where
    go : (b : Body) (o : Option Hit) → ((admitted_body (unshelved s k) b o f.hit).me ≡ s.me) × ((admitted_body (unshelved s k) b o f.hit).peers ≡ s.peers) × ((admitted_body (unshelved s k) b o f.hit).policy ≡ s.policy)
    go (body.Kept r) None = (refl, refl, refl)
    go (body.Kept r) (Some h) = (refl, refl, refl)
    go (body.Notice n m h) o = (refl, refl, refl)
    go (body.Token t) o = (refl, refl, refl)
acted_me s (Reject k) f = (refl, refl, refl)
acted_me s (Work t) f = (refl, refl, refl)
acted_me s Pass f = go (eqb s.peers 1)
  where
    go : (b : Bool) → ((cond b (record s { token = Some (passed s.peers s.count f) }) (record s { token = None })).me ≡ s.me)
        × ((cond b (record s { token = Some (passed s.peers s.count f) }) (record s { token = None })).peers ≡ s.peers)
        × ((cond b (record s { token = Some (passed s.peers s.count f) }) (record s { token = None })).policy ≡ s.policy)
    go true = (refl, refl, refl)
    go false = (refl, refl, refl)
acted_me s Declare f = (refl, refl, refl)
acted_me s (End v) f = (refl, refl, refl)

module _ (order : Order) (p : Problem) (w : World) (e : Event) (v : World) (h : WorldStep order p w e v) where
  pub step_length : length v.locals ≡ length w.locals
  step_length = ap length h.stepped ∙ length-set w.locals e.peer (after (at w e.peer) e h.found)

  pub at_same : at v e.peer ≡ after (at w e.peer) e h.found
  at_same = ap (λ ls. get_or ls e.peer nobody) h.stepped ∙ get_or-set_same w.locals e.peer (after (at w e.peer) e h.found) nobody h.in_range

  pub at_other : (q : ℕ) → q ≢ e.peer → at v q ≡ at w q
  at_other q ne = ap (λ ls. get_or ls q nobody) h.stepped ∙ get_or-set_other w.locals e.peer q (after (at w e.peer) e h.found) nobody ne

  -- a fact of every peer: at the peer of the event, and at the others
  pub at_each : (P : ℕ → Local → Type 0) → P e.peer (after (at w e.peer) e h.found) → ((q : ℕ) → q < length w.locals → q ≢ e.peer → P q (at w q))
      → (q : ℕ) → q < length v.locals → P q (at v q)
  at_each P here there q l =
      elim (same_or_not q e.peer) [
        | inl same ↦ subst (λ (x : ℕ). P x (at v x)) (sym same) (subst (λ (s : Local). P e.peer s) (sym at_same) here)
        | inr other ↦ subst (λ (s : Local). P q s) (sym (at_other q other)) (there q (let l' : q < length w.locals = rw (← step_length) l in l') other)
      ]

  pub step_me : e.peer ≡ (at w e.peer).me
  step_me = h.legal.own

pub moves_tally : (p : Letter → Bool) (a : Act) (before new after : List Letter) → Moves a before new after → tally p after + received p a ≡ tally p before + tally p new
moves_tally p (Rewrite k) b n x h = rw h (omega (arith, tally_append p b n))
moves_tally p (Keep k) b n x h = rw h (omega (arith, tally_append p b n))
moves_tally p (Receive l) b n x h = rw h.2 (omega (arith, tally_append p (remove b h.0) n, tally_remove p b h.0 l h.1))
moves_tally p (Admit k) b n x h = rw h (omega (arith, tally_append p b n))
moves_tally p (Reject k) b n x h = rw h (omega (arith, tally_append p b n))
moves_tally p (Work t) b n x h = rw h (omega (arith, tally_append p b n))
moves_tally p Pass b n x h = rw h (omega (arith, tally_append p b n))
moves_tally p Declare b n x h = rw h (omega (arith, tally_append p b n))
moves_tally p (End v) b n x h = rw h (omega (arith, tally_append p b n))

pub moves_each : (P : Letter → Type 0) (a : Act) (before new after : List Letter) → Moves a before new after → Each P before → Each P new → Each P after
moves_each P (Rewrite k) b n x h f g = rw h (Each_append P b n f g)
moves_each P (Keep k) b n x h f g = rw h (Each_append P b n f g)
moves_each P (Receive l) b n x h f g = rw h.2 (Each_append P (remove b h.0) n (Each_remove P b h.0 f) g)
moves_each P (Admit k) b n x h f g = rw h (Each_append P b n f g)
moves_each P (Reject k) b n x h f g = rw h (Each_append P b n f g)
moves_each P (Work t) b n x h f g = rw h (Each_append P b n f g)
moves_each P Pass b n x h f g = rw h (Each_append P b n f g)
moves_each P Declare b n x h f g = rw h (Each_append P b n f g)
moves_each P (End v) b n x h f g = rw h (Each_append P b n f g)

-- the letter that comes was travelling
pub moves_letter : (P : Letter → Type 0) (l : Letter) (before new after : List Letter) → Moves (Receive l) before new after → Each P before → P l
moves_letter P l b n x h f = Each_at P b h.0 l h.1 f

pub step_places : (order : Order) → (p : Problem) (policy : Policy) (w : World) (e : Event) (v : World) → WorldStep order p w e v
    → ((q : ℕ) → q < length w.locals → IsPlaced policy (length w.locals) q (at w q)) → (q : ℕ) → q < length v.locals → IsPlaced policy (length v.locals) q (at v q)
step_places order p policy w e v h f =
    at_each order p w e v h (λ q s. IsPlaced policy (length v.locals) q s)
    (let m = acted_me (at w e.peer) e.act h.found in let o = f e.peer h.in_range in (m.0 ∙ o.0, m.1 ∙ o.1 ∙ sym (step_length order p w e v h), m.2 ∙ o.2))
    (λ q l ne. let o = f q l in (o.0, o.1 ∙ sym (step_length order p w e v h), o.2))
