-- Peers that are still, and sums over peers.
use Rattle.std.proofs.Common.{◌≡◌, ℕ, zero, suc, ◌+◌, ◌<◌, ◌≤◌, Bool, true, false, ◌&&◌, not, cond, eqb, List, [], ◌∷◌, ◌++◌, length, get_or, arith, refl, ap, sym, ◌∙◌, subst, inl, inr, ◌⊎◌}
use Rattle.std.specs.Prelude.{slice_get, slice_set, Option, Some, None}
use Rattle.cd_ledger.specs.declared.letters.Body.TheVariants as body
use Rattle.cd_ledger.specs.declared.events.Verdict.TheVariants as verdict
use Rattle.cd_ledger.specs.declared.events.Bound.TheVariants as bound'
use Rattle.cd_contract.specs.declared.held.Hit.{Hit}
use Rattle.cd_ledger.specs.declared.letters.Body.{Body}
use Rattle.cd_ledger.specs.declared.events.Verdict.{Verdict}
use Rattle.cd_ledger.specs.declared.events.Verdict.TheVariants.{Saturated}
use Rattle.cd_ledger.specs.declared.events.Act.{Act}
use Rattle.cd_ledger.specs.declared.events.Act.TheVariants.{Admit, Declare, End, Keep, Pass, Receive, Reject, Rewrite, Work}
use Rattle.cd_ledger.specs.declared.local.Local.{Local}
use Rattle.cd_list.specs.Lists.{tally}
use Rattle.cd_read.specs.declared.problem.Problem.{Problem}
use Rattle.cd_machine.specs.Acts.{admitted_body, body_letters, unshelved}
use Rattle.cd_machine.specs.Tokens.{passed}
use Rattle.cd_machine.specs.Events.{Found, acted, is_token, is_token_body, no_token, receives, sent_by}
use Rattle.cd_machine.specs.Fits.{EndFits, Fits, IsQuiet, TooLarge, WouldWork, body_ready, is_ready}
use Rattle.cd_machine.specs.World.{nobody}
use Rattle.cd_laws.specs.Closing.{IsStill, sums, sums_from}
use Rattle.cd_laws.proofs.Lists.{Each_at, Each_push, Each_remove, Each_weaker}
use Rattle.cd_laws.proofs.Spread.{IsNoReject}
use Rattle.cd_kbo.specs.declared.order.Order.{Order}

pub nothing_at : {A : Type 0} (xs : List A) (k : ℕ) (x : A) → xs ≡ [] → slice_get xs k ≡ Some x → ⊥
nothing_at xs k x e h = go k (subst (λ (ys : List _). slice_get ys k ≡ Some x) e h)
  where
    go : (k : ℕ) → slice_get [] k ≡ Some x → ⊥
    go zero h = cc
    go (suc k) h = cc

-- an event of a still peer: it receives a letter, or the peer stays still, sends none, and keeps no verdict but by Declare
abbrev pub IsDeclareAct : Act → Type 0
IsDeclareAct (Rewrite k) = ⊥
IsDeclareAct (Keep k) = ⊥
IsDeclareAct (Receive l) = ⊥
IsDeclareAct (Admit k) = ⊥
IsDeclareAct (Reject k) = ⊥
IsDeclareAct (Work t) = ⊥
IsDeclareAct Pass = ⊥
IsDeclareAct Declare = Unit {0}
IsDeclareAct (End v) = ⊥

would_not : (order : Order) → (s : Local) → IsStill s → WouldWork order s → ⊥
would_not order s h (inl x) = x h.owed
would_not order s h (inr x) = nothing_at s.pending x.0 x.1 h.pending x.2

too_large_not : (order : Order) → (s : Local) → IsStill s → TooLarge order s → ⊥
too_large_not order s h (inl x) = nothing_at s.pending x.0 x.1.item h.pending x.2
too_large_not order s h (inr x) = nothing_at s.owed x.1 x.0 h.owed x.3

pub end_not : (order : Order) → (s : Local) → IsStill s → (v : Verdict) → EndFits order s v → ⊥
end_not order s h verdict.Refuted x = x
end_not order s h verdict.Saturated x = x
end_not order s h verdict.Spent x = would_not order s h x.1
end_not order s h (verdict.Limit bound'.Bounds) x = too_large_not order s h x.1
end_not order s h (verdict.Limit bound'.Names) x = nothing_at s.pending x.1.0 x.1.1 h.pending x.1.2

pub still_acted : (order : Order) → (p : Problem) (s : Local) (time : ℕ) (a : Act) (f : Found a) → Fits order p s a f → IsNoReject a → IsStill s
    → (receives a ≡ 1) ⊎ (((IsDeclareAct a → ⊥) → IsStill (acted s a f)) × (tally no_token (sent_by s time a f) ≡ 0) × (receives a ≡ 0))
still_acted order p s time (Rewrite k) f fits fine h = absurd (nothing_at s.pending k f.item h.pending fits.there)
still_acted order p s time (Keep k) f fits fine h = absurd (nothing_at s.pending k f.item h.pending fits.there)
still_acted order p s time (Receive l) f fits fine h = go (is_token l) refl
  where
    go : (b : Bool) → is_token l ≡ b → (◌≡◌ {A = ℕ} (cond b 0 1) 1) ⊎ (((IsDeclareAct (Receive l) → ⊥) → IsStill (record s { waiting = s.waiting ++ l ∷ [] })) × ◌≡◌ {A = ℕ} 0 0 × (◌≡◌ {A = ℕ} (cond b 0 1) 0))
    go true e = inr ((λ n. record { pending = h.pending; owed = h.owed; waiting = Each_push (λ x. (no_token x && is_ready s.known x) ≡ false) s.waiting l h.waiting (rw e refl); running = h.running }), refl, refl)
    go false e = inl refl
still_acted order p s time (Admit k) f fits fine h = go f.letter.body f.forward refl (Each_at (λ x. (no_token x && is_ready s.known x) ≡ false) s.waiting k f.letter fits.there h.waiting) fits.ready
  where
    go : (b : Body) (o : Option Hit) → f.letter.body ≡ b → (not (is_token_body f.letter.body) && body_ready s.known f.letter.body) ≡ false → body_ready s.known f.letter.body ≡ true
        → (◌≡◌ {A = ℕ} 0 1) ⊎ (((IsDeclareAct (Admit k) → ⊥) → IsStill (admitted_body (unshelved s k) b o f.hit)) × (tally no_token (body_letters s time b o f.hit) ≡ 0) × ◌≡◌ {A = ℕ} 0 0)
    go (body.Kept r) o e x y = absurd (clash (is_token_body f.letter.body) (ap is_token_body e) x y)
      where
        clash : (b : Bool) → b ≡ false → (not b && body_ready s.known f.letter.body) ≡ false → body_ready s.known f.letter.body ≡ true → ⊥
        clash true e x y = cc
        clash false e x y = let z : true ≡ false = sym y ∙ x in cc
    go (body.Notice of by w) o e x y = absurd (clash (is_token_body f.letter.body) (ap is_token_body e) x y)
      where
        clash : (b : Bool) → b ≡ false → (not b && body_ready s.known f.letter.body) ≡ false → body_ready s.known f.letter.body ≡ true → ⊥
        clash true e x y = cc
        clash false e x y = let z : true ≡ false = sym y ∙ x in cc
    go (body.Token t) o e x y = inr ((λ n. record { pending = h.pending; owed = h.owed; waiting = Each_remove (λ x. (no_token x && is_ready s.known x) ≡ false) s.waiting k h.waiting; running = h.running }), refl, refl)
still_acted order p s time (Reject k) f fits fine h = absurd fine
still_acted order p s time (Work t) f fits fine h = absurd (nothing_at s.owed fits.1.takes.place t h.owed fits.1.takes.there)
still_acted order p s time Pass f fits fine h = go (eqb s.peers 1)
  where
    go : (b : Bool) → (◌≡◌ {A = ℕ} 0 1) ⊎ (((IsDeclareAct Pass → ⊥) → IsStill (cond b (record s { token = Some (passed s.peers s.count f) }) (record s { token = None })))
        × (tally no_token (cond b [] (record { sender = s.me; to = cond (eqb (s.me + 1) s.peers) 0 (s.me + 1); time = time; body = body.Token (passed s.peers s.count f) } ∷ [])) ≡ 0) × ◌≡◌ {A = ℕ} 0 0)
    go true = inr ((λ n. record { pending = h.pending; owed = h.owed; waiting = h.waiting; running = h.running }), refl, refl)
    go false = inr ((λ n. record { pending = h.pending; owed = h.owed; waiting = h.waiting; running = h.running }), omega arith, refl)
still_acted order p s time Declare f fits fine h = inr ((λ n. absurd (n tt)), refl, refl)
still_acted order p s time (End v) f fits fine h = absurd (end_not order s h v fits)

-- what a quiet peer is
pub quiet_still : (s : Local) → IsQuiet s → s.verdict ≡ None → IsStill s
quiet_still s h v = record {
  pending = h.pending;
  owed = h.owed;
  running = v;
  waiting = Each_weaker (λ l. is_ready s.known l ≡ false) (λ l. (no_token l && is_ready s.known l) ≡ false) (λ l x. rw x (elim (no_token l) as (λ b. (b && false) ≡ false) [ true ↦ refl | false ↦ refl ])) s.waiting h.waiting;
}

-- sums
pub sums_set : (f : Local → ℕ) (ls : List Local) (k : ℕ) (s : Local) → k < length ls → sums f (slice_set ls k s) + f (get_or ls k nobody) ≡ sums f ls + f s
sums_set f [] k s h = absurd (omega arith)
sums_set f (x ∷ ls) zero s h = omega arith
sums_set f (x ∷ ls) (suc k) s h = omega (arith, sums_set f ls k s (omega (arith, h)))

-- sums that grow place by place
pub sums_grow : (f : Local → ℕ) (j : ℕ) (xs ys : List Local) → length ys ≡ length xs → ((k : ℕ) → k < length xs → f (get_or xs k nobody) ≤ f (get_or ys k nobody)) → sums_from f j xs ≤ sums_from f j ys
sums_grow f zero [] [] e h = omega arith
sums_grow f zero (x ∷ xs) [] e h = absurd (omega (arith, e))
sums_grow f zero [] (y ∷ ys) e h = absurd (omega (arith, e))
sums_grow f zero (x ∷ xs) (y ∷ ys) e h = let a = h 0 (omega arith) in let b = sums_grow f zero xs ys (omega (arith, e)) (λ k l. h (suc k) (omega (arith, l))) in omega (arith, a, b)
sums_grow f (suc j) [] [] e h = omega arith
sums_grow f (suc j) (x ∷ xs) [] e h = absurd (omega (arith, e))
sums_grow f (suc j) [] (y ∷ ys) e h = absurd (omega (arith, e))
sums_grow f (suc j) (x ∷ xs) (y ∷ ys) e h = sums_grow f j xs ys (omega (arith, e)) (λ k l. h (suc k) (omega (arith, l)))

-- the sum from a place on is that place's part and the rest
pub sums_next : (f : Local → ℕ) (j : ℕ) (xs : List Local) → j < length xs → sums_from f j xs ≡ f (get_or xs j nobody) + sums_from f (suc j) xs
sums_next f zero [] h = absurd (omega arith)
sums_next f zero (x ∷ xs) h = refl
sums_next f (suc j) [] h = absurd (omega arith)
sums_next f (suc j) (x ∷ xs) h = sums_next f j xs (omega (arith, h))

pub sums_end : (f : Local → ℕ) (xs : List Local) → sums_from f (length xs) xs ≡ 0
sums_end f [] = refl
sums_end f (x ∷ xs) = sums_end f xs
