-- There is exactly one token.
use Rattle.std.proofs.Common.{◌≡◌, ℕ, zero, suc, ◌+◌, ◌<◌, ◌≤◌, true, false, cond, eqb, List, [], ◌∷◌, length, get_or, arith, refl, ◌∙◌}
use Rattle.std.specs.Prelude.{slice_set, remove, Option, Some, None}
use Rattle.cd_ledger.specs.declared.letters.Body.TheVariants as body
use Rattle.cd_names.specs.declared.names.Name.{Name}
use Rattle.cd_names.specs.declared.How.{How}
use Rattle.cd_contract.specs.declared.held.Hit.{Hit}
use Rattle.cd_ledger.specs.declared.records.Record.{Record}
use Rattle.cd_ledger.specs.declared.records.Known.{Known}
use Rattle.cd_ledger.specs.declared.items.Outcome.{Outcome}
use Rattle.cd_ledger.specs.declared.items.Outcome.TheVariants.{Named, Subsumed, Trivial}
use Rattle.cd_ledger.specs.declared.letters.Body.{Body}
use Rattle.cd_ledger.specs.declared.events.Act.{Act}
use Rattle.cd_ledger.specs.declared.events.Act.TheVariants.{Admit, Declare, End, Keep, Pass, Receive, Reject, Rewrite, Work}
use Rattle.cd_ledger.specs.declared.local.Local.{Local}
use Rattle.cd_list.specs.Lists.{tally}
use Rattle.std.specs.Prelude.{is_some}
use Rattle.cd_read.specs.declared.problem.Problem.{Problem}
use Rattle.cd_machine.specs.Arrivals.{new_record, next_name}
use Rattle.cd_machine.specs.Contraction.{hit_on, named_hit, notice_of, notices}
use Rattle.cd_machine.specs.Acts.{admitted_body, body_letters, broadcast, keep_letters, kept, kept_letter, taken, unshelved}
use Rattle.cd_machine.specs.Tokens.{passed}
use Rattle.cd_machine.specs.Events.{Found, acted, is_token, is_token_body, sent_by}
use Rattle.cd_machine.specs.Fits.{BodyFine, Fits}
use Rattle.cd_machine.specs.World.{nobody}
use Rattle.cd_laws.specs.Sound.{tokens_at, tokens_of}
use Rattle.cd_laws.proofs.Lists.{tally_append, tally_gather, tally_none, tally_push, tally_remove}
use Rattle.cd_laws.proofs.Steps.{received}
use Rattle.cd_laws.proofs.Spread.{IsNoReject, notice_none}
use Rattle.cd_kbo.specs.declared.order.Order.{Order}

notices_tokens : (me time : ℕ) (hit : Known → Option How) (d : Name) (es : List Known) → tally is_token (notices me time hit d es) ≡ 0
notices_tokens me time hit d es =
    tally_gather is_token (λ e. notice_of me time d e.entry (hit_on hit e)) (λ e. false) (λ e. notice_none is_token (λ a b c d e. refl) me time d e.entry (hit_on hit e)) es
    ∙ tally_none (λ e. false) (λ e. refl) es

broadcast_tokens : (me time : ℕ) (r : Record) (m : ℕ) → tally is_token (broadcast me time r m) ≡ 0
broadcast_tokens me time r zero = refl
broadcast_tokens me time r (suc m) =
    let t = tally_append is_token (broadcast me time r m) (cond (eqb m me) [] (kept_letter me time r m ∷ [])) in
    let e : tally is_token (cond (eqb m me) [] (kept_letter me time r m ∷ [])) ≡ 0 = elim (eqb m me) as (λ b. tally is_token (cond b [] (kept_letter me time r m ∷ [])) ≡ 0) [ true ↦ refl | false ↦ refl ] in
    omega (arith, t, e, broadcast_tokens me time r m)

pub tokens_acted : (order : Order) → (p : Problem) (s : Local) (time : ℕ) (a : Act) (f : Found a) → Fits order p s a f → IsNoReject a
    → tokens_at (acted s a f) + tally is_token (sent_by s time a f) ≡ tokens_at s + received is_token a
tokens_acted order p s time (Rewrite k) f fits fine = omega arith
tokens_acted order p s time (Keep k) f fits fine = go f.outcome
  where
    go : (o : Outcome) → tokens_at (kept s k f.item o f.hit) + tally is_token (keep_letters s time k f.item o f.hit) ≡ tokens_at s + 0
    go (Named m) = omega (arith, tally_append is_token (broadcast s.me time (new_record s f.item) s.peers) (notices s.me time f.hit (next_name s) (taken s k f.item (Named m)).known), broadcast_tokens s.me time (new_record s f.item) s.peers, notices_tokens s.me time f.hit (next_name s) (taken s k f.item (Named m)).known)
    go Trivial = omega arith
    go (Subsumed d) = omega arith
tokens_acted order p s time (Receive l) f fits fine = omega (arith, tally_push is_token s.waiting l)
tokens_acted order p s time (Admit k) f fits fine = go f.letter.body f.forward fits.fine.3 (tally_remove is_token s.waiting k f.letter fits.there)
  where
    go : (b : Body) (o : Option Hit) → BodyFine order p s f.letter.sender b → tally is_token s.waiting ≡ tally is_token (remove s.waiting k) + cond (is_token_body b) 1 0
        → tokens_at (admitted_body (unshelved s k) b o f.hit) + tally is_token (body_letters s time b o f.hit) ≡ tokens_at s + 0
    go (body.Kept r) None x e = omega (arith, e, notices_tokens s.me time f.hit r.name s.known)
    go (body.Kept r) (Some h) x e = omega (arith, e, notice_none is_token (λ a b c d e. refl) s.me time h.by r (Some h.how))
    go (body.Notice a b w) o x e = omega (arith, e, notices_tokens s.me time (named_hit a w) b s.known)
    go (body.Token t) o x e = let z : ◌≡◌ {A = ℕ} (cond (is_some s.token) 1 0) 0 = rw x.0 refl in omega (arith, e, z)
tokens_acted order p s time (Reject k) f fits fine = absurd fine
tokens_acted order p s time (Work t) f fits fine = omega arith
tokens_acted order p s time Pass f fits fine =
    let z : ◌≡◌ {A = ℕ} (cond (is_some s.token) 1 0) 1 = rw fits.1 refl in
    elim (eqb s.peers 1) as (λ b. tokens_at (cond b (record s { token = Some (passed s.peers s.count f) }) (record s { token = None }))
    + tally is_token (cond b [] (record { sender = s.me; to = cond (eqb (s.me + 1) s.peers) 0 (s.me + 1); time = time; body = body.Token (passed s.peers s.count f) } ∷ [])) ≡ tokens_at s + 0)
    [ true ↦ omega (arith, z) | false ↦ omega (arith, z) ]
tokens_acted order p s time Declare f fits fine = omega arith
tokens_acted order p s time (End v) f fits fine = omega arith

-- one peer's part of the sum
pub tokens_set : (ls : List Local) (k : ℕ) (s : Local) → k < length ls → tokens_of (slice_set ls k s) + tokens_at (get_or ls k nobody) ≡ tokens_of ls + tokens_at s
tokens_set [] k s h = absurd (omega arith)
tokens_set (x ∷ ls) zero s h = omega arith
tokens_set (x ∷ ls) (suc k) s h = omega (arith, tokens_set ls k s (omega (arith, h)))

pub tokens_some : (ls : List Local) (k : ℕ) → k < length ls → tokens_at (get_or ls k nobody) ≤ tokens_of ls
tokens_some [] k h = absurd (omega arith)
tokens_some (x ∷ ls) zero h = omega arith
tokens_some (x ∷ ls) (suc k) h = omega (arith, tokens_some ls k (omega (arith, h)))
