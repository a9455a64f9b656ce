-- When a wave is closed.
use Rattle.std.proofs.Common.{◌≡◌, ◌↔◌, ℕ, ◌+◌, Bool, true, false, ◌&&◌, eqb, List, [], ◌∷◌, length, sum_by, refl, ap, sym, ◌∙◌, arith}
use Rattle.std.proofs.lemmas.Bool.{eqb-true}
use Rattle.std.proofs.lemmas.Bool.Decides.{nat_tests}
use Rattle.std.proofs.lemmas.List.Sums.{sum_by-cons}
use Rattle.cd_names.specs.Waves.{IsWaveClosed}
use Rattle.cd_names.specs.declared.waves.Count.{Count}
use Rattle.cd_names.specs.declared.waves.Token.{Token}
use Rattle.cd_machine.specs.Tokens.{is_full, received_sum, sent_sum, wave_closed}
use Rattle.cd_acts.proofs.Lists.{and_true}

received_is : (cs : List Count) → received_sum cs ≡ sum_by (λ c. c.received) cs
received_is [] = refl
received_is (c ∷ cs) = ap (λ n. c.received + n) (received_is cs) ∙ sym (sum_by-cons (λ (x : Count). x.received) c cs)

sent_is : (cs : List Count) → sent_sum cs ≡ sum_by (λ c. c.sent) cs
sent_is [] = refl
sent_is (c ∷ cs) = ap (λ n. c.sent + n) (sent_is cs) ∙ sym (sum_by-cons (λ (x : Count). x.sent) c cs)

eqb_same : (m n : ℕ) → m ≡ n → eqb m n ≡ true
eqb_same m n h = grind (arith, nat_tests)

pub closed_to : (t : Token) (peers : ℕ) → IsWaveClosed t peers → wave_closed peers t ≡ true
closed_to t peers w =
    rw (eqb_same (length t.one) peers w.0, eqb_same (length t.two) peers w.1)
    (eqb_same (received_sum t.one) (sent_sum t.two) (received_is t.one ∙ w.2 ∙ sym (sent_is t.two)))

pub closed_from : (t : Token) (peers : ℕ) → wave_closed peers t ≡ true → IsWaveClosed t peers
closed_from t peers h =
    let a = and_true (is_full peers t) (eqb (received_sum t.one) (sent_sum t.two)) h in
    let b = and_true (eqb (length t.one) peers) (eqb (length t.two) peers) a.0 in
    (eqb-true (length t.one) peers b.0, eqb-true (length t.two) peers b.1, sym (received_is t.one) ∙ eqb-true (received_sum t.one) (sent_sum t.two) a.1 ∙ sent_is t.two)
