-- The test of a wave is the definition of one that is closed.
use Rattle.std.proofs.Common.{◌≡◌, ℕ, true, eqb, List, [], ◌∷◌, length, sum_by, refl, sym, ◌∙◌, arith}
use Rattle.std.proofs.lemmas.Bool.{eqb-true, and_parts, and_from}
use Rattle.std.proofs.lemmas.Bool.Decides.{nat_tests}
use Rattle.std.proofs.lemmas.List.Sums.{sum_by-cons}
use Rattle.cd_names.specs.declared.waves.Count.{Count}
use Rattle.cd_names.specs.Waves.{IsWaveClosed}
use Rattle.cd_machine.specs.Tokens.{is_full, received_sum, sent_sum, wave_closed}
use Rattle.cd_machine.specs.Laws.{WavesAreTested}

all_received : (cs : List Count) → received_sum cs ≡ sum_by (λ c. c.received) cs
all_received [] = refl
all_received (c ∷ cs) = omega (arith, all_received cs, sum_by-cons (λ (x : Count). x.received) c cs)

all_sent : (cs : List Count) → sent_sum cs ≡ sum_by (λ c. c.sent) cs
all_sent [] = refl
all_sent (c ∷ cs) = omega (arith, all_sent cs, sum_by-cons (λ (x : Count). x.sent) c cs)

pub waves_are_tested : WavesAreTested
waves_are_tested t n = (there, back)
  where
    there : wave_closed n t ≡ true → IsWaveClosed t n
    there e =
        let x = and_parts (is_full n t) (eqb (received_sum t.one) (sent_sum t.two)) e in
        let y = and_parts (eqb (length t.one) n) (eqb (length t.two) n) x.0 in
        (eqb-true _ _ y.0, eqb-true _ _ y.1, sym (all_received t.one) ∙ eqb-true _ _ x.1 ∙ all_sent t.two)

    test : (a b : ℕ) → a ≡ b → eqb a b ≡ true
    test a b e = grind (arith, nat_tests, e)

    back : IsWaveClosed t n → wave_closed n t ≡ true
    back c = and_from (is_full n t) (eqb (received_sum t.one) (sent_sum t.two))
        (and_from (eqb (length t.one) n) (eqb (length t.two) n) (test (length t.one) n c.0) (test (length t.two) n c.1))
        (test (received_sum t.one) (sent_sum t.two) (all_received t.one ∙ c.2 ∙ sym (all_sent t.two)))
