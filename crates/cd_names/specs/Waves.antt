-- Waves of counts.
-- Beyond the headline: no clause of `prove` reaches this file.
use Rattle.std.specs.Prelude.{ℕ, ◌≡◌, length, sum_by}
use Rattle.cd_names.specs.declared.waves.Token.{Token}

-- both waves have a count of each peer, and as many letters were received by the first as were sent by the
-- second
abbrev pub IsWaveClosed : Token → ℕ → Type 0
IsWaveClosed token peers = (length token.one ≡ peers) × (length token.two ≡ peers)
    × (sum_by (λ count. count.received) token.one ≡ sum_by (λ count. count.sent) token.two)
