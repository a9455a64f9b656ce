-- The token: two waves of counts around the ring of peers.
use Rattle.std.specs.Prelude.{Bool, List, None, Some, [], if◌then◌else◌, length, nat_lt, ℕ, ◌&&◌, ◌++◌, ◌+◌, ◌==◌, ◌∷◌}
use Rattle.cd_ledger.specs.declared.letters.Letter.{Letter}
use Rattle.cd_ledger.specs.declared.local.Local.{Local}
use Rattle.cd_names.specs.declared.waves.Count.{Count}
use Rattle.cd_names.specs.declared.waves.Token.{Token}
use Rattle.cd_ledger.specs.declared.letters.Body.TheVariants as body

-- both waves have a count of each peer
abbrev pub is_full : ℕ → Token → Bool
is_full peers t = (length t.one == peers) && (length t.two == peers)

-- a full second wave becomes the first
abbrev pub turned : ℕ → Token → Token
turned peers t = if is_full peers t then record { one = t.two; two = [] } else t

-- a peer's counts join the first wave that isn't full
abbrev pub counted : ℕ → Count → Token → Token
counted peers c t = if nat_lt (length t.one) peers then record t { one = t.one ++ c ∷ [] } else record t { two = t.two ++ c ∷ [] }

-- the token as a peer passes it on
abbrev pub passed : ℕ → Count → Token → Token
passed peers c t = counted peers c (turned peers t)

-- around the ring
abbrev pub next_peer : Local → ℕ
next_peer s = if s.me + 1 == s.peers then 0 else s.me + 1

-- the state of a peer that passed the token on; alone, it keeps it
abbrev pub passed_by : Local → Token → Local
passed_by s t = if s.peers == 1 then record s { token = Some (passed s.peers s.count t) } else record s { token = None }

-- the letter that brings it on
abbrev pub token_letters : Local → ℕ → Token → List Letter
token_letters s time t = if s.peers == 1 then [] else record { sender = s.me; to = next_peer s; time = time; body = body.Token (passed s.peers s.count t) } ∷ []

-- the letters received by a wave
abbrev pub received_sum : List Count → ℕ
received_sum [] = 0
received_sum (c ∷ cs) = c.received + received_sum cs

-- the letters sent by a wave
abbrev pub sent_sum : List Count → ℕ
sent_sum [] = 0
sent_sum (c ∷ cs) = c.sent + sent_sum cs

-- both waves are full, and as many letters were received by the first as were sent by the second
abbrev pub wave_closed : ℕ → Token → Bool
wave_closed peers t = is_full peers t && (received_sum t.one == sent_sum t.two)
