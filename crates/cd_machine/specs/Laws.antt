-- The laws of the machine's definitions that code is built on. Each is the contract of a function of the crate.
-- Beyond the headline: no clause of `prove` reaches this file.
use Rattle.std.specs.Prelude.{◌≡◌, ◌↔◌, ℕ, true}
use Rattle.cd_names.specs.Waves.{IsWaveClosed}
use Rattle.cd_names.specs.declared.waves.Token.{Token}
use Rattle.cd_machine.specs.Tokens.{wave_closed}

-- the test of a wave is the definition of one that is closed
abbrev pub WavesAreTested : Type 0
WavesAreTested = (t : Token) (peers : ℕ) → (wave_closed peers t ≡ true) ↔ IsWaveClosed t peers
