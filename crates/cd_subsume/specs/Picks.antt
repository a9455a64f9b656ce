-- The order of picks: by places, and at one place first the literal as it stands.
-- Beyond the headline: no clause of `prove` reaches this file.
use Rattle.std.specs.Prelude.{ℕ, ◌+◌, ◌*◌, if◌then◌else◌}
use Rattle.cd_subsume.specs.declared.picks.Pick.{Pick}

-- the number of picks before one
abbrev pub code_of : Pick → ℕ
code_of p = 2 * p.place + (if p.is_exchanged then 1 else 0)
