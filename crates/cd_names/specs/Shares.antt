-- The owners of recorded clauses.
use Rattle.std.specs.Prelude.{ℕ, ◌+◌, ◌%◌}
use Rattle.cd_names.specs.declared.ownership.Policy.{Policy}
use Rattle.cd_names.specs.declared.ownership.Policy.TheVariants.{Round, Issuer, Size}

-- the owner of the clause of a size that a peer records after so many others
abbrev pub owner : Policy → ℕ → ℕ → ℕ → ℕ → ℕ
owner Round issuer seq size peers = (issuer + seq) % peers
owner Issuer issuer seq size peers = issuer
owner Size issuer seq size peers = size % peers
