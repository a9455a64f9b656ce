-- The laws of names, stamps and owners that other crates build on. Each is the contract of a function of the
-- module `laws`.
-- Beyond the headline: no clause of `prove` reaches this file.
use Rattle.std.specs.Prelude.{ℕ, ◌≡◌, ◌≢◌, ◌<◌}
use Rattle.std.specs.Cmp.{IsTotalOrder}
use Rattle.std.specs.declared.cmp.Ordering.{Ordering}
use Rattle.std.specs.declared.cmp.Ordering.TheVariants.{Less, Equal}
use Rattle.cd_names.specs.declared.ownership.Policy.{Policy}
use Rattle.cd_names.specs.Shares.{owner}

-- an order that is antisymmetric and transitive, in which nothing is below itself and only what is the same
-- compares as equal
pub record IsLinearOrder {K : Type 0} (cmp : K → K → Ordering) : Type 0 where
  pub total : IsTotalOrder cmp
  pub irreflexive : (x : K) → cmp x x ≢ Less
  pub distinct : (x y : K) → cmp x y ≡ Equal → x ≡ y

-- the owner is a peer, where the issuer is one
abbrev pub OwnersArePeers : Type 0
OwnersArePeers = (policy : Policy) (issuer seq size peers : ℕ) → issuer < peers →
    owner policy issuer seq size peers < peers
