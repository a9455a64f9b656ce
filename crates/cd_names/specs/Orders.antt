-- The orders of names and of stamps.
-- Beyond the headline: no clause of `prove` reaches stamp_cmp.
use Rattle.std.specs.Ordering.{nat_cmp, on, then_cmp}
use Rattle.std.specs.declared.cmp.Ordering.{Ordering}
use Rattle.cd_names.specs.declared.names.Name.{Name}
use Rattle.cd_names.specs.declared.names.Stamp.{Stamp}

-- by the number of earlier records, and then by the peer
abbrev pub name_cmp : Name → Name → Ordering
name_cmp = then_cmp (on (λ name. name.seq) nat_cmp) (on (λ name. name.peer) nat_cmp)

-- by the time, and then by the peer
abbrev pub stamp_cmp : Stamp → Stamp → Ordering
stamp_cmp = then_cmp (on (λ stamp. stamp.time) nat_cmp) (on (λ stamp. stamp.peer) nat_cmp)
