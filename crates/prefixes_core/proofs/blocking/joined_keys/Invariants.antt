use Rattle.std.proofs.Common.{◌≡◌, ◌++◌, drop}
use Rattle.std.specs.List.{flat_map}
use Rattle.prefixes_core.specs.Internal.Reversed.{host_key}
use Rattle.prefixes_core.proofs.blocking.joined_keys.Given as goal

-- the keys so far, and then those of the hosts that are left
abbrev pub invariant-loop-host : goal.invariant-loop-host
invariant-loop-host l =
    l.keys.items ++ flat_map (λ host. host_key host.now) (drop l.host-index l.hosts)
    ≡ flat_map (λ host. host_key host.now) l.hosts
