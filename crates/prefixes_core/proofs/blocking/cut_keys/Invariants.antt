use Rattle.std.proofs.Common.{◌≡◌, drop, take, map as list_map}
use Rattle.std.specs.List.{flat_map}
use Rattle.prefixes_core.specs.Internal.Reversed.{host_key}
use Rattle.prefixes_core.proofs.blocking.cut_keys.Given as goal

-- the keys so far are cut off, and those of the other hosts are left
abbrev pub invariant-loop-host : goal.invariant-loop-host
invariant-loop-host l =
    record {
      left : l.rest ≡ flat_map (λ host. host_key host.now) (drop l.host-index l.hosts);
      cut : list_map (λ key. key.now) l.cut.items
          ≡ list_map (λ host. host_key host.now) (take l.host-index l.hosts);
    }
