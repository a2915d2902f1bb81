use Rattle.std.proofs.Common.{refl}
use Rattle.prefixes_core.specs.Networks.{network_key}
use Rattle.prefixes_core.proofs.listing.NetworksDestination.add_entry.Goals as goal

pub returns-in-Ok-add-clause-taken : goal.returns-in-Ok-add-clause-taken
returns-in-Ok-add-clause-taken c =
    let written = c.in-Ok.ensures.ok in (
      network_key c.in-Ok.network.0 c.in-Ok.network.1,
      record {
        address = c.in-Ok.network.0;
        writes = written.0;
        count = c.in-Ok.network.1;
        fixes = written.1;
        is = refl;
      },
    )
