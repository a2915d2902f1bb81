use Rattle.std.proofs.Common.{arith}
use Rattle.patricia_many.proofs.lookup.Lookup.keep.Goals as goal

pub some-self-requires : goal.some-self-requires
some-self-requires g c =
    omega (arith, c.requires, c.len-few.ensures.value, c.len-few.ensures.few)
