use Rattle.std.proofs.Common.{◌≡◌, List, ◌++◌}
use Rattle.patricia_wire.specs.Records.{Record, canonical_bytes_of}
use Rattle.patricia_codec.specs.Internal.Lefts.{SomeLeft, IsAt, weight_left}
use Rattle.patricia_codec.proofs.EncodeLemmas.{AreShallow}
use Rattle.patricia_codec.proofs.encoder.encode.Given as goal

-- behind the root's, the records that were taken are written, and the others are left
abbrev pub invariant-loop-records : goal.invariant-loop-records
invariant-loop-records g l = record {
  some : SomeLeft g.K.Bytes.item l.records;
  taken : List Record;
  at : IsAt g.K.Bytes.item l.arena l.records taken;
  shallow : AreShallow g.W.Width.width taken;
  written : l.out.items ≡ l.initial.out.items ++ canonical_bytes_of g.W.Width.width taken;
}

abbrev pub decreases-loop-records : goal.decreases-loop-records
decreases-loop-records g l = weight_left l.records
