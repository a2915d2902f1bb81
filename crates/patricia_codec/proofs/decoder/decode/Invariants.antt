use Rattle.std.proofs.Common.{◌≡◌, ◌-◌, List, ◌++◌, length}
use Rattle.std.specs.Vec.Iter.{into_iter_items, into_iter_len}
use Rattle.patricia_wire.specs.Records.{Record}
use Rattle.patricia_wire.specs.Faults.{value_marks}
use Rattle.patricia_wire.specs.Internal.Readings.{Due}
use Rattle.patricia_codec.specs.Internal.Steps.{IsReading}
use Rattle.patricia_codec.specs.Internal.Placing.{IsPlaced}
use Rattle.patricia_codec.proofs.decoder.decode.Given as goal

-- these records are read and built, with the values that are taken, and the other values are left
abbrev pub invariant-loop-counts : goal.invariant-loop-counts
invariant-loop-counts g l = record {
  before : List Record;
  due : List Due;
  taken : List g.row.V.Denot;
  reading :
      IsReading g.K.Bytes.item g.W.Width.width (length (into_iter_items l.initial.values)) l.reader before due;
  built : IsPlaced g.K.Bytes.item l.builder before due taken;
  split : into_iter_items l.initial.values ≡ taken ++ into_iter_items l.values;
  left : into_iter_len l.values ≡ length (into_iter_items l.values);
  marks : length taken ≡ value_marks before;
  bytes : l.reader.bytes ≡ l.initial.reader.bytes;
}

abbrev pub decreases-loop-counts : goal.decreases-loop-counts
decreases-loop-counts g l = length l.reader.bytes.now - l.reader.offset
