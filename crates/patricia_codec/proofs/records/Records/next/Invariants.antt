use Rattle.std.proofs.Common.{List, ◌≤◌}
use Rattle.std.specs.Vec.{vec_len}
use Rattle.patricia_wire.specs.Records.{Record}
use Rattle.patricia_codec.specs.Internal.Lefts.{AreRecordsLeft, SomeLeft, weight_left}
use Rattle.patricia_codec.proofs.records.Records.next.Given as goal

-- what is left is what was left
abbrev pub invariant-loop-id : goal.invariant-loop-id
invariant-loop-id g l = record {
  some : SomeLeft g.K.Bytes.item l.self;
  same : (R : List Record) → AreRecordsLeft g.K.Bytes.item l.initial.self R
      → AreRecordsLeft g.K.Bytes.item l.self R;
  lighter : weight_left l.self ≤ weight_left l.initial.self;
}

abbrev pub decreases-loop-id : goal.decreases-loop-id
decreases-loop-id g l = vec_len l.self.stack
