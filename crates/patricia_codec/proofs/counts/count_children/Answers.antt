use Rattle.std.proofs.Common.{length, ap, arith}
use Rattle.patricia_wire.specs.Records.{Record}
use Rattle.patricia_codec.proofs.ReaderLemmas.{front_long}
use Rattle.patricia_codec.proofs.counts.count_children.Goals as goal

pub slice_bounds-rest-count : goal.slice_bounds-rest-count
slice_bounds-rest-count g c = omega (
  arith,
  c.head.ensures.bytes,
  front_long g.W.Width.width c.in-Some.record c.loop-record.rest.now c.in-Some.ensures.some,
  ap (λ (r : Record). length r.label) c.record.view_is,
)

pub slice_bounds-rest-start : goal.slice_bounds-rest-start
slice_bounds-rest-start g c = omega (
  arith,
  c.head.ensures.bytes,
  front_long g.W.Width.width c.in-Some.record c.loop-record.rest.now c.in-Some.ensures.some,
  ap (λ (r : Record). length r.label) c.record.view_is,
)
