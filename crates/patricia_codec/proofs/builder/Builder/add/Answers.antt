use Rattle.std.proofs.Common.{subst}
use Rattle.patricia_wire.specs.Records.{Record}
use Rattle.patricia_codec.specs.Internal.Placing.{AddsRootAt, PreparesAt, ClosesAt}
use Rattle.patricia_codec.proofs.BuildLemmas.{on_ok}
use Rattle.patricia_codec.proofs.PlacedRecords.{added_at, rooted_at}
use Rattle.patricia_codec.proofs.builder.Builder.add.Goals as goal

pub returns-in-Root : goal.returns-in-Root
returns-in-Root g c =
    on_ok c.add_root.result
    (λ adds. rooted_at g.K.Bytes.item c.args.self.now c.add_root.new.self c.args.record.now c.args.value c.in-Root.is
    (subst (λ (r : Record). AddsRootAt c.args.self.now c.args.value r.child c.add_root.new.self) c.record.view_is adds)) c.add_root.ensures

pub returns : goal.returns
returns g c =
    let r = c.args.record.now in
    let view = c.record.view_is in
    let prepared = subst (λ (r : Record). PreparesAt c.args.self.now.next c.args.self.now r.sibling c.prepare.new.self) view c.in_ok-prepare.ensures in
    on_ok c.close.result
    (λ closes. added_at g.K.Bytes.item c.args.self.now c.prepare.new.self c.open.new.self
    c.close.new.self r c.args.value c.in_default.not-Root prepared c.in_ok-open.ensures
    (subst (λ (r : Record). ClosesAt c.open.new.self c.args.value r.child c.close.new.self)
    view closes)) c.close.ensures
