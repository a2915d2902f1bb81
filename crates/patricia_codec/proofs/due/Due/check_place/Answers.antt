use Rattle.std.proofs.Common.{refl, sym}
use Rattle.std.specs.Option.{option_copied}
use Rattle.patricia_wire.specs.Records.{Record}
use Rattle.patricia_wire.specs.Internal.Readings.{level, root_label, root_sibling, empty_label, Due}
use Rattle.patricia_wire.proofs.Rules.{below_level}
use Rattle.patricia_codec.proofs.CheckLemmas.{kept_level, kept_root_label, kept_root_sibling}
use Rattle.patricia_codec.proofs.CheckLemmas.{breaks_root_label, breaks_root_sibling}
use Rattle.patricia_codec.proofs.CheckLemmas.{breaks_empty_label}
use Rattle.patricia_codec.proofs.due.Due.check_place.Goals as goal

pub returns-then-record-self-clause-broken : goal.returns-then-record-self-clause-broken
returns-then-record-self-clause-broken g c left =
    let due : Due = record { level = c.self.inside.level; after = option_copied c.self.inside.after } in
    let r : Record = record {
      level = c.record.inside.level;
      label = c.record.inside.label.now;
      value = c.record.inside.value;
      child = c.record.inside.child;
      sibling = c.record.inside.sibling;
    } in
    rw (sym c.self.view_is, sym c.record.view_is) (record {
      rule = level;
      names = refl;
      broken = (c.if-record-self.true, below_level g.K.Bytes.item due left r);
    })

pub returns-then-root-is_empty-clause-broken : goal.returns-then-root-is_empty-clause-broken
returns-then-root-is_empty-clause-broken g c left =
    let due : Due = record { level = c.self.inside.level; after = option_copied c.self.inside.after } in
    let r : Record = record {
      level = c.record.inside.level;
      label = c.record.inside.label.now;
      value = c.record.inside.value;
      child = c.record.inside.child;
      sibling = c.record.inside.sibling;
    } in
    rw (sym c.self.view_is, sym c.record.view_is) (record {
      rule = root_label;
      names = refl;
      broken = (
        breaks_root_label g.K.Bytes.item due left r c.is_empty.result c.is_empty.ensures
            c.if-root-is_empty.true,
        kept_level g.K.Bytes.item due left r c.if-record-self.false,
      );
    })

pub returns-then-root-record-clause-broken : goal.returns-then-root-record-clause-broken
returns-then-root-record-clause-broken g c left =
    let due : Due = record { level = c.self.inside.level; after = option_copied c.self.inside.after } in
    let r : Record = record {
      level = c.record.inside.level;
      label = c.record.inside.label.now;
      value = c.record.inside.value;
      child = c.record.inside.child;
      sibling = c.record.inside.sibling;
    } in
    rw (sym c.self.view_is, sym c.record.view_is) (record {
      rule = root_sibling;
      names = refl;
      broken = (
        breaks_root_sibling g.K.Bytes.item due left r c.if-root-record.true,
        kept_root_label
            g.K.Bytes.item due left r c.if-record-self.false c.is_empty.result c.is_empty.ensures
            c.if-root-is_empty.false,
      );
    })

pub returns-then-root-is_empty-2-clause-broken : goal.returns-then-root-is_empty-2-clause-broken
returns-then-root-is_empty-2-clause-broken g c left =
    let due : Due = record { level = c.self.inside.level; after = option_copied c.self.inside.after } in
    let r : Record = record {
      level = c.record.inside.level;
      label = c.record.inside.label.now;
      value = c.record.inside.value;
      child = c.record.inside.child;
      sibling = c.record.inside.sibling;
    } in
    rw (sym c.self.view_is, sym c.record.view_is) (record {
      rule = empty_label;
      names = refl;
      broken = (
        breaks_empty_label g.K.Bytes.item due left r c.is_empty-2.result c.is_empty-2.ensures
            c.if-root-is_empty-2.true,
        kept_root_sibling g.K.Bytes.item due left r
            (kept_root_label g.K.Bytes.item due left r c.if-record-self.false c.is_empty.result
            c.is_empty.ensures c.if-root-is_empty.false) c.if-root-record.false,
      );
    })
