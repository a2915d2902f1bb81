use Rattle.std.proofs.Common.{refl, arith, ap, subst, sym, ◌∙◌}
use Rattle.std.specs.Option.{option_copied}
use Rattle.patricia_wire.specs.Records.{Record}
use Rattle.patricia_wire.specs.Internal.Readings.{empty_label, no_value_no_child, too_few_values}
use Rattle.patricia_wire.specs.Internal.Readings.{Due, BreaksNoneBelow}
use Rattle.patricia_codec.specs.Internal.Steps.{NamesFirst, BreaksLabel, KeepsLabel}
use Rattle.patricia_codec.proofs.CheckLemmas.{handed_on, broken_label, kept_label, breaks_marks}
use Rattle.patricia_codec.proofs.CheckLemmas.{kept_marks, kept_rules, breaks_values}
use Rattle.patricia_codec.proofs.due.Due.check.Goals as goal

pub check_label-requires-clause-nonempty : goal.check_label-requires-clause-nonempty
check_label-requires-clause-nonempty g c some none =
    c.in_ok-check_place.ensures.kept 0 empty_label (omega arith) (some, ap (λ (r : Record). r.label) (sym c.record.view_is) ∙ none)

pub returns-in_err-check_label-clause-broken : goal.returns-in_err-check_label-clause-broken
returns-in_err-check_label-clause-broken g c =
    let label = ap (λ (r : Record). r.label) c.record.view_is in
    handed_on
    (λ e. NamesFirst g.K.Bytes.item c.args.self.now c.args.left c.args.record.now c.args.offset
    e) c.from_residual-in_err-check_label.result c.in_err-check_label.field-0.0
    c.from_residual-in_err-check_label.ensures.1
    (broken_label g.K.Bytes.item c.args.self.now c.args.left c.args.record.now
    (c.in_ok-check_place.ensures.kept c.args.left) c.args.offset _
    (subst (λ l. BreaksLabel g.K.Bytes.item c.args.self.now l c.args.offset
    c.in_err-check_label.field-0.0) label c.in_err-check_label.ensures.broken))

pub returns-then-self-record-clause-broken : goal.returns-then-self-record-clause-broken
returns-then-self-record-clause-broken g c =
    let due : Due = record { level = c.self.inside.level; after = option_copied c.self.inside.after } in
    let r : Record = record {
      level = c.record.inside.level;
      label = c.record.inside.label.now;
      value = c.record.inside.value;
      child = c.record.inside.child;
      sibling = c.record.inside.sibling;
    } in
    let label = ap (λ (r : Record). r.label) c.record.view_is in
    record {
      rule = no_value_no_child;
      names = refl;
      broken = (
        rw (sym c.self.view_is, sym c.record.view_is)
            (breaks_marks g.K.Bytes.item due c.args.left r c.if-self-record.true),
        kept_label
            g.K.Bytes.item c.args.self.now c.args.left c.args.record.now
            (c.in_ok-check_place.ensures.kept c.args.left)
            (subst (KeepsLabel g.K.Bytes.item c.args.self.now) label
            c.in_ok-check_label.ensures.kept),
      );
    }

pub returns-then-record-left-clause-broken : goal.returns-then-record-left-clause-broken
returns-then-record-left-clause-broken g c =
    let due : Due = record { level = c.self.inside.level; after = option_copied c.self.inside.after } in
    let r : Record = record {
      level = c.record.inside.level;
      label = c.record.inside.label.now;
      value = c.record.inside.value;
      child = c.record.inside.child;
      sibling = c.record.inside.sibling;
    } in
    let label = ap (λ (r : Record). r.label) c.record.view_is in
    let below : BreaksNoneBelow g.K.Bytes.item due c.args.left r 9 =
    rw (c.self.view_is, c.record.view_is)
    (kept_label g.K.Bytes.item c.args.self.now c.args.left c.args.record.now
    (c.in_ok-check_place.ensures.kept c.args.left)
    (subst (KeepsLabel g.K.Bytes.item c.args.self.now) label
    c.in_ok-check_label.ensures.kept)) in
    record {
      rule = too_few_values;
      names = refl;
      broken = (
        rw (sym c.record.view_is)
            (breaks_values g.K.Bytes.item due c.args.left r c.if-record-left.true),
        rw (sym c.self.view_is, sym c.record.view_is)
            (kept_marks g.K.Bytes.item due c.args.left r below c.if-self-record.false),
      );
    }

pub returns-clause-kept : goal.returns-clause-kept
returns-clause-kept g c =
    let due : Due = record { level = c.self.inside.level; after = option_copied c.self.inside.after } in
    let r : Record = record {
      level = c.record.inside.level;
      label = c.record.inside.label.now;
      value = c.record.inside.value;
      child = c.record.inside.child;
      sibling = c.record.inside.sibling;
    } in
    let label = ap (λ (r : Record). r.label) c.record.view_is in
    let keeps = subst (KeepsLabel g.K.Bytes.item c.args.self.now) label c.in_ok-check_label.ensures.kept in
    let below : BreaksNoneBelow g.K.Bytes.item due c.args.left r 9 =
    rw (c.self.view_is, c.record.view_is)
    (kept_label g.K.Bytes.item c.args.self.now c.args.left c.args.record.now
    (c.in_ok-check_place.ensures.kept c.args.left) keeps) in
    record {
      rules = rw (sym c.self.view_is, sym c.record.view_is)
          (kept_rules g.K.Bytes.item due c.args.left r
          (kept_marks g.K.Bytes.item due c.args.left r below c.if-self-record.false)
          c.if-record-left.false);
      label = keeps;
    }
