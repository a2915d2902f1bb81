use Rattle.std.proofs.Common.{inl, inr, arith}
use Rattle.std.proofs.lemmas.Bool.{cases_lt}
use Rattle.std.proofs.lemmas.List.{nil_from_length}
use Rattle.patricia_model.proofs.GetLemmas.{compared_greater, compared_equal, common_splits}
use Rattle.patricia_model.proofs.MeetingLemmas.{before_by_first_byte, common-within, shares_common}
use Rattle.patricia_model.proofs.label_cmp.compare_label.Goals as goal

pub returns-then-first-label : goal.returns-then-first-label
returns-then-first-label g c =
    before_by_first_byte _ g.met.Q.Owned.Bytes.lawful _ _ c.as_bytes.ensures.valid c.requires.valid
    c.requires.key_filled c.requires.nonempty
    (rw c.as_bytes.ensures.value at c.if-first-label.true)

pub returns-then-label-first : goal.returns-then-label-first
returns-then-label-first g c =
    before_by_first_byte _ g.met.Q.Owned.Bytes.lawful _ _ c.requires.valid c.as_bytes.ensures.valid
    c.requires.nonempty c.requires.key_filled
    (rw c.as_bytes.ensures.value at c.if-label-first.true)

pub returns-then-n-label : goal.returns-then-n-label
returns-then-n-label g c =
    let common = c.strip_common_prefix_and_len-rest.ensures.common in
    record {
      shares = elim (cases_lt 0 c.strip_common_prefix_and_len-rest.result.1) [
        | inl some ↦ shares_common _ _ _ _ common some
        | inr none ↦ absurd (c.requires.nonempty (nil_from_length _ (omega arith)))
      ];
      splits = rw c.strip_common_prefix_and_len-rest.ensures.rest (common_splits _ _ _ _ common (omega arith));
    }

pub returns-then-n-gt0 : goal.returns-then-n-gt0
returns-then-n-gt0 g c =
    let common = c.strip_common_prefix_and_len-rest.ensures.common in
    let within = common-within _ _ _ _ common in
    record { shares = shares_common _ _ _ _ common (omega arith); common = common; short = omega arith }

pub returns-in-Greater : goal.returns-in-Greater
returns-in-Greater g c = compared_greater _ _ _ c.requires.key_filled c.requires.nonempty c.in-Greater.ensures

pub returns-in-Equal : goal.returns-in-Equal
returns-in-Equal g c =
    let common = c.strip_common_prefix_and_len-rest.ensures.common in
    let within = common-within _ _ _ _ common in
    record { shares = compared_equal _ _ _ c.requires.key_filled c.requires.nonempty c.in-Equal.ensures; common = common; short = omega arith }
