use Rattle.std.proofs.Common.{◌≡◌, drop, map}
use Rattle.serde_json.specs.View.{view, items_of}
use Rattle.serde_json.specs.Written.{items_have_float, has_float}
use Rattle.std.specs.List.{list_any}
use Rattle.patricia_json.proofs.json.+holds_float.Given as goal

abbrev pub decreases-holds_float : goal.decreases-holds_float
decreases-holds_float l = goal.size-holds_float l

abbrev pub invariant-loop-item : goal.invariant-loop-item
invariant-loop-item l = items_have_float (items_of (map view l.item-items)) ≡ items_have_float (items_of (map view (drop l.item-index l.item-items)))

abbrev pub invariant-loop-member : goal.invariant-loop-member
invariant-loop-member l = record {
  can : (goal.iterator-loop-member).can_next l.member-iterator;
  ends : (goal.iterator-loop-member).is_finite l.member-iterator;
  left : has_float (view l.value) ≡ list_any (λ v. has_float (view v)) l.member-iterator;
}
