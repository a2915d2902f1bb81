use Rattle.std.proofs.Common.{◌∙◌, sym, ap}
use Rattle.std.specs.List.{list_any}
use Rattle.std.specs.Prelude.{◌||◌}
use Rattle.serde_json.specs.Written.{has_float}
use Rattle.serde_json.specs.View.{view}
use Rattle.patricia_json.proofs.PairLemmas.{array_float, object_float, view-Number}
use Rattle.patricia_json.proofs.json.+holds_float.Goals as goal

pub returns-after-loop-item : goal.returns-after-loop-item
returns-after-loop-item t c = array_float _ c.in-Array.items _ c.loop-item.item-index c.in-Array.is
    c.deref-item-items.ensures.value c.loop-item.invariant c.loop-item-test.false

pub returns-then-holds_float-2 : goal.returns-then-holds_float-2
returns-then-holds_float-2 t c = sym
    (c.loop-member.invariant.left ∙
    (ap (list_any (λ v. has_float (view v))) c.in-Some.ensures.steps ∙ ap
    (λ b. b || list_any (λ v. has_float (view v)) c.next.new.self)
    (sym c.if-holds_float-2.ensures)))

pub returns-in-None : goal.returns-in-None
returns-in-None t c = sym (c.loop-member.invariant.left ∙ ap (list_any (λ v. has_float (view v))) c.in-None.ensures.steps.0)

pub loop-member-init : goal.loop-member-init
loop-member-init t c = record {
  can = tt;
  ends = tt;
  left = object_float _ c.in-Object.members _ c.in-Object.is
      (c.into_iter-member-iterator.ensures.into_iter_gives ∙ c.values-member-items.ensures.rest);
}

pub loop-member-preserved : goal.loop-member-preserved
loop-member-preserved t c = record {
  can = tt;
  ends = tt;
  left = c.loop-member.invariant.left ∙
      (ap (list_any (λ v. has_float (view v))) c.in-Some.ensures.steps ∙ ap
      (λ b. b || list_any (λ v. has_float (view v)) c.next.new.self)
      (sym c.if-holds_float-2.ensures));
}

pub returns-in-Number : goal.returns-in-Number
returns-in-Number t c = c.is_f64.ensures ∙ sym (ap has_float (ap view c.in-Number.is ∙ view-Number c.in-Number.n))
