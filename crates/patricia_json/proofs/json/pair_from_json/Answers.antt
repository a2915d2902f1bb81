use Rattle.std.proofs.Common.{Some, sym, ap, ◌∙◌}
use Rattle.serde_json.specs.Data.{array}
use Rattle.serde_json.specs.View.{view, items_view}
use Rattle.serde_json.specs.Written.{items_have_float}
use Rattle.serde_json.proofs.Views.{view-Array}
use Rattle.patricia_json.specs.Pairs.{two_arrays}
use Rattle.patricia_json.proofs.json.pair_from_json.Goals as goal

pub returns-clause-read : goal.returns-clause-read
returns-clause-read c =
    c.in_ok-parts.ensures.ok
    ∙ ap Some
    (ap view c.in-Array.is ∙ view-Array c.in-Array.parts ∙ ap array
    (c.in_ok-numbers.ensures.ok ∙ ap
    (λ ns. two_arrays ns (items_view c.in_ok-numbers.values.items))
    (ap items_view (sym c.deref-2.ensures.value) ∙ c.in_ok-bytes.ensures.ok)))

pub returns-clause-no_float : goal.returns-clause-no_float
returns-clause-no_float c =
    ap (λ xs. items_have_float (items_view xs)) (sym c.deref.ensures.value) ∙ sym c.if-any_holds_float.ensures

pub returns-clause-err : goal.returns-clause-err
returns-clause-err c same = absurd (cc)
