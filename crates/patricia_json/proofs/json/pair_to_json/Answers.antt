use Rattle.std.proofs.Common.{◌≡◌, ◌∙◌, ap}
use Rattle.std.proofs.lemmas.Result.{IfOk-weaker}
use Rattle.serde_json.specs.Written.{compact_text}
use Rattle.serde_json.specs.View.{view, items_view}
use Rattle.patricia_json.specs.Pairs.{pair_data}
use Rattle.patricia_json.proofs.PairLemmas.{pair_has_no_float, pair_depth}
use Rattle.patricia_json.proofs.json.pair_to_json.Goals as goal

pub returns-clause-text : goal.returns-clause-text
returns-clause-text c =
    let is : view c.in_ok-pair.pair ≡ pair_data c.args.bytes.now (items_view c.args.values.items) = rw c.in_ok-numbers.ensures at c.in_ok-pair.ensures in
    IfOk-weaker c.to_string.result _ _
    (λ s h. h
    (rw is (pair_has_no_float c.args.bytes.now (items_view c.args.values.items) c.requires)) ∙
    ap compact_text is) c.to_string.ensures.text

pub returns-clause-reads_back : goal.returns-clause-reads_back
returns-clause-reads_back c =
    let is : view c.in_ok-pair.pair ≡ pair_data c.args.bytes.now (items_view c.args.values.items) = rw c.in_ok-numbers.ensures at c.in_ok-pair.ensures in
    IfOk-weaker c.to_string.result _ _
    (λ s h deep. rw (← is)
    (h (rw is (pair_depth c.args.bytes.now (items_view c.args.values.items) deep))))
    c.to_string.ensures.reads_back
