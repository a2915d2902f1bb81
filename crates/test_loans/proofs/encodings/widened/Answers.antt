use Rattle.std.proofs.Common.{List, sym, subst}
use Rattle.std.specs.FinMap.{entries}
use Rattle.patricia_tree.specs.Writings.{Means}
use Rattle.test_loans.proofs.encodings.widened.Goals as goal

pub returns : goal.returns
returns g c =
    let narrow = c.in-Ok.ensures.ok in
    let wide = c.in-Ok-wide_tree_bytes.ensures.ok.means in (
      entries c.in-Ok.map,
      narrow,
      subst (λ (values : List g.row.V.Denot). Means g.K.Bytes.item 4 c.in-Ok-wide_tree_bytes.wide.items values (entries c.in-Ok.map)) (sym narrow.in_place) wide,
    )
