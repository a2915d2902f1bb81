use Rattle.std.proofs.Common.{Some, ap, ◌∙◌}
use Rattle.patricia_codec.specs.declared.builder.Next.TheVariants.{Below}
use Rattle.patricia_codec.proofs.builder.Builder.add_root.Goals as goal

pub returns : goal.returns
returns g c =
    let row = c.make_row.new.self in
    let first = c.in_ok-first.ensures.first in
    rw c.if-not-child.false
    (row, c.in_ok-first.ensures.row, (λ i. record row { root = (c.some-self.ensures ∙ ap Some first) i; at = first i; next = Below }))
