use Rattle.std.proofs.Common.{Some, subst, ap, ◌∙◌, refl}
use Rattle.patricia_codec.specs.declared.builder.Next.TheVariants.{Below}
use Rattle.patricia_codec.specs.Internal.Placing.{Puts}
use Rattle.patricia_codec.proofs.builder.Builder.lay.Goals as goal

pub returns-then-not-child : goal.returns-then-not-child
returns-then-not-child g c =
    let put = c.put.new.self in
    rw c.if-not-child.true
    (put, subst (λ child. Puts c.args.self.now c.args.value child put) c.none.ensures c.in_ok-put.ensures, refl)

pub returns : goal.returns
returns g c =
    let row = c.make_row.new.self in
    let put = c.put-2.new.self in
    let first = c.in_ok-first.ensures.first in
    rw c.if-not-child.false (
      row,
      put,
      c.in_ok-first.ensures.row,
      subst (λ child. Puts row c.args.value child put) (c.some.ensures ∙ ap Some first) c.in_ok-put-2.ensures,
      (λ i. record put { at = first i; next = Below }),
    )
