-- What a body says of a node.
use Rattle.std.specs.Prelude.{Option, Some, None}
use Rattle.std.specs.Borrow.{LendsIf, Fml, RattleType, MutBor}
use Rattle.patricia_store.specs.declared.labels.Span.{Span}
use Rattle.patricia_store.specs.declared.body.Body.{Body}
use Rattle.patricia_store.specs.declared.body.Body.TheVariants.{Plain, Valued}
use Rattle.patricia_store.specs.contracts.body.Body.{the_row}

module _ {V : Type 0} where
  -- where the label is
  abbrev pub span_in : Body V → Span
  span_in (Plain len offset) = record { len = len; offset = offset }
  span_in (Valued len offset value) = record { len = len; offset = offset }

  -- the value, where there is one
  abbrev pub value_in : Body V → Option V
  value_in (Plain len offset) = None
  value_in (Valued len offset value) = Some value

  -- the body with this label and value
  abbrev pub body_of : Span → Option V → Body V
  body_of span None = Plain span.len span.offset
  body_of span (Some value) = Valued span.len span.offset value

-- the body ends with the value as the loan leaves it
abbrev pub lends_value_in : (V : RattleType) → MutBor (Body V.Denot) → Option (MutBor V.Denot) → Fml
lends_value_in V s r = LendsIf (the_row V) V s r (λ w. body_of (span_in s.now) (Some w)) s.now
