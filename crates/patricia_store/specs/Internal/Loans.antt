-- Nodes that lend a value.
use Rattle.std.specs.Prelude.{ℕ, Option, slice_get}
use Rattle.std.specs.Borrow.{LendsIf, Fml, RattleType, MutBor}
use Rattle.patricia_store.specs.declared.store.Store.{Store}
use Rattle.patricia_store.specs.contracts.store.Store.{the_row}
use Rattle.patricia_store.specs.Internal.Nodes.{with_valued}

-- the nodes end with the value of one as the loan leaves it
abbrev pub lends_value_at : (V : RattleType) → MutBor (Store V.Denot) → ℕ
    → Option (MutBor V.Denot) → Fml
lends_value_at V s id r =
    LendsIf (the_row V) V s r (λ w. with_valued s.now id w (slice_get s.now.items id)) s.now
