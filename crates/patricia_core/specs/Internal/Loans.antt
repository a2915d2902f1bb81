-- What a tree is after a loan of one value.
use Rattle.std.specs.Prelude.{ℕ, List, Option}
use Rattle.std.specs.Borrow.{LendsIf, Fml, RattleType, MutBor}
use Rattle.std.specs.FinMap as map
use Rattle.patricia_keys.specs.Keys.{key_cmp}
use Rattle.patricia_keys.specs.declared.keys.Bytes.{Ghosts}
use Rattle.patricia_core.specs.contracts.tree.Tree.{the_row}

-- the tree ends with the value at the key as the loan leaves it, or as it was where nothing is lent
abbrev pub tree_lends_entry : (K V : RattleType) → Ghosts K.Denot
    → MutBor (map.FinMap key_cmp V.Denot) → List ℕ
    → Option (MutBor V.Denot) → Fml
tree_lends_entry K V bytes s key r = LendsIf (the_row K V bytes) V s r (map.insert s.now key) s.now
