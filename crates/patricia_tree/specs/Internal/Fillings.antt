-- A new map that pairs are put in.
use Rattle.std.specs.Prelude.{ℕ, List}
use Rattle.std.specs.FinMap as map
use Rattle.patricia_core.specs.Keys.{key_cmp}
use Rattle.patricia_tree.specs.declared.map.bulk.filling.Filling.{Filling}
use Rattle.patricia_tree.specs.declared.map.bulk.filling.Filling.TheVariants.{Rising, Any}

-- the entries so far
abbrev pub filled : {Q V O : Type 0} → Filling Q V O → map.FinMap key_cmp V
filled (Rising loader last) = loader
filled (Any entries) = entries
