use Rattle.std.proofs.Common.{refl}
use Rattle.std.specs.Prelude.{map as list_map}
use Rattle.std.specs.List.{concat}
use Rattle.patricia_tree.specs.Walks.{values_of}
use Rattle.prefixes_core.specs.Packings.{counted}
use Rattle.prefixes_core.proofs.PackLemmas.{packed_values}
use Rattle.prefixes_core.proofs.packing.packed_is_one_list.Goals as goal

pub returns : goal.returns
returns c = λ bytes entries others small are. (
  record { tree = are.tree; is = are.is; means = are.tree_bytes.means },
  λ packs.
      let rest = concat (list_map counted (values_of entries)) in
      let means = packed_values bytes are.tree rest
      (values_of entries) others small are.is refl packs in
      c.one_meaning.ensures.one 2 are.tree (values_of entries) others entries means are.tree_bytes.means,
)
