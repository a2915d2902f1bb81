use Rattle.std.proofs.Common.{◌≡◌, [], length, ap, sym, ◌∙◌}
use Rattle.std.specs.FinMap as map
use Rattle.std.specs.Prelude.{replicate}
use Rattle.std.proofs.lemmas.List.{length-map}
use Rattle.prefixes_core.specs.Packings.{packed, without_values}
use Rattle.prefixes_core.proofs.PackLemmas.{values_without, keys_without}
use Rattle.prefixes_core.proofs.packing.pack_names.Goals as goal

pub returns-clause-ok : goal.returns-clause-ok
returns-clause-ok c =
    let entries = map.entries c.args.names.now in
    let names = map.keys c.args.names.now in
    let tree = c.in-Ok.tree.items in
    let size : c.len.result ≡ length names = c.len.ensures
    ∙ map.len-entries c.args.names.now ∙ sym (length-map entries (λ e. e.0)) in
    let same = c.tree_bytes_are_keys.ensures.values 2 tree entries (without_values names)
    (sym (keys_without names)) in
    record {
      tree = tree;
      is = c.in_ok-with_empty_values.ensures
          ∙ ap (λ t. packed t (replicate c.len.result [])) c.deref.ensures.value
          ∙ ap (λ n. packed tree (replicate n [])) size
          ∙ ap (λ v. packed tree v) (sym (values_without names));
      tree_bytes = same.0 c.in-Ok.ensures.ok;
    }
