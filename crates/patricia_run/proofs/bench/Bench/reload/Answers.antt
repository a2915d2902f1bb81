use Rattle.std.proofs.Common.{ap, subst, ◌∙◌}
use Rattle.std.specs.FinMap as map
use Rattle.std.specs.FinMap.{same_entries_map}
use Rattle.patricia_tree.specs.Writings.{Means, TooDeep}
use Rattle.patricia_run.specs.Machine.{State}
use Rattle.patricia_run.specs.Internal.Levels.{width_of}
use Rattle.patricia_run.proofs.MachineLemmas.{reads_again}
use Rattle.patricia_run.proofs.bench.Bench.reload.Goals as goal

pub returns-in-Ok-read : goal.returns-in-Ok-read
returns-in-Ok-read g c =
    let width = width_of c.args.levels in
    let written = c.in-Ok.ensures.bytes in
    let read = subst
    (λ bytes. Means g.K.Bytes.item width bytes c.in-Ok.written.1.items
    (map.entries c.in-Ok-read.again)) c.deref.ensures.value
    c.in-Ok-read.ensures in
    let means = subst (λ values. Means g.K.Bytes.item width c.in-Ok.written.0.items values (map.entries c.in-Ok-read.again)) c.in-Ok.ensures.values read in
    let same = same_entries_map _ _ (c.tree_bytes_read_back.ensures width _ _ _ written means) in
    reads_again g.K.Bytes.item g.K.Bytes.key c.args.self.now _ c.args.levels
    (subst (λ (s : State g.row.V.Denot). TooDeep g.K.Bytes.item width (map.keys s.main) → ⊥)
    c.self.view_is written.not_too_deep)
    (ap (λ m. record {
      main = m;
      aside = c.self.inside.aside;
    }) same ∙ c.self.view_is)
