use Rattle.std.proofs.Common.{length, refl, sym, ap, ◌∙◌}
use Rattle.std.proofs.lemmas.Bool.{eqb-true, eqb-false}
use Rattle.std.specs.FinMap as map
use Rattle.patricia_tree.specs.Prefixes.{under}
use Rattle.patricia_tree.specs.TextKind.{IsTextItem}
use Rattle.prefixes_core.proofs.ReachLemmas.{no_entries, reached_some, some_entries}
use Rattle.prefixes_core.proofs.ReachLemmas.{unreached_none}
use Rattle.prefixes_core.proofs.dotted.begins_some.Goals as goal

pub returns-then-is_empty-clause-none : goal.returns-then-is_empty-clause-none
returns-then-is_empty-clause-none g c _ =
    ap (under c.args.name.now) (no_entries c.args.names.now (c.if-is_empty.ensures.0 refl))

pub returns-clause-some : goal.returns-clause-some
returns-clause-some g c same = reached_some IsTextItem c.args.name.now
    (map.entries c.args.names.now) c.longest_common_prefix_len.result
    c.longest_common_prefix_len.ensures (some_entries c.args.names.now c.if-is_empty.ensures.1)
    (eqb-true _ _ same ∙ ap length c.as_bytes-bytes.ensures.value)

pub returns-clause-none : goal.returns-clause-none
returns-clause-none g c other = unreached_none IsTextItem c.args.name.now
    (map.entries c.args.names.now) c.longest_common_prefix_len.result
    c.longest_common_prefix_len.ensures c.as_bytes-bytes.ensures.valid
    (λ e. eqb-false _ _ other (e ∙ ap length (sym c.as_bytes-bytes.ensures.value)))
