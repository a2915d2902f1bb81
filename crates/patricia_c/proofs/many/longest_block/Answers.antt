use Rattle.std.proofs.Common.{ap, length, ◌∙◌}
use Rattle.std.proofs.lemmas.List.{length-take-le}
use Rattle.std.specs.Option.{option_map}
use Rattle.std.specs.FinMap as map
use Rattle.patricia_tree.specs.Prefixes.{longest}
use Rattle.patricia_c.specs.Many.{flag, measured, number, written}
use Rattle.patricia_c.proofs.ManyLemmas.{answers_of, told_of}
use Rattle.patricia_c.proofs.many.longest_block.Goals as goal

pub returns-clause-lens : goal.returns-clause-lens
returns-clause-lens c =
    c.write_prefixes.ensures.lens
    ∙ ap (λ l. written (number (λ e. e.0)) l c.args.prefix_lens.now)
    (told_of measured (option_map (λ e. (e.0.now, e.1.now)))
    (λ key. longest key (map.entries c.args.stored.now.map)) _ _
    (answers_of (λ key. key.now) (option_map (λ e. (e.0.now, e.1.now)))
    (λ key. longest key (map.entries c.args.stored.now.map)) _ _ c.args.keys.now
    c.args.lens.now _ _ c.longest_many_into.ensures.count c.longest_many_into.ensures.as_many
    (length-take-le (length c.args.lens.now) _ c.requires.few)
    c.longest_many_into.ensures.entries c.cut_keys-used.ensures.keys))

pub returns-clause-values : goal.returns-clause-values
returns-clause-values c =
    c.write_prefixes.ensures.values
    ∙ ap (λ l. written (number (λ e. e.1)) l c.args.values.now)
    (told_of measured (option_map (λ e. (e.0.now, e.1.now)))
    (λ key. longest key (map.entries c.args.stored.now.map)) _ _
    (answers_of (λ key. key.now) (option_map (λ e. (e.0.now, e.1.now)))
    (λ key. longest key (map.entries c.args.stored.now.map)) _ _ c.args.keys.now
    c.args.lens.now _ _ c.longest_many_into.ensures.count c.longest_many_into.ensures.as_many
    (length-take-le (length c.args.lens.now) _ c.requires.few)
    c.longest_many_into.ensures.entries c.cut_keys-used.ensures.keys))

pub returns-clause-found : goal.returns-clause-found
returns-clause-found c =
    c.write_prefixes.ensures.found
    ∙ ap (λ l. written flag l c.args.found.now)
    (told_of measured (option_map (λ e. (e.0.now, e.1.now)))
    (λ key. longest key (map.entries c.args.stored.now.map)) _ _
    (answers_of (λ key. key.now) (option_map (λ e. (e.0.now, e.1.now)))
    (λ key. longest key (map.entries c.args.stored.now.map)) _ _ c.args.keys.now
    c.args.lens.now _ _ c.longest_many_into.ensures.count c.longest_many_into.ensures.as_many
    (length-take-le (length c.args.lens.now) _ c.requires.few)
    c.longest_many_into.ensures.entries c.cut_keys-used.ensures.keys))
