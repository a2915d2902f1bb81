use Rattle.std.proofs.Common.{refl, sym, ap, ◌∙◌, ◌++◌, length, drop, replicate}
use Rattle.std.proofs.lemmas.List.{length-take-le}
use Rattle.std.specs.Option.{option_copied}
use Rattle.std.specs.FinMap as map
use Rattle.patricia_tree.specs.Prefixes.{longest}
use Rattle.patricia_c.specs.Many.{measured}
use Rattle.patricia_c.specs.Maps.{map_of}
use Rattle.patricia_c.proofs.EmptyLemmas.{none_longest}
use Rattle.patricia_c.proofs.ManyLemmas.{flags_fall, numbers_stay}
use Rattle.patricia_c.proofs.many.longest_each.Goals as goal

pub returns-in_default-clause-lens : goal.returns-in_default-clause-lens
returns-in_default-clause-lens c =
    numbers_stay
    (λ key. measured (longest key (map.entries (map_of (option_copied c.args.stored)))))
    (none_longest _ (sym (ap option_copied c.in_default.is))) (λ e. e.0) c.args.keys.now
    c.args.lens.now c.args.prefix_lens.now

pub returns-in_default-clause-values : goal.returns-in_default-clause-values
returns-in_default-clause-values c =
    numbers_stay
    (λ key. measured (longest key (map.entries (map_of (option_copied c.args.stored)))))
    (none_longest _ (sym (ap option_copied c.in_default.is))) (λ e. e.1) c.args.keys.now
    c.args.lens.now c.args.values.now

pub returns-in_default-clause-found : goal.returns-in_default-clause-found
returns-in_default-clause-found c =
    ap (λ l. l ++ drop (length c.args.lens.now) c.args.found.now)
    (c.fill.ensures.after (λ y same. same))
    ∙ ap (λ n. replicate n 0 ++ drop (length c.args.lens.now) c.args.found.now)
    (length-take-le (length c.args.lens.now) c.args.found.now c.requires.found_fit)
    ∙ flags_fall
    (λ key. measured (longest key (map.entries (map_of (option_copied c.args.stored)))))
    (none_longest _ (sym (ap option_copied c.in_default.is))) c.args.keys.now c.args.lens.now
    c.args.found.now (length c.args.lens.now) refl c.requires.found_fit
