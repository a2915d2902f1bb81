use Rattle.std.proofs.Common.{refl, sym, ap, ◌∙◌, ◌++◌, length, drop, replicate}
use Rattle.std.proofs.lemmas.List.{length-take-le}
use Rattle.std.specs.Option.{option_copied}
use Rattle.std.specs.FinMap as map
use Rattle.patricia_c.specs.Maps.{map_of}
use Rattle.patricia_c.proofs.EmptyLemmas.{none_get}
use Rattle.patricia_c.proofs.ManyLemmas.{flags_fall, numbers_stay}
use Rattle.patricia_c.proofs.many.get_each.Goals as goal

pub returns-in-None-clause-values : goal.returns-in-None-clause-values
returns-in-None-clause-values c =
    numbers_stay (map.get (map_of (option_copied c.args.stored))) (none_get _ (sym (ap option_copied c.in-None.is))) (λ v. v) c.args.keys.now
    c.args.lens.now c.args.values.now

pub returns-in-None-clause-found : goal.returns-in-None-clause-found
returns-in-None-clause-found c =
    ap (λ l. l ++ drop (length c.args.lens.now) c.args.found.now) (c.fill.ensures.after (λ y same. same))
    ∙ ap (λ n. replicate n 0 ++ drop (length c.args.lens.now) c.args.found.now)
    (length-take-le (length c.args.lens.now) c.args.found.now c.requires.found_fit)
    ∙ flags_fall (map.get (map_of (option_copied c.args.stored))) (none_get _ (sym (ap option_copied c.in-None.is))) c.args.keys.now
    c.args.lens.now c.args.found.now (length c.args.lens.now) refl c.requires.found_fit
