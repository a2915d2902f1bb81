use Rattle.std.proofs.Common.{ap, length, ◌∙◌}
use Rattle.std.proofs.lemmas.List.{length-take-le}
use Rattle.std.specs.Option.{option_copied}
use Rattle.std.specs.FinMap as map
use Rattle.patricia_c.specs.Many.{flag, number, written}
use Rattle.patricia_c.proofs.ManyLemmas.{answers_of}
use Rattle.patricia_c.proofs.many.get_block.Goals as goal

pub returns-clause-values : goal.returns-clause-values
returns-clause-values c =
    c.write_answers.ensures.values
    ∙ ap (λ l. written (number (λ v. v)) l c.args.values.now)
    (answers_of (λ key. key.now) option_copied (map.get c.args.stored.now.map) _ _ c.args.keys.now c.args.lens.now _ _ c.get_many_into.ensures.count
    c.get_many_into.ensures.as_many (length-take-le (length c.args.lens.now) _ c.requires.few) c.get_many_into.ensures.values c.cut_keys-used.ensures.keys)

pub returns-clause-found : goal.returns-clause-found
returns-clause-found c =
    c.write_answers.ensures.found
    ∙ ap (λ l. written flag l c.args.found.now)
    (answers_of (λ key. key.now) option_copied (map.get c.args.stored.now.map) _ _ c.args.keys.now c.args.lens.now _ _ c.get_many_into.ensures.count
    c.get_many_into.ensures.as_many (length-take-le (length c.args.lens.now) _ c.requires.few) c.get_many_into.ensures.values c.cut_keys-used.ensures.keys)
