use Rattle.std.proofs.Common.{is_lt, ap, ◌∙◌, sym}
use Rattle.patricia_codec.proofs.CheckLemmas.{first_items, is_less}
use Rattle.patricia_codec.proofs.due.comes_before.Goals as goal

pub returns : goal.returns
returns g c =
    let both = first_items g.K.Bytes.item g.met.K.Bytes.lawful c.args.label.now c.args.other.now
    c.first_item.result.now c.first_item-2.result.now c.requires.nonempty
    c.requires.other_filled c.first_item.ensures c.first_item-2.ensures in (
      λ less. both.0 (sym c.cmp.ensures ∙ is_less c.cmp.result (sym c.is_lt.ensures ∙ less)),
      λ before. c.is_lt.ensures ∙ ap is_lt (c.cmp.ensures ∙ both.1 before),
    )
