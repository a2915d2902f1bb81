use Rattle.std.proofs.Common.{sym, ap, ◌∙◌}
use Rattle.std.specs.Option.{option_map}
use Rattle.patricia_tree.proofs.CursorLemmas.{is_next}
use Rattle.patricia_tree.proofs.entries.CursorGuard+M+Cursor+K+V.go_on.Goals as goal

pub returns-in-Some-clause-ok : goal.returns-in-Some-clause-ok
returns-in-Some-clause-ok g c =
    (is_next _ _ (sym c.in_ok-key.ensures.key ∙ ap (option_map g.K.Bytes.key) c.in-Some.is), c.in_ok-key.ensures.stepped)
