-- The words that the code tells apart.
use Rattle.patricia_run.specs.declared.command.Command.{Command}
use Rattle.patricia_run.specs.declared.command.Command.TheVariants as Commands
use Rattle.patricia_run.specs.Text.{Shape, alone, keyed, valued}

-- what follows the word
abbrev pub shape_after : Command (Unit {0}) (Unit {0}) → Shape
shape_after (Commands.Insert _ _) = valued (λ key value. Commands.Insert key value)
shape_after (Commands.Get _) = keyed (λ key. Commands.Get key)
shape_after (Commands.Remove _) = keyed (λ key. Commands.Remove key)
shape_after Commands.Len = alone Commands.Len
shape_after Commands.List = alone Commands.List
shape_after (Commands.Under _) = keyed (λ prefix. Commands.Under prefix)
shape_after (Commands.Along _) = keyed (λ key. Commands.Along key)
shape_after (Commands.Longest _) = keyed (λ key. Commands.Longest key)
shape_after (Commands.Reach _) = keyed (λ key. Commands.Reach key)
shape_after (Commands.Split _) = keyed (λ prefix. Commands.Split prefix)
shape_after Commands.Swap = alone Commands.Swap
shape_after Commands.Copy = alone Commands.Copy
shape_after Commands.Clear = alone Commands.Clear
shape_after Commands.Wire = alone Commands.Wire
shape_after Commands.Reload = alone Commands.Reload
shape_after Commands.Wide = alone Commands.Wide
shape_after Commands.ReloadWide = alone Commands.ReloadWide
