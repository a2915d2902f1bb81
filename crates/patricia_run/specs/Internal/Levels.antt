-- The two widths of levels, and the commands that write and read them.
use Rattle.std.specs.Prelude.{ℕ, List}
use Rattle.patricia_run.specs.declared.bench.Levels.{Levels}
use Rattle.patricia_run.specs.declared.bench.Levels.TheVariants.{Narrow, Wide}
use Rattle.patricia_run.specs.declared.command.Command.{Command}
use Rattle.patricia_run.specs.declared.command.Command.TheVariants as Commands

-- how many bytes a level takes
abbrev pub width_of : Levels → ℕ
width_of Narrow = 2
width_of Wide = 4

-- the command that writes the tree with such levels
abbrev pub wire_with : {V : Type 0} → Levels → Command (List ℕ) V
wire_with Narrow = Commands.Wire
wire_with Wide = Commands.Wide

-- the command that makes the map anew of what is so written
abbrev pub reload_with : {V : Type 0} → Levels → Command (List ℕ) V
reload_with Narrow = Commands.Reload
reload_with Wide = Commands.ReloadWide
