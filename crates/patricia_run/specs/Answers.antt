-- Which output answers an input.
use Rattle.std.specs.Prelude.{◌≡◌, ℕ, List}
use Rattle.std.specs.List.{filter_map}
use Rattle.std.specs.Result.{result_ok}
use Rattle.patricia_run.specs.declared.command.Reply.{Reply}
use Rattle.patricia_run.specs.Machine.{State, empty_state, Run}
use Rattle.patricia_run.specs.KeyFormats.{KeyFormat}
use Rattle.patricia_run.specs.Text.{parse_lines}
use Rattle.patricia_run.specs.Writing.{output_of}

-- some run from the empty state takes the commands of the lines that are not faulty, and the
-- output has, line after line, the fault or the reply
abbrev pub Answers :
    {K : Type 0} → (List ℕ → Type 0) → KeyFormat → (K → List ℕ) → List ℕ → List ℕ → Type 0
Answers {K} item key_format key_of input output =
    let said = parse_lines key_format input in
    (replies : List (Reply K ℕ))
    × (new : State ℕ)
    × Run item key_of empty_state (filter_map result_ok said) replies new
    × (output ≡ output_of key_format key_of said replies)
