-- What is written for some lines in turn.
use Rattle.std.specs.Prelude.{◌≡◌, ℕ, List}
use Rattle.std.specs.List.{filter_map}
use Rattle.std.specs.Result.{result_ok}
use Rattle.patricia_run.specs.declared.command.Reply.{Reply}
use Rattle.patricia_run.specs.Machine.{State, Run}
use Rattle.patricia_run.specs.KeyFormats.{KeyFormat}
use Rattle.patricia_run.specs.Text.{Parsed}
use Rattle.patricia_run.specs.Writing.{output_of}

-- some run from one state to another takes the commands of what was said, and what is written has,
-- line after line, the fault or the reply
abbrev pub AnswersFrom :
    {K : Type 0} → (List ℕ → Type 0) → KeyFormat → (K → List ℕ)
    → State ℕ → List Parsed → List ℕ → State ℕ → Type 0
AnswersFrom {K} item key_format key_of old said written new =
    (replies : List (Reply K ℕ))
    × Run item key_of old (filter_map result_ok said) replies new
    × (written ≡ output_of key_format key_of said replies)
