-- Commands that answer lines, from their words and files to what they write.
use Rattle.std.specs.Prelude.{◌≡◌, ◌⊎◌, ◌++◌, ℕ, Bool, List, codes, Option, Some, IfSome}
use Rattle.clap.specs.declared.parser.matches.ArgMatches.{ArgMatches}
use Rattle.prefixes_core.specs.Lists.{lines_of, unmarked}
use Rattle.prefixes_core.specs.Requests.{Asks, IsStyle, text_or}
use Rattle.prefixes_core.specs.Sources.{OfBytes}
use Rattle.prefixes_core.specs.Turns.{AnswersAll, answered, IsStoppedAt, NamesNoLine}
use Rattle.prefixes_core.specs.declared.answering.Question.{Question}
use Rattle.prefixes_core.specs.declared.answering.Style.{Style}
use Rattle.prefixes_core.specs.declared.failure.Failure.{Failure}
use Rattle.prefixes_core.specs.declared.lines.LineFormat.{LineFormat}

-- the lines of an input with these bytes
abbrev pub input_lines : LineFormat → List ℕ → List (List ℕ)
input_lines format bytes = lines_of format (unmarked format bytes)

-- an input whose bytes are known is answered, to a writer with the bytes `start` before and `end`
-- after, if these are known
module _ (style : Style) (format : LineFormat) (question : Question) (IsKnown : List ℕ → Type 0)
    (start end : Option (List ℕ)) where
  -- all lines are answered: the writer has their answers after what it had
  abbrev pub AnswersInput : Question → Bool → Type 0
  AnswersInput left found =
      OfBytes IsKnown (λ bytes. IfSome start (λ had. (written : List ℕ)
      × AnswersAll style question (input_lines format bytes) (answered left written found)
      × (end ≡ Some (had ++ written))))

  -- the first lines are answered, until this failure
  abbrev pub StopsInput : Failure → Type 0
  StopsInput failure =
      (bytes : List ℕ) → IsKnown bytes → IfSome start (λ had.
      IsStoppedAt style question (input_lines format bytes) had end failure)

module _ (name : List ℕ) (matches : ArgMatches) (format : LineFormat)
    (Has : List ℕ → List ℕ → Type 0) (start end : Option (List ℕ)) where
  -- the bytes of the lines: of the file that is named, or else of the standard input
  abbrev pub HasLines : List ℕ → Type 0
  HasLines = Has (text_or matches (codes "-") (codes "lines"))

  -- the lines are answered about the list, as the words of the command line ask
  pub record Answers (found : Bool) : Type 0 where
    pub question : Question
    pub style : Style
    pub left : Question
    pub asks : Asks matches format Has name question
    pub styled : IsStyle matches format style
    pub answers : AnswersInput style format question HasLines start end left found

  -- the first lines are answered so, until this failure
  pub record Stops (failure : Failure) : Type 0 where
    pub question : Question
    pub style : Style
    pub asks : Asks matches format Has name question
    pub styled : IsStyle matches format style
    pub stops : StopsInput style format question HasLines start end failure

  -- the program ends early: before a line is read, and then it writes nothing, or later
  abbrev pub EndsEarly : Failure → Type 0
  EndsEarly failure = Stops failure ⊎ ((end ≡ start) × NamesNoLine failure)
