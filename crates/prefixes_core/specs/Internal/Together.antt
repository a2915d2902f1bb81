-- Lines that are cut off the front of bytes, and answered together.
use Rattle.std.specs.Prelude.{◌≡◌, ◌+◌, ◌++◌, ℕ, Bool, List, length, Option, Some}
use Rattle.prefixes_core.specs.Lists.{lines_of}
use Rattle.prefixes_core.specs.Turns.{AnswersAll, answered}
use Rattle.prefixes_core.specs.declared.answering.Question.{Question}
use Rattle.prefixes_core.specs.declared.answering.Style.{Style}
use Rattle.prefixes_core.specs.declared.lines.LineFormat.{LineFormat}
use Rattle.prefixes_core.specs.declared.answering.together.Together.{Together}

-- what is before the rest of some bytes are these lines, whatever comes behind
pub record CutsLines (format : LineFormat) (bytes : List ℕ) (lines : List (List ℕ)) (rest : List ℕ)
    : Type 0 where
  pub front : List ℕ
  pub joined : bytes ≡ front ++ rest
  pub first : (more : List ℕ)
      → lines_of format (bytes ++ more) ≡ lines ++ lines_of format (rest ++ more)

-- lines are answered behind a text, and what is asked stays
pub record AnswersTogether (style : Style) (question : Question) (lines : List (List ℕ))
    (old new : List ℕ) (found : Bool) : Type 0 where
  pub written : List ℕ
  pub behind : new ≡ old ++ written
  pub answers : AnswersAll style question lines (answered question written found)

-- the first lines of some bytes are answered together: how many, which take so many of the bytes
pub record AnswersFront (style : Style) (format : LineFormat) (question : Question) (bytes : List ℕ)
    (together : Together) (old new : List ℕ) : Type 0 where
  pub lines : List (List ℕ)
  pub rest : List ℕ
  pub cuts : CutsLines format bytes lines rest
  pub counted : length lines ≡ together.count
  pub sized : together.len + length rest ≡ length bytes
  pub answers : AnswersTogether style question lines old new together.is_found

-- so many lines are taken off the front of the bytes that a reader had left, and answered
pub record TakesTogether (style : Style) (format : LineFormat) (question : Question)
    (bytes : List ℕ) (left : Option (List ℕ)) (count : ℕ) (old new : List ℕ) (found : Bool)
    : Type 0 where
  pub lines : List (List ℕ)
  pub rest : List ℕ
  pub left_is : left ≡ Some rest
  pub first : lines_of format bytes ≡ lines ++ lines_of format rest
  pub counted : length lines ≡ count
  pub answers : AnswersTogether style question lines old new found
