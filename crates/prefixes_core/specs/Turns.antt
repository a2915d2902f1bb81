-- Lines that are answered in turn.
use Rattle.std.specs.Prelude.{◌≡◌, ◌+◌, ◌++◌, ◌||◌, ℕ, Bool, false, List, [], ◌∷◌, length}
use Rattle.std.specs.Prelude.{Option, Some}
use Rattle.std.specs.List.{FoldsTo}
use Rattle.prefixes_core.specs.Answers.{IsFound, IsRightLine, IsAnswerFault, Leaves, Writes}
use Rattle.prefixes_core.specs.declared.answering.Question.{Question}
use Rattle.prefixes_core.specs.declared.answering.Style.{Style}
use Rattle.prefixes_core.specs.declared.failure.Failure.{Failure}
use Rattle.prefixes_core.specs.declared.failure.Failure.TheVariants as Failures

-- what the next line is asked of, what is written so far, and whether something was found
pub record Answered : Type 0 where
  pub question : Question
  pub written : List ℕ
  pub found : Bool

abbrev pub answered : Question → List ℕ → Bool → Answered
answered question written found =
    record { question = question; written = written; found = found }

-- a line more is answered
pub record AnswersLine (style : Style) (old : Answered) (line : List ℕ) (new : Answered)
    : Type 0 where
  pub right : IsRightLine old.question line
  pub writes : Writes style old.question line old.written new.written
  pub one : Bool
  pub finds : IsFound old.question line one
  pub found : new.found ≡ old.found || one
  pub leaves : Leaves old.question line new.question

-- all of these lines are, from the first to the last
abbrev pub AnswersAll : Style → Question → List (List ℕ) → Answered → Type 0
AnswersAll style question lines all =
    FoldsTo (AnswersLine style) (answered question [] false) lines all

-- a failure names no line of the input
abbrev pub NamesNoLine : Failure → Type 0
NamesNoLine (Failures.Line path n error) = ⊥
NamesNoLine _ = Unit {0}

-- what an error says of the lines from the first one on that is not answered: if it names a line,
-- it is that one, counted from 1
abbrev pub IsNextRefused : Answered → ℕ → List (List ℕ) → Failure → Type 0
IsNextRefused all before (line ∷ after) (Failures.Line path n error) =
    (n ≡ before + 1) × IsAnswerFault all.question line error
IsNextRefused all before [] (Failures.Line path n error) = ⊥
IsNextRefused all before after _ = Unit {0}

-- what the writer has, which had something at the start: all of these answers, or, if the output
-- failed, the first bytes of them
abbrev pub HasAnswers : List ℕ → Option (List ℕ) → List ℕ → Failure → Type 0
HasAnswers start written answers (Failures.Output e) =
    (part : List ℕ) × (rest : List ℕ) × (answers ≡ part ++ rest) × (written ≡ Some (start ++ part))
HasAnswers start written answers _ = written ≡ Some (start ++ answers)

-- the program ends early: the first lines are answered, and their answers are written
pub record IsStoppedAt (style : Style) (question : Question) (lines : List (List ℕ))
    (start : List ℕ) (written : Option (List ℕ)) (failure : Failure) : Type 0 where
  pub before : List (List ℕ)
  pub after : List (List ℕ)
  pub all : Answered
  pub joined : lines ≡ before ++ after
  pub answers : AnswersAll style question before all
  pub named : IsNextRefused all (length before) after failure
  pub has : HasAnswers start written all.written failure
