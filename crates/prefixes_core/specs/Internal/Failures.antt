-- Why the program ends early, and what is written then.
use Rattle.std.specs.Prelude.{◌≡◌, ◌++◌, ℕ, List, Option, Some, IfSome}
use Rattle.std.specs.Io.KnownBytes.{Appends}
use Rattle.prefixes_core.specs.Answers.{IsAnswerFault}
use Rattle.prefixes_core.specs.declared.answering.AnswerError.{AnswerError}
use Rattle.prefixes_core.specs.declared.answering.Question.{Question}
use Rattle.prefixes_core.specs.declared.failure.Failure.{Failure}
use Rattle.prefixes_core.specs.declared.failure.Failure.TheVariants as Failures

-- the line with this number is refused with this error, or memory runs out
abbrev pub IsLineFailure : ℕ → AnswerError → Failure → Type 0
IsLineFailure number error (Failures.Line path n e) = (n ≡ number) × (e ≡ error)
IsLineFailure number error Failures.Memory = Unit {0}
IsLineFailure number error _ = ⊥

-- the lines are not read, or memory runs out
abbrev pub IsInputFailure : Failure → Type 0
IsInputFailure (Failures.Input path e) = Unit {0}
IsInputFailure Failures.Memory = Unit {0}
IsInputFailure _ = ⊥

-- a list is not read
abbrev pub IsListFailure : Failure → Type 0
IsListFailure (Failures.List path e) = Unit {0}
IsListFailure Failures.ReadTwice = Unit {0}
IsListFailure Failures.Memory = Unit {0}
IsListFailure _ = ⊥

-- the output is not written
abbrev pub IsOutputFailure : Failure → Type 0
IsOutputFailure (Failures.Output e) = Unit {0}
IsOutputFailure _ = ⊥

-- a writer, if its contents are known, gets the first of some bytes
abbrev pub GetsFirst : Option (List ℕ) → Option (List ℕ) → List ℕ → Type 0
GetsFirst old new bytes =
    IfSome old (λ had. (part : List ℕ) × (rest : List ℕ) × (bytes ≡ part ++ rest)
    × (new ≡ Some (had ++ part)))

-- what waits is written before the program ends, unless the output fails: then the first of it
abbrev pub IsWritten : Option (List ℕ) → Option (List ℕ) → List ℕ → Failure → Type 0
IsWritten old new waiting (Failures.Output e) = GetsFirst old new waiting
IsWritten old new waiting _ = Appends old new waiting

-- what a failure says of a line, if it names one
abbrev pub IsNamed : Question → List ℕ → ℕ → Failure → Type 0
IsNamed question line number (Failures.Line path n error) =
    (n ≡ number) × IsAnswerFault question line error
IsNamed question line number _ = Unit {0}

-- the bytes that waited are those that a writer got, if its contents are known, and those that
-- still wait
abbrev pub IsKept : Option (List ℕ) → Option (List ℕ) → List ℕ → List ℕ → Type 0
IsKept old new waiting left =
    IfSome old (λ had. (part : List ℕ) × (new ≡ Some (had ++ part)) × (waiting ≡ part ++ left))
