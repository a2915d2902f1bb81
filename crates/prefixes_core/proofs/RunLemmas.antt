-- Commands that answer lines.
use Rattle.std.proofs.Common.{◌≡◌, ◌++◌, ◌<◌, ◌^◌, ◌⊎◌, inl, inr, ℕ, Bool, false, List, [], ◌∷◌}
use Rattle.std.proofs.Common.{length, Option, None, Some, IfSome, codes, refl, sym, ap, subst, ◌∙◌}
use Rattle.std.proofs.Common.{arith}
use Rattle.clap.specs.declared.parser.matches.ArgMatches.{ArgMatches}
use Rattle.std.specs.Io.KnownBytes.{prepend_known}
use Rattle.std.proofs.lemmas.List.{append-nil}
use Rattle.prefixes_core.specs.Internal.Failures.{IsInputFailure, IsListFailure}
use Rattle.prefixes_core.specs.Internal.Heads.{IsSplit}
use Rattle.prefixes_core.specs.Internal.Inputs.{IsAfter}
use Rattle.prefixes_core.specs.Lists.{lines_of, unmarked}
use Rattle.prefixes_core.specs.Requests.{Asks, IsStyle, text_or}
use Rattle.prefixes_core.specs.Runs.{Answers, AnswersInput, EndsEarly, StopsInput, input_lines}
use Rattle.prefixes_core.specs.Sources.{HasBytes}
use Rattle.prefixes_core.specs.Turns.{Answered, AnswersAll, answered, HasAnswers}
use Rattle.prefixes_core.specs.Turns.{IsNextRefused, IsStoppedAt, NamesNoLine}
use Rattle.prefixes_core.specs.declared.answering.Question.{Question}
use Rattle.prefixes_core.specs.declared.answering.Style.{Style}
use Rattle.prefixes_core.specs.declared.failure.Failure.{Failure}
use Rattle.prefixes_core.specs.declared.failure.Failure.TheVariants as Failures
use Rattle.prefixes_core.specs.declared.inputs.Inputs.{Inputs}
use Rattle.prefixes_core.specs.declared.lines.LineFormat.{LineFormat}
use Rattle.prefixes_core.proofs.HeadLemmas.{if_some_on, through_head, unmarked_few}
use Rattle.prefixes_core.proofs.SourceLemmas.{has_after}

-- a failure before any line is read
abbrev pub IsUnread : Failure → Type 0
IsUnread e = IsListFailure e ⊎ IsInputFailure e

-- which names none
pub unread_unnamed : (e : Failure) → IsUnread e → NamesNoLine e
unread_unnamed (Failures.Line path n error) (inl list) = absurd list
unread_unnamed (Failures.Line path n error) (inr input) = absurd input
unread_unnamed _ unread = tt

module _ (style : Style) (format : LineFormat) (question : Question) where
  module _ (old new reader start end : Option (List ℕ)) (head : List ℕ)
      (split : IsSplit old new (unmarked format) head) (is : reader ≡ prepend_known head new) where
    -- lines are answered of which the first bytes are read ahead
    pub answered_after : (left : Question) (found : Bool)
        → IfSome reader (λ bytes. IfSome start (λ had. length bytes < 2 ^ 63 → (written : List ℕ)
        × AnswersAll style question (lines_of format bytes) (answered left written found)
        × (end ≡ Some (had ++ written))))
        → AnswersInput style format question (λ bytes. old ≡ Some bytes) start end left found
    answered_after left found all = λ bytes has short.
        let few : length (unmarked format bytes) < 2 ^ 63 =
        omega (arith, unmarked_few format bytes, short) in
        if_some_on _ _ start (λ had answers. answers few)
        (through_head (unmarked format) old new reader head _ split is all bytes has)

    -- or as far as a failure comes
    pub stopped_after : (e : Failure)
        → IfSome reader (λ bytes. IfSome start (λ had.
        IsStoppedAt style question (lines_of format bytes) had end e))
        → StopsInput style format question (λ bytes. old ≡ Some bytes) start end e
    stopped_after e stops = λ bytes has.
        through_head (unmarked format) old new reader head _ split is stops bytes has

  -- no line is read
  pub unread_stops : (IsKnown : List ℕ → Type 0) (start : Option (List ℕ)) (e : Failure)
      → IsUnread e → StopsInput style format question IsKnown start start e
  unread_stops IsKnown start e unread = λ bytes has. by start bytes
    where
      unnamed : (all : Answered) (after : List (List ℕ)) (e : Failure) → IsUnread e
          → IsNextRefused all 0 after e
      unnamed all after (Failures.Line path n error) (inl list) = absurd list
      unnamed all after (Failures.Line path n error) (inr input) = absurd input
      unnamed all [] _ unread = tt
      unnamed all (line ∷ after) _ unread = tt

      nothing : (had : List ℕ) (e : Failure) → IsUnread e → HasAnswers had (Some had) [] e
      nothing had (Failures.Output error) (inl list) = absurd list
      nothing had (Failures.Output error) (inr input) = absurd input
      nothing had _ unread = ap Some (sym (append-nil had))

      by : (start : Option (List ℕ)) (bytes : List ℕ)
          → IfSome start (λ had.
          IsStoppedAt style question (input_lines format bytes) had start e)
      by None bytes = tt
      by (Some had) bytes = record {
        before = [];
        after = input_lines format bytes;
        all = answered question [] false;
        joined = refl;
        answers = refl;
        named = unnamed (answered question [] false) (input_lines format bytes) e unread;
        has = nothing had e unread;
      }

-- lines are answered after the list is read
module _ {R I E : Type 0} (content : R → List ℕ → Option (List ℕ))
    (remaining : I → Option (List ℕ)) (old new : Inputs R I E) (after : IsAfter old new)
    (name : List ℕ) (matches : ArgMatches) (question : Question) (style : Style)
    (format : LineFormat) (path : List ℕ) (start end : Option (List ℕ))
    (asks : Asks matches old.format (HasBytes content remaining old) name question)
    (at : path ≡ text_or matches (codes "-") (codes "lines")) (same : format ≡ new.format)
    (styled : IsStyle matches new.format style) where
  style_before : IsStyle matches old.format style
  style_before = subst (λ f. IsStyle matches f style) after.format styled

  -- the bytes that the lines have are those that they had before
  bytes_after : (bytes : List ℕ)
      → HasBytes content remaining old (text_or matches (codes "-") (codes "lines")) bytes
      → HasBytes content remaining new path bytes
  bytes_after bytes has = has_after content remaining old new path after bytes
      (subst (λ p. HasBytes content remaining old p bytes) (sym at) has)

  pub lines_answered : (left : Question) (found : Bool)
      → AnswersInput style format question (HasBytes content remaining new path) start end left
      found
      → Answers name matches old.format (HasBytes content remaining old) start end found
  lines_answered left found all = record {
    question = question;
    style = style;
    left = left;
    asks = asks;
    styled = style_before;
    answers = λ bytes has short. subst (λ f. AnswersInput style f question
        (HasBytes content remaining new path) start end left found) (same ∙ after.format) all
        bytes (bytes_after bytes has) short;
  }

  pub lines_stopped : (e : Failure)
      → StopsInput style format question (HasBytes content remaining new path) start end e
      → EndsEarly name matches old.format (HasBytes content remaining old) start end e
  lines_stopped e stops = inl (record {
    question = question;
    style = style;
    asks = asks;
    styled = style_before;
    stops = λ bytes has. subst (λ f. StopsInput style f question
        (HasBytes content remaining new path) start end e) (same ∙ after.format) stops
        bytes (bytes_after bytes has);
  })
