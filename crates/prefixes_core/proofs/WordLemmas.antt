-- What the words of a command line ask.
use Rattle.std.proofs.Common.{◌≡◌, ◌<◌, ◌^◌, ℕ, Bool, true, false, List, Option, None, Some, Result}
use Rattle.std.proofs.Common.{Ok, Err, [], codes, sym, ap, subst, ◌∙◌}
use Rattle.std.specs.Prelude.{if◌then◌else◌, unwrap_or}
use Rattle.std.specs.Str.Parse.{IsNumeral, ParsesUnsigned, digits_value, without_leading_plus}
use Rattle.clap.specs.Matches.{ReadsOne, found_of, one_text}
use Rattle.clap.specs.declared.parser.matches.ArgMatches.{ArgMatches}
use Rattle.patricia_tree.specs.Sets.{KeySet}
use Rattle.prefixes_core.specs.Reads.{AreNames}
use Rattle.prefixes_core.specs.Requests.{AsksComplete, IsFlag, IsMost, IsNumber, text_or}
use Rattle.prefixes_core.specs.Sources.{OfBytes}
use Rattle.prefixes_core.specs.declared.answering.Question.{Question}
use Rattle.prefixes_core.specs.declared.answering.Question.TheVariants as Questions
use Rattle.prefixes_core.specs.declared.lines.LineFormat.{LineFormat}

module _ (matches : ArgMatches) (id : List ℕ) where
  -- a flag is given as `clap` says
  pub flag_is : (given : Bool) → (one_text (found_of matches) id ≡ None → given ≡ false)
      → (one_text (found_of matches) id ≡ Some (codes "true") → given ≡ true)
      → (one_text (found_of matches) id ≡ Some (codes "false") → given ≡ false)
      → IsFlag matches id given
  flag_is given none set unset = record { none = none; set = set; unset = unset }

  -- a number is read from the text of an argument, if it has one
  pub number_is : {E : Type 0} (gives : List ℕ → Result ℕ E → Type 0) (bits default n : ℕ)
      (read : Option ℕ)
      → ((text : List ℕ) (r : Result ℕ E) → gives text r → ParsesUnsigned bits 10 text r)
      → (one_text (found_of matches) id ≡ None → read ≡ None)
      → ((text : List ℕ) → one_text (found_of matches) id ≡ Some text
      → ReadsOne gives text read)
      → n ≡ unwrap_or read default → IsNumber matches bits default id n
  number_is {E} gives bits default n read parses none some is = record {
    none = λ e. is ∙ ap (λ r. unwrap_or r default) (none e);
    given = λ text e numeral small. by text read is numeral small (some text e);
  }
    where
      by : (text : List ℕ) (read : Option ℕ) → n ≡ unwrap_or read default
          → IsNumeral 10 (without_leading_plus text)
          → digits_value 10 (without_leading_plus text) < 2 ^ bits → ReadsOne gives text read
          → n ≡ digits_value 10 (without_leading_plus text)
      by text None is numeral small reads =
          absurd (parses text (Err reads.0) reads.1 (numeral, small))
      by text (Some value) is numeral small reads = is ∙ (parses text (Ok value) reads).1

module _ (matches : ArgMatches) (format : LineFormat) (Has : List ℕ → List ℕ → Type 0) where
  -- names are asked for with their count, or without it
  pub asks_complete : (path : List ℕ) (names : KeySet) (most : ℕ) (question : Question)
      → path ≡ text_or matches [] (codes "LIST") → IsMost matches most
      → OfBytes (Has path) (λ bytes. AreNames format bytes names)
      → (given : Bool) × IsFlag matches (codes "no-count") given
      × (question ≡ (if given then Questions.First names most else Questions.Complete names most))
      → AsksComplete matches format Has question
  asks_complete path names most question at is_most read asked =
      by asked.0 asked.1 asked.2
    where
      list : OfBytes (Has (text_or matches [] (codes "LIST")))
          (λ bytes. AreNames format bytes names)
      list = subst (λ p. OfBytes (Has p) (λ bytes. AreNames format bytes names)) at read

      by : (given : Bool) → IsFlag matches (codes "no-count") given
          → question
          ≡ (if given then Questions.First names most else Questions.Complete names most)
          → AsksComplete matches format Has question
      by true flag is = subst (AsksComplete matches format Has) (sym is) (flag, is_most, list)
      by false flag is = subst (AsksComplete matches format Has) (sym is) (flag, is_most, list)
