-- The questions that the words of a command line ask.
use Rattle.std.specs.Prelude.{◌≡◌, ◌<◌, ◌^◌, ℕ, Bool, true, false, List, [], codes}
use Rattle.std.specs.Prelude.{None, Some, unwrap_or}
use Rattle.std.specs.Str.Parse.{IsNumeral, digits_value, without_leading_plus}
use Rattle.clap.specs.Matches.{first_value, found_of, one_text}
use Rattle.clap.specs.declared.parser.matches.ArgMatches.{ArgMatches}
use Rattle.prefixes_core.specs.Reads.{AreNames, AreNetworks, AreRoutes, IsBlockList, IsListing}
use Rattle.prefixes_core.specs.Sources.{OfBytes}
use Rattle.prefixes_core.specs.declared.answering.Question.{Question}
use Rattle.prefixes_core.specs.declared.answering.Question.TheVariants as Questions
use Rattle.prefixes_core.specs.declared.answering.Style.{Style}
use Rattle.prefixes_core.specs.declared.answering.Style.TheVariants as Styles
use Rattle.prefixes_core.specs.declared.lines.LineFormat.{LineFormat}

module _ (matches : ArgMatches) where
  -- the text of an argument, or this one if it is not given
  abbrev pub text_or : List ℕ → List ℕ → List ℕ
  text_or default id = unwrap_or (first_value (found_of matches) id) default

  -- whether a flag is given
  pub record IsFlag (id : List ℕ) (given : Bool) : Type 0 where
    pub none : one_text (found_of matches) id ≡ None → given ≡ false
    pub set : one_text (found_of matches) id ≡ Some (codes "true") → given ≡ true
    pub unset : one_text (found_of matches) id ≡ Some (codes "false") → given ≡ false

  -- the number that the digits of an argument write, which has at most so many bits, or this one
  -- if it is not given
  pub record IsNumber (bits default : ℕ) (id : List ℕ) (n : ℕ) : Type 0 where
    pub none : one_text (found_of matches) id ≡ None → n ≡ default
    pub given :
        (text : List ℕ) → one_text (found_of matches) id ≡ Some text
        → IsNumeral 10 (without_leading_plus text)
        → digits_value 10 (without_leading_plus text) < 2 ^ bits
        → n ≡ digits_value 10 (without_leading_plus text)

  -- how answers are written
  abbrev pub IsStyle : LineFormat → Style → Type 0
  IsStyle format (Styles.Lines end) = IsFlag (codes "json") false × (end ≡ format.end)
  IsStyle format Styles.Json = IsFlag (codes "json") true

  -- how many names are shown for each line
  abbrev pub IsMost : ℕ → Type 0
  IsMost most = IsNumber 32 10 (codes "most") most

  -- `Has` says which bytes a path is known to have
  module _ (format : LineFormat) (Has : List ℕ → List ℕ → Type 0) where
    -- the bytes of the list that an argument names have a property, if they are known
    abbrev pub OfList : List ℕ → (List ℕ → Type 0) → Type 0
    OfList id P = OfBytes (Has (text_or [] id)) P

    -- the question of each command about its list
    abbrev pub AsksRoute : Question → Type 0
    AsksRoute (Questions.Route routes) =
        IsFlag (codes "cidr") false
        × OfList (codes "TABLE") (λ bytes. AreRoutes format bytes routes)
    AsksRoute (Questions.Network table) =
        IsFlag (codes "cidr") true
        × OfList (codes "TABLE") (λ bytes. AreNetworks format bytes table)
    AsksRoute _ = ⊥

    abbrev pub AsksComplete : Question → Type 0
    AsksComplete (Questions.Complete names most) =
        IsFlag (codes "no-count") false × IsMost most
        × OfList (codes "LIST") (λ bytes. AreNames format bytes names)
    AsksComplete (Questions.First names most) =
        IsFlag (codes "no-count") true × IsMost most
        × OfList (codes "LIST") (λ bytes. AreNames format bytes names)
    AsksComplete _ = ⊥

    abbrev pub AsksNear : Question → Type 0
    AsksNear (Questions.Near names edits most) =
        IsNumber 8 1 (codes "edits") edits × IsMost most
        × OfList (codes "LIST") (λ bytes. AreNames format bytes names)
    AsksNear _ = ⊥

    abbrev pub AsksBlock : Question → Type 0
    AsksBlock (Questions.Block names) =
        OfList (codes "LIST") (λ bytes. IsBlockList format bytes names)
    AsksBlock _ = ⊥

    abbrev pub AsksTree : Question → Type 0
    AsksTree (Questions.Tree list) =
        IsFlag (codes "drop") false
        × OfList (codes "LIST") (λ bytes. IsListing format bytes list)
    AsksTree (Questions.DropTree list) =
        IsFlag (codes "drop") true
        × OfList (codes "LIST") (λ bytes. IsListing format bytes list)
    AsksTree _ = ⊥

    abbrev pub AsksSegment : Question → Type 0
    AsksSegment (Questions.Segment words) =
        OfList (codes "DICTIONARY") (λ bytes. AreNames format bytes words)
    AsksSegment _ = ⊥

    -- the question of the command with this name
    pub record Asks (name : List ℕ) (question : Question) : Type 0 where
      pub route : name ≡ codes "route" → AsksRoute question
      pub complete : name ≡ codes "complete" → AsksComplete question
      pub near : name ≡ codes "near" → AsksNear question
      pub block : name ≡ codes "block" → AsksBlock question
      pub tree : name ≡ codes "tree" → AsksTree question
      pub segment : name ≡ codes "segment" → AsksSegment question
