-- The bytes that paths have, before and after a list is read.
use Rattle.std.proofs.Common.{◌≡◌, inl, inr, Bool, true, false, ℕ, List}
use Rattle.std.proofs.Common.{Option, Some, IfSome, codes, sym, subst, ◌∙◌}
use Rattle.std.specs.Bool.{MatchBool}
use Rattle.std.specs.Str.{bytes_eq}
use Rattle.patricia_tree.specs.Sets.{KeySet}
use Rattle.prefixes_core.specs.Combinations.{AreNamesAt, CombinesWith}
use Rattle.prefixes_core.specs.Internal.Inputs.{IsAfter}
use Rattle.prefixes_core.specs.Sources.{HasBytes, OfBytes}
use Rattle.prefixes_core.specs.declared.combining.Combination.{Combination}
use Rattle.prefixes_core.specs.declared.inputs.Inputs.{Inputs}

-- bytes that a path has where one is known are those that it has where another one is
pub of_others : (IsKnown IsOther P : List ℕ → Type 0)
    → ((bytes : List ℕ) → IsOther bytes → IsKnown bytes) → OfBytes IsKnown P → OfBytes IsOther P
of_others IsKnown IsOther P on all = λ bytes has short. all bytes (on bytes has) short

module _ {R I E : Type 0} (content : R → List ℕ → Option (List ℕ))
    (remaining : I → Option (List ℕ)) where
  module _ (old new : Inputs R I E) (path : List ℕ) where
    -- what is known of a path is known of it after a list is read
    pub has_after : IsAfter old new → (bytes : List ℕ)
        → HasBytes content remaining old path bytes → HasBytes content remaining new path bytes
    has_after after bytes has = by (bytes_eq path (codes "-")) has
      where
        Gives : I → Type 0
        Gives input = remaining input ≡ Some bytes

        by : (b : Bool)
            → MatchBool b (IfSome old.standard Gives) (content old.rt.now path ≡ Some bytes)
            → MatchBool b (IfSome new.standard Gives) (content new.rt.now path ≡ Some bytes)
        by true has = elim after.standard [
          | inl same ↦ subst (λ s. IfSome s Gives) (sym same) has
          | inr none ↦ subst (λ s. IfSome s Gives) (sym none) tt
        ]
        by false has = subst (λ r. content r.now path ≡ Some bytes) (sym after.files) has

    -- names are combined with those that a path has after a list is read
    pub combines_after : (combination : Combination) (names both : KeySet) → IsAfter old new
        → CombinesWith new.format (HasBytes content remaining new) combination names path both
        → CombinesWith old.format (HasBytes content remaining old) combination names path both
    combines_after combination names both after combines = (
      combines.0,
      subst (λ f. AreNamesAt f (HasBytes content remaining old) path combines.0) after.format
          (of_others _ _ _ (has_after after) combines.1),
      combines.2,
    )

  module _ (inputs : Inputs R I E) (path : List ℕ) where
    -- the standard input has the bytes of a hyphen
    pub of_standard : bytes_eq path (codes "-") ≡ true → (bytes : List ℕ)
        → HasBytes content remaining inputs path bytes
        → IfSome inputs.standard (λ input. remaining input ≡ Some bytes)
    of_standard is bytes has = subst (λ b. MatchBool b
        (IfSome inputs.standard (λ input. remaining input ≡ Some bytes))
        (content inputs.rt.now path ≡ Some bytes)) is has

    -- and a file those of any other path
    pub of_file : bytes_eq path (codes "-") ≡ false → (bytes : List ℕ)
        → HasBytes content remaining inputs path bytes → content inputs.rt.now path ≡ Some bytes
    of_file is bytes has = subst (λ b. MatchBool b
        (IfSome inputs.standard (λ input. remaining input ≡ Some bytes))
        (content inputs.rt.now path ≡ Some bytes)) is has

module _ {R I E : Type 0} (one mid last : Inputs R I E) where
  -- one list is read after the other
  pub after_again : IsAfter one mid → IsAfter mid last → IsAfter one last
  after_again first then = record {
    files = then.files ∙ first.files;
    format = then.format ∙ first.format;
    standard = elim then.standard [
      | inl same ↦ elim first.standard [
        | inl first ↦ inl (same ∙ first)
        | inr none ↦ inr (same ∙ none)
      ]
      | inr none ↦ inr none
    ];
  }
