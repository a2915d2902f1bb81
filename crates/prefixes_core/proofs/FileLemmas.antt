-- Lists that are read from a file, of which the first bytes are read ahead.
use Rattle.std.proofs.Common.{◌≡◌, ◌<◌, ◌^◌, ℕ, List, length, take}
use Rattle.std.proofs.Common.{Option, Some, IfSome, sym, subst, arith}
use Rattle.std.specs.Bool.{MatchBool}
use Rattle.std.specs.Io.KnownBytes.{prepend_known}
use Rattle.std.specs.List.{All}
use Rattle.prefixes_core.specs.Internal.Heads.{Fills}
use Rattle.prefixes_core.specs.Lists.{AddsLines, IsListLine, lines_of, unmarked}
use Rattle.prefixes_core.specs.Packings.{head}
use Rattle.prefixes_core.specs.Reads.{Reads, ReadsLines, ReadsPacked}
use Rattle.prefixes_core.specs.Sources.{OfBytes}
use Rattle.prefixes_core.specs.declared.lines.LineFormat.{LineFormat}
use Rattle.prefixes_core.specs.declared.listing.Values.{Values}
use Rattle.prefixes_core.proofs.HeadLemmas.{if_some_both, lines_rest, packed_whole, unmarked_few}

module _ {S : Type 0} (IsName : List ℕ → Type 0) (Adds : S → List ℕ → List ℕ → S → Type 0)
    (format : LineFormat) (values : Values) (before after : S) (old new reader : Option (List ℕ))
    (room front : List ℕ) (len : ℕ) (fills : Fills old new room len)
    (front_is : front ≡ take len room) where
  -- as a packed list
  pub packed_read : front ≡ head → reader ≡ prepend_known front new
      → IfSome reader (λ bytes. ReadsPacked Adds bytes before after)
      → OfBytes (λ bytes. old ≡ Some bytes)
      (λ bytes. Reads IsName Adds format values bytes before after)
  packed_read same is reads = λ bytes has short.
      let whole = packed_whole old new reader room front head len fills front_is
      (λ l. ReadsPacked Adds l before after) same is reads bytes has in
      subst (λ b. MatchBool b (ReadsPacked Adds bytes before after)
      (ReadsLines IsName Adds format values bytes before after)) (sym whole.0) whole.1

  -- or as lines
  pub lines_read : length room ≡ 9 → (front ≡ head → ⊥)
      → reader ≡ prepend_known (unmarked format front) new
      → IfSome reader (λ bytes. length bytes < 2 ^ 63
      → AddsLines Adds before (lines_of format bytes) after)
      → IfSome reader (λ bytes. length bytes < 2 ^ 63
      → All (IsListLine IsName values) (lines_of format bytes))
      → OfBytes (λ bytes. old ≡ Some bytes)
      (λ bytes. Reads IsName Adds format values bytes before after)
  lines_read size other is adds right = λ bytes has short.
      let few : length (unmarked format bytes) < 2 ^ 63 =
      omega (arith, unmarked_few format bytes, short) in
      let all = lines_rest old new reader room front head len fills front_is
      (λ l. (length l < 2 ^ 63 → AddsLines Adds before (lines_of format l) after)
      × (length l < 2 ^ 63 → All (IsListLine IsName values) (lines_of format l)))
      size format (omega arith) other is (if_some_both _ _ reader adds right) bytes has in
      subst (λ b. MatchBool b (ReadsPacked Adds bytes before after)
      (ReadsLines IsName Adds format values bytes before after)) (sym all.0)
      (record { right = all.1.1 few; added = all.1.0 few })
