-- What is read from the bytes of a list, which is lines or packed.
use Rattle.std.specs.Prelude.{◌≡◌, nat_eq, ℕ, List}
use Rattle.std.specs.Bool.{MatchBool}
use Rattle.std.specs.FinMap as map
use Rattle.std.specs.List.{All, starts_with}
use Rattle.patricia_tree.specs.Keys.{key_cmp}
use Rattle.patricia_tree.specs.Sets.{KeySet}
use Rattle.prefixes_core.specs.Blocks.{folded}
use Rattle.prefixes_core.specs.Lists.{AddsEntries, AddsLines, IsListLine, lines_of, unmarked}
use Rattle.prefixes_core.specs.Networks.{AddsNetwork, IsNetwork, Networks}
use Rattle.prefixes_core.specs.Packings.{Packs, head}
use Rattle.prefixes_core.specs.declared.lines.LineFormat.{LineFormat}
use Rattle.prefixes_core.specs.declared.listing.Values.{Values}
use Rattle.prefixes_core.specs.declared.listing.Values.TheVariants as Need

module _ {S : Type 0} (Adds : S → List ℕ → List ℕ → S → Type 0) where
  -- the bytes are a packed list, and its entries are added in the order of their names
  pub record ReadsPacked (bytes : List ℕ) (old new : S) : Type 0 where
    pub entries : List (List ℕ × List ℕ)
    pub packs : Packs bytes entries
    pub added : AddsEntries Adds old entries new

module _ {S : Type 0} (IsName : List ℕ → Type 0) (Adds : S → List ℕ → List ℕ → S → Type 0) where
  -- each line of the bytes is right, and all of them are added
  pub record ReadsLines (format : LineFormat) (values : Values) (bytes : List ℕ) (old new : S)
      : Type 0 where
    pub right : All (IsListLine IsName values) (lines_of format (unmarked format bytes))
    pub added : AddsLines Adds old (lines_of format (unmarked format bytes)) new

  -- bytes that begin as packed lists do are read as one, and any others as lines
  abbrev pub Reads : LineFormat → Values → List ℕ → S → S → Type 0
  Reads format values bytes old new =
      MatchBool (starts_with nat_eq bytes head)
      (ReadsPacked Adds bytes old new) (ReadsLines format values bytes old new)

-- any text may be a name
abbrev pub IsAnyName : List ℕ → Type 0
IsAnyName name = Unit {0}

-- a list before and after a name is added: with its value, or alone, or as hosts are compared
abbrev pub AddsValue : map.FinMap key_cmp (List ℕ) → List ℕ → List ℕ
    → map.FinMap key_cmp (List ℕ) → Type 0
AddsValue old name value new = new ≡ map.insert old name value

abbrev pub AddsName : KeySet → List ℕ → List ℕ → KeySet → Type 0
AddsName old name value new = new ≡ map.insert old name tt

abbrev pub AddsHost : KeySet → List ℕ → List ℕ → KeySet → Type 0
AddsHost old name value new = new ≡ map.insert old (folded name) tt

-- the names of a list with these bytes, each with the last of its values
abbrev pub IsListing : LineFormat → List ℕ → map.FinMap key_cmp (List ℕ) → Type 0
IsListing format bytes list = Reads IsAnyName AddsValue format Need.Optional bytes map.empty list

-- its names alone
abbrev pub AreNames : LineFormat → List ℕ → KeySet → Type 0
AreNames format bytes names = Reads IsAnyName AddsName format Need.Optional bytes map.empty names

-- its names, as hosts are compared with them
abbrev pub IsBlockList : LineFormat → List ℕ → KeySet → Type 0
IsBlockList format bytes names =
    Reads IsAnyName AddsHost format Need.Optional bytes map.empty names

-- the prefixes of a table with these bytes, each with its target
abbrev pub AreRoutes : LineFormat → List ℕ → map.FinMap key_cmp (List ℕ) → Type 0
AreRoutes format bytes routes = Reads IsAnyName AddsValue format Need.Needed bytes map.empty routes

-- the networks of a table with these bytes, each with its target
abbrev pub AreNetworks : LineFormat → List ℕ → Networks → Type 0
AreNetworks format bytes table =
    Reads IsNetwork AddsNetwork format Need.Needed bytes map.empty table
