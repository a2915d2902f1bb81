-- What is written for a line, and whether that counts as found.
use Rattle.std.specs.Prelude.{◌≡◌, ◌≢◌, ◌==◌, ◌↔◌, ◌++◌, if◌then◌else◌, ℕ, Bool, List, [], ◌∷◌}
use Rattle.std.specs.Prelude.{length, take, drop, codes, IsTrue, Option, None, Some, MatchOption}
use Rattle.std.specs.Prelude.{map as list_map}
use Rattle.std.specs.Bool.{MatchBool}
use Rattle.std.specs.FinMap as map
use Rattle.std.specs.Fmt.{decimal}
use Rattle.std.specs.List.{flat_map, join_by}
use Rattle.std.specs.Net.Grammar.{IsIpText}
use Rattle.std.specs.Option.{is_some, option_map}
use Rattle.std.specs.Str.{IsUtf8, IsValidUpTo}
use Rattle.std.specs.declared.net.ip_addr.IpAddr.{IpAddr}
use Rattle.patricia_tree.specs.Keys.{key_cmp}
use Rattle.patricia_tree.specs.Prefixes.{longest, under}
use Rattle.prefixes_core.specs.Blocks.{Blocks, Passes, folded}
use Rattle.prefixes_core.specs.Nearest.{AreNearest}
use Rattle.prefixes_core.specs.Networks.{network_of}
use Rattle.prefixes_core.specs.Objects.{object_line, object_text, array_text, option_text}
use Rattle.prefixes_core.specs.Objects.{string_text, bytes_text}
use Rattle.prefixes_core.specs.Segments.{AreSegments}
use Rattle.prefixes_core.specs.Subtrees.{subtree, elsewhere}
use Rattle.prefixes_core.specs.declared.answering.AnswerError.{AnswerError}
use Rattle.prefixes_core.specs.declared.answering.AnswerError.TheVariants as Errors
use Rattle.prefixes_core.specs.declared.answering.Question.{Question}
use Rattle.prefixes_core.specs.declared.answering.Question.TheVariants as Questions
use Rattle.prefixes_core.specs.declared.answering.Style.{Style}
use Rattle.prefixes_core.specs.declared.answering.Style.TheVariants as Styles
use Rattle.prefixes_core.specs.declared.networks.Network.{Network}

-- the line of some fields: a byte 9 stands between each two, and at its end the byte `end`
abbrev pub fields_line : ℕ → List (List ℕ) → List ℕ
fields_line end fields = join_by (λ field. field) (9 ∷ []) fields ++ end ∷ []

-- the line that says that there is nothing
abbrev pub dash_line : ℕ → List ℕ
dash_line end = fields_line end (codes "-" ∷ [])

-- a prefix and its target
abbrev pub route_line : ℕ → Option (List ℕ × List ℕ) → List ℕ
route_line end None = dash_line end
route_line end (Some route) = fields_line end (route.0 ∷ route.1 ∷ [])

-- the line that is asked about, and how many names are found
abbrev pub count_line : ℕ → List ℕ → ℕ → List ℕ
count_line end line count = fields_line end (line ∷ decimal count ∷ [])

-- the names of entries, each on a line behind a byte 9
abbrev pub name_lines : {V : Type 0} → ℕ → List (List ℕ × V) → List ℕ
name_lines end entries = flat_map (λ e. fields_line end ([] ∷ e.0 ∷ [])) entries

-- names in the same way, with how many edits away each is
abbrev pub near_lines : ℕ → List (List ℕ × ℕ) → List ℕ
near_lines end found = flat_map (λ e. fields_line end ([] ∷ e.0 ∷ decimal e.1 ∷ [])) found

-- by which name a host is blocked, if it is
abbrev pub block_line : ℕ → Option (List ℕ) → List ℕ
block_line end None = fields_line end (codes "passes" ∷ [])
block_line end (Some name) = fields_line end (codes "blocked" ∷ name ∷ [])

-- two spaces for each byte 46, a dot
abbrev pub indent : List ℕ → List ℕ
indent name = flat_map (λ b. if b == 46 then codes "  " else []) name

-- a name, and its value where that is not empty
abbrev pub value_line : ℕ → List ℕ → List ℕ → List ℕ
value_line end name [] = fields_line end (name ∷ [])
value_line end name (b ∷ value) = fields_line end (name ∷ (b ∷ value) ∷ [])

-- an entry of the tree of a name, indented by the dots that its own name has behind that one
abbrev pub entry_line : ℕ → List ℕ → List ℕ × List ℕ → List ℕ
entry_line end root entry =
    indent (drop (length root) entry.0) ++ value_line end entry.0 entry.1

-- the entries of the tree of a name
abbrev pub tree_lines : ℕ → List ℕ → List (List ℕ × List ℕ) → List ℕ
tree_lines end root [] = dash_line end
tree_lines end root (entry ∷ entries) = flat_map (entry_line end root) (entry ∷ entries)

-- the object of a line and its route
abbrev pub route_object : List ℕ → Option (List ℕ × List ℕ) → List ℕ
route_object line route =
    object_line ((codes "line", string_text line)
    ∷ (codes "prefix", option_text (option_map (λ r. string_text r.0) route))
    ∷ (codes "target", option_text (option_map (λ r. bytes_text r.1) route)) ∷ [])

-- the object of an address and the network that it is in
abbrev pub network_object : List ℕ → Option Network → List ℕ
network_object address network =
    object_line ((codes "line", bytes_text address)
    ∷ (codes "prefix", option_text (option_map (λ n. bytes_text n.text) network))
    ∷ (codes "target", option_text (option_map (λ n. bytes_text n.target) network)) ∷ [])

-- the object of a line, how many names are found, and some of them
abbrev pub names_object : List ℕ → ℕ → List (List ℕ) → List ℕ
names_object line count names =
    object_line ((codes "line", string_text line) ∷ (codes "count", decimal count)
    ∷ (codes "names", array_text names) ∷ [])

-- the object of a line and some names that begin with it
abbrev pub first_object : List ℕ → List (List ℕ) → List ℕ
first_object line names =
    object_line ((codes "line", string_text line) ∷ (codes "names", array_text names) ∷ [])

-- the object of a name and how many edits away it is
abbrev pub near_object : List ℕ × ℕ → List ℕ
near_object e = object_text ((codes "name", string_text e.0) ∷ (codes "edits", decimal e.1) ∷ [])

-- the object of a host and the name that blocks it
abbrev pub block_object : List ℕ → Option (List ℕ) → List ℕ
block_object host name =
    object_line ((codes "line", bytes_text host)
    ∷ (codes "blocked", option_text (option_map bytes_text name)) ∷ [])

-- the object of an entry
abbrev pub entry_object : List ℕ × List ℕ → List ℕ
entry_object e =
    object_text ((codes "name", string_text e.0) ∷ (codes "value", bytes_text e.1) ∷ [])

-- the object of a name and the entries of its tree
abbrev pub tree_object : List ℕ → List (List ℕ × List ℕ) → List ℕ
tree_object root entries =
    object_line ((codes "line", string_text root)
    ∷ (codes "entries", array_text (list_map entry_object entries)) ∷ [])

-- the object of a line and the pieces that it is cut into
abbrev pub pieces_object : List ℕ → List (List ℕ) → List ℕ
pieces_object line pieces =
    object_line ((codes "line", string_text line)
    ∷ (codes "pieces", array_text (list_map string_text pieces)) ∷ [])

-- each answer, in lines or as an object
abbrev pub route_text : Style → List ℕ → Option (List ℕ × List ℕ) → List ℕ
route_text (Styles.Lines end) line route = route_line end route
route_text Styles.Json line route = route_object line route

abbrev pub network_text : Style → List ℕ → Option Network → List ℕ
network_text (Styles.Lines end) address network =
    route_line end (option_map (λ n. (n.text, n.target)) network)
network_text Styles.Json address network = network_object address network

abbrev pub complete_text : {V : Type 0} → Style → List ℕ → ℕ → List (List ℕ × V) → List ℕ
complete_text (Styles.Lines end) line count first =
    count_line end line count ++ name_lines end first
complete_text Styles.Json line count first =
    names_object line count (list_map (λ e. string_text e.0) first)

abbrev pub first_text : {V : Type 0} → Style → List ℕ → List (List ℕ × V) → List ℕ
first_text (Styles.Lines end) line first = fields_line end (line ∷ []) ++ name_lines end first
first_text Styles.Json line first = first_object line (list_map (λ e. string_text e.0) first)

abbrev pub near_text : Style → List ℕ → ℕ → List (List ℕ × ℕ) → List ℕ
near_text (Styles.Lines end) line count first = count_line end line count ++ near_lines end first
near_text Styles.Json line count first = names_object line count (list_map near_object first)

abbrev pub block_text : Style → List ℕ → Option (List ℕ) → List ℕ
block_text (Styles.Lines end) host name = block_line end name
block_text Styles.Json host name = block_object host name

abbrev pub tree_text : Style → List ℕ → List (List ℕ × List ℕ) → List ℕ
tree_text (Styles.Lines end) root entries = tree_lines end root entries
tree_text Styles.Json root entries = tree_object root entries

abbrev pub pieces_text : Style → List ℕ → List (List ℕ) → List ℕ
pieces_text (Styles.Lines end) line pieces = fields_line end pieces
pieces_text Styles.Json line pieces = pieces_object line pieces

-- what is written for a line
abbrev pub IsAnswer : Style → Question → List ℕ → List ℕ → Type 0
IsAnswer style (Questions.Route routes) line written =
    written ≡ route_text style line (longest line (map.entries routes))
IsAnswer style (Questions.Network table) line written =
    (address : IpAddr) × IsIpText line address
    × (written ≡ network_text style line (network_of table address))
IsAnswer style (Questions.Complete names most) line written =
    let found = under line (map.entries names) in
    written ≡ complete_text style line (length found) (take most found)
IsAnswer style (Questions.First names most) line written =
    written ≡ first_text style line (take most (under line (map.entries names)))
IsAnswer style (Questions.Near names edits most) line written =
    (first : List (List ℕ × ℕ)) × (count : ℕ)
    × AreNearest (map.entries names) line edits most first count
    × (written ≡ near_text style line count first)
IsAnswer style (Questions.Block names) line written =
    (name : Option (List ℕ))
    × MatchOption name (Passes names (folded line)) (Blocks names (folded line))
    × (written ≡ block_text style line name)
IsAnswer style (Questions.Tree list) line written =
    written ≡ tree_text style line (subtree line (map.entries list))
IsAnswer style (Questions.DropTree list) line written =
    written ≡ tree_text style line (subtree line (map.entries list))
IsAnswer style (Questions.Segment words) line written =
    (pieces : List (List ℕ)) × AreSegments words line pieces
    × (written ≡ pieces_text style line pieces)

-- whether something is found for a line
abbrev pub IsFound : Question → List ℕ → Bool → Type 0
IsFound (Questions.Route routes) line found = found ≡ is_some (longest line (map.entries routes))
IsFound (Questions.Network table) line found =
    (address : IpAddr) × IsIpText line address × (found ≡ is_some (network_of table address))
IsFound (Questions.Complete names most) line found =
    IsTrue found ↔ (under line (map.entries names) ≢ [])
IsFound (Questions.First names most) line found =
    IsTrue found ↔ (under line (map.entries names) ≢ [])
IsFound (Questions.Near names edits most) line found =
    (first : List (List ℕ × ℕ)) × (count : ℕ)
    × AreNearest (map.entries names) line edits most first count × (IsTrue found ↔ (count ≢ 0))
IsFound (Questions.Block names) line found =
    MatchBool found ((name : List ℕ) × Blocks names (folded line) name)
    (Passes names (folded line))
IsFound (Questions.Tree list) line found =
    IsTrue found ↔ (subtree line (map.entries list) ≢ [])
IsFound (Questions.DropTree list) line found =
    IsTrue found ↔ (subtree line (map.entries list) ≢ [])
IsFound (Questions.Segment words) line found = IsTrue found ↔ (line ≢ [])

-- what later lines are asked of: what is shown of a tree may be dropped
abbrev pub Leaves : Question → List ℕ → Question → Type 0
Leaves (Questions.DropTree list) line left =
    (rest : map.FinMap key_cmp (List ℕ)) × (left ≡ Questions.DropTree rest)
    × (map.entries rest ≡ elsewhere line (map.entries list))
Leaves question line left = left ≡ question

-- an answer comes at the end of a text
abbrev pub Writes : Style → Question → List ℕ → List ℕ → List ℕ → Type 0
Writes style question line old new =
    (written : List ℕ) × (new ≡ old ++ written) × IsAnswer style question line written

-- lines are texts, and not hosts or addresses
abbrev pub AsksTexts : Question → Type 0
AsksTexts (Questions.Block names) = ⊥
AsksTexts (Questions.Network table) = ⊥
AsksTexts question = Unit {0}

-- a line is UTF-8, or an address, or a host, which may be any bytes
abbrev pub IsRightLine : Question → List ℕ → Type 0
IsRightLine (Questions.Block names) line = Unit {0}
IsRightLine (Questions.Network table) line = (address : IpAddr) × IsIpText line address
IsRightLine question line = IsUtf8 line

-- what each error says of a line
abbrev pub IsAnswerFault : Question → List ℕ → AnswerError → Type 0
IsAnswerFault question line (Errors.NotUtf8 at) =
    AsksTexts question × (IsRightLine question line → ⊥) × IsValidUpTo line at
IsAnswerFault question line Errors.NotAddress =
    (AsksTexts question → ⊥) × (IsRightLine question line → ⊥)
IsAnswerFault question line Errors.Memory = Unit {0}
