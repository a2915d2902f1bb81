-- The texts that a tree of names is drawn as. A node is its level, its label and whether a name
-- ends there.
use Rattle.std.specs.Prelude.{◌≡◌, ◌+◌, ◌*◌, ◌-◌, ◌++◌, ◌==◌, ◌||◌, if◌then◌else◌, ℕ}
use Rattle.std.specs.Prelude.{Bool, true, false}
use Rattle.std.specs.Prelude.{List, [], ◌∷◌, length, take, replicate, codes, slice_get, slice_range}
use Rattle.std.specs.Prelude.{Option, None, Some}
use Rattle.std.specs.Bool.{then_some}
use Rattle.std.specs.Fmt.{decimal}
use Rattle.std.specs.List.{concat, flat_map}
use Rattle.std.specs.Str.Lossy.{utf8_lossy}
use Rattle.prefixes_core.specs.Objects.{bytes_text, object_line, option_text, string_text}
use Rattle.prefixes_core.specs.Trees.{AreNodes}
use Rattle.prefixes_core.specs.declared.drawing.Form.{Form}
use Rattle.prefixes_core.specs.declared.drawing.Form.TheVariants as Forms

-- the way from the root to a node of this level, by the way to the node before it
abbrev pub way_to : {A : Type 0} → List A → ℕ → A → List A
way_to before level own = take level before ++ own ∷ []

-- a text in quotes and with escapes, as JSON has it; what is not UTF-8 is shown as U+FFFD
unfoldable pub shown : List ℕ → List ℕ
shown text = string_text (utf8_lossy text)

-- the name that ends at a node, behind a byte 9
abbrev pub name_field : Bool → List (List ℕ) → List ℕ
name_field false way = []
name_field true way = 9 ∷ shown (concat way)

-- the line of a node: two spaces for each level, its label, and the name that ends there
abbrev pub node_line : List (List ℕ) → ℕ × (List ℕ × Bool) → List ℕ
node_line way node =
    replicate (2 * node.0) 32 ++ shown node.1.0 ++ name_field node.1.1 way ++ 10 ∷ []

-- the object of a node, on its line
abbrev pub node_object : List (List ℕ) → ℕ × (List ℕ × Bool) → List ℕ
node_object way node =
    object_line ((codes "level", decimal node.0) ∷ (codes "label", bytes_text node.1.0)
    ∷ (codes "name", option_text (then_some node.1.1 (bytes_text (concat way)))) ∷ [])

-- what is written for a node, as JSON or as text
abbrev pub node_text : Bool → List (List ℕ) → ℕ × (List ℕ × Bool) → List ℕ
node_text true = node_object
node_text false = node_line

module _ (line : List (List ℕ) → ℕ × (List ℕ × Bool) → List ℕ) where
  -- the lines of nodes, the first of which comes after a node that these labels lead to
  abbrev pub node_lines : List (List ℕ) → List (ℕ × (List ℕ × Bool)) → List ℕ
  node_lines before [] = []
  node_lines before (node ∷ nodes) =
      let way = way_to before node.0 node.1.0 in line way node ++ node_lines way nodes

-- what Graphviz reads as the byte in quotes, where `&` begins an entity
abbrev pub graph_byte : ℕ → List ℕ
graph_byte b =
    if b == 38 then codes "&amp;" else (if (b == 34) || (b == 92) then 92 ∷ b ∷ [] else b ∷ [])

-- a label in quotes, which Graphviz shows with the escapes of JSON: what these stand for between
-- the quotes of JSON
abbrev pub graph_label : List ℕ → List ℕ
graph_label label =
    let text = shown label in
    34 ∷ flat_map graph_byte (slice_range text 1 (length text - 1)) ++ 34 ∷ []

-- what a graph calls a node, by its place among all nodes
abbrev pub node_name : ℕ → List ℕ
node_name place = codes "n" ++ decimal place

-- the two borders of a node that a name ends at
abbrev pub borders : Bool → List ℕ
borders false = []
borders true = codes ", peripheries=2"

-- a node of a graph, with two borders where a name ends
abbrev pub graph_node : ℕ → ℕ × (List ℕ × Bool) → List ℕ
graph_node place node =
    codes "    " ++ node_name place ++ codes " [label=" ++ graph_label node.1.0
    ++ borders node.1.1 ++ codes "];"

-- the edge that leads to a node from the last one on the way to it, if there is one
abbrev pub graph_edge : Option ℕ → ℕ → List ℕ
graph_edge None place = []
graph_edge (Some parent) place =
    codes " " ++ node_name parent ++ codes " -> " ++ node_name place ++ codes ";"

-- the line of a node, which is below the last of the nodes at these places
abbrev pub graph_line : List ℕ → ℕ → ℕ × (List ℕ × Bool) → List ℕ
graph_line parents place node =
    graph_node place node ++ graph_edge (slice_get parents (length parents - 1)) place ++ 10 ∷ []

-- the lines of nodes from this place on, the first of which comes after a node that those at these
-- places lead to
abbrev pub graph_lines : List ℕ → ℕ → List (ℕ × (List ℕ × Bool)) → List ℕ
graph_lines before place [] = []
graph_lines before place (node ∷ nodes) =
    graph_line (take node.0 before) place node
    ++ graph_lines (way_to before node.0 place) (place + 1) nodes

-- the graph of all nodes
abbrev pub graph_text : List (ℕ × (List ℕ × Bool)) → List ℕ
graph_text nodes =
    codes "digraph prefixes {\n    node [shape=box];\n" ++ graph_lines [] 0 nodes ++ codes "}\n"

-- the text of nodes in a form
abbrev pub drawing : Form → List (ℕ × (List ℕ × Bool)) → List ℕ
drawing Forms.Lines nodes = node_lines (node_text false) [] nodes
drawing Forms.Graph nodes = graph_text nodes
drawing Forms.Json nodes = node_lines (node_text true) [] nodes

-- the text of the tree of the names of entries
abbrev pub Draws : {V : Type 0} → Form → List (List ℕ × V) → List ℕ → Type 0
Draws form entries text =
    (nodes : List (ℕ × (List ℕ × Bool))) × AreNodes entries nodes × (text ≡ drawing form nodes)
