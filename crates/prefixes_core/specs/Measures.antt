-- What a list takes, and the lines that say so.
use Rattle.std.specs.Prelude.{◌≡◌, ◌*◌, ◌-◌, ◌/◌, ◌++◌, ℕ, Bool, true, false, List, [], ◌∷◌}
use Rattle.std.specs.Prelude.{length, sum_by, codes}
use Rattle.std.specs.Fmt.{decimal}
use Rattle.prefixes_core.specs.Objects.{object_line}
use Rattle.prefixes_core.specs.Trees.{AreTreeCounts}
use Rattle.prefixes_core.specs.declared.measuring.Measures.{Measures}

-- the numbers are those of the entries and of the tree of their keys
pub record AreMeasures {V : Type 0} (entries : List (List ℕ × V)) (m : Measures) : Type 0 where
  pub names : m.names ≡ length entries
  pub name_bytes : m.name_bytes ≡ sum_by (λ e. length e.0) entries
  pub tree : AreTreeCounts entries m.tree_bytes m.nodes m.label_bytes m.depth

-- how many hundredths of the bytes of names the labels save, rounded down: 11 bytes of labels save
-- 47 hundredths of 21 bytes of names
abbrev pub saved_percent : ℕ → ℕ → ℕ
saved_percent name_bytes label_bytes = (name_bytes - label_bytes) * 100 / name_bytes

-- the line of a number: its name, a byte 9, and the number and its unit
unfoldable pub number_line : List ℕ → ℕ → List ℕ → List ℕ
number_line name number unit = name ++ 9 ∷ decimal number ++ unit ++ 10 ∷ []

-- the lines of all numbers
abbrev pub measure_lines : Measures → List ℕ
measure_lines m =
    number_line (codes "names") m.names [] ++ number_line (codes "name bytes") m.name_bytes []
    ++ number_line (codes "nodes") m.nodes [] ++ number_line (codes "label bytes") m.label_bytes []
    ++ number_line (codes "tree bytes") m.tree_bytes [] ++ number_line (codes "depth") m.depth []
    ++ number_line (codes "saved") (saved_percent m.name_bytes m.label_bytes) (codes "%")

-- the object of all numbers, on a line
abbrev pub measure_object : Measures → List ℕ
measure_object m =
    object_line ((codes "names", decimal m.names) ∷ (codes "name_bytes", decimal m.name_bytes)
    ∷ (codes "nodes", decimal m.nodes) ∷ (codes "label_bytes", decimal m.label_bytes)
    ∷ (codes "tree_bytes", decimal m.tree_bytes) ∷ (codes "depth", decimal m.depth)
    ∷ (codes "saved_percent", decimal (saved_percent m.name_bytes m.label_bytes)) ∷ [])

-- all numbers, as JSON or in lines
abbrev pub measures_text : Bool → Measures → List ℕ
measures_text true m = measure_object m
measures_text false m = measure_lines m

-- what is written of the entries
abbrev pub TellsMeasures : {V : Type 0} → Bool → List (List ℕ × V) → List ℕ → Type 0
TellsMeasures as_json entries text =
    (m : Measures) × AreMeasures entries m × (text ≡ measures_text as_json m)
