-- The records of siblings.
use Rattle.std.specs.Prelude.{◌≡◌, ℕ, ◌+◌, ◌≤◌, ◌≢◌, ◌⊎◌, Bool, true, false, List, [], ◌∷◌, ◌++◌}
use Rattle.std.specs.Prelude.{length, Option, Some, None, is_some}
use Rattle.patricia_keys.specs.Keys.{IsValid}
use Rattle.patricia_model.specs.Siblings.{Siblings, end, node, IsBeforeSiblings}
use Rattle.patricia_wire.specs.Records.{Record}

module _ {V : Type 0} where
  -- whether the siblings have a node
  abbrev pub has_node : Siblings V → Bool
  has_node end = false
  has_node (node label value child sibling) = true

  -- the record of a node at level d
  abbrev pub record_of : ℕ → List ℕ → Option V → Siblings V → Siblings V → Record
  record_of d label value child sibling = record {
    level = d;
    label = label;
    value = is_some value;
    child = has_node child;
    sibling = has_node sibling;
  }

  -- the records of siblings at level d: each node's, then those of its children, then its siblings'
  abbrev pub records_of : ℕ → Siblings V → List Record
  records_of d end = []
  records_of d (node label value child sibling) =
      record_of d label value child sibling ∷ (records_of (d + 1) child ++ records_of d sibling)

  -- the records of a tree: the root's, with the value of the empty key, and those of the siblings
  -- below it
  abbrev pub tree_records : Option V → Siblings V → List Record
  tree_records value siblings = record_of 0 [] value siblings end ∷ records_of 1 siblings

  -- a node over its children and beside its siblings: one without value takes a lone child in
  abbrev pub over : List ℕ → Option V → Siblings V → Siblings V → Siblings V
  over label (Some value) child sibling = node label (Some value) child sibling
  over label None end sibling = node label None end sibling
  over label None (node l v c end) sibling = node (label ++ l) v c sibling
  over label None (node l v c (node m w b s)) sibling =
      node label None (node l v c (node m w b s)) sibling

  -- the siblings in memory: each lone child of a node without value is taken in
  abbrev pub joined : Siblings V → Siblings V
  joined end = end
  joined (node label value child sibling) = over label value (joined child) (joined sibling)

-- siblings whose records are a tree: labels are valid keys of 1 to 255 bytes, first items rise, and
-- each node has a value or a child
abbrev pub IsWritable : {V : Type 0} → (List ℕ → Type 0) → Siblings V → Type 0
IsWritable item end = Unit {0}
IsWritable item (node label value child sibling) = record {
  valid : IsValid item label;
  nonempty : label ≢ [];
  fits : length label ≤ 255;
  marked : (is_some value ≡ true) ⊎ (has_node child ≡ true);
  rises : IsBeforeSiblings item label sibling;
  child : IsWritable item child;
  sibling : IsWritable item sibling;
}
