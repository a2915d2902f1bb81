-- The tree of a list of names, record by record.
use Rattle.std.specs.Prelude.{◌≡◌, ℕ, Bool, List, length, map, max, sum_by}
use Rattle.std.specs.List.{fold}
use Rattle.patricia_tree.specs.Records.{Record, EncodeAll}
use Rattle.patricia_tree.specs.TextKind.{IsTextItem}
use Rattle.patricia_tree.specs.TreeBytes.{AreTreeBytes}

-- the greatest level of a record, 0 for none
abbrev pub deepest : List Record → ℕ
deepest R = fold (λ depth r. max depth r.level) 0 R

module _ {V : Type 0} where
  -- the entries have so many tree bytes, which spell so many records, whose labels have so many
  -- bytes and whose greatest level is the depth: of `bar`, `baz` and `foo` they are 27 bytes and 5
  -- records, whose labels have 7 bytes, at a depth of 2
  pub record AreTreeCounts (entries : List (List ℕ × V)) (tree_bytes nodes label_bytes depth : ℕ)
      : Type 0 where
    pub tree : List ℕ
    pub are : AreTreeBytes IsTextItem 2 tree entries
    pub records : List Record
    pub spelled : EncodeAll 2 records tree
    pub tree_bytes_is : tree_bytes ≡ length tree
    pub nodes_is : nodes ≡ length records
    pub label_bytes_is : label_bytes ≡ sum_by (λ r. length r.label) records
    pub depth_is : depth ≡ deepest records

  -- the nodes, each by its level, its label and whether a name ends there, are the records that the
  -- tree bytes of the entries spell: keys have one encoding, and so their tree is drawn in one way
  pub record AreNodes (entries : List (List ℕ × V)) (nodes : List (ℕ × (List ℕ × Bool)))
      : Type 0 where
    pub tree : List ℕ
    pub are : AreTreeBytes IsTextItem 2 tree entries
    pub records : List Record
    pub spelled : EncodeAll 2 records tree
    pub nodes_are : nodes ≡ map (λ r. (r.level, (r.label, r.value))) records
