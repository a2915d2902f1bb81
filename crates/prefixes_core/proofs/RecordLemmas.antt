-- The records of tree bytes, one after the other.
use Rattle.std.proofs.Common.{◌≡◌, ℕ, Bool, ◌+◌, ◌≤◌, List, [], ◌∷◌, ◌++◌}
use Rattle.std.proofs.Common.{length, map, refl, sym, ap, subst, ◌∙◌, arith}
use Rattle.std.specs.Prelude.{max, sum_by}
use Rattle.std.specs.List.{fold}
use Rattle.std.proofs.lemmas.List.{append_assoc, append-nil}
use Rattle.patricia_tree.specs.Records.{Record, EncodeAll}
use Rattle.patricia_tree.specs.TextKind.{IsTextItem}
use Rattle.patricia_tree.specs.TreeBytes.{AreTreeBytes}
use Rattle.prefixes_core.specs.Internal.Splits.{IsFirstRecord, IsNoRecord, AreMeasured, AreRead}
use Rattle.prefixes_core.specs.Trees.{deepest, AreTreeCounts, AreNodes}

-- of the records R those behind the first ones are left, and these are the counts of the first ones
pub record IsMeasuredTo (R : List Record) (rest : List ℕ) (nodes label_bytes depth : ℕ)
    : Type 0 where
  pub left : List Record
  pub spelled : EncodeAll 2 left rest
  pub nodes_is : nodes + length left ≡ length R
  pub label_bytes_is :
      fold (λ a r. a + length r.label) label_bytes left ≡ sum_by (λ r. length r.label) R
  pub depth_is : fold (λ depth r. max depth r.level) depth left ≡ deepest R

-- so it is of whatever records the bytes spell, and the counts are no greater than what is read
pub record IsMeasuring (bytes rest : List ℕ) (nodes label_bytes depth : ℕ) : Type 0 where
  pub counts : (R : List Record) → EncodeAll 2 R bytes → IsMeasuredTo R rest nodes label_bytes depth
  pub few : nodes + length rest ≤ length bytes
  pub short : label_bytes + length rest ≤ length bytes

-- at first nothing is counted
pub none_measured : (bytes : List ℕ) → IsMeasuring bytes bytes 0 0 0
none_measured bytes = record {
  counts = λ R e. record {
    left = R;
    spelled = e;
    nodes_is = omega arith;
    label_bytes_is = refl;
    depth_is = refl;
  };
  few = omega arith;
  short = omega arith;
}

module _ (bytes rest : List ℕ) (nodes label_bytes depth : ℕ)
    (is : IsMeasuring bytes rest nodes label_bytes depth) where
  -- one record more
  pub measured_more : (level : ℕ) (label : List ℕ) (is_name : Bool) (later : List ℕ)
      (nodes' label_bytes' depth' : ℕ) → nodes' ≡ nodes + 1
      → label_bytes' ≡ label_bytes + length label → depth' ≡ max depth level
      → IsFirstRecord rest level label is_name later
      → IsMeasuring bytes later nodes' label_bytes' depth'
  measured_more level label is_name later nodes' label_bytes' depth' more longer deeper first =
      record {
        counts = λ R e. (let before = is.counts R e in by R before before.left refl);
        few = omega (arith, is.few, first.size, more);
        short = omega (arith, is.short, first.size, longer);
      }
    where
      by : (R : List Record) (before : IsMeasuredTo R rest nodes label_bytes depth)
          (left : List Record) → before.left ≡ left
          → IsMeasuredTo R later nodes' label_bytes' depth'
      by R before [] none = absurd (first.some (subst (λ l. EncodeAll 2 l rest) none before.spelled))
      by R before (r ∷ left) some =
          let parts = first.first r left (subst (λ l. EncodeAll 2 l rest) some before.spelled) in
          record {
            left = left;
            spelled = parts.1.1.1;
            nodes_is = omega (arith, more, ap length some, before.nodes_is);
            label_bytes_is =
                ap (λ n. fold (λ a r. a + length r.label) n left)
                (longer ∙ ap (λ l. label_bytes + length l) (sym parts.1.0))
                ∙ ap (λ l. fold (λ a r. a + length r.label) label_bytes l) (sym some)
                ∙ before.label_bytes_is;
            depth_is =
                ap (λ n. fold (λ depth r. max depth r.level) n left)
                (deeper ∙ ap (λ n. max depth n) (sym parts.0))
                ∙ ap (λ l. fold (λ depth r. max depth r.level) depth l) (sym some)
                ∙ before.depth_is;
          }

  -- where no record is left, all are counted
  pub all_measured : IsNoRecord rest → AreMeasured bytes nodes label_bytes depth
  all_measured none R e = (let before = is.counts R e in by R before before.left refl)
    where
      by : (R : List Record) (before : IsMeasuredTo R rest nodes label_bytes depth)
          (left : List Record) → before.left ≡ left
          → (nodes ≡ length R) × ((label_bytes ≡ sum_by (λ r. length r.label) R)
          × (depth ≡ deepest R))
      by R before [] end = (
        omega (arith, before.nodes_is, ap length end),
        (
          ap (λ l. fold (λ a r. a + length r.label) label_bytes l) (sym end) ∙ before.label_bytes_is,
          ap (λ l. fold (λ depth r. max depth r.level) depth l) (sym end) ∙ before.depth_is,
        ),
      )
      by R before (r ∷ left) some =
          absurd (none r left (subst (λ l. EncodeAll 2 l rest) some before.spelled))

-- what is read of a record
abbrev pub node_of : Record → ℕ × (List ℕ × Bool)
node_of r = (r.level, (r.label, r.value))

-- of whatever records the bytes spell, those that are read are the first ones
abbrev pub AreReading : List ℕ → List ℕ → List (ℕ × (List ℕ × Bool)) → Type 0
AreReading bytes rest nodes =
    (R : List Record) → EncodeAll 2 R bytes
    → (left : List Record) × EncodeAll 2 left rest × (nodes ++ map node_of left ≡ map node_of R)

-- at first none is read
pub none_read : (bytes : List ℕ) → AreReading bytes bytes []
none_read bytes R e = (R, e, refl)

module _ (bytes rest : List ℕ) (nodes : List (ℕ × (List ℕ × Bool)))
    (is : AreReading bytes rest nodes) where
  -- one record more
  pub read_more : (level : ℕ) (label : List ℕ) (is_name : Bool) (later : List ℕ)
      (more : List (ℕ × (List ℕ × Bool))) → more ≡ nodes ++ (level, (label, is_name)) ∷ []
      → IsFirstRecord rest level label is_name later → AreReading bytes later more
  read_more level label is_name later more pushed first R e =
      (let before = is R e in by before.0 before.1 before.2)
    where
      by : (left : List Record) → EncodeAll 2 left rest → nodes ++ map node_of left ≡ map node_of R
          → (left : List Record) × EncodeAll 2 left later × (more ++ map node_of left ≡ map node_of R)
      by [] spelled joined = absurd (first.some spelled)
      by (r ∷ left) spelled joined =
          let parts = first.first r left spelled in
          let node : (level, (label, is_name)) ≡ node_of r =
          (let one = parts.0 in let two = parts.1.0 in let three = parts.1.1.0 in cc) in (
            left,
            parts.1.1.1,
            ap (λ l. l ++ map node_of left) pushed
                ∙ append_assoc nodes ((level, (label, is_name)) ∷ []) (map node_of left)
                ∙ ap (λ n. nodes ++ n ∷ map node_of left) node ∙ joined,
          )

  -- where no record is left, all are read
  pub all_read : IsNoRecord rest → AreRead bytes nodes
  all_read none R e = (let before = is R e in by before.0 before.1 before.2)
    where
      by : (left : List Record) → EncodeAll 2 left rest → nodes ++ map node_of left ≡ map node_of R
          → nodes ≡ map node_of R
      by [] spelled joined = sym (append-nil nodes) ∙ joined
      by (r ∷ left) spelled joined = absurd (none r left spelled)

module _ {V : Type 0} (tree bytes : List ℕ) (entries : List (List ℕ × V)) (same : bytes ≡ tree)
    (are : AreTreeBytes IsTextItem 2 tree entries) where
  spelled_same : EncodeAll 2 are.means.records bytes
  spelled_same = subst (λ b. EncodeAll 2 are.means.records b) (sym same) are.means.spelled

  -- what is counted of tree bytes is what the tree of the entries has
  pub tree_counted : (tree_bytes nodes label_bytes depth : ℕ) → tree_bytes ≡ length tree
      → AreMeasured bytes nodes label_bytes depth
      → AreTreeCounts entries tree_bytes nodes label_bytes depth
  tree_counted tree_bytes nodes label_bytes depth size counts =
      let counted = counts are.means.records spelled_same in
      record {
        tree = tree;
        are = are;
        records = are.means.records;
        spelled = are.means.spelled;
        tree_bytes_is = size;
        nodes_is = counted.0;
        label_bytes_is = counted.1.0;
        depth_is = counted.1.1;
      }

  -- what is read of tree bytes are the nodes of the tree of the entries
  pub tree_read : (nodes : List (ℕ × (List ℕ × Bool))) → AreRead bytes nodes → AreNodes entries nodes
  tree_read nodes read = record {
    tree = tree;
    are = are;
    records = are.means.records;
    spelled = are.means.spelled;
    nodes_are = read are.means.records spelled_same;
  }
