-- What is written, and what is left, make the encoding.
use Rattle.std.proofs.Common.{◌≡◌, ℕ, ◌<◌, ◌≤◌, inl, inr, false, List, [], ◌∷◌, ◌++◌, Option, Some}
use Rattle.std.proofs.Common.{None, refl, sym, ap, subst, ◌∙◌, arith, append_assoc, append-nil}
use Rattle.std.specs.Prelude.{◌^◌, All, is_some}
use Rattle.std.proofs.lemmas.List.Elements.{All-nil, All-cons, All-append}
use Rattle.patricia_keys.specs.Keys.{IsKeyKind}
use Rattle.patricia_model.specs.Siblings.{Siblings, end, node, own, prefixed, entries, keys_of}
use Rattle.patricia_model.specs.Siblings.{IsCanonical, IsCanonicalWithin}
use Rattle.patricia_model.proofs.UniqueLemmas.{has_entry}
use Rattle.patricia_nodes.specs.declared.arena.NodeArena.{NodeArena}
use Rattle.patricia_nodes.specs.Internal.Plans.{siblings_of, IsWellFormed}
use Rattle.patricia_nodes.proofs.SeekLemmas.{whole_plan}
use Rattle.patricia_wire.specs.Records.{Record, canonical_bytes, canonical_bytes_of}
use Rattle.patricia_wire.specs.Forests.{Root}
use Rattle.patricia_wire.specs.Internal.WrittenSiblings.{has_node, tree_records}
use Rattle.patricia_wire.specs.TreeBytes.{AreTreeBytes}
use Rattle.patricia_wire.specs.Writings.{TooDeep}
use Rattle.patricia_wire.proofs.BytesOfTrees.{tree_bytes}
use Rattle.patricia_wire.proofs.SiblingsTrees.{tree_of}
use Rattle.patricia_wire.proofs.Spellings.{positive}
use Rattle.patricia_wire.proofs.TightSiblings.{within_writable, within_apart}
use Rattle.patricia_wire.proofs.WrittenOrDeep.{any_there, any_right, tree_room_or_deep}
use Rattle.patricia_codec.specs.declared.records.Records.{Records}
use Rattle.patricia_codec.specs.Internal.Pieces.{AreRecords}
use Rattle.patricia_codec.specs.Internal.Lefts.{nodes_of, IsEncoderStart, SomeLeft, HasDeep, IsDeep}
use Rattle.patricia_codec.specs.Internal.Lefts.{AreDeep, IsOver, IsAt, AllWait, TakesRecord}
use Rattle.patricia_codec.proofs.LeftLemmas.{has_link}
use Rattle.patricia_codec.proofs.PieceLemmas.{some_records}

-- the spelling of one more record follows those of the others
pub spellings-snoc : (w : ℕ) (A : List Record) (r : Record)
    → canonical_bytes_of w (A ++ r ∷ []) ≡ canonical_bytes_of w A ++ canonical_bytes w r
spellings-snoc w [] r = append-nil (canonical_bytes w r)
spellings-snoc w (x ∷ A) r = ap (λ b. canonical_bytes w x ++ b) (spellings-snoc w A r) ∙ sym
    (append_assoc (canonical_bytes w x) (canonical_bytes_of w A) (canonical_bytes w r))

-- no record is deeper than w bytes can tell
abbrev pub AreShallow : ℕ → List Record → Type 0
AreShallow w A = All (λ r. r.level < 256 ^ w) A

-- one more record that is not too deep leaves none too deep
pub shallow-snoc : (w : ℕ) (A : List Record) (r : Record) → AreShallow w A → r.level < 256 ^ w
    → AreShallow w (A ++ r ∷ [])
shallow-snoc w A r all one = All-append (λ r. r.level < 256 ^ w) A (r ∷ []) all (All-cons (λ r. r.level < 256 ^ w) r [] one (All-nil (λ r. r.level < 256 ^ w)))

module _ (item : List ℕ → Type 0) (kind : IsKeyKind item) {V : Type 0} (arena : NodeArena V) where
  -- at the start all records are left
  pub at_start : (p : Records V) → IsWellFormed arena → IsEncoderStart p → p.arena.now ≡ arena
      → IsAt item arena p []
  at_start p whole start same R a = (
    R,
    refl,
    record {
      plan = rw (start.next, same) (whole_plan arena whole);
      here = R;
      waiting = [];
      are_here = rw (start.level, start.skipped, start.next, same) a;
      are_waiting = subst (λ l. AllWait item (nodes_of p) l []) (sym start.stack) refl;
      is = sym (append-nil R);
    },
  )

  -- and there are some
  pub some_left : (p : Records V) (A : List Record) → IsCanonical item (siblings_of arena)
      → IsAt item arena p A → SomeLeft item p
  some_left p A ok at = (let some = some_records item kind 1 (siblings_of arena) ok in let left = at some.0 some.1 in (left.0, left.2))

  -- a record that is taken is written behind those that are written
  pub at_next : (w : ℕ) (p q : Records V) (A : List Record) (r : Record) → IsAt item arena p A
      → TakesRecord item w p r q → IsAt item arena q (A ++ r ∷ [])
  at_next w p q A r at taken R a =
      let left = at R a in
      let rest = taken.left left.0 left.2 in
      (rest.0, left.1 ∙ ap (λ l. A ++ l) rest.1 ∙ sym (append_assoc A (r ∷ []) rest.0), rest.2)

  -- what is too deep among those that are left is too deep
  pub deep_left : (w : ℕ) (p : Records V) (A : List Record) → IsAt item arena p A → IsDeep item w p
      → AreDeep item w arena
  deep_left w p A at deep R a =
      let left = at R a in
      rw left.1 (any_right (λ r. 256 ^ w ≤ r.level) A left.0 (deep left.0 left.2))

  -- where nothing is left, all is written
  pub at_end : (p : Records V) (A : List Record) → IsAt item arena p A → IsOver item p
      → (R : List Record) → AreRecords item 1 (siblings_of arena) R → R ≡ A
  at_end p A at over R a = (let left = at R a in left.1 ∙ ap (λ l. A ++ l) (over left.0 left.2) ∙ append-nil A)

module _ (item : List ℕ → Type 0) (kind : IsKeyKind item) {V : Type 0} (value : Option V)
    (siblings : Siblings V) (R : List Record) (a : AreRecords item 1 siblings R) where
  -- with their labels cut the siblings have the same entries, and the empty key its value
  same_entries : own value ++ entries a.cut ≡ own value ++ entries siblings
  same_entries = ap (λ es. own value ++ es) a.same

  -- siblings whose labels are cut have a node where the siblings have one
  cut_node : has_node a.cut ≡ has_node siblings
  cut_node = by a.cut siblings a.cut_ok a.canonical a.same
    where
      by : (r s : Siblings V) → IsCanonicalWithin item (Some 255) r → IsCanonical item s
          → entries r ≡ entries s → has_node r ≡ has_node s
      by end end ok ok' e = refl
      by (node l v c s) (node l' v' c' s') ok ok' e = refl
      by end (node l v c s) ok ok' e =
          let some = has_entry item kind None l v c s ok' in
          let none : [] ≡ prefixed l (some.0 ∷ some.1) ++ entries s = e ∙ ap (λ es. prefixed l es ++ entries s) some.2 in
          absurd (cc)
      by (node l v c s) end ok ok' e =
          let some = has_entry item kind (Some 255) l v c s ok in
          let none : prefixed l (some.0 ∷ some.1) ++ entries s ≡ [] = sym (ap (λ es. prefixed l es ++ entries s) some.2) ∙ e in
          absurd (cc)

  -- the root's record before those of the siblings is a tree
  abbrev pub root_record : Record
  root_record = record { level = 0; label = []; value = is_some value; child = has_node siblings; sibling = false }

  -- the records of the tree are the root's and then those of the siblings
  tree_is : tree_records value a.cut ≡ root_record ∷ R
  tree_is = λ i. record { level = 0; label = []; value = is_some value; child = cut_node i; sibling = false } ∷ sym a.is i

  -- where w bytes have room for each level, no record lies too deep
  none_deep : (w : ℕ) (X : List Record) → AreShallow w X → HasDeep w X → ⊥
  none_deep w X all (k, r, h, e, deep) = (let one = subst (λ r. r.level < 256 ^ w) e (all k r h) in omega arith)

  -- they are a tree with the keys of the siblings, and with the empty key where it has a value
  is_tree : Root item (tree_records value a.cut) (keys_of (own value ++ entries siblings))
  is_tree = subst (λ es. Root item (tree_records value a.cut) (keys_of es)) same_entries (tree_of item value a.cut (within_writable item a.cut a.cut_ok))

  -- its clean spelling is the tree bytes where no record lies too deep
  pub written : (w : ℕ) → AreShallow w R
      → AreTreeBytes item w (canonical_bytes w root_record ++ canonical_bytes_of w R)
      (own value ++ entries siblings)
  written w shallow = elim (tree_room_or_deep item kind w value a.cut (within_writable item a.cut a.cut_ok)) [
    | inl room ↦ tree_bytes item kind w _ _
        (record {
          records = tree_records value a.cut;
          root = is_tree;
          tight = within_apart item 1
              a.cut a.cut_ok;
          room = room;
          is = ap (canonical_bytes_of w) (sym tree_is);
        })
    | inr deep ↦ absurd
        (none_deep w (root_record ∷ R)
        (All-cons (λ r. r.level < 256 ^ w) root_record R (positive w) shallow)
        (subst (HasDeep w) tree_is deep))
  ]

  -- and it is too deep where one does
  pub deep : (w : ℕ) → HasDeep w R → TooDeep item w (keys_of (own value ++ entries siblings))
  deep w some = record {
    records = tree_records value a.cut;
    root = is_tree;
    tight = within_apart item 1 a.cut a.cut_ok;
    deep = subst (HasDeep w) (sym tree_is) (any_there (λ r. 256 ^ w ≤ r.level) root_record R some);
  }

module _ (item : List ℕ → Type 0) (kind : IsKeyKind item) {V : Type 0} (arena : NodeArena V)
    (value : Option V) (w : ℕ) (ok : IsCanonical item (siblings_of arena)) where
  -- so the nodes lie too deep where one of their records does
  pub too_deep : AreDeep item w arena
      → TooDeep item w (keys_of (own value ++ entries (siblings_of arena)))
  too_deep all = (let some = some_records item kind 1 (siblings_of arena) ok in deep item kind value (siblings_of arena) some.0 some.1 w (all some.0 some.1))

  -- and where no record is left, what is written is the tree bytes
  pub all_written : (p : Records V) (A : List Record) (b : List ℕ) (root : Record)
      → IsWellFormed arena → IsAt item arena p A → IsOver item p → AreShallow w A
      → root ≡ record { level = 0; label = []; value = is_some value; child = is_some arena.root; sibling = false }
      → b ≡ canonical_bytes w root ++ canonical_bytes_of w A
      → AreTreeBytes item w b (own value ++ entries (siblings_of arena))
  all_written p A b root whole at over shallow root_is is =
      let some = some_records item kind 1 (siblings_of arena) ok in
      let R = some.0 in
      let all = at_end item kind arena p A at over R some.1 in
      let child = has_link arena.nodes.items arena.root (whole_plan arena whole) in
      let same_root : root_record item kind value (siblings_of arena) R some.1 ≡ root =
      (λ i. record {
        level = 0;
        label = [];
        value = is_some value;
        child = sym child i;
        sibling = false;
      }) ∙ sym root_is in
      subst (λ c. AreTreeBytes item w c (own value ++ entries (siblings_of arena)))
      ((λ i. canonical_bytes w (same_root i) ++ canonical_bytes_of w (all i)) ∙ sym is)
      (written item kind value (siblings_of arena) R some.1 w (subst (AreShallow w) (sym all) shallow))
