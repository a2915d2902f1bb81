-- A tree is the records of one list of writable siblings.
use Rattle.std.proofs.Common.{◌≡◌, ℕ, ◌+◌, inl, inr, Bool, true, false, List, [], ◌∷◌, ◌++◌, Option}
use Rattle.std.proofs.Common.{Some, None, refl, sym, ap, subst, ◌∙◌}
use Rattle.std.specs.Prelude.{is_some}
use Rattle.patricia_model.specs.Siblings.{Siblings, end, node, prefixed, own, entries}
use Rattle.patricia_model.specs.Siblings.{IsBeforeSiblings, keys_of}
use Rattle.patricia_wire.specs.Records.{Record}
use Rattle.patricia_wire.specs.Forests.{behind, own_key, IsBeforeFirst, IsInner, Forest, ForestIf}
use Rattle.patricia_wire.specs.Forests.{forest, absent, present, Root}
use Rattle.patricia_wire.specs.Internal.WrittenSiblings.{has_node, record_of, records_of}
use Rattle.patricia_wire.specs.Internal.WrittenSiblings.{tree_records}
use Rattle.patricia_wire.specs.Internal.WrittenSiblings.{IsWritable}

-- a key set has no values
abbrev pub Nothing : Type 0
Nothing = Unit {0}

abbrev mark_value : Bool → Option Nothing
mark_value false = None
mark_value true = Some tt

-- a value is there exactly where the mark is set
is_some-mark : (m : Bool) → is_some (mark_value m) ≡ m
is_some-mark false = refl
is_some-mark true = refl

module _ {V : Type 0} where
  -- the keys of two lists of entries are those of the first, then those of the second
  keys_of-append : (xs ys : List (List ℕ × V)) → keys_of (xs ++ ys) ≡ keys_of xs ++ keys_of ys
  keys_of-append [] ys = refl
  keys_of-append (x ∷ xs) ys = ap (λ r. x.0 ∷ r) (keys_of-append xs ys)

  -- the keys of entries behind a label are theirs, each with the label before it
  keys_of-prefixed : (p : List ℕ) (xs : List (List ℕ × V))
      → keys_of (prefixed p xs) ≡ behind p (keys_of xs)
  keys_of-prefixed p [] = refl
  keys_of-prefixed p (x ∷ xs) = ap (λ r. (p ++ x.0) ∷ r) (keys_of-prefixed p xs)

  -- the own entry of a node, where it has a value, is at the empty key
  keys_of-own : (v : Option V) → keys_of (own v) ≡ own_key (is_some v)
  keys_of-own None = refl
  keys_of-own (Some x) = refl

  -- the keys of a node are the empty one, where it has a value, and those below it
  keys_inside : (v : Option V) (c : Siblings V)
      → keys_of (own v ++ entries c) ≡ own_key (is_some v) ++ keys_of (entries c)
  keys_inside v c = keys_of-append (own v) (entries c) ∙ ap (λ k. k ++ keys_of (entries c)) (keys_of-own v)

  -- the keys of a node and of what lies beside it
  keys_of-node : (l : List ℕ) (v : Option V) (c s : Siblings V)
      → keys_of (entries (node l v c s)) ≡ behind l (own_key (is_some v) ++ keys_of (entries c)) ++ keys_of (entries s)
  keys_of-node l v c s =
      keys_of-append (prefixed l (own v ++ entries c)) (entries s)
      ∙ ap (λ k. k ++ keys_of (entries s)) (keys_of-prefixed l (own v ++ entries c) ∙ ap (behind l) (keys_inside v c))

module _ (item : List ℕ → Type 0) {V : Type 0} where
  -- a label that comes before siblings comes before the label of their first record
  before_first : (d : ℕ) (l : List ℕ) (s : Siblings V) → IsBeforeSiblings item l s
      → IsBeforeFirst item l (records_of d s)
  before_first d l end before = tt
  before_first d l (node m v c s) before = before

  -- the records of writable siblings are a forest, or none
  forest_of : (d : ℕ) (r : Siblings V) → IsWritable item r
      → ForestIf item (has_node r) d (records_of d r) (keys_of (entries r))
  forest_of d end ok = absent refl refl refl
  forest_of d (node l v c s) ok =
      present refl (forest (record_of d l v c s) (records_of (d + 1) c) (records_of d s) (keys_of (entries c)) (keys_of (entries s))
      (record { level = refl; fits = ok.fits; nonempty = ok.nonempty; valid = ok.valid; marked = ok.marked })
      (forest_of (d + 1) c ok.child) (forest_of d s ok.sibling) (before_first d l s ok.rises) refl (keys_of-node l v c s))

  -- the records of writable siblings are a tree
  pub tree_of : (v : Option V) (r : Siblings V) → IsWritable item r
      → Root item (tree_records v r) (keys_of (own v ++ entries r))
  tree_of v r ok = record {
    root = record_of 0 [] v r end;
    children = records_of 1 r;
    keys = keys_of (entries r);
    level = refl;
    label = refl;
    sibling = refl;
    child = forest_of 1 r ok;
    records = refl;
    all_keys = keys_inside v r;
  }

module _ (item : List ℕ → Type 0) where
  -- siblings whose records and keys are these
  record Stands (mark : Bool) (d : ℕ) (R : List Record) (E : List (List ℕ)) : Type 0 where
    siblings : Siblings Nothing
    there : has_node siblings ≡ mark
    records : records_of d siblings ≡ R
    keys : keys_of (entries siblings) ≡ E
    ok : IsWritable item siblings

  -- a label that comes before the first record of siblings comes before the siblings
  rises_of : (d : ℕ) (l : List ℕ) (s : Siblings Nothing) → IsBeforeFirst item l (records_of d s)
      → IsBeforeSiblings item l s
  rises_of d l end before = tt
  rises_of d l (node m v c s) before = before

  -- a record with what stands below it and beside it stands for a node
  stands_node : (d : ℕ) (R : List Record) (E : List (List ℕ)) (r : Record) (C X : List Record)
      (Ec Ex : List (List ℕ)) → IsInner item d r → Stands r.child (d + 1) C Ec
      → Stands r.sibling d X Ex → IsBeforeFirst item r.label X → R ≡ r ∷ (C ++ X)
      → E ≡ behind r.label (own_key r.value ++ Ec) ++ Ex → Stands true d R E
  stands_node d R E r C X Ec Ex inner child sibling before eR eE = record {
    siblings = node r.label (mark_value r.value) child.siblings sibling.siblings;
    there = refl;
    records =
        (λ i. record {
          level = sym inner.level i;
          label = r.label;
          value = is_some-mark r.value i;
          child = child.there i;
          sibling = sibling.there i;
        } ∷ (child.records i ++ sibling.records i)) ∙ sym eR;
    keys = keys_of-node r.label (mark_value r.value) child.siblings sibling.siblings ∙
        (λ i. behind r.label (own_key (is_some-mark r.value i) ++ child.keys i) ++ sibling.keys i)
        ∙ sym eE;
    ok = record {
      valid = inner.valid;
      nonempty = inner.nonempty;
      fits = inner.fits;
      marked = elim inner.marked [
        | inl e ↦ inl (is_some-mark r.value ∙ e)
        | inr e ↦ inr (child.there ∙ e)
      ];
      rises = rises_of d r.label sibling.siblings (subst (IsBeforeFirst item r.label) (sym sibling.records) before);
      child = child.ok;
      sibling = sibling.ok;
    };
  }

  mutual
    -- the records of a forest are those of writable siblings
    stands : (d : ℕ) (R : List Record) (E : List (List ℕ)) → Forest item d R E → Stands true d R E
    stands d R E (forest r C X Ec Ex inner child sibling before eR eE) =
        stands_node d R E r C X Ec Ex inner (stands_if r.child (d + 1) C Ec child) (stands_if r.sibling d X Ex sibling) before eR eE

    -- and so are those of a forest that is there only where a mark is set
    stands_if : (mark : Bool) (d : ℕ) (R : List Record) (E : List (List ℕ))
        → ForestIf item mark d R E → Stands mark d R E
    stands_if mark d R E (absent unset eR eE) = record { siblings = end; there = sym unset; records = sym eR; keys = sym eE; ok = tt }
    stands_if mark d R E (present is_set f) = subst (λ m. Stands m d R E) (sym is_set) (stands d R E f)

  -- a tree is the records of one list of siblings below a root
  pub record StandsTree (R : List Record) (E : List (List ℕ)) : Type 0 where
    pub value : Option Nothing
    pub siblings : Siblings Nothing
    pub ok : IsWritable item siblings
    pub records : tree_records value siblings ≡ R
    pub keys : keys_of (own value ++ entries siblings) ≡ E

  -- and each tree is the records of some siblings
  pub stands_tree : (R : List Record) (E : List (List ℕ)) → Root item R E → StandsTree R E
  stands_tree R E tree =
      let v = tree.root.value in
      let below = stands_if tree.root.child 1 tree.children tree.keys tree.child in
      record {
        value = mark_value v;
        siblings = below.siblings;
        ok = below.ok;
        records = same below.siblings below.there below.records;
        keys = keys_inside (mark_value v) below.siblings ∙ (let keys = below.keys in λ i. own_key (is_some-mark v i) ++ keys i) ∙ sym tree.all_keys;
      }
    where
      same : (siblings : Siblings Nothing) → has_node siblings ≡ tree.root.child
          → records_of 1 siblings ≡ tree.children → tree_records (mark_value tree.root.value) siblings ≡ R
      same siblings there records =
          (λ i. record {
            level = sym tree.level i;
            label = sym tree.label i;
            value = is_some-mark
                tree.root.value i;
            child = there i;
            sibling = sym tree.sibling i;
          } ∷ records i) ∙ sym tree.records
