-- A vector in which a node is read, written or lent.
use Rattle.std.proofs.Common.{◌≡◌, ℕ, ◌+◌, ◌<◌, List, length, set, Some, get_or, slice_get}
use Rattle.std.proofs.Common.{refl, sym, ap, subst, inl, inr, arith, zero, suc, ◌-◌}
use Rattle.std.specs.Prelude.{Option, None, is_some}
use Rattle.std.specs.Borrow.{Bor}
use Rattle.std.specs.Option.{option_copied}
use Rattle.std.proofs.lemmas.Bool.{cases_lt}
use Rattle.std.proofs.lemmas.Option.{slice_get_read, slice_get_cases}
use Rattle.std.proofs.lemmas.Option.{get_or_from_slice_get}
use Rattle.patricia_store.specs.Internal.Heads.{byte_of}
use Rattle.patricia_store.specs.Internal.Nodes.{Node, Nodes}
use Rattle.patricia_store.specs.Internal.Nodes.{IsRun as IsStoredRun}
use Rattle.patricia_nodes.specs.Internal.NodeVecs.{ReadsNode, IsRun, value_in, with_valued}

module _ {V : Type 0} where
  -- below the length there is a node
  pub node_there : (nodes : List (Node V)) (id : ℕ) → id < length nodes
      → (n : Node V) × (n ≡ get_or nodes id n)
  node_there nodes id within =
      elim (slice_get_cases nodes id).1 [
        | inl there ↦ (there.0, sym there.3)
        | inr past ↦ absurd (omega (arith, past.0))
      ]

  -- what is read below the length is there
  pub there : (nodes : List (Node V)) (id : ℕ) (n : Node V) → id < length nodes
      → n ≡ get_or nodes id n → slice_get nodes id ≡ Some n
  there nodes id n within reads = slice_get_read nodes (length nodes) id n refl within reads

  -- what is there is read
  pub reads_there : (nodes : List (Node V)) (id : ℕ) (n : Node V) → slice_get nodes id ≡ Some n
      → n ≡ get_or nodes id n
  reads_there nodes id n is = sym (get_or_from_slice_get nodes id n n is)

  -- a run goes on where the next node is the sibling and the first byte is less
  pub run_more : (nodes : Nodes V) (b from at : ℕ) → IsRun nodes b from at
      → ReadsNode nodes at (λ n. (n.sibling ≡ Some (at + 1)) × (byte_of n.label < b))
      → IsRun nodes b from (at + 1)
  run_more nodes b from at run more = record {
    forward = omega (arith, run.forward);
    passes = λ i behind before. elim (cases_lt i at) [
      | inl early ↦ run.passes i behind early
      | inr late ↦
          let same : at ≡ i = omega (arith, late, before) in
          rw same at more
    ];
  }

  -- whether a value is lent says whether the node has one
  pub lent_some : (lent : Option (Bor V)) (value : Option V) → option_copied lent ≡ value
      → is_some lent ≡ is_some value
  lent_some None value is = ap is_some is
  lent_some (Some b) value is = ap is_some is

  -- a run of nodes that are there is one of nodes that are read
  pub run_read : (nodes : Nodes V) (b from to : ℕ) → to < length nodes.items
      → IsStoredRun nodes b from to → IsRun nodes b from to
  run_read nodes b from to within run = record {
    forward = run.forward;
    passes = λ i behind before n reads.
        run.passes i behind before n (there nodes.items i n (omega (arith, before, within)) reads);
  }

  module _ (nodes : Nodes V) (b from : ℕ)
      (within : (to : ℕ) → IsRun nodes b from to → to < length nodes.items) where
    -- where each run of nodes that are read ends at a node, so does each of nodes that are there
    ends_within : (n : ℕ) → IsStoredRun nodes b from (n + from) → n + from < length nodes.items
    ends_within zero run = omega (arith, within from (record { forward = omega arith; passes = λ i behind before. absurd (omega (arith, behind, before)) }))
    ends_within (suc n) run =
        let shorter : n + from < length nodes.items = ends_within n (record { forward = omega arith; passes = λ i behind before. run.passes i behind (omega (arith, before)) }) in
        let passed : IsRun nodes b from (n + from) = run_read nodes b from (n + from) shorter (record { forward = omega arith; passes = λ i behind before. run.passes i behind (omega (arith, before)) }) in
        let last : ReadsNode nodes (n + from) (λ m. (m.sibling ≡ Some (n + from + 1)) × (byte_of m.label < b)) = λ m reads. run.passes (n + from) (omega arith) (omega arith) m (there nodes.items (n + from) m shorter reads) in
        omega (arith, within (n + from + 1) (run_more nodes b from (n + from) passed last))

    stored_within : (to : ℕ) → IsStoredRun nodes b from to → to < length nodes.items
    stored_within to run =
        let far : (to - from) + from ≡ to = omega (arith, run.forward) in
        subst (λ k. k < length nodes.items) far (ends_within (to - from) (subst (IsStoredRun nodes b from) (sym far) run))

  module _ (inside nodes : Nodes V) (is : inside ≡ nodes) (b at id : ℕ) (same : at ≡ id)
      (within : (to : ℕ) → IsRun nodes b id to → to < length nodes.items) where
    -- what a run of the nodes inside asks for
    pub run_asked : (to : ℕ) → IsStoredRun inside b at to → to < length inside.items
    run_asked to run = rw is (stored_within nodes b id within to (rw (is, same) at run))

    -- and the run that it gives
    pub run_given : (to : ℕ) → IsStoredRun inside b at to → IsRun nodes b id to
    run_given to run =
        let stored = rw (is, same) at run in
        run_read nodes b id to (stored_within nodes b id within to stored) stored

  module _ (nodes : Nodes V) (id : ℕ) (within : id < length nodes.items)
      (n : Node V) (reads : n ≡ get_or nodes.items id n) where
    -- the value that is lent is that of the node with the number
    pub lent_value : n.value ≡ value_in (slice_get nodes.items id)
    lent_value = ap value_in (sym (there nodes.items id n within reads))

    -- what is left behind the loan is the node's value
    pub lent_write : (w : V)
        → record nodes { items = set nodes.items id (record n { value = Some w }) }
        ≡ with_valued nodes id w (slice_get nodes.items id)
    lent_write w = rw (there nodes.items id n within reads) refl
