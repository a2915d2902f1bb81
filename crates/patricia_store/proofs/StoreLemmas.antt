-- Heads, bodies and the bytes of labels, as nodes.
use Rattle.std.proofs.Common.{◌≡◌, ◌≢◌, ℕ, zero, suc, ◌+◌, ◌*◌, ◌/◌, ◌%◌, ◌<◌, ◌≤◌, List, [], ◌∷◌, length, get_or}
use Rattle.std.proofs.Common.{Some, slice_get, refl, sym, ap, ◌∙◌, inl, inr, arith}
use Rattle.std.specs.Global.{Vec}
use Rattle.std.specs.Prelude.{vec_len}
use Rattle.std.proofs.lemmas.Bool.{cases_lt}
use Rattle.std.proofs.lemmas.Option.{slice_get_read, slice_get_cases, same_Some}
use Rattle.patricia_store.specs.declared.head.Head.{Head}
use Rattle.patricia_store.specs.declared.body.Body.{Body}
use Rattle.patricia_store.specs.declared.labels.Span.{Span}
use Rattle.patricia_store.specs.Internal.Labels.{label_in, IsSpan}
use Rattle.patricia_store.specs.Internal.Heads.{byte_of, short_len_of, head_of, child_in, sibling_in}
use Rattle.patricia_store.specs.Internal.Bodies.{span_in, value_in}
use Rattle.patricia_store.specs.Internal.Nodes.{Node, Nodes, ReadsNode, IsRun, IsLink}
use Rattle.patricia_store.specs.Internal.Stores.{node_of, nodes_of, IsSound, AreSound}
use Rattle.patricia_store.proofs.HeadLemmas.{word_byte, word_short, word_less, word_not_less}

-- below the length there is an item
pub item_there : {X : Type 0} (xs : List X) (i : ℕ) → i < length xs → (x : X) × (slice_get xs i ≡ Some x)
item_there xs i short =
    elim (slice_get_cases xs i).1 [
      | inl there ↦ (there.0, there.2)
      | inr past ↦ absurd (omega (arith, past.0))
    ]

module _ {V : Type 0} where
  -- there are as many nodes as heads
  pub length-nodes : (hs : List Head) (bs : List (Body V)) (bytes : List ℕ) → length bs ≡ length hs
      → length (nodes_of hs bs bytes) ≡ length hs
  length-nodes [] bs bytes e = refl
  length-nodes (h ∷ hs) [] bytes e = absurd (omega (arith, e))
  length-nodes (h ∷ hs) (b ∷ bs) bytes e = ap suc (length-nodes hs bs bytes (omega (arith, e)))

  -- the node at a number is that of the head and the body there
  pub get-nodes : (hs : List Head) (bs : List (Body V)) (bytes : List ℕ) (i : ℕ) (h : Head) (b : Body V)
      → slice_get hs i ≡ Some h → slice_get bs i ≡ Some b
      → slice_get (nodes_of hs bs bytes) i ≡ Some (node_of h b bytes)
  get-nodes [] bs bytes i h b e f = absurd (cc)
  get-nodes (x ∷ hs) [] bytes i h b e f = absurd (cc)
  get-nodes (x ∷ hs) (y ∷ bs) bytes zero h b e f =
      let one : x ≡ h = cc in
      let two : y ≡ b = cc in
      rw (one, two) refl
  get-nodes (x ∷ hs) (y ∷ bs) bytes (suc i) h b e f = get-nodes hs bs bytes i h b e f

module _ {V : Type 0} (heads : Vec Head) (bodies : Vec (Body V)) (bytes : List ℕ)
    (sound : AreSound heads.items bodies.items bytes) (nodes : List (Node V))
    (view : nodes_of heads.items bodies.items bytes ≡ nodes) where
  -- there are as many nodes as heads
  pub as_many : vec_len heads ≡ length nodes
  as_many = heads.ok.0 ∙ sym (length-nodes heads.items bodies.items bytes sound.long) ∙ ap length view

  -- and as bodies
  pub as_many_bodies : vec_len bodies ≡ length nodes
  as_many_bodies = bodies.ok.0 ∙ sound.long ∙ sym heads.ok.0 ∙ as_many

  -- where there is a head there is a node
  pub nonempty : vec_len heads ≢ 0 → nodes ≢ []
  nonempty some e = some (as_many ∙ ap length e)

  module _ (id : ℕ) (within : id < length nodes) where
    pub in_heads : id < vec_len heads
    in_heads = omega (arith, as_many)

    pub in_bodies : id < vec_len bodies
    in_bodies = omega (arith, as_many_bodies)

    -- a head that is read is there
    pub head_there : (h : Head) → h ≡ get_or heads.items id h → slice_get heads.items id ≡ Some h
    head_there h reads = slice_get_read heads.items (vec_len heads) id h heads.ok.0 in_heads reads

    -- and so is a body
    pub body_there : (b : Body V) → b ≡ get_or bodies.items id b → slice_get bodies.items id ≡ Some b
    body_there b reads = slice_get_read bodies.items (vec_len bodies) id b bodies.ok.0 in_bodies reads

    -- a node that is read is that of its head and its body
    pub node_is : (h : Head) (b : Body V) (n : Node V) → slice_get heads.items id ≡ Some h
        → slice_get bodies.items id ≡ Some b → slice_get nodes id ≡ Some n → n ≡ node_of h b bytes
    node_is h b n e f reads =
        same_Some n (node_of h b bytes)
        (sym reads ∙ ap (λ l. slice_get l id) (sym view) ∙ get-nodes heads.items bodies.items bytes id h b e f)

    module _ (h : Head) (head_is : h ≡ get_or heads.items id h) (n : Node V) (reads : slice_get nodes id ≡ Some n) where
      -- the body of a node whose head is read
      body : (b : Body V) × (slice_get bodies.items id ≡ Some b)
      body = item_there bodies.items id (omega (arith, in_bodies, bodies.ok.0))

      is : n ≡ node_of h body.0 bytes
      is = node_is h body.0 n (head_there h head_is) body.1 reads

      noted : h ≡ head_of (id + 1) n.child n.sibling n.label (span_in body.0).offset
      noted = (sound.sound id h body.0 (head_there h head_is) body.1).head_is
          ∙ ap (λ m. head_of (id + 1) m.child m.sibling m.label (span_in body.0).offset) (sym is)

      -- what the head says is so
      pub reads_child : child_in h ≡ n.child
      reads_child = ap (λ m. m.child) (sym is)

      pub reads_sibling : sibling_in h ≡ n.sibling
      reads_sibling = ap (λ m. m.sibling) (sym is)

      pub reads_byte : h.word / 128 % 256 ≡ byte_of n.label
      reads_byte = ap (λ k. k.word / 128 % 256) noted ∙ word_byte (id + 1) n.child n.sibling n.label

      pub reads_short : h.word % 64 ≡ short_len_of n.label
      reads_short = ap (λ k. k.word % 64) noted ∙ word_short (id + 1) n.child n.sibling n.label

      pub reads_less : (b : ℕ) → b < 256 → h.word < 128 * b
          → (n.sibling ≡ Some (id + 1)) × (byte_of n.label < b)
      reads_less b small less =
          word_less (id + 1) n.child n.sibling n.label b small (omega (arith, less, ap (λ k. k.word) noted))

      pub reads_no_less : (b : ℕ) → 128 * b ≤ h.word → n.sibling ≡ Some (id + 1) → b ≤ byte_of n.label
      reads_no_less b past =
          word_not_less (id + 1) n.child n.sibling n.label b (omega (arith, past, ap (λ k. k.word) noted))

    -- a body that is read has the value of the node
    pub reads_value : (b : Body V) → b ≡ get_or bodies.items id b → (n : Node V)
        → slice_get nodes id ≡ Some n → value_in b ≡ n.value
    reads_value b body_is n reads =
        let h = item_there heads.items id (omega (arith, in_heads, heads.ok.0)) in
        ap (λ m. m.value) (sym (node_is h.0 b n h.1 (body_there b body_is) reads))

    -- the child that a head says is the number of a node that there may be
    pub links_read : (h : Head) → h ≡ get_or heads.items id h → IsLink (child_in h)
    links_read h head_is =
        let b = item_there bodies.items id (omega (arith, in_bodies, bodies.ok.0)) in
        (sound.sound id h b.0 (head_there h head_is) b.1).child_link

    -- a body that is read has a label
    pub body_span : (b : Body V) → b ≡ get_or bodies.items id b → IsSpan bytes (span_in b)
    body_span b body_is =
        let h = item_there heads.items id (omega (arith, in_heads, heads.ok.0)) in
        (sound.sound id h.0 b h.1 (body_there b body_is)).span

    -- where the label is of a node whose head and body are read
    module _ (h : Head) (head_is : h ≡ get_or heads.items id h) (b : Body V) (body_is : b ≡ get_or bodies.items id b)
        (span : Span) (says : (next : ℕ) (l : List ℕ) → IsSound next h b l → span ≡ span_in b) where
      is_sound : IsSound (id + 1) h b bytes
      is_sound = sound.sound id h b (head_there h head_is) (body_there b body_is)

      pub span_read : IsSpan bytes span
      span_read = rw (says (id + 1) bytes is_sound) is_sound.span

      pub label_read : (n : Node V) → slice_get nodes id ≡ Some n → label_in bytes span ≡ n.label
      label_read n reads =
          ap (label_in bytes) (says (id + 1) bytes is_sound)
          ∙ ap (λ m. m.label) (sym (node_is h b n (head_there h head_is) (body_there b body_is) reads))

-- a run goes on where the next node is the sibling and the first byte is less
pub run_more : {V : Type 0} (nodes : Nodes V) (b from at : ℕ) → IsRun nodes b from at
    → ReadsNode nodes at (λ n. (n.sibling ≡ Some (at + 1)) × (byte_of n.label < b))
    → IsRun nodes b from (at + 1)
run_more nodes b from at run more = record {
  forward = omega (arith, run.forward);
  passes = λ i behind before. elim (cases_lt i at) [
    | inl early ↦ run.passes i behind early
    | inr late ↦
        let same : at ≡ i = omega (arith, late, before) in
        rw same at more
  ];
}
