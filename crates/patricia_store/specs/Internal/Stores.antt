-- Heads, bodies and the bytes of labels, as nodes.
use Rattle.std.specs.Prelude.{◌≡◌, ℕ, ◌+◌, ◌<◌, List, [], ◌∷◌, length, Some, slice_get}
use Rattle.patricia_store.specs.Internal.Packing.{most}
use Rattle.patricia_store.specs.declared.head.Head.{Head}
use Rattle.patricia_store.specs.declared.body.Body.{Body}
use Rattle.patricia_store.specs.Internal.Labels.{label_in, label_room, IsSpan}
use Rattle.patricia_store.specs.Internal.Heads.{head_of, child_in, sibling_in}
use Rattle.patricia_store.specs.Internal.Bodies.{span_in, value_in}
use Rattle.patricia_store.specs.Internal.Nodes.{Node, IsLink}

module _ {V : Type 0} where
  -- the node of a head and a body
  abbrev pub node_of : Head → Body V → List ℕ → Node V
  node_of head body bytes = record {
    label = label_in bytes (span_in body);
    value = value_in body;
    child = child_in head;
    sibling = sibling_in head;
  }

  -- the nodes of heads and bodies
  abbrev pub nodes_of : List Head → List (Body V) → List ℕ → List (Node V)
  nodes_of [] bodies bytes = []
  nodes_of (head ∷ heads) [] bytes = []
  nodes_of (head ∷ heads) (body ∷ bodies) bytes =
      node_of head body bytes ∷ nodes_of heads bodies bytes

  -- the label of a node before this number is among the bytes, and its head says what it has
  pub record IsSound (next : ℕ) (head : Head) (body : Body V) (bytes : List ℕ) : Type 0 where
    pub span : IsSpan bytes (span_in body)
    pub head_is : head ≡ head_of next (child_in head) (sibling_in head)
        (label_in bytes (span_in body)) (span_in body).offset
    pub link : IsLink (sibling_in head)
    pub child_link : IsLink (child_in head)

  -- the labels of bodies are among the bytes
  abbrev pub AreSpans : List ℕ → List (Body V) → Type 0
  AreSpans bytes bodies =
      (i : ℕ) (body : Body V) → slice_get bodies i ≡ Some body → IsSpan bytes (span_in body)

  -- how many bytes they take
  abbrev pub spans_room : List ℕ → List (Body V) → ℕ
  spans_room bytes [] = 0
  spans_room bytes (body ∷ bodies) =
      label_room (length (label_in bytes (span_in body))) + spans_room bytes bodies

  -- there is a head for each body, and each node is sound
  pub record AreSound (heads : List Head) (bodies : List (Body V)) (bytes : List ℕ) : Type 0 where
    pub long : length bodies ≡ length heads
    pub few : length heads < most
    pub sound : (i : ℕ) (head : Head) (body : Body V) → slice_get heads i ≡ Some head
        → slice_get bodies i ≡ Some body → IsSound (i + 1) head body bytes
