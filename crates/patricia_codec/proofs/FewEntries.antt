-- Bytes mean at most one entry for each two of them.
use Rattle.std.proofs.Common.{ℕ, ◌+◌, ◌*◌, ◌≤◌, ◌≡◌, List, [], ◌∷◌, ◌++◌, Option, Some, None}
use Rattle.std.proofs.Common.{length, ap, sym, ◌∙◌, arith, length-append}
use Rattle.std.proofs.lemmas.List.{length-map}
use Rattle.patricia_model.specs.Siblings.{Siblings, end, node, prefixed, own, entries}
use Rattle.patricia_nodes.specs.declared.arena.NodeArena.{NodeArena}
use Rattle.patricia_nodes.specs.Internal.Plans.{entries_of}
use Rattle.patricia_wire.specs.Records.{Record, EncodeAll}
use Rattle.patricia_wire.specs.Writings.{Means}
use Rattle.patricia_wire.specs.Internal.WrittenSiblings.{records_of}
use Rattle.patricia_wire.proofs.CountLemmas.{length-prefixed}
use Rattle.patricia_wire.proofs.SiblingsTrees.{stands_tree}
use Rattle.patricia_codec.proofs.EndLemmas.{IsDone}

-- each record takes two bytes at least
spelled_long : (w : ℕ) (R : List Record) (b : List ℕ) → EncodeAll w R b → 2 * length R ≤ length b
spelled_long w [] b p = omega arith
spelled_long w (r ∷ R) b p =
    let rest = spelled_long w R p.rest p.others in
    let whole = ap length p.joined ∙ length-append p.first p.rest in
    let head = ap length p.spelled.is in
    omega (arith, rest, whole, head)

module _ {V : Type 0} where
  -- a node has at most one value
  own_few : (v : Option V) → length (own v) ≤ 1
  own_few None = omega arith
  own_few (Some x) = omega arith

  -- each entry has its node
  entries_few : (d : ℕ) (siblings : Siblings V) → length (entries siblings) ≤ length (records_of d siblings)
  entries_few d end = omega arith
  entries_few d (node l v c s) = omega (
    arith,
    entries_few (d + 1) c,
    entries_few d s,
    own_few v,
    length-append
        (records_of (d + 1) c) (records_of d s),
    length-append (prefixed l (own v ++ entries c))
        (entries s),
    length-prefixed l (own v ++ entries c),
    length-append (own v) (entries c),
  )

-- there are at most half as many values as bytes
pub few_values : (item : List ℕ → Type 0) {V : Type 0} (w : ℕ) (b : List ℕ) (values : List V)
    (pairs : List (List ℕ × V)) → Means item w b values pairs → 2 * length values ≤ length b
few_values item w b values pairs m =
    let t = stands_tree item m.records _ m.root in
    let count = ap length m.in_place ∙ length-map pairs (λ e. e.1) ∙ sym
    (length-map pairs (λ e. e.0)) ∙ sym (ap length t.keys) ∙ length-map
    (own t.value ++ entries t.siblings) (λ e. e.0) ∙ length-append (own t.value) (entries t.siblings)
    in
    omega (arith, count, own_few t.value, entries_few 1 t.siblings, ap length t.records, spelled_long w m.records b m.spelled)

-- the keys that are not empty are as many as the values, less one where the empty key has a value
pub entry_count : (item : List ℕ → Type 0) {V : Type 0} (w : ℕ) (b : List ℕ) (values : List V)
    (value : Option V) (es : List (List ℕ × V)) → Means item w b values (own value ++ es)
    → length values ≡ length es + length (own value)
entry_count item w b values None es m = ap length m.in_place ∙ length-map es (λ e. e.1) ∙ omega arith
entry_count item w b values (Some v) es m = ap length m.in_place ∙ length-map (own (Some v) ++ es) (λ e. e.1) ∙ omega arith

-- so many keys that are not empty have nodes where all was read
pub nodes_count : (item : List ℕ → Type 0) {V : Type 0} (w : ℕ) (s : NodeArena V) (value : Option V)
    (b : List ℕ) (values : List V) → IsDone item w s value b values
    → length values ≡ length (entries_of s) + length (own value)
nodes_count item w s value b values done = entry_count item w b values value (entries_of s) done.means
