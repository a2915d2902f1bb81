-- Nodes with who holds each value in place of the values.
use Rattle.std.proofs.Common.{◌≡◌, ◌↔◌, ℕ, zero, suc, ◌+◌, ◌<◌, ◌≤◌, List, [], ◌∷◌, ◌++◌, length}
use Rattle.std.proofs.Common.{map, get_or, Option, Some, None, slice_get, refl, sym, ap, ◌∙◌, arith}
use Rattle.std.specs.Option.{option_map}
use Rattle.std.proofs.lemmas.List.{map-append, length-map}
use Rattle.std.proofs.lemmas.Option.{slice_get-get_or, get_or_from_slice_get}
use Rattle.patricia_model.specs.Siblings.{own, prefixed, entries, keys_of, EarnsWithin}
use Rattle.patricia_model.specs.Siblings.{IsBeforeSiblings, IsCanonical}
use Rattle.patricia_store.specs.Internal.Nodes.{Node}
use Rattle.patricia_nodes.specs.Internal.Plans.{Plan, Nil, Cell, linked, head, siblings_in, size}
use Rattle.patricia_nodes.specs.Internal.Plans.{count}
use Rattle.patricia_nodes.specs.Internal.Plans.{LaidOut, IsChain, IsPlan, IsSound, plan_at}
use Rattle.patricia_nodes.proofs.PlanLemmas.{plan_is}
use Rattle.patricia_walks.specs.declared.held_tree.ValueSlot.{ValueSlot}
use Rattle.patricia_walks.specs.declared.held_tree.ValueSlot.TheVariants.{OfEmptyKey, OfNode}
use Rattle.patricia_nodes.specs.Internal.NodeVecs.{value_in}
use Rattle.patricia_walks.specs.Internal.Holders.{numbered_slots, held, uses, ReadsHeld}

module _ {W : Type 0} where
  -- entries behind a label have the label before each of their keys
  keys-prefixed : (l : List ℕ) (es : List (List ℕ × W))
      → keys_of (prefixed l es) ≡ map (λ k. l ++ k) (keys_of es)
  keys-prefixed l [] = refl
  keys-prefixed l (e ∷ es) = ap (λ ks. (l ++ e.0) ∷ ks) (keys-prefixed l es)

-- the uses in two lists add up
pub uses-append : (es fs : List (List ℕ × ValueSlot)) (h : ValueSlot)
    → uses (es ++ fs) h ≡ uses es h + uses fs h
uses-append [] fs h = omega arith
uses-append (e ∷ es) fs h = omega (arith, uses-append es fs h)

-- a label before the keys changes nothing about who stands in a list
uses-prefixed : (l : List ℕ) (es : List (List ℕ × ValueSlot)) (h : ValueSlot)
    → uses (prefixed l es) h ≡ uses es h
uses-prefixed l [] h = refl
uses-prefixed l (e ∷ es) h = omega (arith, uses-prefixed l es h)

module _ {V : Type 0} where
  -- who holds a value of the node of this number
  abbrev pub mark : ℕ → Option V → Option ValueSlot
  mark id value = option_map (λ _. OfNode id) value

  -- the node with who holds its value
  abbrev pub marked_node : ℕ → Node V → Node ValueSlot
  marked_node id n = linked n.label (mark id n.value) n.child n.sibling

  -- there are as many numbered nodes as nodes
  pub numbered_slots-length : (i : ℕ) (nodes : List (Node V))
      → length (numbered_slots i nodes) ≡ length nodes
  numbered_slots-length i [] = refl
  numbered_slots-length i (n ∷ ns) = ap suc (numbered_slots-length (suc i) ns)

  -- a numbered node is the node at its place, with its number behind i others
  numbered_slots-get_from : (i : ℕ) (nodes : List (Node V)) (id : ℕ)
      → slice_get (numbered_slots i nodes) id ≡ option_map (marked_node (i + id))
      (slice_get nodes id)
  numbered_slots-get_from i [] id = refl
  numbered_slots-get_from i (n ∷ ns) zero = let same : i ≡ i + 0 = omega arith in ap (λ k. Some (marked_node k n)) same
  numbered_slots-get_from i (n ∷ ns) (suc id) =
      let same : suc i + id ≡ i + suc id = omega arith in
      numbered_slots-get_from (suc i) ns id ∙ ap (λ k. option_map (marked_node k) (slice_get ns id)) same

  -- and with its own number, where none is before
  pub numbered_slots-get : (nodes : List (Node V)) (id : ℕ)
      → slice_get (numbered_slots 0 nodes) id ≡ option_map (marked_node id) (slice_get nodes id)
  numbered_slots-get nodes id =
      let same : 0 + id ≡ id = omega arith in
      numbered_slots-get_from 0 nodes id ∙ ap (λ k. option_map (marked_node k) (slice_get nodes id)) same

  -- so it is there where the node is
  pub numbered_slots-some : (nodes : List (Node V)) (id : ℕ) (n : Node V)
      → slice_get nodes id ≡ Some n
      → slice_get (numbered_slots 0 nodes) id ≡ Some (marked_node id n)
  numbered_slots-some nodes id n there = numbered_slots-get nodes id ∙ ap (option_map (marked_node id)) there

  -- and is read where the node is
  pub numbered_slots-read : (nodes : List (Node V)) (id : ℕ) (n : Node V) → id < length nodes
      → n ≡ get_or nodes id n
      → marked_node id n ≡ get_or (numbered_slots 0 nodes) id (marked_node id n)
  numbered_slots-read nodes id n within reads =
      sym (get_or_from_slice_get (numbered_slots 0 nodes) id _ _ (numbered_slots-some nodes id n (slice_get-get_or nodes id n within ∙ ap Some (sym reads))))

  -- the plan with who holds each value
  abbrev pub marks : Plan V → Plan ValueSlot
  marks Nil = Nil
  marks (Cell id label value child sibling) = Cell id label (mark id value) (marks child) (marks sibling)

  -- it has the same numbers
  pub head-marks : (p : Plan V) → head (marks p) ≡ head p
  head-marks Nil = refl
  head-marks (Cell id l v c d) = refl

  -- as many nodes
  pub size-marks : (p : Plan V) → size (marks p) ≡ size p
  size-marks Nil = refl
  size-marks (Cell id l v c d) = omega (arith, size-marks c, size-marks d)

  -- and each number as often
  pub count-marks : (p : Plan V) (at : ℕ) → count (marks p) at ≡ count p at
  count-marks Nil at = refl
  count-marks (Cell id l v c d) at = omega (arith, count-marks c at, count-marks d at)

  -- it stands in the numbered nodes
  pub stands-marks : (nodes : List (Node V)) (p : Plan V) → LaidOut nodes p
      → LaidOut (numbered_slots 0 nodes) (marks p)
  stands-marks nodes Nil s = tt
  stands-marks nodes (Cell id l v c d) s = (
    rw (head-marks c, head-marks d) (numbered_slots-some nodes id _ s.0),
    stands-marks nodes c
        s.1,
    stands-marks nodes d s.2,
  )

  -- the numbered nodes are the plan with who holds each value
  pub plan-marks : (nodes : List (Node V)) (at : Option ℕ) (p : Plan V) → IsPlan nodes at p
      → IsPlan (numbered_slots 0 nodes) at (marks p)
  plan-marks nodes at p w = record {
    stands = stands-marks nodes p w.stands;
    at_is = w.at_is ∙ sym (head-marks p);
    fits = omega (arith, w.fits, size-marks p, numbered_slots-length 0 nodes);
  }

  -- and they are read as it
  pub plan_at-marks : (nodes : List (Node V)) (at : Option ℕ) → IsPlan nodes at (plan_at nodes at)
      → plan_at (numbered_slots 0 nodes) at ≡ marks (plan_at nodes at)
  plan_at-marks nodes at w = plan_is (numbered_slots 0 nodes) at _ (plan-marks nodes at _ w)

  -- the free nodes are linked as they were
  chain-marks : (nodes : List (Node V)) (spare : List ℕ) → IsChain nodes spare
      → IsChain (numbered_slots 0 nodes) spare
  chain-marks nodes [] c = tt
  chain-marks nodes (id ∷ ids) c = ((marked_node id c.0.0, numbered_slots-some nodes id _ c.0.1, c.0.2), chain-marks nodes ids c.1)

  -- the numbered nodes are sound where the nodes are
  pub sound-marks : (nodes : List (Node V)) (root free : Option ℕ) (p : Plan V) (spare : List ℕ)
      → IsSound nodes root free p spare → IsSound (numbered_slots 0 nodes) root free (marks p) spare
  sound-marks nodes root free p spare s = record {
    plan_ok = plan-marks nodes root p s.plan_ok;
    chain = chain-marks nodes spare s.chain;
    free_is = s.free_is;
    once = λ at. rw (count-marks p at, numbered_slots-length 0 nodes) (s.once at);
    total = rw (size-marks p, numbered_slots-length 0 nodes) s.total;
  }

  -- a mark stands where a value does, so the invariant is the same
  earns-marks : (id : ℕ) (l : List ℕ) (v : Option V) (c : Plan V) (item : List ℕ → Type 0)
      → EarnsWithin item None l (mark id v) (siblings_in (marks c)) ≡ EarnsWithin item None l v (siblings_in c)
  earns-marks id l (Some x) c item = refl
  earns-marks id l None Nil item = refl
  earns-marks id l None (Cell i m w d Nil) item = refl
  earns-marks id l None (Cell i m w d (Cell j k u e f)) item = refl

  -- a label comes before siblings with marks where it comes before the siblings
  rises-marks : (l : List ℕ) (d : Plan V) (item : List ℕ → Type 0)
      → IsBeforeSiblings item l (siblings_in (marks d)) ≡ IsBeforeSiblings item l (siblings_in d)
  rises-marks l Nil item = refl
  rises-marks l (Cell id m v c d) item = refl

  -- the invariant of siblings with marks is that of the siblings
  pub siblings-marks : (item : List ℕ → Type 0) (p : Plan V)
      → IsCanonical item (siblings_in (marks p)) ≡ IsCanonical item (siblings_in p)
  siblings-marks item Nil = refl
  siblings-marks item (Cell id l v c d) = rw (earns-marks id l v c item, rises-marks l d item, siblings-marks item c, siblings-marks item d) refl

  -- so one keeps it where the other does
  pub canonical-marks : (item : List ℕ → Type 0) (p : Plan V)
      → IsCanonical item (siblings_in p) ↔ IsCanonical item (siblings_in (marks p))
  canonical-marks item p = (λ ok. rw (siblings-marks item p) ok, λ ok. rw (← siblings-marks item p) ok)

  -- another value has the same key
  pub keys-own : (f : V → ValueSlot) (v : Option V)
      → keys_of (own (option_map f v)) ≡ keys_of (own v)
  keys-own f None = refl
  keys-own f (Some x) = refl

  -- siblings with marks have the same keys
  pub keys-marks : (p : Plan V) → keys_of (entries (siblings_in (marks p))) ≡ keys_of (entries (siblings_in p))
  keys-marks Nil = refl
  keys-marks (Cell id l v c d) = simp (map-append, keys-prefixed, keys-own (λ _. OfNode id) v, keys-marks c, keys-marks d)

  -- and as many
  pub length-marks : (p : Plan V) → length (entries (siblings_in (marks p))) ≡ length (entries (siblings_in p))
  length-marks p = let same = ap length (keys-marks p) in simp length-map at same

  -- where each of two lists reads its entries, both together read theirs
  pub reads-append :
      (h : ValueSlot → Option V) (es fs : List (List ℕ × ValueSlot)) (rs ss : List (List ℕ × V))
      → ReadsHeld h es rs → ReadsHeld h fs ss → ReadsHeld h (es ++ fs) (rs ++ ss)
  reads-append h [] fs [] ss a b = b
  reads-append h [] fs (r ∷ rs) ss a b = absurd a
  reads-append h (e ∷ es) fs [] ss a b = absurd a
  reads-append h (e ∷ es) fs (r ∷ rs) ss a b = (a.0, a.1, reads-append h es fs rs ss a.2 b)

  -- a label before the keys of both lists leaves them the same entries
  reads-prefixed : (h : ValueSlot → Option V) (l : List ℕ) (es : List (List ℕ × ValueSlot))
      (rs : List (List ℕ × V)) → ReadsHeld h es rs → ReadsHeld h (prefixed l es) (prefixed l rs)
  reads-prefixed h l [] [] a = tt
  reads-prefixed h l [] (r ∷ rs) a = absurd a
  reads-prefixed h l (e ∷ es) [] a = absurd a
  reads-prefixed h l (e ∷ es) (r ∷ rs) a = (ap (λ k. l ++ k) a.0, a.1, reads-prefixed h l es rs a.2)

  -- an own value is read as what is held there
  pub reads-own : (h : ValueSlot → Option V) (x : ValueSlot) (v : Option V) → h x ≡ v
      → ReadsHeld h (own (option_map (λ _. x) v)) (own v)
  reads-own h x None e = tt
  reads-own h x (Some y) e = (refl, e, tt)

  -- each mark is read as the value in its place
  pub reads-marks : (value : Option V) (nodes : List (Node V)) (p : Plan V) → LaidOut nodes p
      → ReadsHeld (held value nodes) (entries (siblings_in (marks p))) (entries (siblings_in p))
  reads-marks value nodes Nil s = tt
  reads-marks value nodes (Cell id l v c d) s =
      let h = held value nodes in
      reads-append h _ _ _ _
      (reads-prefixed h l _ _ (reads-append h _ _ _ _ (reads-own h (OfNode id) v (ap value_in s.0)) (reads-marks value nodes c s.1)))
      (reads-marks value nodes d s.2)

  -- an own value is used by its holder alone
  pub own-uses : (x h : ValueSlot) (v : Option V)
      → uses (own (option_map (λ _. x) v)) h ≤ uses (([], x) ∷ []) h
  own-uses x h None = omega arith
  own-uses x h (Some y) = omega arith

  -- a mark stands no more often than the node
  pub uses-marks : (p : Plan V) (at : ℕ) → uses (entries (siblings_in (marks p))) (OfNode at) ≤ count p at
  uses-marks Nil at = omega arith
  uses-marks (Cell id l v c d) at = simp (uses-append, uses-prefixed) (omega (arith, own-uses (OfNode id) (OfNode at) v, uses-marks c at, uses-marks d at))

  -- and the tree's own value is that of no node
  pub uses-top : (p : Plan V) → uses (entries (siblings_in (marks p))) OfEmptyKey ≡ 0
  uses-top Nil = refl
  uses-top (Cell id l v c d) = simp (uses-append, uses-prefixed) (omega (arith, own-uses (OfNode id) OfEmptyKey v, uses-top c, uses-top d))
