-- The holders of the values of a tree.
use Rattle.std.proofs.Common.{◌≡◌, ◌↔◌, ℕ, ◌≤◌, T, List, [], ◌∷◌, ◌++◌, length, Option, refl, sym}
use Rattle.std.proofs.Common.{ap, ◌∙◌, arith}
use Rattle.std.specs.Option.{option_map}
use Rattle.std.specs.FinMap.{is_sorted}
use Rattle.patricia_keys.specs.Keys.{IsKeyKind, key_cmp}
use Rattle.patricia_model.specs.Siblings.{own, entries, IsCanonical}
use Rattle.patricia_model.proofs.TreeLemmas.{tree_sorted}
use Rattle.patricia_nodes.specs.declared.arena.NodeArena.{NodeArena}
use Rattle.patricia_nodes.specs.declared.arena.seek.LinkRef.{LinkRef}
use Rattle.patricia_nodes.specs.declared.arena.seek.Match.{Match}
use Rattle.patricia_nodes.specs.Internal.Plans.{Plan, Nil, Cell, count, siblings_of, entries_of}
use Rattle.patricia_nodes.specs.Internal.Plans.{plan_at, IsWellFormed, siblings_at}
use Rattle.patricia_nodes.specs.Internal.Places.{Frame, InChild, InSibling, fill, link_ref_of}
use Rattle.patricia_nodes.specs.Internal.Places.{above_of, Leads, Matches, Placed}
use Rattle.patricia_nodes.proofs.PlanLemmas.{plan_is, below_le}
use Rattle.patricia_nodes.proofs.SeekLemmas.{whole_plan}
use Rattle.patricia_walks.specs.declared.held_tree.ValueSlot.{ValueSlot}
use Rattle.patricia_walks.specs.declared.held_tree.ValueSlot.TheVariants.{OfEmptyKey, OfNode}
use Rattle.patricia_walks.specs.Internal.Holders.{numbered_slots, holders, held, uses, ReadsHeld}
use Rattle.patricia_walks.proofs.NumberLemmas.{mark, marks, head-marks, length-marks, own-uses}
use Rattle.patricia_walks.proofs.NumberLemmas.{plan_at-marks, reads-append, reads-marks, reads-own}
use Rattle.patricia_walks.proofs.NumberLemmas.{canonical-marks, sound-marks, uses-append}
use Rattle.patricia_walks.proofs.NumberLemmas.{uses-marks, uses-top}

module _ {V : Type 0} where
  -- the frames with who holds each value
  abbrev pub mark_frames : List (Frame V) → List (Frame ValueSlot)
  mark_frames [] = []
  mark_frames (InChild id label value sibling ∷ fs) = InChild id label (mark id value) (marks sibling) ∷ mark_frames fs
  mark_frames (InSibling id label value child ∷ fs) = InSibling id label (mark id value) (marks child) ∷ mark_frames fs

  -- they stand around the plan with who holds each value, at the same place
  fill-marks : (fs : List (Frame V)) (p : Plan V)
      → fill (mark_frames fs) (marks p) ≡ marks (fill fs p)
  fill-marks [] p = refl
  fill-marks (InChild id l v d ∷ fs) p = fill-marks fs (Cell id l v p d)
  fill-marks (InSibling id l v c ∷ fs) p = fill-marks fs (Cell id l v c p)

  -- the node above the place has the same number
  above-marks : (fs : List (Frame V)) → above_of (mark_frames fs) ≡ above_of fs
  above-marks [] = refl
  above-marks (InChild id l v d ∷ fs) = refl
  above-marks (InSibling id l v c ∷ fs) = above-marks fs

  -- the link to the place is the same
  link_ref-marks : (fs : List (Frame V)) → link_ref_of (mark_frames fs) ≡ link_ref_of fs
  link_ref-marks [] = refl
  link_ref-marks (InChild id l v d ∷ fs) = refl
  link_ref-marks (InSibling id l v c ∷ fs) = rw (above-marks fs) refl

  -- a look-up of a key passes the same frames
  leads-marks : (item : List ℕ → Type 0) (fs : List (Frame V)) (key rest : List ℕ)
      → Leads item fs key rest → Leads item (mark_frames fs) key rest
  leads-marks item [] key rest h = h
  leads-marks item (InChild id l v d ∷ fs) key rest h = (h.0, h.1, h.2, leads-marks item fs key h.0 h.3)
  leads-marks item (InSibling id l v c ∷ fs) key rest h = (h.0, leads-marks item fs key rest h.1)

  -- and it ends in the same way
  is_match-marks : (item : List ℕ → Type 0) (p : Plan V) (rest : List ℕ) (matched : Match)
      → Matches item p rest matched → Matches item (marks p) rest matched
  is_match-marks item Nil rest matched h = h
  is_match-marks item (Cell id l v c d) rest matched h = h

-- the slots with who holds each value in place of the values
pub record Marked {V : Type 0} (s : NodeArena V) (m : NodeArena ValueSlot) : Type 0 where
  pub nodes : m.nodes.items ≡ numbered_slots 0 s.nodes.items
  pub root : m.root ≡ s.root
  pub whole : IsWellFormed m

module _ {V : Type 0} (s : NodeArena V) (whole : IsWellFormed s) where
  -- there are such slots
  pub marked : (m : NodeArena ValueSlot) × Marked s m
  marked =
      let items = numbered_slots 0 s.nodes.items in
      let v = s.nodes in
      let m : NodeArena ValueSlot = record {
        nodes = record {
          items = items;
          capacity = v.capacity;
          room = v.room;
          used = v.used;
        };
        root = s.root;
        free = s.free;
        edits = s.edits;
      } in
      (m, record { nodes = refl; root = refl; whole = (marks whole.0, (whole.1.0, sound-marks v.items s.root s.free whole.0 whole.1.0 whole.1.1)) })

  -- the plan of the numbered nodes
  pub plan_marked :
      plan_at (numbered_slots 0 s.nodes.items) s.root ≡ marks (plan_at s.nodes.items s.root)
  plan_marked = plan_at-marks s.nodes.items s.root (whole_plan s whole)

  -- their siblings keep the invariant where the siblings do
  pub siblings_marked : (item : List ℕ → Type 0)
      → IsCanonical item (siblings_of s) ↔ IsCanonical item (siblings_at (numbered_slots 0 s.nodes.items) s.root)
  siblings_marked item = rw plan_marked (canonical-marks item (plan_at s.nodes.items s.root))

  -- and there are as many
  pub length_marked :
      length (entries (siblings_at (numbered_slots 0 s.nodes.items) s.root)) ≡ length (entries_of s)
  length_marked = rw plan_marked (length-marks (plan_at s.nodes.items s.root))

  -- the place of a key is that among the numbered nodes
  pub place_marked : (item : List ℕ → Type 0) (m : NodeArena ValueSlot) → Marked s m
      → (key : List ℕ) (link_ref : LinkRef) (at : Option ℕ) (rest : List ℕ) (matched : Match)
      → Placed item s key link_ref at rest matched → Placed item m key link_ref at rest matched
  place_marked item m w key link_ref at rest matched p = record {
    frames = mark_frames p.frames;
    focus = marks p.focus;
    fills = rw (w.nodes, w.root, plan_marked) (fill-marks p.frames p.focus ∙ ap (λ (q : Plan V). marks q) p.fills);
    link_ref_is = p.link_ref_is ∙ sym (link_ref-marks p.frames);
    at_is = p.at_is ∙ sym (head-marks p.focus);
    leads = leads-marks item p.frames key rest p.leads;
    rest_nonempty = p.rest_nonempty;
    is_match = is_match-marks item p.focus rest matched p.is_match;
  }

  -- each holder holds the value of its key
  pub holders_read : (v : Option V)
      → ReadsHeld (held v s.nodes.items) (holders v s) (own v ++ entries_of s)
  holders_read v =
      let h = held v s.nodes.items in
      rw plan_marked
      (reads-append h _ _ _ _ (reads-own h OfEmptyKey v refl)
      (reads-marks v s.nodes.items (plan_at s.nodes.items s.root) (whole_plan s whole).stands))

  -- and stands once
  pub holders_once : (v : Option V) (h : ValueSlot) → uses (holders v s) h ≤ 1
  holders_once v OfEmptyKey = rw (plan_marked, uses-append) (omega (arith, own-uses OfEmptyKey OfEmptyKey v, uses-top (plan_at s.nodes.items s.root)))
  holders_once v (OfNode at) =
      let once = whole.1.1.once at in
      let is = ap (λ (p : Plan V). count p at) (plan_is s.nodes.items s.root whole.0 whole.1.1.plan_ok) in
      rw (plan_marked, uses-append)
      (omega (
        arith,
        own-uses OfEmptyKey (OfNode at) v,
        uses-marks
            (plan_at s.nodes.items s.root) at,
        once,
        is,
        below_le (length s.nodes.items) at,
      ))

  -- the holders' keys are in order
  pub holders_sorted : (item : List ℕ → Type 0) → IsKeyKind item → (v : Option V)
      → IsCanonical item (siblings_of s) → T (is_sorted key_cmp (holders v s))
  holders_sorted item kind v ok = tree_sorted item kind (option_map (λ _. OfEmptyKey) v)
      (siblings_at (numbered_slots 0 s.nodes.items) s.root) ((siblings_marked item).0 ok)
