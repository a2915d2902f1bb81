-- A value that is inserted at the place of a key.
use Rattle.std.proofs.Common.{◌≡◌, ◌≢◌, inr, ℕ, ◌+◌, ◌<◌, ◌≤◌, List, [], ◌∷◌, length, take, drop}
use Rattle.std.proofs.Common.{Option, Some, None, get_or, refl, sym, ap, subst, ◌∙◌, arith}
use Rattle.std.proofs.Common.{length-append}
use Rattle.std.proofs.lemmas.List.{length-drop}
use Rattle.std.specs.FinMap.{put}
use Rattle.std.specs.Prelude.{Result, Ok, Err, OnOk, is_err, false}
use mathlib.Core.Bool.{false≢true}
use Rattle.std.proofs.lemmas.Bool.Decides.{nat_tests}
use Rattle.patricia_store.specs.Internal.Labels.{label_room, cut_room}
use Rattle.std.specs.declared.cmp.Ordering.{Ordering}
use Rattle.std.specs.declared.cmp.Ordering.TheVariants.{Less, Equal, Greater}
use Rattle.patricia_store.specs.Internal.Nodes.{Node}
use Rattle.patricia_nodes.specs.declared.arena.NodeArena.{NodeArena}
use Rattle.patricia_nodes.specs.declared.arena.seek.LinkRef.{LinkRef}
use Rattle.patricia_nodes.specs.declared.arena.seek.LinkRef.TheVariants.{Child, Sibling}
use Rattle.patricia_nodes.specs.declared.arena.seek.Match.{Match}
use Rattle.patricia_nodes.specs.declared.arena.seek.Match.TheVariants.{Absent, InsideLabel}
use Rattle.patricia_keys.specs.Keys.{IsKeyKind, IsValid, ComparesFirst, key_cmp}
use Rattle.patricia_model.specs.Siblings.{node, entries, IsCanonical}
use Rattle.patricia_model.specs.Internal.LabelCmp.{EndsWithin}
use Rattle.patricia_nodes.specs.Internal.Plans.{Plan, Nil, Cell, linked, head, siblings_in, Holds}
use Rattle.patricia_nodes.specs.Internal.Places.{Frame, InChild, InSibling, fill, Matches, Leads}
use Rattle.patricia_nodes.specs.Internal.Writes.{HasRoomFor, HasLinkRef, IsWithin}
use Rattle.patricia_nodes.specs.Internal.Trails.{KeepsAround}
use Rattle.patricia_nodes.specs.Internal.Writes.{Puts}
use Rattle.patricia_edits.specs.Internal.Inserts.{AddsNode, AddsLeaf, HasCell, SplitsNode}
use Rattle.patricia_edits.specs.Internal.Inserts.{HasRoomToPut}
use Rattle.patricia_nodes.proofs.SeekLemmas.{Sought, Opened, opened, head_within, focus_plan_at}
use Rattle.patricia_nodes.proofs.ValueLemmas.{place_holds, focus_ok, puts_around}
use Rattle.patricia_model.proofs.GetLemmas.{compared_less}
use Rattle.patricia_model.proofs.InsertLemmas.{single, put_before}
use Rattle.patricia_model.proofs.DivideLemmas.{Divides, divides_label, ends_at_cut, put_at_cut}
use Rattle.patricia_model.proofs.DivideLemmas.{siblings_before_cut, put_before_cut}
use Rattle.patricia_model.proofs.DivideLemmas.{siblings_after_cut}
use Rattle.patricia_model.proofs.DivideLemmas.{put_after_cut, past_cut}

-- what is said of a value holds where there is no error
pub ok_of : {T E P : Type 0} (r : Result T E) → OnOk r P → false ≡ is_err r → P
ok_of (Ok x) holds e = holds
ok_of (Err x) holds e = absurd (false≢true e)

-- a longer label takes no fewer bytes
pub label_room_le : {m n : ℕ} → m ≤ n → label_room m ≤ label_room n
label_room_le {m} {n} shorter = grind (arith, nat_tests)

-- where there is room, there is room for less
pub room_within : {V : Type 0} {s : NodeArena V} {n m bytes fewer : ℕ} → HasRoomFor s n bytes
    → m ≤ n → fewer ≤ bytes → HasRoomFor s m fewer
room_within room less short = record {
  nodes_fit = (room.nodes_fit.0, room.nodes_fit.1, omega (arith, room.nodes_fit.2, less));
  bytes_fit = omega (arith, room.bytes_fit, short);
}

module _ (item : List ℕ → Type 0) (kind : IsKeyKind item) {V : Type 0} (x : V) where
  -- a new leaf before siblings that come after its label leaves the invariant
  siblings_first : (k : ℕ) (focus : Plan V) → IsCanonical item (siblings_in focus) → (rest : List ℕ)
      → Matches item focus rest Absent → IsValid item rest → rest ≢ []
      → IsCanonical item (siblings_in (Cell k rest (Some x) Nil focus))
  siblings_first k Nil ok rest h valid nonempty = record { valid = valid; nonempty = nonempty; fits = tt; earns = tt; rises = tt; child = tt; sibling = tt }
  siblings_first k (Cell i l v c d) ok rest h valid nonempty = record {
    valid = valid;
    nonempty = nonempty;
    fits = tt;
    earns = tt;
    rises = h;
    child = tt;
    sibling = ok;
  }

  -- its entries are those of the plan with the value at the new node's key
  put_first : (k : ℕ) (focus : Plan V) → IsCanonical item (siblings_in focus) → (rest : List ℕ)
      → Matches item focus rest Absent
      → entries (siblings_in (Cell k rest (Some x) Nil focus)) ≡ put key_cmp rest x (entries (siblings_in focus))
  put_first k Nil ok rest h = single item kind x rest
  put_first k (Cell i l v c d) ok rest h = put_before item kind x l v (siblings_in c) (siblings_in d) ok rest h

module _ (item : List ℕ → Type 0) {V : Type 0} where
  -- a look-up leaves no more of a key than there was
  leads_short : (fs : List (Frame V)) (key rest : List ℕ) → Leads item fs key rest
      → length rest ≤ length key
  leads_short [] key rest leads = omega (arith, ap length leads)
  leads_short (InChild id l v d ∷ fs) key rest leads =
      omega (arith, leads_short fs key leads.0 leads.3, ap length leads.1.splits, length-append l rest)
  leads_short (InSibling id l v c ∷ fs) key rest leads = leads_short fs key rest leads.1

module _ {item : List ℕ → Type 0} {V : Type 0} {s : NodeArena V} {key : List ℕ}
    {link_ref : LinkRef} {at : Option ℕ} {rest : List ℕ} {matched : Match}
    (sought : Sought item s key link_ref at rest matched) where
  open sought use {kind, whole, canonical as ok, place as p}

  -- the value was inserted at the key, and what is around its place is kept
  abbrev PutsAround : NodeArena V → V → Type 0
  PutsAround new x = Puts item s new key x × KeepsAround p.frames new

  -- the number at a place is that of a node, or none
  pub at_within : IsWithin at (length s.nodes.items)
  at_within = by at refl
    where
      by : (link : Option ℕ) → at ≡ link → IsWithin link (length s.nodes.items)
      by None is = tt
      by (Some id) is = head_within s.nodes.items at p.focus id (focus_plan_at sought) is

  -- what is left of the key is no longer than it
  rest_short : length rest ≤ length key
  rest_short = leads_short item p.frames key rest p.leads

  -- room for the key is room for what is left of it
  pub room_to_put : {bytes : ℕ} → HasRoomFor s 2 bytes
      → ((n : ℕ) → label_room (length key) + cut_room n ≤ bytes) → HasRoomToPut s rest
  room_to_put room enough n = room_within room (omega arith)
      (omega (arith, label_room_le rest_short, enough n))

  -- the link to a place is that to some place
  pub place_link_ref : HasLinkRef s link_ref
  place_link_ref = (p.frames, p.focus, p.link_ref_is, place_holds sought)

  -- a new leaf between two nodes inserts the value at the key
  pub puts_first : (new : NodeArena V) (x : V) (leaf : Node V) (k : ℕ) → matched ≡ Absent
      → IsValid item rest → leaf.label ≡ rest → leaf.value ≡ Some x → leaf.child ≡ None
      → leaf.sibling ≡ at → AddsNode s new link_ref leaf k → PutsAround new x
  puts_first new x leaf k is valid label value child sibling adds =
      let is_match = subst (λ k. Matches item p.focus rest k) is p.is_match in
      let holds = (adds p.frames Nil p.focus p.focus p.link_ref_is (inr (refl, refl)) child (sibling ∙ p.at_is) (place_holds sought)).0 in
      puts_around sought new x (Cell k rest (Some x) Nil p.focus) (rw (← label, ← value) holds)
      (siblings_first item kind x k p.focus (focus_ok sought) rest is_match valid p.rest_nonempty)
      (put_first item kind x k p.focus (focus_ok sought) rest is_match)

  -- in the label of a node
  module _ {id n : ℕ} (is : matched ≡ InsideLabel id n) where
    -- the link of the place is the number of that node
    pub at_id : at ≡ Some id
    at_id = p.at_is ∙ by p.focus p.is_match
      where
        by : (q : Plan V) → Matches item q rest matched → head q ≡ Some id
        by Nil h = absurd (cc)
        by (Cell i l v c d) h = let at = subst (λ k. Matches item (Cell i l v c d) rest k) is h in ap Some (sym at.0)

    -- the node is in the vector
    pub within_nodes : id < length s.nodes.items
    within_nodes = head_within s.nodes.items at p.focus id (focus_plan_at sought) at_id

    module _ {r : Node V} (reads : r ≡ get_or s.nodes.items id r) where
      -- the node, as it is read
      pub there : Opened s.nodes.items p.focus id r
      there = opened s.nodes.items at p.focus id r (focus_plan_at sought) at_id reads

      -- what is left of the key and the label have n bytes in common, and the label has more
      ends : EndsWithin item rest r.label n
      ends =
          let is_match = subst (λ (q : Plan V). Matches item q rest matched) there.is p.is_match in
          (subst (λ k. Matches item (Cell id r.label r.value there.child there.sibling) rest k) is is_match).1

      -- the key ends within its label
      pub ends_short : n < length r.label
      ends_short = ends.short

      -- the nodes stand for the plan with this node in the place
      there_holds : Holds s (fill p.frames (Cell id r.label r.value there.child there.sibling))
      there_holds = subst (λ (q : Plan V). Holds s (fill p.frames q)) there.is (place_holds sought)

      -- the siblings from this node on keep the invariant
      there_ok : IsCanonical item (node r.label r.value (siblings_in there.child) (siblings_in there.sibling))
      there_ok = subst (λ (q : Plan V). IsCanonical item (siblings_in q)) there.is (focus_ok sought)

      -- it is a node of the plan
      pub there_cell : HasCell s id
      there_cell = (p.frames, r.label, r.value, there.child, there.sibling, there_holds)

      module _ (valid : IsValid item rest) where
        -- the key and the label part there
        pub div : Divides item rest r.label (take n r.label) (drop n rest) (drop n r.label)
        div = divides_label item kind rest r.label n valid there_ok.valid ends

        -- what is said of the siblings at the node, is said of what is in the place
        puts_there : (new : NodeArena V) (x : V) (focus : Plan V) → Holds new (fill p.frames focus)
            → IsCanonical item (siblings_in focus)
            → entries (siblings_in focus) ≡ put key_cmp rest x (entries (node r.label r.value (siblings_in there.child) (siblings_in there.sibling)))
            → PutsAround new x
        puts_there new x focus holds canonical put_is = puts_around sought new x focus holds canonical
            (put_is ∙ ap (λ (q : Plan V). put key_cmp rest x (entries (siblings_in q))) (sym there.is))

        -- where the key ends at the cut, the upper node takes the value, and the key has it
        pub puts_cut : (new : NodeArena V) (x : V) (k : ℕ) → drop n rest ≡ []
            → SplitsNode s new id n (Some x) k → PutsAround new x
        puts_cut new x k none splits =
            puts_there new x (Cell id (take n r.label) (Some x) (Cell k (drop n r.label) r.value there.child Nil) there.sibling)
            (splits p.frames r.label r.value there.child there.sibling there_holds).0
            (ends_at_cut item kind x r.label r.value (siblings_in there.child) (siblings_in there.sibling) there_ok
            rest (take n r.label) (drop n rest) (drop n r.label) div none)
            (put_at_cut item kind x r.label r.value (siblings_in there.child) (siblings_in there.sibling) there_ok
            rest (take n r.label) (drop n rest) (drop n r.label) div none)

        -- or goes on beside the rest of the label
        module _ (mid : NodeArena V) (k : ℕ) (splits : SplitsNode s mid id n None k) where
          abbrev low : Plan V
          low = Cell k (drop n r.label) r.value there.child Nil

          abbrev above : List (Frame V)
          above = InChild id (take n r.label) None there.sibling ∷ p.frames

          abbrev beside : List (Frame V)
          beside = InSibling k (drop n r.label) r.value there.child ∷ above

          -- once it is split, the upper node has the first bytes and the lower one all the rest
          cut_holds : Holds mid (fill above low)
          cut_holds = (splits p.frames r.label r.value there.child there.sibling there_holds).0

          -- splitting the node leaves room for a leaf
          pub room_left : HasRoomToPut s rest → HasRoomFor mid 1 (label_room (length (drop n rest)))
          room_left room =
              let left = (splits p.frames r.label r.value there.child there.sibling there_holds).1 1 (label_room (length rest))
              (room_within (room (length r.label)) (omega arith) (omega arith)) in
              room_within left (omega arith) (label_room_le (omega (arith, length-drop n rest)))

          -- the new node can come first below it
          pub link_ref_before : HasLinkRef mid (Child id)
          link_ref_before = (above, low, refl, cut_holds)

          -- or behind the lower node
          pub link_ref_after : HasLinkRef mid (Sibling k (Some id))
          link_ref_after = (beside, Nil, refl, cut_holds)

          module _ (new : NodeArena V) (x : V) (leaf : Node V) (j : ℕ) (nonempty : drop n rest ≢ []) (leaf_label : leaf.label ≡ drop n rest)
              (leaf_value : leaf.value ≡ Some x) (leaf_child : leaf.child ≡ None) where
            -- the new node comes before the lower one
            puts_before : ComparesFirst item (drop n rest) (drop n r.label) Less
                → leaf.sibling ≡ Some k → AddsNode mid new (Child id) leaf j → PutsAround new x
            puts_before compared sibling adds =
                let before = compared_less item (drop n rest) (drop n r.label) nonempty div.label_nonempty compared in
                puts_there new x (Cell id (take n r.label) None (Cell j (drop n rest) (Some x) Nil low) there.sibling)
                (rw (← leaf_label, ← leaf_value) (adds above Nil low low refl (inr (refl, refl)) leaf_child sibling cut_holds).0)
                (siblings_before_cut item kind x r.label r.value (siblings_in there.child) (siblings_in there.sibling)
                there_ok rest (take n r.label) (drop n rest) (drop n r.label) div nonempty
                before)
                (put_before_cut item kind x r.label r.value (siblings_in there.child) (siblings_in there.sibling)
                there_ok rest (take n r.label) (drop n rest) (drop n r.label) div before)

            -- or the new node comes behind it
            puts_after : (o : Ordering) → ComparesFirst item (drop n rest) (drop n r.label) o
                → (o ≡ Less → ⊥) → leaf.sibling ≡ None
                → AddsNode mid new (Sibling k (Some id)) leaf j → PutsAround new x
            puts_after o compared not_less sibling adds =
                let after = past_cut item kind x r.label r.value (siblings_in there.child)
                (siblings_in there.sibling) there_ok rest (take n r.label) (drop n rest)
                (drop n r.label) div nonempty o compared not_less in
                puts_there new x
                (Cell id (take n r.label) None
                (Cell k (drop n r.label) r.value there.child
                (Cell j (drop n rest) (Some x) Nil Nil)) there.sibling)
                (rw (← leaf_label, ← leaf_value) (adds beside Nil Nil Nil refl (inr (refl, refl)) leaf_child sibling cut_holds).0)
                (siblings_after_cut item kind x r.label r.value (siblings_in there.child) (siblings_in there.sibling)
                there_ok rest (take n r.label) (drop n rest) (drop n r.label) div nonempty
                after)
                (put_after_cut item kind x r.label r.value (siblings_in there.child) (siblings_in there.sibling)
                there_ok rest (take n r.label) (drop n rest) (drop n r.label) div after)

          -- so it is by the order of the two
          pub puts_leaf : (new : NodeArena V) (x : V) (j : ℕ) (o : Ordering) {more : List ℕ}
              → more ≡ drop n rest → drop n rest ≢ []
              → ComparesFirst item (drop n rest) (drop n r.label) o
              → AddsLeaf mid new id k o more x j → PutsAround new x
          puts_leaf new x j Less {more} is some compared adds =
              puts_before new x (linked more (Some x) None (Some k)) j some is refl refl compared refl (adds.0 refl)
          puts_leaf new x j Equal {more} is some compared adds =
              puts_after new x (linked more (Some x) None None) j some is refl refl Equal compared (λ e. absurd (cc)) refl (adds.1 (λ e. absurd (cc)))
          puts_leaf new x j Greater {more} is some compared adds =
              puts_after new x (linked more (Some x) None None) j some is refl refl Greater compared (λ e. absurd (cc)) refl (adds.1 (λ e. absurd (cc)))
