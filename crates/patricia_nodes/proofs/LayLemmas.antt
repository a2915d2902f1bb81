-- All nodes are relocated, one list of siblings after the other.
use Rattle.std.proofs.Common.{◌≡◌, inl, inr, ℕ, zero, suc, ◌+◌, ◌<◌, ◌≤◌, List, [], ◌∷◌, ◌++◌}
use Rattle.std.proofs.Common.{Bool, true, false, nat_lt, if◌then◌else◌, length, set, get_or}
use Rattle.std.proofs.Common.{Option, Some, None, slice_get, refl, sym, ap, ◌≢◌}
use Rattle.std.proofs.Common.{◌∙◌, arith, length-append, length-set}
use Rattle.std.proofs.lemmas.Bool.{cases_lt}
use Rattle.std.proofs.lemmas.Bool.Decides.{nat_tests}
use Rattle.std.proofs.lemmas.Option.{get_or_from_slice_get}
use Rattle.patricia_store.specs.Internal.Nodes.{Node, Nodes, KeepsRoom}
use Rattle.patricia_nodes.specs.Internal.NodeVecs.{ReadsNode, Changes}
use Rattle.patricia_nodes.specs.Internal.Writes.{IsWithin}
use Rattle.patricia_nodes.specs.declared.arena.NodeArena.{NodeArena}
use Rattle.patricia_nodes.specs.Internal.Plans.{Plan, linked, head, siblings_in, size, count, times}
use Rattle.patricia_nodes.specs.Internal.Plans.{below}
use Rattle.patricia_nodes.specs.Internal.Plans.{LaidOut, IsSound, plan_at}
use Rattle.patricia_nodes.specs.Internal.Growth.{tops, numbered_siblings, laid, AreTopSiblings}
use Rattle.patricia_nodes.specs.Internal.Growth.{IsLaid, top_bytes, bytes_below}
use Rattle.patricia_nodes.specs.Internal.Growth.{TakesSiblings, TakesBelow, count_below}
use Rattle.patricia_nodes.specs.Internal.Growth.{size_below}
use Rattle.patricia_nodes.proofs.PlanLemmas.{below_le, below_in, plan_is, node_is, below_out}
use Rattle.patricia_nodes.proofs.WriteLemmas.{get-set_same, get-set_other}
use Rattle.patricia_nodes.proofs.GrowthLemmas.{takes_none, takes_same, takes_more}
use Rattle.patricia_nodes.specs.Internal.Relocation.{Mix, flat, news, waiting_bytes}
use Rattle.patricia_nodes.specs.Internal.Relocation.{Laying, Emptied, Filling, marked_from}
use Rattle.patricia_nodes.proofs.RelayLemmas.{flat_first, OpenAt, opened, Turns, step}
use Rattle.patricia_nodes.proofs.RelayLemmas.{siblings-opened, bytes-below}
use Rattle.patricia_nodes.proofs.RelayLemmas.{size-opened, first-opened, olds-below, waits-opened}
use Rattle.patricia_nodes.proofs.RelayLemmas.{waits-below, count-parts, below-keep, news-opened}
use Rattle.patricia_nodes.proofs.RelayLemmas.{moved-opened, siblings-step, size-step, first-step}
use Rattle.patricia_nodes.proofs.RelayLemmas.{step-moves, open_exists, opens_at, open_within}
use Rattle.patricia_nodes.proofs.RelayLemmas.{top_siblings, tops_within, moved-step, moved-same, lies-opened}
use Rattle.patricia_nodes.proofs.RelayLemmas.{length-laid, first_within, lies-step, lies_done}

-- no mark
abbrev pub unmarked : ℕ → Bool
unmarked at = false

-- the numbers before the first keep their marks; from there on those before i have one, and from
-- the end on
abbrev pub between : ℕ → ℕ → ℕ → (ℕ → Bool) → ℕ → Bool
between start i end marks at = if nat_lt at start then marks at else (if nat_lt at i then true else (if nat_lt at end then false else true))

-- marks below a length, and none from there on
abbrev pub up_to : ℕ → (ℕ → Bool) → ℕ → Bool
up_to n marks at = if nat_lt at n then marks at else false

pub up_to_none : (n : ℕ) (marks : ℕ → Bool) (at : ℕ) → n ≤ at → up_to n marks at ≡ false
up_to_none n marks at h = grind (arith, nat_tests)

-- where none is marked from the first on, the next to be marked is the first
pub between_none : (start end : ℕ) (marks : ℕ → Bool) → ((at : ℕ) → start ≤ at → marks at ≡ false)
    → (at : ℕ) → at < end → between start start end marks at ≡ marks at
between_none start end marks none at short = elim (cases_lt at start) [
  | inl h ↦ grind (arith, nat_tests)
  | inr h ↦ let no = none at h in grind (arith, nat_tests)
]

-- the next to be marked has no mark
pub between_next : (start i end : ℕ) (marks : ℕ → Bool) → start ≤ i → i < end
    → between start i end marks i ≡ false
between_next start i end marks a b = grind (arith, nat_tests)

-- then it has one
pub between_turns : (start i end n len : ℕ) (marks : ℕ → Bool) → n ≡ len → start ≤ i → i < end
    → end ≤ len
    → Turns (between start i end marks) (up_to n (between start (i + 1) end marks)) i len
between_turns start i end n len marks e a b c = record {
  here = grind (arith, nat_tests);
  same = λ at short other. grind (arith, nat_tests);
  new = λ at h. grind (arith, nat_tests);
}

-- where the end is that of the nodes, the new nodes come before it
pub between_level : (start i end n m : ℕ) (marks : ℕ → Bool) → start ≤ i → i < end → end ≡ n
    → (at : ℕ) → at < m
    → between start (i + 1) m marks at ≡ up_to n (between start (i + 1) end marks) at
between_level start i end n m marks a b c at short = grind (arith, nat_tests)

-- and else they have all their marks
pub between_deep : (start i end n : ℕ) (marks : ℕ → Bool) → start ≤ i → i < end → end ≤ n
    → (at : ℕ) → between start (i + 1) end marks at ≡ marked_from n (up_to n (between start (i + 1) end marks)) at
between_deep start i end n marks a b c at = grind (arith, nat_tests)

-- at the end all have one
pub between_done : (start i end : ℕ) (marks : ℕ → Bool) → end ≤ i → (at : ℕ)
    → marked_from start marks at ≡ between start i end marks at
between_done start i end marks h at = grind (arith, nat_tests)

-- marks from 0 on are everywhere
pub marked_all : (marks : ℕ → Bool) (at : ℕ) → marked_from 0 marks at ≡ true
marked_all marks at = grind (arith, nat_tests)

module _ {V : Type 0} where
  -- an item of the first of two lists has the same place in both together
  get_front : (xs ys : List (Node V)) (i : ℕ) → i < length xs
      → slice_get (xs ++ ys) i ≡ slice_get xs i
  get_front [] ys i h = absurd (omega arith)
  get_front (x ∷ xs) ys zero h = refl
  get_front (x ∷ xs) ys (suc i) h = get_front xs ys i (omega arith)

  -- two nodes at the same number are one
  same_node : {a b : Node V} → Some a ≡ Some b → a ≡ b
  same_node e = cc

  -- a number of a sound plan stands there once at most
  pub counted_once : (nodes : List (Node V)) (root free : Option ℕ) (p : Plan V) (spare : List ℕ)
      → IsSound nodes root free p spare → (at : ℕ) → count p at ≤ 1
  counted_once nodes root free p spare sound at = omega (arith, sound.once at, below_le (length nodes) at)

  -- once the top siblings are laid, each of them waits for its children
  pub laying_start : (p : Plan V) (from to : List (Node V)) → IsLaid from to p
      → Laying p from unmarked to (head (numbered_siblings 0 p))
  laying_start p from to l =
      let long : length to ≡ length (tops p) = ap length l.laid_is ∙ length-laid 0 p in
      record {
        mix = opened 0 p;
        siblings_are = siblings-opened 0 p;
        size_is = size-opened 0 p;
        root_is = sym (first-opened 0 p);
        lies = lies-opened from [] to p l.below_stands (λ at h. ap (λ xs. slice_get xs at) l.laid_is);
        moved = moved-opened unmarked 0 p (λ at h. refl);
        news_once = λ at. let came = news-opened 0 p at in
            let none : below 0 at ≡ 0 = grind (arith, nat_tests) in
            let same : 0 + length (tops p) ≡ length (tops p) = omega arith in omega
            (arith, ap (λ k. below k at) long, ap (λ k. below k at) same);
        olds_once = λ at. omega (arith, olds-below 0 p at, l.once at);
        sized = omega (arith, waits-opened 0 p, long);
      }

  -- the children of the next node are siblings that can be moved, and there is room for them
  pub record NextSiblings (p : Plan V) (from : List (Node V)) (i : ℕ) (to : List (Node V)) (mix : Mix V) : Type 0 where
    pub siblings : Plan V
    pub due : OpenAt i mix siblings
    pub parent : Node V
    pub there : slice_get to i ≡ Some parent
    pub top : AreTopSiblings from parent.child siblings
    pub room : length to + length (tops siblings) ≤ size p
    pub bytes : top_bytes siblings ≤ waiting_bytes mix

  -- the siblings below a node without a mark are still to be laid
  pub laying_siblings : (p : Plan V) (from : List (Node V)) (marks : ℕ → Bool) (i : ℕ)
      (to : List (Node V)) (root : Option ℕ) (l : Laying p from marks to root) → i < length to
      → marks i ≡ false → NextSiblings p from i to l.mix
  laying_siblings p from marks i to root l short bare =
      let some = open_exists marks i l.mix l.moved bare (omega (arith, l.news_once i, below_in (length to) i short)) in
      let w = some.0 in
      let opens = opens_at from to i l.mix w l.lies some.1 in
      let within = open_within i l.mix w some.1 in
      let once : news l.mix i ≤ 1 = omega (arith, l.news_once i, below_le (length to) i) in
      let moves = step-moves i (length to) l.mix w once some.1 in
      record {
        siblings = w;
        due = some.1;
        parent = opens.1.0;
        there = opens.1.1;
        top = top_siblings from _ w opens.0 opens.1.2 (λ k. omega (arith, within.1 k, l.olds_once k));
        room = omega (arith, l.sized, within.0, (tops_within w).0);
        bytes = omega (arith, moves.bytes);
      }

  -- the siblings from the number that is read of the node for its child are the next ones
  pub next_top : (p : Plan V) (from : List (Node V)) (i : ℕ) (to : List (Node V)) (mix : Mix V)
      (next : NextSiblings p from i to mix) (child : Option ℕ)
      → ((n : Node V) → n ≡ get_or to i n → child ≡ n.child)
      → AreTopSiblings from child next.siblings
  next_top p from i to mix next child reads =
      let there = sym (get_or_from_slice_get to i next.parent next.parent next.there) in
      rw (reads next.parent there) next.top

  -- the numbers of the nodes are those below their length
  pub news_short : (p : Plan V) (from : List (Node V)) (marks : ℕ → Bool) (to : List (Node V))
      (root : Option ℕ) (l : Laying p from marks to root) (at : ℕ) → news l.mix at ≢ 0
      → at < length to
  news_short p from marks to root l at some = elim (cases_lt at (length to)) [
    | inl h ↦ h
    | inr h ↦ absurd (some (l.news_once at ∙ below_out (length to) at h))
  ]

  -- with the children of node i behind the others, it has its mark
  laying_on : (p : Plan V) (from later : List (Node V)) (marks marked : ℕ → Bool) (i : ℕ)
      (to final : List (Node V)) (root : Option ℕ) (l : Laying p from marks to root)
      → i < length to → Turns marks marked i (length to)
      → (next : NextSiblings p from i to l.mix)
      → ((at : ℕ) → times (tops next.siblings) at ≡ 0 → slice_get later at ≡ slice_get from at)
      → final ≡ set (to ++ laid (length to) next.siblings) i
      (linked next.parent.label next.parent.value
      (head (numbered_siblings (length to) next.siblings)) next.parent.sibling)
      → Laying p later marked final root
  laying_on p from later marks marked i to final root l short turns next others is =
      let w = next.siblings in
      let n = length to in
      let whole = to ++ laid n w in
      let new = linked next.parent.label next.parent.value (head (numbered_siblings n w)) next.parent.sibling in
      let long : length final ≡ n + length (tops w) = ap length is ∙ length-set whole i new ∙ length-append to (laid n w) ∙ ap (λ k. n + k) (length-laid n w) in
      let once : news l.mix i ≤ 1 = omega (arith, l.news_once i, below_le n i) in
      let moves = step-moves i n l.mix w once next.due in
      record {
        mix = step i n l.mix;
        siblings_are = siblings-step i n l.mix ∙ l.siblings_are;
        size_is = size-step i n l.mix ∙ l.size_is;
        root_is = l.root_is ∙ sym (first-step i n l.mix);
        lies = lies-step from later to final i w
            (λ at h k. ap (λ xs. slice_get xs at) is ∙ get-set_other whole i at new k ∙ get_front to (laid n w) at h)
            (λ m at. ap (λ xs. slice_get xs i) is ∙ get-set_same whole i new
            (omega (arith, length-append to (laid n w))) ∙ ap
            (λ (x : Node V). Some
            (linked x.label x.value (head (numbered_siblings n w)) x.sibling))
            (same_node (sym next.there ∙ at)))
            (λ at h. ap (λ xs. slice_get xs at) is ∙ get-set_other whole i at new (λ e. omega arith))
            l.mix once next.due
            (news_short p from marks to root l)
            (λ at k. others at (omega (arith, moves.left at, l.olds_once at)))
            l.lies;
        moved = moved-step marks marked i n l.mix l.moved (news_short p from marks to root l) turns;
        news_once = λ at. omega (arith, moves.came at, l.news_once at, ap (λ k. below k at) long);
        olds_once = λ at. omega (arith, moves.left at, l.olds_once at);
        sized = omega (arith, l.sized, moves.waits, long);
      }

  -- as the nodes are read and written
  pub laying_next : (p : Plan V) (from later : List (Node V)) (marks marked : ℕ → Bool) (i : ℕ)
      (to final : List (Node V)) (root : Option ℕ) (l : Laying p from marks to root)
      → i < length to → Turns marks marked i (length to)
      → (next : NextSiblings p from i to l.mix)
      → ((at : ℕ) → times (tops next.siblings) at ≡ 0 → slice_get later at ≡ slice_get from at)
      → (moved : List (Node V)) → moved ≡ to ++ laid (length to) next.siblings → (first : Option ℕ)
      → first ≡ head (numbered_siblings (length to) next.siblings) → (n : Node V) → n ≡ get_or moved i n
      → final ≡ set moved i (linked n.label n.value first n.sibling)
      → Laying p later marked final root
  laying_next p from later marks marked i to final root l short turns next others moved comes first first_is n reads written =
      let parent : n ≡ next.parent = node_is moved i n next.parent
      (ap (λ xs. slice_get xs i) comes ∙ get_front to (laid (length to) next.siblings) i short ∙
      next.there) reads in
      let is : final ≡ set (to ++ laid (length to) next.siblings) i
      (linked next.parent.label next.parent.value
      (head (numbered_siblings (length to) next.siblings)) next.parent.sibling) =
      rw (← parent, ← first_is, ← comes) written in
      laying_on p from later marks marked i to final root l short turns next others is

  -- at the end the nodes are sound, and stand for the same siblings
  pub laying_done :
      (p : Plan V) (from : List (Node V)) (marks : ℕ → Bool) (to : List (Node V))
      (root : Option ℕ) → Laying p from marks to root
      → ((at : ℕ) → at < length to → marks at ≡ true)
      → (q : Plan V) × IsSound to root None q [] × (siblings_in q ≡ siblings_in p) × (size q ≡ size p)
  laying_done p from marks to root l all =
      let done = lies_done from to marks l.mix l.lies l.moved all in
      let q = flat l.mix in (
        q,
        record {
          plan_ok = record { stands = done.0; at_is = l.root_is ∙ flat_first l.mix; fits = omega (arith, l.size_is, l.sized, done.2) };
          chain = tt;
          free_is = refl;
          once = λ at. omega (arith, done.1 at, l.news_once at);
          total = omega (arith, l.size_is, l.sized, done.2);
        },
        l.siblings_are,
        l.size_is,
      )

  -- at first nothing is taken from the old nodes but the top siblings
  emptied_start : (s : NodeArena V) (w : Plan V) → Emptied s w (opened 0 w) s
  emptied_start s w = record {
    counts = λ at. 0;
    number = 0;
    takes = takes_none s;
    split = λ at. omega (arith, olds-below 0 w at);
    sized = omega (arith, waits-below 0 w);
  }

  -- once more siblings have moved, their nodes are free in the old vector
  emptied_next :
      (old : NodeArena V) (w : Plan V) (q : Mix V) (from later : NodeArena V) (i n : ℕ) (r : Plan V)
      → news q i ≤ 1 → OpenAt i q r → TakesSiblings from later r → Emptied old w q from
      → Emptied old w (step i n q) later
  emptied_next old w q from later i n r once due takes e =
      let moves = step-moves i n q r once due in
      record {
        counts = λ at. e.counts at + times (tops r) at;
        number = e.number + length (tops r);
        takes = takes_more old from later e.counts (λ at. times (tops r) at) e.number (length (tops r)) e.takes takes;
        split = λ at. omega (arith, e.split at, moves.left at);
        sized = omega (arith, e.sized, moves.waits);
      }

  -- at first nothing below the top siblings was moved
  pub filling_start : (w : Plan V) (s : NodeArena V) (to : Nodes V)
      → IsLaid s.nodes.items to.items w → Filling s w s unmarked to.room to
  unfolding laying_start
  filling_start w s to l = record {
    laying = laying_start w s.nodes.items to.items l;
    emptied = emptied_start s w;
    bytes_taken = omega (arith, bytes-below 0 w);
  }

  -- once they are moved and the node has their new number, it has its mark
  pub filling_next : (old : NodeArena V) (w : Plan V) (from later : NodeArena V)
      (marks marked : ℕ → Bool) (room i : ℕ) (to final : Nodes V)
      (f : Filling old w from marks room to) → i < length to.items
      → Turns marks marked i (length to.items)
      → (next : NextSiblings w from.nodes.items i to.items f.laying.mix)
      → TakesSiblings from later next.siblings → (moved : List (Node V))
      → moved ≡ to.items ++ laid (length to.items) next.siblings → (first : Option ℕ)
      → first ≡ head (numbered_siblings (length to.items) next.siblings) → (n : Node V)
      → n ≡ get_or moved i n
      → final.items ≡ set moved i (linked n.label n.value first n.sibling)
      → to.room ≤ final.room + top_bytes next.siblings
      → Filling old w later marked room final
  unfolding laying_on laying_next
  filling_next old w from later marks marked room i to final f short turns next takes moved comes first first_is n reads written takes_bytes =
      let l = f.laying in
      let once : news l.mix i ≤ 1 = omega (arith, l.news_once i, below_le (length to.items) i) in
      let moves = step-moves i (length to.items) l.mix next.siblings once next.due in
      record {
        laying = laying_next w from.nodes.items later.nodes.items marks marked i to.items final.items
            (head (numbered_siblings 0 w)) l short turns next takes.others moved comes first
            first_is n reads written;
        emptied = emptied_next old w l.mix from later i (length to.items) next.siblings once next.due takes f.emptied;
        bytes_taken = omega (arith, f.bytes_taken, moves.bytes, takes_bytes);
      }

  -- siblings from a link on came behind the nodes of another vector, and this is the new number of
  -- the first of them
  abbrev pub Comes : (from later : NodeArena V) (child first : Option ℕ) (to moved : Nodes V) → Type 0
  Comes from later child first to moved = record {
    taken : (w : Plan V) → AreTopSiblings from.nodes.items child w → TakesSiblings from later w;
    laid : (w : Plan V) → AreTopSiblings from.nodes.items child w
        → moved.items ≡ to.items ++ laid (length to.items) w;
    first : (w : Plan V) → AreTopSiblings from.nodes.items child w
        → first ≡ head (numbered_siblings (length to.items) w);
    capacity : moved.capacity ≡ to.capacity;
    room : (w : Plan V) → AreTopSiblings from.nodes.items child w
        → to.room ≤ moved.room + top_bytes w;
    free : IsWithin later.free (length later.nodes.items);
    kept : from.nodes.room ≤ later.nodes.room;
  }

  -- the siblings below the next node can be moved, and there is room for them
  pub due_siblings : (old : NodeArena V) (w : Plan V) (from : NodeArena V) (marks : ℕ → Bool)
      (room i : ℕ) (to : Nodes V) (child : Option ℕ) → Filling old w from marks room to
      → i < length to.items → marks i ≡ false → size w ≤ to.capacity → bytes_below w ≤ room
      → ReadsNode to i (λ n. child ≡ n.child)
      → (v : Plan V) × AreTopSiblings from.nodes.items child v
      × (length to.items + length (tops v) ≤ to.capacity) × (top_bytes v ≤ to.room)
  due_siblings old w from marks room i to child f short bare nodes_fit bytes_fit reads =
      let next = laying_siblings w from.nodes.items marks i to.items _ f.laying short bare in (
        next.siblings,
        next_top w from.nodes.items i to.items f.laying.mix next child reads,
        omega (arith, next.room, nodes_fit),
        omega (arith, next.bytes, f.bytes_taken, bytes_fit),
      )

  -- once they came they are behind the others, and the first of them is there
  pub come_behind : (from later : NodeArena V) (to moved : Nodes V) (i : ℕ) (child first : Option ℕ)
      → ReadsNode to i (λ n. child ≡ n.child) → Comes from later child first to moved
      → (old : NodeArena V) (w : Plan V) (marks : ℕ → Bool) (room : ℕ)
      → Filling old w from marks room to → i < length to.items → marks i ≡ false
      → (length to.items ≤ length moved.items) × IsWithin first (length moved.items)
  come_behind from later to moved i child first reads comes old w marks room f short bare =
      let next = laying_siblings w from.nodes.items marks i to.items _ f.laying short bare in
      let v = next.siblings in
      let top = next_top w from.nodes.items i to.items f.laying.mix next child reads in
      let n = length to.items in
      let long : length moved.items ≡ n + length (tops v) = ap length (comes.laid v top) ∙ length-append to.items (laid n v) ∙ ap (λ k. n + k) (length-laid n v) in
      (omega (arith, long), first_within n v first (length moved.items) (comes.first v top) long)

  -- once the siblings below a node came, and it has the number of the first, it has its mark
  pub filling_turns : (from later : NodeArena V) (to moved final : Nodes V) (i : ℕ)
      (child first : Option ℕ) → ReadsNode to i (λ n. child ≡ n.child)
      → Comes from later child first to moved → Changes moved final i (λ n. record n { child = first })
      → KeepsRoom moved final → (old : NodeArena V) (w : Plan V) (marks marked : ℕ → Bool) (room : ℕ)
      → Filling old w from marks room to → i < length to.items → marks i ≡ false
      → Turns marks marked i (length to.items) → Filling old w later marked room final
  filling_turns from later to moved final i child first reads comes put kept old w marks marked room f short bare turns =
      let next = laying_siblings w from.nodes.items marks i to.items _ f.laying short bare in
      let top = next_top w from.nodes.items i to.items f.laying.mix next child reads in
      filling_next old w from later marks marked room i to final f short turns next
      (comes.taken next.siblings top) moved.items (comes.laid next.siblings top) first
      (comes.first next.siblings top) put.0 put.1 put.2
      (omega (arith, comes.room next.siblings top, kept.room_is))

  -- marks at numbers past the nodes say nothing
  pub laying_same : (p : Plan V) (from : List (Node V)) (marks later : ℕ → Bool)
      (to : List (Node V)) (root : Option ℕ) → Laying p from marks to root
      → ((at : ℕ) → at < length to → later at ≡ marks at) → Laying p from later to root
  laying_same p from marks later to root l same = record {
    mix = l.mix;
    siblings_are = l.siblings_are;
    size_is = l.size_is;
    root_is = l.root_is;
    lies = l.lies;
    moved = moved-same marks later l.mix (λ at some. same at (news_short p from marks to root l at some)) l.moved;
    news_once = l.news_once;
    olds_once = l.olds_once;
    sized = l.sized;
  }

  pub filling_same : (old : NodeArena V) (w : Plan V) (now : NodeArena V) (marks later : ℕ → Bool)
      (room : ℕ) (to : Nodes V) → Filling old w now marks room to
      → ((at : ℕ) → at < length to.items → later at ≡ marks at) → Filling old w now later room to
  unfolding laying_same
  filling_same old w now marks later room to f same = record {
    laying = laying_same w now.nodes.items marks later to.items (head (numbered_siblings 0 w)) f.laying same;
    emptied = f.emptied;
    bytes_taken = f.bytes_taken;
  }

  -- and at the end they are sound, and what is below the siblings was taken
  pub filling_done :
      (old : NodeArena V) (w : Plan V) (now : NodeArena V) (marks : ℕ → Bool) (room : ℕ)
      (to : Nodes V) → Filling old w now marks room to
      → ((at : ℕ) → at < length to.items → marks at ≡ true)
      → ((q : Plan V) × IsSound to.items (head (numbered_siblings 0 w)) None q [] × (siblings_in q ≡ siblings_in w) × (size q ≡ size w)) × TakesBelow old now w
  filling_done old w now marks room to f all =
      let l = f.laying in
      let e = f.emptied in
      let done = lies_done now.nodes.items to.items marks l.mix l.lies l.moved all in (
        laying_done w now.nodes.items marks to.items (head (numbered_siblings 0 w)) l all,
        takes_same old now e.counts (λ at. count_below w at) e.number (size_below w)
            (λ at. omega (arith, e.split at, done.3 at)) (omega (arith, e.sized, done.2)) e.takes,
      )

  -- a plan whose top siblings came to the front of new nodes, and no other node was touched
  pub laid_apart : (from later : List (Node V)) (p : Plan V) (to0 to : List (Node V))
      → LaidOut from p → ((at : ℕ) → count p at ≤ 1)
      → ((at : ℕ) → times (tops p) at ≡ 0 → slice_get later at ≡ slice_get from at) → to0 ≡ []
      → to ≡ to0 ++ laid (length to0) p → IsLaid later to p
  laid_apart from later p to0 to stands once others none comes = record {
    laid_is = rw none at comes;
    below_stands = below-keep from later p (λ at n. others at (omega (arith, count-parts p at, once at))) stands;
    once = λ at. omega (arith, count-parts p at, once at);
  }

  -- the plan that is read, as siblings to move
  pub record Readable (nodes : List (Node V)) (root : Option ℕ) (p : Plan V) : Type 0 where
    pub stands : LaidOut nodes p
    pub once : (at : ℕ) → count p at ≤ 1
    pub top : AreTopSiblings nodes root p
    pub fits : size p ≤ length nodes
    pub room : length (tops p) ≤ length nodes

  -- sound nodes can be read
  pub readable : (nodes : List (Node V)) (root free : Option ℕ) (p : Plan V) (spare : List ℕ)
      → IsSound nodes root free p spare → Readable nodes root (plan_at nodes root)
  readable nodes root free p spare sound =
      let once = counted_once nodes root free p spare sound in
      rw (plan_is nodes root p sound.plan_ok) (record {
        stands = sound.plan_ok.stands;
        once = once;
        top = top_siblings nodes root p sound.plan_ok.stands sound.plan_ok.at_is once;
        fits = sound.plan_ok.fits;
        room = omega (arith, sound.plan_ok.fits, (tops_within p).0);
      })

  -- the siblings that are read are those of the sound plan
  pub same_siblings : (to : List (Node V)) (root free : Option ℕ) (q p : Plan V) (spare : List ℕ)
      → IsSound to root free q spare → siblings_in q ≡ siblings_in p → siblings_in (plan_at to root) ≡ siblings_in p
  same_siblings to root free q p spare sound e = ap (λ (x : Plan V). siblings_in x) (plan_is to root q sound.plan_ok) ∙ e
