-- Numbers of nodes that are listed.
use Rattle.std.proofs.Common.{◌≡◌, ℕ, suc, ◌+◌, ◌<◌, ◌≤◌, List, [], ◌∷◌, ◌++◌, length, Option, Some}
use Rattle.std.proofs.Common.{None, slice_get, get_or, take, drop, refl, sym, ap, ◌∙◌, arith}
use Rattle.std.proofs.Common.{length-append, drop-cons, add-one}
use Rattle.std.proofs.Math.Seq.{take-length, drop-append_seam}
use Rattle.std.proofs.Math.ListN.{drop_of_length-le}
use Rattle.std.proofs.lemmas.List.{append_assoc, append-nil, drop-append-le, take-append-le}
use Rattle.std.proofs.lemmas.List.{length-take, length-take-le, get_or-take}
use Rattle.std.proofs.lemmas.Option.{slice_get_within, get_or_from_slice_get}
use Rattle.patricia_store.specs.Internal.Nodes.{Node}
use Rattle.patricia_nodes.specs.Internal.Plans.{Plan, Nil, Cell, head, size, count, times, first}
use Rattle.patricia_nodes.specs.Internal.Plans.{LaidOut, IsChain, IsSound, linked}
use Rattle.patricia_nodes.specs.Internal.Growth.{tops}
use Rattle.patricia_nodes.specs.Internal.Order.{Lists, AreSiblings, counts, sizes, HasBelow, Waits}
use Rattle.patricia_nodes.specs.Internal.Order.{ListsBelow}

-- a number stands in two lists as often as in one and in the other
pub times-append : (xs ys : List ℕ) (at : ℕ) → times (xs ++ ys) at ≡ times xs at + times ys at
times-append [] ys at = omega arith
times-append (x ∷ xs) ys at = omega (arith, times-append xs ys at)

-- what waits on a level that was listed to its end
level_waits : (now siblings longer : List ℕ) (i end later : ℕ) → i ≤ end → end ≡ length now
    → longer ≡ now ++ siblings → later ≡ length longer
    → drop i (take later longer) ≡ drop i (take end now) ++ siblings
level_waits now siblings longer i end later on e is l =
    rw (l, take-length longer, is, e, take-length now) (drop-append-le i now siblings (omega arith))

-- what is listed behind the last that waits does not wait
deep_waits : (now more longest : List ℕ) (i end : ℕ) → end ≤ length now → longest ≡ now ++ more
    → drop i (take end longest) ≡ drop i (take end now)
deep_waits now more longest i end within is =
    ap (drop i) (ap (take end) is ∙ take-append-le end now more within)

-- the next number, and those behind it
drop_next : (xs : List ℕ) (i id : ℕ) → i < length xs → id ≡ get_or xs i id
    → drop i xs ≡ id ∷ drop (i + 1) xs
drop_next xs i id inside reads =
    rw add-one (drop-cons xs i id inside ∙ ap (λ k. k ∷ drop (suc i) xs) (sym reads))

module _ {V : Type 0} where
  -- the plans below the nodes of the top siblings
  abbrev pub children : Plan V → List (Plan V)
  children Nil = []
  children (Cell id l v c d) = c ∷ children d

  -- a plan is its top siblings and what is below each of its nodes
  pub count-children : (w : Plan V) (at : ℕ) → times (tops w) at + counts (children w) at ≡ count w at
  count-children Nil at = refl
  count-children (Cell id l v c d) at = omega (arith, count-children d at)

  -- so it has as many nodes as both
  pub size-children : (w : Plan V) → length (tops w) + sizes (children w) ≡ size w
  size-children Nil = refl
  size-children (Cell id l v c d) = omega (arith, size-children d)

  -- a number stands in the plans of two lists as often as in those of one and of the other
  counts-append : (cs ds : List (Plan V)) (at : ℕ) → counts (cs ++ ds) at ≡ counts cs at + counts ds at
  counts-append [] ds at = omega arith
  counts-append (c ∷ cs) ds at = omega (arith, counts-append cs ds at)

  -- and they have as many nodes as both
  sizes-append : (cs ds : List (Plan V)) → sizes (cs ++ ds) ≡ sizes cs + sizes ds
  sizes-append [] ds = omega arith
  sizes-append (c ∷ cs) ds = omega (arith, sizes-append cs ds)

  -- the top siblings begin with the first node
  first-tops : (w : Plan V) → head w ≡ first (tops w)
  first-tops Nil = refl
  first-tops (Cell id l v c d) = refl

  -- the nodes of the top siblings are linked
  tops_chain : (nodes : List (Node V)) (w : Plan V) → LaidOut nodes w → IsChain nodes (tops w)
  tops_chain nodes Nil s = tt
  tops_chain nodes (Cell id l v c d) s =
      ((linked l v (head c) (head d), s.0, first-tops d), tops_chain nodes d s.2)

  -- a plan that is laid out begins with siblings
  pub tops_siblings : (nodes : List (Node V)) (at : Option ℕ) (w : Plan V) → LaidOut nodes w → at ≡ head w
      → AreSiblings nodes at (tops w)
  tops_siblings nodes at w s e = record { chain = tops_chain nodes w s; at_is = e ∙ first-tops w }

  -- each of its top siblings has a plan below it
  pub children_wait : (nodes : List (Node V)) (w : Plan V) → LaidOut nodes w
      → Waits nodes (tops w) (children w)
  children_wait nodes Nil s = tt
  children_wait nodes (Cell id l v c d) s = (
    record { holder = linked l v (head c) (head d); there = s.0; child_is = refl; stands = s.1 },
    children_wait nodes d s.2,
  )

  -- the nodes of two lists wait together
  waits-append : (nodes : List (Node V)) (ids more : List ℕ) (cs ds : List (Plan V))
      → Waits nodes ids cs → Waits nodes more ds → Waits nodes (ids ++ more) (cs ++ ds)
  waits-append nodes [] more [] ds w z = z
  waits-append nodes [] more (c ∷ cs) ds w z = absurd w
  waits-append nodes (id ∷ ids) more [] ds w z = absurd w
  waits-append nodes (id ∷ ids) more (c ∷ cs) ds w z = (w.0, waits-append nodes ids more cs ds w.1 z)

  -- the siblings that are not listed yet
  pub record SiblingsLeft (nodes : List (Node V)) (at : Option ℕ) (ids before now : List ℕ) : Type 0 where
    pub rest : List ℕ
    pub siblings : AreSiblings nodes at rest
    pub order_is : now ++ rest ≡ before ++ ids

  -- at first they are all
  pub siblings_start : (nodes : List (Node V)) (at : Option ℕ) (ids before : List ℕ) → AreSiblings nodes at ids
      → SiblingsLeft nodes at ids before before
  siblings_start nodes at ids before r = record { rest = ids; siblings = r; order_is = refl }

  -- the first of the siblings, and those behind it
  pub record Opens (nodes : List (Node V)) (id : ℕ) (ids : List ℕ) : Type 0 where
    pub rest : List ℕ
    pub ids_are : ids ≡ id ∷ rest
    pub node : Node V
    pub there : slice_get nodes id ≡ Some node
    pub siblings : AreSiblings nodes node.sibling rest

  -- siblings with a first node open
  opens : (nodes : List (Node V)) (id : ℕ) (ids : List ℕ) → AreSiblings nodes (Some id) ids
      → Opens nodes id ids
  opens nodes id [] r = let e = r.at_is in absurd (cc)
  opens nodes id (i ∷ ids) r =
      let same : id ≡ i = let e = r.at_is in cc in
      rw same (record {
        rest = ids;
        ids_are = refl;
        node = r.chain.0.0;
        there = r.chain.0.1;
        siblings = record { chain = r.chain.1; at_is = r.chain.0.2 };
      })

  module _ (nodes : List (Node V)) (id : ℕ) (ids before now : List ℕ)
      (left : SiblingsLeft nodes (Some id) ids before now) where
    -- its number is that of a node
    pub siblings_within : id < length nodes
    siblings_within = let o = opens nodes id left.rest left.siblings in slice_get_within nodes id o.node o.there

    -- there is room for it where there is room for the siblings
    pub siblings_room : (capacity : ℕ) → length before + length ids ≤ capacity → length now < capacity
    siblings_room capacity room =
        let o = opens nodes id left.rest left.siblings in
        omega (
          arith,
          ap length left.order_is,
          length-append now left.rest,
          length-append before ids,
          ap length o.ids_are,
          room,
        )

    -- once it is listed, the next is left
    pub siblings_next : (later : List ℕ) (code : ℕ) → code ≡ id → later ≡ now ++ code ∷ []
        → (next : Option ℕ) → ((n : Node V) → n ≡ get_or nodes id n → next ≡ n.sibling)
        → SiblingsLeft nodes next ids before later
    siblings_next later code same pushed next reads =
        let o = opens nodes id left.rest left.siblings in
        let is = reads o.node (sym (get_or_from_slice_get nodes id o.node o.node o.there)) in
        record {
          rest = o.rest;
          siblings = record { chain = o.siblings.chain; at_is = is ∙ o.siblings.at_is };
          order_is = rw (pushed, same) (append_assoc now (id ∷ []) o.rest ∙ rw (← o.ids_are) left.order_is);
        }

  -- at the end the siblings are listed
  pub siblings_done : (nodes : List (Node V)) (ids before now : List ℕ) → SiblingsLeft nodes None ids before now
      → now ≡ before ++ ids
  siblings_done nodes ids before now left = by left.rest left.siblings.at_is left.order_is
    where
      by : (rest : List ℕ) → None ≡ first rest → now ++ rest ≡ before ++ ids → now ≡ before ++ ids
      by [] e is = sym (append-nil now) ∙ is
      by (i ∷ rest) e is = absurd (cc)

  -- the first node that waits has the first plan below it
  waits_first : (nodes : List (Node V)) (id : ℕ) (ids : List ℕ) (cs : List (Plan V))
      → Waits nodes (id ∷ ids) cs
      → (c : Plan V) × (rest : List (Plan V)) × (cs ≡ c ∷ rest) × HasBelow nodes id c × Waits nodes ids rest
  waits_first nodes id ids [] w = absurd w
  waits_first nodes id ids (c ∷ cs) w = (c, cs, refl, w.0, w.1)

  -- what is listed of some plans, and the nodes that wait for what is below them
  pub record Listing (nodes : List (Node V)) (cs : List (Plan V)) (before now waiting : List ℕ)
      : Type 0 where
    pub more : List ℕ
    pub now_is : now ≡ before ++ more
    pub rest : List (Plan V)
    pub waits : Waits nodes waiting rest
    pub counted : (at : ℕ) → times more at + counts rest at ≡ counts cs at
    pub sized : length more + sizes rest ≡ sizes cs

  -- at first all of them wait
  pub listing_start : (nodes : List (Node V)) (cs : List (Plan V)) (before : List ℕ) (start end : ℕ)
      → end ≡ length before → Waits nodes (drop start before) cs
      → Listing nodes cs before before (drop start (take end before))
  listing_start nodes cs before start end e w = record {
    more = [];
    now_is = sym (append-nil before);
    rest = cs;
    waits = rw (e, take-length before) w;
    counted = λ at. omega arith;
    sized = omega arith;
  }

  -- at the end none waits
  pub listing_done : (nodes : List (Node V)) (cs : List (Plan V)) (before now : List ℕ) (i end : ℕ)
      → end ≤ i → Listing nodes cs before now (drop i (take end now)) → ListsBelow cs before now
  listing_done nodes cs before now i end past l =
      let short : length (take end now) ≤ i = omega (arith, length-take end now) in
      by l.rest (rw (drop_of_length-le (take end now) short) at l.waits) l.counted l.sized
    where
      by : (rest : List (Plan V)) → Waits nodes [] rest
          → ((at : ℕ) → times l.more at + counts rest at ≡ counts cs at)
          → length l.more + sizes rest ≡ sizes cs → ListsBelow cs before now
      by [] w counted sized = record {
        more = l.more;
        longer_is = l.now_is;
        counted = λ at. omega (arith, counted at);
        sized = omega (arith, sized);
      }
      by (c ∷ rest) w counted sized = absurd w

  -- so many numbers are listed then
  pub listed_length : (cs : List (Plan V)) (order longer : List ℕ) → ListsBelow cs order longer
      → length longer ≡ length order + sizes cs
  listed_length cs order longer b = omega (arith, ap length b.longer_is, length-append order b.more, b.sized)

  -- the next node that waits, and the plans of it and of those behind it
  pub record Next (nodes : List (Node V)) (cs : List (Plan V)) (before now waiting : List ℕ) (id : ℕ)
      : Type 0 where
    pub child : Plan V
    pub below : HasBelow nodes id child
    pub more : List ℕ
    pub now_is : now ≡ before ++ more
    pub rest : List (Plan V)
    pub waits : Waits nodes waiting rest
    pub counted : (at : ℕ) → times more at + (count child at + counts rest at) ≡ counts cs at
    pub sized : length more + (size child + sizes rest) ≡ sizes cs

  -- where nodes wait there is a next one
  pub listing_next : (nodes : List (Node V)) (cs : List (Plan V)) (before now : List ℕ) (i end id : ℕ)
      → Listing nodes cs before now (drop i (take end now)) → i < end → end ≤ length now
      → id ≡ get_or now i id → Next nodes cs before now (drop (i + 1) (take end now)) id
  listing_next nodes cs before now i end id l on within reads =
      let inside : i < length (take end now) = omega (arith, length-take-le end now within) in
      let waiting = drop_next (take end now) i id inside (reads ∙ sym (get_or-take end now i id on)) in
      let w = waits_first nodes id _ l.rest (rw waiting at l.waits) in
      record {
        child = w.0;
        below = w.3;
        more = l.more;
        now_is = l.now_is;
        rest = w.1;
        waits = w.4;
        counted = λ at. omega (arith, l.counted at, ap (λ ds. counts ds at) w.2);
        sized = omega (arith, l.sized, ap (λ (ds : List (Plan V)). sizes ds) w.2);
      }

  module _ (nodes : List (Node V)) (cs : List (Plan V)) (before now waiting : List ℕ) (id : ℕ)
      (next : Next nodes cs before now waiting id) where
    -- it is one of the nodes
    pub next_within : id < length nodes
    next_within = slice_get_within nodes id next.below.holder next.below.there

    -- its children are siblings
    pub child_siblings : (child : Option ℕ)
        → ((n : Node V) → n ≡ get_or nodes id n → child ≡ n.child)
        → AreSiblings nodes child (tops next.child)
    child_siblings child reads =
        let holder = next.below.holder in
        tops_siblings nodes child next.child next.below.stands
        (reads holder (sym (get_or_from_slice_get nodes id holder holder next.below.there))
        ∙ next.below.child_is)

    -- behind the others its children wait for what is below them
    pub siblings_wait : (longer : List ℕ) (start : ℕ) → longer ≡ now ++ tops next.child
        → start ≡ length now → Waits nodes (drop start longer) (children next.child)
    siblings_wait longer start is e =
        rw (is, e, drop-append_seam now (tops next.child)) (children_wait nodes next.child next.below.stands)

    -- there is room for all that is below it where there is room for the plans
    pub next_room : (capacity : ℕ) → length before + sizes cs ≤ capacity
        → length now + (length (tops next.child) + sizes (children next.child)) ≤ capacity
    next_room capacity room =
        omega (
          arith,
          ap length next.now_is,
          length-append before next.more,
          next.sized,
          size-children next.child,
          room,
        )

    -- once its children are listed, they wait as the last
    next_level : (longer : List ℕ) → longer ≡ now ++ tops next.child
        → Listing nodes cs before longer (waiting ++ tops next.child)
    next_level longer is = record {
      more = next.more ++ tops next.child;
      now_is = is ∙ ap (λ xs. xs ++ tops next.child) next.now_is
          ∙ append_assoc before next.more (tops next.child);
      rest = next.rest ++ children next.child;
      waits = waits-append nodes waiting (tops next.child) next.rest (children next.child)
          next.waits (children_wait nodes next.child next.below.stands);
      counted = λ at.
          omega (
            arith,
            next.counted at,
            times-append next.more (tops next.child) at,
            counts-append next.rest (children next.child) at,
            count-children next.child at,
          );
      sized = omega (
        arith,
        next.sized,
        length-append next.more (tops next.child),
        sizes-append next.rest (children next.child),
        size-children next.child,
      );
    }

    -- once all that is below it is listed, the others wait
    next_deep : (longer longest : List ℕ) → longer ≡ now ++ tops next.child
        → (below : ListsBelow (children next.child) longer longest)
        → (longest ≡ now ++ (tops next.child ++ below.more)) × Listing nodes cs before longest waiting
    next_deep longer longest is below =
        let all = tops next.child ++ below.more in
        let longest_is : longest ≡ now ++ all = below.longer_is ∙ ap (λ xs. xs ++ below.more) is
        ∙ append_assoc now (tops next.child) below.more in (
          longest_is,
          record {
            more = next.more ++ all;
            now_is = longest_is ∙ ap (λ xs. xs ++ all) next.now_is ∙ append_assoc before next.more all;
            rest = next.rest;
            waits = next.waits;
            counted = λ at.
                omega (
                  arith,
                  next.counted at,
                  times-append next.more all at,
                  times-append (tops next.child) below.more at,
                  below.counted at,
                  count-children next.child at,
                );
            sized = omega (
              arith,
              next.sized,
              length-append next.more all,
              length-append (tops next.child) below.more,
              below.sized,
              size-children next.child,
            );
          },
        )

  module _ (nodes : List (Node V)) (cs : List (Plan V)) (before now : List ℕ) (i end id : ℕ)
      (next : Next nodes cs before now (drop i (take end now)) id) (longer : List ℕ)
      (listed : longer ≡ now ++ tops next.child) where
    -- on the last level its children wait behind the others
    pub listing_level : (later : ℕ) → i ≤ end → end ≡ length now → later ≡ length longer
        → Listing nodes cs before longer (drop i (take later longer))
    listing_level later on e l =
        rw (level_waits now (tops next.child) longer i end later on e listed l)
        (next_level nodes cs before now (drop i (take end now)) id next longer listed)

    -- above it all that is below it is listed, and the others wait
    pub listing_deep : (longest : List ℕ) → end ≤ length now
        → ListsBelow (children next.child) longer longest
        → (end ≤ length longest) × Listing nodes cs before longest (drop i (take end longest))
    listing_deep longest within below =
        let deep = next_deep nodes cs before now (drop i (take end now)) id next longer longest listed below in
        let more = tops next.child ++ below.more in (
          omega (arith, ap length deep.0, length-append now more, within),
          rw (deep_waits now more longest i end within deep.0) deep.1,
        )

  module _ (nodes : List (Node V)) (root free : Option ℕ) (plan : Plan V) (spare : List ℕ)
      (sound : IsSound nodes root free plan spare) where
    -- the nodes from the root on are the top siblings
    pub root_siblings : AreSiblings nodes root (tops plan)
    root_siblings = tops_siblings nodes root plan sound.plan_ok.stands sound.plan_ok.at_is

    -- those from the first free one on are the free ones
    pub free_siblings : AreSiblings nodes free spare
    free_siblings = record { chain = sound.chain; at_is = sound.free_is }

    -- the top siblings wait for what is below them
    pub root_waits : (order : List ℕ) → order ≡ tops plan → Waits nodes order (children plan)
    root_waits order is = rw is (children_wait nodes plan sound.plan_ok.stands)

  -- the top siblings, what is below them, and the free nodes are all
  pub lists_all : (plan : Plan V) (spare top all order : List ℕ) (used : ℕ) → top ≡ tops plan
      → (below : ListsBelow (children plan) top all) → used ≡ length all → order ≡ all ++ spare
      → Lists plan spare order used
  lists_all plan spare top all order used is below e order_is = record {
    first = all;
    order_is = order_is;
    used_is = sym e;
    once = λ at.
        omega (
          arith,
          ap (λ xs. times xs at) below.longer_is,
          times-append top below.more at,
          ap (λ xs. times xs at) is,
          below.counted at,
          count-children plan at,
        );
    sized = omega (arith, e, listed_length (children plan) top all below, ap length is, size-children plan);
  }
