use Rattle.std.proofs.Common.{arith, ap, length}
use Rattle.patricia_nodes.specs.Internal.Growth.{tops}
use Rattle.patricia_nodes.proofs.OrderLemmas.{children, size-children, listed_length, root_siblings}
use Rattle.patricia_nodes.proofs.OrderLemmas.{free_siblings, root_waits, lists_all}
use Rattle.patricia_nodes.proofs.arena.NodeArena.depth_first_order.Goals as goal

pub list_siblings-requires-clause-siblings : goal.list_siblings-requires-clause-siblings
list_siblings-requires-clause-siblings g c =
    let plan = c.requires.whole.0 in
    let sound = c.requires.whole.1.1 in
    let order = c.in_ok-order.ensures in (
      tops plan,
      root_siblings _ _ _ plan _ sound,
      omega (arith, size-children plan, sound.total, order.len, order.capacity, c.len-len.ensures),
    )

pub list_below-requires-clause-waits : goal.list_below-requires-clause-waits
list_below-requires-clause-waits g c =
    let plan = c.requires.whole.0 in
    let sound = c.requires.whole.1.1 in
    let order = c.in_ok-order.ensures in
    let top = rw order.items at c.list_siblings.ensures.listed (tops plan) (root_siblings _ _ _ plan _ sound) in (
      children plan,
      root_waits _ _ _ plan _ sound _ top,
      omega (
        arith,
        ap length top,
        size-children plan,
        sound.total,
        order.capacity,
        c.list_siblings.ensures.capacity,
        c.len-len.ensures,
      ),
    )

pub list_siblings-requires-2-clause-siblings : goal.list_siblings-requires-2-clause-siblings
list_siblings-requires-2-clause-siblings g c =
    let plan = c.requires.whole.0 in
    let spare = c.requires.whole.1.0 in
    let sound = c.requires.whole.1.1 in
    let order = c.in_ok-order.ensures in
    let top = rw order.items at c.list_siblings.ensures.listed (tops plan) (root_siblings _ _ _ plan _ sound) in
    let below = c.list_below.ensures.listed (children plan) (root_waits _ _ _ plan _ sound _ top) in
    let long = listed_length _ _ _ below in (
      spare,
      free_siblings _ _ _ _ spare sound,
      omega (
        arith,
        ap length top,
        long,
        size-children plan,
        sound.total,
        order.capacity,
        c.list_siblings.ensures.capacity,
        c.list_below.ensures.capacity,
        c.len-len.ensures,
      ),
    )

pub returns : goal.returns
returns g c = record {
  lists = λ plan spare sound.
      let order = c.in_ok-order.ensures in
      let top = rw order.items at c.list_siblings.ensures.listed (tops plan) (root_siblings _ _ _ plan _ sound) in
      let below = c.list_below.ensures.listed (children plan) (root_waits _ _ _ plan _ sound _ top) in
      lists_all plan spare _ _ _ _ top below (omega (arith, c.len-used.ensures))
      (c.list_siblings-2.ensures.listed spare (free_siblings _ _ _ _ spare sound));
  few = omega (arith, c.len-len.ensures);
}
