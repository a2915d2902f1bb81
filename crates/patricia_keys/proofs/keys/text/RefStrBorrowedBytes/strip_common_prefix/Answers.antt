use Rattle.patricia_keys.specs.TextKind.{IsTextItem}
use Rattle.patricia_keys.proofs.KeyLemmas.{common_by_floor}
use Rattle.patricia_keys.proofs.TextLemmas.{text_floor_boundary}
use Rattle.patricia_keys.proofs.keys.text.RefStrBorrowedBytes.strip_common_prefix.Goals as goal

pub returns : goal.returns
returns c =
    let same = rw c.as_bytes.ensures.value at c.shared_len.ensures in
    let floor = c.floor_char_boundary-n.ensures in
    record {
      count = c.floor_char_boundary-n.result;
      common = common_by_floor IsTextItem c.args.self.now c.args.bytes.now c.shared_len.result
          c.floor_char_boundary-n.result same
          (text_floor_boundary _ _ _ c.utf8.self same.within_first floor.bound floor.boundary
          floor.nearest);
      is = c.range_from.ensures.value;
    }
