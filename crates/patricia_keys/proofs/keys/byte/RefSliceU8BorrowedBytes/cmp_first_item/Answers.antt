use Rattle.patricia_keys.proofs.keys.byte.RefSliceU8BorrowedBytes.cmp_first_item.Goals as goal

pub returns : goal.returns
returns c = record {
  first = c.first_item.result.now;
  second = c.first_item-2.result.now;
  first_of = c.first_item.ensures;
  second_of = c.first_item-2.ensures;
  is = c.cmp.ensures;
}
