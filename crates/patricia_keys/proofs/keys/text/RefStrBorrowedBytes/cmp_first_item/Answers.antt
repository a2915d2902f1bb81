use Rattle.patricia_keys.proofs.TextLemmas.{text_valid}
use Rattle.patricia_keys.proofs.keys.text.RefStrBorrowedBytes.cmp_first_item.Goals as goal

pub first_item-requires : goal.first_item-requires
first_item-requires c = text_valid _ c.as_bytes.ensures.utf8

pub returns : goal.returns
returns c = record {
  first = c.first_item.result.now;
  second = c.first_item-2.result.now;
  first_of = rw c.as_bytes.ensures.value at c.first_item.ensures;
  second_of = c.first_item-2.ensures;
  is = c.cmp.ensures;
}
