use Rattle.test_loans.proofs.encodings.encode_both.Goals as goal

pub returns : goal.returns
returns g c = c.tree_bytes_are_keys.ensures.equal 2 _ _ _ _ c.in_ok-bytes.ensures.ok c.in_ok-tree_bytes.ensures.ok
