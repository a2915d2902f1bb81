use Rattle.std.proofs.Common.{◌≡◌, get_or, subst, arith}
use Rattle.patricia_keys.specs.Keys.{IsValid}
use Rattle.patricia_model.proofs.MeetingLemmas.{before_by_first_byte, passes_taken}
use Rattle.patricia_store.proofs.HeadLemmas.{short_exact}
use Rattle.patricia_nodes.proofs.NodeVecLemmas.{node_there}
use Rattle.patricia_nodes.proofs.SeekLemmas.{byte_is}
use Rattle.patricia_many.proofs.LookupLemmas.{one_byte}
use Rattle.patricia_many.proofs.lookup.compare_head.Goals as goal

pub returns-then-first-other : goal.returns-then-first-other
returns-then-first-other g c n reads =
    let byte = byte_is _ g.met.Q.Owned.Bytes.lawful n.label (c.requires.valid n reads) (c.requires.nonempty n reads) in
    before_by_first_byte _ g.met.Q.Owned.Bytes.lawful _ _ c.requires.key_valid (c.requires.valid n reads)
    c.requires.key_filled (c.requires.nonempty n reads)
    (rw (c.requires.first, c.first_byte-other.ensures n reads, byte) at c.if-first-other.true)

pub returns-then-other-first : goal.returns-then-other-first
returns-then-other-first g c n reads =
    let byte = byte_is _ g.met.Q.Owned.Bytes.lawful n.label (c.requires.valid n reads) (c.requires.nonempty n reads) in
    before_by_first_byte _ g.met.Q.Owned.Bytes.lawful _ _ (c.requires.valid n reads) c.requires.key_valid
    (c.requires.nonempty n reads) c.requires.key_filled
    (rw (c.requires.first, c.first_byte-other.ensures n reads, byte) at c.if-other-first.true)

pub strip_n_prefix-requires-clause-valid : goal.strip_n_prefix-requires-clause-valid
strip_n_prefix-requires-clause-valid g c =
    let there = node_there c.args.arena.now.nodes.items c.args.id c.requires.within in
    let n = there.0 in
    let byte = byte_is _ g.met.Q.Owned.Bytes.lawful n.label (c.requires.valid n there.1) (c.requires.nonempty n there.1) in
    let long = short_exact n.label _ (c.short_len-len.ensures n there.1) (omega arith) in
    let same : get_or n.label 0 0 ≡ get_or (g.Q.BorrowedBytes.key c.args.key) 0 0 = omega (arith, byte, c.first_byte-other.ensures n there.1, c.requires.first) in
    subst (IsValid g.Q.Owned.Bytes.item) (one_byte n.label (g.Q.BorrowedBytes.key c.args.key) (omega (arith, long)) c.requires.key_filled same)
    (c.requires.valid n there.1)

pub returns-then-len-eq1 : goal.returns-then-len-eq1
returns-then-len-eq1 g c n reads =
    let byte = byte_is _ g.met.Q.Owned.Bytes.lawful n.label (c.requires.valid n reads) (c.requires.nonempty n reads) in
    let long = short_exact n.label _ (c.short_len-len.ensures n reads) (omega arith) in
    let same : get_or n.label 0 0 ≡ get_or (g.Q.BorrowedBytes.key c.args.key) 0 0 = omega (arith, byte, c.first_byte-other.ensures n reads, c.requires.first) in
    rw c.strip_n_prefix.ensures
    (passes_taken _ (g.Q.BorrowedBytes.key c.args.key) n.label 1 (c.requires.valid n reads) (c.requires.nonempty n reads)
    (one_byte n.label (g.Q.BorrowedBytes.key c.args.key) (omega (arith, long)) c.requires.key_filled same))
