use Rattle.std.proofs.Common.{subst}
use Rattle.patricia_keys.specs.Keys.{IsValid}
use Rattle.patricia_model.proofs.MeetingLemmas.{before_by_first_byte, passes_taken}
use Rattle.patricia_nodes.proofs.NodeVecLemmas.{node_there}
use Rattle.patricia_nodes.proofs.SeekLemmas.{byte_is}
use Rattle.patricia_nodes.proofs.arena.NodeArena.compare.Goals as goal

pub returns-then-first-other : goal.returns-then-first-other
returns-then-first-other g c n reads =
    let byte = byte_is _ g.met.Q.Owned.Bytes.lawful n.label (c.requires.valid n reads) (c.requires.nonempty n reads) in
    before_by_first_byte _ g.met.Q.Owned.Bytes.lawful _ _ c.as_bytes-bytes.ensures.valid (c.requires.valid n reads)
    c.requires.key_filled (c.requires.nonempty n reads)
    (rw (c.as_bytes-bytes.ensures.value, c.first_byte-other.ensures n reads, byte) at c.if-first-other.true)

pub returns-then-other-first : goal.returns-then-other-first
returns-then-other-first g c n reads =
    let byte = byte_is _ g.met.Q.Owned.Bytes.lawful n.label (c.requires.valid n reads) (c.requires.nonempty n reads) in
    before_by_first_byte _ g.met.Q.Owned.Bytes.lawful _ _ (c.requires.valid n reads) c.as_bytes-bytes.ensures.valid
    (c.requires.nonempty n reads) c.requires.key_filled
    (rw (c.as_bytes-bytes.ensures.value, c.first_byte-other.ensures n reads, byte) at c.if-other-first.true)

pub passed_len-requires-clause-bytes : goal.passed_len-requires-clause-bytes
passed_len-requires-clause-bytes g c n reads =
    byte_is _ g.met.Q.Owned.Bytes.lawful n.label (c.requires.valid n reads) (c.requires.nonempty n reads)

pub strip_n_prefix-requires-clause-valid : goal.strip_n_prefix-requires-clause-valid
strip_n_prefix-requires-clause-valid g c =
    let there = node_there c.args.self.now.nodes.items c.args.id c.requires.within in
    let is = c.in-Some.ensures.1 there.0 there.1 in
    subst (IsValid g.Q.Owned.Bytes.item) (rw c.as_bytes-bytes.ensures.value at is) (c.requires.valid there.0 there.1)

pub compare_label-requires-clause-valid : goal.compare_label-requires-clause-valid
compare_label-requires-clause-valid g c =
    let there = node_there c.args.self.now.nodes.items c.args.id c.requires.within in
    rw (c.label.ensures there.0 there.1) (c.requires.valid there.0 there.1)

pub compare_label-requires-clause-nonempty : goal.compare_label-requires-clause-nonempty
compare_label-requires-clause-nonempty g c =
    let there = node_there c.args.self.now.nodes.items c.args.id c.requires.within in
    rw (c.label.ensures there.0 there.1) (c.requires.nonempty there.0 there.1)

pub returns-in-Some : goal.returns-in-Some
returns-in-Some g c n reads =
    rw c.strip_n_prefix.ensures
    (passes_taken _ (g.Q.BorrowedBytes.key c.args.key) n.label c.in-Some.len (c.requires.valid n reads)
    (c.requires.nonempty n reads) (rw c.as_bytes-bytes.ensures.value at c.in-Some.ensures.1 n reads))
