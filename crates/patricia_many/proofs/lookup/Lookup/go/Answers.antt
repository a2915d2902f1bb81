use Rattle.std.proofs.Common.{refl, sym, ◌∙◌, arith}
use Rattle.patricia_many.proofs.LookupLemmas.{stands, stands_at, at_inside, at_front, at_within, at_valid, at_labelled, at_filled, run_ends, run_passes}
use Rattle.patricia_many.proofs.AheadLemmas.{passes_on}
use Rattle.patricia_many.proofs.lookup.Lookup.go.Goals as goal

pub rest-left-requires-clause-within : goal.rest-left-requires-clause-within
rest-left-requires-clause-within g c =
    let here = stands g.Q.Owned.Bytes.item g.met.Q.Owned.Bytes.lawful c.args.arena.now c.requires.whole c.requires.siblings
    (g.Q.BorrowedBytes.key c.args.key) _ _ _ _ (sym c.get.ensures ∙ c.in-Some.is) c.requires.key.0 in
    omega (arith, at_inside here _ refl)

pub rest-left-requires-clause-valid : goal.rest-left-requires-clause-valid
rest-left-requires-clause-valid g c =
    let here = stands g.Q.Owned.Bytes.item g.met.Q.Owned.Bytes.lawful c.args.arena.now c.requires.whole c.requires.siblings
    (g.Q.BorrowedBytes.key c.args.key) _ _ _ _ (sym c.get.ensures ∙ c.in-Some.is) c.requires.key.0 in
    at_front here _ refl

pub past_siblings-id-requires : goal.past_siblings-id-requires
past_siblings-id-requires g c to run =
    let here = stands g.Q.Owned.Bytes.item g.met.Q.Owned.Bytes.lawful c.args.arena.now c.requires.whole c.requires.siblings
    (g.Q.BorrowedBytes.key c.args.key) _ _ _ _ (sym c.get.ensures ∙ c.in-Some.is) c.requires.key.0 in
    run_ends here (rw c.rest-left.ensures at c.as_bytes.ensures.valid) to (rw (c.as_bytes.ensures.value, c.rest-left.ensures) at run)

pub step-requires-clause-key : goal.step-requires-clause-key
step-requires-clause-key g c =
    passes_on g.Q.Owned.Bytes.item g.met.Q.Owned.Bytes.lawful c.args.arena.now c.requires.whole c.requires.siblings c.args.by_prefix
    (g.Q.BorrowedBytes.key c.args.key) c.args.self.now c.in-Some.from c.past_siblings-id.result (sym c.get.ensures ∙ c.in-Some.is)
    (rw c.rest-left.ensures at c.as_bytes.ensures.valid) c.requires.key (rw (c.as_bytes.ensures.value, c.rest-left.ensures) at c.past_siblings-id.ensures)

pub some-self-requires : goal.some-self-requires
some-self-requires g c =
    let here = stands g.Q.Owned.Bytes.item g.met.Q.Owned.Bytes.lawful c.args.arena.now c.requires.whole c.requires.siblings
    (g.Q.BorrowedBytes.key c.args.key) _ _ _ _ (sym c.get.ensures ∙ c.in-Some.is) c.requires.key.0 in
    let run = rw (c.as_bytes.ensures.value, c.rest-left.ensures) at c.past_siblings-id.ensures in
    let valid = rw c.rest-left.ensures at c.as_bytes.ensures.valid in
    omega (arith, run_ends here valid _ run, c.len-few.ensures.value, c.len-few.ensures.few)

pub returns-in-None : goal.returns-in-None
returns-in-None g c =
    rw c.some-self.ensures (passes_on g.Q.Owned.Bytes.item g.met.Q.Owned.Bytes.lawful c.args.arena.now c.requires.whole c.requires.siblings c.args.by_prefix
    (g.Q.BorrowedBytes.key c.args.key) c.args.self.now c.in-Some.from c.past_siblings-id.result (sym c.get.ensures ∙ c.in-Some.is)
    (rw c.rest-left.ensures at c.as_bytes.ensures.valid) c.requires.key (rw (c.as_bytes.ensures.value, c.rest-left.ensures) at c.past_siblings-id.ensures))

pub compare_head-requires-clause-within : goal.compare_head-requires-clause-within
compare_head-requires-clause-within g c =
    let here = stands g.Q.Owned.Bytes.item g.met.Q.Owned.Bytes.lawful c.args.arena.now c.requires.whole c.requires.siblings
    (g.Q.BorrowedBytes.key c.args.key) _ _ _ _ (sym c.get.ensures ∙ c.in-Some.is) c.requires.key.0 in
    let run = rw (c.as_bytes.ensures.value, c.rest-left.ensures) at c.past_siblings-id.ensures in
    let valid = rw c.rest-left.ensures at c.as_bytes.ensures.valid in
    let there = stands_at g.Q.Owned.Bytes.item g.met.Q.Owned.Bytes.lawful c.args.arena.now c.requires.whole c.requires.siblings
    (g.Q.BorrowedBytes.key c.args.key) c.args.self.now.passed c.past_siblings-id.result (run_passes here valid _ run) in
    at_within there

pub compare_head-requires-clause-valid : goal.compare_head-requires-clause-valid
compare_head-requires-clause-valid g c n reads =
    let here = stands g.Q.Owned.Bytes.item g.met.Q.Owned.Bytes.lawful c.args.arena.now c.requires.whole c.requires.siblings
    (g.Q.BorrowedBytes.key c.args.key) _ _ _ _ (sym c.get.ensures ∙ c.in-Some.is) c.requires.key.0 in
    let run = rw (c.as_bytes.ensures.value, c.rest-left.ensures) at c.past_siblings-id.ensures in
    let valid = rw c.rest-left.ensures at c.as_bytes.ensures.valid in
    let there = stands_at g.Q.Owned.Bytes.item g.met.Q.Owned.Bytes.lawful c.args.arena.now c.requires.whole c.requires.siblings
    (g.Q.BorrowedBytes.key c.args.key) c.args.self.now.passed c.past_siblings-id.result (run_passes here valid _ run) in
    at_valid there reads

pub compare_head-requires-clause-nonempty : goal.compare_head-requires-clause-nonempty
compare_head-requires-clause-nonempty g c n reads =
    let here = stands g.Q.Owned.Bytes.item g.met.Q.Owned.Bytes.lawful c.args.arena.now c.requires.whole c.requires.siblings
    (g.Q.BorrowedBytes.key c.args.key) _ _ _ _ (sym c.get.ensures ∙ c.in-Some.is) c.requires.key.0 in
    let run = rw (c.as_bytes.ensures.value, c.rest-left.ensures) at c.past_siblings-id.ensures in
    let valid = rw c.rest-left.ensures at c.as_bytes.ensures.valid in
    let there = stands_at g.Q.Owned.Bytes.item g.met.Q.Owned.Bytes.lawful c.args.arena.now c.requires.whole c.requires.siblings
    (g.Q.BorrowedBytes.key c.args.key) c.args.self.now.passed c.past_siblings-id.result (run_passes here valid _ run) in
    at_labelled there reads

pub compare_head-requires-clause-key_filled : goal.compare_head-requires-clause-key_filled
compare_head-requires-clause-key_filled g c =
    let here = stands g.Q.Owned.Bytes.item g.met.Q.Owned.Bytes.lawful c.args.arena.now c.requires.whole c.requires.siblings
    (g.Q.BorrowedBytes.key c.args.key) _ _ _ _ (sym c.get.ensures ∙ c.in-Some.is) c.requires.key.0 in
    rw c.rest-left.ensures (at_filled here)

pub step-requires-clause-met : goal.step-requires-clause-met
step-requires-clause-met g c n reads = rw c.rest-left.ensures at c.in-Some-compare_head.ensures n reads
