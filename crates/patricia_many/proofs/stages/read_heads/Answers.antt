use Rattle.std.proofs.Common.{◌∙◌, length-set, false, refl, arith}
use Rattle.std.proofs.lemmas.List.{length-map}
use Rattle.patricia_many.specs.Internal.Lookups.{IsLookup}
use Rattle.patricia_many.proofs.AheadLemmas.{other_fields}
use Rattle.patricia_many.proofs.LookupLemmas.{within_at}
use Rattle.patricia_many.proofs.StageLemmas.{some_looks_up, one_changes}
use Rattle.patricia_many.proofs.stages.read_heads.Goals as goal
use Rattle.patricia_many.proofs.stages.read_heads.Goals.{then-k-keys, else-k-keys}

pub read_head-requires : goal.read_head-requires
read_head-requires g c =
    let is = some_looks_up (IsLookup g.Q.Owned.Bytes.item c.args.arena.now false) _ c.loop-i.lookups (c.loop-i.invariant.0 false c.requires.keys)
    _ c.index-lookups-k.result (omega (arith, c.if-k-keys.true, c.loop-i.invariant.1, c.requires.as_many))
    (omega (arith, c.if-k-keys.true, length-map c.args.keys.now g.Q.BorrowedBytes.key)) in
    within_at g.Q.Owned.Bytes.item g.met.Q.Owned.Bytes.lawful c.args.arena.now c.requires.whole c.requires.siblings _ _ _ _ is.0

pub loop-i-preserved : goal.loop-i-preserved
loop-i-preserved g c = elim c.if-k-keys.branch [
  | then-k-keys w ↦ rw w.lookups-is (
    (λ by_prefix are.
        one_changes (IsLookup g.Q.Owned.Bytes.item c.args.arena.now by_prefix) _ c.loop-i.lookups (c.loop-i.invariant.0 by_prefix are)
        _ w.index-lookups-k.result (omega (arith, w.if-k-keys.true, c.loop-i.invariant.1, c.requires.as_many)) _
        (λ key is. rw w.read_head.ensures (other_fields g.Q.Owned.Bytes.item c.args.arena.now by_prefix key _ _ refl refl refl refl refl is))),
    length-set c.loop-i.lookups _ _ ∙ c.loop-i.invariant.1,
  )
  | else-k-keys w ↦ rw w.lookups-is c.loop-i.invariant
]
