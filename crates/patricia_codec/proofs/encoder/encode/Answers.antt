use Rattle.std.proofs.Common.{◌≡◌, ◌<◌, ◌++◌, [], sym, ap, ◌∙◌, append-nil, append_assoc}
use Rattle.std.proofs.lemmas.List.Elements.{All-nil}
use Rattle.std.specs.Prelude.{◌^◌, is_some, false}
use Rattle.patricia_wire.specs.Records.{Record, canonical_bytes, canonical_bytes_of}
use Rattle.patricia_wire.proofs.Spellings.{positive}
use Rattle.patricia_codec.proofs.EncodeLemmas.{at_start, some_left, at_next, deep_left, all_written}
use Rattle.patricia_codec.proofs.EncodeLemmas.{too_deep, shallow-snoc, spellings-snoc}
use Rattle.patricia_codec.proofs.LeftLemmas.{err_from}
use Rattle.patricia_codec.proofs.encoder.encode.Goals as goal

pub write-requires-clause-level : goal.write-requires-clause-level
write-requires-clause-level g c = positive g.W.Width.width

pub loop-records-init : goal.loop-records-init
loop-records-init g c =
    let at = at_start g.K.Bytes.item g.met.K.Bytes.lawful c.args.arena.now c.new-records.result
    c.requires.whole c.new-records.ensures.start c.new-records.ensures.nodes in
    record {
      some = some_left g.K.Bytes.item g.met.K.Bytes.lawful c.args.arena.now c.new-records.result [] c.requires.siblings at;
      taken = [];
      at = at;
      shallow = All-nil (λ r. r.level < 256 ^ g.W.Width.width);
      written = sym (append-nil _);
    }

pub returns-in_err-record-clause-too_deep : goal.returns-in_err-record-clause-too_deep
returns-in_err-record-clause-too_deep g c deep =
    let inv = c.loop-records.invariant in
    let is = err_from c.next.result c.from_residual-in_err-record.result _ _ c.in_err-record.was c.from_residual-in_err-record.ensures.1 deep in
    too_deep g.K.Bytes.item g.met.K.Bytes.lawful c.args.arena.now c.args.value.now g.W.Width.width c.requires.siblings
    (deep_left g.K.Bytes.item g.met.K.Bytes.lawful c.args.arena.now g.W.Width.width c.loop-records.records
    inv.taken inv.at (c.next.ensures.too_deep is))

pub loop-records-preserved : goal.loop-records-preserved
loop-records-preserved g c =
    let inv = c.loop-records.invariant in
    let r : Record = record {
      level = c.in-Some.record.level;
      label = c.in-Some.record.label;
      value = c.in-Some.record.value;
      child = c.in-Some.record.child;
      sibling = c.in-Some.record.sibling;
    } in
    let taken = rw c.in-Some.is at c.in_ok-record.ensures.ok in
    let at = at_next g.K.Bytes.item g.met.K.Bytes.lawful c.args.arena.now g.W.Width.width c.loop-records.records c.next.new.self inv.taken r inv.at taken in
    let wrote = c.in_ok-write-2.ensures in
    record {
      some = some_left g.K.Bytes.item g.met.K.Bytes.lawful c.args.arena.now c.next.new.self _ c.requires.siblings at;
      taken = _;
      at = at;
      shallow = shallow-snoc g.W.Width.width inv.taken _ inv.shallow taken.shallow;
      written = wrote ∙ ap (λ b. b ++ canonical_bytes g.W.Width.width r) inv.written ∙ append_assoc _
          (canonical_bytes_of g.W.Width.width inv.taken) (canonical_bytes g.W.Width.width r) ∙ ap
          (λ b. c.write.new.out.items ++ b) (sym (spellings-snoc g.W.Width.width inv.taken r));
    }

pub returns-clause-ok : goal.returns-clause-ok
returns-clause-ok g c =
    let inv = c.loop-records.invariant in
    let root : Record = record { level = 0; label = []; value = c.is_some.result; child = c.is_some-2.result; sibling = false } in
    let root_is : root ≡ record { level = 0; label = []; value = is_some c.args.value.now; child = is_some c.args.arena.now.root; sibling = false } =
    λ i. record { level = 0; label = []; value = c.is_some.ensures i; child = (c.is_some-2.ensures ∙ ap is_some c.get.ensures) i; sibling = false } in
    let over = rw c.in_default.is at c.in_ok-record.ensures.ok in
    let wrote = c.in_ok-write.ensures in
    let out = wrote ∙ ap (λ b. b ++ canonical_bytes g.W.Width.width root) c.in_ok-out.ensures.items in
    all_written g.K.Bytes.item g.met.K.Bytes.lawful c.args.arena.now c.args.value.now
    g.W.Width.width c.requires.siblings c.loop-records.records inv.taken c.loop-records.out.items root
    c.requires.whole inv.at over inv.shallow root_is
    (inv.written ∙ ap (λ b. b ++ canonical_bytes_of g.W.Width.width inv.taken) out)
