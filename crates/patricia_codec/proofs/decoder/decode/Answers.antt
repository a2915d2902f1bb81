use Rattle.std.proofs.Common.{◌++◌, [], ◌∷◌, None, length, refl, sym, arith, ap, subst, ◌∙◌}
use Rattle.std.specs.Option.{option_to_list}
use Rattle.std.specs.Vec.Iter.{into_iter_items, into_iter_len}
use Rattle.patricia_wire.specs.Records.{Record}
use Rattle.patricia_wire.specs.Internal.Readings.{too_few_values, due_behind, IsRead}
use Rattle.patricia_codec.specs.Internal.Placing.{IsPlaced}
use Rattle.patricia_wire.specs.Faults.{IsRefusal}
use Rattle.patricia_codec.proofs.CheckLemmas.{handed_on}
use Rattle.patricia_codec.proofs.DecodeLemmas.{read_all, tree_of_all, decoded, Takes, takes_some}
use Rattle.patricia_codec.proofs.DecodeLemmas.{takes_none, some_left, started}
use Rattle.patricia_codec.proofs.PlacedRecords.{new_placed, can_add_at}
use Rattle.patricia_codec.proofs.DecodeLemmas.{suited, counted, split_on, marks_on, left_on}
use Rattle.patricia_codec.proofs.DecodeLemmas.{fewer_left}
use Rattle.patricia_codec.proofs.FewEntries.{few_values, nodes_count}
use Rattle.patricia_codec.proofs.decoder.decode.Goals as goal
use Rattle.patricia_codec.proofs.decoder.decode.Goals.{then-record, else-record}

pub loop-counts-init : goal.loop-counts-init
loop-counts-init g c = record {
  before = [];
  due = (record { level = 0; after = None }) ∷ [];
  taken = [];
  reading = started g.K.Bytes.item g.W.Width.width _ c.in_ok-reader.reader c.in_ok-reader.ensures.start;
  built = new_placed g.K.Bytes.item _ c.in_ok-builder.ensures;
  split = refl;
  left = c.into_iter-values.ensures.len ∙ c.args.values.ok.0 ∙ ap length (sym c.into_iter-values.ensures.rest);
  marks = refl;
  bytes = refl;
}

pub next-requires : goal.next-requires
next-requires g c =
    let inv = c.loop-counts.invariant in
    record {
      n = _;
      before = inv.before;
      due = inv.due;
      reading = inv.reading;
      counted = counted _ inv.taken _ inv.before c.len.result inv.split inv.marks
          (c.len.ensures ∙ inv.left);
    }

pub returns-in_err-record-clause-first_fault : goal.returns-in_err-record-clause-first_fault
returns-in_err-record-clause-first_fault g c =
    let inv = c.loop-counts.invariant in
    let bytes = ap (λ b. b.now) inv.bytes ∙ c.in_ok-reader.ensures.bytes in
    let count = counted _ inv.taken _ inv.before c.len.result inv.split inv.marks (c.len.ensures ∙ inv.left) in
    let refused = c.in_err-record.ensures.refused _ inv.before inv.due inv.reading count in
    handed_on (λ e. IsRefusal g.K.Bytes.item g.W.Width.width c.args.bytes.now (length c.args.values.items) e)
    c.from_residual-in_err-record.result c.in_err-record.field-0.0
    c.from_residual-in_err-record.ensures.1
    (subst (λ b. IsRefusal g.K.Bytes.item g.W.Width.width b (length c.args.values.items) c.in_err-record.field-0.0) bytes
    (subst (λ l. IsRefusal g.K.Bytes.item g.W.Width.width c.loop-counts.reader.bytes.now (length l) c.in_err-record.field-0.0) c.into_iter-values.ensures.rest refused))

pub add-requires : goal.add-requires
add-requires g c =
    let inv = c.loop-counts.invariant in
    let count = counted _ inv.taken _ inv.before c.len.result inv.split inv.marks (c.len.ensures ∙ inv.left) in
    let goes = rw c.in-Some.is at c.in_ok-record.ensures.ok in
    let on = goes.reading _ inv.before inv.due inv.reading count in
    can_add_at g.K.Bytes.item c.loop-counts.builder inv.before on.0 on.1 inv.taken
    (subst (λ l. IsPlaced g.K.Bytes.item c.loop-counts.builder inv.before l inv.taken) on.2
    inv.built)

pub loop-counts-preserved : goal.loop-counts-preserved
loop-counts-preserved g c =
    let inv = c.loop-counts.invariant in
    let count = counted _ inv.taken _ inv.before c.len.result inv.split inv.marks (c.len.ensures ∙ inv.left) in
    let goes = rw c.in-Some.is at c.in_ok-record.ensures.ok in
    let on = goes.reading _ inv.before inv.due inv.reading count in
    let r : Record = c.in-Some.record in
    let mark = ap (λ (k : Record). k.value) c.record.view_is in
    let takes : Takes r.value c.if-record.value (into_iter_items c.loop-counts.values)
    (into_iter_items c.if-record.values) (into_iter_len c.loop-counts.values)
    (into_iter_len c.if-record.values) = elim c.if-record.branch [
      | then-record w ↦ (
          let set = sym mark ∙ w.if-record.true in
          rw (w.value-is, w.values-is)
          (takes_some r.value set w.next-value.result _ _ _ _
          (w.next-value.ensures.variant.1
          (some_left c.len.result (into_iter_len c.loop-counts.values) c.len.ensures
          (λ none. on.3.rules too_few_values (set, none)))) w.next-value.ensures.items
          w.next-value.ensures.len)
          )
      | else-record w ↦ rw (w.value-is, w.values-is) (takes_none r.value (sym mark ∙ w.if-record.false) _ _)
    ] in
    record {
      before = inv.before ++ (r ∷ []);
      due = due_behind r ++ on.1;
      taken = inv.taken ++ option_to_list c.if-record.value;
      reading = on.4;
      built = c.in_ok-add.ensures inv.before on.0 on.1 inv.taken
          (subst (λ l. IsPlaced g.K.Bytes.item c.loop-counts.builder inv.before l inv.taken) on.2
          inv.built)
          (suited g.K.Bytes.item _ c.len.result inv.before on.0 on.1 r
          (subst (IsRead g.K.Bytes.item _ inv.before) on.2 inv.reading.read) on.3 goes.fits)
          takes.is;
      split = split_on _ inv.taken _ _ c.if-record.value inv.split takes.items;
      left = left_on _ _ c.if-record.value _ _ takes.items takes.len inv.left;
      marks = marks_on inv.taken c.if-record.value inv.before r inv.marks takes.is;
      bytes = c.in_ok-record.ensures.bytes ∙ inv.bytes;
    }

pub finish-requires : goal.finish-requires
finish-requires g c =
    let inv = c.loop-counts.invariant in
    let ends = rw c.in_default.is at c.in_ok-record.ensures.ok in
    let reading = read_all g.K.Bytes.item g.W.Width.width c.loop-counts.builder _ _ _ inv.before inv.due inv.taken inv.reading inv.built ends in
    record {
      n = _;
      before = inv.before;
      due = [];
      reading = reading;
      counted = counted _ inv.taken _ inv.before c.len-2.result inv.split inv.marks
          (c.len-2.ensures ∙ inv.left);
    }

pub returns-in_err-finish-clause-first_fault : goal.returns-in_err-finish-clause-first_fault
returns-in_err-finish-clause-first_fault g c =
    let inv = c.loop-counts.invariant in
    let ends = rw c.in_default.is at c.in_ok-record.ensures.ok in
    let bytes = ap (λ b. b.now) (c.in_ok-record.ensures.bytes ∙ inv.bytes) ∙ c.in_ok-reader.ensures.bytes in
    let count = counted _ inv.taken _ inv.before c.len-2.result inv.split inv.marks (c.len-2.ensures ∙ inv.left) in
    let reading = read_all g.K.Bytes.item g.W.Width.width c.loop-counts.builder _ _ _ inv.before inv.due inv.taken inv.reading inv.built ends in
    let tree = tree_of_all g.K.Bytes.item g.W.Width.width c.loop-counts.builder _ _ _ inv.before inv.due inv.taken inv.reading inv.built ends in
    let refused = c.in_err-finish.ensures.refused _ inv.before tree.0 reading count tree.1 in
    handed_on (λ e. IsRefusal g.K.Bytes.item g.W.Width.width c.args.bytes.now (length c.args.values.items) e)
    c.from_residual-in_err-finish.result c.in_err-finish.field-0.0
    c.from_residual-in_err-finish.ensures.1
    (subst (λ b. IsRefusal g.K.Bytes.item g.W.Width.width b (length c.args.values.items) c.in_err-finish.field-0.0) bytes
    (subst (λ l. IsRefusal g.K.Bytes.item g.W.Width.width c.next.new.self.bytes.now (length l) c.in_err-finish.field-0.0) c.into_iter-values.ensures.rest refused))

pub returns-clause-whole : goal.returns-clause-whole
returns-clause-whole g c =
    let inv = c.loop-counts.invariant in
    let ends = rw c.in_default.is at c.in_ok-record.ensures.ok in
    let bytes = ap (λ b. b.now) (c.in_ok-record.ensures.bytes ∙ inv.bytes) ∙ c.in_ok-reader.ensures.bytes in
    let split = sym c.into_iter-values.ensures.rest ∙ inv.split in
    let chained = c.link_empty-free.ensures in
    let done = decoded g.K.Bytes.item g.W.Width.width c.loop-counts.builder _ _ _ inv.before inv.due inv.taken inv.reading inv.built ends
    g.met.K.Bytes.lawful _ bytes _ _ c.len-2.result split (c.len-2.ensures ∙ inv.left) c.in_ok-finish.ensures.whole
    c.link_empty-free.new.nodes c.link_empty-free.result chained.0 chained.1 chained.2 0 in
    done.whole

pub others-count-requires : goal.others-count-requires
others-count-requires g c =
    let inv = c.loop-counts.invariant in
    let ends = rw c.in_default.is at c.in_ok-record.ensures.ok in
    let bytes = ap (λ b. b.now) (c.in_ok-record.ensures.bytes ∙ inv.bytes) ∙ c.in_ok-reader.ensures.bytes in
    let split = sym c.into_iter-values.ensures.rest ∙ inv.split in
    let chained = c.link_empty-free.ensures in
    let done = decoded g.K.Bytes.item g.W.Width.width c.loop-counts.builder _ _ _ inv.before inv.due inv.taken inv.reading inv.built ends
    g.met.K.Bytes.lawful _ bytes _ _ c.len-2.result split (c.len-2.ensures ∙ inv.left) c.in_ok-finish.ensures.whole
    c.link_empty-free.new.nodes c.link_empty-free.result chained.0 chained.1 chained.2 0 in
    let count = nodes_count g.K.Bytes.item g.W.Width.width _ _ _ _ done in
    omega (arith, count, c.len-given.ensures)

pub returns-clause-tree : goal.returns-clause-tree
returns-clause-tree g c =
    let inv = c.loop-counts.invariant in
    let ends = rw c.in_default.is at c.in_ok-record.ensures.ok in
    let bytes = ap (λ b. b.now) (c.in_ok-record.ensures.bytes ∙ inv.bytes) ∙ c.in_ok-reader.ensures.bytes in
    let split = sym c.into_iter-values.ensures.rest ∙ inv.split in
    let chained = c.link_empty-free.ensures in
    let done = decoded g.K.Bytes.item g.W.Width.width c.loop-counts.builder _ _ _ inv.before inv.due inv.taken inv.reading inv.built ends
    g.met.K.Bytes.lawful _ bytes _ _ c.len-2.result split (c.len-2.ensures ∙ inv.left) c.in_ok-finish.ensures.whole
    c.link_empty-free.new.nodes c.link_empty-free.result chained.0 chained.1 chained.2 0 in
    let count = nodes_count g.K.Bytes.item g.W.Width.width _ _ _ _ done in
    let few = few_values g.K.Bytes.item g.W.Width.width _ _ _ done.means in
    record {
      canonical = done.canonical;
      counted = omega (arith, count, c.others-count.ensures, c.len-given.ensures);
      fits = omega (arith, count, few, c.others-count.ensures, c.len-given.ensures);
    }

pub returns-clause-means : goal.returns-clause-means
returns-clause-means g c =
    let inv = c.loop-counts.invariant in
    let ends = rw c.in_default.is at c.in_ok-record.ensures.ok in
    let bytes = ap (λ b. b.now) (c.in_ok-record.ensures.bytes ∙ inv.bytes) ∙ c.in_ok-reader.ensures.bytes in
    let split = sym c.into_iter-values.ensures.rest ∙ inv.split in
    let chained = c.link_empty-free.ensures in
    let done = decoded g.K.Bytes.item g.W.Width.width c.loop-counts.builder _ _ _ inv.before inv.due inv.taken inv.reading inv.built ends
    g.met.K.Bytes.lawful _ bytes _ _ c.len-2.result split (c.len-2.ensures ∙ inv.left) c.in_ok-finish.ensures.whole
    c.link_empty-free.new.nodes c.link_empty-free.result chained.0 chained.1 chained.2 0 in
    done.means

pub loop-counts-smaller : goal.loop-counts-smaller
loop-counts-smaller g c =
    let inv = c.loop-counts.invariant in
    let count = counted _ inv.taken _ inv.before c.len.result inv.split inv.marks (c.len.ensures ∙ inv.left) in
    let goes = rw c.in-Some.is at c.in_ok-record.ensures.ok in
    let on = goes.reading _ inv.before inv.due inv.reading count in
    fewer_left g.K.Bytes.item g.W.Width.width _ c.loop-counts.reader c.next.new.self _ _
    (ap (λ b. b.now) c.in_ok-record.ensures.bytes) goes.further on.4
