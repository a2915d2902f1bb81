use Rattle.std.proofs.Common.{◌≡◌, ◌+◌, ◌-◌, ◌≤◌, length, take, drop, sym, ap, ◌∙◌, arith}
use Rattle.patricia_store.specs.Internal.Labels.{label_in, len_in}
use Rattle.patricia_store.proofs.LabelLemmas.{note_less, span_kept, label_kept, part_kept, part_front, part_back}
use Rattle.patricia_store.proofs.labels.Labels.cut.Goals as goal

pub returns-clause-first : goal.returns-clause-first
returns-clause-first c =
    span_kept c.note-front.new.bytes.items c.note-back.new.bytes.items c.note-back.ensures.extends
    c.note-front.result c.note-front.ensures.span

pub returns-clause-front : goal.returns-clause-front
returns-clause-front c =
    let xs = c.self.inside.bytes.items in
    let b = c.bounds-start in
    let whole : take b.result.1 (drop b.result.0 xs) ≡ label_in c.args.self.now.items c.args.span =
    ap (λ l. take b.result.1 (drop b.result.0 l)) (sym c.as_slice.ensures.value) ∙ b.ensures.label
    ∙ ap (λ l. label_in l c.args.span) (c.as_slice.ensures.value ∙ ap (λ s. s.items) c.self.view_is) in
    label_kept c.note-front.new.bytes.items c.note-back.new.bytes.items c.note-back.ensures.extends
    c.note-front.result c.note-front.ensures.span
    ∙ c.note-front.ensures.label
    ∙ part_front (drop b.result.0 xs) c.args.n b.result.1 c.min-n.result c.min-n.ensures
    ∙ ap (take c.args.n) whole

pub returns-clause-back : goal.returns-clause-back
returns-clause-back c =
    let xs = c.self.inside.bytes.items in
    let b = c.bounds-start in
    let whole : take b.result.1 (drop b.result.0 xs) ≡ label_in c.args.self.now.items c.args.span =
    ap (λ l. take b.result.1 (drop b.result.0 l)) (sym c.as_slice.ensures.value) ∙ b.ensures.label
    ∙ ap (λ l. label_in l c.args.span) (c.as_slice.ensures.value ∙ ap (λ s. s.items) c.self.view_is) in
    let within : b.result.0 + c.min-n.result + (b.result.1 - c.min-n.result) ≤ length xs =
    omega (arith, c.min-n.ensures, b.ensures.within, ap length c.as_slice.ensures.value) in
    c.note-back.ensures.label
    ∙ part_kept xs c.note-front.new.bytes.items (b.result.0 + c.min-n.result) (b.result.1 - c.min-n.result) c.note-front.ensures.extends within
    ∙ part_back xs b.result.0 c.args.n b.result.1 c.min-n.result c.min-n.ensures
    ∙ ap (drop c.args.n) whole

pub returns-clause-room : goal.returns-clause-room
returns-clause-room c =
    let b = c.bounds-start in
    let whole : len_in c.args.self.now.items c.args.span ≡ b.result.1 =
    sym (b.ensures.len ∙ ap (λ l. len_in l c.args.span) (c.as_slice.ensures.value ∙ ap (λ s. s.items) c.self.view_is)) in
    let front = note_less c.min-n.result b.result.1 (omega (arith, c.min-n.ensures)) in
    let back = note_less (b.result.1 - c.min-n.result) b.result.1 (omega arith) in
    rw whole (omega (
      arith,
      front,
      back,
      c.note-front.ensures.length,
      c.note-front.ensures.capacity,
      c.note-back.ensures.length,
      c.note-back.ensures.capacity,
      ap (λ s. s.room) c.self.view_is,
    ))
