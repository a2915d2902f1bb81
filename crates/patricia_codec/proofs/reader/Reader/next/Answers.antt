use Rattle.std.proofs.Common.{length, refl, arith, sym, ap, ◌∙◌, append-nil}
use Rattle.std.proofs.lemmas.List.{nil_from_length}
use Rattle.patricia_wire.specs.Records.{Record}
use Rattle.patricia_codec.specs.Internal.Steps.{ReadIsRefused}
use Rattle.patricia_codec.proofs.CheckLemmas.{handed_on}
use Rattle.patricia_codec.proofs.ReaderLemmas.{ended, after_next, refused_cut, refused_record}
use Rattle.patricia_codec.proofs.ReaderLemmas.{went_on}
use Rattle.patricia_codec.proofs.reader.Reader.next.Goals as goal

pub returns-in_default-clause-ok : goal.returns-in_default-clause-ok
returns-in_default-clause-ok g c =
    let popped = c.in_default.ensures in
    let none = nil_from_length c.args.self.now.due.items (omega (arith, c.args.self.now.due.ok.0, popped.cases.0)) in
    ended g.K.Bytes.item g.W.Width.width c.args.self.now _ refl refl none (sym (append-nil _) ∙ sym popped.items ∙ none)

pub returns-in_default-read-clause-refused : goal.returns-in_default-read-clause-refused
returns-in_default-read-clause-refused g c n before due reading count =
    refused_cut g.K.Bytes.item g.W.Width.width c.args.self.now c.in-Some.due c.pop.new.self.items
    c.in-Some.ensures.items n before due reading (c.read.ensures.none c.in_default-read.is)

pub check-requires : goal.check-requires
check-requires g c = record {
  after = after_next g.K.Bytes.item g.W.Width.width c.args.self.now c.in-Some.due c.pop.new.self.items
      c.in-Some.ensures.items c.requires.n c.requires.before c.requires.due c.requires.reading;
}

pub returns-in_err-check-clause-refused : goal.returns-in_err-check-clause-refused
returns-in_err-check-clause-refused g c =
    handed_on (λ e. ReadIsRefused g.K.Bytes.item g.W.Width.width c.args.left c.args.self.now e) c.from_residual.result c.in_err-check.field-0.0 c.from_residual.ensures.1
    (λ n before due reading count. refused_record g.K.Bytes.item g.W.Width.width c.args.self.now c.in-Some.due
    c.pop.new.self.items c.in-Some.ensures.items n before due reading c.args.left count
    c.in-Some-read.record c.in-Some-read.ensures.some c.in_err-check.field-0.0
    c.in_err-check.ensures.broken)

pub returns-clause-ok : goal.returns-clause-ok
returns-clause-ok g c =
    let r = c.in-Some-read.record in
    let front = c.in-Some-read.ensures.some in
    let o = c.in_ok-expect.ensures in
    let f = c.expect.ensures in
    record {
      further = omega (arith, f.offset, c.head.ensures.bytes);
      fits = front.spelled.room.label;
      reading = λ n before due reading count. went_on g.K.Bytes.item g.W.Width.width c.args.self.now c.in-Some.due
          c.pop.new.self.items c.in-Some.ensures.items n before due reading c.expect.new.self
          c.args.left r front count c.in_ok-check.ensures.kept (ap (λ b. b.now) f.bytes)
          (omega (arith, f.offset, c.head.ensures.bytes, ap (λ (r : Record). length r.label) c.record.view_is)) o.due;
    }
