use Rattle.std.proofs.Common.{refl, arith}
use Rattle.std.proofs.lemmas.List.{nil_from_length}
use Rattle.patricia_codec.proofs.LeftLemmas.{ended, goes_back}
use Rattle.patricia_codec.proofs.records.Records.back.Goals as goal

pub returns-clause-step : goal.returns-clause-step
returns-clause-step g c = λ _.
    let p = c.args.self.now in
    let f = c.in-Some.waiting in
    goes_back g.K.Bytes.item g.met.K.Bytes.lawful p c.requires.over
    (record { arena = p.arena; level = f.0; next = f.1; skipped = 0; stack = c.pop.new.self })
    f.0 f.1 c.in-Some.ensures.items refl refl refl refl (omega (arith, c.in-Some.ensures.len))

pub returns-in_default-clause-over : goal.returns-in_default-clause-over
returns-in_default-clause-over g c = λ _ R a.
    ended g.K.Bytes.item g.met.K.Bytes.lawful c.args.self.now c.requires.over
    (nil_from_length c.args.self.now.stack.items
    (omega (arith, c.args.self.now.stack.ok.0, c.in_default.ensures.cases.0))) R a
