use Rattle.std.proofs.Common.{◌≢◌, [], refl, sym, subst, ◌∙◌}
use Rattle.patricia_model.proofs.WalkLemmas.{on_err}
use Rattle.patricia_walks.specs.Internal.Fronts.{lent}
use Rattle.patricia_walks.proofs.FrontLemmas.{front_filled, moves_back}
use Rattle.patricia_walks.proofs.walk.Traversal.seek.Goals as goal

pub returns-in_err-value-in-Some-get-clause-err :
    goal.returns-in_err-value-in-Some-get-clause-err
returns-in_err-value-in-Some-get-clause-err g c =
    on_err _
    (subst (λ l. l ≢ []) c.loop-id.invariant.same
    (front_filled g.K.Bytes.item g.met.K.Bytes.lawful (lent c.loop-id.self) c.in-Some-get.id
    c.loop-id.invariant.place c.loop-id.invariant.taken (sym c.get.ensures ∙ c.in-Some-get.is)))

pub loop-id-smaller : goal.loop-id-smaller
loop-id-smaller g c =
    (moves_back g.K.Bytes.item (lent c.loop-id.self)
    (lent (record {
      arena = c.loop-id.self.arena;
      progress = c.back.new.self;
      pending = c.loop-id.self.pending;
    })) c.back.new.self.front c.back.new.self.next c.loop-id.invariant.place
    c.loop-id.invariant.taken (sym c.get.ensures ∙ c.in-None.is)
    (c.back.ensures.step c.if-not-back.false) refl c.back.ensures.path c.loop-id.invariant.taken refl refl).less

pub loop-id-preserved : goal.loop-id-preserved
loop-id-preserved g c =
    let back = moves_back g.K.Bytes.item (lent c.loop-id.self)
    (lent (record {
      arena = c.loop-id.self.arena;
      progress = c.back.new.self;
      pending = c.loop-id.self.pending;
    })) c.back.new.self.front c.back.new.self.next c.loop-id.invariant.place
    c.loop-id.invariant.taken (sym c.get.ensures ∙ c.in-None.is)
    (c.back.ensures.step c.if-not-back.false) refl c.back.ensures.path c.loop-id.invariant.taken refl refl in
    record {
      place = back.place;
      taken = back.taken;
      same = sym back.left ∙ c.loop-id.invariant.same;
    }
