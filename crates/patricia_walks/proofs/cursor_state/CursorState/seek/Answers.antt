use Rattle.std.proofs.Common.{◌≢◌, [], refl, sym, subst, ◌∙◌}
use Rattle.patricia_model.proofs.WalkLemmas.{on_err}
use Rattle.patricia_nodes.proofs.PlanLemmas.{not_some}
use Rattle.patricia_walks.specs.Internal.CursorStates.{position_of}
use Rattle.patricia_walks.proofs.FrontLemmas.{front_filled, moves_back}
use Rattle.patricia_walks.proofs.cursor_state.CursorState.seek.Goals as goal

pub returns-in_err-descend-in-Some-clause-refused :
    goal.returns-in_err-descend-in-Some-clause-refused
returns-in_err-descend-in-Some-clause-refused g c =
    on_err _
    (subst (λ l. l ≢ []) c.loop-id.invariant.left
    (front_filled g.K.Bytes.item g.met.K.Bytes.lawful (position_of c.loop-id.self) c.in-Some.id
    c.loop-id.invariant.position (not_some c.loop-id.self.pending c.if-is_some.ensures)
    (sym c.get.ensures ∙ c.in-Some.is)))

pub loop-id-smaller : goal.loop-id-smaller
loop-id-smaller g c =
    (moves_back g.K.Bytes.item (position_of c.loop-id.self)
    (position_of (record {
      tree = c.loop-id.self.tree;
      progress = c.back.new.self;
      pending = c.loop-id.self.pending;
    })) c.back.new.self.front c.back.new.self.next c.loop-id.invariant.position
    (not_some c.loop-id.self.pending c.if-is_some.ensures) (sym c.get.ensures ∙ c.in-None.is)
    (c.back.ensures.step c.if-not-back.false) refl c.back.ensures.path (not_some c.loop-id.self.pending c.if-is_some.ensures) refl refl).less

pub loop-id-preserved : goal.loop-id-preserved
loop-id-preserved g c =
    let back = moves_back g.K.Bytes.item (position_of c.loop-id.self)
    (position_of (record {
      tree = c.loop-id.self.tree;
      progress = c.back.new.self;
      pending = c.loop-id.self.pending;
    })) c.back.new.self.front c.back.new.self.next c.loop-id.invariant.position
    (not_some c.loop-id.self.pending c.if-is_some.ensures) (sym c.get.ensures ∙ c.in-None.is)
    (c.back.ensures.step c.if-not-back.false) refl c.back.ensures.path (not_some c.loop-id.self.pending c.if-is_some.ensures) refl refl in
    record {
      position = back.place;
      left = sym back.left ∙ c.loop-id.invariant.left;
      tree = c.loop-id.invariant.tree;
      last = c.loop-id.invariant.last;
    }
