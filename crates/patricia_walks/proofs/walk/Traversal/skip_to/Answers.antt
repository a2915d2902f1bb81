use Rattle.std.proofs.Common.{◌≡◌, refl, sym, ap, subst, ◌∙◌, arith, length}
use Rattle.patricia_walks.specs.Internal.Fronts.{FrontPosition, lent, seen}
use Rattle.patricia_walks.specs.Internal.Positions.{IsPosition}
use Rattle.patricia_walks.specs.Internal.Skips.{IsTowards, entries_ahead}
use Rattle.patricia_walks.proofs.FrontLemmas.{next_none, plain, seen_at_end}
use Rattle.patricia_walks.proofs.SkipLemmas.{towards_start, reached_end, reached_none}
use Rattle.patricia_walks.proofs.SkipLemmas.{value_towards, value_same, passed_value}
use Rattle.patricia_walks.proofs.walk.Traversal.skip_to.Goals as goal

pub loop-self-init : goal.loop-self-init
loop-self-init g c =
    let p = lent c.args.self.now in
    let front : p.front ≡ length p.path = omega (arith, c.requires.place.within, ap length c.requires.path) in
    let is = seen_at_end p front in
    record {
      towards = subst (IsTowards g.K.Bytes.item c.args.key.now) (sym is)
          (towards_start g.K.Bytes.item c.args.key.now (plain p)
          (subst (IsPosition g.K.Bytes.item) is c.requires.place.position) c.requires.path c.requires.stack);
      front = front;
      same = refl;
    }

pub returns-then-len-key-clause-left : goal.returns-then-len-key-clause-left
returns-then-len-key-clause-left g c =
    sym (reached_end g.K.Bytes.item c.args.key.now (seen (lent c.loop-self.self)) c.loop-self.invariant.towards (omega (arith, c.if-len-key.true, c.len.ensures, c.loop-self.self.progress.path.ok.0)))
    ∙ c.loop-self.invariant.same

pub returns-in_default-clause-left : goal.returns-in_default-clause-left
returns-in_default-clause-left g c =
    let p = seen (lent c.loop-self.self) in
    let w = c.loop-self.invariant.towards in
    sym (reached_none g.K.Bytes.item c.args.key.now (passed_value p) (value_towards g.K.Bytes.item c.args.key.now p w) refl
    (next_none c.loop-self.self.progress.front c.loop-self.self.progress.path.items c.loop-self.self.progress.next (sym c.get.ensures ∙ c.in_default.is)))
    ∙ value_same g.K.Bytes.item c.args.key.now p w (λ e. absurd (omega (arith, e, c.if-len-key.false, c.len.ensures, c.loop-self.self.progress.path.ok.0)))
    ∙ c.loop-self.invariant.same

pub returns-then-not-branch-clause-left : goal.returns-then-not-branch-clause-left
returns-then-not-branch-clause-left g c =
    let p = seen (lent c.loop-self.self) in
    let w = c.loop-self.invariant.towards in
    let over = c.in_ok-approach.ensures.over c.if-not-branch.true in
    ap (λ (x : FrontPosition g.row.V.Denot). entries_ahead (seen x)) over.0 ∙ sym over.1
    ∙ c.pass_run-id.ensures.passes.same
    ∙ value_same g.K.Bytes.item c.args.key.now p w (λ e. absurd (omega (arith, e, c.if-len-key.false, c.len.ensures, c.loop-self.self.progress.path.ok.0)))
    ∙ c.loop-self.invariant.same

pub loop-self-preserved : goal.loop-self-preserved
loop-self-preserved g c =
    let p = seen (lent c.loop-self.self) in
    let w = c.loop-self.invariant.towards in
    let step = c.in_ok-approach.ensures.step c.if-not-branch.false in
    record {
      towards = step.towards;
      front = c.in_ok-approach.ensures.front;
      same = step.same
          ∙ c.pass_run-id.ensures.passes.same
          ∙ value_same g.K.Bytes.item c.args.key.now p w (λ e. absurd (omega (arith, e, c.if-len-key.false, c.len.ensures, c.loop-self.self.progress.path.ok.0)))
          ∙ c.loop-self.invariant.same;
    }
