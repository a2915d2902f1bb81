use Rattle.std.proofs.Common.{◌≡◌, ◌-◌, ◌≤◌, [], ◌∷◌, ◌++◌, Some, None, take, length, refl, sym, ap, ◌∙◌}
use Rattle.std.proofs.Common.{◌⊎◌, inl, inr}
use Rattle.std.specs.List.{slice_get}
use Rattle.std.specs.Option.{option_copied}
use Rattle.patricia_walks.specs.Internal.Fronts.{lent, seen}
use Rattle.patricia_walks.proofs.FrontLemmas.{pass_next, passed_next, stack_none}
use Rattle.patricia_walks.proofs.PassLemmas.{pass_last, ended_none, ended_below}
use Rattle.patricia_nodes.proofs.LoanLemmas.{some_of}
use Rattle.patricia_nodes.proofs.PlanLemmas.{not_some}
use Rattle.patricia_nodes.proofs.TrailLemmas.{last_split, last_none}
use Rattle.patricia_walks.proofs.walk.Traversal.skip.Goals.{else-self-len-via-then-self-len+else-is_some, else-self-len-via-else-self-len}
use Rattle.patricia_walks.proofs.walk.Traversal.skip.Goals as goal

pub loop-front-init : goal.loop-front-init
loop-front-init g c =
    let long : (c.args.self.now.progress.next ≡ None) ⊎ (c.args.len ≤ c.args.self.now.progress.front) = elim c.else-self-len.branch [
      | else-self-len-via-then-self-len+else-is_some w ↦ inl (sym w.get.ensures ∙ not_some w.get.result w.if-is_some.ensures)
      | else-self-len-via-else-self-len w ↦ inr w.if-self-len.false
    ] in
    record {
      passing = pass_next g.K.Bytes.item g.met.K.Bytes.lawful c.args.len _ _ c.requires.place refl refl refl refl c.none-self.ensures long;
      none = c.none-self.ensures;
      within = c.requires.place.within;
    }

pub returns-then-is_some-clause-passed : goal.returns-then-is_some-clause-passed
returns-then-is_some-clause-passed g c =
    let next = some_of c.get.result (sym c.if-is_some.ensures) in
    (passed_next g.K.Bytes.item g.met.K.Bytes.lawful c.args.len _ _ c.requires.place refl refl refl refl next.0 c.requires.valid c.requires.within c.if-self-len.true
    (sym c.get.ensures ∙ next.1) refl refl).1

pub returns-then-front-len-clause-passed : goal.returns-then-front-len-clause-passed
returns-then-front-len-clause-passed g c =
    let s = c.loop-front.self in
    let stack = s.progress.stack.items in
    let last : slice_get stack (length stack - 1) ≡ Some c.in-Some.field-0.now =
    ap (λ l. slice_get l (length l - 1)) (sym c.deref.ensures.value) ∙ sym c.last.ensures.value ∙ ap option_copied c.in-Some.is in
    ended_below g.K.Bytes.item g.met.K.Bytes.lawful c.args.len (seen (lent c.args.self.now)) (seen (lent s))
    (take (length stack - 1) stack) _ _ c.loop-front.invariant.passing c.requires.valid c.requires.within
    (stack_none s.progress.front s.progress.path.items s.progress.next stack c.loop-front.invariant.none ∙ last_split stack c.in-Some.field-0.now last)
    c.if-front-len.true

pub loop-front-preserved : goal.loop-front-preserved
loop-front-preserved g c =
    let s = c.loop-front.self in
    let stack = s.progress.stack.items in
    let last : slice_get stack (length stack - 1) ≡ Some c.in-Some.field-0.now =
    ap (λ l. slice_get l (length l - 1)) (sym c.deref.ensures.value) ∙ sym c.last.ensures.value ∙ ap option_copied c.in-Some.is in
    let left = c.pop.ensures.rest ∙ ap (λ n. take (n - 1) stack) c.loop-front.self.progress.stack.ok.0 in
    let none = c.loop-front.invariant.none in
    record {
      passing = pass_last g.K.Bytes.item g.met.K.Bytes.lawful c.args.len (seen (lent c.args.self.now)) (seen (lent s)) _ _ _
          c.loop-front.invariant.passing c.if-front-len.false
          (stack_none s.progress.front s.progress.path.items s.progress.next stack none ∙ last_split stack c.in-Some.field-0.now last
          ∙ ap (λ l. l ++ c.in-Some.field-0.now ∷ [])
          (sym left ∙ sym (stack_none s.progress.front s.progress.path.items s.progress.next c.pop.new.self.items none))) refl refl refl refl;
      none = none;
      within = c.loop-front.invariant.within;
    }

pub returns-clause-passed : goal.returns-clause-passed
returns-clause-passed g c =
    let s = c.loop-front.self in
    let stack = s.progress.stack.items in
    let none : slice_get stack (length stack - 1) ≡ None =
    ap (λ l. slice_get l (length l - 1)) (sym c.deref.ensures.value) ∙ sym c.last.ensures.value ∙ ap option_copied c.in_default.is in
    ended_none g.K.Bytes.item g.met.K.Bytes.lawful c.args.len (seen (lent c.args.self.now)) (seen (lent s))
    c.loop-front.invariant.passing (stack_none s.progress.front s.progress.path.items s.progress.next stack c.loop-front.invariant.none ∙ last_none stack none)
