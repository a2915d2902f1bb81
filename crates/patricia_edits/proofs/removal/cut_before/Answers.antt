use Rattle.std.proofs.Common.{◌≡◌, ◌-◌, [], ◌∷◌, ◌++◌, Some, None, take, length, refl, sym, ap, ◌∙◌}
use Rattle.std.specs.List.{slice_get}
use Rattle.std.specs.Option.{option_copied}
use Rattle.patricia_nodes.proofs.TrailLemmas.{last_split, last_none, cut_more}
use Rattle.patricia_edits.proofs.AlongLemmas.{cut_short, cut_none}
use Rattle.patricia_edits.proofs.removal.cut_before.Goals as goal

pub loop-end-init : goal.loop-end-init
loop-end-init c = ([], refl)

pub returns-then-end-len : goal.returns-then-end-len
returns-then-end-len c =
    let now = c.loop-end.trail.items in
    let last : slice_get now (length now - 1) ≡ Some c.in-Some.field-0.now =
    ap (λ l. slice_get l (length l - 1)) (sym c.deref.ensures.value) ∙ sym c.last.ensures.value ∙ ap option_copied c.in-Some.is in
    cut_short c.args.trail.now.items now (take (length now - 1) now) c.in-Some.field-0.now c.args.len
    c.loop-end.invariant (last_split now c.in-Some.field-0.now last) c.if-end-len.true

pub loop-end-preserved : goal.loop-end-preserved
loop-end-preserved c =
    let now = c.loop-end.trail.items in
    let last : slice_get now (length now - 1) ≡ Some c.in-Some.field-0.now =
    ap (λ l. slice_get l (length l - 1)) (sym c.deref.ensures.value) ∙ sym c.last.ensures.value ∙ ap option_copied c.in-Some.is in
    let left = c.pop.ensures.rest ∙ ap (λ n. take (n - 1) now) c.loop-end.trail.ok.0 in
    cut_more c.args.trail.now.items now c.pop.new.self.items c.in-Some.field-0.now c.loop-end.invariant
    (last_split now c.in-Some.field-0.now last ∙ ap (λ l. l ++ c.in-Some.field-0.now ∷ []) (sym left))

pub returns : goal.returns
returns c =
    let now = c.loop-end.trail.items in
    let none : slice_get now (length now - 1) ≡ None =
    ap (λ l. slice_get l (length l - 1)) (sym c.deref.ensures.value) ∙ sym c.last.ensures.value ∙ ap option_copied c.in_default.is in
    cut_none c.args.trail.now.items now c.args.len c.loop-end.invariant (last_none now none)
