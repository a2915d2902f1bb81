use Rattle.std.proofs.Common.{◌++◌, ◌∷◌, [], sym, ap, ◌∙◌}
use Rattle.patricia_tree.specs.Ranges.{from}
use Rattle.patricia_c.specs.Cursors.{beyond}
use Rattle.patricia_c.proofs.CursorLemmas.{from_next}
use Rattle.patricia_c.proofs.blocks.start.Goals.{then-position+in_ok-push, else-position}
use Rattle.patricia_c.proofs.blocks.start.Goals as goal

pub returns : goal.returns
returns c entries =
    let key = c.args.position.now.key.items in
    let copy = c.in_ok-key.ensures.items ∙ c.as_slice.ensures.value in
    elim c.if-position.branch [
      | then-position+in_ok-push w ↦
          ap (λ k. from k.items entries) w.key-is ∙ ap (λ k. from k entries) (w.in_ok-push.ensures.items ∙ ap (λ k. k ++ 0 ∷ []) copy)
          ∙ from_next key entries ∙ ap (λ b. beyond b key entries) (sym w.if-position.true)
      | else-position w ↦
          ap (λ k. from k.items entries) w.key-is ∙ ap (λ k. from k entries) copy ∙ ap (λ b. beyond b key entries) (sym w.if-position.false)
    ]
