use Rattle.std.proofs.Common.{◌≡◌, ◌++◌, drop, map as list_map}
use Rattle.std.specs.List.{concat}
use Rattle.prefixes_core.proofs.drawing.writing.joined.Given as goal

-- what is joined, and then the labels that are left
abbrev pub invariant-loop-label : goal.invariant-loop-label
invariant-loop-label l =
    l.name.items ++ concat (list_map (λ label. label.now) (drop l.label-index l.way))
    ≡ concat (list_map (λ label. label.now) l.way)
