use Rattle.std.proofs.Common.{◌≡◌, [], ◌∷◌, ◌++◌, drop, string_bytes}
use Rattle.std.specs.Fmt.{decimal}
use Rattle.std.specs.List.{flat_map}
use Rattle.prefixes_core.specs.Answers.{fields_line}
use Rattle.prefixes_core.proofs.answering.writing.push_near_names.Given as goal

-- what is written, and then the lines of the names that are left
abbrev pub invariant-loop-near : goal.invariant-loop-near
invariant-loop-near l =
    l.out.items ++ flat_map
    (λ near. fields_line l.end ([] ∷ string_bytes near.name ∷ decimal near.edits ∷ []))
    (drop l.near-index l.found)
    ≡ l.fn.out.items ++ flat_map
    (λ near. fields_line l.end ([] ∷ string_bytes near.name ∷ decimal near.edits ∷ [])) l.found
